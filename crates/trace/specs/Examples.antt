-- Inputs with their reports (document 02, order 8), and the borders of its limits, written out once more: a limit that is wrong in a definition and in the code alike would not pass here.
use Rattle.std.specs.Prelude.{◌≡◌, ℕ, ◌%◌, ◌<◌, ◌≤◌, true, false, List, [], ◌∷◌, ◌++◌, map, length, take}
use Prim.Native.String.{String}
use Rattle.std.proofs.Math.Option.{none, some}
use Rattle.wire.specs.Fits.{All}
use Rattle.trace_line.specs.Line.{all_digits, bytes_of, frame_of}
use Rattle.trace_text.specs.Text.{ascii, heading, sums_text, too_long}
use Rattle.trace.specs.Report.{lines_of, numbered, sums_of, max_lines, report}

pub record Case : Type 0 where
  pub input : String
  pub output : String

-- "Input of C2's and C3's frames gives exactly, with one newline after each line: `frame answer payload reply`, `1 0 0 none`, `2 2 0 vers`, `accepted 1 refused 1 bad 0 payload 0`."
abbrev pub the_example : Case
the_example =
    record {
      input = "0000002a000000010000002000000000000000000000000000000000\n0000002a000000020000002000000000000000000000000000000000\n";
      output = "frame answer payload reply\n1 0 0 none\n2 2 0 vers\naccepted 1 refused 1 bad 0 payload 0\n";
    }

-- "Bytes behind the last newline are a line if there are any": none here.
abbrev pub no_line : Case
no_line = record { input = ""; output = "frame answer payload reply\naccepted 0 refused 0 bad 0 payload 0\n" }

-- "An empty line is an empty frame."
abbrev pub empty_line : Case
empty_line = record { input = "\n"; output = "frame answer payload reply\n1 1 0 none\naccepted 0 refused 1 bad 0 payload 0\n" }

-- C2 in upper case with the payload dead, without a newline behind it, is a line: "either case".
abbrev pub last_line : Case
last_line =
    record {
      input = "\n0000002A000000010000002000000000000000000000000000000000DeAD";
      output = "frame answer payload reply\n1 1 0 none\n2 0 2 none\naccepted 1 refused 1 bad 0 payload 2\n";
    }

-- "A line with an odd number of digits, another character, .. is `bad`": a digit alone, a carriage return, and the neighbours of the digits in ASCII. A line behind them is read anew.
abbrev pub bad_lines : Case
bad_lines =
    record {
      input = "1\n00\r\n/0\n:0\n@0\nG0\n`0\ng0\n 0\nff\n";
      output = "frame answer payload reply\n1 bad\n2 bad\n3 bad\n4 bad\n5 bad\n6 bad\n7 bad\n8 bad\n9 bad\n10 1 0 none\naccepted 0 refused 1 bad 9 payload 0\n";
    }

-- Version 2 with procedure 4: "no reply .. for a frame .. with procedure 4". "A chunk reply shows as `chunk`": C2 without its last byte, refused with 5; procedure 3, refused with 4, gets none; C2 with its fifth word 2.
abbrev pub replies : Case
replies =
    record {
      input = "0000002a000000020000002000000004000000010000000100000001\n0000002a0000000100000020000000000000000000000000000000\n0000002a00000001000000200000000300000000\n0000002a000000010000002000000000000000020000000000000000\n";
      output = "frame answer payload reply\n1 2 0 none\n2 5 0 chunk\n3 4 0 none\n4 6 0 chunk\naccepted 0 refused 4 bad 0 payload 0\n";
    }

-- What each digit stands for, the high half of a byte first: the words 01234567, 89abcdef and 89ABCDEF.
abbrev pub digit_bytes : List ℕ
digit_bytes = 1 ∷ 35 ∷ 69 ∷ 103 ∷ 137 ∷ 171 ∷ 205 ∷ 239 ∷ 137 ∷ 171 ∷ 205 ∷ 239 ∷ []

-- "`too long`" and a newline.
abbrev pub too_long_bytes : List ℕ
too_long_bytes = 116 ∷ 111 ∷ 111 ∷ 32 ∷ 108 ∷ 111 ∷ 110 ∷ 103 ∷ 10 ∷ []

unfoldable pub Examples : Type 0
Examples =
    All (λ c. report (ascii c.input) ≡ ascii c.output) (the_example ∷ no_line ∷ empty_line ∷ last_line ∷ bad_lines ∷ replies ∷ [])
    × (frame_of (ascii "0123456789abcdef89ABCDEF") ≡ some digit_bytes) × (too_long ≡ too_long_bytes)

-- "above 8,192 digits is `bad`"
pub record DigitLimit (l : List ℕ) : Type 0 where
  pub fine : all_digits l ≡ true → length l % 2 ≡ 0 → length l ≤ 8_192 → frame_of l ≡ some (bytes_of l)
  pub odd : length l % 2 ≡ 1 → frame_of l ≡ none
  pub other : all_digits l ≡ false → frame_of l ≡ none
  pub long : 8_192 < length l → frame_of l ≡ none

-- "inputs have at most 1,000,000 lines and the program stops with `too long` in place of the sums when another begins"
pub record LineLimit (s : List ℕ) : Type 0 where
  pub fine : length (lines_of s) ≤ 1_000_000 → report s ≡ heading ++ (numbered 1 (map frame_of (lines_of s)) ++ sums_text (sums_of (map frame_of (lines_of s))))
  pub long : 1_000_000 < length (lines_of s) → report s ≡ heading ++ (numbered 1 (take max_lines (map frame_of (lines_of s))) ++ too_long)
