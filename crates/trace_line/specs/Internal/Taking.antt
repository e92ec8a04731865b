-- What the functions that decode a part of a line answer.
use Rattle.std.specs.Prelude.{ℕ, suc, ◌+◌, ◌*◌, ◌≤◌, ◌<◌, ◌≡◌, true, cond, List, [], ◌∷◌, ◌++◌, length, take, drop, get_or, eqb, Option, Some, None}
use Rattle.trace_line.specs.Line.{newline, value_of, is_digit, all_digits, bytes_of, next_line, next_frame}
use Rattle.trace_line.specs.declared.Line.{Line}
use Rattle.trace_line.specs.declared.Part.{Part}

-- The value of a character in the table: what a digit stands for, and for another character 63, more than four digits together.
unfoldable pub table_value : ℕ → ℕ
table_value b = cond (is_digit b) (value_of b) 63

-- The digit that a character is, if it is one.
unfoldable pub digit_of : ℕ → Option ℕ
digit_of b = cond (is_digit b) (Some (value_of b)) None

-- A table that has the value of each of the first n characters.
abbrev pub Values : ℕ → List ℕ → Type 0
Values n table = (b : ℕ) → b < n → get_or table b 0 ≡ table_value b

-- How many bytes stand before the first newline.
unfoldable pub line_length : List ℕ → ℕ
line_length [] = 0
line_length (b ∷ s) = cond (eqb b newline) 0 (suc (line_length s))

-- The line and the frame buffer with the bytes of s, none of which is a newline.
unfoldable pub line_after : Line → List ℕ → Line
line_after line [] = line
line_after line (b ∷ s) = line_after (next_line line b) s

unfoldable pub frame_after : Line → List ℕ → List ℕ → List ℕ
frame_after line frame [] = frame
frame_after line frame (b ∷ s) = frame_after (next_line line b) (next_frame line frame b) s

-- The first bytes of a text, none of which is a newline, were taken.
pub record Takes (line : Line) (text frame : List ℕ) (part : Part) (after : List ℕ) : Type 0 where
  pub there : part.used ≤ length text
  pub before_newline : line_length text ≡ part.used + line_length (drop part.used text)
  pub line_is : part.line ≡ line_after line (take part.used text)
  pub frame_is : after ≡ frame_after line frame (take part.used text)

-- Pairs of digits at the front of a text, decoded into a buffer as far as there are pairs and room: n of them.
pub record Pairs (text frame : List ℕ) (n : ℕ) (after : List ℕ) : Type 0 where
  pub there : 2 * n ≤ length text
  pub room : n ≤ length frame
  pub digits : all_digits (take (2 * n) text) ≡ true
  pub bytes : after ≡ bytes_of (take (2 * n) text) ++ drop n frame
