-- A line of a trace (document 02, order 8): "lines of hexadecimal, one frame a line, either case".
use Rattle.std.specs.Prelude.{ℕ, ◌+◌, ◌-◌, ◌*◌, ◌/◌, ◌%◌, Bool, true, false, cond, ◌&&◌, List, [], ◌∷◌, length, take, get_or, set, leb, ltb, eqb}
use Rattle.std.proofs.Math.Option.{Option, none, some}
use Rattle.trace_line.specs.declared.Line.{Line}
use Rattle.trace_line.specs.declared.Line.TheVariants.{Digits, Bad}

-- "above 8,192 digits"
abbrev pub max_digits : ℕ
max_digits = 8_192

-- "behind the last newline": the byte that ends a line.
abbrev pub newline : ℕ
newline = 10

-- Whether b is one of the bytes from a to z.
abbrev pub between : ℕ → ℕ → ℕ → Bool
between a z b = leb a b && leb b z

-- What a digit stands for, "either case": 0 to 9, A to F, a to f; 16 for "another character".
unfoldable pub value_of : ℕ → ℕ
value_of b =
    cond (between 48 57 b) (b - 48)
    (cond (between 65 70 b) (b - 55)
    (cond (between 97 102 b) (b - 87)
    16))

-- Whether a byte is a digit, and no "other character".
abbrev pub is_digit : ℕ → Bool
is_digit b = ltb (value_of b) 16

-- Whether a line has no "other character".
unfoldable pub all_digits : List ℕ → Bool
all_digits [] = true
all_digits (b ∷ rest) = is_digit b && all_digits rest

-- The bytes of a frame: two digits each, the high half first. (A digit alone is left out; such a line is bad.)
unfoldable pub bytes_of : List ℕ → List ℕ
bytes_of [] = []
bytes_of (high ∷ []) = []
bytes_of (high ∷ low ∷ rest) = (value_of high * 16 + value_of low) ∷ bytes_of rest

-- "A line with an odd number of digits, another character, or above 8,192 digits is `bad`": none. "An empty line is an empty frame."
unfoldable pub frame_of : List ℕ → Option (List ℕ)
frame_of line =
    cond (eqb (length line % 2) 0 && (all_digits line && leb (length line) max_digits)) (some (bytes_of line)) none

-- From here on: a line that is decoded while it comes, by how many digits of it are in the frame buffer, or that it is bad. That both ways agree is `proofs/Decoded: decoded`.

-- The line with one byte more, which is no newline.
unfoldable pub next_line : Line → ℕ → Line
next_line Bad b = Bad
next_line (Digits n) b = cond (is_digit b && ltb n max_digits) (Digits (n + 1)) Bad

-- The frame buffer with digit n: it goes to the high half of its byte, or to the low half beside the high one.
unfoldable pub with_digit : ℕ → ℕ → List ℕ → List ℕ
with_digit n value frame =
    cond (eqb (n % 2) 0) (set frame (n / 2) (value * 16))
    (set frame (n / 2) (get_or frame (n / 2) 0 / 16 * 16 + value))

-- The frame buffer with that byte.
unfoldable pub next_frame : Line → List ℕ → ℕ → List ℕ
next_frame Bad frame b = frame
next_frame (Digits n) frame b = cond (is_digit b && ltb n max_digits) (with_digit n (value_of b) frame) frame

-- The frame of a line that ended there; none where it is bad.
unfoldable pub frame_in : Line → List ℕ → Option (List ℕ)
frame_in Bad frame = none
frame_in (Digits n) frame = cond (eqb (n % 2) 0 && leb n max_digits) (some (take (n / 2) frame)) none

-- Whether any byte of the line was read.
unfoldable pub is_begun : Line → Bool
is_begun Bad = true
is_begun (Digits n) = cond (eqb n 0) false true
