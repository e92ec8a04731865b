-- The report on a trace (document 02, order 8), as a function of the whole input.
use Rattle.std.specs.Prelude.{ℕ, suc, ◌+◌, cond, List, [], ◌∷◌, ◌++◌, map, length, take, ◌==◌, nat_le}
use Rattle.std.proofs.Math.Option.{Option, none, some}
use Rattle.trace_line.specs.Line.{newline, frame_of}
use Rattle.trace_text.specs.Verdict.{answer, payload, verdict_of}
use Rattle.trace_text.specs.Text.{heading, verdict_text, bad_text, sums_text, too_long}
use Rattle.trace_text.specs.declared.Sums.{Sums}

-- A byte before the first of some lines; a line of its own where there are none.
abbrev pub begins : ℕ → List (List ℕ) → List (List ℕ)
begins b [] = (b ∷ []) ∷ []
begins b (line ∷ lines) = (b ∷ line) ∷ lines

-- "Bytes behind the last newline are a line if there are any."
unfoldable pub lines_of : List ℕ → List (List ℕ)
lines_of [] = []
lines_of (b ∷ s) = cond (b == newline) ([] ∷ lines_of s) (begins b (lines_of s))

-- The report's line for a frame, `none` where the line is bad: "`1 0 0 none`"; "a bad line as its frame number and `bad`".
unfoldable pub line_text : ℕ → Option (List ℕ) → List ℕ
line_text number none = bad_text number
line_text number (some frame) = verdict_text number (verdict_of frame)

-- A line for each frame, numbered from `number` on.
unfoldable pub numbered : ℕ → List (Option (List ℕ)) → List ℕ
numbered number [] = []
numbered number (f ∷ fs) = line_text number f ++ numbered (suc number) fs

-- "The last line's sums count all frames": what a frame counts for, if its number is 0.
abbrev pub is_accepted : Option (List ℕ) → ℕ
is_accepted none = 0
is_accepted (some frame) = cond (answer frame == 0) 1 0

-- "count all frames": those that are not accepted, too.
abbrev pub is_refused : Option (List ℕ) → ℕ
is_refused none = 0
is_refused (some frame) = cond (answer frame == 0) 0 1

-- "a bad line only as bad"
abbrev pub is_bad : Option (List ℕ) → ℕ
is_bad none = 1
is_bad (some frame) = 0

-- "accepted payload bytes"
abbrev pub payload_in : Option (List ℕ) → ℕ
payload_in none = 0
payload_in (some frame) = cond (answer frame == 0) (payload frame) 0

-- What f gives, summed over a list.
unfoldable pub sum_over : {A : Type 0} → (A → ℕ) → List A → ℕ
sum_over f [] = 0
sum_over f (x ∷ xs) = f x + sum_over f xs

abbrev pub sums_of : List (Option (List ℕ)) → Sums
sums_of fs =
    record { lines = length fs; accepted = sum_over is_accepted fs; refused = sum_over is_refused fs; bad = sum_over is_bad fs; payload = sum_over payload_in fs }

-- "inputs have at most 1,000,000 lines"
unfoldable pub max_lines : ℕ
max_lines = 1_000_000

-- "stops with `too long` in place of the sums when another begins"
unfoldable pub report_on : List (Option (List ℕ)) → List ℕ
report_on fs =
    heading ++ (numbered 1 (take max_lines fs) ++ cond (nat_le (length fs) max_lines) (sums_text (sums_of fs)) too_long)

-- "A program reads them from standard input, reads each frame .., and writes a report."
unfoldable pub report : List ℕ → List ℕ
report s = report_on (map frame_of (lines_of s))
