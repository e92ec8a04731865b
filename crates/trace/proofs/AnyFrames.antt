-- The sums over a list of any frames.
-- Assumes nothing.
use Rattle.std.proofs.Common.{◌≡◌, ℕ, suc, ◌+◌, ◌*◌, ◌/◌, ◌%◌, ◌<◌, ◌≤◌, Bool, true, false, cond, eqb, ltb, List, [], ◌∷◌, ◌++◌, map, length, sym, refl, ap, ◌∙◌, append_assoc, arith, length-append, take_all, ltb-false, ltb-true, lt-ltb, le-leb}
use mathlib.Core.Option.{Option, none, some}
use borrow.Author.Tests.{eqb-false}
use Rattle.answers.proofs.Checks.{both_hold}
use Rattle.wire.specs.Wire.{joined}
use Rattle.wire.specs.Fits.{All}
use Rattle.reader.specs.Frame.{read_frame, payload_of}
use Rattle.trace_line.specs.Line.{newline, value_of, is_digit, all_digits, bytes_of, frame_of}
use Rattle.trace_line.proofs.Digits.{in_digits, in_lower, no_newline}
use Rattle.trace_text.specs.Verdict.{answer, payload}
use Rattle.trace_text.specs.Text.{heading, sums_text}
use Rattle.trace_text.proofs.Verdicts.{payload_most, refused_none}
use Rattle.trace.specs.Report.{lines_of, numbered, sum_over, is_accepted, is_refused, is_bad, payload_in, sums_of, max_lines, report_on, report}
use Rattle.trace.specs.Frames.{hex_digit, hex_line, trace_of, FitsLine, AnyFrames, CountedOnce}

-- A digit that was written is read back.
digit_back : (n : ℕ) → n < 16 → value_of (hex_digit n) ≡ n
digit_back n h = by_test (ltb n 10) refl
  where
    by_test : (q : Bool) → ltb n 10 ≡ q → value_of (cond q (48 + n) (87 + n)) ≡ n
    by_test true e = let g = ltb-true n 10 e in omega (arith, in_digits (48 + n) (omega arith) (omega arith))
    by_test false e = let g = ltb-false n 10 e in omega (arith, in_lower (87 + n) (omega arith) (omega arith))

module _ (b : ℕ) (h : b < 256) where
  high_back : value_of (hex_digit (b / 16)) ≡ b / 16
  high_back = digit_back (b / 16) (omega arith)

  low_back : value_of (hex_digit (b % 16)) ≡ b % 16
  low_back = digit_back (b % 16) (omega arith)

line_digits : (f : List ℕ) → All (λ b. b < 256) f → all_digits (hex_line f) ≡ true
unfolding hex_line all_digits All
line_digits [] h = refl
line_digits (b ∷ f) h =
    let g = h.0 in
    rw (high_back b g, low_back b g, lt-ltb (b / 16) 16 (omega arith), lt-ltb (b % 16) 16 (omega arith)) (line_digits f h.1)

line_bytes : (f : List ℕ) → All (λ b. b < 256) f → bytes_of (hex_line f) ≡ f
unfolding hex_line bytes_of All
line_bytes [] h = refl
line_bytes (b ∷ f) h =
    let g = h.0 in
    let z : b / 16 * 16 + b % 16 ≡ b = omega arith in
    rw (high_back b g, low_back b g, z, line_bytes f h.1)

line_length_lem : (f : List ℕ) → length (hex_line f) ≡ 2 * length f
unfolding hex_line
line_length_lem [] = refl
line_length_lem (b ∷ f) = let z = line_length_lem f in omega arith

frame_back : (f : List ℕ) → FitsLine f → frame_of (hex_line f) ≡ some f
unfolding frame_of
frame_back f h =
    let n = line_length_lem f in
    let even : length (hex_line f) % 2 ≡ 0 = omega arith in
    let few : length (hex_line f) ≤ 8_192 = let g = h.1 in omega arith in
    rw (line_digits f h.0, even, le-leb (length (hex_line f)) 8_192 few, line_bytes f h.0)

-- Digits and a newline are a line.
lines_digits : (l s : List ℕ) → all_digits l ≡ true → lines_of (l ++ (newline ∷ s)) ≡ l ∷ lines_of s
unfolding lines_of all_digits
lines_digits [] s h = refl
lines_digits (b ∷ l) s h =
    let z = both_hold (is_digit b) (all_digits l) h in
    rw (no_newline b z.0, lines_digits l s z.1)

lines_trace : (fs : List (List ℕ)) → All FitsLine fs → lines_of (trace_of fs) ≡ map hex_line fs
unfolding trace_of joined lines_of All
lines_trace [] h = refl
lines_trace (f ∷ fs) h =
    ap lines_of (append_assoc (hex_line f) (newline ∷ []) (trace_of fs))
    ∙ lines_digits (hex_line f) (trace_of fs) (line_digits f h.0.0)
    ∙ ap (λ (x : List (List ℕ)). hex_line f ∷ x) (lines_trace fs h.1)

frames_back : (fs : List (List ℕ)) → All FitsLine fs → map frame_of (map hex_line fs) ≡ map some fs
unfolding All
frames_back [] h = refl
frames_back (f ∷ fs) h = rw (frame_back f h.0, frames_back fs h.1)

some_length : (fs : List (List ℕ)) → length (map some fs) ≡ length fs
some_length [] = refl
some_length (f ∷ fs) = ap suc (some_length fs)

reported_text : (fs : List (List ℕ)) → All FitsLine fs → length fs ≤ max_lines → report (trace_of fs) ≡ heading ++ (numbered 1 (map some fs) ++ sums_text (sums_of (map some fs)))
unfolding report report_on
reported_text fs h n =
    let m : length (map some fs) ≤ max_lines = rw (some_length fs) n in
    rw (lines_trace fs h, frames_back fs h, take_all max_lines (map some fs) m, le-leb (length (map some fs)) max_lines m)

pub counted_once : CountedOnce
unfolding CountedOnce sum_over
counted_once [] = refl
counted_once (f ∷ fs) = by_frame f (counted_once fs)
  where
    by_frame : (f : Option (List ℕ)) → sum_over is_accepted fs + sum_over is_refused fs + sum_over is_bad fs ≡ length fs
        → is_accepted f + sum_over is_accepted fs + (is_refused f + sum_over is_refused fs) + (is_bad f + sum_over is_bad fs) ≡ suc (length fs)
    by_frame none e = omega arith
    by_frame (some f) e = by_answer (eqb (answer f) 0)
      where
        by_answer : (q : Bool) → cond q 1 0 + sum_over is_accepted fs + (cond q 0 1 + sum_over is_refused fs) + (0 + sum_over is_bad fs) ≡ suc (length fs)
        by_answer true = omega arith
        by_answer false = omega arith

none_bad : (fs : List (List ℕ)) → sum_over is_bad (map some fs) ≡ 0
unfolding sum_over
none_bad [] = refl
none_bad (f ∷ fs) = let z = none_bad fs in omega arith

paid : (q : Bool) (n : ℕ) → cond q n 0 ≤ n
paid true n = omega arith
paid false n = omega arith

payload_few : (fs : List (List ℕ)) → All FitsLine fs → sum_over payload_in (map some fs) ≤ 4_096 * length fs
unfolding sum_over All
payload_few [] h = omega arith
payload_few (f ∷ fs) h =
    let z = payload_few fs h.1 in
    let g = h.0.1 in
    omega (arith, payload_most f, paid (eqb (answer f) 0) (payload f))

-- What an accepted frame adds is its payload, and a refused one has none.
payload_of_lem : (f : List ℕ) → cond (eqb (answer f) 0) (payload f) 0 ≡ length (payload_of (read_frame f))
unfolding payload
payload_of_lem f = by_test (eqb (answer f) 0) refl
  where
    by_test : (q : Bool) → eqb (answer f) 0 ≡ q → cond q (length (payload_of (read_frame f))) 0 ≡ length (payload_of (read_frame f))
    by_test true e = refl
    by_test false e = sym (refused_none f (eqb-false (answer f) 0 e))

payload_all : (fs : List (List ℕ)) → sum_over payload_in (map some fs) ≡ length (joined (λ f. payload_of (read_frame f)) fs)
unfolding sum_over joined
payload_all [] = refl
payload_all (f ∷ fs) = let z = payload_all fs in rw length-append (omega (arith, payload_of_lem f))

pub any_frames : AnyFrames
unfolding AnyFrames CountedOnce
any_frames fs h n =
    record {
      text = reported_text fs h n;
      once = let z = counted_once (map some fs) in omega (arith, none_bad fs, some_length fs);
      none_bad = none_bad fs;
      payload = payload_all fs;
      few = payload_few fs h;
    }
