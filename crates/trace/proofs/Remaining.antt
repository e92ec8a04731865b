-- What a report still holds behind the lines that were reported.
-- Assumes nothing.
use Rattle.std.proofs.Common.{◌≡◌, ℕ, suc, ◌+◌, ◌-◌, ◌<◌, ◌≤◌, Bool, true, false, cond, eqb, leb, List, [], ◌∷◌, ◌++◌, map, length, take, refl, ap, append_assoc, append-nil, add-zero, zero-add, add-one, arith, length-append, le-leb}
use mathlib.Core.Option.{Option}
use borrow.Author.Tests.{lt-leb}
use lib.ListN.{length-map}
use lib.Seq.{take-nil}
use Rattle.trace_line.specs.Line.{newline, frame_of}
use Rattle.trace_text.specs.Text.{heading, sums_text, too_long}
use Rattle.trace.specs.Report.{begins, lines_of, line_text, numbered, sums_of, max_lines, report_on, report}

-- Behind frames fs: a line for each of the lines, and the sums over all, or `too long`.
unfoldable pub remaining : List (Option (List ℕ)) → List (List ℕ) → List ℕ
remaining fs lines =
    numbered (length fs + 1) (take (max_lines - length fs) (map frame_of lines)) ++ cond (leb (length fs + length lines) max_lines) (sums_text (sums_of (fs ++ map frame_of lines))) too_long

pub report_remaining : (s : List ℕ) → report s ≡ heading ++ remaining [] (lines_of s)
unfolding report report_on remaining
report_remaining s =
    let z : max_lines - 0 ≡ max_lines = omega arith in
    let all : length {A = Option (List ℕ)} [] + length (lines_of s) ≡ length (lines_of s) = zero-add (length (lines_of s)) in
    rw (length-map, all, z)

pub remaining_end : (fs : List (Option (List ℕ))) → length fs ≤ max_lines → remaining fs [] ≡ sums_text (sums_of fs)
unfolding remaining numbered
remaining_end fs h = rw (take-nil (max_lines - length fs), add-zero, le-leb (length fs) max_lines h, append-nil fs)

pub remaining_line : (fs : List (Option (List ℕ))) (l : List ℕ) (lines : List (List ℕ)) → length fs < max_lines
    → remaining fs (l ∷ lines) ≡ line_text (length fs + 1) (frame_of l) ++ remaining (fs ++ (frame_of l ∷ [])) lines
unfolding remaining numbered
remaining_line fs l lines h =
    let room : max_lines - length fs ≡ suc (max_lines - (length fs + 1)) = omega arith in
    let more : length (fs ++ (frame_of l ∷ [])) ≡ length fs + 1 = length-append fs (frame_of l ∷ []) in
    let all : length fs + suc (length lines) ≡ length fs + 1 + length lines = omega arith in
    rw (room, more, all, append_assoc fs (frame_of l ∷ []) (map frame_of lines), add-one (length fs + 1))
    (append_assoc (line_text (length fs + 1) (frame_of l)) _ _)

pub remaining_full : (fs : List (Option (List ℕ))) (l : List ℕ) (lines : List (List ℕ)) → length fs ≡ max_lines → remaining fs (l ∷ lines) ≡ too_long
unfolding remaining numbered
remaining_full fs l lines h =
    let none_left : max_lines - length fs ≡ 0 = omega arith in
    let long : max_lines < length fs + suc (length lines) = omega arith in
    rw (none_left, lt-leb (length fs + suc (length lines)) max_lines long)

-- The bytes of a line before the rest of it, and the lines behind.
unfoldable pub behind : List ℕ → List (List ℕ) → List (List ℕ)
behind [] lines = lines
behind (b ∷ l) lines = begins b (behind l lines)

pub behind_byte : (l : List ℕ) (b : ℕ) (lines : List (List ℕ)) → behind l (begins b lines) ≡ behind (l ++ (b ∷ [])) lines
unfolding behind
behind_byte [] b lines = refl
behind_byte (a ∷ l) b lines = ap (λ (x : List (List ℕ)). begins a x) (behind_byte l b lines)

pub behind_newline : (l : List ℕ) (lines : List (List ℕ)) → behind l ([] ∷ lines) ≡ l ∷ lines
unfolding behind
behind_newline [] lines = refl
behind_newline (a ∷ l) lines = ap (λ (x : List (List ℕ)). begins a x) (behind_newline l lines)

-- "Bytes behind the last newline are a line if there are any."
pub behind_end : (b : ℕ) (l : List ℕ) → behind (b ∷ l) [] ≡ (b ∷ l) ∷ []
unfolding behind
behind_end b [] = refl
behind_end b (a ∷ l) = ap (λ (x : List (List ℕ)). begins b x) (behind_end a l)

-- A byte begins a line, whatever it is.
pub record Begun (lines : List (List ℕ)) : Type 0 where
  pub first : List ℕ
  pub rest : List (List ℕ)
  pub is : lines ≡ first ∷ rest

pub one_line : (b : ℕ) (s : List ℕ) → Begun (lines_of (b ∷ s))
unfolding lines_of
one_line b s = by_test (eqb b newline) (lines_of s)
  where
    by_test : (q : Bool) (lines : List (List ℕ)) → Begun (cond q ([] ∷ lines) (begins b lines))
    by_test true lines = record { first = []; rest = lines; is = refl }
    by_test false [] = record { first = b ∷ []; rest = []; is = refl }
    by_test false (l ∷ lines) = record { first = b ∷ l; rest = lines; is = refl }
