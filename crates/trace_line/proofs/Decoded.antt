-- A line that was taken byte by byte is its frame, or bad, as its text says.
-- Assumes nothing.
use mathlib.Core.Path.{◌≡◌, refl}
use mathlib.Core.Bool.{Bool, true, false, cond, ◌&&◌, and-false}
use mathlib.Core.List.{List, [], ◌∷◌}
use mathlib.Core.Option.{none, some}
use Prim.Native.Nat.{ℕ, suc, ◌+◌, ◌*◌, ◌/◌, ◌%◌, ◌≤◌, ◌<◌}
use native.Mathlib.Nat.{add-zero, zero-add}
use native.Mathlib.Omega.{arith}
use borrow.Author.Tests.{le-leb, lt-leb, ltb-true, ltb-false, leb-true, eqb-true, ne_eqb}
use lib.ListN.{length, take, drop, length-take}
use lib.Seq.{take_at}
use lib.Dec.{leb, ltb, eqb}
use Rattle.wire.proofs.Fields.{stored_front}
use Rattle.trace_line.specs.Line.{max_digits, is_digit, all_digits, bytes_of, frame_of, next_line, frame_in, is_begun}
use Rattle.trace_line.specs.Internal.Taking.{line_after, frame_after}
use Rattle.trace_line.specs.declared.Line.{Line}
use Rattle.trace_line.specs.declared.Line.TheVariants.{Digits, Bad}
use Rattle.trace_line.proofs.Digits.{bytes_length}
use Rattle.trace_line.proofs.Parts.{pairs_frame}

-- A bad line stays bad.
still_bad : (l : List ℕ) → line_after Bad l ≡ Bad
unfolding line_after next_line
still_bad [] = refl
still_bad (b ∷ l) = still_bad l

-- How many digits there are, if all are digits and not too many.
line_of : (n : ℕ) (l : List ℕ) → n ≤ max_digits → line_after (Digits n) l ≡ cond (all_digits l && leb (n + length l) max_digits) (Digits (n + length l)) Bad
unfolding line_after all_digits next_line
line_of n [] h = rw (add-zero, le-leb n max_digits h)
line_of n (b ∷ l) h = by_digit (is_digit b) (ltb n max_digits) refl (λ g. line_of (n + 1) l g)
  where
    by_digit : (d room : Bool) → ltb n max_digits ≡ room
        → (n + 1 ≤ max_digits → line_after (Digits (n + 1)) l ≡ cond (all_digits l && leb (n + 1 + length l) max_digits) (Digits (n + 1 + length l)) Bad)
        → line_after (cond (d && room) (Digits (n + 1)) Bad) l ≡ cond ((d && all_digits l) && leb (n + suc (length l)) max_digits) (Digits (n + suc (length l))) Bad
    by_digit false room e more = still_bad l
    by_digit true true e more =
        let z : n + suc (length l) ≡ n + 1 + length l = omega arith in
        rw z (more (let g = ltb-true n max_digits e in omega arith))
    by_digit true false e more =
        let z : max_digits < n + suc (length l) = omega (arith, ltb-false n max_digits e) in
        rw (lt-leb (n + suc (length l)) max_digits z, and-false (all_digits l)) (still_bad l)

-- The frame buffer begins with the bytes of pairs that were decoded from its beginning on.
decoded_front : (l frame : List ℕ) → all_digits l ≡ true → length l % 2 ≡ 0 → length l ≤ max_digits → length frame ≡ 4_096 → take (length l / 2) (frame_after (Digits 0) frame l) ≡ bytes_of l
decoded_front l frame d even few size =
    let m : ℕ = length l / 2 in
    let two : length l ≡ 2 * m = omega arith in
    let long : length (bytes_of l) ≡ m = bytes_length m l two in
    rw (pairs_frame m 0 0 l frame two d refl (omega arith) (omega arith), stored_front frame (bytes_of l) (omega arith))
    (take_at (bytes_of l) (drop (length (bytes_of l)) frame) m long)

-- The frame of a line, once all of it was taken.
pub decoded : (l frame : List ℕ) → length frame ≡ 4_096 → frame_in (line_after (Digits 0) l) (frame_after (Digits 0) frame l) ≡ frame_of l
unfolding frame_in frame_of
decoded l frame size =
    rw (line_of 0 l (omega arith), zero-add)
    (by_tests (all_digits l) (leb (length l) max_digits) (eqb (length l % 2) 0) refl refl refl)
  where
    by_tests : (d few even : Bool) → all_digits l ≡ d → leb (length l) max_digits ≡ few → eqb (length l % 2) 0 ≡ even
        → frame_in (cond (d && few) (Digits (length l)) Bad) (frame_after (Digits 0) frame l) ≡ cond (even && (d && few)) (some (bytes_of l)) none
    by_tests true true true a b c =
        rw (c, b, decoded_front l frame a (eqb-true (length l % 2) 0 c) (leb-true (length l) max_digits b) size)
    by_tests true true false a b c = rw c
    by_tests true false true a b c = refl
    by_tests true false false a b c = refl
    by_tests false few true a b c = refl
    by_tests false few false a b c = refl

-- Whether a byte of it was taken.
pub not_begun : is_begun (line_after (Digits 0) []) ≡ false
unfolding line_after is_begun
not_begun = refl

pub has_begun : (b : ℕ) (l : List ℕ) → is_begun (line_after (Digits 0) (b ∷ l)) ≡ true
unfolding is_begun
has_begun b l = rw (line_of 0 (b ∷ l) (omega arith), zero-add) (by_test (all_digits (b ∷ l) && leb (suc (length l)) max_digits))
  where
    by_test : (q : Bool) → is_begun (cond q (Digits (suc (length l))) Bad) ≡ true
    by_test true = rw (ne_eqb (suc (length l)) 0 (λ e. omega arith))
    by_test false = refl

-- The frame in the buffer, as the code finds it.
pub in_bad : (line : Line) (frame : List ℕ) → line ≡ Bad → frame_in line frame ≡ none
unfolding frame_in
in_bad line frame e = rw e

pub in_odd : (line : Line) (n : ℕ) (frame : List ℕ) → line ≡ Digits n → n % 2 ≡ 1 → frame_in line frame ≡ none
unfolding frame_in
in_odd line n frame e odd = rw (e, odd)

pub in_long : (line : Line) (n : ℕ) (frame : List ℕ) → line ≡ Digits n → max_digits < n → frame_in line frame ≡ none
unfolding frame_in
in_long line n frame e long = rw (e, lt-leb n max_digits long, and-false (eqb (n % 2) 0))

pub in_whole : (line : Line) (n : ℕ) (frame : List ℕ) → line ≡ Digits n → (n % 2 ≡ 1 → ⊥) → n ≤ max_digits → frame_in line frame ≡ some (take (n / 2) frame)
unfolding frame_in
in_whole line n frame e even few =
    let z : n % 2 ≡ 0 = omega (arith, even) in
    rw (e, z, le-leb n max_digits few)

-- No frame is longer than 4,096 bytes.
pub frame_of_most : (l f : List ℕ) → frame_of l ≡ some f → length f ≤ 4_096
unfolding frame_of
frame_of_most l f e = by_tests (eqb (length l % 2) 0) (all_digits l) (leb (length l) max_digits) refl refl e
  where
    by_tests : (even d few : Bool) → eqb (length l % 2) 0 ≡ even → leb (length l) max_digits ≡ few → cond (even && (d && few)) (some (bytes_of l)) none ≡ some f → length f ≤ 4_096
    by_tests true true true a b g =
        let two : length l ≡ 2 * (length l / 2) = omega (arith, eqb-true (length l % 2) 0 a) in
        let z = bytes_length (length l / 2) l two in
        let same : bytes_of l ≡ f = cc in
        rw (← same) (omega (arith, leb-true (length l) max_digits b))
    by_tests true true false a b g = absurd (let z : ◌≡◌ {A = ℕ} 0 1 = cc in omega arith)
    by_tests true false few a b g = absurd (let z : ◌≡◌ {A = ℕ} 0 1 = cc in omega arith)
    by_tests false d few a b g = absurd (let z : ◌≡◌ {A = ℕ} 0 1 = cc in omega arith)

pub frame_in_most : (line : Line) (frame f : List ℕ) → length frame ≡ 4_096 → frame_in line frame ≡ some f → length f ≤ 4_096
unfolding frame_in
frame_in_most Bad frame f size e = absurd (let z : ◌≡◌ {A = ℕ} 0 1 = cc in omega arith)
frame_in_most (Digits n) frame f size e = by_test (eqb (n % 2) 0 && leb n max_digits) e
  where
    by_test : (q : Bool) → cond q (some (take (n / 2) frame)) none ≡ some f → length f ≤ 4_096
    by_test true g = let same : take (n / 2) frame ≡ f = cc in rw (← same, length-take) (omega arith)
    by_test false g = absurd (let z : ◌≡◌ {A = ℕ} 0 1 = cc in omega arith)
