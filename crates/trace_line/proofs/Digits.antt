-- Laws about digits, and about the bytes that they give.
-- Assumes nothing.
use mathlib.Core.Path.{◌≡◌, refl, sym, ap, ◌∙◌}
use mathlib.Core.Bool.{Bool, true, false, cond, ◌&&◌}
use mathlib.Core.List.{List, [], ◌∷◌, ◌++◌, append_assoc}
use Prim.Native.Nat.{ℕ, zero, suc, ◌+◌, ◌-◌, ◌*◌, ◌/◌, ◌%◌, ◌≤◌, ◌<◌}
use native.Mathlib.Numerals.{add-one}
use native.Mathlib.Omega.{arith}
use borrow.Author.Tests.{lt-ltb, ltb-true, eqb-true, le-leb, lt-leb}
use lib.ListN.{length, take, drop, get_or, set, length-take}
use lib.Seq.{take-suc, drop-cons, set_at, set-set, get_or-set_same}
use lib.Dec.{eqb}
use Rattle.trace_line.specs.Line.{newline, value_of, is_digit, all_digits, bytes_of, with_digit}
use Rattle.std.proofs.Common.{◌⊎◌, inl, inr}
use Rattle.std.specs.Prelude.{Some, None}
use Rattle.trace_line.specs.Internal.Taking.{table_value, digit_of, Pairs}

-- What a character stands for, by the ranges that its code is in.
pub in_digits : (b : ℕ) → 48 ≤ b → b ≤ 57 → value_of b ≡ b - 48
unfolding value_of
in_digits b h g = rw (le-leb 48 b h, le-leb b 57 g)

pub in_lower : (b : ℕ) → 97 ≤ b → b ≤ 102 → value_of b ≡ b - 87
unfolding value_of
in_lower b h g =
    rw (lt-leb b 57 (omega arith), le-leb 48 b (omega arith), le-leb 65 b (omega arith), lt-leb b 70 (omega arith), le-leb 97 b h, le-leb b 102 g)

-- Its value in the table.
pub table_is : (b : ℕ) → table_value b < 63 → (table_value b ≡ value_of b) × (value_of b < 16)
unfolding table_value
table_is b h = by_test (is_digit b) refl h
  where
    by_test : (q : Bool) → is_digit b ≡ q → cond q (value_of b) 63 < 63 → (cond q (value_of b) 63 ≡ value_of b) × (value_of b < 16)
    by_test true e g = (refl, ltb-true (value_of b) 16 e)
    by_test false e g = absurd (omega arith)

pub table_either : (b : ℕ) → (table_value b < 16) ⊎ (table_value b ≡ 63)
unfolding table_value
table_either b = by_test (is_digit b) refl
  where
    by_test : (q : Bool) → is_digit b ≡ q → (cond q (value_of b) 63 < 16) ⊎ (cond q (value_of b) 63 ≡ 63)
    by_test true e = inl (ltb-true (value_of b) 16 e)
    by_test false e = inr refl

-- The digit that it is, as the code finds it there.
pub table_some : (b : ℕ) → table_value b < 63 → Some (table_value b) ≡ digit_of b
unfolding table_value digit_of
table_some b h = by_test (is_digit b) h
  where
    by_test : (q : Bool) → cond q (value_of b) 63 < 63 → Some (cond q (value_of b) 63) ≡ cond q (Some (value_of b)) None
    by_test true g = refl
    by_test false g = absurd (omega arith)

pub table_none : (b : ℕ) → 63 ≤ table_value b → None ≡ digit_of b
unfolding table_value digit_of
table_none b h = by_test (is_digit b) refl h
  where
    by_test : (q : Bool) → is_digit b ≡ q → 63 ≤ cond q (value_of b) 63 → None ≡ cond q (Some (value_of b)) None
    by_test true e g = let z = ltb-true (value_of b) 16 e in absurd (omega arith)
    by_test false e g = refl

-- Four values whose sum is below that of no digit are digits.
pub record Four (a b c d x y z w : ℕ) : Type 0 where
  pub a_is : a ≡ value_of x
  pub b_is : b ≡ value_of y
  pub c_is : c ≡ value_of z
  pub d_is : d ≡ value_of w
  pub a_low : a < 16
  pub b_low : b < 16
  pub c_low : c < 16
  pub d_low : d < 16

pub four_digits : {a b c d x y z w : ℕ} → a ≡ table_value x → b ≡ table_value y → c ≡ table_value z → d ≡ table_value w → a + b + c + d < 63 → Four a b c d x y z w
four_digits {a} {b} {c} {d} {x} {y} {z} {w} e f g h less =
    let p = table_is x (omega arith) in
    let q = table_is y (omega arith) in
    let r = table_is z (omega arith) in
    let s = table_is w (omega arith) in
    record {
      a_is = e ∙ p.0;
      b_is = f ∙ q.0;
      c_is = g ∙ r.0;
      d_is = h ∙ s.0;
      a_low = omega (arith, p.0, p.1);
      b_low = omega (arith, q.0, q.1);
      c_low = omega (arith, r.0, r.1);
      d_low = omega (arith, s.0, s.1);
    }

-- Digits, one list behind another.
pub all_append : (x y : List ℕ) → all_digits (x ++ y) ≡ (all_digits x && all_digits y)
unfolding all_digits
all_append [] y = refl
all_append (a ∷ x) y = by_test (is_digit a) (all_append x y)
  where
    by_test : (q : Bool) → all_digits (x ++ y) ≡ (all_digits x && all_digits y) → (q && all_digits (x ++ y)) ≡ ((q && all_digits x) && all_digits y)
    by_test true e = e
    by_test false e = refl

pub bytes_append : (k : ℕ) (x y : List ℕ) → length x ≡ 2 * k → bytes_of (x ++ y) ≡ bytes_of x ++ bytes_of y
unfolding bytes_of
bytes_append k [] y e = refl
bytes_append k (a ∷ []) y e = absurd (omega arith)
bytes_append zero (a ∷ b ∷ x) y e = absurd (omega arith)
bytes_append (suc k) (a ∷ b ∷ x) y e = ap (λ (l : List ℕ). (value_of a * 16 + value_of b) ∷ l) (bytes_append k x y (omega arith))

-- Half as many bytes as digits.
pub bytes_length : (k : ℕ) (x : List ℕ) → length x ≡ 2 * k → length (bytes_of x) ≡ k
unfolding bytes_of
bytes_length k [] e = omega arith
bytes_length k (a ∷ []) e = absurd (omega arith)
bytes_length zero (a ∷ b ∷ x) e = absurd (omega arith)
bytes_length (suc k) (a ∷ b ∷ x) e = ap suc (bytes_length k x (omega arith))

take_two : (s : List ℕ) (k : ℕ) → 2 * k + 1 < length s → take (2 * (k + 1)) s ≡ take (2 * k) s ++ (get_or s (2 * k) 0 ∷ get_or s (2 * k + 1) 0 ∷ [])
take_two s k h =
    let e : 2 * (k + 1) ≡ suc (suc (2 * k)) = omega arith in
    let a : 2 * k < length s = omega arith in
    let b : suc (2 * k) < length s = omega arith in
    rw (e, take-suc s (suc (2 * k)) 0 b, take-suc s (2 * k) 0 a, add-one (2 * k)) (append_assoc (take (2 * k) s) _ _)

module _ (text frame₀ : List ℕ) (k : ℕ) (h : 2 * k + 1 < length text) where
  length_pairs : length (take (2 * k) text) ≡ 2 * k
  length_pairs = simp length-take (omega arith)

  -- One pair more.
  pair_more : (frame : List ℕ) → k < length frame₀ → frame ≡ bytes_of (take (2 * k) text) ++ drop k frame₀
      → set frame k (value_of (get_or text (2 * k) 0) * 16 + value_of (get_or text (2 * k + 1) 0)) ≡ bytes_of (take (2 * (k + 1)) text) ++ drop (k + 1) frame₀
  unfolding bytes_of
  pair_more frame g e =
      let z = bytes_length k (take (2 * k) text) length_pairs in
      rw (e, drop-cons frame₀ k 0 g, take_two text k h, bytes_append k (take (2 * k) text) (get_or text (2 * k) 0 ∷ get_or text (2 * k + 1) 0 ∷ []) length_pairs, add-one k)
      (set_at (bytes_of (take (2 * k) text)) (get_or frame₀ k 0) (drop (suc k) frame₀) (value_of (get_or text (2 * k) 0) * 16 + value_of (get_or text (2 * k + 1) 0)) k z
      ∙ sym (append_assoc (bytes_of (take (2 * k) text)) ((value_of (get_or text (2 * k) 0) * 16 + value_of (get_or text (2 * k + 1) 0)) ∷ []) (drop (suc k) frame₀)))

  pair_digits : all_digits (take (2 * k) text) ≡ true → value_of (get_or text (2 * k) 0) < 16 → value_of (get_or text (2 * k + 1) 0) < 16 → all_digits (take (2 * (k + 1)) text) ≡ true
  unfolding all_digits
  pair_digits e a b = rw (take_two text k h, all_append, e, lt-ltb _ _ a, lt-ltb _ _ b)

-- Two pairs more.
module _ (text frame₀ : List ℕ) (k a b c d : ℕ) (h : 2 * k + 3 < length text) (a_is : a ≡ value_of (get_or text (2 * k) 0)) (b_is : b ≡ value_of (get_or text (2 * k + 1) 0)) (c_is : c ≡ value_of (get_or text (2 * k + 2) 0)) (d_is : d ≡ value_of (get_or text (2 * k + 3) 0)) where
  third : 2 * (k + 1) ≡ 2 * k + 2
  third = omega arith

  fourth : 2 * (k + 1) + 1 ≡ 2 * k + 3
  fourth = omega arith

  pub pairs_more : (frame : List ℕ) → k + 1 < length frame₀ → frame ≡ bytes_of (take (2 * k) text) ++ drop k frame₀
      → set (set frame k (a * 16 + b)) (k + 1) (c * 16 + d) ≡ bytes_of (take (2 * (k + 2)) text) ++ drop (k + 2) frame₀
  pairs_more frame g e =
      let two : k + 1 + 1 ≡ k + 2 = omega arith in
      let first = pair_more text frame₀ k (omega arith) frame (omega arith) e in
      let second = pair_more text frame₀ (k + 1) (omega arith) (set frame k (a * 16 + b)) g (rw (a_is, b_is) first) in
      rw (c_is, d_is) (rw (two, fourth, third) at second)

  pub pairs_digits : all_digits (take (2 * k) text) ≡ true → a < 16 → b < 16 → c < 16 → d < 16 → all_digits (take (2 * (k + 2)) text) ≡ true
  pairs_digits e p q r s =
      let two : k + 1 + 1 ≡ k + 2 = omega arith in
      let first = pair_digits text frame₀ k (omega arith) e (omega arith) (omega arith) in
      let second = pair_digits text frame₀ (k + 1) (omega arith) first (rw third (omega arith)) (rw fourth (omega arith)) in
      rw two at second

-- No pair is decoded; two pairs more are.
pub pairs_none : (text frame : List ℕ) → Pairs text frame 0 frame
unfolding all_digits bytes_of
pairs_none text frame = record { there = omega arith; room = omega arith; digits = refl; bytes = refl }

pub pairs_next : {text frame₀ frame : List ℕ} {k a b c d : ℕ} → Pairs text frame₀ k frame → 2 * k + 3 < length text → k + 1 < length frame₀
    → a ≡ table_value (get_or text (2 * k) 0) → b ≡ table_value (get_or text (2 * k + 1) 0) → c ≡ table_value (get_or text (2 * k + 2) 0) → d ≡ table_value (get_or text (2 * k + 3) 0) → a + b + c + d < 63
    → Pairs text frame₀ (k + 2) (set (set frame k (a * 16 + b)) (k + 1) (c * 16 + d))
pairs_next {text} {frame₀} {frame} {k} p there room e f g h less =
    let four = four_digits e f g h less in
    record {
      there = omega arith;
      room = omega arith;
      digits = pairs_digits text frame₀ k _ _ _ _ there four.a_is four.b_is four.c_is four.d_is p.digits four.a_low four.b_low four.c_low four.d_low;
      bytes = pairs_more text frame₀ k _ _ _ _ there four.a_is four.b_is four.c_is four.d_is frame room p.bytes;
    }

-- A digit is no newline.
pub no_newline : (b : ℕ) → is_digit b ≡ true → eqb b newline ≡ false
unfolding value_of
no_newline b h = by_test (eqb b newline) refl
  where
    by_test : (q : Bool) → eqb b newline ≡ q → q ≡ false
    by_test true e = absurd (let z : value_of b ≡ 16 = ap value_of (eqb-true b newline e) in omega (arith, ltb-true (value_of b) 16 h))
    by_test false e = refl

-- Both halves of a byte.
pub first_half : (n k value : ℕ) (frame : List ℕ) → n ≡ 2 * k → with_digit n value frame ≡ set frame k (value * 16)
unfolding with_digit
first_half n k value frame e =
    let z : n % 2 ≡ 0 = omega arith in
    let d : n / 2 ≡ k = omega arith in
    rw (z, d)

pub second_half : (n k value : ℕ) (frame : List ℕ) → n ≡ 2 * k + 1 → with_digit n value frame ≡ set frame k (get_or frame k 0 / 16 * 16 + value)
unfolding with_digit
second_half n k value frame e =
    let z : n % 2 ≡ 1 = omega arith in
    let d : n / 2 ≡ k = omega arith in
    rw (z, d)

pub both_halves : (n k high low : ℕ) (frame : List ℕ) → n ≡ 2 * k → k < length frame → with_digit (n + 1) low (with_digit n high frame) ≡ set frame k (high * 16 + low)
both_halves n k high low frame e h =
    let z : high * 16 / 16 * 16 ≡ high * 16 = omega arith in
    rw (second_half (n + 1) k low (with_digit n high frame) (omega arith), first_half n k high frame e, get_or-set_same frame k (high * 16) 0 h, set-set, z)
