-- What the segments of a read list make together.
-- Assumes nothing.
use mathlib.Core.Path.{◌≡◌, refl, sym, ap, ◌∙◌}
use mathlib.Core.Bool.{Bool, true, false, cond, ◌||◌, or-true, or-false}
use mathlib.Core.List.{List, [], ◌∷◌, ◌++◌}
use Prim.Native.Nat.{ℕ, suc, ◌+◌, ◌*◌, ◌≤◌, ◌<◌}
use native.Mathlib.Nat.{add-zero}
use native.Mathlib.Omega.{arith}
use lib.ListN.{length, take, drop, get_or}
use Rattle.std.proofs.lemmas.List.{take_all, take_more, get_or-drop, length-drop}
use lib.Dec.{eqb}
use Rattle.wire.specs.Wire.{zero_read_segment}
use Rattle.wire.specs.declared.ReadSegment.{ReadSegment}
use Rattle.layout.specs.Layout.{join_chunk, any_at_zero, zero_length, other_chunks}
use Rattle.layout.specs.Internal.Walks.{total_length, read_length, sums_of, sums_with}
use Rattle.layout.specs.declared.Sums.{Sums}
use Rattle.layout.proofs.Joins.{total_join}

-- One segment more at the end of the list.
pub any_next : (xs : List ReadSegment) (x : ReadSegment) → any_at_zero (xs ++ (x ∷ [])) ≡ (any_at_zero xs || eqb x.position 0)
unfolding any_at_zero
any_next [] x = or-false (eqb x.position 0)
any_next (y ∷ xs) x = by (eqb y.position 0) (any_next xs x)
  where
    by : (b : Bool) → any_at_zero (xs ++ (x ∷ [])) ≡ (any_at_zero xs || eqb x.position 0) → (b || any_at_zero (xs ++ (x ∷ []))) ≡ ((b || any_at_zero xs) || eqb x.position 0)
    by true e = refl
    by false e = e

pub zero_next : (xs : List ReadSegment) (x : ReadSegment) → zero_length (xs ++ (x ∷ [])) ≡ zero_length xs + cond (eqb x.position 0) x.target.length 0
unfolding zero_length
zero_next [] x = omega arith
zero_next (y ∷ xs) x = omega (arith, zero_next xs x)

read_next : (xs : List ReadSegment) (x : ReadSegment) → read_length (xs ++ (x ∷ [])) ≡ read_length xs + x.target.length
unfolding read_length
read_next [] x = omega arith
read_next (y ∷ xs) x = omega (arith, read_next xs x)

sums_next : (xs : List ReadSegment) (x : ReadSegment) → sums_of (xs ++ (x ∷ [])) ≡ sums_with (sums_of xs) x
unfolding sums_with
sums_next xs x = rw (any_next xs x, zero_next xs x, read_next xs x) (by (eqb x.position 0))
  where
    by : (b : Bool) →
        ◌≡◌ {A = Sums} (record { zero_length = zero_length xs + cond b x.target.length 0; any_zero = any_at_zero xs || b; all_length = read_length xs + x.target.length })
        (cond b (record { zero_length = zero_length xs + x.target.length; any_zero = true; all_length = read_length xs + x.target.length })
        (record { zero_length = zero_length xs; any_zero = any_at_zero xs; all_length = read_length xs + x.target.length }))
    by true = rw (or-true (any_at_zero xs))
    by false = rw (or-false (any_at_zero xs), add-zero)

-- Where no segment stands at 0, there are no bytes.
pub none_at_zero : (xs : List ReadSegment) → any_at_zero xs ≡ false → zero_length xs ≡ 0
unfolding any_at_zero zero_length
none_at_zero [] e = refl
none_at_zero (x ∷ xs) e = by (eqb x.position 0) e (none_at_zero xs)
  where
    by : (b : Bool) → (b || any_at_zero xs) ≡ false → (any_at_zero xs ≡ false → zero_length xs ≡ 0) → cond b x.target.length 0 + zero_length xs ≡ 0
    by true f ih = absurd (let n : ◌≡◌ {A = ℕ} 0 1 = cc in omega arith)
    by false f ih = omega (arith, ih f)

-- All bytes are those of the chunks.
pub read_total : (xs : List ReadSegment) → total_length (other_chunks xs) + zero_length xs ≡ read_length xs
unfolding total_length other_chunks zero_length read_length
read_total [] = refl
read_total (x ∷ xs) = by (eqb x.position 0) (read_total xs)
  where
    by : (b : Bool) → total_length (other_chunks xs) + zero_length xs ≡ read_length xs →
        total_length (cond b (other_chunks xs) (join_chunk x.position x.target.length (other_chunks xs))) + (cond b x.target.length 0 + zero_length xs) ≡ x.target.length + read_length xs
    by true e = omega arith
    by false e = rw (total_join x.position x.target.length (other_chunks xs)) (omega arith)

-- The sums s of the first i segments.
pub record Summed (reads : List ReadSegment) (i : ℕ) (s : Sums) : Type 0 where
  pub is : s ≡ sums_of (take i reads)
  pub small : s.all_length ≤ i * 4294967296

pub summed_start : (reads : List ReadSegment) → Summed reads 0 (record { zero_length = 0; any_zero = false; all_length = 0 })
unfolding any_at_zero zero_length read_length
summed_start reads = record { is = refl; small = omega arith }

pub summed_ready : (reads : List ReadSegment) (i : ℕ) (s : Sums) → i < 16 → Summed reads i s → (s.zero_length ≤ s.all_length) × (s.all_length ≤ 64424509440)
summed_ready reads i s h w = (rw w.is (omega (arith, read_total (take i reads))), omega (arith, w.small))

-- The segments up to one more.
take_next : (reads : List ReadSegment) (i : ℕ) (x : ReadSegment) (rest : List ReadSegment) → drop i reads ≡ x ∷ rest → take (i + 1) reads ≡ take i reads ++ (x ∷ [])
take_next reads i x rest e =
    let left : length (drop i reads) ≡ suc (length rest) = ap length e in
    let here : get_or reads i zero_read_segment ≡ x = sym (get_or-drop i reads 0 zero_read_segment ∙ ap (λ (k : ℕ). get_or reads k zero_read_segment) (add-zero i)) ∙ ap (λ (l : List ReadSegment). get_or l 0 zero_read_segment) e in
    take_more reads i zero_read_segment (let all = length-drop i reads in omega arith) ∙ rw here

pub summed_next : (reads : List ReadSegment) (i : ℕ) (s r : Sums) (x : ReadSegment) → drop i reads ≡ x ∷ drop (i + 1) reads → Summed reads i s → r ≡ sums_with s x → x.target.length < 4294967296 → Summed reads (i + 1) r
summed_next reads i s r x rest w e near =
    let split = take_next reads i x (drop (i + 1) reads) rest in
    let is : r ≡ sums_of (take (i + 1) reads) = e ∙ rw (w.is, split) (sym (sums_next (take i reads) x)) in
    let all : r.all_length ≡ s.all_length + x.target.length = rw (is, split, w.is) (read_next (take i reads) x) in
    record { is = is; small = omega (arith, w.small) }

pub summed_all : (reads : List ReadSegment) (i : ℕ) (s : Sums) → drop i reads ≡ [] → Summed reads i s → s ≡ sums_of reads
summed_all reads i s none w = w.is ∙ ap sums_of (take_all i reads (let e = length-drop i reads in let n : length (drop i reads) ≡ 0 = ap length none in omega arith))
