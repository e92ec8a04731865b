-- The sorted list, chunk by chunk: first the segments at position 0, then those of each other chunk, by position; those of one chunk as they stand on the wire.
-- Assumes nothing.
use mathlib.Core.Path.{◌≡◌, refl, sym, ap, ◌∙◌}
use mathlib.Core.Bool.{Bool, true, false, cond}
use mathlib.Core.List.{List, [], ◌∷◌, ◌++◌, append-nil}
use Prim.Native.Nat.{ℕ, ◌≤◌, ◌<◌}
use native.Mathlib.Omega.{arith}
use lib.Dec.{eqb}
use borrow.Author.Tests.{eqb-true, eqb-false}
use Rattle.wire.specs.Wire.{joined}
use Rattle.wire.specs.declared.ReadSegment.{ReadSegment}
use Rattle.wire.proofs.Joining.{joined_append}
use Rattle.read_order.specs.ReadOrder.{sorted, never_falls}
use Rattle.read_order.specs.SortedOf.{at_position}
use Rattle.read_order.proofs.Rising.{rising_on, rising_from, none_falls}
use Rattle.read_order.proofs.Sorting.{at_first, at_other, at_none, only_sorted}
use Rattle.layout.specs.Layout.{join_chunk, other_chunks}
use Rattle.layout.specs.declared.Run.{Run}
use Rattle.layout.proofs.Remaining.{Above}
use Rattle.layout.proofs.Joins.{Order, less, same, more, order, join_less, join_same, join_more, above_join}

-- Chunks at rising positions.
unfoldable Ascending : List Run → Type 0
Ascending [] = Unit {0}
Ascending (c ∷ cs) = Above c.at cs × Ascending cs

above_less : (p q : ℕ) (cs : List Run) → p < q → Above q cs → Above p cs
unfolding Above
above_less p q [] h k = tt
above_less p q (d ∷ ds) h k = (omega (arith, k.0), above_less p q ds h k.1)

ascending_join : (p l : ℕ) (cs : List Run) → Ascending cs → Ascending (join_chunk p l cs)
unfolding Ascending join_chunk Above
ascending_join p l [] a = (tt, tt)
ascending_join p l (c ∷ cs) a = by (order p c.at) (ascending_join p l cs a.1)
  where
    by : Order p c.at → Ascending (join_chunk p l cs) → Ascending (join_chunk p l (c ∷ cs))
    by (less h) ih = rw (join_less p l c cs h) ((h, above_less p c.at cs h a.0), a)
    by (same e) ih = rw (join_same p l c cs e) a
    by (more h) ih = rw (join_more p l c cs h) (above_join c.at p l cs h a.0, ih)

ascending : (xs : List ReadSegment) → Ascending (other_chunks xs)
unfolding Ascending other_chunks
ascending [] = tt
ascending (x ∷ xs) = by (eqb x.position 0) (ascending xs)
  where
    by : (b : Bool) → Ascending (other_chunks xs) → Ascending (cond b (other_chunks xs) (join_chunk x.position x.target.length (other_chunks xs)))
    by true ih = ih
    by false ih = ascending_join x.position x.target.length (other_chunks xs) ih

above_zero : (xs : List ReadSegment) → Above 0 (other_chunks xs)
unfolding Above other_chunks
above_zero [] = tt
above_zero (x ∷ xs) = by (eqb x.position 0) refl (above_zero xs)
  where
    by : (b : Bool) → eqb x.position 0 ≡ b → Above 0 (other_chunks xs) → Above 0 (cond b (other_chunks xs) (join_chunk x.position x.target.length (other_chunks xs)))
    by true e ih = ih
    by false e ih = let n = eqb-false x.position 0 e in above_join 0 x.position x.target.length (other_chunks xs) (omega arith) ih

-- A chunk stands at a position, or none does.
data Found (p : ℕ) : List Run → Type 0 where
  first : {c : Run} {cs : List Run} → c.at ≡ p → Found p (c ∷ cs)
  later : {c : Run} {cs : List Run} → Found p cs → Found p (c ∷ cs)

found_join : (p l : ℕ) (cs : List Run) → Found p (join_chunk p l cs)
unfolding join_chunk
found_join p l [] = first refl
found_join p l (c ∷ cs) = by (order p c.at) (found_join p l cs)
  where
    by : Order p c.at → Found p (join_chunk p l cs) → Found p (join_chunk p l (c ∷ cs))
    by (less h) ih = rw (join_less p l c cs h) (first refl)
    by (same e) ih = rw (join_same p l c cs e) (first (sym e))
    by (more h) ih = rw (join_more p l c cs h) (later ih)

found_on : (q p l : ℕ) (cs : List Run) → Found q cs → Found q (join_chunk p l cs)
found_on q p l [] f = elim f [ ]
found_on q p l (c ∷ cs) f = by (order p c.at) f (found_on q p l cs)
  where
    by : Order p c.at → Found q (c ∷ cs) → (Found q cs → Found q (join_chunk p l cs)) → Found q (join_chunk p l (c ∷ cs))
    by (less h) g ih = rw (join_less p l c cs h) (later g)
    by (same e) (first a) ih = rw (join_same p l c cs e) (first a)
    by (same e) (later g) ih = rw (join_same p l c cs e) (later g)
    by (more h) (first a) ih = rw (join_more p l c cs h) (first a)
    by (more h) (later g) ih = rw (join_more p l c cs h) (later (ih g))

-- Where a segment stands, but at 0, a chunk does.
data Standing (p : ℕ) (xs : List ReadSegment) : Type 0 where
  there : Found p (other_chunks xs) → Standing p xs
  nowhere : at_position p xs ≡ [] → Standing p xs

standing : (p : ℕ) (xs : List ReadSegment) → (p ≡ 0 → ⊥) → Standing p xs
unfolding other_chunks
standing p [] n = nowhere (at_none p)
standing p (x ∷ xs) n = by (eqb x.position 0) (eqb x.position p) refl refl (standing p xs n)
  where
    chunks : Bool → List Run
    chunks b = cond b (other_chunks xs) (join_chunk x.position x.target.length (other_chunks xs))

    by : (a b : Bool) → eqb x.position 0 ≡ a → eqb x.position p ≡ b → Standing p xs → Standing p (x ∷ xs)
    by true b e f (there g) = there (rw e g)
    by false b e f (there g) = there (rw e (found_on p x.position x.target.length (other_chunks xs) g))
    by true true e f (nowhere q) = absurd (n (sym (eqb-true x.position p f) ∙ eqb-true x.position 0 e))
    by false true e f (nowhere q) = there (rw (e, eqb-true x.position p f) (found_join p x.target.length (other_chunks xs)))
    by a false e f (nowhere q) = nowhere (at_other p x xs (eqb-false x.position p f) ∙ q)

-- The segments of a position, of two lists and of those of a position.
at_append : (p : ℕ) (xs ys : List ReadSegment) → at_position p (xs ++ ys) ≡ at_position p xs ++ at_position p ys
unfolding at_position
at_append p [] ys = refl
at_append p (x ∷ xs) ys = by (eqb x.position p) (at_append p xs ys)
  where
    by : (b : Bool) → at_position p (xs ++ ys) ≡ at_position p xs ++ at_position p ys → cond b (x ∷ at_position p (xs ++ ys)) (at_position p (xs ++ ys)) ≡ cond b (x ∷ at_position p xs) (at_position p xs) ++ at_position p ys
    by true ih = ap (λ (l : List ReadSegment). x ∷ l) ih
    by false ih = ih

at_itself : (p : ℕ) (xs : List ReadSegment) → at_position p (at_position p xs) ≡ at_position p xs
unfolding at_position
at_itself p [] = refl
at_itself p (x ∷ xs) = by (eqb x.position p) refl (at_itself p xs)
  where
    by : (b : Bool) → eqb x.position p ≡ b → at_position p (at_position p xs) ≡ at_position p xs → at_position p (cond b (x ∷ at_position p xs) (at_position p xs)) ≡ cond b (x ∷ at_position p xs) (at_position p xs)
    by true e ih = at_first p x (at_position p xs) (eqb-true x.position p e) ∙ ap (λ (l : List ReadSegment). x ∷ l) ih
    by false e ih = ih

at_elsewhere : (p q : ℕ) (xs : List ReadSegment) → (q ≡ p → ⊥) → at_position p (at_position q xs) ≡ []
unfolding at_position
at_elsewhere p q [] n = refl
at_elsewhere p q (x ∷ xs) n = by (eqb x.position q) refl (at_elsewhere p q xs n)
  where
    by : (b : Bool) → eqb x.position q ≡ b → at_position p (at_position q xs) ≡ [] → at_position p (cond b (x ∷ at_position q xs) (at_position q xs)) ≡ []
    by true e ih = at_other p x (at_position q xs) (λ z. n (sym (eqb-true x.position q e) ∙ z)) ∙ ih
    by false e ih = ih

-- They never fall, and nor do those behind them.
at_rises : (low p : ℕ) (xs ys : List ReadSegment) → low ≤ p → never_falls p ys ≡ true → never_falls low (at_position p xs ++ ys) ≡ true
unfolding at_position
at_rises low p [] ys h r = rising_from low p ys h r
at_rises low p (x ∷ xs) ys h r = by (eqb x.position p) refl (λ k l. at_rises k p xs ys l r)
  where
    by : (b : Bool) → eqb x.position p ≡ b → ((k : ℕ) → k ≤ p → never_falls k (at_position p xs ++ ys) ≡ true) → never_falls low (cond b (x ∷ at_position p xs) (at_position p xs) ++ ys) ≡ true
    by true e ih = let here = eqb-true x.position p e in rising_on low x (at_position p xs ++ ys) (omega arith) (ih x.position (omega arith))
    by false e ih = ih low h

module _ (xs : List ReadSegment) where
  -- The segments of chunks, one chunk behind the other.
  abbrev chunkwise : List Run → List ReadSegment
  chunkwise cs = joined (λ c. at_position c.at xs) cs

  at_chunk : (p : ℕ) (c : Run) (cs : List Run) → at_position p (chunkwise (c ∷ cs)) ≡ at_position p (at_position c.at xs) ++ at_position p (chunkwise cs)
  unfolding joined
  at_chunk p c cs = at_append p (at_position c.at xs) (chunkwise cs)

  at_below : (p : ℕ) (cs : List Run) → Above p cs → at_position p (chunkwise cs) ≡ []
  unfolding Above joined
  at_below p [] a = at_none p
  at_below p (c ∷ cs) a = at_chunk p c cs ∙ rw (at_elsewhere p c.at xs (λ e. omega (arith, a.0)), at_below p cs a.1)

  at_here : (p : ℕ) (c : Run) (cs : List Run) → p ≡ c.at → Above c.at cs → at_position p (chunkwise (c ∷ cs)) ≡ at_position p xs
  at_here p c cs e a = at_chunk p c cs ∙ rw (e, at_itself c.at xs, at_below c.at cs a) (append-nil (at_position c.at xs))

  at_found : (p : ℕ) (cs : List Run) → Ascending cs → Found p cs → at_position p (chunkwise cs) ≡ at_position p xs
  unfolding Ascending
  at_found p [] a f = elim f [ ]
  at_found p (c ∷ cs) a (first e) = at_here p c cs (sym e) a.0
  at_found p (c ∷ cs) a (later f) = by (order p c.at) (at_found p cs a.1 f)
    where
      by : Order p c.at → at_position p (chunkwise cs) ≡ at_position p xs → at_position p (chunkwise (c ∷ cs)) ≡ at_position p xs
      by (less h) ih = at_chunk p c cs ∙ rw (at_elsewhere p c.at xs (λ e. omega arith)) ih
      by (same e) ih = at_here p c cs e a.0
      by (more h) ih = at_chunk p c cs ∙ rw (at_elsewhere p c.at xs (λ e. omega arith)) ih

  at_nowhere : (p : ℕ) (cs : List Run) → at_position p xs ≡ [] → at_position p (chunkwise cs) ≡ []
  unfolding joined
  at_nowhere p [] e = at_none p
  at_nowhere p (c ∷ cs) e = by (order c.at p) (at_nowhere p cs e)
    where
      by : Order c.at p → at_position p (chunkwise cs) ≡ [] → at_position p (chunkwise (c ∷ cs)) ≡ []
      by (less h) ih = at_chunk p c cs ∙ rw (at_elsewhere p c.at xs (λ z. omega arith), ih)
      by (same z) ih = at_chunk p c cs ∙ rw (z, at_itself p xs, e, ih)
      by (more h) ih = at_chunk p c cs ∙ rw (at_elsewhere p c.at xs (λ z. omega arith), ih)

  chunks_rise : (low : ℕ) (cs : List Run) → Above low cs → Ascending cs → never_falls low (chunkwise cs) ≡ true
  unfolding Above Ascending joined
  chunks_rise low [] a b = none_falls low
  chunks_rise low (c ∷ cs) a b = at_rises low c.at xs (chunkwise cs) (omega (arith, a.0)) (chunks_rise c.at cs b.0 b.1)

  abbrev all : List ReadSegment
  all = at_position 0 xs ++ chunkwise (other_chunks xs)

  at_all : (p : ℕ) → at_position p all ≡ at_position p xs
  at_all p = at_append p (at_position 0 xs) (chunkwise (other_chunks xs)) ∙ by (eqb p 0) refl
    where
      by : (b : Bool) → eqb p 0 ≡ b → at_position p (at_position 0 xs) ++ at_position p (chunkwise (other_chunks xs)) ≡ at_position p xs
      by true e = rw (eqb-true p 0 e, at_itself 0 xs, at_below 0 (other_chunks xs) (above_zero xs)) (append-nil (at_position 0 xs))
      by false e = rw (at_elsewhere p 0 xs (λ z. eqb-false p 0 e (sym z))) (other (standing p xs (eqb-false p 0 e)))
        where
          other : Standing p xs → at_position p (chunkwise (other_chunks xs)) ≡ at_position p xs
          other (there f) = at_found p (other_chunks xs) (ascending xs) f
          other (nowhere q) = at_nowhere p (other_chunks xs) q ∙ sym q

  pub by_chunk : sorted xs ≡ at_position 0 xs ++ joined (λ c. at_position c.at xs) (other_chunks xs)
  by_chunk = sym (only_sorted xs all (at_rises 0 0 xs (chunkwise (other_chunks xs)) (omega arith) (chunks_rise 0 (other_chunks xs) (above_zero xs) (ascending xs))) at_all)

  -- So do the bytes of all segments come, where each holds its own.
  joined_chunks : (held : ReadSegment → List ℕ) (cs : List Run) → joined held (chunkwise cs) ≡ joined (λ c. joined held (at_position c.at xs)) cs
  unfolding joined
  joined_chunks held [] = refl
  joined_chunks held (c ∷ cs) = joined_append held (at_position c.at xs) (chunkwise cs) ∙ ap (λ (l : List ℕ). joined held (at_position c.at xs) ++ l) (joined_chunks held cs)

  pub pulled_by_chunk : (held : ReadSegment → List ℕ) → joined held (sorted xs) ≡ joined held (at_position 0 xs) ++ joined (λ c. joined held (at_position c.at xs)) (other_chunks xs)
  pulled_by_chunk held =
      ap (joined held) by_chunk ∙ joined_append held (at_position 0 xs) (chunkwise (other_chunks xs)) ∙ ap (λ (l : List ℕ). joined held (at_position 0 xs) ++ l) (joined_chunks held (other_chunks xs))
