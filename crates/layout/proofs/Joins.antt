-- Laws about chunks: how bytes at a position join them, in whatever order they come.
-- Assumes nothing.
use mathlib.Core.Path.{◌≡◌, refl}
use mathlib.Core.Bool.{Bool, true, false}
use mathlib.Core.List.{List, [], ◌∷◌}
use Prim.Native.Nat.{ℕ, ◌+◌, ◌≤◌, ◌<◌}
use native.Mathlib.Nat.{add_assoc, le_refl}
use native.Mathlib.Omega.{arith}
use lib.Dec.{ltb, eqb}
use borrow.Author.Tests.{ltb-true, ltb-false, eqb-true, eqb-false, lt-ltb, le-ltb, eq-eqb, ne_eqb}
use Rattle.layout.specs.Layout.{run, join_chunk}
use Rattle.layout.specs.Internal.Walks.{total_length}
use Rattle.layout.proofs.Remaining.{Above}
use Rattle.layout.specs.declared.Run.{Run}

-- How two numbers lie.
pub data Order (p q : ℕ) : Type 0 where
  less : p < q → Order p q
  same : p ≡ q → Order p q
  more : q < p → Order p q

pub order : (p q : ℕ) → Order p q
order p q = by (ltb p q) (eqb p q) refl refl
  where
    by : (x y : Bool) → ltb p q ≡ x → eqb p q ≡ y → Order p q
    by true y e f = less (ltb-true p q e)
    by false true e f = same (eqb-true p q f)
    by false false e f = let l : q ≤ p = ltb-false p q e in let n : (p ≡ q → ⊥) = eqb-false p q f in more (omega arith)

-- Bytes before the first chunk, in it, and behind it.
pub join_less : (p l : ℕ) (c : Run) (cs : List Run) → p < c.at → join_chunk p l (c ∷ cs) ≡ run p l ∷ c ∷ cs
unfolding join_chunk
join_less p l c cs h = rw (lt-ltb p c.at h)

pub join_same : (p l : ℕ) (c : Run) (cs : List Run) → p ≡ c.at → join_chunk p l (c ∷ cs) ≡ run c.at (l + c.length) ∷ cs
unfolding join_chunk
join_same p l c cs e = rw (e, le-ltb c.at c.at (le_refl c.at), eq-eqb c.at c.at refl)

pub join_more : (p l : ℕ) (c : Run) (cs : List Run) → c.at < p → join_chunk p l (c ∷ cs) ≡ c ∷ join_chunk p l cs
unfolding join_chunk
join_more p l c cs h = rw (le-ltb p c.at (omega arith), ne_eqb p c.at (omega arith))

-- Bytes that join one position one after the other join it together.
pub join_join : (p l m : ℕ) (cs : List Run) → join_chunk p l (join_chunk p m cs) ≡ join_chunk p (l + m) cs
unfolding join_chunk
join_join p l m [] = join_same p l (run p m) [] refl
join_join p l m (c ∷ cs) = by (order p c.at) (join_join p l m cs)
  where
    by : Order p c.at → join_chunk p l (join_chunk p m cs) ≡ join_chunk p (l + m) cs → join_chunk p l (join_chunk p m (c ∷ cs)) ≡ join_chunk p (l + m) (c ∷ cs)
    by (less h) ih = rw (join_less p m c cs h, join_less p (l + m) c cs h) (join_same p l (run p m) (c ∷ cs) refl)
    by (same e) ih = rw (join_same p m c cs e, join_same p (l + m) c cs e, join_same p l (run c.at (m + c.length)) cs e, add_assoc)
    by (more h) ih = rw (join_more p m c cs h, join_more p (l + m) c cs h, join_more p l c (join_chunk p m cs) h, ih)

-- Together they have as many bytes as before and those that joined.
pub total_join : (p l : ℕ) (cs : List Run) → total_length (join_chunk p l cs) ≡ l + total_length cs
unfolding total_length join_chunk
total_join p l [] = refl
total_join p l (c ∷ cs) = by (order p c.at) (total_join p l cs)
  where
    by : Order p c.at → total_length (join_chunk p l cs) ≡ l + total_length cs → total_length (join_chunk p l (c ∷ cs)) ≡ l + (c.length + total_length cs)
    by (less h) ih = rw (join_less p l c cs h)
    by (same e) ih = rw (join_same p l c cs e, add_assoc)
    by (more h) ih = rw (join_more p l c cs h, ih) (omega arith)

-- Bytes before all chunks are the first chunk.
pub join_first : (p l : ℕ) (cs : List Run) → Above p cs → join_chunk p l cs ≡ run p l ∷ cs
unfolding join_chunk Above
join_first p l [] a = refl
join_first p l (c ∷ cs) a = join_less p l c cs a.0

-- Bytes behind a position stay behind it.
pub above_join : (q p l : ℕ) (cs : List Run) → q < p → Above q cs → Above q (join_chunk p l cs)
unfolding Above join_chunk
above_join q p l [] h a = (h, tt)
above_join q p l (c ∷ cs) h a = by (order p c.at) (above_join q p l cs h a.1)
  where
    by : Order p c.at → Above q (join_chunk p l cs) → Above q (join_chunk p l (c ∷ cs))
    by (less b) ih = rw (join_less p l c cs b) (h, a)
    by (same b) ih = rw (join_same p l c cs b) a
    by (more b) ih = rw (join_more p l c cs b) (a.0, ih)
