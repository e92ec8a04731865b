-- The chunks of a read list and its base do not see that it was sorted.
-- Assumes nothing.
use mathlib.Core.Path.{◌≡◌, refl, sym}
use mathlib.Core.Bool.{Bool, true, false, cond, ◌||◌}
use mathlib.Core.List.{List, [], ◌∷◌}
use Prim.Native.Nat.{ℕ, ◌+◌, ◌<◌}
use native.Mathlib.Omega.{arith}
use lib.Dec.{eqb}
use Rattle.wire.specs.declared.ReadSegment.{ReadSegment}
use Rattle.header.specs.declared.Kind.{Kind}
use Rattle.header.specs.declared.Kind.TheVariants.{Msg, Nomsg, Error}
use Rattle.read_order.specs.ReadOrder.{sorted}
use Rattle.read_order.proofs.Sorting.{unseen}
use Rattle.layout.specs.Layout.{run, join_chunk, any_at_zero, zero_length, base_length, other_chunks}
use Rattle.layout.specs.Internal.Walks.{read_length}
use Rattle.layout.specs.declared.Run.{Run}
use Rattle.layout.proofs.Joins.{Order, less, same, more, order, join_less, join_same, join_more}

-- Bytes at two positions join in either order.
join_none : (p l : ℕ) → join_chunk p l [] ≡ run p l ∷ []
unfolding join_chunk
join_none p l = refl

join_swap : (p l q m : ℕ) (cs : List Run) → p < q → join_chunk p l (join_chunk q m cs) ≡ join_chunk q m (join_chunk p l cs)
join_swap p l q m [] h = rw (join_none p l, join_none q m, join_less p l (run q m) [] h, join_more q m (run p l) [] h, join_none q m)
join_swap p l q m (c ∷ cs) h = by (order p c.at) (order q c.at) (join_swap p l q m cs h)
  where
    by : Order p c.at → Order q c.at → join_chunk p l (join_chunk q m cs) ≡ join_chunk q m (join_chunk p l cs) → join_chunk p l (join_chunk q m (c ∷ cs)) ≡ join_chunk q m (join_chunk p l (c ∷ cs))
    by (less a) (less b) ih = rw (join_less p l c cs a, join_less q m c cs b, join_less p l (run q m) (c ∷ cs) h, join_more q m (run p l) (c ∷ cs) h, join_less q m c cs b)
    by (less a) (same b) ih = rw (join_less p l c cs a, join_same q m c cs b, join_less p l (run c.at (m + c.length)) cs a, join_more q m (run p l) (c ∷ cs) h, join_same q m c cs b)
    by (less a) (more b) ih = rw (join_less p l c cs a, join_more q m c cs b, join_less p l c (join_chunk q m cs) a, join_more q m (run p l) (c ∷ cs) h, join_more q m c cs b)
    by (same a) (less b) ih = absurd (omega arith)
    by (same a) (same b) ih = absurd (omega arith)
    by (same a) (more b) ih = rw (join_same p l c cs a, join_more q m c cs b, join_same p l c (join_chunk q m cs) a, join_more q m (run c.at (l + c.length)) cs b)
    by (more a) (less b) ih = absurd (omega arith)
    by (more a) (same b) ih = absurd (omega arith)
    by (more a) (more b) ih = rw (join_more p l c cs a, join_more q m c cs b, join_more p l c (join_chunk q m cs) a, join_more q m c (join_chunk p l cs) b, ih)

-- Two segments of different positions that change places.
others_swap : (x y : ReadSegment) (l : List ReadSegment) → y.position < x.position → other_chunks (x ∷ y ∷ l) ≡ other_chunks (y ∷ x ∷ l)
unfolding other_chunks
others_swap x y l h = by (eqb x.position 0) (eqb y.position 0)
  where
    by : (a b : Bool) →
        cond a (cond b (other_chunks l) (join_chunk y.position y.target.length (other_chunks l))) (join_chunk x.position x.target.length (cond b (other_chunks l) (join_chunk y.position y.target.length (other_chunks l))))
        ≡ cond b (cond a (other_chunks l) (join_chunk x.position x.target.length (other_chunks l))) (join_chunk y.position y.target.length (cond a (other_chunks l) (join_chunk x.position x.target.length (other_chunks l))))
    by true true = refl
    by true false = refl
    by false true = refl
    by false false = sym (join_swap y.position y.target.length x.position x.target.length (other_chunks l) h)

pub others_sorted : (xs : List ReadSegment) → other_chunks (sorted xs) ≡ other_chunks xs
unfolding other_chunks
others_sorted xs = unseen other_chunks (λ z l m e. rw e) others_swap xs

any_swap : (x y : ReadSegment) (l : List ReadSegment) → any_at_zero (x ∷ y ∷ l) ≡ any_at_zero (y ∷ x ∷ l)
unfolding any_at_zero
any_swap x y l = by (eqb x.position 0) (eqb y.position 0)
  where
    by : (a b : Bool) → (a || (b || any_at_zero l)) ≡ (b || (a || any_at_zero l))
    by true true = refl
    by true false = refl
    by false true = refl
    by false false = refl

pub any_sorted : (xs : List ReadSegment) → any_at_zero (sorted xs) ≡ any_at_zero xs
unfolding any_at_zero
any_sorted xs = unseen any_at_zero (λ z l m e. rw e) (λ x y l h. any_swap x y l) xs

pub zero_sorted : (xs : List ReadSegment) → zero_length (sorted xs) ≡ zero_length xs
unfolding zero_length
zero_sorted xs = unseen zero_length (λ z l m e. rw e) (λ x y l h. omega arith) xs

pub read_sorted : (xs : List ReadSegment) → read_length (sorted xs) ≡ read_length xs
unfolding read_length
read_sorted xs = unseen read_length (λ z l m e. rw e) (λ x y l h. omega arith) xs

pub base_sorted : (kind : Kind) (inline : ℕ) (xs : List ReadSegment) → base_length kind inline (sorted xs) ≡ base_length kind inline xs
base_sorted Msg inline xs = refl
base_sorted Nomsg inline xs = zero_sorted xs
base_sorted (Error e) inline xs = refl
