-- Cutting changes nothing: a cut has the chunks of the list that was cut, and so all that is built on them.
-- Assumes nothing.
use mathlib.Core.Path.{◌≡◌, refl, sym}
use mathlib.Core.Bool.{Bool, true, false, cond, ◌||◌}
use mathlib.Core.List.{List, [], ◌∷◌}
use Prim.Native.Nat.{◌+◌}
use native.Mathlib.Nat.{add_assoc}
use native.Mathlib.Omega.{arith}
use lib.Dec.{eqb}
use Rattle.wire.specs.declared.ReadSegment.{ReadSegment}
use Rattle.chunk_lists.specs.Lists.{all_aligned}
use Rattle.chunk_lists.proofs.Positions.{aligned_on}
use Rattle.header.specs.Content.{Content}
use Rattle.layout.specs.Layout.{any_at_zero, zero_length, other_chunks, join_chunk}
use Rattle.layout.proofs.Joins.{join_join}
use Rattle.theorems.specs.Cuts.{Cut, none, last, more}

-- What a frame says whose read list was cut.
abbrev pub with_reads : Content → List ReadSegment → Content
with_reads c cut = record { kind = c.kind; xid = c.xid; credit = c.credit; reads = cut; writes = c.writes; reply = c.reply }

-- A list is a cut of itself.
pub itself : (reads : List ReadSegment) → Cut reads reads
itself [] = none
itself (x ∷ xs) = last refl refl (itself xs)

-- The chunks of a cut.
pub others_cut : {xs ys : List ReadSegment} → Cut xs ys → other_chunks ys ≡ other_chunks xs
unfolding other_chunks
others_cut none = refl
others_cut (last p l c) = rw (p, l, others_cut c)
others_cut (more {x} {y} {z} {xs} {ys} p q l c) = rw (p, others_cut c, other_chunks, q, ← l) (by (eqb x.position 0))
  where
    by : (b : Bool) → cond b (cond b (other_chunks xs) (join_chunk x.position z.target.length (other_chunks xs)))
        (join_chunk x.position y.target.length (cond b (other_chunks xs) (join_chunk x.position z.target.length (other_chunks xs))))
        ≡ cond b (other_chunks xs) (join_chunk x.position (y.target.length + z.target.length) (other_chunks xs))
    by true = refl
    by false = join_join x.position y.target.length z.target.length (other_chunks xs)

pub any_cut : {xs ys : List ReadSegment} → Cut xs ys → any_at_zero ys ≡ any_at_zero xs
unfolding any_at_zero
any_cut none = refl
any_cut (last p l c) = rw (p, any_cut c)
any_cut (more {x} {y} {z} {xs} {ys} p q l c) = rw (p, any_cut c, any_at_zero, q) (by (eqb x.position 0))
  where
    by : (b : Bool) → (b || (b || any_at_zero xs)) ≡ (b || any_at_zero xs)
    by true = refl
    by false = refl

pub zero_cut : {xs ys : List ReadSegment} → Cut xs ys → zero_length ys ≡ zero_length xs
unfolding zero_length
zero_cut none = refl
zero_cut (last p l c) = rw (p, l, zero_cut c)
zero_cut (more {x} {y} {z} {xs} {ys} p q l c) = rw (p, zero_cut c, zero_length, q, ← l) (by (eqb x.position 0))
  where
    by : (b : Bool) → cond b y.target.length 0 + (cond b z.target.length 0 + zero_length xs) ≡ cond b (y.target.length + z.target.length) 0 + zero_length xs
    by true = sym (add_assoc y.target.length z.target.length (zero_length xs))
    by false = omega arith

-- Its positions are multiples of 4 too.
pub aligned_cut : {xs ys : List ReadSegment} → Cut xs ys → all_aligned xs ≡ true → all_aligned ys ≡ true
unfolding all_aligned
aligned_cut none e = refl
aligned_cut (last {x} {y} {xs} {ys} p l c) e = let a = aligned_on x xs e in rw (p, a.0) (aligned_cut c a.1)
aligned_cut (more {x} {y} {z} {xs} {ys} p q l c) e = let a = aligned_on x xs e in rw (p, a.0) (aligned_cut c (rw (q, a.0) a.1))
