-- Laws about places, and about bytes put there.
-- Assumes nothing.
use mathlib.Core.Path.{◌≡◌, refl, sym, ap, ◌∙◌}
use mathlib.Core.List.{List, [], ◌∷◌, ◌++◌, append_assoc}
use Prim.Native.Nat.{ℕ, zero, suc, ◌+◌, ◌-◌, ◌≤◌}
use native.Mathlib.Nat.{add-zero, add-suc, suc-add, zero-add}
use native.Mathlib.Omega.{arith}
use lib.ListN.{length, take, drop, set, length-set, length-append, drop_of_length-le}
use lib.Seq.{drop_at, drop-append-add}
use Rattle.wire.specs.Wire.{stored}
use Rattle.layout.specs.Places.{from, scatter}
use Rattle.layout.specs.Layout.{places}
use Rattle.layout.specs.Internal.Walks.{total_length}
use Rattle.layout.specs.declared.Run.{Run}

-- The buffer keeps its length.
pub length_scatter : (ps v out : List ℕ) → length (scatter ps v out) ≡ length out
unfolding scatter
length_scatter [] v out = refl
length_scatter (p ∷ ps) [] out = refl
length_scatter (p ∷ ps) (x ∷ v) out = length_scatter ps v (set out p x) ∙ length-set out p x

-- No bytes change nothing.
pub scatter_none : (ps out : List ℕ) → scatter ps [] out ≡ out
unfolding scatter
scatter_none [] out = refl
scatter_none (p ∷ ps) out = refl

-- Bytes in two parts: the second goes on where the first stopped.
pub scatter_append : (ps u v out : List ℕ) → scatter ps (u ++ v) out ≡ scatter (drop (length u) ps) v (scatter ps u out)
unfolding scatter
scatter_append [] [] v out = refl
scatter_append [] (x ∷ u) v out = refl
scatter_append (p ∷ ps) [] v out = refl
scatter_append (p ∷ ps) (x ∷ u) v out = scatter_append ps u v (set out p x)

-- Places in two parts.
pub scatter_places : (ps qs v out : List ℕ) → scatter (ps ++ qs) v out ≡ scatter qs (drop (length ps) v) (scatter ps v out)
unfolding scatter
scatter_places [] qs v out = refl
scatter_places (p ∷ ps) qs [] out = sym (scatter_none qs out)
scatter_places (p ∷ ps) qs (x ∷ v) out = scatter_places ps qs v (set out p x)

-- Places behind those that the bytes fill are not written.
pub scatter_first : (ps qs v out : List ℕ) → length v ≤ length ps → scatter (ps ++ qs) v out ≡ scatter ps v out
scatter_first ps qs v out h = scatter_places ps qs v out ∙ rw (drop_of_length-le v {i = length ps} h) (scatter_none qs (scatter ps v out))

-- As many places as there are bytes will do.
pub scatter_take : (ps v out : List ℕ) → scatter (take (length v) ps) v out ≡ scatter ps v out
unfolding scatter
scatter_take [] [] out = refl
scatter_take [] (x ∷ v) out = refl
scatter_take (p ∷ ps) [] out = refl
scatter_take (p ∷ ps) (x ∷ v) out = scatter_take ps v (set out p x)

pub length_from : (k n : ℕ) → length (from k n) ≡ n
unfolding from
length_from k zero = refl
length_from k (suc n) = ap suc (length_from (suc k) n)

pub from_add : (k n m : ℕ) → from k (n + m) ≡ from k n ++ from (k + n) m
unfolding from
from_add k zero m = rw (zero-add, add-zero)
from_add k (suc n) m = rw (suc-add, from_add (suc k) n m, add-suc, suc-add)

-- Bytes in a run of places are stored from its first place on.
pub scatter_from : (k : ℕ) (v out : List ℕ) → scatter (from k (length v)) v out ≡ stored out k v
unfolding scatter from stored
scatter_from k [] out = refl
scatter_from k (x ∷ v) out = scatter_from (suc k) v (set out k x)

-- The same where the run goes on, and other places come behind it.
pub scatter_run : (k n : ℕ) (ps v out : List ℕ) → length v ≤ n → scatter (from k n ++ ps) v out ≡ stored out k v
scatter_run k n ps v out h =
    let e : n ≡ length v + (n - length v) = omega arith in
    ap (λ (m : ℕ). scatter (from k m ++ ps) v out) e
    ∙ rw (from_add k (length v) (n - length v), append_assoc) (scatter_first (from k (length v)) _ v out (rw length_from (omega arith)) ∙ scatter_from k v out)

pub length_places : (rs : List Run) → length (places rs) ≡ total_length rs
unfolding places total_length
length_places [] = refl
length_places (r ∷ rs) = rw (length-append, length_from, length_places rs)

-- The places behind some of a run, and behind all of it.
pub drop_within : (x k n : ℕ) (ps : List ℕ) → x ≤ n → drop x (from k n ++ ps) ≡ from (k + x) (n - x) ++ ps
drop_within x k n ps h =
    let e : n ≡ x + (n - x) = omega arith in
    ap (λ (m : ℕ). drop x (from k m ++ ps)) e ∙ rw (from_add k x (n - x), append_assoc) (drop_at (from k x) (from (k + x) (n - x) ++ ps) x (length_from k x))

pub drop_past : (x k n : ℕ) (ps : List ℕ) → drop (n + x) (from k n ++ ps) ≡ drop x ps
drop_past x k n ps = ap (λ (m : ℕ). drop (m + x) (from k n ++ ps)) (sym (length_from k n)) ∙ drop-append-add (from k n) ps x
