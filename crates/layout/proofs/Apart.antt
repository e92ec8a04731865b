-- Places that lie apart: bytes may be put there in any order.
-- Assumes nothing.
use mathlib.Core.Path.{◌≡◌, refl, sym}
use mathlib.Core.Logic.{◌≢◌}
use mathlib.Core.List.{List, [], ◌∷◌, ◌++◌}
use Prim.Native.Nat.{ℕ, zero, suc, ◌+◌, ◌≤◌, ◌<◌}
use native.Mathlib.Omega.{arith}
use lib.ListN.{length, set}
use lib.Seq.{set_comm}
use Rattle.layout.specs.Places.{from, scatter}

-- A place that is none of the others, places of which none is among the others, places below n and not below it.
unfoldable pub Avoids : ℕ → List ℕ → Type 0
Avoids p [] = Unit {0}
Avoids p (q ∷ qs) = (p ≢ q) × Avoids p qs

unfoldable pub Apart : List ℕ → List ℕ → Type 0
Apart [] qs = Unit {0}
Apart (p ∷ ps) qs = Avoids p qs × Apart ps qs

unfoldable pub Below : ℕ → List ℕ → Type 0
Below n [] = Unit {0}
Below n (p ∷ ps) = (p < n) × Below n ps

unfoldable pub NotBelow : ℕ → List ℕ → Type 0
NotBelow n [] = Unit {0}
NotBelow n (p ∷ ps) = (n ≤ p) × NotBelow n ps

pub below_append : (n : ℕ) (ps qs : List ℕ) → Below n ps → Below n qs → Below n (ps ++ qs)
unfolding Below
below_append n [] qs h k = k
below_append n (p ∷ ps) qs h k = (h.0, below_append n ps qs h.1 k)

scatter_set : (ps v b : List ℕ) (q x : ℕ) → Avoids q ps → scatter ps v (set b q x) ≡ set (scatter ps v b) q x
unfolding scatter Avoids
scatter_set [] v b q x h = refl
scatter_set (p ∷ ps) [] b q x h = refl
scatter_set (p ∷ ps) (y ∷ v) b q x h = rw (set_comm b q p x y h.0) (scatter_set ps v (set b p y) q x h.1)

pub scatter_comm : (ps qs v w b : List ℕ) → Apart ps qs → scatter qs w (scatter ps v b) ≡ scatter ps v (scatter qs w b)
unfolding scatter Apart
scatter_comm [] qs v w b h = refl
scatter_comm (p ∷ ps) qs [] w b h = refl
scatter_comm (p ∷ ps) qs (x ∷ v) w b h = rw (scatter_comm ps qs v w (set b p x) h.1, scatter_set qs w b p x h.0)

pub avoids_above : (p n : ℕ) (qs : List ℕ) → p < n → NotBelow n qs → Avoids p qs
unfolding Avoids NotBelow
avoids_above p n [] h k = tt
avoids_above p n (q ∷ qs) h k = (omega arith, avoids_above p n qs h k.1)

pub apart_by : (n : ℕ) (ps qs : List ℕ) → Below n ps → NotBelow n qs → Apart ps qs
unfolding Apart Below
apart_by n [] qs h k = tt
apart_by n (p ∷ ps) qs h k = (avoids_above p n qs h.0 k, apart_by n ps qs h.1 k)

pub above_append : (n : ℕ) (ps qs : List ℕ) → NotBelow n ps → NotBelow n qs → NotBelow n (ps ++ qs)
unfolding NotBelow
above_append n [] qs h k = k
above_append n (p ∷ ps) qs h k = (h.0, above_append n ps qs h.1 k)

pub above_from : (n p l : ℕ) → n ≤ p → NotBelow n (from p l)
unfolding NotBelow from
above_from n p zero h = tt
above_from n p (suc l) h = (h, above_from n (suc p) l (omega arith))

pub below_from : (n p l : ℕ) → p + l ≤ n → Below n (from p l)
unfolding Below from
below_from n p zero h = tt
below_from n p (suc l) h = (omega arith, below_from n (suc p) l (omega arith))

pub avoids_append : (p : ℕ) (qs rs : List ℕ) → Avoids p qs → Avoids p rs → Avoids p (qs ++ rs)
unfolding Avoids
avoids_append p [] rs h k = k
avoids_append p (q ∷ qs) rs h k = (h.0, avoids_append p qs rs h.1 k)

pub apart_right : (ps qs rs : List ℕ) → Apart ps qs → Apart ps rs → Apart ps (qs ++ rs)
unfolding Apart
apart_right [] qs rs h k = tt
apart_right (p ∷ ps) qs rs h k = (avoids_append p qs rs h.0 k.0, apart_right ps qs rs h.1 k.1)

pub apart_left : (ps qs rs : List ℕ) → Apart ps rs → Apart qs rs → Apart (ps ++ qs) rs
unfolding Apart
apart_left [] qs rs h k = k
apart_left (p ∷ ps) qs rs h k = (h.0, apart_left ps qs rs h.1 k)

pub apart_nil : (ps : List ℕ) → Apart ps []
unfolding Apart Avoids
apart_nil [] = tt
apart_nil (p ∷ ps) = (tt, apart_nil ps)

avoids_apart : (q : ℕ) (ps qs : List ℕ) → Avoids q ps → Apart ps qs → Apart ps (q ∷ qs)
unfolding Apart Avoids
avoids_apart q [] qs h k = tt
avoids_apart q (p ∷ ps) qs h k = (((λ e. h.0 (sym e)), k.0), avoids_apart q ps qs h.1 k.1)

pub apart_sym : (ps qs : List ℕ) → Apart ps qs → Apart qs ps
unfolding Apart
apart_sym [] qs h = apart_nil qs
apart_sym (p ∷ ps) qs h = avoids_apart p qs ps h.0 (apart_sym ps qs h.1)

-- Two writings, one behind the other, as one.
pub scatter_join : (ps qs v w b : List ℕ) → length v ≡ length ps → scatter qs w (scatter ps v b) ≡ scatter (ps ++ qs) (v ++ w) b
unfolding scatter
scatter_join [] qs [] w b e = refl
scatter_join [] qs (x ∷ v) w b e = absurd (omega arith)
scatter_join (p ∷ ps) qs [] w b e = absurd (omega arith)
scatter_join (p ∷ ps) qs (x ∷ v) w b e = scatter_join ps qs v w (set b p x) (omega arith)
