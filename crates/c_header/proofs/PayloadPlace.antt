-- A part of a frame lies where it is said to lie.
-- Assumes nothing.
use mathlib.Core.Path.{◌≡◌, refl, ap, ◌∙◌}
use mathlib.Core.List.{List, [], ◌∷◌, ◌++◌}
use Prim.Native.Nat.{ℕ, ◌+◌, ◌-◌}
use native.Mathlib.Omega.{arith}
use borrow.Author.Tests.{ne_eqb}
use lib.ListN.{length, take, drop, length-append}
use lib.Seq.{drop_at, take-length}
use Rattle.c_header.specs.Part.{part_of}

pub part_there : (a t : List ℕ) → take (part_of (a ++ t) t).length (drop (part_of (a ++ t) t).offset (a ++ t)) ≡ t
unfolding part_of
part_there a [] = refl
part_there a (x ∷ t) =
    let long : length (a ++ (x ∷ t)) ≡ length a + length (x ∷ t) = length-append a (x ∷ t) in
    let k : length a ≡ length (a ++ (x ∷ t)) - length (x ∷ t) = omega arith in
    rw (ne_eqb (length (x ∷ t)) 0 (λ e. omega arith)) (ap (take (length (x ∷ t))) (drop_at a (x ∷ t) (length (a ++ (x ∷ t)) - length (x ∷ t)) k) ∙ take-length (x ∷ t))
