-- What follows from what a call answers, as its number.
-- Assumes nothing.
use mathlib.Core.Path.{◌≡◌, refl}
use mathlib.Core.Bool.{Bool, true, false, cond}
use Prim.Native.Nat.{ℕ}
use lib.Dec.{eqb}
use borrow.Author.Tests.{eqb-true, eq-eqb}
use Rattle.std.specs.Prelude.{Ok, Err}
use Rattle.header.specs.Internal.Outcomes.{outcome}

-- What is made has the number 0.
pub outcome_ok : {A : Type 0} (n : ℕ) (made x : A) → Ok x ≡ outcome n made → n ≡ 0
outcome_ok n made x e = by (eqb n 0) refl e
  where
    by : (b : Bool) → eqb n 0 ≡ b → Ok x ≡ cond b (Ok made) (Err n) → n ≡ 0
    by true t e = eqb-true n 0 t
    by false t e = absurd cc

-- What is refused has its number.
pub outcome_err : {A : Type 0} (n : ℕ) (made : A) (number : ℕ) → Err number ≡ outcome n made → (n ≡ number) × (n ≡ 0 → ⊥)
outcome_err n made number e = by (eqb n 0) refl e
  where
    by : (b : Bool) → eqb n 0 ≡ b → Err number ≡ cond b (Ok made) (Err n) → (n ≡ number) × (n ≡ 0 → ⊥)
    by true t e = absurd cc
    by false t e = (cc, λ z. let u = eq-eqb n 0 z in absurd cc)
