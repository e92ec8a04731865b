-- Rows of checks, and what a refused call leaves.
-- Assumes nothing.
use mathlib.Core.Path.{◌≡◌, refl}
use mathlib.Core.Bool.{Bool, true, false, ◌&&◌, ◌||◌}
use Prim.Native.Nat.{ℕ, ◌<◌}
use native.Mathlib.Omega.{arith}
use borrow.Author.Tests.{ne_eqb}
use Rattle.answers.specs.Answers.{check, unless_refused}

-- Both of two conditions.
pub both_hold : (a b : Bool) → (a && b) ≡ true → (a ≡ true) × (b ≡ true)
both_hold true b h = (refl, h)
both_hold false b h = absurd (let z : ◌≡◌ {A = ℕ} 0 1 = cc in omega arith)

-- Neither of two.
pub neither : (a b : Bool) → (a || b) ≡ false → (a ≡ false) × (b ≡ false)
neither false b h = (refl, h)
neither true b h = absurd (let z : ◌≡◌ {A = ℕ} 0 1 = cc in omega arith)

-- A check that gives another number than its own was passed, and the number comes from behind it.
pub check_other : (holds : Bool) (n next given : ℕ) → (n ≡ given → ⊥) → check holds n next ≡ given → (holds ≡ true) × (next ≡ given)
check_other true n next given h e = (refl, e)
check_other false n next given h e = absurd (h e)

-- So one that gives 0.
pub check_passed : (holds : Bool) (n next : ℕ) → 0 < n → check holds n next ≡ 0 → (holds ≡ true) × (next ≡ 0)
check_passed holds n next p e = check_other holds n next 0 (λ z. omega arith) e

-- A refused call leaves what it would have stored.
pub kept : {A : Type 0} (n : ℕ) (made before : A) → (n ≡ 0 → ⊥) → unless_refused n made before ≡ before
kept n made before h = rw (ne_eqb n 0 h)
