-- A call's number beside what it makes.
use Rattle.std.specs.Prelude.{ℕ, cond, eqb, Result, Ok, Err}

-- With the number 0 something is made, with any other it is refused.
abbrev pub outcome : {A : Type 0} → ℕ → A → Result A ℕ
outcome number made = cond (eqb number 0) (Ok made) (Err number)
