-- Reading from left to right, with the first fault met (document 01, "The numbers and their order").
use Rattle.std.specs.Prelude.{ℕ, zero, suc, Bool, cond, List, [], ◌∷◌, drop}

-- What reading gives: the number of the first fault met, or a value and the bytes behind it.
pub data Parsed (A : Type 0) : Type 0 where
  refused : ℕ → Parsed A
  done : A → List ℕ → Parsed A

-- Reading goes on with the bytes behind, unless there was a fault.
abbrev pub and_then : {A B : Type 0} → Parsed A → (A → List ℕ → Parsed B) → Parsed B
and_then (refused n) next = refused n
and_then (done a t) next = next a t

-- The number n is given unless the condition holds.
abbrev pub require : {A : Type 0} → Bool → ℕ → Parsed A → Parsed A
require holds n next = cond holds next (refused n)

-- One more at the front of a list that was read.
abbrev pub prepend : {A : Type 0} → A → Parsed (List A) → Parsed (List A)
prepend x p = and_then p (λ xs t. done (x ∷ xs) t)

-- n items of `width` bytes each, one behind the other.
unfoldable pub each : {A : Type 0} → ℕ → (List ℕ → A) → ℕ → List ℕ → List A
each width item zero s = []
each width item (suc n) s = item s ∷ each width item n (drop width s)
