-- Places of a buffer, and bytes written there.
use Rattle.std.specs.Prelude.{ℕ, zero, suc, List, [], ◌∷◌, set}

-- The n places from k on.
unfoldable pub from : ℕ → ℕ → List ℕ
from k zero = []
from k (suc n) = k ∷ from (suc k) n

-- A buffer with the first byte of v at the first of the places, the second at the second, as far as both go.
unfoldable pub scatter : List ℕ → List ℕ → List ℕ → List ℕ
scatter [] v out = out
scatter (k ∷ places) [] out = out
scatter (k ∷ places) (x ∷ v) out = scatter places v (set out k x)
