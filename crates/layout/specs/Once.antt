-- "holds each inline byte, pulled byte and padding byte at its defined place, once" (demand 2): which places a message has.
use Rattle.std.specs.Prelude.{ℕ, ◌+◌, ◌≡◌, cond, List, [], ◌∷◌, ltb, eqb}
use Rattle.layout.specs.Layout.{message_length, places, base_places, padding_places}
use Rattle.layout.specs.declared.Run.{Run}

-- How often k stands among the places.
unfoldable pub times : ℕ → List ℕ → ℕ
times k [] = 0
times k (p ∷ ps) = cond (eqb k p) 1 0 + times k ps

-- Among the places of base, chunks and padding together, each from 0 to the message's length less 1 stands once, and no other stands.
unfoldable pub Once : ℕ → List Run → Type 0
Once base cs =
    (k : ℕ) → times k (base_places base cs) + times k (places cs) + times k (padding_places cs) ≡ cond (ltb k (message_length base cs)) 1 0
