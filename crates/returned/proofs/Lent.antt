-- Headers that are lent as words.
-- Assumes nothing.
use mathlib.Core.Path.{◌≡◌, refl, ap}
use mathlib.Core.List.{List, [], ◌∷◌, ◌++◌}
use mathlib.Core.Option.{Option, none, some}
use Prim.Native.Nat.{ℕ}
use Rattle.answers.specs.Answers.{unless_refused}
use Rattle.answers.proofs.Checks.{kept}
use Rattle.header.specs.Words.{header_in}
use Rattle.header.specs.declared.Header.{Header}
use Rattle.returned.specs.Returned.{returned_number, returned_answer, returned_words_number, returned_words_places}

-- Words that hold headers: the number, and what is stored, are those of the answer by value.
pub lent_answer : (v w before : List ℕ) (sent reply : Header) → header_in v ≡ some sent → header_in w ≡ some reply →
    (returned_words_number (header_in v) (header_in w) ≡ (returned_answer sent reply).number)
    × (returned_words_places (header_in v) (header_in w) before ≡ unless_refused (returned_answer sent reply).number ((returned_answer sent reply).writes ++ ((returned_answer sent reply).reply ∷ [])) before)
unfolding returned_answer
lent_answer v w before sent reply s r = rw (s, r) (refl, refl)

-- The same answer by value is the same of what is lent.
pub same_lent : (sent : Option Header) (reply answer : Header) (before : List ℕ) → ((s : Header) → returned_answer s answer ≡ returned_answer s reply) →
    (returned_words_number sent (some answer) ≡ returned_words_number sent (some reply)) × (returned_words_places sent (some answer) before ≡ returned_words_places sent (some reply) before)
unfolding returned_answer
same_lent none reply answer before h = (refl, refl)
same_lent (some s) reply answer before h = (ap (λ a. a.number) (h s), ap (λ a. unless_refused a.number (a.writes ++ (a.reply ∷ [])) before) (h s))

-- A refused call leaves the places.
pub lent_refused : (sent reply : Option Header) (before : List ℕ) → (returned_words_number sent reply ≡ 0 → ⊥) → returned_words_places sent reply before ≡ before
lent_refused none reply before h = refl
lent_refused (some s) none before h = refl
lent_refused (some s) (some r) before h = kept (returned_number s r) _ before h
