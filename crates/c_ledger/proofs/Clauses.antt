-- What two clauses say of a ledger that is lent: a fact, and its last value.
-- Assumes nothing.
use mathlib.Core.Path.{◌≡◌, subst}
use seplogic.Ra.Ura.{Ura}
use base.Logic.{SProp, ent, sep, guard, guard_i, via, fst∗, snd∗}
use types.Logic.{Logic}
use contract.Monad.{fact, fact_use}
use denote.Ref.{MutBor}
use Rattle.ledger.specs.declared.Ledger.{Ledger}
use Rattle.ledger.specs.contracts.Ledger as T

module _ {M : Type 1} {𝓤 : Ura M} (𝓛 : Logic 𝓤) where
  -- The last value of what a reference names.
  open 𝓛 use {A}

  abbrev pub left : MutBor Ledger → Ledger → SProp 𝓤
  left x l = A.res x.ghost_name ((T.the_row).coded.code l)

  -- Two clauses that say a fact each, the second of the last value, behind what says that value.
  pub settled : (φ : Type 0) (x : MutBor Ledger) (w l : Ledger) (told : SProp 𝓤) → ent 𝓤 told (left x w) → ent 𝓤 (sep 𝓤 told (sep 𝓤 (fact 𝓤 φ) (fact 𝓤 (w ≡ l)))) (guard 𝓤 φ (left x l))
  settled φ x w l told says =
      let E : SProp 𝓤 = fact 𝓤 φ in
      let F : SProp 𝓤 = fact 𝓤 (w ≡ l) in
      fact_use 𝓤 (w ≡ l) (via 𝓤 (sep 𝓤 E F) (snd∗ 𝓤 told (sep 𝓤 E F)) (snd∗ 𝓤 E F)) (λ is.
      fact_use 𝓤 φ (via 𝓤 (sep 𝓤 E F) (snd∗ 𝓤 told (sep 𝓤 E F)) (fst∗ 𝓤 E F)) (λ holds.
      subst (λ (k : Ledger). ent 𝓤 (sep 𝓤 told (sep 𝓤 E F)) (guard 𝓤 φ (left x k))) is
      (via 𝓤 (left x w) (via 𝓤 told (fst∗ 𝓤 told (sep 𝓤 E F)) says) (guard_i 𝓤 φ (left x w) holds))))
