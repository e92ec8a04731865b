-- What the contracts of the exports ask of a caller, which is nothing, and promise, once more in full: the answer, and the ledger as it is left. A contract that is changed together with its function fails here.
-- Assumes nothing.
use mathlib.Core.Path.{◌≡◌}
use Prim.Native.Nat.{ℕ}
use seplogic.Ra.Ura.{Ura}
use base.Logic.{SProp, ent, sep, emp, guard, via, fst∗, snd∗, ex_e, id⊢}
use base.Fml.{Lft}
use prog.Memory.{Memory}
use prog.Routine.{Routine}
use types.Logic.{Logic}
use types.SemTy.{Body}
use contract.Monad.{Fun}
use denote.Memory.{mem}
use denote.Ref.{MutBor}
use denote.Triple.Clauses.{ensured}
use Rattle.ledger.specs.Ledger.{open_answer, send_answer, send_ledger, reply_number, reply_ledger}
use Rattle.ledger.specs.declared.Ledger.{Ledger}
use Rattle.ledger.specs.declared.SendAnswer.{SendAnswer}
use Rattle.ledger.specs.contracts.Ledger as T
use Rattle.c_ledger.proofs.Clauses.{left, settled}
use Rattle.c_ledger.specs.contracts.eos_ledger_open as opens
use Rattle.c_ledger.specs.contracts.eos_ledger_send as sends
use Rattle.c_ledger.specs.contracts.eos_ledger_reply as replies

module _ {M : Type 1} {𝓤 : Ura M} (𝓛 : Logic 𝓤) (at_mem : Memory → SProp 𝓤) (run : Routine → Fun 𝓤) where
  open 𝓛 use {A}

  -- What is said of a ledger that is lent, when the call returns: its last value, and its borrow, which is closed.
  abbrev borrowed : Lft → MutBor Ledger → SProp 𝓤
  borrowed κ x = A.bor κ (Body (mem T.the_row) x.ref_ptr.0 x.ref_ptr.1 x.ghost_name)

  abbrev lent : Lft → MutBor Ledger → Ledger → SProp 𝓤
  lent κ x l = sep 𝓤 (left 𝓛 x l) (borrowed κ x)

  last_value : (κ : Lft) (x : MutBor Ledger) (l : Ledger) (rest : SProp 𝓤) → ent 𝓤 (sep 𝓤 (lent κ x l) rest) (left 𝓛 x l)
  last_value κ x l rest = via 𝓤 (lent κ x l) (fst∗ 𝓤 (lent κ x l) rest) (fst∗ 𝓤 (left 𝓛 x l) (borrowed κ x))

  pub opening_asks_nothing : (κ : Lft) (last : ℕ) (x : MutBor Ledger) → ent 𝓤 (emp 𝓤) ((opens.clauses 𝓛 at_mem run (κ, tt) (last, (x, tt))).requires tt)
  opening_asks_nothing κ last x = id⊢ 𝓤 (emp 𝓤)

  pub sending_asks_nothing : (κ : Lft) (x : MutBor Ledger) → ent 𝓤 (emp 𝓤) ((sends.clauses 𝓛 at_mem run (κ, tt) (x, tt)).requires tt)
  sending_asks_nothing κ x = id⊢ 𝓤 (emp 𝓤)

  pub replying_asks_nothing : (κ : Lft) (x : MutBor Ledger) (xid grant : ℕ) → ent 𝓤 (emp 𝓤) ((replies.clauses 𝓛 at_mem run (κ, tt) (x, (xid, (grant, tt)))).requires tt)
  replying_asks_nothing κ x xid grant = id⊢ 𝓤 (emp 𝓤)

  pub opened : (κ : Lft) (last : ℕ) (x : MutBor Ledger) (r : ℕ) → ent 𝓤 (ensured 𝓛 opens.ended (opens.clauses 𝓛 at_mem run) (κ, tt) (last, (x, tt)) tt r) (guard 𝓤 (r ≡ (open_answer last).number) (left 𝓛 x (open_answer last).ledger))
  opened κ last x r = ex_e 𝓤 _ (λ (ws : Unit {0} × (Ledger × Unit {0})).
      let here : SProp 𝓤 = sep 𝓤 (lent κ x ws.1.0) (emp 𝓤) in
      settled 𝓛 (r ≡ (open_answer last).number) x ws.1.0 (open_answer last).ledger (sep 𝓤 (emp 𝓤) here) (via 𝓤 here (snd∗ 𝓤 (emp 𝓤) here) (last_value κ x ws.1.0 (emp 𝓤))))

  pub sent : (κ : Lft) (x : MutBor Ledger) (r : SendAnswer) → ent 𝓤 (ensured 𝓛 sends.ended (sends.clauses 𝓛 at_mem run) (κ, tt) (x, tt) tt r) (guard 𝓤 (r ≡ send_answer x.now) (left 𝓛 x (send_ledger x.now)))
  sent κ x r = ex_e 𝓤 _ (λ (ws : Ledger × Unit {0}). settled 𝓛 (r ≡ send_answer x.now) x ws.0 (send_ledger x.now) (sep 𝓤 (lent κ x ws.0) (emp 𝓤)) (last_value κ x ws.0 (emp 𝓤)))

  pub replied : (κ : Lft) (x : MutBor Ledger) (xid grant r : ℕ) → ent 𝓤 (ensured 𝓛 replies.ended (replies.clauses 𝓛 at_mem run) (κ, tt) (x, (xid, (grant, tt))) tt r) (guard 𝓤 (r ≡ reply_number x.now xid grant) (left 𝓛 x (reply_ledger x.now xid grant)))
  replied κ x xid grant r = ex_e 𝓤 _ (λ (ws : Ledger × (Unit {0} × (Unit {0} × Unit {0}))).
      let rest : SProp 𝓤 = sep 𝓤 (emp 𝓤) (sep 𝓤 (emp 𝓤) (emp 𝓤)) in
      settled 𝓛 (r ≡ reply_number x.now xid grant) x ws.0 (reply_ledger x.now xid grant) (sep 𝓤 (lent κ x ws.0) rest) (last_value κ x ws.0 rest))
