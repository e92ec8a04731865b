-- What the functions beneath a send and a reply make: what the call leaves, or the number that refuses it.
use Rattle.std.specs.Prelude.{ℕ, cond, Result, Ok, Err, ◌==◌}
use Rattle.ledger.specs.Ledger.{next_xid, send_number, passed_over, send_ledger, reply_number, reply_ledger}
use Rattle.ledger.specs.declared.Ledger.{Ledger}
use Rattle.ledger.specs.declared.FoundXid.{FoundXid}

-- What is made where the number is 0, and else the number.
abbrev pub outcome : {A : Type 0} → ℕ → A → Result A ℕ
outcome number made = cond (number == 0) (Ok made) (Err number)

-- A send: the ledger after it, and the xid that was found.
abbrev pub sent : Ledger → Result (Ledger × FoundXid) ℕ
sent l = outcome (send_number l) (send_ledger l, record { xid = next_xid l; passed = passed_over l })

-- A reply: the ledger after it.
abbrev pub replied : Ledger → ℕ → ℕ → Result Ledger ℕ
replied l xid grant = outcome (reply_number l xid grant) (reply_ledger l xid grant)
