-- `ledger::holds` meets its contract.
use Rattle.std.proofs.Common.{◌≡◌, ◌||◌, drop}
use Rattle.ledger.specs.Ledger.{is_in}
use Rattle.ledger.proofs.holds.Given as goal

abbrev pub invariant-loop-x : goal.invariant-loop-x
invariant-loop-x l = is_in l.xid l.list ≡ (l.met || is_in l.xid (drop l.x-index l.list))
