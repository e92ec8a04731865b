-- `ledger::clear` meets its contract.
use Rattle.std.proofs.Common.{◌≡◌, ◌-◌, ◌≤◌, length}
use Rattle.ledger.proofs.Scans.{cleared}
use Rattle.ledger.proofs.clear.Given as goal

abbrev pub invariant-loop-i : goal.invariant-loop-i
invariant-loop-i l = (l.n ≤ l.i) × (l.i ≤ 32) × (length l.xids ≡ 32) × (l.xids ≡ cleared l.n l.i l.initial.xids)

abbrev pub decreases-loop-i : goal.decreases-loop-i
decreases-loop-i l = 32 - l.i
