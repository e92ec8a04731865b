-- `ledger::is_rising` meets its contract.
use Rattle.std.proofs.Common.{◌≡◌, ◌-◌, ◌≤◌, ◌&&◌, length, drop}
use Rattle.ledger.specs.Internal.Search.{rising}
use Rattle.ledger.proofs.is_rising.Given as goal

abbrev pub invariant-loop-i : goal.invariant-loop-i
invariant-loop-i l = (1 ≤ l.i) × (l.i-end ≡ length l.list) × (rising l.list ≡ (l.rise && rising (drop (l.i - 1) l.list)))

abbrev pub decreases-loop-i : goal.decreases-loop-i
decreases-loop-i l = l.i-end - l.i
