-- `ledger::next_xid` meets its contract.
use Rattle.std.proofs.Common.{◌-◌, length}
use Rattle.ledger.proofs.Searching.{Seeking}
use Rattle.ledger.proofs.next_xid.Given as goal

abbrev pub invariant-loop-xid : goal.invariant-loop-xid
invariant-loop-xid l = Seeking l.list l.last l.xid l.passed

-- No more are passed over than are in the list: that the search ends is told by the ledger.
abbrev pub decreases-loop-xid : goal.decreases-loop-xid
decreases-loop-xid l = length l.list - l.passed
