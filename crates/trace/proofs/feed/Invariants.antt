-- `trace::feed` meets its contract.
use Rattle.std.proofs.Common.{length}
use Rattle.trace.proofs.Blocks.{Running}
use Rattle.trace.proofs.feed.Given as goal

abbrev pub invariant-loop-out : goal.invariant-loop-out
invariant-loop-out l = Running l.initial.state l.block l.initial.frame l.initial.out l.state l.frame l.rest l.written l.out

abbrev pub decreases-loop-out : goal.decreases-loop-out
decreases-loop-out l = length l.rest
