-- `replay::feed_block` keeps to what it was lent, and ends.
use Rattle.std.proofs.Common.{length}
use Rattle.replay.proofs.feed_block.Given as goal

abbrev pub decreases-loop-rest : goal.decreases-loop-rest
decreases-loop-rest l = length l.rest
