-- `replay::feed_block` keeps to what it was lent, and ends.
use Rattle.std.proofs.Common.{◌<◌, length, length-take, length-drop, arith, rules}
use Rattle.trace.proofs.Blocks.{feeds_some}
use Rattle.replay.proofs.feed_block.Goals as goal

pub loop-rest-smaller : goal.loop-rest-smaller
loop-rest-smaller c = let left : 0 < length c.loop-rest.rest.now = search rules in
    let some_used = feeds_some c.feed-fed.result _ _ _ _ c.feed-fed.ensures.answer (search rules) left in
    simp (length-take, length-drop) (omega arith)
