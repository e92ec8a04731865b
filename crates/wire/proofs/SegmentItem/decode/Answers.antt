-- `wire::SegmentItem::decode` meets its contract.
use Rattle.wire.specs.Wire.{segment_at}
use Rattle.wire.proofs.SegmentItem.decode.Goals as goal

pub returns : goal.returns
unfolding segment_at
returns c = cc
