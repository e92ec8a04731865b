-- `wire::ReadSegmentItem::decode` meets its contract.
use Rattle.wire.specs.Wire.{read_segment_at}
use Rattle.wire.proofs.ReadSegmentItem.decode.Goals as goal

pub returns : goal.returns
unfolding read_segment_at
returns c = cc
