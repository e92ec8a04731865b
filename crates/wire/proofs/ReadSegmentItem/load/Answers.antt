-- `wire::ReadSegmentItem::load` meets its contract.
use Rattle.wire.specs.Words.{read_segment_in}
use lib.Seq.{get_or-drop, drop-drop}
use Rattle.wire.proofs.ReadSegmentItem.load.Goals as goal

pub returns : goal.returns
unfolding read_segment_in
returns c = simp (get_or-drop, drop-drop, c.load.ensures)
