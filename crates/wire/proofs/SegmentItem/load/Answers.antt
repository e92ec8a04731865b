-- `wire::SegmentItem::load` meets its contract.
use Rattle.wire.specs.Words.{segment_in}
use lib.Seq.{get_or-drop}
use Rattle.wire.proofs.SegmentItem.load.Goals as goal

pub returns : goal.returns
unfolding segment_in
returns c = simp (get_or-drop, c.join_words.ensures)
