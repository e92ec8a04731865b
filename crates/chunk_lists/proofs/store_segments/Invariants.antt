-- `chunk_lists::store_segments` meets its contract.
use Rattle.chunk_lists.proofs.Items.{Storing}
use Rattle.chunk_lists.proofs.store_segments.Given as goal

abbrev pub invariant-loop-k : goal.invariant-loop-k
invariant-loop-k g l = Storing g.T.Item.item_words l.segments 16 l.initial.words l.words l.to l.k
