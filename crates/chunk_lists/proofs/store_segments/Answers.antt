-- `chunk_lists::store_segments` meets its contract.
use mathlib.Core.Path.{refl}
use borrow.Author.Rules.{rules}
use Rattle.chunk_lists.proofs.Items.{storing_starts, storing_next, storing_ends}
use Rattle.chunk_lists.proofs.store_segments.Goals as goal

pub loop-k-init : goal.loop-k-init
loop-k-init g c = storing_starts _ _ _ _ _

pub loop-k-preserved : goal.loop-k-preserved
loop-k-preserved g c = storing_next _ g.T.Item.WORDS g.met.T.Item.words_long c.loop-k.invariant (search rules) c.loop-k-test.true c.index-segments-k.result _ refl _ (rw c.WORDS.ensures) _ c.store.ensures

pub returns : goal.returns
returns g c = storing_ends _ g.T.Item.WORDS g.met.T.Item.words_long c.loop-k.invariant (search rules) c.loop-k-test.false
