-- `chunk_lists::decode_segments` meets its contract.
use mathlib.Core.Path.{◌∙◌}
use Prim.Native.Nat.{◌+◌}
use Rattle.chunk_lists.proofs.Items.{storing_starts, storing_next, storing_ends, length_each, item_there}
use Rattle.chunk_lists.proofs.decode_segments.Goals as goal

pub loop-k-init : goal.loop-k-init
loop-k-init g c = storing_starts _ _ _ _ _

pub loop-k-preserved : goal.loop-k-preserved
loop-k-preserved g c = let a = c.args in
    let item = g.T.Item in
    let there = item_there item.item_at g.met.T.Item.item_behind (item.MARKER_BYTES + item.BYTES) item.MARKER_BYTES a.from a.s.now a.n c.loop-k.k c.decode-x.result c.loop-k-test.true in
    storing_next _ item.WORDS g.met.T.Item.words_long c.loop-k.invariant (length_each _ _ _ _) c.loop-k-test.true c.decode-x.result _ (c.decode-x.ensures ∙ rw (c.MARKER_BYTES.ensures, c.BYTES.ensures, c.MARKER_BYTES-in-loop-k.ensures) there) _ (rw c.WORDS.ensures) _ c.store.ensures

pub returns : goal.returns
returns g c = storing_ends _ g.T.Item.WORDS g.met.T.Item.words_long c.loop-k.invariant (length_each _ _ _ _) c.loop-k-test.false
