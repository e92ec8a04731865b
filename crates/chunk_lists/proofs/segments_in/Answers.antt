-- `chunk_lists::segments_in` meets its contract.
use mathlib.Core.Path.{◌∙◌}
use Prim.Native.Nat.{◌+◌, ◌*◌}
use mathlib.Core.List.{[]}
use lib.ListN.{drop}
use lib.Seq.{drop-drop}
use borrow.Author.Rules.{rules}
use Rattle.chunk_lists.proofs.Items.{length_each, item_at, made_are}
use Rattle.chunk_lists.proofs.segments_in.Goals as goal

pub returns : goal.returns
returns g c = let a = c.args in
    let item = g.T.Item in
    made_are _ _ (λ k. item.item_in (drop (a.from + k * item.WORDS) a.words.now)) (λ x y q k. search rules) c.from_fn.result _ 16 (item.item_in []) c.from_fn.ensures.items (length_each _ _ _ _)
    (λ k few. item_at item.WORDS item.item_in 16 (drop a.from a.words.now) k (item.item_in []) few ∙ rw drop-drop)
