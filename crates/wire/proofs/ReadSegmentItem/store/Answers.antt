-- `wire::ReadSegmentItem::store` meets its contract.
use mathlib.Core.Path.{◌≡◌, ap, ◌∙◌}
use Prim.Native.Nat.{◌+◌, suc}
use native.Mathlib.Nat.{add-zero}
use native.Mathlib.Omega.{arith}
use lib.ListN.{length, length-set}
use lib.Seq.{length-sets}
use Rattle.wire.specs.Wire.{stored}
use Rattle.wire.specs.Words.{read_segment_words}
use Rattle.wire.proofs.ReadSegmentItem.store.Goals as goal

pub bounds-words-k-2 : goal.bounds-words-k-2
bounds-words-k-2 c = simp length-set (omega arith)

pub store-requires : goal.store-requires
store-requires c = simp length-set (omega arith)

pub shape_of-words : goal.shape_of-words
unfolding stored
shape_of-words c = ap length c.store.ensures ∙ simp (length-sets, length-set)

pub returns : goal.returns
unfolding read_segment_words stored
returns c = let k = c.args.k in
    let one : k + 1 ≡ suc k = omega arith in
    let two : k + 2 ≡ suc (suc k) = omega arith in
    c.store.ensures ∙ rw (add-zero, one, two)
