-- `wire::SegmentItem::store` meets its contract.
use mathlib.Core.Path.{◌≡◌}
use Prim.Native.Nat.{◌+◌, suc}
use native.Mathlib.Nat.{add-zero}
use native.Mathlib.Omega.{arith}
use lib.ListN.{length-set}
use Rattle.wire.specs.Wire.{stored}
use Rattle.wire.specs.Words.{segment_words}
use Rattle.wire.proofs.SegmentItem.store.Goals as goal

pub returns : goal.returns
unfolding segment_words stored
returns c = let k = c.args.k in
    let one : k + 1 ≡ suc k = omega arith in
    let two : k + 2 ≡ suc (suc k) = omega arith in
    let three : k + 3 ≡ suc (suc (suc k)) = omega arith in
    rw (add-zero, one, two, three)
