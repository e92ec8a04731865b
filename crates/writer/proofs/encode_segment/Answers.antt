-- `writer::encode_segment` meets its contract.
use mathlib.Core.Path.{refl}
use Prim.Native.Nat.{◌<◌, ◌+◌}
use native.Mathlib.Nat.{add-zero}
use native.Mathlib.Omega.{arith}
use lib.ListN.{get_or}
use Rattle.wire.proofs.Fields.{then}
use Rattle.wire.specs.Wire.{word_bytes}
use Rattle.wire.proofs.Words.{segment_in_bytes}
use Rattle.writer.proofs.encode_segment.Goals as goal

pub returns : goal.returns
unfolding word_bytes
returns c = let a = c.args in
    let known = c.type_inv.words (a.from + 2) in
    let low : get_or a.words.now (a.from + 2) 0 < 4294967296 = omega arith in
    rw (segment_in_bytes a.words.now a.from low)
    (then _ _ _ _ _ _ _ (then _ _ _ _ _ _ _ (then _ _ _ _ _ _ _ (rw (add-zero a.from) at c.put_word.ensures) c.put_word-2.ensures refl) c.put_word-3.ensures refl) c.put_word-4.ensures refl)
