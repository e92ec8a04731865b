-- `writer::encode_chunk` meets its contract.
use mathlib.Core.Path.{◌≡◌, refl}
use native.Mathlib.Omega.{arith}
use lib.ListN.{length, take, drop, length-drop}
use lib.Seq.{length-take-le}
use Rattle.wire.specs.Wire.{word_bytes}
use Rattle.wire.proofs.Fields.{then}
use Rattle.chunk_lists.specs.Words.{segments_in}
use Rattle.chunk_lists.proofs.Words.{length_segments}
use Rattle.header.specs.Bytes.{chunk_bytes, counted_bytes}
use Rattle.writer.proofs.encode_chunk.Goals as goal

pub returns : goal.returns
unfolding chunk_bytes counted_bytes word_bytes
returns c = let a = c.args in
    let full = length_segments a.from a.words.now in
    let count : length (take a.n (drop a.i (segments_in a.from a.words.now))) ≡ a.n = length-take-le _ _ (rw length-drop (omega arith)) in
    rw count (then _ _ _ _ _ _ _ (then _ _ _ _ _ _ _ c.put_word.ensures c.put_word-2.ensures refl) c.encode_segments.ensures refl)
