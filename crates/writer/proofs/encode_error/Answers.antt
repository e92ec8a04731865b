-- `writer::encode_error` meets its contract.
use mathlib.Core.Path.{refl}
use Rattle.wire.proofs.Fields.{then}
use Rattle.wire.specs.Wire.{word_bytes}
use Rattle.header.specs.Bytes.{error_bytes}
use Rattle.writer.proofs.encode_error.Goals as goal

pub returns-in-Version : goal.returns-in-Version
unfolding error_bytes word_bytes
returns-in-Version c = rw c.in-Version.is (refl, then _ _ _ _ _ _ _ (then _ _ _ _ _ _ _ c.put_word.ensures c.put_word-in-Version.ensures refl) c.put_word-in-Version-2.ensures refl)

pub returns-in-Chunk : goal.returns-in-Chunk
unfolding error_bytes word_bytes
returns-in-Chunk c = rw c.in-Chunk.is (refl, c.put_word-in-Chunk.ensures)
