-- `writer::encode_fixed` meets its contract.
use mathlib.Core.Path.{refl}
use Rattle.wire.specs.Wire.{word_bytes}
use Rattle.header.specs.Bytes.{fixed_bytes}
use Rattle.writer.proofs.HeaderWriting.{interleaved}
use Rattle.writer.proofs.encode_fixed.Goals as goal

pub returns : goal.returns
unfolding fixed_bytes word_bytes
returns c = let procedure = c.procedure_of.ensures in
    interleaved _ _ _ _ _ _ _ _ _ c.put_word.ensures (rw (← procedure) c.put_word-2.ensures) c.put_word-3.ensures c.put_word-4.ensures refl refl refl
