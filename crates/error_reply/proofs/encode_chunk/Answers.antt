-- `error_reply::encode_chunk` meets its contract.
use Rattle.wire.proofs.Fields.{then}
use mathlib.Core.Path.{refl}
use Rattle.wire.specs.Wire.{words, joined, word_bytes}
use Rattle.error_reply.proofs.encode_chunk.Goals as goal

pub returns : goal.returns
unfolding words joined word_bytes
returns c = let front = then _ _ _ _ _ _ _ c.put_word.ensures c.put_word-2.ensures refl in
    rw (← c.word_at.ensures, ← front) (then _ _ _ _ _ _ _ c.put_word-3.ensures c.put_word-4.ensures refl)
