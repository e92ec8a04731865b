-- `writer::encode_entry` meets its contract.
use mathlib.Core.Path.{refl}
use native.Mathlib.Omega.{arith}
use lib.Seq.{drop-drop, get_or-drop}
use Rattle.wire.proofs.Fields.{then}
use Rattle.wire.specs.Wire.{word_bytes, read_segment_bytes}
use Rattle.wire.specs.Words.{read_segment_in}
use Rattle.header.specs.Bytes.{entry_bytes}
use Rattle.writer.proofs.encode_entry.Goals as goal

pub returns : goal.returns
unfolding entry_bytes read_segment_bytes read_segment_in word_bytes
returns c = let a = c.args in
    rw (drop-drop 2 a.from a.words.now, get_or-drop a.from a.words.now 0 0)
    (then _ _ _ _ _ _ _ c.put_word.ensures (then _ _ _ _ _ _ _ c.put_word-2.ensures c.encode_segment.ensures (omega arith)) refl)
