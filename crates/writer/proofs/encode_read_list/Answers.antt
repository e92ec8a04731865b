-- `writer::encode_read_list` meets its contract.
use mathlib.Core.Path.{◌≡◌, refl}
use native.Mathlib.Omega.{arith}
use borrow.Author.Rules.{rules}
use Rattle.wire.specs.Wire.{stored, joined, zero_read_segment}
use Rattle.wire.proofs.Joining.{stored_next, stored_behind}
use Rattle.chunk_lists.specs.Words.{reads_in}
use Rattle.chunk_lists.proofs.Words.{length_reads, segment_here}
use Rattle.header.specs.Bytes.{entry_bytes, read_list_bytes}
use Rattle.header.proofs.Bytes.{entry_length}
use Rattle.writer.proofs.encode_read_list.Goals as goal

pub loop-j-init : goal.loop-j-init
unfolding stored joined
loop-j-init c = (search rules, refl, refl)

pub loop-j-preserved : goal.loop-j-preserved
loop-j-preserved c = let a = c.args in
    let here = c.loop-j in
    let full = length_reads a.words.now in
    (search rules, search rules, stored_next entry_bytes 24 entry_length (reads_in a.words.now) zero_read_segment here.j a.k (omega arith) _ _ _ here.invariant.2 (rw (segment_here a.words.now here.j (omega arith)) c.encode_entry.ensures))

pub returns : goal.returns
unfolding read_list_bytes
returns c = let a = c.args in
    let here = c.loop-j in
    let full = length_reads a.words.now in
    let e : here.j ≡ a.n = omega arith in
    stored_behind entry_bytes 24 entry_length (reads_in a.words.now) a.n a.k (omega arith) _ _ _ _ (rw e at here.invariant.2) c.put_word.ensures
