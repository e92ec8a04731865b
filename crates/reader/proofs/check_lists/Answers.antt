-- `reader::check_lists` meets its contract.
use mathlib.Core.Path.{ap, ◌∙◌}
use native.Mathlib.Omega.{arith}
use Rattle.std.specs.Prelude.{Ok}
use Rattle.std.proofs.lemmas.Result.{err_from_is_err_and}
use Rattle.answers.specs.Refusals.{numbered}
use mathlib.Core.Option.{none, some}
use lib.ListN.{drop}
use Rattle.wire.specs.Wire.{word_at}
use Rattle.reader.proofs.FrameChecks.{reads_found, reads_refused, writes_found, writes_refused, no_reply, absent_reply, present_reply, parts_reads, parts_writes, parts_reply, parts_done}
use Rattle.reader.proofs.check_lists.Goals as goal

pub returns-in_err-reads : goal.returns-in_err-reads
returns-in_err-reads c =
    let s = c.args.s.now in
    let p = err_from_is_err_and c.from_residual.result c.from_residual.ensures.1 in
    rw (p.1, p.2) (parts_reads c.args.kind (word_at s 0) (word_at s 8) s (drop 16 s) _ (reads_refused s (numbered c.check_read_list.result) c.requires c.check_read_list.ensures _ (ap numbered c.in_err-reads.was)))

pub overflow_sub-w : goal.overflow_sub-w
overflow_sub-w c =
    let s = c.args.s.now in
    let a = reads_found s (numbered c.check_read_list.result) c.requires c.check_read_list.ensures _ _ (ap numbered c.in_ok-reads.was) in
    a.fits

pub returns-in_err-writes : goal.returns-in_err-writes
returns-in_err-writes c =
    let s = c.args.s.now in
    let a = reads_found s (numbered c.check_read_list.result) c.requires c.check_read_list.ensures _ _ (ap numbered c.in_ok-reads.was) in
    let p = err_from_is_err_and c.from_residual-in_err-writes.result c.from_residual-in_err-writes.ensures.1 in
    rw (p.1, p.2) (parts_writes c.args.kind (word_at s 0) (word_at s 8) s (drop 16 s) a.found _ a.read _ (writes_refused s (numbered c.check_write_list.result) _ (omega (arith, a.fits)) c.check_write_list.ensures _ (ap numbered c.in_err-writes.was)))

pub overflow_sub-p : goal.overflow_sub-p
overflow_sub-p c =
    let s = c.args.s.now in
    let a = reads_found s (numbered c.check_read_list.result) c.requires c.check_read_list.ensures _ _ (ap numbered c.in_ok-reads.was) in
    let b = writes_found s (numbered c.check_write_list.result) _ (omega (arith, a.fits)) c.check_write_list.ensures _ _ (ap numbered c.in_ok-writes.was) in
    b.fits

pub returns-in_err-check_chunk : goal.returns-in_err-check_chunk
returns-in_err-check_chunk c =
    let s = c.args.s.now in
    let a = reads_found s (numbered c.check_read_list.result) c.requires c.check_read_list.ensures _ _ (ap numbered c.in_ok-reads.was) in
    let b = writes_found s (numbered c.check_write_list.result) _ (omega (arith, a.fits)) c.check_write_list.ensures _ _ (ap numbered c.in_ok-writes.was) in
    let p = err_from_is_err_and c.from_residual-in_err-check_chunk.result c.from_residual-in_err-check_chunk.ensures.1 in
    rw (p.1, p.2) (parts_reply c.args.kind (word_at s 0) (word_at s 8) s (drop 16 s) a.found _ a.read b.found _ b.read _ (no_reply s (numbered c.check_chunk.result) _ (omega (arith, b.fits)) c.check_chunk.ensures _ (ap numbered c.in_err-check_chunk.was)))

pub overflow_mul-result : goal.overflow_mul-result
overflow_mul-result c =
    let s = c.args.s.now in
    let a = reads_found s (numbered c.check_read_list.result) c.requires c.check_read_list.ensures _ _ (ap numbered c.in_ok-reads.was) in
    let b = writes_found s (numbered c.check_write_list.result) _ (omega (arith, a.fits)) c.check_write_list.ensures _ _ (ap numbered c.in_ok-writes.was) in
    let r = present_reply s (numbered c.check_chunk.result) _ (omega (arith, b.fits)) c.check_chunk.ensures _ (ap numbered c.in_ok-check_chunk.was ∙ ap Ok c.in-Some.is) in
    omega (arith, r.few)

pub overflow_add-result-in-Some-2 : goal.overflow_add-result-in-Some-2
overflow_add-result-in-Some-2 c =
    let s = c.args.s.now in
    let a = reads_found s (numbered c.check_read_list.result) c.requires c.check_read_list.ensures _ _ (ap numbered c.in_ok-reads.was) in
    let b = writes_found s (numbered c.check_write_list.result) _ (omega (arith, a.fits)) c.check_write_list.ensures _ _ (ap numbered c.in_ok-writes.was) in
    let r = present_reply s (numbered c.check_chunk.result) _ (omega (arith, b.fits)) c.check_chunk.ensures _ (ap numbered c.in_ok-check_chunk.was ∙ ap Ok c.in-Some.is) in
    omega (arith, r.long)

pub returns-in-None : goal.returns-in-None
returns-in-None c =
    let s = c.args.s.now in
    let a = reads_found s (numbered c.check_read_list.result) c.requires c.check_read_list.ensures _ _ (ap numbered c.in_ok-reads.was) in
    let b = writes_found s (numbered c.check_write_list.result) _ (omega (arith, a.fits)) c.check_write_list.ensures _ _ (ap numbered c.in_ok-writes.was) in
    let r = absent_reply s (numbered c.check_chunk.result) _ (omega (arith, b.fits)) c.check_chunk.ensures (ap numbered c.in_ok-check_chunk.was ∙ ap Ok c.in-None.is) in
    let d = parts_done c.args.kind (word_at s 0) (word_at s 8) s (drop 16 s) a.found _ a.read b.found _ b.read none _ r.0 r.1 in
    rw (a.many, b.many) at d

pub returns-in-Some : goal.returns-in-Some
returns-in-Some c =
    let s = c.args.s.now in
    let a = reads_found s (numbered c.check_read_list.result) c.requires c.check_read_list.ensures _ _ (ap numbered c.in_ok-reads.was) in
    let b = writes_found s (numbered c.check_write_list.result) _ (omega (arith, a.fits)) c.check_write_list.ensures _ _ (ap numbered c.in_ok-writes.was) in
    let r = present_reply s (numbered c.check_chunk.result) _ (omega (arith, b.fits)) c.check_chunk.ensures _ (ap numbered c.in_ok-check_chunk.was ∙ ap Ok c.in-Some.is) in
    let d = parts_done c.args.kind (word_at s 0) (word_at s 8) s (drop 16 s) a.found _ a.read b.found _ b.read (some r.chunk) _ r.long r.read in
    rw (a.many, b.many, r.many) at d
