-- `chunk_lists::check_write_list` meets its contract.
use mathlib.Core.Path.{ap, sym, ◌∙◌}
use native.Mathlib.Omega.{arith}
use lib.ListN.{length-drop}
use Rattle.std.specs.Prelude.{Ok}
use Rattle.std.proofs.lemmas.Result.{err_from_is_err_and}
use Rattle.answers.specs.Refusals.{numbered}
use Rattle.wire.proofs.Fields.{part_from}
use Rattle.chunk_lists.proofs.ListBytes.{marker_there, no_chunks}
use Rattle.chunk_lists.proofs.ListSteps.{Closes, closes, closed_by, bytes_before}
use Rattle.chunk_lists.proofs.check_write_list.Goals as goal

pub overflow_sub-result : goal.overflow_sub-result
overflow_sub-result c = marker_there _ _ c.check_marker.ensures (ap numbered c.in-Ok-End.is ∙ ap Ok c.in-Ok-End.field-0-is)

pub returns-in-Ok-End : goal.returns-in-Ok-End
returns-in-Ok-End c = no_chunks _ _ c.check_marker.ensures (ap numbered c.in-Ok-End.is ∙ ap Ok c.in-Ok-End.field-0-is)

pub overflow_sub-entries : goal.overflow_sub-entries
overflow_sub-entries c = let s = c.args.s.now in
    let p : Closes 4 16 s c.room_behind-room.result = rw c.room_behind-room.ensures (closes 4 16 s) in
    p.few

pub overflow_sub-segments : goal.overflow_sub-segments
overflow_sub-segments c = let s = c.args.s.now in
    let p : Closes 4 16 s c.room_behind-room.result = rw c.room_behind-room.ensures (closes 4 16 s) in
    p.within

pub slice_bounds-rest-count : goal.slice_bounds-rest-count
slice_bounds-rest-count c = let s = c.args.s.now in
    let p : Closes 4 16 s c.room_behind-room.result = rw c.room_behind-room.ensures (closes 4 16 s) in
    p.long

pub slice_bounds-rest-start : goal.slice_bounds-rest-start
slice_bounds-rest-start c = let s = c.args.s.now in
    let p : Closes 4 16 s c.room_behind-room.result = rw c.room_behind-room.ensures (closes 4 16 s) in
    p.long

pub check_chunk-requires : goal.check_chunk-requires
check_chunk-requires c = let s = c.args.s.now in
    let p : Closes 4 16 s c.room_behind-room.result = rw c.room_behind-room.ensures (closes 4 16 s) in
    p.within

pub returns-in_err-check_chunk : goal.returns-in_err-check_chunk
returns-in_err-check_chunk c = let s = c.args.s.now in
    let p : Closes 4 16 s c.room_behind-room.result = rw c.room_behind-room.ensures (closes 4 16 s) in
    let q = err_from_is_err_and c.from_residual.result c.from_residual.ensures.1 in
    rw (q.1, q.2) (p.faulty _ (rw part_from at (sym c.check_chunk.ensures ∙ ap numbered c.in_err-check_chunk.was)))

pub overflow_sub-result-2 : goal.overflow_sub-result-2
overflow_sub-result-2 c = let s = c.args.s.now in
    let r = c.room_behind-room.result in
    let p : Closes 4 16 s r = rw c.room_behind-room.ensures (closes 4 16 s) in
    let d = closed_by 4 16 s _ p _ (rw part_from at (sym c.check_chunk.ensures ∙ ap numbered c.in_ok-check_chunk.was)) in
    rw part_from (omega (arith, d.0, length-drop (bytes_before 4 16 r) s))

pub returns : goal.returns
returns c = let s = c.args.s.now in
    let p : Closes 4 16 s c.room_behind-room.result = rw c.room_behind-room.ensures (closes 4 16 s) in
    let d = closed_by 4 16 s _ p _ (rw part_from at (sym c.check_chunk.ensures ∙ ap numbered c.in_ok-check_chunk.was)) in
    rw (part_from, length-drop) d.1
