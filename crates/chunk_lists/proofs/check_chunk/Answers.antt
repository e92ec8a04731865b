-- `chunk_lists::check_chunk` meets its contract.
use mathlib.Core.Path.{ap, sym, ◌∙◌}
use Rattle.std.specs.Prelude.{None, Ok}
use Rattle.std.proofs.lemmas.Result.{err_from_is_err_and}
use Rattle.answers.specs.Refusals.{numbered}
use Rattle.wire.proofs.Fields.{part_from}
use Rattle.chunk_lists.specs.Internal.Steps.{one_chunk, chunk_step}
use Rattle.chunk_lists.proofs.ListSteps.{entry_there, marked_end, marked_fault, marked_full, marked_entry}
use Rattle.chunk_lists.proofs.check_chunk.Goals as goal

pub returns-in_err-check_marker : goal.returns-in_err-check_marker
unfolding chunk_step
returns-in_err-check_marker c = let p = err_from_is_err_and c.from_residual.result c.from_residual.ensures.1 in
    rw (p.1, p.2) (marked_fault None _ _ _ _ c.check_marker.ensures _ (ap numbered c.in_err-check_marker.was))

pub returns-then-room-eq0 : goal.returns-then-room-eq0
unfolding chunk_step
returns-then-room-eq0 c = marked_full None _ _ _ _ c.check_marker.ensures (ap numbered c.in_ok-check_marker.was ∙ ap Ok c.in-Entry.is) c.if-room-eq0.true

pub slice_bounds-check_count-count : goal.slice_bounds-check_count-count
unfolding chunk_step
slice_bounds-check_count-count c = entry_there _ _ c.check_marker.ensures (ap numbered c.in_ok-check_marker.was ∙ ap Ok c.in-Entry.is)

pub slice_bounds-check_count-start : goal.slice_bounds-check_count-start
unfolding chunk_step
slice_bounds-check_count-start c = entry_there _ _ c.check_marker.ensures (ap numbered c.in_ok-check_marker.was ∙ ap Ok c.in-Entry.is)

pub returns-in-End : goal.returns-in-End
unfolding chunk_step
returns-in-End c = marked_end None _ _ _ _ c.check_marker.ensures (ap numbered c.in_ok-check_marker.was ∙ ap Ok c.in-End.is)

pub returns-in_err-n-in-Entry : goal.returns-in_err-n-in-Entry
unfolding chunk_step
returns-in_err-n-in-Entry c = let p = err_from_is_err_and c.from_residual-in_err-n-in-Entry.result c.from_residual-in_err-n-in-Entry.ensures.1 in
    rw (p.1, p.2)
    (ap one_chunk (sym (ap numbered c.in_err-n-in-Entry.was) ∙ c.check_count.ensures) ∙ rw part_from
    (marked_entry None _ _ _ _ c.check_marker.ensures (ap numbered c.in_ok-check_marker.was ∙ ap Ok c.in-Entry.is) c.if-room-eq0.false))

pub returns-in_ok-n-in-Entry : goal.returns-in_ok-n-in-Entry
unfolding chunk_step
returns-in_ok-n-in-Entry c =
    ap one_chunk (sym (ap numbered c.in_ok-n-in-Entry.was) ∙ c.check_count.ensures) ∙ rw part_from
    (marked_entry None _ _ _ _ c.check_marker.ensures (ap numbered c.in_ok-check_marker.was ∙ ap Ok c.in-Entry.is) c.if-room-eq0.false)
