-- `chunk_lists::check_read_step` meets its contract.
use mathlib.Core.Path.{ap, ◌∙◌}
use Rattle.std.specs.Prelude.{Ok}
use Rattle.std.proofs.lemmas.Result.{err_from_is_err_and}
use Rattle.answers.specs.Refusals.{numbered}
use Rattle.wire.proofs.Fields.{part_from}
use Rattle.chunk_lists.specs.Internal.Steps.{read_step}
use Rattle.chunk_lists.specs.declared.Marker.TheVariants as marker
use Rattle.chunk_lists.proofs.ListSteps.{entry_there, marked_end, marked_fault, marked_full, marked_entry}
use Rattle.chunk_lists.proofs.check_read_step.Goals as goal

pub returns-in_err-check_marker : goal.returns-in_err-check_marker
unfolding read_step
returns-in_err-check_marker c = let p = err_from_is_err_and c.from_residual.result c.from_residual.ensures.1 in
    rw (p.1, p.2) (marked_fault marker.End _ _ _ _ c.check_marker.ensures _ (ap numbered c.in_err-check_marker.was))

pub returns-then-room-eq0 : goal.returns-then-room-eq0
unfolding read_step
returns-then-room-eq0 c = marked_full marker.End _ _ _ _ c.check_marker.ensures (ap numbered c.in_ok-check_marker.was ∙ ap Ok c.in-Entry.is) c.if-room-eq0.true

pub slice_bounds-check_read_entry-count : goal.slice_bounds-check_read_entry-count
slice_bounds-check_read_entry-count c = entry_there _ _ c.check_marker.ensures (ap numbered c.in_ok-check_marker.was ∙ ap Ok c.in-Entry.is)

pub slice_bounds-check_read_entry-start : goal.slice_bounds-check_read_entry-start
slice_bounds-check_read_entry-start c = entry_there _ _ c.check_marker.ensures (ap numbered c.in_ok-check_marker.was ∙ ap Ok c.in-Entry.is)

pub returns-in-End : goal.returns-in-End
unfolding read_step
returns-in-End c = marked_end marker.End _ _ _ _ c.check_marker.ensures (ap numbered c.in_ok-check_marker.was ∙ ap Ok c.in-End.is)

pub returns-else-room-eq0 : goal.returns-else-room-eq0
unfolding read_step
returns-else-room-eq0 c = c.check_read_entry.ensures ∙ rw part_from
    (marked_entry marker.End _ _ _ _ c.check_marker.ensures (ap numbered c.in_ok-check_marker.was ∙ ap Ok c.in-Entry.is) c.if-room-eq0.false)
