-- `chunk_lists::check_read_list` meets its contract.
use mathlib.Core.Path.{ap, sym, ◌∙◌}
use native.Mathlib.Omega.{arith}
use lib.ListN.{length-drop}
use Rattle.std.specs.Prelude.{◌*◌, Ok}
use Rattle.std.proofs.lemmas.Result.{err_from_is_err_and}
use Rattle.answers.specs.Refusals.{numbered}
use Rattle.wire.proofs.Fields.{part_from}
use Rattle.chunk_lists.proofs.ListBytes.{marker_there, no_entries}
use Rattle.chunk_lists.proofs.ListSteps.{Stops, stops, ended_by}
use Rattle.chunk_lists.proofs.check_read_list.Goals as goal

pub overflow_sub-result : goal.overflow_sub-result
overflow_sub-result c = marker_there _ _ c.check_marker.ensures (ap numbered c.in-Ok-End.is ∙ ap Ok c.in-Ok-End.field-0-is)

pub returns-in-Ok-End : goal.returns-in-Ok-End
returns-in-Ok-End c = no_entries _ _ c.check_marker.ensures (ap numbered c.in-Ok-End.is ∙ ap Ok c.in-Ok-End.field-0-is)

pub overflow_mul-rest : goal.overflow_mul-rest
overflow_mul-rest c = let s = c.args.s.now in
    let n : Stops 16 s c.count_entries-entries.result = rw c.count_entries-entries.ensures (stops 16 s) in
    omega (arith, n.few)

pub slice_bounds-rest-count : goal.slice_bounds-rest-count
slice_bounds-rest-count c = let s = c.args.s.now in
    let n : Stops 16 s c.count_entries-entries.result = rw c.count_entries-entries.ensures (stops 16 s) in
    n.long

pub slice_bounds-rest-start : goal.slice_bounds-rest-start
slice_bounds-rest-start c = let s = c.args.s.now in
    let n : Stops 16 s c.count_entries-entries.result = rw c.count_entries-entries.ensures (stops 16 s) in
    n.long

pub overflow_sub-entries : goal.overflow_sub-entries
overflow_sub-entries c = let s = c.args.s.now in
    let n : Stops 16 s c.count_entries-entries.result = rw c.count_entries-entries.ensures (stops 16 s) in
    n.few

pub returns-in_err-check_read_step : goal.returns-in_err-check_read_step
returns-in_err-check_read_step c = let s = c.args.s.now in
    let n : Stops 16 s c.count_entries-entries.result = rw c.count_entries-entries.ensures (stops 16 s) in
    let p = err_from_is_err_and c.from_residual.result c.from_residual.ensures.1 in
    rw (p.1, p.2) (n.faulty _ (rw part_from at (sym c.check_read_step.ensures ∙ ap numbered c.in_err-check_read_step.was)))

pub overflow_sub-result-2 : goal.overflow_sub-result-2
overflow_sub-result-2 c = let s = c.args.s.now in
    let n : Stops 16 s c.count_entries-entries.result = rw c.count_entries-entries.ensures (stops 16 s) in
    let d = ended_by 16 s _ n _ (rw part_from at (sym c.check_read_step.ensures ∙ ap numbered c.in_ok-check_read_step.was)) in
    rw part_from (omega (arith, d.0, length-drop (c.count_entries-entries.result * 24) s))

pub returns : goal.returns
returns c = let s = c.args.s.now in
    let n : Stops 16 s c.count_entries-entries.result = rw c.count_entries-entries.ensures (stops 16 s) in
    let d = ended_by 16 s _ n _ (rw part_from at (sym c.check_read_step.ensures ∙ ap numbered c.in_ok-check_read_step.was)) in
    rw (part_from, length-drop) d.1
