-- `chunk_lists::count_entries` meets its contract.
use mathlib.Core.Path.{ap, sym, ◌∙◌}
use Prim.Native.Nat.{◌≤◌, ◌-◌}
use native.Mathlib.Omega.{arith}
use borrow.Author.Rules.{rules}
use Rattle.std.specs.Prelude.{Ok}
use Rattle.answers.specs.Refusals.{numbered}
use Rattle.wire.proofs.Fields.{part_from}
use Rattle.chunk_lists.proofs.ListSteps.{read_room, read_long, front_more, front_ended, front_refused, front_few}
use Rattle.chunk_lists.proofs.+count_entries.Goals as goal

pub slice_bounds-count_entries-count : goal.slice_bounds-count_entries-count
slice_bounds-count_entries-count t c = read_long _ _ (sym c.check_read_step.ensures ∙ ap numbered c.in-Ok-Entry.is ∙ ap Ok c.in-Ok-Entry.field-0-is)

pub slice_bounds-count_entries-start : goal.slice_bounds-count_entries-start
slice_bounds-count_entries-start t c = read_long _ _ (sym c.check_read_step.ensures ∙ ap numbered c.in-Ok-Entry.is ∙ ap Ok c.in-Ok-Entry.field-0-is)

pub overflow_sub-room : goal.overflow_sub-room
overflow_sub-room t c = read_room _ _ (sym c.check_read_step.ensures ∙ ap numbered c.in-Ok-Entry.is ∙ ap Ok c.in-Ok-Entry.field-0-is)

pub count_entries-requires : goal.count_entries-requires
count_entries-requires t c = let more = read_room _ _ (sym c.check_read_step.ensures ∙ ap numbered c.in-Ok-Entry.is ∙ ap Ok c.in-Ok-Entry.field-0-is) in search rules

pub overflow_add-result : goal.overflow_add-result
overflow_add-result t c = let more = read_room _ _ (sym c.check_read_step.ensures ∙ ap numbered c.in-Ok-Entry.is ∙ ap Ok c.in-Ok-Entry.field-0-is) in
    let few : c.count_entries.result ≤ c.args.room - 1 = rw c.count_entries.ensures (front_few _ _) in
    record { fits = omega (arith, c.ranges.room.fits) }

pub returns-in-Ok-Entry : goal.returns-in-Ok-Entry
returns-in-Ok-Entry t c = rw (c.count_entries.ensures, part_from) (front_more _ _ (sym c.check_read_step.ensures ∙ ap numbered c.in-Ok-Entry.is ∙ ap Ok c.in-Ok-Entry.field-0-is))

pub returns-in-Ok-End : goal.returns-in-Ok-End
returns-in-Ok-End t c = front_ended _ _ (sym c.check_read_step.ensures ∙ ap numbered c.in-Ok-End.is ∙ ap Ok c.in-Ok-End.field-0-is)

pub returns-in-Err : goal.returns-in-Err
returns-in-Err t c = front_refused _ _ _ (sym c.check_read_step.ensures ∙ ap numbered c.in-Err.is)
