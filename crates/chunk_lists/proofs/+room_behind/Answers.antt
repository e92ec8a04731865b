-- `chunk_lists::room_behind` meets its contract.
use mathlib.Core.Path.{ap, sym, ◌∙◌}
use Rattle.std.specs.Prelude.{Ok}
use Rattle.answers.specs.Refusals.{numbered}
use Rattle.wire.proofs.Fields.{part_from}
use borrow.Author.Rules.{rules}
use native.Mathlib.Omega.{arith}
use Rattle.chunk_lists.proofs.ListSteps.{write_room, write_few, write_long, room_ended, room_refused, room_more}
use Rattle.chunk_lists.proofs.+room_behind.Goals as goal

pub overflow_mul-end : goal.overflow_mul-end
overflow_mul-end t c = record { fits = omega (arith, c.requires, write_few _ _ _ _ c.check_chunk.ensures _ (ap numbered c.in-Ok-Some.is ∙ ap Ok c.in-Ok-Some.field-0-is)) }

pub overflow_add-end : goal.overflow_add-end
overflow_add-end t c = record { fits = omega (arith, c.requires, write_few _ _ _ _ c.check_chunk.ensures _ (ap numbered c.in-Ok-Some.is ∙ ap Ok c.in-Ok-Some.field-0-is)) }

pub slice_bounds-room_behind-count : goal.slice_bounds-room_behind-count
slice_bounds-room_behind-count t c = write_long _ _ _ _ c.check_chunk.ensures _ (ap numbered c.in-Ok-Some.is ∙ ap Ok c.in-Ok-Some.field-0-is)

pub slice_bounds-room_behind-start : goal.slice_bounds-room_behind-start
slice_bounds-room_behind-start t c = write_long _ _ _ _ c.check_chunk.ensures _ (ap numbered c.in-Ok-Some.is ∙ ap Ok c.in-Ok-Some.field-0-is)

pub overflow_sub-room : goal.overflow_sub-room
overflow_sub-room t c = write_room _ _ _ _ c.check_chunk.ensures _ (ap numbered c.in-Ok-Some.is ∙ ap Ok c.in-Ok-Some.field-0-is)

pub overflow_sub-left : goal.overflow_sub-left
overflow_sub-left t c = write_few _ _ _ _ c.check_chunk.ensures _ (ap numbered c.in-Ok-Some.is ∙ ap Ok c.in-Ok-Some.field-0-is)

pub room_behind-requires : goal.room_behind-requires
room_behind-requires t c = let more = write_room _ _ _ _ c.check_chunk.ensures _ (ap numbered c.in-Ok-Some.is ∙ ap Ok c.in-Ok-Some.field-0-is) in search rules

pub returns-in-Ok-Some : goal.returns-in-Ok-Some
returns-in-Ok-Some t c = rw (c.room_behind.ensures, part_from) (room_more _ _ _ _ (sym c.check_chunk.ensures ∙ ap numbered c.in-Ok-Some.is ∙ ap Ok c.in-Ok-Some.field-0-is))

pub returns-in-Ok-None : goal.returns-in-Ok-None
returns-in-Ok-None t c = room_ended _ _ _ (sym c.check_chunk.ensures ∙ ap numbered c.in-Ok-None.is ∙ ap Ok c.in-Ok-None.field-0-is)

pub returns-in-Err : goal.returns-in-Err
returns-in-Err t c = room_refused _ _ _ _ (sym c.check_chunk.ensures ∙ ap numbered c.in-Err.is)
