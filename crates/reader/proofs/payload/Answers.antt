-- `reader::payload` meets its contract.
use Rattle.wire.proofs.Fields.{part_from}
use mathlib.Core.Path.{ap, sym, ◌∙◌}
use Rattle.answers.specs.Refusals.{numbered}
use Rattle.reader.proofs.FrameParts.{found, unfound, payload_part}
use Rattle.reader.proofs.payload.Goals as goal

pub returns-in_default : goal.returns-in_default
returns-in_default c = rw (unfound c.args.s.now _ (sym c.check_frame.ensures ∙ ap numbered c.in_default.is))

pub slice_bounds-result-count-2 : goal.slice_bounds-result-count-2
slice_bounds-result-count-2 c = (payload_part c.args.s.now c.in-Ok.shape (found c.args.s.now c.in-Ok.shape (sym c.check_frame.ensures ∙ ap numbered c.in-Ok.is))).0

pub slice_bounds-result-start-2 : goal.slice_bounds-result-start-2
slice_bounds-result-start-2 c = (payload_part c.args.s.now c.in-Ok.shape (found c.args.s.now c.in-Ok.shape (sym c.check_frame.ensures ∙ ap numbered c.in-Ok.is))).0

pub returns : goal.returns
returns c = part_from c.in-Ok.shape.end c.args.s.now ∙ (payload_part c.args.s.now c.in-Ok.shape (found c.args.s.now c.in-Ok.shape (sym c.check_frame.ensures ∙ ap numbered c.in-Ok.is))).1
