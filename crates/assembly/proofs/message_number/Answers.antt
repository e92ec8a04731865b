-- The number of the answer.
use Rattle.std.proofs.Common.{◌∙◌}
use Rattle.assembly.proofs.Pieces.{asked_number}
use Rattle.assembly.proofs.message_number.Goals as goal

pub returns : goal.returns
returns c = c.number.ensures ∙ asked_number _ _ _ c.message_answer.ensures
