-- The length is stored where asking is not refused.
use Rattle.std.proofs.Common.{sym, ◌∙◌}
use borrow.Author.Tests.{ne_eqb}
use Rattle.c_assembly.specs.Message.{message_size}
use Rattle.assembly.proofs.Pieces.{asked_done, asked_number, asked_other}
use Rattle.c_assembly.proofs.eos_message.Goals as goal

pub returns-in_default : goal.returns-in_default
unfolding message_size
returns-in_default c =
    record {
      answer = c.number.ensures ∙ asked_number _ _ _ c.message_answer-asked.ensures;
      size = rw (ne_eqb _ _ (asked_other _ _ _ c.message_answer-asked.ensures c.in_default.not-Ok));
    }

pub returns : goal.returns
unfolding message_size
returns c =
    let done = asked_done _ _ _ c.message_answer-asked.ensures _ c.in-Ok.is in
    record { answer = sym done.0; size = rw (done.0, done.1) }
