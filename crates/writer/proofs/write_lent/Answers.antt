-- `writer::write_lent` meets its contract.
use mathlib.Core.Path.{sym, ap, ◌∙◌}
use borrow.Author.Rules.{rules}
use Rattle.answers.specs.Refusals.{numbered}
use Rattle.writer.proofs.HeaderWriting.{accepted}
use Rattle.header.proofs.Outcomes.{outcome_ok}
use Rattle.writer.proofs.Outcomes.{buffer_refused, buffer_written}
use Rattle.writer.proofs.write_lent.Goals as goal

pub encode_header-requires : goal.encode_header-requires
encode_header-requires c = accepted _ _ (outcome_ok _ _ _ (ap numbered (sym c.in_ok-length.was) ∙ c.check_header.ensures))

pub returns-in_err-length-clause-buffer : goal.returns-in_err-length-clause-buffer
returns-in_err-length-clause-buffer c = buffer_refused _ _ _ _ (search rules) (ap numbered (sym c.in_err-length.was) ∙ c.check_header.ensures)

pub returns-clause-buffer : goal.returns-clause-buffer
returns-clause-buffer c = buffer_written _ _ _ _ _ (search rules) (ap numbered (sym c.in_ok-length.was) ∙ c.check_header.ensures) c.encode_header.ensures
