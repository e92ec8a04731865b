-- `writer::write_words` meets its contract.
use mathlib.Core.Path.{sym, ap, ◌∙◌}
use Rattle.std.specs.Prelude.{Ok, Err}
use Rattle.answers.specs.Refusals.{numbered}
use Rattle.answers.specs.declared.WriteAnswer.{WriteAnswer}
use Rattle.header.specs.Words.{header_in}
use Rattle.writer.proofs.Outcomes.{answer_is, size_kept}
use Rattle.writer.proofs.write_words.Goals as goal

pub returns-in-Ok-clause-answer : goal.returns-in-Ok-clause-answer
returns-in-Ok-clause-answer c = ap (λ (a : WriteAnswer). a.number) (answer_is (header_in c.args.words.now) _ (Ok c.in-Ok.length) (ap numbered (sym c.in-Ok.is) ∙ c.write_lent.ensures.outcome))

pub returns-in-Ok-clause-size : goal.returns-in-Ok-clause-size
returns-in-Ok-clause-size c = rw (← (answer_is (header_in c.args.words.now) _ (Ok c.in-Ok.length) (ap numbered (sym c.in-Ok.is) ∙ c.write_lent.ensures.outcome)))

pub returns-in-Err-clause-answer : goal.returns-in-Err-clause-answer
returns-in-Err-clause-answer c = c.from.ensures ∙ ap (λ (a : WriteAnswer). a.number) (answer_is (header_in c.args.words.now) _ (Err c.in-Err.refusal) (ap numbered (sym c.in-Err.is) ∙ c.write_lent.ensures.outcome))

pub returns-in-Err-clause-size : goal.returns-in-Err-clause-size
returns-in-Err-clause-size c = size_kept (header_in c.args.words.now) _ _ _ (ap numbered (sym c.in-Err.is) ∙ c.write_lent.ensures.outcome)
