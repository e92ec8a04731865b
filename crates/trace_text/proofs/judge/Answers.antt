-- `trace_text::judge` meets its contract.
use mathlib.Core.Path.{ap, sym, ◌∙◌}
use native.Mathlib.Omega.{arith}
use Rattle.answers.specs.Refusals.{numbered}
use Rattle.trace_text.proofs.Verdicts.{judged_found, judged_refused}
use Rattle.trace_text.proofs.judge.Goals as goal

pub overflow_sub-result : goal.overflow_sub-result
overflow_sub-result c = (judged_found c.args.frame.now _ (sym c.check_frame.ensures ∙ ap numbered c.in-Ok.is)).0

pub reply_to-requires : goal.reply_to-requires
reply_to-requires c = let low = (judged_refused c.args.frame.now _ (sym c.check_frame.ensures ∙ ap numbered c.in-Err.is)).0 in omega (arith, low)

pub returns-in-Ok : goal.returns-in-Ok
returns-in-Ok c = (judged_found c.args.frame.now _ (sym c.check_frame.ensures ∙ ap numbered c.in-Ok.is)).1

pub returns-in-Err : goal.returns-in-Err
returns-in-Err c = rw (c.reply_to.ensures, c.from-answer.ensures) (judged_refused c.args.frame.now _ (sym c.check_frame.ensures ∙ ap numbered c.in-Err.is)).1
