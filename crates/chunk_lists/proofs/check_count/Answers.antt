-- `chunk_lists::check_count` meets its contract.
use mathlib.Core.Path.{ap}
use Rattle.std.proofs.lemmas.Result.{err_from_is_err_and}
use Rattle.answers.specs.Refusals.{numbered}
use Rattle.chunk_lists.proofs.ListSteps.{count_unread, count_over, count_short, count_chunk}
use Rattle.chunk_lists.proofs.check_count.Goals as goal

pub returns-in_err-n : goal.returns-in_err-n
returns-in_err-n c = let p = err_from_is_err_and c.from_residual.result c.from_residual.ensures.1 in
    rw (p.1, p.2) (count_unread _ _ _ c.first_word.ensures _ (ap numbered c.in_err-n.was))

pub returns-then-left-n : goal.returns-then-left-n
returns-then-left-n c = count_over _ _ _ c.first_word.ensures _ (ap numbered c.in_ok-n.was) c.if-left-n.true

pub returns-then-s-n : goal.returns-then-s-n
returns-then-s-n c = count_short _ _ _ c.first_word.ensures _ (ap numbered c.in_ok-n.was) c.if-left-n.false c.if-s-n.true

pub returns : goal.returns
returns c = count_chunk _ _ _ c.first_word.ensures _ (ap numbered c.in_ok-n.was) c.if-left-n.false c.if-s-n.false
