-- `reader::check_frame` meets its contract.
use native.Mathlib.Omega.{arith}
use Rattle.reader.proofs.FrameChecks.{nothing_behind_lem, frame_msg, frame_nomsg, frame_done, frame_error, frame_other, lists_refused}
use Rattle.reader.specs.Internal.Shape.{frame_check, ended_check}
use Rattle.reader.specs.Frame.{read_frame}
use mathlib.Core.Path.{◌≡◌, ap, sym, ◌∙◌}
use lib.ListN.{length}
use Rattle.std.proofs.lemmas.Result.{err_from_is_err_and}
use Rattle.answers.specs.Refusals.{numbered}
use borrow.Author.Tests.{le-leb, lt-leb, ne_eqb}
use Rattle.reader.proofs.check_frame.Goals as goal

pub returns-then-size-lt-FIXED_BYTES : goal.returns-then-size-lt-FIXED_BYTES
unfolding read_frame frame_check
returns-then-size-lt-FIXED_BYTES c = simp (lt-leb _ _ c.if-size-lt-FIXED_BYTES.true)

pub returns-then-word_at-ne-VERSION : goal.returns-then-word_at-ne-VERSION
unfolding read_frame frame_check
returns-then-word_at-ne-VERSION c = simp (le-leb _ _ c.if-size-lt-FIXED_BYTES.false, ← c.word_at.ensures, ne_eqb _ _ c.if-word_at-ne-VERSION.true)

pub returns-then-procedure-eq-PROCEDURE_DONE : goal.returns-then-procedure-eq-PROCEDURE_DONE
unfolding frame_check
returns-then-procedure-eq-PROCEDURE_DONE c = rw (frame_done c.args.s.now c.word_at.result c.word_at-procedure.result c.if-size-lt-FIXED_BYTES.false c.word_at.ensures (omega arith) c.word_at-procedure.ensures c.if-procedure-eq-PROCEDURE_DONE.true)

pub returns-in_err-check_error : goal.returns-in_err-check_error
returns-in_err-check_error c = let p = err_from_is_err_and c.from_residual.result c.from_residual.ensures.1 in
    rw (p.1, p.2, frame_error c.args.s.now c.word_at.result c.word_at-procedure.result c.if-size-lt-FIXED_BYTES.false c.word_at.ensures (omega arith) c.word_at-procedure.ensures c.if-procedure-eq-PROCEDURE_ERROR.true)
    (ap (ended_check (length c.args.s.now)) (sym (ap numbered c.in_err-check_error.was) ∙ c.check_error.ensures) ∙ nothing_behind_lem _ _ (omega arith))

pub returns-then-procedure-eq-PROCEDURE_ERROR : goal.returns-then-procedure-eq-PROCEDURE_ERROR
returns-then-procedure-eq-PROCEDURE_ERROR c = rw (frame_error c.args.s.now c.word_at.result c.word_at-procedure.result c.if-size-lt-FIXED_BYTES.false c.word_at.ensures (omega arith) c.word_at-procedure.ensures c.if-procedure-eq-PROCEDURE_ERROR.true)
    (c.check_nothing_behind.ensures ∙ ap (ended_check (length c.args.s.now)) (sym (ap numbered c.in_ok-check_error.was) ∙ c.check_error.ensures) ∙ nothing_behind_lem _ _ (omega arith))

pub returns-then-procedure-gt-PROCEDURE_NOMSG : goal.returns-then-procedure-gt-PROCEDURE_NOMSG
unfolding frame_check
returns-then-procedure-gt-PROCEDURE_NOMSG c = rw (frame_other c.args.s.now c.word_at.result c.word_at-procedure.result c.if-size-lt-FIXED_BYTES.false c.word_at.ensures (omega arith) c.word_at-procedure.ensures c.if-procedure-gt-PROCEDURE_NOMSG.true c.if-procedure-eq-PROCEDURE_DONE.false c.if-procedure-eq-PROCEDURE_ERROR.false)

pub returns-in_err-shape : goal.returns-in_err-shape
returns-in_err-shape c = let p = err_from_is_err_and c.from_residual-in_err-shape.result c.from_residual-in_err-shape.ensures.1 in
    rw (p.1, p.2) (lists_refused _ _ _ _ _ c.if-size-lt-FIXED_BYTES.false c.word_at.ensures (omega arith) c.word_at-procedure.ensures (omega arith) c.lists_kind-kind.ensures (sym (ap numbered c.in_err-shape.was) ∙ c.check_lists.ensures))

pub returns-then-procedure-eq-PROCEDURE_MSG : goal.returns-then-procedure-eq-PROCEDURE_MSG
returns-then-procedure-eq-PROCEDURE_MSG c = rw (frame_msg c.args.s.now c.word_at.result c.word_at-procedure.result c.if-size-lt-FIXED_BYTES.false c.word_at.ensures (omega arith) c.word_at-procedure.ensures c.if-procedure-eq-PROCEDURE_MSG.true)
    (sym (ap numbered c.in_ok-shape.was) ∙ c.check_lists.ensures ∙ rw (c.lists_kind-kind.ensures, c.if-procedure-eq-PROCEDURE_MSG.true))

pub returns : goal.returns
returns c = let one : c.word_at-procedure.result ≡ 1 = omega arith in
    rw (frame_nomsg c.args.s.now c.word_at.result c.word_at-procedure.result c.if-size-lt-FIXED_BYTES.false c.word_at.ensures (omega arith) c.word_at-procedure.ensures one)
    (c.check_nothing_behind-2.ensures ∙ ap (ended_check (length c.args.s.now)) (sym (ap numbered c.in_ok-shape.was) ∙ c.check_lists.ensures) ∙ rw (c.lists_kind-kind.ensures, one) (nothing_behind_lem _ _ (omega arith)))
