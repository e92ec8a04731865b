-- `error_reply::kind_for` meets its contract.
use mathlib.Core.Path.{◌∙◌}
use borrow.Author.Tests.{le-leb, eq-eqb, ne_eqb}
use Rattle.error_reply.specs.Reply.{reply_kind_for}
use Rattle.error_reply.proofs.kind_for.Goals as goal

pub returns-then-word_at-eq-PROCEDURE_ERROR : goal.returns-then-word_at-eq-PROCEDURE_ERROR
unfolding reply_kind_for
returns-then-word_at-eq-PROCEDURE_ERROR c = simp (le-leb 16 _ c.requires.0, ← c.word_at.ensures, eq-eqb _ _ c.if-word_at-eq-PROCEDURE_ERROR.true)

pub returns : goal.returns
unfolding reply_kind_for
returns c = c.kind_of.ensures ∙ simp (le-leb 16 _ c.requires.0, ← c.word_at.ensures, ne_eqb _ _ c.if-word_at-eq-PROCEDURE_ERROR.false)
