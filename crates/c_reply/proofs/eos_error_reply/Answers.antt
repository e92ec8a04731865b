-- `c_reply::eos_error_reply` meets its contract.
use mathlib.Core.Path.{refl}
use borrow.Author.Tests.{ne_eqb}
use Rattle.c_reply.proofs.eos_error_reply.Goals as goal

-- The clauses, from all of them at once.
clauses : {A B C : Type 0} → A × (B × C) → record { answer : A; size : B; buffer : C }
clauses p = record { answer = p.0; size = p.1.0; buffer = p.1.1 }

pub returns-then-a-ne0 : goal.returns-then-a-ne0
returns-then-a-ne0 c = clauses (rw (← c.error_reply-a.ensures.answer, ne_eqb _ _ c.if-a-ne0.true) (refl, (refl, c.error_reply-a.ensures.buffer)))

pub returns : goal.returns
returns c = clauses (rw (← c.error_reply-a.ensures.answer, c.if-a-ne0.false) (refl, (refl, c.error_reply-a.ensures.buffer)))
