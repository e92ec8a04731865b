-- `trace_text::put_verdict` meets its contract.
use borrow.Author.Rules.{rules}
use Rattle.trace_text.specs.Text.{ascii, verdict_text}
use Rattle.trace_text.proofs.Texts.{behind, number_behind, verdict_length}
use Rattle.trace_text.proofs.put_verdict.Goals as goal

-- The clauses, from all of them at once.
clauses : {A B : Type 0} → A × B → record { buffer : A; end : B }
clauses p = record { buffer = p.0; end = p.1 }

pub put_decimal-a-requires : goal.put_decimal-a-requires
put_decimal-a-requires c = let a = c.args in let size = verdict_length a.number a.v in search rules

pub put_number-b-requires : goal.put_number-b-requires
put_number-b-requires c = let a = c.args in let size = verdict_length a.number a.v in search rules

pub put_number-c-requires : goal.put_number-c-requires
put_number-c-requires c = let a = c.args in let size = verdict_length a.number a.v in search rules

pub put_reply-requires : goal.put_reply-requires
put_reply-requires c = let a = c.args in let size = verdict_length a.number a.v in search rules

pub returns : goal.returns
unfolding verdict_text ascii
returns c = clauses (behind _ _ _ _ (c.put_decimal-a.ensures.buffer, c.put_decimal-a.ensures.end)
    (number_behind (ascii " ") _ _ _ _ (c.put_number-b.ensures.buffer, c.put_number-b.ensures.end)
    (number_behind (ascii " ") _ _ _ _ (c.put_number-c.ensures.buffer, c.put_number-c.ensures.end) (c.put_reply.ensures.buffer, c.put_reply.ensures.end))))
