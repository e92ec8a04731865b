-- `trace_text::put_bad` meets its contract.
use borrow.Author.Rules.{rules}
use Rattle.trace_text.specs.Text.{ascii, bad_text}
use Rattle.trace_text.proofs.Texts.{behind, bad_length}
use Rattle.trace_text.proofs.put_bad.Goals as goal

-- The clauses, from all of them at once.
clauses : {A B : Type 0} → A × B → record { buffer : A; end : B }
clauses p = record { buffer = p.0; end = p.1 }

pub put_decimal-end-requires : goal.put_decimal-end-requires
put_decimal-end-requires c = let size = bad_length c.args.number in search rules

pub put_text-requires : goal.put_text-requires
put_text-requires c = let size = bad_length c.args.number in search rules

pub returns : goal.returns
unfolding bad_text ascii
returns c = clauses (behind _ _ _ _ (c.put_decimal-end.ensures.buffer, c.put_decimal-end.ensures.end) (c.put_text.ensures.buffer, c.put_text.ensures.end))
