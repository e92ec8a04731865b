-- `trace_text::put_number` meets its contract.
use lib.ListN.{length-append}
use Rattle.trace_text.proofs.Texts.{behind}
use Rattle.trace_text.proofs.put_number.Goals as goal

-- The clauses, from all of them at once.
clauses : {A B : Type 0} → A × B → record { buffer : A; end : B }
clauses p = record { buffer = p.0; end = p.1 }

pub returns : goal.returns
returns c = clauses (simp length-append at (behind _ _ _ _ (c.put_text-end.ensures.buffer, c.put_text-end.ensures.end) (c.put_decimal.ensures.buffer, c.put_decimal.ensures.end)))
