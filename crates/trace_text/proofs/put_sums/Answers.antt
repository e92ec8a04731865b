-- `trace_text::put_sums` meets its contract.
use borrow.Author.Rules.{rules}
use Rattle.trace_text.specs.Text.{ascii, sums_text}
use Rattle.trace_text.proofs.Texts.{number_behind, sums_length}
use Rattle.trace_text.proofs.put_sums.Goals as goal

-- The clauses, from all of them at once.
clauses : {A B : Type 0} → A × B → record { buffer : A; end : B }
clauses p = record { buffer = p.0; end = p.1 }

pub put_number-a-requires : goal.put_number-a-requires
put_number-a-requires c = let size = sums_length c.args.t in search rules

pub put_number-b-requires : goal.put_number-b-requires
put_number-b-requires c = let size = sums_length c.args.t in search rules

pub put_number-c-requires : goal.put_number-c-requires
put_number-c-requires c = let size = sums_length c.args.t in search rules

pub put_number-d-requires : goal.put_number-d-requires
put_number-d-requires c = let size = sums_length c.args.t in search rules

pub put_text-requires : goal.put_text-requires
put_text-requires c = let size = sums_length c.args.t in search rules

pub returns : goal.returns
unfolding sums_text ascii
returns c = clauses (number_behind (ascii "accepted ") _ _ _ _ (c.put_number-a.ensures.buffer, c.put_number-a.ensures.end)
    (number_behind (ascii " refused ") _ _ _ _ (c.put_number-b.ensures.buffer, c.put_number-b.ensures.end)
    (number_behind (ascii " bad ") _ _ _ _ (c.put_number-c.ensures.buffer, c.put_number-c.ensures.end)
    (number_behind (ascii " payload ") _ _ _ _ (c.put_number-d.ensures.buffer, c.put_number-d.ensures.end) (c.put_text.ensures.buffer, c.put_text.ensures.end)))))
