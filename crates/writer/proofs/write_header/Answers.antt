-- `writer::write_header` meets its contract.
use mathlib.Core.Path.{◌≡◌, ap, ◌∙◌}
use mathlib.Core.Option.{some}
use Rattle.header.specs.Words.{header_in}
use Rattle.header.proofs.Words.{full_of, header_back}
use Rattle.writer.proofs.Outcomes.{answer_is}
use Rattle.writer.proofs.write_header.Goals as goal

pub returns : goal.returns
returns c = let a = c.args in
    let g = c.well_formed.0.1.1 in
    let held : header_in c.words_of.result ≡ some a.h = ap header_in c.words_of.ensures ∙ header_back a.h (full_of a.h _ _ _ g.0 g.1.0 g.1.1.0) in
    record { answer = c.write_answer.ensures ∙ answer_is (some a.h) _ _ (rw held at c.write_lent.ensures.outcome); buffer = rw held at c.write_lent.ensures.buffer }
