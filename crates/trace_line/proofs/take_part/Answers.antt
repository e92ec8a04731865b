-- `trace_line::take_part` meets its contract.
use Rattle.trace_line.proofs.Parts.{takes_three}
use Rattle.trace_line.proofs.take_part.Goals as goal

pub returns : goal.returns
returns c = let a = c.args in
    let t = takes_three a.line a.text.now a.frame.now _ _ _ _ _ _ c.take_half-half.ensures c.take_pairs-pairs.ensures c.take_bytes-rest.ensures.part c.take_bytes-rest.ensures.all in
    record { used = t.0; line = t.1.0; frame = t.1.1 }
