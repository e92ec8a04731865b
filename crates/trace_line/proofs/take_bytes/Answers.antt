-- `trace_line::take_bytes` meets its contract.
use Rattle.std.proofs.Common.{refl, rules}
use Rattle.trace_line.proofs.Parts.{takes_none, takes_next, takes_all, line_stop, line_none}
use Rattle.trace_line.proofs.take_bytes.Goals as goal

pub loop-used-init : goal.loop-used-init
loop-used-init c = takes_none _ _ _ _ refl

pub returns-then-b-eq-NEWLINE-clause-all : goal.returns-then-b-eq-NEWLINE-clause-all
returns-then-b-eq-NEWLINE-clause-all c = takes_all c.loop-used.invariant (line_stop _ c.loop-used.used (search rules) c.if-b-eq-NEWLINE.true)

pub loop-used-preserved : goal.loop-used-preserved
loop-used-preserved c = let l = c.loop-used in
    takes_next _ _ _ _ _ _ _ l.used l.invariant (search rules) (search rules) c.take_byte-begun.ensures.line c.take_byte-begun.ensures.frame

pub returns-clause-all : goal.returns-clause-all
returns-clause-all c = let e = takes_all c.loop-used.invariant (line_none _ c.loop-used.used (search rules)) in search rules
