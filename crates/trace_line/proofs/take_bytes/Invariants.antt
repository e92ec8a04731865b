-- `trace_line::take_bytes` meets its contract.
use Rattle.trace_line.specs.Internal.Taking.{Takes}
use Rattle.trace_line.proofs.take_bytes.Given as goal

abbrev pub invariant-loop-used : goal.invariant-loop-used
invariant-loop-used l = Takes l.initial.begun l.text l.initial.frame (record { line = l.begun; used = l.used }) l.frame
