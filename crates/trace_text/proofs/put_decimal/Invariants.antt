-- `trace_text::put_decimal` meets its contract.
use Rattle.trace_text.proofs.Decimals.{Writing}
use Rattle.trace_text.proofs.put_decimal.Given as goal

abbrev pub invariant-loop-m : goal.invariant-loop-m
invariant-loop-m l = Writing l.initial.out l.to l.n l.out l.m l.i

abbrev pub decreases-loop-m : goal.decreases-loop-m
decreases-loop-m l = l.m
