-- `trace_line::decode_pairs` meets its contract.
use Rattle.std.proofs.Common.{◌≡◌, ◌-◌, ◌%◌, ◌≤◌}
use Rattle.trace_line.specs.Internal.Taking.{Pairs}
use Rattle.trace_line.proofs.decode_pairs.Given as goal

abbrev pub invariant-loop-k : goal.invariant-loop-k
invariant-loop-k l = (l.k % 2 ≡ 0) × (l.k ≤ l.n) × Pairs l.text l.initial.frame l.k l.frame

abbrev pub decreases-loop-k : goal.decreases-loop-k
decreases-loop-k l = l.n - l.k
