-- `returned::check_writes` meets its contract.
use Prim.Native.Nat.{◌≤◌, ◌-◌}
use Rattle.returned.proofs.Writes.{ComparingWrites}
use Rattle.returned.proofs.check_writes.Given as goal

abbrev pub invariant-loop-k : goal.invariant-loop-k
invariant-loop-k l = (l.k ≤ l.n) × ComparingWrites l.sent l.reply l.n l.initial.landed l.landed l.used l.k

abbrev pub decreases-loop-k : goal.decreases-loop-k
decreases-loop-k l = l.n - l.k
