-- `writer::check_entries` meets its contract.
use mathlib.Core.Path.{◌≡◌}
use Prim.Native.Nat.{◌≤◌, ◌-◌}
use lib.ListN.{take, drop}
use Rattle.chunk_lists.specs.Words.{reads_in}
use Rattle.writer.specs.Write.{entries_number}
use Rattle.writer.proofs.check_entries.Given as goal

abbrev pub invariant-loop-k : goal.invariant-loop-k
invariant-loop-k l = (l.k ≤ l.n) × (entries_number (take l.n (reads_in l.words)) 0 ≡ entries_number (drop l.k (take l.n (reads_in l.words))) 0)

abbrev pub decreases-loop-k : goal.decreases-loop-k
decreases-loop-k l = l.n - l.k
