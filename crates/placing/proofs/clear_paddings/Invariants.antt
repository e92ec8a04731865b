-- `placing::clear_paddings` meets its contract.
use mathlib.Core.Path.{◌≡◌}
use Prim.Native.Nat.{◌≤◌, ◌-◌}
use lib.ListN.{length, take, drop}
use Rattle.chunk_lists.specs.Words.{reads_in}
use Rattle.layout.specs.Layout.{other_chunks}
use Rattle.placing.proofs.Sources.{Padded}
use Rattle.layout.proofs.ChunkWalk.{Along}
use Rattle.placing.proofs.clear_paddings.Given as goal

abbrev pub invariant-loop-i : goal.invariant-loop-i
invariant-loop-i l = (l.i ≤ l.n) × Along (drop l.i (take l.n (reads_in l.words))) l.i 0 l.w × (length l.out ≡ length l.initial.out) × Padded (other_chunks (take l.n (reads_in l.words))) l.w (drop l.i (take l.n (reads_in l.words))) l.initial.out l.out

abbrev pub decreases-loop-i : goal.decreases-loop-i
decreases-loop-i l = l.n - l.i
