-- `returned::check_chunk` meets its contract.
use mathlib.Core.List.{List}
use Prim.Native.Nat.{ℕ, ◌*◌, ◌≤◌, ◌-◌}
use lib.ListN.{take, drop}
use Rattle.wire.specs.declared.Segment.{Segment}
use Rattle.chunk_lists.specs.Words.{segments_in}
use Rattle.returned.proofs.Chunks.{Comparing}
use Rattle.returned.proofs.check_chunk.Given as goal

-- The segments that are compared.
abbrev pub segments : ℕ → ℕ → ℕ → List ℕ → List Segment
segments from i n w = take n (drop i (segments_in from w))

abbrev pub invariant-loop-j : goal.invariant-loop-j
invariant-loop-j l = (l.j ≤ l.n) × (l.offered ≤ l.j * 4294967295) × Comparing (segments l.from l.i l.n l.sent) (segments l.from l.i l.n l.reply) l.offered l.landed l.j

abbrev pub decreases-loop-j : goal.decreases-loop-j
decreases-loop-j l = l.n - l.j
