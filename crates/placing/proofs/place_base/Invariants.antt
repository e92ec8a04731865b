-- `placing::place_base` meets its contract.
use mathlib.Core.Path.{◌≡◌}
use mathlib.Core.List.{List}
use Prim.Native.Nat.{ℕ, ◌+◌, ◌-◌, ◌≤◌, ◌<◌}
use lib.ListN.{length, take, drop}
use Rattle.wire.specs.declared.ReadSegment.{ReadSegment}
use Rattle.chunk_lists.specs.Words.{reads_in}
use Rattle.layout.specs.Places.{scatter}
use Rattle.layout.specs.Layout.{other_chunks, base_places}
use Rattle.layout.proofs.ChunkWalk.{Along}
use Rattle.layout.proofs.RunWalk.{GapSought}
use Rattle.placing.specs.Goes.{of_segment, goes}
use Rattle.placing.proofs.EmptySegments.{non_empty}
use Rattle.placing.proofs.place_base.Given as goal

-- The read list, and the places of the base between its segments that are not empty.
abbrev pub list : List ℕ → ℕ → List ReadSegment
list words n = take n (reads_in words)

abbrev pub some_places : List ℕ → ℕ → ℕ → List ℕ
some_places words n base = base_places base (other_chunks (non_empty (list words n)))

abbrev pub invariant-loop-i : goal.invariant-loop-i
invariant-loop-i l = (l.i ≤ l.n) × Along (non_empty (drop l.i (list l.words l.n))) l.i l.earlier l.w × (length l.out ≡ length l.initial.out) × (l.j < length l.piece) × (l.out ≡ scatter (drop l.count (some_places l.words l.n l.base)) (take l.j l.piece) l.initial.out)
    × GapSought l.base (other_chunks (non_empty (list l.words l.n))) (l.count + l.j) l.earlier l.w (non_empty (drop l.i (list l.words l.n)))
    × (l.goes + goes (of_segment 0 (take (length l.piece - l.j) (drop (l.count + l.j) (some_places l.words l.n l.base)))) ≡ goes (of_segment 0 (take (length l.piece) (drop l.count (some_places l.words l.n l.base)))))

abbrev pub decreases-loop-i : goal.decreases-loop-i
decreases-loop-i l = l.n - l.i
