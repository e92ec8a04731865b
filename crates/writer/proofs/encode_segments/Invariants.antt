-- `writer::encode_segments` meets its contract.
use mathlib.Core.Path.{◌≡◌}
use Prim.Native.Nat.{◌≤◌, ◌-◌}
use lib.ListN.{length, take, drop}
use Rattle.wire.specs.Wire.{stored, joined, segment_bytes}
use Rattle.chunk_lists.specs.Words.{segments_in}
use Rattle.writer.proofs.encode_segments.Given as goal

abbrev pub invariant-loop-j : goal.invariant-loop-j
invariant-loop-j l = (l.j ≤ l.n) × (length l.out ≡ length l.initial.out) × (l.out ≡ stored l.initial.out l.k (joined segment_bytes (take l.j (drop l.i (segments_in l.from l.words)))))

abbrev pub decreases-loop-j : goal.decreases-loop-j
decreases-loop-j l = l.n - l.j
