-- `writer::encode_read_list` meets its contract.
use mathlib.Core.Path.{◌≡◌}
use Prim.Native.Nat.{◌≤◌, ◌-◌}
use lib.ListN.{length, take}
use Rattle.wire.specs.Wire.{stored, joined}
use Rattle.chunk_lists.specs.Words.{reads_in}
use Rattle.header.specs.Bytes.{entry_bytes}
use Rattle.writer.proofs.encode_read_list.Given as goal

abbrev pub invariant-loop-j : goal.invariant-loop-j
invariant-loop-j l = (l.j ≤ l.n) × (length l.out ≡ length l.initial.out) × (l.out ≡ stored l.initial.out l.k (joined entry_bytes (take l.j (reads_in l.words))))

abbrev pub decreases-loop-j : goal.decreases-loop-j
decreases-loop-j l = l.n - l.j
