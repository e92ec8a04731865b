-- `writer::encode_write_list` meets its contract.
use mathlib.Core.Path.{◌≡◌}
use Prim.Native.Nat.{◌+◌, ◌*◌, ◌≤◌, ◌-◌}
use lib.ListN.{length, take}
use Rattle.wire.specs.Wire.{stored, joined}
use Rattle.chunk_lists.specs.Words.{segments_in}
use Rattle.header.specs.Content.{runs}
use Rattle.header.specs.Limits.{total}
use Rattle.header.specs.Words.{counts_in}
use Rattle.header.specs.Bytes.{chunk_bytes}
use Rattle.writer.proofs.encode_write_list.Given as goal

abbrev pub invariant-loop-count : goal.invariant-loop-count
invariant-loop-count l = (l.count-index ≤ l.n) × (length l.out ≡ length l.initial.out) × (l.used ≡ total (take l.count-index (counts_in l.words))) × (l.end ≡ l.k + l.count-index * 8 + l.used * 16) × (l.out ≡ stored l.initial.out l.k (joined chunk_bytes (runs (take l.count-index (counts_in l.words)) (segments_in 96 l.words))))

abbrev pub decreases-loop-count : goal.decreases-loop-count
decreases-loop-count l = l.n - l.count-index
