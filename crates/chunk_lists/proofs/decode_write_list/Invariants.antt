-- `chunk_lists::decode_write_list` meets its contract.
use Prim.Native.Nat.{◌-◌}
use Rattle.chunk_lists.proofs.Words.{Decoding}
use Rattle.chunk_lists.proofs.decode_write_list.Given as goal

abbrev pub invariant-loop-i : goal.invariant-loop-i
invariant-loop-i l = Decoding l.s l.n l.initial.words l.words l.to l.counts l.from l.free l.i

abbrev pub decreases-loop-i : goal.decreases-loop-i
decreases-loop-i l = l.n - l.i
