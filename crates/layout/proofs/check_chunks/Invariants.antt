-- The chunks so far stand.
use Rattle.std.proofs.Common.{take}
use Rattle.chunk_lists.specs.Words.{reads_in}
use Rattle.layout.proofs.ReadsWalk.{Walking}
use Rattle.layout.proofs.check_chunks.Given as goal

abbrev pub invariant-loop-i : goal.invariant-loop-i
invariant-loop-i l = Walking l.base (take l.n (reads_in l.words)) l.i l.standing
