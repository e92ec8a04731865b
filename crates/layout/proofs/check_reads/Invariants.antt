-- The segments so far are in order, and their chunks stand.
use Rattle.std.proofs.Common.{take}
use Rattle.chunk_lists.specs.Words.{reads_in}
use Rattle.layout.proofs.ReadsWalk.{Checking}
use Rattle.layout.proofs.check_reads.Given as goal

abbrev pub invariant-loop-i : goal.invariant-loop-i
invariant-loop-i l = Checking l.base (take l.n (reads_in l.words)) l.i l.standing l.sums
