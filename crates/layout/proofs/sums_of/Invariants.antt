-- The sums are those of the segments so far.
use Rattle.std.proofs.Common.{take}
use Rattle.chunk_lists.specs.Words.{reads_in}
use Rattle.layout.proofs.Summing.{Summed}
use Rattle.layout.proofs.sums_of.Given as goal

abbrev pub invariant-loop-i : goal.invariant-loop-i
invariant-loop-i l = Summed (take l.n (reads_in l.words)) l.i l.sums
