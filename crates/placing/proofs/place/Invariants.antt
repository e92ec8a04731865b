-- As many bytes of the piece are at their places as the walk has come to.
use Rattle.std.proofs.Common.{take}
use Rattle.chunk_lists.specs.Words.{reads_in}
use Rattle.placing.proofs.SegmentSteps.{Placing}
use Rattle.placing.proofs.place.Given as goal

abbrev pub invariant-loop-i : goal.invariant-loop-i
invariant-loop-i l = Placing l.base (take l.n (reads_in l.words)) l.count l.piece l.initial.out l.i l.j l.left l.chunk l.goes l.out
