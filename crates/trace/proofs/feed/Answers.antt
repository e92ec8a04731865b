-- `trace::feed` meets its contract.
use Rattle.std.proofs.Common.{rules}
use Rattle.trace.proofs.Blocks.{running_starts, running_more, ends_full, ends_whole}
use Rattle.trace.proofs.feed.Goals as goal
use Rattle.trace.proofs.feed.Goals.{then-loop-out-test+else-not-is_empty, else-loop-out-test}

-- The clauses, from all of them at once.
clauses : {A B C D : Type 0} → A × (B × (C × D)) → record { answer : A; frame : B; buffer : C; within : D }
clauses p = record { answer = p.0; frame = p.1.0; buffer = p.1.1.0; within = p.1.1.1 }

pub loop-out-init : goal.loop-out-init
loop-out-init c = let a = c.args in running_starts a.state a.block.now a.frame.now a.out.now (search rules)

pub loop-out-preserved : goal.loop-out-preserved
loop-out-preserved c = running_more c.loop-out.invariant _ _ _ (search rules) c.take_line-turn.ensures

pub returns : goal.returns
returns c = elim c.loop-out-test.branch [
  | then-loop-out-test+else-not-is_empty w ↦ clauses (ends_whole c.loop-out.invariant (search rules))
  | else-loop-out-test w ↦ clauses (ends_full c.loop-out.invariant (search rules))
]
