-- `writer::check_entries` meets its contract.
use borrow.Author.Rules.{rules}
use borrow.Author.Tests.{eq-eqb, ne_eqb}
use native.Mathlib.Omega.{arith}
use mathlib.Core.Path.{◌∙◌}
use Rattle.chunk_lists.proofs.Words.{next_in, none_in}
use Rattle.writer.specs.Write.{entries_number}
use Rattle.writer.proofs.check_entries.Goals as goal

pub returns-then-x-ne0 : goal.returns-then-x-ne0
unfolding entries_number
returns-then-x-ne0 c = let next = next_in c.args.words.now c.args.n c.loop-k.k _ c.read_segment_of-x.ensures c.loop-k-test.true (omega arith) in rw (c.loop-k.invariant.1, next, ne_eqb _ _ c.if-x-ne0.true)

pub loop-k-preserved : goal.loop-k-preserved
unfolding entries_number
loop-k-preserved c = let next = next_in c.args.words.now c.args.n c.loop-k.k _ c.read_segment_of-x.ensures c.loop-k-test.true (omega arith) in (search rules, c.loop-k.invariant.1 ∙ rw (next, eq-eqb _ _ c.if-x-ne0.false))

pub returns : goal.returns
unfolding entries_number
returns c = rw (c.loop-k.invariant.1, none_in c.args.words.now c.args.n c.loop-k.k (omega arith) (omega arith))
