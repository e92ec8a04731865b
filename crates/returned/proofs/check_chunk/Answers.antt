-- `returned::check_chunk` meets its contract.
use mathlib.Core.Path.{sym, ◌∙◌}
use native.Mathlib.Omega.{arith}
use borrow.Author.Rules.{rules}
use borrow.Author.Tests.{not-true, not-false}
use Rattle.returned.proofs.Chunks.{comparing_starts, comparing_next, comparing_fault, comparing_ends, chunk_next, chunk_end}
use Rattle.returned.proofs.check_chunk.Goals as goal

pub loop-j-init : goal.loop-j-init
loop-j-init c = (search rules, search rules, comparing_starts _ _)

pub returns-then-not-segment_fits : goal.returns-then-not-segment_fits
returns-then-not-segment_fits c = let a = c.args in
    let x = chunk_next a.from a.i a.n c.loop-j.j a.sent.now _ c.load-x.ensures c.loop-j-test.true (omega arith) in
    let y = chunk_next a.from a.i a.n c.loop-j.j a.reply.now _ c.load-y.ensures c.loop-j-test.true (omega arith) in
    sym (comparing_fault _ _ _ _ _ c.loop-j.invariant.2 _ _ x y (not-false _ (sym c.segment_fits.ensures ∙ c.if-not-segment_fits.true)))

pub overflow_add-landed : goal.overflow_add-landed
overflow_add-landed c = let w = c.loop-j.invariant.2.within in search rules

pub loop-j-preserved : goal.loop-j-preserved
loop-j-preserved c = let a = c.args in
    let x = chunk_next a.from a.i a.n c.loop-j.j a.sent.now _ c.load-x.ensures c.loop-j-test.true (omega arith) in
    let y = chunk_next a.from a.i a.n c.loop-j.j a.reply.now _ c.load-y.ensures c.loop-j-test.true (omega arith) in
    (search rules, omega arith, comparing_next _ _ _ _ _ c.loop-j.invariant.2 _ _ x y (not-true _ (sym c.segment_fits.ensures ∙ c.if-not-segment_fits.false)))

pub returns : goal.returns
returns c = let a = c.args in
    sym (comparing_ends _ _ _ _ _ c.loop-j.invariant.2 (chunk_end a.from a.i a.n c.loop-j.j a.sent.now (omega arith)) (chunk_end a.from a.i a.n c.loop-j.j a.reply.now (omega arith)))
