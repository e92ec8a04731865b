-- `returned::check_writes` meets its contract.
use mathlib.Core.Path.{refl, sym, ◌∙◌}
use native.Mathlib.Omega.{arith}
use borrow.Author.Rules.{rules}
use Rattle.returned.proofs.Writes.{chunk_few, writes_start, writes_end, writes_count, writes_fault, writes_next}
use Rattle.returned.proofs.check_writes.Goals as goal

pub loop-k-init : goal.loop-k-init
loop-k-init c = (search rules, writes_start _ _ _ _)

pub returns-then-d-reply : goal.returns-then-d-reply
returns-then-d-reply c = rw (writes_count _ _ _ _ _ _ _ (search rules) (search rules) c.requires c.loop-k.invariant.1 c.loop-k-test.true _ _ refl refl c.if-d-reply.true)

pub check_chunk-requires : goal.check_chunk-requires
check_chunk-requires c = let few = chunk_few c.args.sent.now c.args.n c.loop-k.used c.loop-k.k (search rules) c.requires.0 c.requires.1 c.loop-k-test.true c.loop-k.invariant.1.sent_used in search rules

pub returns-in_err-landed : goal.returns-in_err-landed
returns-in_err-landed c = rw (writes_fault _ _ _ _ _ _ _ (search rules) (search rules) c.requires c.loop-k.invariant.1 c.loop-k-test.true _ _ refl refl c.if-d-reply.false (sym c.check_chunk.ensures ∙ c.in_err-landed.was)) c.from_residual.ensures

pub overflow_add-used : goal.overflow_add-used
overflow_add-used c = let few = chunk_few c.args.sent.now c.args.n c.loop-k.used c.loop-k.k (search rules) c.requires.0 c.requires.1 c.loop-k-test.true c.loop-k.invariant.1.sent_used in omega arith

pub loop-k-preserved : goal.loop-k-preserved
loop-k-preserved c = (search rules, writes_next _ _ _ _ _ _ _ (search rules) (search rules) c.requires c.loop-k.invariant.1 c.loop-k-test.true _ _ refl refl c.if-d-reply.false _ (sym c.check_chunk.ensures ∙ c.in_ok-landed.was))

pub returns : goal.returns
returns c = let e = writes_end _ _ _ _ _ _ _ (search rules) (search rules) c.requires c.loop-k.invariant.1 (omega arith) in rw (e.0, e.1)
