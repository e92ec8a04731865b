-- `trace::finish` meets its contract.
use Rattle.std.proofs.Common.{sym, ◌∙◌, rules}
use Rattle.trace_text.proofs.Texts.{sums_short}
use Rattle.trace.proofs.Blocks.{finish_stopped, finish_line, finish_sums, end_short}
use Rattle.trace.proofs.finish.Goals as goal

-- The clauses, from all of them at once.
clauses : {A B C : Type 0} → A × (B × C) → record { written : A; buffer : B; within : C }
clauses p = record { written = p.0; buffer = p.1.0; within = p.1.1 }

pub returns-then-state : goal.returns-then-state
returns-then-state c = clauses (finish_stopped c.args.state c.args.frame.now c.args.out.now c.if-state.true)

pub put_sums-requires : goal.put_sums-requires
put_sums-requires c = let few = c.feed-fed.ensures.within in
    let z = end_short c.feed-fed.result few.0 few.1.1 in
    search rules

pub returns-then-has_begun : goal.returns-then-has_begun
returns-then-has_begun c = clauses (let a = c.args in
    let begun = sym c.has_begun.ensures ∙ c.if-has_begun.true in
    finish_line a.state a.frame.now a.out.now (search rules) begun (search rules) _ _ _ _ c.feed-fed.ensures.answer c.feed-fed.ensures.buffer c.put_sums.ensures.buffer c.put_sums.ensures.end
    (end_short c.feed-fed.result c.feed-fed.ensures.within.0 c.feed-fed.ensures.within.1.1))

pub put_sums-requires-2 : goal.put_sums-requires-2
put_sums-requires-2 c = let z = sums_short c.args.state.sums in
    search rules

pub returns : goal.returns
returns c = clauses (let a = c.args in
    finish_sums a.state a.frame.now a.out.now (search rules) (sym c.has_begun.ensures ∙ c.if-has_begun.false) _ _ c.put_sums-2.ensures.buffer c.put_sums-2.ensures.end)
