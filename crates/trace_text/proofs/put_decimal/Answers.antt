-- `trace_text::put_decimal` meets its contract.
use native.Mathlib.Omega.{arith}
use borrow.Author.Rules.{rules}
use Rattle.trace_text.proofs.Decimals.{writing_starts, writing_room, writing_some, writing_next, writing_ends}
use Rattle.trace_text.proofs.put_decimal.Goals as goal

pub overflow_add-end : goal.overflow_add-end
overflow_add-end c = let e = c.places.ensures in search rules

pub loop-m-init : goal.loop-m-init
loop-m-init c = let a = c.args in
    let e = c.places.ensures in
    writing_starts a.out.now a.to a.n _ (omega arith) (search rules) (search rules)

pub overflow_sub-i : goal.overflow_sub-i
overflow_sub-i c = let z = writing_some c.loop-m.invariant in omega arith

pub bounds-out-i : goal.bounds-out-i
bounds-out-i c = let z = writing_some c.loop-m.invariant in
    let room = writing_room c.loop-m.invariant in
    search rules

pub loop-m-preserved : goal.loop-m-preserved
loop-m-preserved c = writing_next c.loop-m.invariant (search rules)

pub bounds-out-to : goal.bounds-out-to
bounds-out-to c = let z = writing_some c.loop-m.invariant in
    let room = writing_room c.loop-m.invariant in
    search rules

pub returns : goal.returns
returns c = let e = c.places.ensures in
    record { buffer = writing_ends c.loop-m.invariant (search rules); end = omega arith }
