-- `ledger::holds` meets its contract.
use Rattle.std.proofs.Common.{refl, arith}
use Rattle.ledger.proofs.Scans.{in_next, in_end}
use Rattle.ledger.proofs.holds.Goals as goal

pub loop-x-init : goal.loop-x-init
loop-x-init c = refl

pub loop-x-preserved : goal.loop-x-preserved
loop-x-preserved c = let a = c.args in
    let turn = c.loop-x in
    in_next a.xid a.list.now turn.x-index turn.met (omega arith) turn.invariant

pub returns : goal.returns
returns c = let a = c.args in
    let last = c.loop-x in
    in_end a.xid a.list.now last.x-index last.met (omega arith) last.invariant
