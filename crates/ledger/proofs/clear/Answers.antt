-- `ledger::clear` meets its contract.
use Rattle.std.proofs.Common.{◌∙◌, arith, length-set}
use Rattle.ledger.proofs.Scans.{cleared_none, cleared_next, cleared_all}
use Rattle.ledger.proofs.clear.Goals as goal

pub loop-i-init : goal.loop-i-init
loop-i-init c = (omega arith, c.requires, c.told-xids, cleared_none c.args.n c.args.xids.now)

pub loop-i-preserved : goal.loop-i-preserved
loop-i-preserved c = let a = c.args in
    let known = c.loop-i.invariant in
    let full = c.told-xids in
    (omega arith, omega arith, simp length-set known.2, rw known.3 (cleared_next a.n c.loop-i.i a.xids.now known.0 (omega arith)))

pub returns : goal.returns
returns c = let a = c.args in
    c.loop-i.invariant.3 ∙ cleared_all a.n c.loop-i.i a.xids.now c.told-xids c.requires (omega arith)
