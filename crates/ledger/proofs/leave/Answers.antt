-- `ledger::leave` meets its contract.
use Rattle.std.proofs.Common.{◌+◌, ◌-◌, refl, arith}
use Rattle.ledger.proofs.Scans.{closed}
use Rattle.ledger.proofs.leave.Goals as goal

pub returns : goal.returns
returns c = let a = c.args in
    let g = c.requires in
    let long = c.told-xids in
    let moved = closed a.n (a.n - 1) a.p (a.n - (a.p + 1)) a.xids.now (omega arith) (omega arith) (omega arith) in
    rw (c.clear.ensures, c.copy_within.ensures.after, moved) refl
