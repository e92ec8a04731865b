-- `ledger::is_rising` meets its contract.
use Rattle.std.proofs.Common.{◌≡◌, ◌+◌, ◌-◌, refl, arith}
use Rattle.ledger.proofs.Scans.{rising_next, rising_end}
use Rattle.ledger.proofs.is_rising.Goals as goal

pub loop-i-init : goal.loop-i-init
loop-i-init c = (omega arith, refl, refl)

pub loop-i-preserved : goal.loop-i-preserved
loop-i-preserved c = let list = c.args.list.now in
    let i = c.loop-i.i in
    let known = c.loop-i.invariant in
    let rise = c.loop-i.rise in
    let same : i - 1 + 1 ≡ i = omega arith in
    let next : i + 1 - 1 ≡ i = omega arith in
    let more = rising_next list (i - 1) rise (omega arith) known.2 in
    (omega arith, known.1, rw next (rw same at more))

pub returns : goal.returns
returns c = let known = c.loop-i.invariant in
    rising_end c.args.list.now (c.loop-i.i - 1) c.loop-i.rise (omega arith) known.2
