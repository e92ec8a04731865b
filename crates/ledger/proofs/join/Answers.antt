-- `ledger::join` meets its contract.
use Rattle.std.proofs.Common.{ap, ◌∙◌, arith}
use Rattle.ledger.specs.Ledger.{padded}
use Rattle.ledger.proofs.Scans.{one_more}
use Rattle.ledger.proofs.join.Goals as goal

pub returns : goal.returns
returns c = let a = c.args in
    let few = c.requires in
    let long = c.told-xids in
    c.clear.ensures ∙ ap padded (one_more a.n a.xids.now a.xid (omega arith))
