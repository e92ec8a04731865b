-- `ledger::replied` meets its contract.
use Rattle.std.proofs.Common.{sym, ◌∙◌, rules}
use Rattle.ledger.specs.Ledger.{in_flight, unfit}
use Rattle.ledger.proofs.Steps.{found, replied_done}
use Rattle.ledger.proofs.replied.Goals as goal

pub returns : goal.returns
unfolding unfit
returns c = let a = c.args in
    let l = a.ledger in
    replied_done l a.xid a.grant c.in_ok-p.p (sym c.is_unfit.ensures ∙ c.if-is_unfit.false) c.if-grant-eq0.false (search rules) (found a.xid (in_flight l) c.in_ok-p.p (search rules)) _ c.leave.ensures
