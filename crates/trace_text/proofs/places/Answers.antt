-- `trace_text::places` meets its contract.
use Rattle.std.proofs.Common.{rules}
use Rattle.trace_text.proofs.Decimals.{counted}
use Rattle.trace_text.proofs.places.Goals as goal

pub returns : goal.returns
returns c = let e = c.checked_ilog10.ensures in
    rw c.unwrap_or.ensures (counted c.args.n _ (search rules) e.none e.power_le e.next_power_gt e.bound)
