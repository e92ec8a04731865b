-- `trace::with_line` meets its contract.
use Rattle.std.proofs.Common.{refl, rules}
use Rattle.trace.specs.Internal.Turns.{plus_line}
use Rattle.trace.proofs.Ends.{plus_bad, plus_accepted, plus_refused}
use Rattle.trace.proofs.with_line.Goals as goal

pub returns-in-None : goal.returns-in-None
unfolding plus_line
returns-in-None c = rw c.in-None.is (plus_bad c.args.t _ (search rules) (search rules) (search rules) refl)

pub returns-in-Some : goal.returns-in-Some
unfolding plus_line
returns-in-Some c = rw c.in-Some.is (plus_accepted c.args.t c.in-Some.v _ _ (search rules) (search rules) (search rules) refl refl)

pub returns-in-Some-2 : goal.returns-in-Some-2
unfolding plus_line
returns-in-Some-2 c = rw c.in-Some.is (plus_refused c.args.t c.in-Some.v _ (search rules) (search rules) (search rules) (search rules) refl)
