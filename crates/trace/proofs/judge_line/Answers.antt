-- `trace::judge_line` meets its contract.
use Rattle.std.proofs.Common.{refl, rules}
use Rattle.trace.specs.Internal.Turns.{verdict_in}
use Rattle.trace_line.proofs.Decoded.{in_bad, in_odd, in_long, in_whole}
use Rattle.trace.proofs.judge_line.Goals as goal

pub returns-in-Digits : goal.returns-in-Digits
unfolding verdict_in
returns-in-Digits c = rw (c.judge.ensures, in_whole c.args.line _ c.args.frame.now c.in-Digits.is (search rules) (search rules)) refl

pub returns-in_default : goal.returns-in_default
unfolding verdict_in
returns-in_default c = rw (in_long c.args.line _ c.args.frame.now c.in-Digits.is (search rules)) refl

pub returns-in_default-2 : goal.returns-in_default-2
unfolding verdict_in
returns-in_default-2 c = rw (in_odd c.args.line _ c.args.frame.now c.in-Digits.is (search rules)) refl

pub returns-in_default-3 : goal.returns-in_default-3
unfolding verdict_in
returns-in_default-3 c = rw (in_bad c.args.line c.args.frame.now c.in_default.is) refl
