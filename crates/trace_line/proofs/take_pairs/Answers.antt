-- `trace_line::take_pairs` meets its contract.
use Rattle.std.proofs.Common.{refl, sym, rules}
use Rattle.trace_line.proofs.Parts.{takes_none, takes_pairs}
use Rattle.trace_line.proofs.take_pairs.Goals as goal

pub returns-in-Digits : goal.returns-in-Digits
returns-in-Digits c = let a = c.args in
    rw c.in-Digits.is
    (takes_pairs _ c.decode_pairs-pairs.result a.text.now a.frame.now _ (search rules) (search rules) (search rules) (search rules))

pub returns-in_default : goal.returns-in_default
returns-in_default c = takes_none _ _ _ _ (sym c.in-Digits.is)

pub returns-in_default-2 : goal.returns-in_default-2
returns-in_default-2 c = takes_none _ _ _ _ (sym c.in-Digits.is)

pub returns-in_default-3 : goal.returns-in_default-3
returns-in_default-3 c = takes_none _ _ _ _ refl
