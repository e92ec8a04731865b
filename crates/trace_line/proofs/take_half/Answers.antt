-- `trace_line::take_half` meets its contract.
use Rattle.std.proofs.Common.{refl, rules}
use Rattle.trace_line.proofs.Parts.{takes_none, takes_next}
use Rattle.trace_line.proofs.take_half.Goals as goal

pub returns-in-Digits-len1-up : goal.returns-in-Digits-len1-up
returns-in-Digits-len1-up c = let a = c.args in
    takes_next a.line _ _ a.text.now a.frame.now a.frame.now _ 0 (takes_none a.line _ a.text.now a.frame.now refl) (search rules) (search rules) c.take_byte.ensures.line c.take_byte.ensures.frame

pub returns-in_default : goal.returns-in_default
returns-in_default c = takes_none _ _ _ _ refl

pub returns-in_default-2 : goal.returns-in_default-2
returns-in_default-2 c = takes_none _ _ _ _ refl

pub returns-in_default-3 : goal.returns-in_default-3
returns-in_default-3 c = takes_none _ _ _ _ refl

pub returns-in_default-4 : goal.returns-in_default-4
returns-in_default-4 c = takes_none _ _ _ _ refl
