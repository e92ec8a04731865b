-- `trace_line::DigitTable::new` makes a whole table.
use Rattle.std.proofs.Common.{rules}
use Rattle.trace_line.proofs.DigitTable.new.Goals as goal

pub invariant_of-result : goal.invariant_of-result
invariant_of-result c = record { complete = λ b h. let x = c.from_fn.ensures.items.at b 0 h in search rules }
