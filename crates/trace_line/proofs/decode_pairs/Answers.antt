-- `trace_line::decode_pairs` meets its contract.
use Rattle.std.proofs.Common.{◌≡◌, ◌+◌, ◌*◌, rules}
use Rattle.trace_line.proofs.Digits.{pairs_none, pairs_next}
use Rattle.trace_line.proofs.decode_pairs.Goals as goal

pub loop-k-init : goal.loop-k-init
loop-k-init c = (search rules, search rules, pairs_none _ _)

pub loop-k-preserved : goal.loop-k-preserved
loop-k-preserved c =
    (search rules, search rules, pairs_next c.loop-k.invariant.2 (search rules) (search rules) c.value-a.ensures.is c.value-b.ensures.is c.value-c.ensures.is c.value-d.ensures.is (search rules))

pub returns-else-a-b-ge-NO_DIGIT : goal.returns-else-a-b-ge-NO_DIGIT
returns-else-a-b-ge-NO_DIGIT c =
    let whole : c.min-n.result * 2 ≡ c.loop-k.k + 2 = search rules in
    rw whole (pairs_next c.loop-k.invariant.2 (search rules) (search rules) c.value-a.ensures.is c.value-b.ensures.is c.value-c.ensures.is c.value-d.ensures.is (search rules))
