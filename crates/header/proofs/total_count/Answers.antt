-- `header::total_count` meets its contract.
use Rattle.std.proofs.Common.{rules, arith, tests, ◌∙◌, take, ◌^◌}
use Rattle.std.proofs.lemmas.Iterator.{YieldsList-from_slice, YieldsList-from_take, YieldsList-from_map}
use Rattle.std.proofs.lemmas.Iterator.Adapters.{fits_from_length, at_most_from_yields_List}
use Rattle.std.proofs.lemmas.Iterator.Consumers.{YieldsList-at, sum_by_from_yields_List}
use Rattle.header.proofs.Limits.{total_is_sum, counts_few}
use Rattle.header.specs.Words.{counts_in}
use Rattle.header.proofs.total_count.Goals as goal

pub sum-requires-clause-fits : goal.sum-requires-clause-fits
sum-requires-clause-fits c =
    let w = c.args.words.now in
    fits_from_length _ _ 4 (2 ^ 64) (at_most_from_yields_List (YieldsList-at c.map.ensures.source (YieldsList-from_take c.args.n (YieldsList-at c.take.ensures.source (YieldsList-from_slice (counts_in w) cc)) c.take.ensures.count)) (counts_few c.args.n w)) c.map.ensures.closure (omega arith) (λ x r q k. search rules)

pub returns : goal.returns
returns c =
    let w = c.args.words.now in
    sum_by_from_yields_List _ (take c.args.n (counts_in w)) c.map.result _ c.sum.ensures.ran
    (YieldsList-from_map _ (λ x. x) (YieldsList-at c.map.ensures.source (YieldsList-from_take c.args.n (YieldsList-at c.take.ensures.source (YieldsList-from_slice (counts_in w) (cc))) c.take.ensures.count)) c.map.ensures.closure (λ x r q k. search (rules, tests)))
    ∙ total_is_sum _
