-- A segment more.
use Rattle.std.proofs.Common.{◌≡◌, false, rules}
use Rattle.chunk_lists.proofs.Words.{next_in, none_in}
use Rattle.layout.proofs.Summing.{summed_start, summed_ready, summed_next, summed_all}
use Rattle.layout.proofs.sums_of.Goals as goal

pub loop-i-init : goal.loop-i-init
loop-i-init c = let e : c.default-sums.result ≡ record { zero_length = 0; any_zero = false; all_length = 0 } = search rules in rw e (summed_start _)

pub with-sums-requires : goal.with-sums-requires
with-sums-requires c = summed_ready _ _ _ (search rules) c.loop-i.invariant

pub loop-i-preserved : goal.loop-i-preserved
loop-i-preserved c =
    let here = next_in c.args.words.now c.args.n c.loop-i.i _ c.read_segment_of.ensures c.loop-i-test.true c.requires.0 in
    summed_next _ _ _ _ _ here c.loop-i.invariant c.with-sums.ensures.0 c.with-sums.ensures.1

pub returns : goal.returns
returns c = summed_all _ _ _ (none_in c.args.words.now c.args.n c.loop-i.i c.loop-i-test.false c.requires.0) c.loop-i.invariant
