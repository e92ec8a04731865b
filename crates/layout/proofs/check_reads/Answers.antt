-- The segments are in order, and their chunks stand, as far as the walk has come.
use Rattle.std.proofs.Common.{◌≡◌, ◌∙◌, sym, false, rules}
use Rattle.chunk_lists.proofs.Words.{next_in, none_in}
use Rattle.layout.proofs.Summing.{summed_ready}
use Rattle.layout.proofs.ReadsWalk.{standable, checking_start, unaligned, fallen_reads, checking_next, checked}
use Rattle.layout.proofs.check_reads.Goals as goal

pub loop-i-init : goal.loop-i-init
loop-i-init c =
    let e : c.default-standing.result ≡ record { hand = record { at = 0; length = 0 }; earlier = 0 } = search rules in
    let f : c.default-sums.result ≡ record { zero_length = 0; any_zero = false; all_length = 0 } = search rules in
    rw (e, f) (checking_start _ _)

pub returns-then-x-ne0 : goal.returns-then-x-ne0
returns-then-x-ne0 c =
    let here = next_in c.args.words.now c.args.n c.loop-i.i _ c.read_segment_of-x.ensures c.loop-i-test.true c.requires.0 in
    unaligned _ _ _ _ _ c.loop-i.invariant _ here c.if-x-ne0.true

pub step-requires : goal.step-requires
step-requires c = standable _ _ _ _ c.loop-i.invariant.walking (search rules)

pub returns-in_err-standing : goal.returns-in_err-standing
returns-in_err-standing c =
    let here = next_in c.args.words.now c.args.n c.loop-i.i _ c.read_segment_of-x.ensures c.loop-i-test.true c.requires.0 in
    rw c.from_residual.ensures (fallen_reads _ _ _ _ _ c.loop-i.invariant _ here (sym c.step.ensures.0 ∙ c.in_err-standing.was))

pub with-sums-requires : goal.with-sums-requires
with-sums-requires c = summed_ready _ _ _ (search rules) c.loop-i.invariant.summed

pub loop-i-preserved : goal.loop-i-preserved
loop-i-preserved c =
    let here = next_in c.args.words.now c.args.n c.loop-i.i _ c.read_segment_of-x.ensures c.loop-i-test.true c.requires.0 in
    checking_next _ _ _ _ _ c.loop-i.invariant _ here _ _ (sym c.step.ensures.0 ∙ c.in_ok-standing.was) c.if-x-ne0.false c.with-sums.ensures.0 c.step.ensures.1

pub length-requires : goal.length-requires
length-requires c = standable _ _ _ _ c.loop-i.invariant.walking (search rules)

pub returns : goal.returns
returns c =
    rw c.length.ensures (checked _ _ _ _ _ c.loop-i.invariant (none_in c.args.words.now c.args.n c.loop-i.i c.loop-i-test.false c.requires.0))
