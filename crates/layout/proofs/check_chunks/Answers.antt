-- The chunks stand as far as the walk has come.
use Rattle.std.proofs.Common.{◌≡◌, ◌∙◌, sym, rules}
use Rattle.chunk_lists.proofs.Words.{next_in, none_in}
use Rattle.layout.proofs.ReadsWalk.{walking_start, standable, fallen, walking_next, walked}
use Rattle.layout.proofs.check_chunks.Goals as goal

pub loop-i-init : goal.loop-i-init
loop-i-init c = let e : c.default-standing.result ≡ record { hand = record { at = 0; length = 0 }; earlier = 0 } = search rules in rw e (walking_start _ _)

pub step-requires : goal.step-requires
step-requires c = standable _ _ _ _ c.loop-i.invariant (search rules)

pub returns-in_err-standing : goal.returns-in_err-standing
returns-in_err-standing c =
    let here = next_in c.args.words.now c.args.n c.loop-i.i _ c.read_segment_of.ensures c.loop-i-test.true c.requires.0 in
    rw c.from_residual.ensures (rw (fallen _ _ _ _ c.loop-i.invariant _ here (sym c.step.ensures.0 ∙ c.in_err-standing.was) c.requires.1))

pub loop-i-preserved : goal.loop-i-preserved
loop-i-preserved c =
    let here = next_in c.args.words.now c.args.n c.loop-i.i _ c.read_segment_of.ensures c.loop-i-test.true c.requires.0 in
    walking_next _ _ _ _ c.loop-i.invariant _ here _ (sym c.step.ensures.0 ∙ c.in_ok-standing.was) c.step.ensures.1

pub length-requires : goal.length-requires
length-requires c = standable _ _ _ _ c.loop-i.invariant (search rules)

pub returns : goal.returns
returns c =
    let all = walked _ _ _ _ c.loop-i.invariant (none_in c.args.words.now c.args.n c.loop-i.i c.loop-i-test.false c.requires.0) in
    rw (all.1, c.length.ensures, all.2)
