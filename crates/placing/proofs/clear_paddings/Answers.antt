-- `placing::clear_paddings` meets its contract.
use mathlib.Core.Path.{◌≡◌, refl, ap, ◌∙◌}
use Prim.Native.Nat.{◌+◌}
use native.Mathlib.Omega.{arith}
use borrow.Author.Rules.{rules}
use lib.ListN.{length, take, drop}
use Rattle.chunk_lists.specs.Words.{reads_in}
use Rattle.chunk_lists.proofs.Words.{length_reads}
use Rattle.layout.specs.Layout.{run}
use Rattle.layout.specs.Internal.Walks.{ended_length}
use Rattle.placing.proofs.Sources.{padded_start, padded_next, padded_last, ended_within, last_within}
use Rattle.layout.proofs.Scatter.{length_scatter}
use Rattle.layout.proofs.ChunksStand.{rounded_most}
use Rattle.layout.proofs.ChunkWalk.{along_start, Here, here, Behind, behind_all}
use Rattle.placing.proofs.clear_paddings.Goals as goal

pub loop-i-init : goal.loop-i-init
loop-i-init c = let first : c.default-w.result ≡ run 0 0 = search rules in rw first (search rules, along_start _ c.requires.1.rise, refl, padded_start _ _)

pub overflow_add-w : goal.overflow_add-w
overflow_add-w c = let known : Here (drop c.loop-i.i (take c.args.n (reads_in c.args.words.now))) (drop (c.loop-i.i + 1) (take c.args.n (reads_in c.args.words.now))) c.loop-i.i 0 c.loop-i.w c.read_segment_of-x.result = let at = c.loop-i in here _ at.i _ _ at.w (length_reads _) c.requires.0 at.invariant.1 _ c.read_segment_of-x.ensures c.loop-i-test.true in
    let h = known in omega arith

pub padding-requires : goal.padding-requires
padding-requires c = let known : Here (drop c.loop-i.i (take c.args.n (reads_in c.args.words.now))) (drop (c.loop-i.i + 1) (take c.args.n (reads_in c.args.words.now))) c.loop-i.i 0 c.loop-i.w c.read_segment_of-x.result = let at = c.loop-i in here _ at.i _ _ at.w (length_reads _) c.requires.0 at.invariant.1 _ c.read_segment_of-x.ensures c.loop-i-test.true in
    let h = known in rw c.ended_length-length.ensures (omega arith)

pub clear_at-requires : goal.clear_at-requires
clear_at-requires c = let known : Here (drop c.loop-i.i (take c.args.n (reads_in c.args.words.now))) (drop (c.loop-i.i + 1) (take c.args.n (reads_in c.args.words.now))) c.loop-i.i 0 c.loop-i.w c.read_segment_of-x.result = let at = c.loop-i in here _ at.i _ _ at.w (length_reads _) c.requires.0 at.invariant.1 _ c.read_segment_of-x.ensures c.loop-i-test.true in
    let start = c in
    let at = c.loop-i in
    let h = known in
    let e = c.ended_length-length.ensures in
    let pad = rw e at c.padding.ensures.0 in
    let within = ended_within start.args.base _ at.w start.requires.1.stand _ _ h.walk (rw h.rest at at.invariant.3).parts in
    let up = (rounded_most (ended_length at.w c.read_segment_of-x.result)).0 in
    omega arith

pub loop-i-preserved : goal.loop-i-preserved
loop-i-preserved c = let known : Here (drop c.loop-i.i (take c.args.n (reads_in c.args.words.now))) (drop (c.loop-i.i + 1) (take c.args.n (reads_in c.args.words.now))) c.loop-i.i 0 c.loop-i.w c.read_segment_of-x.result = let at = c.loop-i in here _ at.i _ _ at.w (length_reads _) c.requires.0 at.invariant.1 _ c.read_segment_of-x.ensures c.loop-i-test.true in
    let at = c.loop-i in
    let h = known in
    let e = c.ended_length-length.ensures in
    let next = padded_next _ at.w _ _ _ _ h.walk (rw h.rest at at.invariant.3) _ _ (rw e at c.padding.ensures.0) (rw e at c.clear_at.ensures) in
    (search rules, h.onward 0 _ (omega arith) c.joined-w.ensures.0 c.joined-w.ensures.1, ap length next.filled ∙ length_scatter _ _ _, rw c.joined-w.ensures.0 next)

pub clear_at-requires-2 : goal.clear_at-requires-2
clear_at-requires-2 c = let behind : Behind (drop c.loop-i.i (take c.args.n (reads_in c.args.words.now))) c.loop-i.i 0 c.loop-i.w = let at = c.loop-i in behind_all _ at.i _ _ at.w (length_reads _) c.requires.0 at.invariant.1 (omega arith) at.invariant.0 in
    let start = c in
    let at = c.loop-i in
    let h = behind in
    let within = last_within start.args.base _ at.w start.requires.1.stand h.walk (rw h.none at at.invariant.3).parts in
    let up = (rounded_most at.w.length).0 in
    omega arith

pub returns : goal.returns
returns c = let behind : Behind (drop c.loop-i.i (take c.args.n (reads_in c.args.words.now))) c.loop-i.i 0 c.loop-i.w = let at = c.loop-i in behind_all _ at.i _ _ at.w (length_reads _) c.requires.0 at.invariant.1 (omega arith) at.invariant.0 in
    let at = c.loop-i in
    let h = behind in
    padded_last _ at.w _ _ h.walk (rw h.none at at.invariant.3) _ _ c.padding-2.ensures.0 c.clear_at-2.ensures
