-- `writer::encode_write_list` meets its contract.
use mathlib.Core.Path.{◌≡◌, refl}
use Prim.Native.Nat.{ℕ, ◌+◌, ◌-◌, ◌<◌}
use mathlib.Core.List.{List}
use lib.ListN.{length, take, drop, get_or, length-take}
use lib.Seq.{get_or-take, get_or-drop}
use borrow.Rule.Slice.PartMut.{mid_of}
use native.Mathlib.Omega.{arith}
use borrow.Author.Rules.{rules}
use Rattle.wire.specs.Wire.{stored, joined}
use Rattle.wire.proofs.Fields.{then}
use Rattle.wire.proofs.Joining.{joined_snoc}
use Rattle.chunk_lists.specs.Words.{segments_in}
use Rattle.chunk_lists.proofs.Words.{length_segments}
use Rattle.header.specs.Content.{runs}
use Rattle.header.specs.Limits.{total}
use Rattle.header.specs.Words.{counts_in}
use Rattle.header.specs.Bytes.{write_list_bytes}
use Rattle.header.proofs.Limits.{count_within, total_next, counts_long, count_here}
use Rattle.header.proofs.Bytes.{runs_next}
use Rattle.writer.proofs.HeaderWriting.{chunks_size}
use Rattle.writer.proofs.encode_write_list.Goals as goal

pub loop-count-init : goal.loop-count-init
unfolding stored joined runs total
loop-count-init c = (search rules, refl, refl, omega arith, refl)

-- The count at hand is one of the first n.
turn : (w : List ℕ) (j n : ℕ) → j < length (mid_of 224 (224 + n - 224) w) → (j < n) × (get_or (mid_of 224 (224 + n - 224) w) j 0 ≡ get_or w (224 + j) 0)
turn w j n h =
    let here : j < n = omega (arith, length-take (224 + n - 224) (drop 224 w)) in
    (here, rw (get_or-take (224 + n - 224) (drop 224 w) j 0 (omega arith), get_or-drop 224 w j 0))

pub encode_chunk-requires : goal.encode_chunk-requires
encode_chunk-requires c =
    let here = turn c.args.words.now c.loop-count.count-index c.args.n c.loop-count-test.true in
    let within = count_within c.args.words.now c.loop-count.count-index c.args.n (search rules) here.0 c.requires.0 in
    rw here.1 (search rules)

pub overflow_add-end-in-loop-count : goal.overflow_add-end-in-loop-count
overflow_add-end-in-loop-count c =
    let here = turn c.args.words.now c.loop-count.count-index c.args.n c.loop-count-test.true in
    let within = count_within c.args.words.now c.loop-count.count-index c.args.n (search rules) here.0 c.requires.0 in
    rw here.1 (omega arith)

pub loop-count-preserved : goal.loop-count-preserved
loop-count-preserved c = let w = c.args.words.now in
    let here = c.loop-count in
    let long : length w ≡ 238 = search rules in
    let four = counts_long w long in
    let full = length_segments 96 w in
    let this = turn w here.count-index c.args.n c.loop-count-test.true in
    let count = count_here w here.count-index (omega arith) in
    let next = total_next (counts_in w) here.count-index (omega arith) in
    let within = count_within w here.count-index c.args.n long this.0 c.requires.0 in
    let size = chunks_size w here.count-index long (omega arith) (omega arith) in
    let made = rw this.1 at c.encode_chunk.ensures in
    (omega arith, search rules, omega arith, omega arith, rw (runs_next (counts_in w) here.count-index (segments_in 96 w) (omega arith), joined_snoc, count, ← here.invariant.2) (then _ _ _ _ _ _ _ here.invariant.4 made (omega arith)))

pub returns : goal.returns
unfolding write_list_bytes
returns c = let w = c.args.words.now in
    let long : length w ≡ 238 = search rules in
    let all : c.loop-count.count-index ≡ c.args.n = omega arith in
    let used : c.loop-count.used ≡ total (take c.args.n (counts_in w)) = rw (← all) c.loop-count.invariant.2 in
    let size = chunks_size w c.args.n long c.requires.0 c.requires.1 in
    (omega arith, then _ _ _ _ _ _ _ (rw all at c.loop-count.invariant.4) c.put_word.ensures (omega arith))
