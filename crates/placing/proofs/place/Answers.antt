-- A segment more is passed over, or its bytes are placed.
use Rattle.std.proofs.Common.{◌≡◌, ◌≤◌, length, take, length-take-le, arith, rules}
use Rattle.chunk_lists.specs.Words.{reads_in}
use Rattle.chunk_lists.proofs.Words.{length_reads, next_in}
use Rattle.layout.specs.Layout.{run, other_chunks, message_length}
use Rattle.placing.proofs.Bounds.{most_goes}
use Rattle.placing.proofs.Segments.{read_length_lem}
use Rattle.placing.proofs.Sources.{placed_empty}
use Rattle.placing.proofs.SegmentSteps.{placing_start, placing_ends, passed_over, part_asks, went, all_placed, placed_on, none_taken}
use Rattle.placing.proofs.place.Goals as goal

pub returns-then-size-eq0 : goal.returns-then-size-eq0
returns-then-size-eq0 c = record { answer = none_taken _ c.args.piece.now c.if-size-eq0.true; buffer = placed_empty _ c.args.piece.now _ c.if-size-eq0.true }

pub loop-i-init : goal.loop-i-init
loop-i-init c =
    let first : c.default-chunk.result ≡ run 0 0 = search rules in
    rw first (placing_start _ _ _ _ _ c.requires.1.rise (search rules))

pub loop-i-preserved-then-length-left : goal.loop-i-preserved-then-length-left
loop-i-preserved-then-length-left c =
    let here = next_in c.args.words.now c.args.n c.loop-i.i _ c.read_segment_of-x.ensures c.loop-i-test.true c.requires.0 in
    passed_over _ _ _ _ _ _ _ _ _ _ _ c.loop-i.invariant _ here _ c.bytes_at-before.ensures c.if-length-left.true (search rules)

pub place_segment-goes-requires : goal.place_segment-goes-requires
place_segment-goes-requires c =
    let here = next_in c.args.words.now c.args.n c.loop-i.i _ c.read_segment_of-x.ensures c.loop-i-test.true c.requires.0 in
    let room : message_length c.args.base (other_chunks (take c.args.n (reads_in c.args.words.now))) ≤ length c.loop-i.out = rw c.loop-i.auto.out c.requires.3 in
    let asks = part_asks _ _ _ _ _ _ _ _ _ _ _ c.loop-i.invariant _ here _ c.bytes_at-before.ensures c.requires.1 c.requires.2 c.if-length-left.false _ c.min-m.ensures room in
    (c.requires.0, c.requires.1, room, asks.0, asks.1, c.requires.5)

pub overflow_add-goes : goal.overflow_add-goes
overflow_add-goes c =
    let here = next_in c.args.words.now c.args.n c.loop-i.i _ c.read_segment_of-x.ensures c.loop-i-test.true c.requires.0 in
    let sum = went _ _ _ _ _ _ _ _ _ _ _ c.loop-i.invariant _ here _ c.bytes_at-before.ensures c.requires.1 c.requires.2 c.if-length-left.false _ c.min-m.ensures _ _ c.place_segment-goes.ensures.answer c.place_segment-goes.ensures.buffer in
    let few = most_goes c.args.base (take c.args.n (reads_in c.args.words.now)) (rw (length-take-le c.args.n (reads_in c.args.words.now) (rw length_reads c.requires.0)) c.requires.0) c.requires.1 c.requires.2 c.args.count (length c.args.piece.now) in
    record { fits = omega arith }

pub returns-then-e-size : goal.returns-then-e-size
returns-then-e-size c =
    let here = next_in c.args.words.now c.args.n c.loop-i.i _ c.read_segment_of-x.ensures c.loop-i-test.true c.requires.0 in
    let all = all_placed _ _ _ _ _ _ _ _ _ _ _ c.loop-i.invariant _ here _ c.bytes_at-before.ensures c.requires.1 c.requires.2 c.if-length-left.false _ c.min-m.ensures _ _ c.place_segment-goes.ensures.answer c.place_segment-goes.ensures.buffer c.if-e-size.true in
    record { answer = all.0; buffer = all.1 }

pub loop-i-preserved : goal.loop-i-preserved
loop-i-preserved c =
    let here = next_in c.args.words.now c.args.n c.loop-i.i _ c.read_segment_of-x.ensures c.loop-i-test.true c.requires.0 in
    placed_on _ _ _ _ _ _ _ _ _ _ _ c.loop-i.invariant _ here _ c.bytes_at-before.ensures c.requires.1 c.requires.2 c.if-length-left.false _ c.min-m.ensures _ _ c.place_segment-goes.ensures.answer c.place_segment-goes.ensures.buffer c.if-e-size.false (search rules)

-- The segments have as many bytes as are to be placed.
pub returns : goal.returns
returns c =
    let few : length (take c.args.n (reads_in c.args.words.now)) ≤ c.loop-i.i = rw (length-take-le c.args.n (reads_in c.args.words.now) (rw length_reads c.requires.0)) c.loop-i-test.false in
    absurd (placing_ends _ _ _ _ _ _ _ _ _ _ _ c.loop-i.invariant few (rw (read_length_lem _ _ c.requires.1.stand c.requires.2) at c.requires.4))
