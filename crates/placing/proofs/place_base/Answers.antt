-- `placing::place_base` meets its contract.
use mathlib.Core.Path.{◌≡◌, refl, sym, ap, ◌∙◌}
use Prim.Native.Nat.{◌+◌, ◌-◌, ◌≤◌, ◌<◌, min}
use native.Mathlib.Nat.{add-zero, add_assoc, sub-zero}
use native.Mathlib.Omega.{arith}
use borrow.Author.Rules.{rules}
use lib.Seq.{take-length}
use lib.ListN.{length, take, drop, length-drop}
use Rattle.wire.proofs.Fields.{part_from}
use Rattle.chunk_lists.proofs.Words.{length_reads}
use Rattle.layout.specs.Places.{scatter}
use Rattle.layout.specs.Internal.Walks.{joined_run, ended_length}
use Rattle.layout.specs.Layout.{run, other_chunks, rounded_up}
use Rattle.layout.proofs.Scatter.{length_scatter, scatter_none}
use Rattle.layout.proofs.ChunkWalk.{along_start, Here, Behind}
use Rattle.layout.proofs.RunWalk.{GapRun, GapSought, gap_start, gap_last}
use Rattle.placing.specs.Goes.{of_segment, goes}
use Rattle.placing.proofs.EmptySegments.{non_empty, PassedOver, passed_over_lem, some_here, same_rest, empty_here, none_to_come}
use Rattle.placing.proofs.Sources.{placed_empty, piece_none, piece_goes_lem, GapStep, gap_step, step_within, last_placed, last_counted, fits_in, one_more, last_fits, not_all, seek_within, within_base}
use Rattle.placing.proofs.place_base.Invariants.{list, some_places}
use Rattle.placing.proofs.place_base.Goals as goal

-- The clauses, from all of them at once.
clauses : {A B : Type 0} → A × B → record { answer : A; buffer : B }
clauses p = record { answer = p.0; buffer = p.1 }

pub returns-then-size-eq0 : goal.returns-then-size-eq0
returns-then-size-eq0 c = record { answer = piece_none _ _ c.args.piece.now c.if-size-eq0.true; buffer = placed_empty _ c.args.piece.now _ c.if-size-eq0.true }

pub loop-i-init : goal.loop-i-init
loop-i-init c = let over : PassedOver c.args.base (list c.args.words.now c.args.n) = passed_over_lem _ _ c.requires.1.rise c.requires.1.stand in
    let o = over in
    let first : c.default-w.result ≡ run 0 0 = search rules in
    rw first (search rules, along_start _ o.rise, refl, omega arith, sym (scatter_none _ _), rw add-zero (gap_start _ _ _ o.stand o.solids), rw (add-zero, sub-zero) (omega arith))

pub loop-i-preserved-then-x-eq0 : goal.loop-i-preserved-then-x-eq0
loop-i-preserved-then-x-eq0 c = let rest = same_rest _ c.loop-i.i _ _ c.loop-i.w (length_reads _) c.requires.0 c.loop-i.invariant.1 _ c.read_segment_of-x.ensures c.loop-i-test.true c.if-x-eq0.true in
    (omega arith, empty_here _ c.loop-i.i _ _ c.loop-i.w (length_reads _) c.requires.0 c.loop-i.invariant.1 _ c.read_segment_of-x.ensures c.loop-i-test.true c.if-x-eq0.true, c.loop-i.invariant.2, c.loop-i.invariant.3, c.loop-i.invariant.4, rw rest at c.loop-i.invariant.5, c.loop-i.invariant.6)

pub rounded-earlier-requires : goal.rounded-earlier-requires
rounded-earlier-requires c = let known : Here (non_empty (drop c.loop-i.i (list c.args.words.now c.args.n))) (non_empty (drop (c.loop-i.i + 1) (list c.args.words.now c.args.n))) c.loop-i.i c.loop-i.earlier c.loop-i.w c.read_segment_of-x.result = some_here _ c.loop-i.i _ _ c.loop-i.w (length_reads _) c.requires.0 c.loop-i.invariant.1 _ c.read_segment_of-x.ensures c.loop-i-test.true c.if-x-eq0.false in
    let h = known in rw c.ended_length.ensures (omega arith)

pub overflow_add-earlier : goal.overflow_add-earlier
overflow_add-earlier c = let known : Here (non_empty (drop c.loop-i.i (list c.args.words.now c.args.n))) (non_empty (drop (c.loop-i.i + 1) (list c.args.words.now c.args.n))) c.loop-i.i c.loop-i.earlier c.loop-i.w c.read_segment_of-x.result = some_here _ c.loop-i.i _ _ c.loop-i.w (length_reads _) c.requires.0 c.loop-i.invariant.1 _ c.read_segment_of-x.ensures c.loop-i-test.true c.if-x-eq0.false in
    let h = known in omega arith

pub overflow_add-here-in-loop-i : goal.overflow_add-here-in-loop-i
overflow_add-here-in-loop-i c = let known : Here (non_empty (drop c.loop-i.i (list c.args.words.now c.args.n))) (non_empty (drop (c.loop-i.i + 1) (list c.args.words.now c.args.n))) c.loop-i.i c.loop-i.earlier c.loop-i.w c.read_segment_of-x.result = some_here _ c.loop-i.i _ _ c.loop-i.w (length_reads _) c.requires.0 c.loop-i.invariant.1 _ c.read_segment_of-x.ensures c.loop-i-test.true c.if-x-eq0.false in
    let h = known in omega arith

pub place_gap-m-requires : goal.place_gap-m-requires
place_gap-m-requires c = let over : PassedOver c.args.base (list c.args.words.now c.args.n) = passed_over_lem _ _ c.requires.1.rise c.requires.1.stand in
    let known : Here (non_empty (drop c.loop-i.i (list c.args.words.now c.args.n))) (non_empty (drop (c.loop-i.i + 1) (list c.args.words.now c.args.n))) c.loop-i.i c.loop-i.earlier c.loop-i.w c.read_segment_of-x.result = some_here _ c.loop-i.i _ _ c.loop-i.w (length_reads _) c.requires.0 c.loop-i.invariant.1 _ c.read_segment_of-x.ensures c.loop-i-test.true c.if-x-eq0.false in
    let ended : c.rounded-earlier.result ≡ rounded_up (ended_length c.loop-i.w c.read_segment_of-x.result) = rw (← c.ended_length.ensures) c.rounded-earlier.ensures.0 in
    let h = known in
    let o = over in
    let room = step_within c.args.base _ c.loop-i.w c.loop-i.earlier c.read_segment_of-x.result _ h.walk c.args.count c.loop-i.j (rw h.rest at c.loop-i.invariant.5) _ ended c.args.piece.now c.loop-i.invariant.3 _ refl o.stand c.requires.3 in
    let same = o.same_message in
    let kept = c.loop-i.invariant.2 in
    let large = c.requires.2 in
    rw (part_from c.loop-i.j c.args.piece.now, length-drop) (fits_in _ _ _ _ _ room same large kept)

pub overflow_add-goes : goal.overflow_add-goes
overflow_add-goes c = let few : goes (of_segment 0 (take (length c.args.piece.now) (drop c.args.count (some_places c.args.words.now c.args.n c.args.base)))) ≤ 1048576 = omega (arith, piece_goes_lem 0 c.args.count (length c.args.piece.now) (some_places c.args.words.now c.args.n c.args.base), c.requires.1.small, c.requires.3) in
    record { fits = one_more _ _ _ _ c.place_gap-m.result c.loop-i.invariant.6 few c.goes_for-goes.ensures }

pub returns-then-j-size : goal.returns-then-j-size
returns-then-j-size c = clauses (let over : PassedOver c.args.base (list c.args.words.now c.args.n) = passed_over_lem _ _ c.requires.1.rise c.requires.1.stand in
    let known : Here (non_empty (drop c.loop-i.i (list c.args.words.now c.args.n))) (non_empty (drop (c.loop-i.i + 1) (list c.args.words.now c.args.n))) c.loop-i.i c.loop-i.earlier c.loop-i.w c.read_segment_of-x.result = some_here _ c.loop-i.i _ _ c.loop-i.w (length_reads _) c.requires.0 c.loop-i.invariant.1 _ c.read_segment_of-x.ensures c.loop-i-test.true c.if-x-eq0.false in
    let ended : c.rounded-earlier.result ≡ rounded_up (ended_length c.loop-i.w c.read_segment_of-x.result) = rw (← c.ended_length.ensures) c.rounded-earlier.ensures.0 in
    let share : c.place_gap-m.result ≡ min (c.read_segment_of-x.result.position - (c.args.count + c.loop-i.j + (c.loop-i.earlier + c.rounded-earlier.result))) (length c.args.piece.now - c.loop-i.j) = rw (← (length-drop c.loop-i.j c.args.piece.now), ← (part_from c.loop-i.j c.args.piece.now)) c.place_gap-m.ensures.answer in
    let step : GapStep (some_places c.args.words.now c.args.n c.args.base) c.args.count c.loop-i.j c.place_gap-m.result (c.args.count + c.loop-i.j + (c.loop-i.earlier + c.rounded-earlier.result)) c.args.piece.now c.args.out.now c.loop-i.out c.loop-i.goes (goes (of_segment 0 (take (length c.args.piece.now) (drop c.args.count (some_places c.args.words.now c.args.n c.args.base))))) (GapSought c.args.base (other_chunks (non_empty (list c.args.words.now c.args.n))) (c.args.count + (c.loop-i.j + c.place_gap-m.result)) (c.loop-i.earlier + c.rounded-earlier.result) (joined_run c.loop-i.w c.read_segment_of-x.result) (non_empty (drop (c.loop-i.i + 1) (list c.args.words.now c.args.n)))) = let h = known in gap_step c.args.base _ c.loop-i.w c.loop-i.earlier c.read_segment_of-x.result _ h.walk c.args.count c.loop-i.j (rw h.rest at c.loop-i.invariant.5) _ ended c.args.piece.now c.loop-i.invariant.3 _ share _ c.loop-i.out c.loop-i.goes _ c.loop-i.invariant.4 c.loop-i.invariant.6 in
    let put : c.place_gap-m.new.out ≡ scatter (drop c.args.count (some_places c.args.words.now c.args.n c.args.base)) (take (c.loop-i.j + c.place_gap-m.result) c.args.piece.now) c.args.out.now = step.placed _ (rw (← c.place_gap-m.ensures.answer, part_from c.loop-i.j c.args.piece.now) at c.place_gap-m.ensures.buffer) in
    let s = step in
    rw over.same_places
    (rw c.goes_for-goes.ensures (s.finished c.if-j-size.true), put ∙ rw (c.if-j-size.true, take-length)))

pub loop-i-preserved : goal.loop-i-preserved
loop-i-preserved c = let known : Here (non_empty (drop c.loop-i.i (list c.args.words.now c.args.n))) (non_empty (drop (c.loop-i.i + 1) (list c.args.words.now c.args.n))) c.loop-i.i c.loop-i.earlier c.loop-i.w c.read_segment_of-x.result = some_here _ c.loop-i.i _ _ c.loop-i.w (length_reads _) c.requires.0 c.loop-i.invariant.1 _ c.read_segment_of-x.ensures c.loop-i-test.true c.if-x-eq0.false in
    let ended : c.rounded-earlier.result ≡ rounded_up (ended_length c.loop-i.w c.read_segment_of-x.result) = rw (← c.ended_length.ensures) c.rounded-earlier.ensures.0 in
    let share : c.place_gap-m.result ≡ min (c.read_segment_of-x.result.position - (c.args.count + c.loop-i.j + (c.loop-i.earlier + c.rounded-earlier.result))) (length c.args.piece.now - c.loop-i.j) = rw (← (length-drop c.loop-i.j c.args.piece.now), ← (part_from c.loop-i.j c.args.piece.now)) c.place_gap-m.ensures.answer in
    let step : GapStep (some_places c.args.words.now c.args.n c.args.base) c.args.count c.loop-i.j c.place_gap-m.result (c.args.count + c.loop-i.j + (c.loop-i.earlier + c.rounded-earlier.result)) c.args.piece.now c.args.out.now c.loop-i.out c.loop-i.goes (goes (of_segment 0 (take (length c.args.piece.now) (drop c.args.count (some_places c.args.words.now c.args.n c.args.base))))) (GapSought c.args.base (other_chunks (non_empty (list c.args.words.now c.args.n))) (c.args.count + (c.loop-i.j + c.place_gap-m.result)) (c.loop-i.earlier + c.rounded-earlier.result) (joined_run c.loop-i.w c.read_segment_of-x.result) (non_empty (drop (c.loop-i.i + 1) (list c.args.words.now c.args.n)))) = let h = known in gap_step c.args.base _ c.loop-i.w c.loop-i.earlier c.read_segment_of-x.result _ h.walk c.args.count c.loop-i.j (rw h.rest at c.loop-i.invariant.5) _ ended c.args.piece.now c.loop-i.invariant.3 _ share _ c.loop-i.out c.loop-i.goes _ c.loop-i.invariant.4 c.loop-i.invariant.6 in
    let put : c.place_gap-m.new.out ≡ scatter (drop c.args.count (some_places c.args.words.now c.args.n c.args.base)) (take (c.loop-i.j + c.place_gap-m.result) c.args.piece.now) c.args.out.now = step.placed _ (rw (← c.place_gap-m.ensures.answer, part_from c.loop-i.j c.args.piece.now) at c.place_gap-m.ensures.buffer) in
    let h = known in
    let s = step in
    let after = put in
    let further : c.loop-i.j + c.place_gap-m.result < length c.args.piece.now = (let near = share in let more = c.loop-i.invariant.3 in let left = c.if-j-size.false in not_all _ _ _ _ near more left) in
    let grown = rw c.ended_length.ensures at c.rounded-earlier.ensures.2 in
    let joined = c.joined-w.ensures in
    (search rules, h.onward _ _ grown joined.0 joined.1, ap length after ∙ length_scatter _ _ _, further, after, rw joined.0 (s.next further), rw c.goes_for-goes.ensures s.counted)

pub copy_at-requires : goal.copy_at-requires
copy_at-requires c = let over : PassedOver c.args.base (list c.args.words.now c.args.n) = passed_over_lem _ _ c.requires.1.rise c.requires.1.stand in
    let behind : Behind (non_empty (drop c.loop-i.i (list c.args.words.now c.args.n))) c.loop-i.i c.loop-i.earlier c.loop-i.w = none_to_come _ c.loop-i.i _ _ c.loop-i.w (length_reads _) c.requires.0 c.loop-i.invariant.1 (omega arith) c.loop-i.invariant.0 in
    let last : GapRun (some_places c.args.words.now c.args.n c.args.base) (c.args.count + c.loop-i.j) (run (c.args.count + c.loop-i.j + (c.loop-i.earlier + c.rounded.result)) (c.args.base - (c.args.count + c.loop-i.j))) = let h = behind in gap_last _ _ _ _ _ c.loop-i.w h.walk (omega arith) c.rounded.ensures.0 (rw h.none at c.loop-i.invariant.5) in
    let o = over in
    let within = seek_within _ _ _ _ last.seeks (within_base c.args.base _ o.stand) in
    let same = o.same_message in
    let kept = c.loop-i.invariant.2 in
    let large = c.requires.2 in
    rw (part_from c.loop-i.j c.args.piece.now, length-drop) (last_fits _ c.loop-i.j _ _ _ c.args.base _ _ _ _ within c.requires.3 c.loop-i.invariant.3 same large kept)

pub overflow_add-result : goal.overflow_add-result
overflow_add-result c = let few : goes (of_segment 0 (take (length c.args.piece.now) (drop c.args.count (some_places c.args.words.now c.args.n c.args.base)))) ≤ 1048576 = omega (arith, piece_goes_lem 0 c.args.count (length c.args.piece.now) (some_places c.args.words.now c.args.n c.args.base), c.requires.1.small, c.requires.3) in
    let f = few in let now = c.loop-i.invariant.6 in omega arith

pub returns : goal.returns
returns c = clauses (let over : PassedOver c.args.base (list c.args.words.now c.args.n) = passed_over_lem _ _ c.requires.1.rise c.requires.1.stand in
    let behind : Behind (non_empty (drop c.loop-i.i (list c.args.words.now c.args.n))) c.loop-i.i c.loop-i.earlier c.loop-i.w = none_to_come _ c.loop-i.i _ _ c.loop-i.w (length_reads _) c.requires.0 c.loop-i.invariant.1 (omega arith) c.loop-i.invariant.0 in
    let last : GapRun (some_places c.args.words.now c.args.n c.args.base) (c.args.count + c.loop-i.j) (run (c.args.count + c.loop-i.j + (c.loop-i.earlier + c.rounded.result)) (c.args.base - (c.args.count + c.loop-i.j))) = let h = behind in gap_last _ _ _ _ _ c.loop-i.w h.walk (omega arith) c.rounded.ensures.0 (rw h.none at c.loop-i.invariant.5) in
    let r = last in
    let most : length c.args.piece.now - c.loop-i.j ≤ c.args.base - (c.args.count + c.loop-i.j) = (let low = c.requires.3 in omega arith) in
    rw over.same_places
    (last_counted _ c.args.count c.loop-i.j _ c.args.piece.now r c.loop-i.invariant.3 most _ _ c.loop-i.invariant.6, last_placed _ c.args.count c.loop-i.j _ c.args.piece.now r c.loop-i.invariant.3 most _ c.loop-i.out _ c.loop-i.invariant.4 (rw add_assoc at c.copy_at.ensures)))
