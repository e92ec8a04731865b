-- `assembly_start::start_into` meets its contract.
use Rattle.assembly_start.proofs.Starts.{chunks_ready, not_started_is, start_layout, started_is, refused_is}
use Rattle.reader.proofs.FrameParts.{found, unfound, bounds}
use lib.ListN.{length}
use native.Mathlib.Omega.{arith}
use mathlib.Core.Path.{ap, refl, sym, ◌∙◌}
use Rattle.answers.specs.Refusals.{numbered}
use borrow.Author.Rules.{rules}
use Rattle.std.proofs.lemmas.List.{take_rest}
use Rattle.assembly_start.proofs.start_into.Goals as goal

-- The clauses, from all of them at once.
clauses : {A B C : Type 0} → A × (B × C) → record { answer : A; state : B; buffer : C }
clauses p = record { answer = p.0; state = p.1.0; buffer = p.1.1 }

pub returns-in_default : goal.returns-in_default
returns-in_default c = clauses (let a = c.args in
    rw (c.number.ensures, c.in_default.is) (refused_is a.frame.now _ _ a.out.now a.words.now (unfound a.frame.now _ (sym c.check_frame-walk.ensures ∙ ap numbered c.in_default.is))))

pub sort_reads-requires : goal.sort_reads-requires
sort_reads-requires c = let frame = c.args.frame.now in
    let shape = c.in-Ok.shape in
    let few = (bounds frame shape (found frame shape (sym c.check_frame-walk.ensures ∙ ap numbered c.in-Ok.is))).reads_few in
    (omega arith, search rules)

pub sums_of-sums-requires : goal.sums_of-sums-requires
sums_of-sums-requires c = let frame = c.args.frame.now in
    let shape = c.in-Ok.shape in
    ((bounds frame shape (found frame shape (sym c.check_frame-walk.ensures ∙ ap numbered c.in-Ok.is))).reads_few, search rules)

pub slice_bounds-inline-count : goal.slice_bounds-inline-count
slice_bounds-inline-count c = let frame = c.args.frame.now in
    let shape = c.in-Ok.shape in
    (bounds frame shape (found frame shape (sym c.check_frame-walk.ensures ∙ ap numbered c.in-Ok.is))).end_short

pub check_layout-measured-requires : goal.check_layout-measured-requires
check_layout-measured-requires c = let frame = c.args.frame.now in
    let shape = c.in-Ok.shape in
    let f = found frame shape (sym c.check_frame-walk.ensures ∙ ap numbered c.in-Ok.is) in
    let filled = c.decode_frame_reads.ensures f.content f.behind f.read in
    let ready = chunks_ready frame shape f _ filled _ c.sort_reads.ensures in
    (ready.0, ready.1, search rules)

pub returns-in_default-measured : goal.returns-in_default-measured
returns-in_default-measured c = clauses (let a = c.args in
    let frame = a.frame.now in
    let shape = c.in-Ok.shape in
    let f = found frame shape (sym c.check_frame-walk.ensures ∙ ap numbered c.in-Ok.is) in
    let filled = c.decode_frame_reads.ensures f.content f.behind f.read in
    not_started_is frame shape f _ filled _ c.sort_reads.ensures c.sums_of-sums.result c.sums_of-sums.ensures c.base_length-base.result (rw take_rest at c.base_length-base.ensures) (length a.out.now) c.check_layout-measured.result c.check_layout-measured.ensures _ c.number-in_default-measured.ensures c.in_default-measured.not-Ok a.out.now a.words.now refl)

pub write_base_and_padding-requires : goal.write_base_and_padding-requires
write_base_and_padding-requires c = let a = c.args in
    let frame = a.frame.now in
    let shape = c.in-Ok.shape in
    let f = found frame shape (sym c.check_frame-walk.ensures ∙ ap numbered c.in-Ok.is) in
    let b = bounds frame shape f in
    let filled = c.decode_frame_reads.ensures f.content f.behind f.read in
    let l = start_layout frame shape f _ filled _ c.sort_reads.ensures c.sums_of-sums.result c.sums_of-sums.ensures c.base_length-base.result (rw take_rest at c.base_length-base.ensures) (length a.out.now) c.check_layout-measured.result c.check_layout-measured.ensures _ c.in-Ok-measured.is in
    (b.reads_few, l.0, l.1, rw take_rest l.2)

pub overflow_cast-parts : goal.overflow_cast-parts
overflow_cast-parts c = let frame = c.args.frame.now in
    let shape = c.in-Ok.shape in
    let b = bounds frame shape (found frame shape (sym c.check_frame-walk.ensures ∙ ap numbered c.in-Ok.is)) in
    omega arith

pub returns : goal.returns
returns c = clauses (let a = c.args in
    let frame = a.frame.now in
    let shape = c.in-Ok.shape in
    let f = found frame shape (sym c.check_frame-walk.ensures ∙ ap numbered c.in-Ok.is) in
    let filled = c.decode_frame_reads.ensures f.content f.behind f.read in
    started_is frame shape f _ filled _ c.sort_reads.ensures c.sums_of-sums.result c.sums_of-sums.ensures c.base_length-base.result (rw take_rest at c.base_length-base.ensures) (length a.out.now) c.check_layout-measured.result c.check_layout-measured.ensures _ c.in-Ok-measured.is a.out.now _ a.words.now _ refl c.store.ensures (rw take_rest at c.write_base_and_padding.ensures))

pub slice_bounds-inline-start : goal.slice_bounds-inline-start
slice_bounds-inline-start c = let frame = c.args.frame.now in
    let shape = c.in-Ok.shape in
    (bounds frame shape (found frame shape (sym c.check_frame-walk.ensures ∙ ap numbered c.in-Ok.is))).end_short
