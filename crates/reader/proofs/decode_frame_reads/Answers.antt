-- `reader::decode_frame_reads` meets its contract.
use mathlib.Core.Path.{ap, ◌∙◌}
use mathlib.Core.List.{List}
use Prim.Native.Nat.{ℕ}
use native.Mathlib.Omega.{arith}
use lib.ListN.{length-drop}
use Rattle.wire.proofs.Fields.{part_from}
use Rattle.wire.specs.Wire.{stored}
use Rattle.wire.specs.declared.ReadSegment.{ReadSegment}
use Rattle.chunk_lists.specs.Words.{reads_words}
use Rattle.chunk_lists.specs.Parsed.{each}
use Rattle.chunk_lists.specs.Internal.Steps.{marked_segment_at}
use Rattle.reader.proofs.FrameParts.{found, bounds, reads_found}
use Rattle.reader.proofs.decode_frame_reads.Goals as goal

pub slice_bounds-decode_segments-count : goal.slice_bounds-decode_segments-count
slice_bounds-decode_segments-count c = let a = c.args in
    let b = bounds a.s.now a.shape (found a.s.now a.shape c.requires.0) in
    omega arith

pub slice_bounds-decode_segments-start : goal.slice_bounds-decode_segments-start
slice_bounds-decode_segments-start c = let a = c.args in
    let b = bounds a.s.now a.shape (found a.s.now a.shape c.requires.0) in
    omega arith

pub decode_segments-requires : goal.decode_segments-requires
decode_segments-requires c = let a = c.args in
    let b = bounds a.s.now a.shape (found a.s.now a.shape c.requires.0) in
    (rw part_from (omega (arith, length-drop 16 a.s.now)), omega arith)

pub returns : goal.returns
unfolding reads_words
returns c content payload e = let a = c.args in
    let f = found a.s.now a.shape c.requires.0 in
    c.decode_segments.ensures
    ∙ ap (λ (u : List ℕ). stored a.words.now 0 (reads_words (each 24 marked_segment_at a.shape.reads u))) (part_from 16 a.s.now)
    ∙ ap (λ (l : List ReadSegment). stored a.words.now 0 (reads_words l)) (reads_found a.s.now a.shape f content payload e)
