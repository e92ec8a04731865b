-- `writer::encode_segments` meets its contract.
use mathlib.Core.Path.{◌≡◌, refl, ◌∙◌}
use Prim.Native.Nat.{◌+◌}
use native.Mathlib.Omega.{arith}
use lib.Seq.{get_or-drop}
use lib.ListN.{length-drop, drop}
use borrow.Author.Rules.{rules}
use Rattle.wire.specs.Wire.{stored, joined, segment_bytes, zero_segment}
use Rattle.wire.proofs.Joining.{stored_next}
use Rattle.chunk_lists.specs.Words.{segments_in}
use Rattle.chunk_lists.proofs.Words.{length_segments, segments_here}
use Rattle.header.proofs.Bytes.{segment_length}
use Rattle.writer.proofs.encode_segments.Goals as goal

pub loop-j-init : goal.loop-j-init
unfolding stored joined
loop-j-init c = (search rules, refl, refl)

pub loop-j-preserved : goal.loop-j-preserved
loop-j-preserved c = let a = c.args in
    let here = c.loop-j in
    let l = segments_in a.from a.words.now in
    let full = length_segments a.from a.words.now in
    let next = get_or-drop a.i l here.j zero_segment ∙ segments_here a.from a.words.now (a.i + here.j) (omega arith) in
    (search rules, search rules, stored_next segment_bytes 16 segment_length (drop a.i l) zero_segment here.j a.k (rw length-drop (omega arith)) _ _ _ here.invariant.2 (rw next c.encode_segment.ensures))

pub returns : goal.returns
returns c = let e : c.loop-j.j ≡ c.args.n = omega arith in rw (← e) c.loop-j.invariant.2
