-- Segments and the words that hold them.
-- Assumes nothing.
use mathlib.Core.Path.{◌≡◌, refl}
use mathlib.Core.List.{List, ◌++◌}
use Prim.Native.Nat.{ℕ, ◌+◌, ◌/◌, ◌%◌, ◌<◌}
use native.Mathlib.Omega.{arith}
use native.Mathlib.Nat.{div-add-mod', add-zero}
use lib.ListN.{get_or, drop}
use lib.Seq.{get_or-drop}
use Rattle.wire.specs.Wire.{segment_bytes, word_bytes}
use Rattle.wire.specs.Words.{join_words, segment_in, segment_words, read_segment_in, read_segment_words}
pub use Rattle.wire.specs.Items.{read_segment_words_lem, segment_words_lem}
use Rattle.wire.specs.declared.Segment.{Segment}
use Rattle.wire.specs.declared.ReadSegment.{ReadSegment}

-- The words of a segment hold it, and so do those of a read segment.
pub segment_back : (x : Segment) (t : List ℕ) → segment_in (segment_words x ++ t) ≡ x
unfolding segment_in segment_words
segment_back x t = rw (div-add-mod' x.offset 4294967296)

pub read_segment_back : (x : ReadSegment) (t : List ℕ) → read_segment_in (read_segment_words x ++ t) ≡ x
unfolding read_segment_in read_segment_words
read_segment_back x t = rw (segment_back x.target t)

-- The bytes of a segment in words: those of its words, the offset's high one first.
pub segment_in_bytes : (w : List ℕ) (k : ℕ) → get_or w (k + 2) 0 < 4294967296 → segment_bytes (segment_in (drop k w)) ≡ ((word_bytes (get_or w k 0) ++ word_bytes (get_or w (k + 1) 0)) ++ word_bytes (get_or w (k + 3) 0)) ++ word_bytes (get_or w (k + 2) 0)
unfolding segment_bytes segment_in word_bytes
segment_in_bytes w k low =
    let high : join_words (get_or w (k + 2) 0) (get_or w (k + 3) 0) / 4294967296 ≡ get_or w (k + 3) 0 = omega arith in
    let rest : join_words (get_or w (k + 2) 0) (get_or w (k + 3) 0) % 4294967296 ≡ get_or w (k + 2) 0 = omega arith in
    simp (get_or-drop, add-zero) (rw (high, rest))

-- The reserved word is zero in what a call makes.
pub reserved_zero : (x : ReadSegment) → get_or (read_segment_words x) 1 0 ≡ 0
unfolding read_segment_words
reserved_zero x = refl
