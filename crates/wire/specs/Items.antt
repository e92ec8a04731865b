-- Segments and read segments as items of a list: how many words each has, and where one stands behind other bytes.
-- Assumes nothing.
use mathlib.Core.Path.{◌≡◌, refl}
use mathlib.Core.List.{List}
use Prim.Native.Nat.{ℕ, ◌+◌}
use native.Mathlib.Nat.{add_assoc}
use lib.ListN.{length, drop}
use lib.Seq.{get_or-drop}
use Rattle.wire.specs.Wire.{word_at, segment_at, read_segment_at}
use Rattle.wire.specs.Words.{segment_words, read_segment_words}
use Rattle.wire.specs.declared.Segment.{Segment}
use Rattle.wire.specs.declared.ReadSegment.{ReadSegment}

-- What stands behind k bytes: a word, a segment, a read segment.
pub word_drop : (k j : ℕ) (s : List ℕ) → word_at (drop k s) j ≡ word_at s (k + j)
unfolding word_at
word_drop k j s = simp (get_or-drop, add_assoc)

pub segment_drop : (k j : ℕ) (s : List ℕ) → segment_at (drop k s) j ≡ segment_at s (k + j)
unfolding segment_at
segment_drop k j s = simp (word_drop, add_assoc)

pub read_segment_drop : (k j : ℕ) (s : List ℕ) → read_segment_at (drop k s) j ≡ read_segment_at s (k + j)
unfolding read_segment_at
read_segment_drop k j s = simp (word_drop, segment_drop, add_assoc)

-- How many words a read segment and a segment have.
pub read_segment_words_lem : (x : ReadSegment) → length (read_segment_words x) ≡ 6
unfolding read_segment_words segment_words
read_segment_words_lem x = refl

pub segment_words_lem : (x : Segment) → length (segment_words x) ≡ 4
unfolding segment_words
segment_words_lem x = refl
