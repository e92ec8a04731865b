-- Segments that lie in words of 32 bits fit their fields.
-- Assumes nothing.
use mathlib.Core.List.{List}
use Prim.Native.Nat.{ℕ, zero, suc, ◌+◌}
use native.Mathlib.Omega.{arith}
use lib.ListN.{drop}
use lib.Seq.{get_or-drop}
use Rattle.wire.specs.Fits.{All, AllWords, SegmentFits, ReadSegmentFits}
use Rattle.wire.specs.Words.{segment_in, read_segment_in}
use Rattle.chunk_lists.specs.Parsed.{each}
use Rattle.chunk_lists.specs.Words.{reads_in, segments_in}

-- What stands behind the first k words.
pub words_behind : (w : List ℕ) (k : ℕ) → AllWords w → AllWords (drop k w)
words_behind w k f i = rw (get_or-drop k w i 0) (f (k + i))

segment_fits : (w : List ℕ) → AllWords w → SegmentFits (segment_in w)
unfolding segment_in
segment_fits w f = record { handle_fits = f 0; length_fits = f 1; offset_fits = omega (arith, f 2, f 3) }

read_segment_fits : (w : List ℕ) → AllWords w → ReadSegmentFits (read_segment_in w)
unfolding read_segment_in
read_segment_fits w f = record { position = f 0; target = segment_fits (drop 2 w) (words_behind w 2 f) }

each_fits : {A : Type 0} (P : A → Type 0) (width : ℕ) (item : List ℕ → A) → ((w : List ℕ) → AllWords w → P (item w)) → (n : ℕ) (w : List ℕ) → AllWords w → All P (each width item n w)
unfolding each All
each_fits P width item h zero w f = tt
each_fits P width item h (suc n) w f = (h w f, each_fits P width item h n (drop width w) (words_behind w width f))

-- All places of a read list, and of the segments of a write list or a reply chunk.
pub reads_fit : (w : List ℕ) → AllWords w → All ReadSegmentFits (reads_in w)
unfolding reads_in
reads_fit w f = each_fits ReadSegmentFits 6 read_segment_in read_segment_fits 16 w f

pub segments_fit : (k : ℕ) (w : List ℕ) → AllWords w → All SegmentFits (segments_in k w)
unfolding segments_in
segments_fit k w f = each_fits SegmentFits 4 segment_in segment_fits 16 (drop k w) (words_behind w k f)
