-- Lists of segments as words of 32 bits, each list with all its places.
use Rattle.std.specs.Prelude.{ℕ, List, drop}
use Rattle.wire.specs.Wire.{joined}
use Rattle.wire.specs.Words.{segment_size, segment_in, segment_words, read_segment_size, read_segment_in, read_segment_words}
use Rattle.wire.specs.declared.Segment.{Segment}
use Rattle.wire.specs.declared.ReadSegment.{ReadSegment}
use Rattle.chunk_lists.specs.Parsed.{each}
use Rattle.chunk_lists.specs.Lists.{max_read_segments, max_write_segments}

-- The places of a read list at the front of the words.
unfoldable pub reads_in : List ℕ → List ReadSegment
reads_in w = each read_segment_size read_segment_in max_read_segments w

unfoldable pub reads_words : List ReadSegment → List ℕ
reads_words l = joined read_segment_words l

-- The places of the segments of a write list or a reply chunk, which have 16 each, from word k on.
unfoldable pub segments_in : ℕ → List ℕ → List Segment
segments_in k w = each segment_size segment_in max_write_segments (drop k w)

unfoldable pub segments_words : List Segment → List ℕ
segments_words l = joined segment_words l
