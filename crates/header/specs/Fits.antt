-- Headers that a struct can hold, and a header with its unused places zeroed (document 01, "The header on the wire").
use Rattle.std.specs.Prelude.{ℕ, ◌≡◌, Bool, true, false, List, length, take, replicate}
use Rattle.wire.specs.declared.Segment.{Segment}
use Rattle.chunk_lists.specs.declared.ReplyChunk.{ReplyChunk}
use Rattle.header.specs.declared.Kind.{Kind}
use Rattle.header.specs.declared.Kind.TheVariants.{Msg, Nomsg, Error}
use Rattle.header.specs.declared.ErrorKind.{ErrorKind}
use Rattle.header.specs.declared.ErrorKind.TheVariants.{Version, Chunk}
use Rattle.header.specs.declared.Header.{Header}
use Rattle.wire.specs.Wire.{zero_segment, zero_read_segment}
use Rattle.header.specs.Content.{padded}
use Rattle.header.specs.Limits.{total}
use Rattle.wire.specs.Fits.{Word32, All, SegmentFits, ReadSegmentFits}

-- The low and high of a version error fit their fields.
abbrev pub ErrorFits : ErrorKind → Type 0
ErrorFits (Version low high) = Word32 low × Word32 high
ErrorFits Chunk = Unit {0}

-- The numbers in a kind fit their fields.
abbrev pub KindFits : Kind → Type 0
KindFits Msg = Unit {0}
KindFits Nomsg = Unit {0}
KindFits (Error e) = ErrorFits e

-- A header that the struct can hold: its arrays have their lengths, and every number in it fits its field.
pub record Representable (h : Header) : Type 0 where
  pub kind : KindFits h.kind
  pub xid : Word32 h.xid
  pub credit : Word32 h.credit
  pub reads_length : length h.reads.segments ≡ 16
  pub reads_segments : All ReadSegmentFits h.reads.segments
  pub reads_count : Word32 h.reads.count
  pub writes_length : length h.writes.segments ≡ 16
  pub writes_segments : All SegmentFits h.writes.segments
  pub counts_length : length h.writes.counts ≡ 4
  pub counts : All Word32 h.writes.counts
  pub chunks : Word32 h.writes.chunks
  pub reply_length : length h.reply.segments ≡ 16
  pub reply_segments : All SegmentFits h.reply.segments
  pub reply_count : Word32 h.reply.count

-- A reply chunk with its unused places zeroed; all are unused where it is absent.
abbrev pub zeroed_reply : Bool → ℕ → List Segment → ReplyChunk
zeroed_reply false count segments = record { segments = replicate 16 zero_segment; count = 0; present = false }
zeroed_reply true count segments = record { segments = padded 16 zero_segment (take count segments); count = count; present = true }

-- "the header with these zeroed": a header with its unused places zero.
unfoldable pub zeroed : Header → Header
zeroed h = record {
  reads = record {
    segments = padded 16 zero_read_segment (take h.reads.count h.reads.segments);
    count = h.reads.count;
  };
  writes = record {
    segments = padded 16 zero_segment (take (total (take h.writes.chunks h.writes.counts)) h.writes.segments);
    counts = padded 4 0 (take h.writes.chunks h.writes.counts);
    chunks = h.writes.chunks;
  };
  reply = zeroed_reply h.reply.present h.reply.count h.reply.segments;
  kind = h.kind;
  xid = h.xid;
  credit = h.credit;
}
