-- What a header says, and the struct that holds it (document 01, "The header on the wire").
use Rattle.std.specs.Prelude.{ℕ, ◌-◌, Bool, true, false, List, [], ◌∷◌, ◌++◌, map, length, take, drop, replicate}
use Rattle.std.proofs.Math.Option.{Option, none, some}
use Rattle.wire.specs.Wire.{joined, zero_segment, zero_read_segment}
use Rattle.wire.specs.declared.Segment.{Segment}
use Rattle.wire.specs.declared.ReadSegment.{ReadSegment}
use Rattle.chunk_lists.specs.Lists.{max_read_segments, max_write_chunks, max_write_segments, max_reply_segments}
use Rattle.chunk_lists.specs.declared.ReadList.{ReadList}
use Rattle.chunk_lists.specs.declared.WriteList.{WriteList}
use Rattle.chunk_lists.specs.declared.ReplyChunk.{ReplyChunk}
use Rattle.header.specs.declared.Kind.{Kind}
use Rattle.header.specs.declared.Kind.TheVariants.{Msg}
use Rattle.header.specs.declared.Header.{Header}

-- What a header says. Places that a struct of fixed size leaves unused are no part of it.
pub record Content : Type 0 where
  pub kind : Kind
  pub xid : ℕ
  pub credit : ℕ
  pub reads : List ReadSegment
  pub writes : List (List Segment)
  pub reply : Option (List Segment)

-- "Unused places of a header that was read are zero": n places, of which the first hold l.
abbrev pub padded : {A : Type 0} → ℕ → A → List A → List A
padded n empty l = l ++ replicate (n - length l) empty

abbrev pub read_list_of : List ReadSegment → ReadList
read_list_of l = record { segments = padded max_read_segments zero_read_segment l; count = length l }

abbrev pub write_list_of : List (List Segment) → WriteList
write_list_of cs =
    record { segments = padded max_write_segments zero_segment (joined (λ c. c) cs); counts = padded max_write_chunks 0 (map length cs); chunks = length cs }

abbrev pub reply_chunk_of : Option (List Segment) → ReplyChunk
reply_chunk_of none = record { segments = replicate max_reply_segments zero_segment; count = 0; present = false }
reply_chunk_of (some l) = record { segments = padded max_reply_segments zero_segment l; count = length l; present = true }

-- The struct that holds a content, its unused places zero.
unfoldable pub header_of : Content → Header
header_of c =
    record { reads = read_list_of c.reads; writes = write_list_of c.writes; reply = reply_chunk_of c.reply; kind = c.kind; xid = c.xid; credit = c.credit }

-- "an all-zero header of kind MSG without a reply chunk"
abbrev pub nothing : Content
nothing = record { kind = Msg; xid = 0; credit = 0; reads = []; writes = []; reply = none }

-- The first segments of a list, split into runs of the given counts.
unfoldable pub runs : {A : Type 0} → List ℕ → List A → List (List A)
runs [] l = []
runs (n ∷ ns) l = take n l ∷ runs ns (drop n l)

abbrev pub reply_of : Bool → List Segment → Option (List Segment)
reply_of false l = none
reply_of true l = some l

-- The content that a struct within its limits holds: "the writer ignores" its unused places.
unfoldable pub content_of : Header → Content
content_of h = record {
  kind = h.kind;
  xid = h.xid;
  credit = h.credit;
  reads = take h.reads.count h.reads.segments;
  writes = runs (take h.writes.chunks h.writes.counts) h.writes.segments;
  reply = reply_of h.reply.present (take h.reply.count h.reply.segments);
}
