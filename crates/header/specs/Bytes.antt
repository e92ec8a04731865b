-- The bytes of a header (document 01, "The header on the wire").
use Rattle.std.specs.Prelude.{ℕ, List, ◌++◌, length}
use Rattle.std.proofs.Math.Option.{Option, none, some}
use Rattle.wire.specs.Wire.{joined, word_bytes, segment_bytes, read_segment_bytes}
use Rattle.wire.specs.declared.Segment.{Segment}
use Rattle.wire.specs.declared.ReadSegment.{ReadSegment}
use Rattle.header.specs.Content.{Content}
use Rattle.header.specs.declared.Kind.{Kind}
use Rattle.header.specs.declared.Kind.TheVariants.{Msg, Nomsg, Error}
use Rattle.header.specs.declared.ErrorKind.{ErrorKind}
use Rattle.header.specs.declared.ErrorKind.TheVariants.{Version, Chunk}

-- "a marker word 1, an entry": a read segment in its list.
unfoldable pub entry_bytes : ReadSegment → List ℕ
entry_bytes x = word_bytes 1 ++ read_segment_bytes x

-- "a segment count and that many segments"
unfoldable pub counted_bytes : List Segment → List ℕ
counted_bytes c = word_bytes (length c) ++ joined segment_bytes c

-- A chunk behind its marker.
unfoldable pub chunk_bytes : List Segment → List ℕ
chunk_bytes c = word_bytes 1 ++ counted_bytes c

-- "Each list is optional data as XDR has it: .. a marker word 0 ends it."
unfoldable pub read_list_bytes : List ReadSegment → List ℕ
read_list_bytes l = joined entry_bytes l ++ word_bytes 0

unfoldable pub write_list_bytes : List (List Segment) → List ℕ
write_list_bytes cs = joined chunk_bytes cs ++ word_bytes 0

-- "Marker 0 for none, or marker 1, a count and its segments."
unfoldable pub reply_bytes : Option (List Segment) → List ℕ
reply_bytes none = word_bytes 0
reply_bytes (some c) = chunk_bytes c

-- "Procedures: 0 MSG, 1 NOMSG, .. 4 ERROR."
abbrev pub procedure_of : Kind → ℕ
procedure_of Msg = 0
procedure_of Nomsg = 1
procedure_of (Error e) = 4

-- "a code word: 1 (version) and then low and high, or 2 (chunk) and no more"
unfoldable pub error_bytes : ErrorKind → List ℕ
error_bytes (Version low high) = word_bytes 1 ++ (word_bytes low ++ word_bytes high)
error_bytes Chunk = word_bytes 2

-- "three parts": the read list, the write list and the reply chunk.
abbrev pub parts_bytes : List ReadSegment → List (List Segment) → Option (List Segment) → List ℕ
parts_bytes reads writes reply = read_list_bytes reads ++ (write_list_bytes writes ++ reply_bytes reply)

-- "MSG and NOMSG go on with three parts", ERROR with its code word.
abbrev pub rest_bytes : Kind → List ℕ → List ℕ
rest_bytes Msg parts = parts
rest_bytes Nomsg parts = parts
rest_bytes (Error e) parts = error_bytes e

-- "Fixed words: xid, version (1), credit, procedure."
unfoldable pub fixed_bytes : Kind → ℕ → ℕ → List ℕ
fixed_bytes kind xid credit = word_bytes xid ++ (word_bytes 1 ++ (word_bytes credit ++ word_bytes (procedure_of kind)))

-- The bytes of a header.
unfoldable pub header_bytes : Content → List ℕ
header_bytes c =
    fixed_bytes c.kind c.xid c.credit ++ rest_bytes c.kind (parts_bytes c.reads c.writes c.reply)
