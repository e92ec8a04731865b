-- The message (document 01, "Where each byte of a message goes"; document 02, order 3), from its bytes and chunks alone.
use Rattle.std.specs.Prelude.{ℕ, ◌+◌, ◌-◌, List, [], ◌∷◌, ◌++◌, take, drop, replicate}
use Rattle.wire.specs.Wire.{joined}
use Rattle.wire.specs.declared.ReadSegment.{ReadSegment}
use Rattle.header.specs.Content.{Content}
use Rattle.header.specs.declared.Kind.{Kind}
use Rattle.header.specs.declared.Kind.TheVariants.{Msg, Nomsg, Error}
use Rattle.read_order.specs.SortedOf.{at_position}
use Rattle.layout.specs.Layout.{rounded_up, other_chunks}
use Rattle.layout.specs.declared.Run.{Run}
use Rattle.assembly_start.specs.Start.{base_of}

-- "At pi stand the Li bytes of the chunk, its segments joined in list order, then Ri - Li zero bytes. The base fills all other places in order.": the message from place `start` on, of base bytes and the chunks' bytes joined.
unfoldable pub message_from : ℕ → List ℕ → List Run → List ℕ → List ℕ
message_from start base [] pulled = base
message_from start base (c ∷ cs) pulled =
    take (c.at - start) base ++ take c.length pulled ++ replicate (rounded_up c.length - c.length) 0
    ++ message_from (c.at + rounded_up c.length) (drop (c.at - start) base) cs (drop c.length pulled)

-- "The base is MSG's inline payload, or the bytes of NOMSG's position-zero chunk.", which are pulled first.
abbrev pub whole_message : Kind → ℕ → List Run → List ℕ → List ℕ → List ℕ
whole_message Msg base cs inline pulled = message_from 0 inline cs pulled
whole_message Nomsg base cs inline pulled = message_from 0 (take base pulled) cs (drop base pulled)
whole_message (Error e) base cs inline pulled = []

-- The message of a frame, from its inline bytes and all pulled bytes.
abbrev pub message_of : Content → List ℕ → List ℕ → List ℕ
message_of c inline pulled = whole_message c.kind (base_of c inline) (other_chunks c.reads) inline pulled

-- "the Li bytes of the chunk, its segments joined in list order": those of the chunk at a position, by the wire list, where each segment has its own bytes.
abbrev pub bytes_at : (ReadSegment → List ℕ) → List ReadSegment → ℕ → List ℕ
bytes_at bytes wire position = joined bytes (at_position position wire)

-- "Pulled bytes come in this sorted order" (order 3): the position-zero chunk first, then each other chunk, by position.
abbrev pub bytes_by_chunk : (ReadSegment → List ℕ) → List ReadSegment → List ℕ
bytes_by_chunk bytes wire = bytes_at bytes wire 0 ++ joined (λ c. bytes_at bytes wire c.at) (other_chunks wire)
