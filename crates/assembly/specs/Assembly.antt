-- The pieces and the message of a reassembly (document 01, "The numbers and their order", "Where each byte of a message goes"; document 02, orders 2 and 3).
use Rattle.std.specs.Prelude.{ℕ, ◌+◌, Bool, cond, ◌&&◌, List, [], length, take, drop, leb, eqb}
use Rattle.answers.specs.Answers.{check}
use Rattle.wire.specs.declared.ReadSegment.{ReadSegment}
use Rattle.chunk_lists.specs.Lists.{max_read_segments, all_aligned}
use Rattle.read_order.specs.ReadOrder.{is_sorted}
use Rattle.layout.specs.Places.{scatter}
use Rattle.layout.specs.Layout.{any_at_zero, other_chunks, base_length, message_length, place_number, pulled_places}
use Rattle.layout.specs.declared.Run.{Run}
use Rattle.placing.specs.Segments.{segment_places}
use Rattle.placing.specs.Goes.{PulledByte, pulled_bytes, goes}
use Rattle.assembly_state.specs.State.{State}
use Rattle.assembly_state.specs.Words.{state_in, with_taken}
use Rattle.assembly.specs.declared.PieceAnswer.{PieceAnswer}

-- "Its unused places are ignored."
abbrev pub reads_of : State → List ReadSegment
reads_of s = take s.reads.count s.reads.segments

-- Its chunks elsewhere than at position 0.
abbrev pub chunks_of : State → List Run
chunks_of s = other_chunks (reads_of s)

-- "Pulled bytes come in this sorted order" (order 3), the position-zero chunk first: where each is put.
abbrev pub pulled_of : State → List ℕ
pulled_of s = pulled_places s.kind s.base (chunks_of s)

-- "A state can arise if its kind, base length, buffer length, positions and lengths pass 7 .., 9 and 12 to 16 and its count is at most the bytes to be pulled; for NOMSG its base length is that of the position-zero chunk.", as mended by order 3, in the place of 8: "A state whose list is not sorted gets 17."
unfoldable pub can_arise : State → Bool
can_arise s =
    leb s.reads.count max_read_segments
    && (is_sorted (reads_of s)
    && (all_aligned (reads_of s)
    && (eqb (place_number s.kind (any_at_zero (reads_of s)) s.base (chunks_of s) s.buffer) 0
    && (eqb (base_length s.kind s.base (reads_of s)) s.base
    && leb s.taken (length (pulled_of s))))))

-- "state not one that can arise, or another buffer length than at the start" (17)
abbrev pub fits_state : State → ℕ → Bool
fits_state s room = can_arise s && eqb s.buffer room

-- "Taking a piece checks 17, 18.": a piece of `size` bytes.
unfoldable pub piece_number : State → ℕ → ℕ → ℕ
piece_number s room size = check (fits_state s room) 17 (check (leb (s.taken + size) (length (pulled_of s))) 18 0)

-- The pulled bytes of its segments.
abbrev pub pulled_bytes_of : State → List PulledByte
pulled_bytes_of s = pulled_bytes 0 (segment_places s.kind s.base (reads_of s))

-- "Return with each piece how many goes it took: the fewest such runs that make it up, at most 31, and 0 for an empty or a refused piece." (order 2)
unfoldable pub piece_goes : State → ℕ → ℕ → ℕ
piece_goes s room size = cond (eqb (piece_number s room size) 0) (goes (take size (drop s.taken (pulled_bytes_of s)))) 0

-- What a piece is answered with.
abbrev pub piece_answer : State → ℕ → ℕ → PieceAnswer
piece_answer s room size = record { number = piece_number s room size; goes = piece_goes s room size }

-- "each is written straight into its part of the output buffer"
unfoldable pub piece_buffer : State → List ℕ → List ℕ → List ℕ
piece_buffer s piece out = cond (eqb (piece_number s (length out) (length piece)) 0) (scatter (drop s.taken (pulled_of s)) piece out) out

-- The words behind a piece: "a refused piece hands back the state it got".
unfoldable pub piece_words : List ℕ → ℕ → ℕ → List ℕ
piece_words w room size = cond (eqb (piece_number (state_in w) room size) 0) (with_taken w ((state_in w).taken + size)) w

-- "Asking for the message checks 17, 19."
unfoldable pub message_number : State → ℕ → ℕ
message_number s room = check (fits_state s room) 17 (check (eqb s.taken (length (pulled_of s))) 19 0)

-- "The message is handed back as the first part of the buffer."; "it is empty where the numbered call refuses".
unfoldable pub message_part : State → List ℕ → List ℕ
message_part s out = cond (eqb (message_number s (length out)) 0) (take (message_length s.base (chunks_of s)) out) []
