-- The start of a reassembly (document 01, "The numbers and their order", "Where each byte of a message goes"; document 02, order 3).
use Rattle.std.specs.Prelude.{ℕ, cond, List, length, replicate, eqb}
use Rattle.chunk_lists.specs.Parsed.{Parsed, refused, done}
use Rattle.header.specs.Content.{Content, read_list_of}
use Rattle.read_order.specs.ReadOrder.{sorted}
use Rattle.layout.specs.Places.{scatter}
use Rattle.layout.specs.Layout.{any_at_zero, other_chunks, base_length, place_number, base_places, padding_places}
use Rattle.layout.specs.declared.Run.{Run}
use Rattle.assembly_state.specs.State.{State, no_state}
use Rattle.assembly_state.specs.Words.{state_words}
use Rattle.assembly_start.specs.declared.StartAnswer.{StartAnswer}

-- B, for the content of a frame and the inline bytes behind it.
abbrev pub base_of : Content → List ℕ → ℕ
base_of c inline = base_length c.kind (length inline) c.reads

-- "The start of a reassembly reads the frame with these checks and then 12, 13, 14, 15, 16."
unfoldable pub start_number : Parsed Content → ℕ → ℕ
start_number (refused n) room = n
start_number (done c inline) room = place_number c.kind (any_at_zero c.reads) (base_of c inline) (other_chunks c.reads) room

-- "a start leaves its unused places zero"; "For reassembly the list of read segments is sorted" (order 3): the state behind a start that is accepted.
abbrev pub start_state : Content → List ℕ → ℕ → State
start_state c inline room = record { reads = read_list_of (sorted c.reads); kind = c.kind; base = base_of c inline; buffer = room; taken = 0 }

-- "The start writes an inline base and all padding. Places of pulled bytes keep what they held."
unfoldable pub start_writes : ℕ → List Run → List ℕ → List ℕ → List ℕ
start_writes base cs inline out = scatter (padding_places cs) (replicate (length (padding_places cs)) 0) (scatter (base_places base cs) inline out)

-- The buffer after a start that is accepted.
abbrev pub started_buffer : Parsed Content → List ℕ → List ℕ
started_buffer (refused n) out = out
started_buffer (done c inline) out = start_writes (base_of c inline) (other_chunks c.reads) inline out

-- The buffer after a start.
unfoldable pub start_buffer : Parsed Content → List ℕ → List ℕ
start_buffer p out = cond (eqb (start_number p (length out)) 0) (started_buffer p out) out

-- The words behind a start: those of its state, or as they were where it is refused.
unfoldable pub start_words : Parsed Content → ℕ → List ℕ → List ℕ
start_words (refused n) room w = w
start_words (done c inline) room w = cond (eqb (start_number (done c inline) room) 0) (state_words (start_state c inline room)) w

-- What a start answers that makes the words: "a refused start an all-zero state of kind MSG".
abbrev pub start_answer : Parsed Content → ℕ → StartAnswer
start_answer p room = record { state = start_words p room (state_words no_state); number = start_number p room }
