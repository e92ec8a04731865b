-- The page to read first: every top theorem once more, each with the sentence that it answers. Its proof is named behind the last `=`.
-- Demand 1 is met by the contracts of the calls themselves, which ask nothing of a caller.
-- Assumes nothing.
use mathlib.Core.Path.{◌≡◌, refl}
use mathlib.Core.Bool.{true, false, cond, ◌&&◌}
use mathlib.Core.List.{List, [], ◌∷◌, ◌++◌, map}
use mathlib.Core.Option.{Option, some}
use Prim.Native.Nat.{ℕ, ◌+◌, ◌-◌, ◌/◌, ◌%◌, ◌≤◌, ◌<◌}
use lib.Dec.{eqb}
use lib.ListN.{length, get_or, take, drop, replicate}
use Rattle.wire.specs.Wire.{word_at, joined, word_bytes}
use Rattle.wire.specs.Fits.{AllBytes, AllWords, All, Word32}
use Rattle.answers.specs.Answers.{unless_refused}
use Rattle.wire.specs.declared.Segment.{Segment}
use Rattle.wire.specs.declared.ReadSegment.{ReadSegment}
use Rattle.chunk_lists.specs.Parsed.{done}
use Rattle.chunk_lists.specs.Lists.{read_list}
use Rattle.header.specs.Bytes.{read_list_bytes, header_bytes}
use Rattle.header.specs.Content.{Content, padded, header_of, content_of, nothing}
use Rattle.header.specs.Limits.{keeps_limits}
use Rattle.header.specs.Fits.{Representable, zeroed}
use Rattle.header.specs.Words.{header_in, header_words}
use Rattle.header.specs.declared.Header.{Header}
use Rattle.header.specs.declared.ErrorKind.{ErrorKind}
use Rattle.header.proofs.Longest as longest
use Rattle.reader.specs.Frame.{read_frame, read_answer, read_number, read_words, payload_of, error_content}
use Rattle.reader.proofs.FrameRead as frame-read
use Rattle.writer.specs.Write.{write_number, write_answer, write_buffer, write_words_answer, write_words_buffer}
use Rattle.writer.proofs.Former as former
use Rattle.writer.proofs.Former.{former_answer, former_buffer}
use Rattle.writer.proofs.Passed as written
use Rattle.writer.proofs.RoundTrip as header-trip
use Rattle.setup.specs.Setup.{read_setup, write_setup_number, write_setup_answer, write_setup_buffer}
use Rattle.setup.specs.declared.Setup.{Setup}
use Rattle.setup.proofs.RoundTrip as setup-trip
use Rattle.credit.specs.Credit.{granted}
use Rattle.error_reply.specs.Reply.{reply_kind_of, reply_kind_for, error_reply, error_reply_number, error_reply_answer, error_reply_buffer}
use Rattle.error_reply.specs.Meant.{meant, written_reply}
use Rattle.error_reply.specs.Internal.Length.{reply_length}
use Rattle.error_reply.specs.declared.ReplyKind.TheVariants as reply
use Rattle.error_reply.proofs.ReplyRead as reply_read
use Rattle.read_order.specs.ReadOrder.{sorted, is_sorted}
use Rattle.read_order.specs.SortedOf.{SortedOf}
use Rattle.read_order.proofs.Sorting as sorting
use Rattle.layout.proofs.ByChunk as by_chunk
use Rattle.layout.specs.Places.{from}
use Rattle.layout.specs.Layout.{other_chunks, base_places}
use Rattle.layout.specs.Once.{Once}
use Rattle.placing.specs.Segments.{segment_places, segment_numbers, position_length}
use Rattle.placing.specs.Goes.{Fewest}
use Rattle.assembly_state.specs.State.{State}
use Rattle.assembly_state.specs.Words.{state_in}
use Rattle.assembly_start.specs.Start.{base_of, start_number, start_words, start_buffer, start_answer}
use Rattle.assembly_start.proofs.AnyOrder as any_order
use Rattle.assembly.specs.Assembly.{reads_of, chunks_of, pulled_of, can_arise, piece_number, pulled_bytes_of, piece_goes, piece_answer, message_number}
use Rattle.assembly.proofs.Goes as piece_proofs
use Rattle.assembly.proofs.Kept as kept
use Rattle.returned.specs.Returned.{chunk_length, reply_chunk_length, returned_answer, returned_words_number, returned_words_places}
use Rattle.returned.specs.Filled.{filled, Fills}
use Rattle.returned.proofs.Fills as fills
use Rattle.returned.proofs.Unused as unused
use Rattle.returned.proofs.Lent as lent
use Rattle.ledger.specs.Ledger.{in_flight, open_answer, first_free, send_answer, send_ledger, reply_number, reply_ledger}
use Rattle.ledger.specs.Conditions.{RunBehind, Next, SendGets, ReplyGets, Joined, Closed, SameCalls}
use Rattle.ledger.specs.History.{Operation, history, ledger_after, SendSaid, Accounted}
use Rattle.ledger.specs.declared.Ledger.{Ledger}
use Rattle.ledger.proofs.Conditions as ledger-conditions
use Rattle.ledger.proofs.Places as ledger-places
use Rattle.ledger.proofs.History as ledger-history
use Rattle.c_header.specs.Part.{part_of}
use Rattle.c_header.proofs.RoundTrip as c-header
use Rattle.c_setup.specs.Words.{setup_words, write_setup_words_answer, write_setup_words_buffer, Stores}
use Rattle.c_setup.proofs.RoundTrip as c-setup
use Rattle.theorems.specs.Message.{bytes_by_chunk}
use Rattle.theorems.specs.Calls.{Call, piece, start_then}
use Rattle.theorems.specs.Cuts.{CutOf}
use Rattle.theorems.specs.Demands.{taken_bytes, Finished, Unchanged}
use Rattle.theorems.specs.Reserved.{NeverGiven}
use Rattle.theorems.specs.Exports.{export_then}
use Rattle.theorems.specs.Examples.{Holds, examples, numbers, edges, returned_cases, goes_cases, order_cases, echo_cases, ledger_cases, passed_cases, full, longest_cases}
use Rattle.theorems.proofs.Message as message
use Rattle.theorems.proofs.Demand3 as demand-three
use Rattle.theorems.proofs.Exports as exports
use Rattle.theorems.proofs.Reserved as reserved
use Rattle.theorems.proofs.InOrder as in_order
use Rattle.trace_text.specs.Verdict.{answer, reply_to}
use Rattle.trace_text.proofs.Shown as shown
use Rattle.trace.specs.Session.{Replayed, Progress}
use Rattle.trace.specs.Frames.{AnyFrames, CountedOnce}
use Rattle.trace.specs.Examples.{Examples, DigitLimit, LineLimit}
use Rattle.trace.proofs.Replayed as replayed
use Rattle.trace.proofs.AnyFrames as any_frames
use Rattle.trace.proofs.Examples as replay-examples
use Rattle.theorems.proofs.Examples as worked
use Rattle.theorems.proofs.Returned as returns

-- Demand 2, headers: "The writer writes no payload: what was read, written again, gives the frame's bytes before its payload."
pub demand_2_header_read_written : (frame out : List ℕ) (c : Content) (payload : List ℕ) → AllBytes frame → read_frame frame ≡ done c payload → length frame ≤ length out + length payload →
    (write_answer (header_of c) (length out) ≡ record { number = 0; length = length frame - length payload })
    × (write_buffer (header_of c) out ≡ take (length frame - length payload) frame ++ drop (length frame - length payload) out)
demand_2_header_read_written = header-trip.read_written

-- "reading back what was written gives the header with these zeroed"
pub demand_2_header_written_read : (h : Header) (out : List ℕ) → Representable h → write_number h (length out) ≡ 0 →
    (read_answer (read_frame (take (write_answer h (length out)).length (write_buffer h out))) ≡ record { header = zeroed h; number = 0 })
    × (payload_of (read_frame (take (write_answer h (length out)).length (write_buffer h out))) ≡ [])
demand_2_header_written_read = header-trip.written_read_answer

-- Demand 2, setup data: "Setup data that was there, read and written again, gives its 8 bytes back if the ignored flags were 0."
pub demand_2_setup_read_written : (bytes out : List ℕ) → AllBytes bytes → (read_setup bytes).present ≡ true → get_or bytes 5 0 / 2 ≡ 0 → 8 ≤ length out →
    (write_setup_answer (read_setup bytes).setup (length out) ≡ record { number = 0; length = 8 })
    × (write_setup_buffer (read_setup bytes).setup out ≡ take 8 bytes ++ drop 8 out)
demand_2_setup_read_written = setup-trip.setup_read_written

-- "each undoes the other": from the whole buffer, and from the bytes that were written alone.
pub demand_2_setup_written_read : (x : Setup) (out : List ℕ) → write_setup_number x (length out) ≡ 0 →
    (read_setup (write_setup_buffer x out) ≡ record { setup = x; present = true; number = 0 })
    × (read_setup (take (write_setup_answer x (length out)).length (write_setup_buffer x out)) ≡ record { setup = x; present = true; number = 0 })
demand_2_setup_written_read = setup-trip.setup_written_read

-- Demand 2, messages: "A finished message, its state and buffer handed on unaltered from call to call since its accepted start, holds each inline byte, pulled byte and padding byte at its defined place, once; bytes behind its end are untouched."
pub demand_2_message : (frame out : List ℕ) (c : Content) (inline : List ℕ) → AllBytes frame → read_frame frame ≡ done c inline → (start_answer (read_frame frame) (length out)).number ≡ 0 →
    (calls : List Call) → (start_then frame out calls).asked.number ≡ 0 → Finished c inline out (taken_bytes calls (start_then frame out calls).outcomes) (start_then frame out calls)
demand_2_message = message.finished

-- "at its defined place, once"
pub demand_2_once : (frame out : List ℕ) (c : Content) (inline : List ℕ) → AllBytes frame → read_frame frame ≡ done c inline → (start_answer (read_frame frame) (length out)).number ≡ 0 →
    Once (base_of c inline) (other_chunks c.reads)
demand_2_once = message.places_once

-- Demand 3: "Cutting changes nothing. Take any accepted start and any cut of its read list as 01 defines it"
pub demand_3 : (frame out : List ℕ) (c : Content) (inline : List ℕ) → AllBytes frame → read_frame frame ≡ done c inline → (start_answer (read_frame frame) (length out)).number ≡ 0 →
    (cut : List ReadSegment) → CutOf c.reads cut → Unchanged (λ f. start_then f out) frame out c inline cut
demand_3 = demand-three.cutting_changes_nothing

-- The same through the exports. Headers: the words that `eos_read_header` stored, lent to `eos_write_header`; and the other way.
pub exports_header_read_written : (frame out before : List ℕ) (c : Content) (payload : List ℕ) → AllBytes frame → read_frame frame ≡ done c payload → length frame ≤ length out + length payload →
    (write_words_answer (header_in (read_words (read_frame frame) before)) (length out) ≡ record { number = 0; length = length frame - length payload })
    × (write_words_buffer (header_in (read_words (read_frame frame) before)) out ≡ take (length frame - length payload) frame ++ drop (length frame - length payload) out)
exports_header_read_written = c-header.export_read_written

pub exports_header_written_read : (w out before : List ℕ) (h : Header) → AllWords w → length w ≡ 238 → header_in w ≡ some h → (write_words_answer (header_in w) (length out)).number ≡ 0 →
    (read_number (read_frame (take (write_words_answer (header_in w) (length out)).length (write_words_buffer (header_in w) out))) ≡ 0)
    × (read_words (read_frame (take (write_words_answer (header_in w) (length out)).length (write_words_buffer (header_in w) out))) before ≡ header_words (zeroed h))
    × (payload_of (read_frame (take (write_words_answer (header_in w) (length out)).length (write_words_buffer (header_in w) out))) ≡ [])
exports_header_written_read = c-header.export_written_read

-- The payload lies where `eos_payload` says.
pub exports_payload : (frame : List ℕ) → AllBytes frame →
    take (part_of frame (payload_of (read_frame frame))).length (drop (part_of frame (payload_of (read_frame frame))).offset frame) ≡ payload_of (read_frame frame)
exports_payload = c-header.payload_there

-- Setup data.
pub exports_setup_read_written : (bytes out : List ℕ) → AllBytes bytes → (read_setup bytes).present ≡ true → get_or bytes 5 0 / 2 ≡ 0 → 8 ≤ length out →
    (write_setup_words_answer (setup_words (read_setup bytes).setup) (length out) ≡ record { number = 0; length = 8 })
    × (write_setup_words_buffer (setup_words (read_setup bytes).setup) out ≡ take 8 bytes ++ drop 8 out)
exports_setup_read_written = c-setup.export_read_written

pub exports_setup_written_read : (w out : List ℕ) → length w ≡ 3 → (write_setup_words_answer w (length out)).number ≡ 0 →
    Stores w (read_setup (write_setup_words_buffer w out)) × Stores w (read_setup (take (write_setup_words_answer w (length out)).length (write_setup_words_buffer w out)))
exports_setup_written_read = c-setup.export_written_read

-- A reassembly by the exports gives what the library's gives, whatever the caller's state and length held before.
pub exports_assembly : (frame out before : List ℕ) (size : ℕ) (c : Content) (inline : List ℕ) → read_frame frame ≡ done c inline → start_number (read_frame frame) (length out) ≡ 0 →
    (calls : List Call) → export_then frame out before size calls ≡ start_then frame out calls
exports_assembly = exports.exports_same

-- Demand 2's message, and demand 3 with all that it says.
pub exports_message : (frame out before : List ℕ) (size : ℕ) (c : Content) (inline : List ℕ) → AllBytes frame → read_frame frame ≡ done c inline → start_number (read_frame frame) (length out) ≡ 0 →
    (calls : List Call) → (export_then frame out before size calls).asked.number ≡ 0 → Finished c inline out (taken_bytes calls (export_then frame out before size calls).outcomes) (export_then frame out before size calls)
exports_message = exports.exports_finished

pub exports_demand_3 : (frame out before : List ℕ) (size : ℕ) (c : Content) (inline : List ℕ) → AllBytes frame → read_frame frame ≡ done c inline → start_number (read_frame frame) (length out) ≡ 0 →
    (cut : List ReadSegment) → CutOf c.reads cut → Unchanged (λ f. export_then f out before size) frame out c inline cut
exports_demand_3 = exports.exports_unchanged

-- The error reply. "Checks: 20": limit 0, or a number above 21, whatever the frame and the room.
pub reply_limit_zero : (frame out : List ℕ) (number : ℕ) →
    (error_reply_answer frame number 0 (length out) ≡ record { number = 20; length = 0 }) × (error_reply_buffer frame number 0 out ≡ out)
reply_limit_zero = reply_read.limit_zero

pub reply_above_21 : (frame out : List ℕ) (number limit : ℕ) → 22 ≤ number →
    (error_reply_answer frame number limit (length out) ≡ record { number = 20; length = 0 }) × (error_reply_buffer frame number limit out ≡ out)
reply_above_21 = reply_read.above_21

-- "then no reply (number 0, length 0, buffer unchanged) for a frame under 16 bytes or with procedure 4; then a small fixed table by number".
pub reply_to_none : (frame : List ℕ) (number : ℕ) →
    (length frame < 16 → reply_kind_for frame number ≡ reply.None) × (word_at frame 12 ≡ 4 → reply_kind_for frame number ≡ reply.None)
reply_to_none frame number = (reply_read.short_unanswered frame number, reply_read.error_unanswered frame number)

pub reply_due : (frame : List ℕ) (number : ℕ) → 16 ≤ length frame → (word_at frame 12 ≡ 4 → ⊥) → reply_kind_for frame number ≡ reply_kind_of number
reply_due = reply_read.reply_due

pub reply_none : (frame out : List ℕ) (number limit : ℕ) → 1 ≤ limit → number ≤ 21 → reply_kind_for frame number ≡ reply.None →
    (error_reply_answer frame number limit (length out) ≡ record { number = 0; length = 0 }) × (error_reply_buffer frame number limit out ≡ out)
reply_none = reply_read.no_reply

-- A chunk reply that was written reads back as the ERROR header that it is meant to be, and so does a version reply to a frame of version 1 (to any other frame: order 4, below). No reply is itself answered.
pub reply_reads_back : (frame out : List ℕ) (number limit : ℕ) (e : ErrorKind) → AllBytes frame → Word32 limit → error_reply_number frame number limit (length out) ≡ 0 → meant (reply_kind_for frame number) ≡ some e → (reply_kind_for frame number ≡ reply.Version → word_at frame 4 ≡ 1) →
    (read_answer (read_frame (written_reply frame number limit out)) ≡ record { header = header_of (error_content e (word_at frame 0) (granted (word_at frame 8) limit)); number = 0 })
    × (payload_of (read_frame (written_reply frame number limit out)) ≡ [])
reply_reads_back = reply_read.reply_read_answer

pub exports_reply_reads_back : (frame out before : List ℕ) (number limit : ℕ) (e : ErrorKind) → AllBytes frame → Word32 limit → error_reply_number frame number limit (length out) ≡ 0 → meant (reply_kind_for frame number) ≡ some e → (reply_kind_for frame number ≡ reply.Version → word_at frame 4 ≡ 1) →
    (read_number (read_frame (written_reply frame number limit out)) ≡ 0)
    × (read_words (read_frame (written_reply frame number limit out)) before ≡ header_words (header_of (error_content e (word_at frame 0) (granted (word_at frame 8) limit))))
    × (payload_of (read_frame (written_reply frame number limit out)) ≡ [])
exports_reply_reads_back = reply_read.export_reply_read

pub reply_never_answered : (frame : List ℕ) (number limit later : ℕ) → reply_kind_for (error_reply frame number limit) later ≡ reply.None
reply_never_answered = reply_read.reply_unanswered

-- "C1 to C13 are proved from the definitions as one list with one claim over it."; each other number of the table is given once; and orders in which checks are made, ends of limits, places of bytes and words, as `edges` lists them.
pub examples_hold : All Holds examples
examples_hold = worked.worked

pub numbers_given : All Holds numbers
numbers_given = worked.numbered

pub edges_hold : All Holds edges
edges_hold = worked.edged

-- Order 1: "Read the server's answers." A reply that is accepted is that of a server which put as many bytes into each chunk, from the front, as is answered; both headers keep the limits.
pub order_1_accepted : (sent reply : Header) → (returned_answer sent reply).number ≡ 0 →
    (keeps_limits sent ≡ true) × (keeps_limits reply ≡ true) × Fills (content_of sent) (content_of reply) (take (length (content_of sent).writes) (returned_answer sent reply).writes) (returned_answer sent reply).reply
order_1_accepted = fills.accepted_fills

-- And the reply of such a server is accepted, with its numbers.
pub order_1_accepts : (sent reply : Header) (writes : List ℕ) (n : ℕ) → keeps_limits sent ≡ true → keeps_limits reply ≡ true → Fills (content_of sent) (content_of reply) writes n →
    returned_answer sent reply ≡ record { writes = padded 4 0 writes; reply = n; number = 0 }
order_1_accepts = fills.fills_accepted

-- "Either header meeting the writer's 7 .. gets 7 first."; else a reply that no such server can have sent gets 26.
pub order_1_over_limit : (sent reply : Header) → (keeps_limits sent && keeps_limits reply) ≡ false → returned_answer sent reply ≡ record { writes = replicate 4 0; reply = 0; number = 7 }
order_1_over_limit = fills.over_limit

pub order_1_refused : (sent reply : Header) → keeps_limits sent ≡ true → keeps_limits reply ≡ true → ((writes : List ℕ) (n : ℕ) → Fills (content_of sent) (content_of reply) writes n → ⊥) →
    returned_answer sent reply ≡ record { writes = replicate 4 0; reply = 0; number = 26 }
order_1_refused = fills.not_filled

-- No chunk has more bytes landed than were sent.
pub order_1_within : (sent reply : Header) →
    ((k : ℕ) → get_or (returned_answer sent reply).writes k 0 ≤ chunk_length (get_or (content_of sent).writes k [])) × ((returned_answer sent reply).reply ≤ reply_chunk_length (content_of sent).reply)
order_1_within = fills.landed_within

-- The number of bytes alone tells how far each segment was filled.
pub order_1_from_front : (sent reply : Header) → (returned_answer sent reply).number ≡ 0 →
    ((k : ℕ) → get_or (content_of reply).writes k [] ≡ filled (get_or (returned_answer sent reply).writes k 0) (get_or (content_of sent).writes k []))
    × ((c d : List Segment) → (content_of sent).reply ≡ some c → (content_of reply).reply ≡ some d → d ≡ filled (returned_answer sent reply).reply c)
order_1_from_front = fills.filled_from_front

-- Unused places are ignored.
pub order_1_unused : (sent reply : Header) → Representable sent → Representable reply → keeps_limits sent ≡ true → keeps_limits reply ≡ true →
    returned_answer (zeroed sent) (zeroed reply) ≡ returned_answer sent reply
order_1_unused = unused.unused_ignored

-- A reply header that was written and read again gives the same answer.
pub order_1_written_read : (sent reply : Header) (out : List ℕ) → Representable reply → write_number reply (length out) ≡ 0 →
    returned_answer sent (read_answer (read_frame (take (write_answer reply (length out)).length (write_buffer reply out)))).header ≡ returned_answer sent reply
order_1_written_read = returns.written_returned

-- The same through the exports: `eos_returned` gives the number and the numbers of the answer by value, so that all of the above is claimed of it; and the reply that `eos_write_header` wrote and `eos_read_header` read gives the same.
pub exports_order_1 : (v w before : List ℕ) (sent reply : Header) → header_in v ≡ some sent → header_in w ≡ some reply →
    (returned_words_number (header_in v) (header_in w) ≡ (returned_answer sent reply).number)
    × (returned_words_places (header_in v) (header_in w) before ≡ unless_refused (returned_answer sent reply).number ((returned_answer sent reply).writes ++ ((returned_answer sent reply).reply ∷ [])) before)
exports_order_1 = lent.lent_answer

-- A refused call leaves the places, 20 too.
pub exports_order_1_refused : (v w before : List ℕ) → (returned_words_number (header_in v) (header_in w) ≡ 0 → ⊥) → returned_words_places (header_in v) (header_in w) before ≡ before
exports_order_1_refused = λ v w before. lent.lent_refused (header_in v) (header_in w) before

pub exports_order_1_written_read : (v w out before numbers : List ℕ) (reply : Header) → AllWords w → length w ≡ 238 → header_in w ≡ some reply → (write_words_answer (header_in w) (length out)).number ≡ 0 →
    (returned_words_number (header_in v) (header_in (read_words (read_frame (take (write_words_answer (header_in w) (length out)).length (write_words_buffer (header_in w) out))) before)) ≡ returned_words_number (header_in v) (header_in w))
    × (returned_words_places (header_in v) (header_in (read_words (read_frame (take (write_words_answer (header_in w) (length out)).length (write_words_buffer (header_in w) out))) before)) numbers ≡ returned_words_places (header_in v) (header_in w) numbers)
exports_order_1_written_read = returns.exports_written_returned

-- What order 1 says, case by case.
pub order_1_cases : All Holds returned_cases
order_1_cases = worked.returned

-- Order 2: "No answer number, byte or count may change": the number is the one that it was, and the definitions of bytes and count were not touched.
pub order_2_number : (s : State) (room size : ℕ) → (piece_answer s room size).number ≡ piece_number s room size
order_2_number = λ s room size. refl

-- "Return with each piece how many goes it took: the fewest such runs that make it up": runs of one segment and no gap, over every way to make the piece up.
pub order_2_fewest : (s : State) (room size : ℕ) → piece_number s room size ≡ 0 → Fewest (take size (drop s.taken (pulled_bytes_of s))) (piece_goes s room size)
order_2_fewest = piece_proofs.fewest_goes

-- "at most 31": for every state, buffer length and piece. (That 31 is reached is a case of `order_2_cases`.)
pub order_2_at_most_31 : (s : State) (room size : ℕ) → piece_goes s room size ≤ 31
order_2_at_most_31 = piece_proofs.at_most_31

-- "and 0 for an empty or a refused piece"
pub order_2_empty : (s : State) (room : ℕ) → piece_goes s room 0 ≡ 0
order_2_empty = piece_proofs.none_for_empty

pub order_2_refused : (s : State) (room size : ℕ) → (piece_number s room size ≡ 0 → ⊥) → piece_goes s room size ≡ 0
order_2_refused = piece_proofs.none_for_refused

-- The bytes that are counted are those that the piece writes, each at its place.
pub order_2_counted : (s : State) (room size : ℕ) → piece_number s room size ≡ 0 → map (λ b. b.place) (take size (drop s.taken (pulled_bytes_of s))) ≡ take size (drop s.taken (pulled_of s))
order_2_counted = piece_proofs.counted_there

-- And each is counted as of its own segment, in the order of the list.
pub order_2_list_order : (s : State) → can_arise s ≡ true → map (λ b. b.segment) (pulled_bytes_of s) ≡ segment_numbers 0 (reads_of s)
order_2_list_order = piece_proofs.in_list_order

-- The places of all segments joined are the pulled places; each segment's own are where document 01 puts its bytes.
pub order_2_joined : (s : State) → can_arise s ≡ true → joined (λ ps. ps) (segment_places s.kind s.base (reads_of s)) ≡ pulled_of s
order_2_joined = piece_proofs.joined_places

pub order_2_own_places : (s : State) (before : List ReadSegment) (x : ReadSegment) (behind : List ReadSegment) → can_arise s ≡ true → reads_of s ≡ before ++ (x ∷ behind) →
    ((x.position ≡ 0 → ⊥) → get_or (segment_places s.kind s.base (reads_of s)) (length before) [] ≡ from (x.position + position_length x.position before) x.target.length)
    × (x.position ≡ 0 → get_or (segment_places s.kind s.base (reads_of s)) (length before) [] ≡ take x.target.length (drop (position_length x.position before) (base_places s.base (chunks_of s))))
order_2_own_places = piece_proofs.own_places

-- Order 2, case by case in numbers: 31 among them.
pub order_2_cases : All Holds goes_cases
order_2_cases = worked.goes_taken

-- Order 3: "8 is never given again and stays reserved." (That it gets its chunk reply as an argument of the error reply is a case of `order_3_cases`.)
pub order_3_never_8 : NeverGiven 8
order_3_never_8 = reserved.never_given 8 refl

-- "For reassembly the list of read segments is sorted where it lies, by position, segments of one position staying in wire order.": `sorted` is that list, nothing else is, and a list that is sorted stays as it is.
pub order_3_sorted : (wire : List ReadSegment) → SortedOf wire (sorted wire)
order_3_sorted = sorting.sorted_is

pub order_3_only : (wire list : List ReadSegment) → SortedOf wire list → list ≡ sorted wire
order_3_only = sorting.sorted_only

pub order_3_stays : (list : List ReadSegment) → is_sorted list ≡ true → sorted list ≡ list
order_3_stays = sorting.sorted_stays

-- The state of an accepted start holds it.
pub order_3_state : (frame : List ℕ) (room : ℕ) (before : List ℕ) (c : Content) (inline : List ℕ) → read_frame frame ≡ done c inline → start_number (read_frame frame) room ≡ 0 →
    reads_of (state_in (start_words (read_frame frame) room before)) ≡ sorted c.reads
order_3_state = in_order.state_list

-- "A state whose list is not sorted gets 17."
pub order_3_not_sorted : (s : State) (room size : ℕ) → is_sorted (reads_of s) ≡ false → (piece_number s room size ≡ 17) × (message_number s room ≡ 17)
order_3_not_sorted = kept.unsorted

-- And one that can arise passes 7 and 9 as the reader has them: its bytes read as that list.
pub order_3_state_reads : (w : List ℕ) → AllWords w → can_arise (state_in w) ≡ true → read_list 16 (read_list_bytes (reads_of (state_in w))) ≡ done (reads_of (state_in w)) []
order_3_state_reads = in_order.state_reads

-- "sends its chunks in any order of position": lists that are one list when they are sorted give one start.
pub order_3_any_order : (c d : Content) (inline out before : List ℕ) → c.kind ≡ d.kind → sorted c.reads ≡ sorted d.reads →
    (start_number (done c inline) (length out) ≡ start_number (done d inline) (length out))
    × (start_words (done c inline) (length out) before ≡ start_words (done d inline) (length out) before)
    × (start_buffer (done c inline) out ≡ start_buffer (done d inline) out)
order_3_any_order = λ c d inline out before kind list.
    (any_order.same_number c d inline kind list (length out), any_order.same_words c d inline kind list (length out) before, any_order.same_buffer c d inline kind list out)

-- "Pulled bytes come in this sorted order": the position-zero chunk first, then each other chunk, by position, its segments joined as they stand on the wire.
pub order_3_by_chunk : (wire : List ReadSegment) (bytes : ReadSegment → List ℕ) → joined bytes (sorted wire) ≡ bytes_by_chunk bytes wire
order_3_by_chunk = by_chunk.pulled_by_chunk

-- "and demands 2 and 3 read so": one who pulls what the state's list says, in whatever pieces, gets the message in which each chunk has its segments' bytes in wire order.
pub order_3_message : (bytes : ReadSegment → List ℕ) → ((x : ReadSegment) → length (bytes x) ≡ x.target.length) →
    (frame out : List ℕ) (c : Content) (inline : List ℕ) → AllBytes frame → read_frame frame ≡ done c inline → (start_answer (read_frame frame) (length out)).number ≡ 0 →
    (calls : List Call) → taken_bytes calls (start_then frame out calls).outcomes ≡ joined bytes (reads_of (state_in (start_answer (read_frame frame) (length out)).state)) →
    Finished c inline out (bytes_by_chunk bytes c.reads) (start_then frame out calls)
order_3_message = in_order.pulled_finished

pub exports_order_3_message : (bytes : ReadSegment → List ℕ) → ((x : ReadSegment) → length (bytes x) ≡ x.target.length) →
    (frame out : List ℕ) (c : Content) (inline : List ℕ) → AllBytes frame → read_frame frame ≡ done c inline → start_number (read_frame frame) (length out) ≡ 0 → (before : List ℕ) (size : ℕ) →
    (calls : List Call) → taken_bytes calls (export_then frame out before size calls).outcomes ≡ joined bytes (reads_of (state_in (start_words (read_frame frame) (length out) before))) →
    Finished c inline out (bytes_by_chunk bytes c.reads) (export_then frame out before size calls)
exports_order_3_message = in_order.export_finished

-- And all that it says can be handed in: in one piece, which is taken.
pub order_3_at_once : (bytes : ReadSegment → List ℕ) → ((x : ReadSegment) → length (bytes x) ≡ x.target.length) →
    (frame out : List ℕ) (c : Content) (inline : List ℕ) → AllBytes frame → read_frame frame ≡ done c inline → (start_answer (read_frame frame) (length out)).number ≡ 0 →
    (t : List ℕ) → t ≡ joined bytes (reads_of (state_in (start_answer (read_frame frame) (length out)).state)) → taken_bytes (piece t ∷ []) (start_then frame out (piece t ∷ [])).outcomes ≡ t
order_3_at_once = in_order.taken_at_once

-- Order 3, case by case.
pub order_3_cases : All Holds order_cases
order_3_cases = worked.in_any_order

-- Order 4: "In a version reply the second word becomes the frame's version word; low and high stay 1.": the reply begins with the frame's first eight bytes.
pub order_4_version_reply : (frame out : List ℕ) (number limit : ℕ) → AllBytes frame → error_reply_number frame number limit (length out) ≡ 0 → reply_kind_for frame number ≡ reply.Version →
    (error_reply_answer frame number limit (length out) ≡ record { number = 0; length = 28 })
    × (error_reply_buffer frame number limit out ≡ (take 8 frame ++ word_bytes (granted (word_at frame 8) limit) ++ (0 ∷ 0 ∷ 0 ∷ 4 ∷ 0 ∷ 0 ∷ 0 ∷ 1 ∷ 0 ∷ 0 ∷ 0 ∷ 1 ∷ 0 ∷ 0 ∷ 0 ∷ 1 ∷ [])) ++ drop 28 out)
order_4_version_reply = reply_read.version_reply

-- "A chunk reply keeps its second word 1, whatever the frame's."
pub order_4_chunk_reply : (frame out : List ℕ) (number limit : ℕ) → AllBytes frame → error_reply_number frame number limit (length out) ≡ 0 → reply_kind_for frame number ≡ reply.Chunk →
    (error_reply_answer frame number limit (length out) ≡ record { number = 0; length = 20 })
    × (error_reply_buffer frame number limit out ≡ (take 4 frame ++ (0 ∷ 0 ∷ 0 ∷ 1 ∷ []) ++ word_bytes (granted (word_at frame 8) limit) ++ (0 ∷ 0 ∷ 0 ∷ 4 ∷ 0 ∷ 0 ∷ 0 ∷ 2 ∷ [])) ++ drop 20 out)
order_4_chunk_reply = reply_read.chunk_reply

-- "Reading such a reply back gives 2 unless its second word is 1.": of every reply that was written, by its own second word.
pub order_4_read_exactly : (frame out : List ℕ) (number limit : ℕ) (e : ErrorKind) → AllBytes frame → Word32 limit → error_reply_number frame number limit (length out) ≡ 0 → meant (reply_kind_for frame number) ≡ some e →
    read_number (read_frame (written_reply frame number limit out)) ≡ cond (eqb (word_at (written_reply frame number limit out) 4) 1) 0 2
order_4_read_exactly = reply_read.read_exactly

-- What else reading gives: where the word is 1 `reply_reads_back` says it, and where it is not the all-zero header and no payload; for C the caller's header as it was.
pub order_4_other_version : (frame out : List ℕ) (number limit : ℕ) → AllBytes frame → error_reply_number frame number limit (length out) ≡ 0 → reply_kind_for frame number ≡ reply.Version → (word_at frame 4 ≡ 1 → ⊥) →
    (read_answer (read_frame (written_reply frame number limit out)) ≡ record { header = header_of nothing; number = 2 })
    × (payload_of (read_frame (written_reply frame number limit out)) ≡ [])
order_4_other_version = reply_read.other_read_answer

pub exports_order_4_other_version : (frame out before : List ℕ) (number limit : ℕ) → AllBytes frame → error_reply_number frame number limit (length out) ≡ 0 → reply_kind_for frame number ≡ reply.Version → (word_at frame 4 ≡ 1 → ⊥) →
    (read_number (read_frame (written_reply frame number limit out)) ≡ 2)
    × (read_words (read_frame (written_reply frame number limit out)) before ≡ before)
    × (payload_of (read_frame (written_reply frame number limit out)) ≡ [])
exports_order_4_other_version = reply_read.export_other_read

-- Order 4, case by case.
pub order_4_cases : All Holds echo_cases
order_4_cases = worked.echoed

-- Order 5: "After any sequence of operations from the start, nobody else writing the ledger, the calls accepted for sending are those answered plus those in flight, taken from the history, and no xid is in flight twice." Each answer is what the history before it says, 17 is none of them, and the whole ledger follows from the history. Library and exports have these definitions in their contracts alike.
pub order_5_history : (last : ℕ) (os : List Operation) → Accounted last (history (open_answer last).ledger os) (ledger_after (open_answer last).ledger os)
order_5_history = ledger-history.accounted

-- "the grant starts at 1, and the opener names the last xid": nothing is in flight, and every place is zero.
pub order_5_opened : (last : ℕ) → open_answer last ≡ record { ledger = record { xids = replicate 32 0; count = 0; grant = 1; last = last }; number = 0 }
unfolding open_answer
order_5_opened last = refl

-- "A ledger with more in flight, one xid twice or grant 0 gets 17 first."; "it is refused with 23 exactly if the calls in flight reach or pass the grant or 32"
pub order_5_send : (l : Ledger) → SendGets l (send_answer l).number
unfolding send_answer
order_5_send = ledger-conditions.send_gets

-- "A reply names an xid and a grant: 25 if the grant is 0, then 24 if the xid is not in flight"
pub order_5_reply : (l : Ledger) (xid grant : ℕ) → ReplyGets l xid grant (reply_number l xid grant)
order_5_reply = ledger-conditions.reply_gets

-- "Sending takes the next xid, one more than the last, wrapping to 0 behind the largest, and passing over xids still in flight": as many as the answer says (order 6).
pub order_5_next : (l : Ledger) → (send_answer l).number ≡ 0 → Next l (send_answer l).xid (send_answer l).passed
unfolding send_answer
order_5_next = ledger-conditions.next_is

-- "Xids stand in sending order .. places behind them are .. zero after an accepted operation"
pub order_5_sent : (l : Ledger) → length l.xids ≡ 32 → (send_answer l).number ≡ 0 → Joined l (send_ledger l) (send_answer l).xid
unfolding send_answer
order_5_sent = ledger-places.send_joins

-- "a leaving one closes its gap"; "else the call leaves and the grant is set, above 32 too. A lower grant takes no call back."
pub order_5_replied : (l : Ledger) (xid grant : ℕ) → length l.xids ≡ 32 → reply_number l xid grant ≡ 0 → Closed l (reply_ledger l xid grant) xid grant
order_5_replied = ledger-places.reply_leaves

-- "places behind them are ignored": by the checks, and by what an accepted operation leaves.
pub order_5_ignored : (l k : Ledger) → SameCalls l k →
    (send_answer l ≡ send_answer k) × ((send_answer l).number ≡ 0 → send_ledger l ≡ send_ledger k)
    × ((xid grant : ℕ) → (reply_number l xid grant ≡ reply_number k xid grant) × (reply_number l xid grant ≡ 0 → reply_ledger l xid grant ≡ reply_ledger k xid grant))
unfolding send_answer
order_5_ignored = λ l k s. ((ledger-conditions.send_ignores l k s).0, (ledger-conditions.send_ignores l k s).1, ledger-conditions.reply_ignores l k s)

-- "A refusal changes nothing.": of the ledger, and hands out no xid.
pub order_5_refused : (l : Ledger) →
    (((send_answer l).number ≡ 0 → ⊥) → ((send_answer l).xid ≡ 0) × (send_ledger l ≡ l))
    × ((xid grant : ℕ) → (reply_number l xid grant ≡ 0 → ⊥) → reply_ledger l xid grant ≡ l)
unfolding send_answer
order_5_refused = ledger-conditions.refused

-- Order 5, case by case.
pub order_5_cases : All Holds ledger_cases
order_5_cases = worked.booked

-- Order 6: "Return the number of xids passed over with each accepted send. It equals the length of the unbroken run of xids in flight that begins right behind the last one given": said by places, that run has so many xids, and there is no other such number. The xid that is given is the one behind it (`order_5_next`).
pub order_6_run : (l : Ledger) → (send_answer l).number ≡ 0 → (n : ℕ) → ((send_answer l).passed ≡ n → RunBehind l n) × (RunBehind l n → (send_answer l).passed ≡ n)
unfolding send_answer
order_6_run = ledger-conditions.run_is

-- "and is at most the number in flight, so at most 31": those in flight before the send.
pub order_6_most : (l : Ledger) → (send_answer l).number ≡ 0 → ((send_answer l).passed ≤ l.count) × ((send_answer l).passed ≤ 31)
unfolding send_answer
order_6_most = ledger-conditions.passed_most

-- "the number of xids passed over": the search that gives the xid steps on exactly so often. One that may step on k times does so k times if k is at most that number, and with any greater k it stops there, at the xid.
pub order_6_search : (l : Ledger) → (send_answer l).number ≡ 0 → (k : ℕ) →
    (k ≤ (send_answer l).passed → first_free k ((l.last + 1) % 4294967296) (in_flight l) ≡ (l.last + 1 + k) % 4294967296)
    × ((send_answer l).passed ≤ k → first_free k ((l.last + 1) % 4294967296) (in_flight l) ≡ (send_answer l).xid)
unfolding send_answer
order_6_search = ledger-conditions.search_is

-- "A refused send reports 0."
pub order_6_refused : (l : Ledger) → ((send_answer l).number ≡ 0 → ⊥) → (send_answer l).passed ≡ 0
unfolding send_answer
order_6_refused = ledger-conditions.reports_none

-- After any operations from an opening: what a send says is told by the history alone, by the xids sent and not answered.
pub order_6_history : (last : ℕ) (os : List Operation) → SendSaid last (history (open_answer last).ledger os) (send_answer (ledger_after (open_answer last).ledger os))
order_6_history = ledger-history.next_send

-- Order 6, case by case.
pub order_6_cases : All Holds passed_cases
order_6_cases = worked.passed

-- Order 7: "no header passes 960 bytes." One that passes 7 does not, from the limits alone: neither a room nor a check of its length is asked, nor 12.
pub order_7_longest : (h : Header) → keeps_limits h ≡ true → length (header_bytes (content_of h)) ≤ 960
order_7_longest = longest.longest

-- Nor does the header of a frame that was read.
pub order_7_read : (frame : List ℕ) (c : Content) (payload : List ℕ) → AllBytes frame → read_frame frame ≡ done c payload → length frame ≤ 960 + length payload
order_7_read = frame-read.frame_most

-- And 960 is reached, by C13's header.
pub order_7_reached : write_answer full 960 ≡ record { number = 0; length = 960 }
order_7_reached = worked.reached

-- "Show that it cannot be given": by the writer as it was, whose definition stands beside that proof, for a header by value (`some h`) and for one that is lent.
pub order_7_could_not : (h : Option Header) (room : ℕ) → (former_answer h room).number ≡ 21 → ⊥
order_7_could_not = former.could_not

-- "and take the check out of the writer": it answers as it did, for every header and every buffer.
pub order_7_as_before : (h : Option Header) (out : List ℕ) → (write_words_answer h (length out) ≡ former_answer h (length out)) × (write_words_buffer h out ≡ former_buffer h out)
order_7_as_before = former.as_before

-- "the number stays reserved and is never given"
pub order_7_never_21 : NeverGiven 21
order_7_never_21 = reserved.never_given 21 refl

-- 960 bytes are room that always suffices (`EOS_MAX_HEADER`).
pub order_7_suffices : (h : Option Header) (room : ℕ) → 960 ≤ room → (write_words_answer h room).number ≡ 16 → ⊥
order_7_suffices = written.room_suffices

-- "The error reply still takes it as an argument and answers none.": 20 is for limit 0 alone (`reply_limit_zero`).
pub order_7_reply : (frame out : List ℕ) (limit : ℕ) → 1 ≤ limit →
    (error_reply_answer frame 21 limit (length out) ≡ record { number = 0; length = 0 }) × (error_reply_buffer frame 21 limit out ≡ out)
order_7_reply = reply_read.takes_21

-- Order 7, case by case.
pub order_7_cases : All Holds longest_cases
order_7_cases = worked.within_960

-- Order 8: "A program reads them from standard input, reads each frame as 01's reader does with limit 32, and writes a report." However the input is cut into blocks, and whatever buffers the report is written to, the first line and what the calls write are the report on the bytes that they took.
pub order_8_replayed : Replayed
order_8_replayed = replayed.replayed

-- And they take all: a call takes its whole block, but where the buffer has no room for another line.
pub order_8_progress : Progress
order_8_progress = replayed.progress

-- "with limit 32": the reply that is shown is the one that 01's error reply writes for the frame, its number and that limit, told by its length.
pub order_8_reply : (frame : List ℕ) → length (error_reply frame (answer frame) 32) ≡ reply_length (reply_to frame)
order_8_reply = shown.reply_shown

-- "A line with an odd number of digits, another character, or above 8,192 digits is `bad`."
pub order_8_digits : (line : List ℕ) → DigitLimit line
order_8_digits = replay-examples.digit_limit

-- "inputs have at most 1,000,000 lines and the program stops with `too long` in place of the sums when another begins"
pub order_8_lines : (s : List ℕ) → LineLimit s
order_8_lines = replay-examples.line_limit

-- "The sums are proved over a list of any frames within that limit."
pub order_8_sums : AnyFrames
order_8_sums = any_frames.any_frames

-- "The last line's sums count all frames, a bad line only as bad": each line once.
pub order_8_once : CountedOnce
order_8_once = any_frames.counted_once

-- Order 8's own example, and other inputs with their reports.
pub order_8_examples : Examples
order_8_examples = replay-examples.examples
