-- What the contracts of the exports ask of a caller, which is nothing, and promise, once more in full. A contract that is changed together with its function fails here.
-- Assumes nothing.
use mathlib.Core.Path.{◌≡◌}
use mathlib.Core.List.{List}
use Prim.Native.Nat.{ℕ}
use lib.ListN.{length}
use contract.Lifetimes.{Lfts}
use denote.Ref.{Bor, MutBor}
use denote.Triple.Clauses.{AtExit}
use borrow.Fn.Kinds.{ended_of}
use Rattle.answers.specs.Answers.{unless_refused}
use Rattle.reader.specs.Frame.{read_frame, payload_of, read_number, read_words}
use Rattle.header.specs.Words.{header_in}
use Rattle.writer.specs.Write.{write_words_answer, write_words_buffer}
use Rattle.c_header.specs.Part.{part_of}
use Rattle.c_header.specs.declared.Part.{Part}
use Rattle.setup.specs.Setup.{read_setup}
use Rattle.c_setup.specs.Words.{present_word, setup_words, agreement_words, write_setup_words_answer, write_setup_words_buffer, agree_words_answer}
use Rattle.credit.specs.Credit.{grant_answer}
use Rattle.error_reply.specs.Reply.{error_reply_answer, error_reply_buffer}
use Rattle.assembly_state.specs.Words.{state_in}
use Rattle.assembly_start.specs.Start.{start_number, start_buffer, start_words}
use Rattle.assembly.specs.Assembly.{piece_answer, piece_buffer, message_number, piece_words}
use Rattle.assembly.specs.declared.PieceAnswer.{PieceAnswer}
use Rattle.c_assembly.specs.Message.{message_size}
use Rattle.returned.specs.Returned.{returned_words_number, returned_words_places}
use Rattle.ledger.specs.Ledger.{open_answer, send_answer, send_ledger, reply_number, reply_ledger}
use Rattle.ledger.specs.declared.Ledger.{Ledger}
use Rattle.ledger.specs.declared.SendAnswer.{SendAnswer}
use Rattle.eoswynnor.proofs.eos_read_header.Reads as read_header
use Rattle.eoswynnor.proofs.eos_read_header.Kinds as read_header_kinds
use Rattle.eoswynnor.proofs.eos_payload.Reads as payload
use Rattle.eoswynnor.proofs.eos_payload.Kinds as payload_kinds
use Rattle.eoswynnor.proofs.eos_write_header.Reads as write_header
use Rattle.eoswynnor.proofs.eos_write_header.Kinds as write_header_kinds
use Rattle.eoswynnor.proofs.eos_read_setup.Reads as read_setup
use Rattle.eoswynnor.proofs.eos_read_setup.Kinds as read_setup_kinds
use Rattle.eoswynnor.proofs.eos_write_setup.Reads as write_setup
use Rattle.eoswynnor.proofs.eos_write_setup.Kinds as write_setup_kinds
use Rattle.eoswynnor.proofs.eos_agree.Reads as agree
use Rattle.eoswynnor.proofs.eos_agree.Kinds as agree_kinds
use Rattle.eoswynnor.proofs.eos_grant.Reads as grant
use Rattle.eoswynnor.proofs.eos_grant.Kinds as grant_kinds
use Rattle.eoswynnor.proofs.eos_error_reply.Reads as error_reply
use Rattle.eoswynnor.proofs.eos_error_reply.Kinds as error_reply_kinds
use Rattle.eoswynnor.proofs.eos_start.Reads as start
use Rattle.eoswynnor.proofs.eos_start.Kinds as start_kinds
use Rattle.eoswynnor.proofs.eos_take_piece.Reads as take_piece
use Rattle.eoswynnor.proofs.eos_take_piece.Kinds as take_piece_kinds
use Rattle.eoswynnor.proofs.eos_message.Reads as message
use Rattle.eoswynnor.proofs.eos_message.Kinds as message_kinds
use Rattle.eoswynnor.proofs.eos_returned.Reads as returned
use Rattle.eoswynnor.proofs.eos_returned.Kinds as returned_kinds
use Rattle.eoswynnor.proofs.eos_ledger_open.Reads as ledger_open
use Rattle.eoswynnor.proofs.eos_ledger_open.Kinds as ledger_open_kinds
use Rattle.eoswynnor.proofs.eos_ledger_send.Reads as ledger_send
use Rattle.eoswynnor.proofs.eos_ledger_send.Kinds as ledger_send_kinds
use Rattle.eoswynnor.proofs.eos_ledger_reply.Reads as ledger_reply
use Rattle.eoswynnor.proofs.eos_ledger_reply.Kinds as ledger_reply_kinds

-- `eos_read_header`: the number, and every word of the header.
pub read_header_asks_nothing : (κs : Lfts 2) (frame : Bor (List ℕ)) (header : MutBor (List ℕ)) → read_header.Pre κs (frame, (header, tt))
read_header_asks_nothing κs frame header = tt

pub read_header_promises : (κs : Lfts 2) (frame : Bor (List ℕ)) (header : MutBor (List ℕ)) (answer : ℕ) (left : AtExit (ended_of 2 read_header_kinds.ps read_header_kinds.r) κs) → read_header.Post κs (frame, (header, tt)) answer left →
    (answer ≡ read_number (read_frame frame.now)) × (left.1.0.now ≡ read_words (read_frame frame.now) header.now)
read_header_promises κs frame header answer left promise = promise

-- `eos_payload`: where the payload lies.
pub payload_asks_nothing : (κs : Lfts 1) (frame : Bor (List ℕ)) → payload.Pre κs (frame, tt)
payload_asks_nothing κs frame = tt

pub payload_promises : (κs : Lfts 1) (frame : Bor (List ℕ)) (part : Part) (left : AtExit (ended_of 1 payload_kinds.ps payload_kinds.r) κs) → payload.Post κs (frame, tt) part left → part ≡ part_of frame.now (payload_of (read_frame frame.now))
payload_promises κs frame part left promise = promise

-- `eos_write_header`: the number, the length if it is 0, and every byte of the buffer.
pub write_header_asks_nothing : (κs : Lfts 3) (header : Bor (List ℕ)) (out : MutBor (List ℕ)) (size : MutBor ℕ) → write_header.Pre κs (header, (out, (size, tt)))
write_header_asks_nothing κs header out size = tt

pub write_header_promises : (κs : Lfts 3) (header : Bor (List ℕ)) (out : MutBor (List ℕ)) (size : MutBor ℕ) (answer : ℕ) (left : AtExit (ended_of 3 write_header_kinds.ps write_header_kinds.r) κs) → write_header.Post κs (header, (out, (size, tt))) answer left →
    let gives = write_words_answer (header_in header.now) (length out.now) in
    (answer ≡ gives.number)
    × ((left.1.1.0.now ≡ unless_refused gives.number gives.length size.now) × (left.1.0.now ≡ write_words_buffer (header_in header.now) out.now))
write_header_promises κs header out size answer left promise = promise

-- `eos_read_setup`: the number, every word of the setup data, and whether there is any.
pub read_setup_asks_nothing : (κs : Lfts 3) (bytes : Bor (List ℕ)) (setup : MutBor (List ℕ)) (present : MutBor ℕ) → read_setup.Pre κs (bytes, (setup, (present, tt)))
read_setup_asks_nothing κs bytes setup present = tt

pub read_setup_promises : (κs : Lfts 3) (bytes : Bor (List ℕ)) (setup : MutBor (List ℕ)) (present : MutBor ℕ) (answer : ℕ) (left : AtExit (ended_of 3 read_setup_kinds.ps read_setup_kinds.r) κs) → read_setup.Post κs (bytes, (setup, (present, tt))) answer left →
    let gives = read_setup bytes.now in
    (answer ≡ gives.number) × ((left.1.0.now ≡ setup_words gives.setup) × (left.1.1.0.now ≡ present_word gives))
read_setup_promises κs bytes setup present answer left promise = promise

-- `eos_write_setup`: the number, the length if it is 0, and every byte of the buffer.
pub write_setup_asks_nothing : (κs : Lfts 3) (setup : Bor (List ℕ)) (out : MutBor (List ℕ)) (size : MutBor ℕ) → write_setup.Pre κs (setup, (out, (size, tt)))
write_setup_asks_nothing κs setup out size = tt

pub write_setup_promises : (κs : Lfts 3) (setup : Bor (List ℕ)) (out : MutBor (List ℕ)) (size : MutBor ℕ) (answer : ℕ) (left : AtExit (ended_of 3 write_setup_kinds.ps write_setup_kinds.r) κs) → write_setup.Post κs (setup, (out, (size, tt))) answer left →
    let gives = write_setup_words_answer setup.now (length out.now) in
    (answer ≡ gives.number)
    × ((left.1.1.0.now ≡ unless_refused gives.number gives.length size.now) × (left.1.0.now ≡ write_setup_words_buffer setup.now out.now))
write_setup_promises κs setup out size answer left promise = promise

-- `eos_agree`: the number, and every word of the agreement if it is 0.
pub agree_asks_nothing : (κs : Lfts 3) (client server : Bor (List ℕ)) (agreement : MutBor (List ℕ)) → agree.Pre κs (client, (server, (agreement, tt)))
agree_asks_nothing κs client server agreement = tt

pub agree_promises : (κs : Lfts 3) (client server : Bor (List ℕ)) (agreement : MutBor (List ℕ)) (answer : ℕ) (left : AtExit (ended_of 3 agree_kinds.ps agree_kinds.r) κs) → agree.Post κs (client, (server, (agreement, tt))) answer left →
    let gives = agree_words_answer client.now server.now in
    (answer ≡ gives.number) × (left.1.1.0.now ≡ unless_refused gives.number (agreement_words gives) agreement.now)
agree_promises κs client server agreement answer left promise = promise

-- `eos_grant`: the number, and the credit if it is 0.
pub grant_asks_nothing : (κs : Lfts 1) (asked limit : ℕ) (credit : MutBor ℕ) → grant.Pre κs (asked, (limit, (credit, tt)))
grant_asks_nothing κs asked limit credit = tt

pub grant_promises : (κs : Lfts 1) (asked limit : ℕ) (credit : MutBor ℕ) (answer : ℕ) (left : AtExit (ended_of 1 grant_kinds.ps grant_kinds.r) κs) → grant.Post κs (asked, (limit, (credit, tt))) answer left →
    let gives = grant_answer asked limit in
    (answer ≡ gives.number) × (left.1.1.0.now ≡ unless_refused gives.number gives.credit credit.now)
grant_promises κs asked limit credit answer left promise = promise

-- `eos_error_reply`: the number, the length if it is 0, and every byte of the buffer.
pub error_reply_asks_nothing : (κs : Lfts 3) (frame : Bor (List ℕ)) (number limit : ℕ) (out : MutBor (List ℕ)) (size : MutBor ℕ) → error_reply.Pre κs (frame, (number, (limit, (out, (size, tt)))))
error_reply_asks_nothing κs frame number limit out size = tt

pub error_reply_promises : (κs : Lfts 3) (frame : Bor (List ℕ)) (number limit : ℕ) (out : MutBor (List ℕ)) (size : MutBor ℕ) (answer : ℕ) (left : AtExit (ended_of 3 error_reply_kinds.ps error_reply_kinds.r) κs) → error_reply.Post κs (frame, (number, (limit, (out, (size, tt))))) answer left →
    let gives = error_reply_answer frame.now number limit (length out.now) in
    (answer ≡ gives.number)
    × ((left.1.1.1.1.0.now ≡ unless_refused gives.number gives.length size.now) × (left.1.1.1.0.now ≡ error_reply_buffer frame.now number limit out.now))
error_reply_promises κs frame number limit out size answer left promise = promise

-- `eos_start`: the number, every word of the state, and every byte of the buffer.
pub start_asks_nothing : (κs : Lfts 3) (frame : Bor (List ℕ)) (out state : MutBor (List ℕ)) → start.Pre κs (frame, (out, (state, tt)))
start_asks_nothing κs frame out state = tt

pub start_promises : (κs : Lfts 3) (frame : Bor (List ℕ)) (out state : MutBor (List ℕ)) (answer : ℕ) (left : AtExit (ended_of 3 start_kinds.ps start_kinds.r) κs) → start.Post κs (frame, (out, (state, tt))) answer left →
    (answer ≡ start_number (read_frame frame.now) (length out.now))
    × ((left.1.1.0.now ≡ start_words (read_frame frame.now) (length out.now) state.now) × (left.1.0.now ≡ start_buffer (read_frame frame.now) out.now))
start_promises κs frame out state answer left promise = promise

-- `eos_take_piece`: the number and the goes, every word of the state, and every byte of the buffer.
pub take_piece_asks_nothing : (κs : Lfts 3) (state : MutBor (List ℕ)) (piece : Bor (List ℕ)) (out : MutBor (List ℕ)) → take_piece.Pre κs (state, (piece, (out, tt)))
take_piece_asks_nothing κs state piece out = tt

pub take_piece_promises : (κs : Lfts 3) (state : MutBor (List ℕ)) (piece : Bor (List ℕ)) (out : MutBor (List ℕ)) (answer : PieceAnswer) (left : AtExit (ended_of 3 take_piece_kinds.ps take_piece_kinds.r) κs) → take_piece.Post κs (state, (piece, (out, tt))) answer left →
    (answer ≡ piece_answer (state_in state.now) (length out.now) (length piece.now))
    × ((left.0.now ≡ piece_words state.now (length out.now) (length piece.now)) × (left.1.1.0.now ≡ piece_buffer (state_in state.now) piece.now out.now))
take_piece_promises κs state piece out answer left promise = promise

-- `eos_message`: the number, and the message's length.
pub message_asks_nothing : (κs : Lfts 3) (state out : Bor (List ℕ)) (size : MutBor ℕ) → message.Pre κs (state, (out, (size, tt)))
message_asks_nothing κs state out size = tt

pub message_promises : (κs : Lfts 3) (state out : Bor (List ℕ)) (size : MutBor ℕ) (answer : ℕ) (left : AtExit (ended_of 3 message_kinds.ps message_kinds.r) κs) → message.Post κs (state, (out, (size, tt))) answer left →
    (answer ≡ message_number (state_in state.now) (length out.now)) × (left.1.1.0.now ≡ message_size (state_in state.now) (length out.now) size.now)
message_promises κs state out size answer left promise = promise

-- `eos_returned`: the number, and what landed in each chunk.
pub returned_asks_nothing : (κs : Lfts 3) (sent reply : Bor (List ℕ)) (landed : MutBor (List ℕ)) → returned.Pre κs (sent, (reply, (landed, tt)))
returned_asks_nothing κs sent reply landed = tt

pub returned_promises : (κs : Lfts 3) (sent reply : Bor (List ℕ)) (landed : MutBor (List ℕ)) (answer : ℕ) (left : AtExit (ended_of 3 returned_kinds.ps returned_kinds.r) κs) → returned.Post κs (sent, (reply, (landed, tt))) answer left →
    (answer ≡ returned_words_number (header_in sent.now) (header_in reply.now)) × (left.1.1.0.now ≡ returned_words_places (header_in sent.now) (header_in reply.now) landed.now)
returned_promises κs sent reply landed answer left promise = promise

-- `eos_ledger_open`: the number and the whole ledger.
pub ledger_open_asks_nothing : (κs : Lfts 1) (last : ℕ) (ledger : MutBor Ledger) → ledger_open.Pre κs (last, (ledger, tt))
ledger_open_asks_nothing κs last ledger = tt

pub ledger_open_promises : (κs : Lfts 1) (last : ℕ) (ledger : MutBor Ledger) (answer : ℕ) (left : AtExit (ended_of 1 ledger_open_kinds.ps ledger_open_kinds.r) κs) → ledger_open.Post κs (last, (ledger, tt)) answer left →
    (answer ≡ (open_answer last).number) × (left.1.0.now ≡ (open_answer last).ledger)
ledger_open_promises κs last ledger answer left promise = promise

-- `eos_ledger_send`: what it answers and the whole ledger.
pub ledger_send_asks_nothing : (κs : Lfts 1) (ledger : MutBor Ledger) → ledger_send.Pre κs (ledger, tt)
ledger_send_asks_nothing κs ledger = tt

pub ledger_send_promises : (κs : Lfts 1) (ledger : MutBor Ledger) (answer : SendAnswer) (left : AtExit (ended_of 1 ledger_send_kinds.ps ledger_send_kinds.r) κs) → ledger_send.Post κs (ledger, tt) answer left →
    (answer ≡ send_answer ledger.now) × (left.0.now ≡ send_ledger ledger.now)
ledger_send_promises κs ledger answer left promise = promise

-- `eos_ledger_reply`: the number and the whole ledger.
pub ledger_reply_asks_nothing : (κs : Lfts 1) (ledger : MutBor Ledger) (xid grant : ℕ) → ledger_reply.Pre κs (ledger, (xid, (grant, tt)))
ledger_reply_asks_nothing κs ledger xid grant = tt

pub ledger_reply_promises : (κs : Lfts 1) (ledger : MutBor Ledger) (xid grant answer : ℕ) (left : AtExit (ended_of 1 ledger_reply_kinds.ps ledger_reply_kinds.r) κs) → ledger_reply.Post κs (ledger, (xid, (grant, tt))) answer left →
    (answer ≡ reply_number ledger.now xid grant) × (left.0.now ≡ reply_ledger ledger.now xid grant)
ledger_reply_promises κs ledger xid grant answer left promise = promise
