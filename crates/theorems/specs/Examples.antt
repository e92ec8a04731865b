-- "Frames and messages worked through" (document 01): each example as one entry of one list.
use Rattle.std.specs.Prelude.{ℕ, ◌+◌, ◌*◌, ◌-◌, ◌≡◌, List, [], ◌∷◌, ◌++◌, map, Bool, true, false, length, take, get_or, set, replicate}
use Rattle.wire.specs.Wire.{words, zero_segment, zero_read_segment}
use Rattle.wire.specs.declared.Segment.{Segment}
use Rattle.wire.specs.declared.ReadSegment.{ReadSegment}
use Rattle.reader.specs.Frame.{read_frame, read_answer, payload_of}
use Rattle.reader.specs.declared.ReadAnswer.{ReadAnswer}
use Rattle.header.specs.Content.{header_of, nothing}
use Rattle.header.specs.declared.Header.{Header}
use Rattle.header.specs.declared.Kind.TheVariants.{Msg, Nomsg, Error}
use Rattle.writer.specs.Write.{write_answer, write_buffer}
use Rattle.assembly.specs.Assembly.{piece_answer, piece_words, message_number}
use Rattle.assembly.specs.declared.PieceAnswer.{PieceAnswer}
use Rattle.assembly_state.specs.Words.{state_in}
use Rattle.assembly_start.specs.Start.{start_answer}
use Rattle.theorems.specs.Calls.{Call, piece, asking, Outcome, gives, start_then}
use Rattle.setup.specs.Setup.{read_setup, write_setup_answer, agreement}
use Rattle.setup.specs.declared.SetupAnswer.{SetupAnswer}
use Rattle.credit.specs.Credit.{grant_answer}
use Rattle.error_reply.specs.Reply.{reply_kind_of, error_reply, error_reply_answer, error_reply_buffer}
use Rattle.std.proofs.Math.Option.{Option, none, some}
use Rattle.wire.specs.Fits.{All}
use Rattle.header.specs.Words.{reply_present_at, kind_at, header_in, header_words}
use Rattle.header.specs.declared.Kind.{Kind}
use Rattle.header.specs.declared.ErrorKind.{ErrorKind}
use Rattle.header.specs.declared.ErrorKind.TheVariants as error
use Rattle.setup.specs.declared.Setup.{Setup}
use Rattle.setup.specs.declared.Agreement.{Agreement}
use Rattle.error_reply.specs.declared.ReplyKind.{ReplyKind}
use Rattle.error_reply.specs.declared.ReplyKind.TheVariants.{None, Version, Chunk}
use Rattle.layout.specs.Places.{from}
use Rattle.c_setup.specs.Words.{agreement_words}
use Rattle.returned.specs.Returned.{returned_answer, returned_words_number, returned_words_places}
use Rattle.ledger.specs.Ledger.{open_answer, send_answer, send_ledger, reply_number, reply_ledger}
use Rattle.ledger.specs.History.{Operation, sending, replying, Event, send_got, reply_got, history, ledger_after}
use Rattle.ledger.specs.declared.Ledger.{Ledger}

-- What a worked example says.
pub data Example : Type 0 where
  -- reading a frame gives a number and a payload
  frame_reads : List ℕ → ℕ → List ℕ → Example
  -- writing a header into as many bytes gives 0 and uses them all, and reading them gives the header again
  header_takes : Header → ℕ → Example
  -- the error reply to a frame with an answer number and a limit, written into as many bytes, is these
  replied : List ℕ → ℕ → ℕ → List ℕ → Example
  -- a start over a frame and a buffer of so many bytes gives a number
  starts : List ℕ → ℕ → ℕ → Example
  -- it is accepted, and these calls then give these answers
  assembles : List ℕ → ℕ → List Call → List Outcome → Example
  -- reading setup data gives this
  setup_reads : List ℕ → SetupAnswer → Example
  -- what is granted to one who asks, with a limit
  grants : ℕ → ℕ → ℕ → Example
  -- a grant with this limit is refused with this number
  grant_gives : ℕ → ℕ → ℕ → Example
  -- writing a header into as many bytes gives just these
  header_writes : Header → List ℕ → Example
  -- writing a header into a buffer of so many bytes is refused with this number
  header_gives : Header → ℕ → ℕ → Example
  -- a header's words have these values at these places
  words_of_header : Header → List (ℕ × ℕ) → Example
  -- writing setup data into a buffer of so many bytes is refused with this number
  setup_gives : Setup → ℕ → ℕ → Example
  -- what holds between two sides, and the words that hold it
  agrees : Setup → Setup → Agreement → List ℕ → Example
  -- the table of replies, from number 0 on
  replies_are : List ReplyKind → Example
  -- an error reply to a frame, for a number and a limit, into a buffer of so many bytes gives this number and writes nothing
  reply_gives : List ℕ → ℕ → ℕ → ℕ → ℕ → Example
  -- reading the error reply to a frame, for a number and a limit, gives this
  reply_reads : List ℕ → ℕ → ℕ → ReadAnswer → Example
  -- the words that a start makes over a frame and a buffer of so many bytes have these values at these places
  words_of_start : List ℕ → ℕ → List (ℕ × ℕ) → Example
  -- a piece of so many bytes, for a state that lies in these words and a buffer of so many bytes, gives this number
  piece_gives : List ℕ → ℕ → ℕ → ℕ → Example
  -- a piece of no bytes, and asking for the message, for such a state give these numbers
  state_gives : List ℕ → ℕ → ℕ → ℕ → Example
  -- pieces of so many bytes, one after the other, for a state that lies in these words and a buffer of so many bytes, are answered so
  pieces_take : List ℕ → ℕ → List ℕ → List PieceAnswer → Example
  -- a header that was sent and the reply's: so many bytes landed in each write chunk and in the reply chunk
  lands : Header → Header → List ℕ → ℕ → Example
  -- they are refused with this number
  lands_not : Header → Header → ℕ → Example
  -- the same of words that are lent: the number, and what five places hold then that held 9
  lends : List ℕ → List ℕ → ℕ → List ℕ → Example
  -- a ledger opened with this last xid is this one
  ledger_opens : ℕ → Ledger → Example
  -- a send on a ledger gets this number and this xid, passes over so many, and leaves this ledger
  ledger_sends : Ledger → ℕ → ℕ → ℕ → Ledger → Example
  -- a reply on a ledger, with this xid and this grant, gets this number and leaves this ledger
  ledger_replies : Ledger → ℕ → ℕ → ℕ → Ledger → Example
  -- these operations, from an opening with this last xid, get these answers and leave this ledger
  ledger_runs : ℕ → List Operation → List Event → Ledger → Example

-- The answers to pieces of so many bytes, each over the words that the one before it left.
unfoldable pub piece_answers : List ℕ → ℕ → List ℕ → List PieceAnswer
piece_answers w room [] = []
piece_answers w room (size ∷ sizes) = piece_answer (state_in w) room size ∷ piece_answers (piece_words w room size) room sizes

-- What it means that a worked example holds.
abbrev pub Holds : Example → Type 0
Holds (frame_reads frame number payload) = ((read_answer (read_frame frame)).number ≡ number) × (payload_of (read_frame frame) ≡ payload)
Holds (header_takes h size) =
    (write_answer h size ≡ record { number = 0; length = size })
    × (read_answer (read_frame (write_buffer h (replicate size 0))) ≡ record { header = h; number = 0 })
Holds (replied frame number limit reply) =
    (error_reply_answer frame number limit (length reply) ≡ record { number = 0; length = length reply })
    × (error_reply_buffer frame number limit (replicate (length reply) 0) ≡ reply)
Holds (starts frame room number) = (start_answer (read_frame frame) room).number ≡ number
Holds (assembles frame room calls outcomes) =
    ((start_answer (read_frame frame) room).number ≡ 0) × ((start_then frame (replicate room 0xff) calls).outcomes ≡ outcomes)
Holds (setup_reads bytes answer) = read_setup bytes ≡ answer
Holds (grants asked limit credit) = grant_answer asked limit ≡ record { credit = credit; number = 0 }
Holds (grant_gives asked limit number) = grant_answer asked limit ≡ record { credit = 0; number = number }
Holds (header_writes h bytes) =
    (write_answer h (length bytes) ≡ record { number = 0; length = length bytes }) × (write_buffer h (replicate (length bytes) 0xff) ≡ bytes)
Holds (header_gives h room number) = write_answer h room ≡ record { number = number; length = 0 }
Holds (words_of_header h values) = All (λ x. get_or (header_words h) x.0 0 ≡ x.1) values
Holds (setup_gives x room number) = write_setup_answer x room ≡ record { number = number; length = 0 }
Holds (agrees client server both w) = (agreement client server ≡ both) × (agreement_words both ≡ w)
Holds (replies_are kinds) = map reply_kind_of (from 0 22) ≡ kinds
Holds (reply_gives frame number limit room refusal) = error_reply_answer frame number limit room ≡ record { number = refusal; length = 0 }
Holds (reply_reads frame number limit answer) = (read_answer (read_frame (error_reply frame number limit)) ≡ answer) × (payload_of (read_frame (error_reply frame number limit)) ≡ [])
Holds (words_of_start frame room values) = All (λ x. get_or (start_answer (read_frame frame) room).state x.0 0 ≡ x.1) values
Holds (piece_gives w room size number) = (piece_answer (state_in w) room size).number ≡ number
Holds (state_gives w room number asked) = ((piece_answer (state_in w) room 0).number ≡ number) × (message_number (state_in w) room ≡ asked)
Holds (pieces_take w room sizes answers) = piece_answers w room sizes ≡ answers
Holds (lands sent reply writes n) = returned_answer sent reply ≡ record { writes = writes; reply = n; number = 0 }
Holds (lands_not sent reply number) = returned_answer sent reply ≡ record { writes = 0 ∷ 0 ∷ 0 ∷ 0 ∷ []; reply = 0; number = number }
Holds (lends sent reply number landed) =
    (returned_words_number (header_in sent) (header_in reply) ≡ number) × (returned_words_places (header_in sent) (header_in reply) (replicate 5 9) ≡ landed)
Holds (ledger_opens last l) = open_answer last ≡ record { ledger = l; number = 0 }
Holds (ledger_sends l number xid passed after) = (send_answer l ≡ record { number = number; xid = xid; passed = passed }) × (send_ledger l ≡ after)
Holds (ledger_replies l xid grant number after) = (reply_number l xid grant ≡ number) × (reply_ledger l xid grant ≡ after)
Holds (ledger_runs last os events after) = (history (open_answer last).ledger os ≡ events) × (ledger_after (open_answer last).ledger os ≡ after)

-- "C2 Words 2a, 1, 20, 0, 0, 0, 0 (hexadecimal)"
abbrev pub c2 : List ℕ
c2 = words (0x2a ∷ 1 ∷ 0x20 ∷ 0 ∷ 0 ∷ 0 ∷ 0 ∷ [])

-- "C3 The same with version 2"
abbrev pub c3 : List ℕ
c3 = words (0x2a ∷ 2 ∷ 0x20 ∷ 0 ∷ 0 ∷ 0 ∷ 0 ∷ [])

-- The words of a read list with these entries of position and length.
unfoldable pub entry_words : List (ℕ × ℕ) → List ℕ
entry_words [] = 0 ∷ []
entry_words (e ∷ es) = 1 ∷ e.0 ∷ 7 ∷ e.1 ∷ 0 ∷ 9 ∷ entry_words es

-- A frame with this procedure, these read entries and these inline bytes.
abbrev pub call : ℕ → List (ℕ × ℕ) → List ℕ → List ℕ
call procedure entries inline = words (0x2a ∷ 1 ∷ 0x20 ∷ procedure ∷ []) ++ words (entry_words entries) ++ words (0 ∷ 0 ∷ []) ++ inline

-- "inline 01 to 0c"
abbrev pub twelve : List ℕ
twelve = 1 ∷ 2 ∷ 3 ∷ 4 ∷ 5 ∷ 6 ∷ 7 ∷ 8 ∷ 9 ∷ 10 ∷ 11 ∷ 12 ∷ []

-- "5 bytes a1 to a5"
abbrev pub five : List ℕ
five = 0xa1 ∷ 0xa2 ∷ 0xa3 ∷ 0xa4 ∷ 0xa5 ∷ []

-- "01 to 08, a1 to a5, 00 00 00, 09 to 0c; 20 bytes"
abbrev pub c6_message : List ℕ
c6_message = 1 ∷ 2 ∷ 3 ∷ 4 ∷ 5 ∷ 6 ∷ 7 ∷ 8 ∷ 0xa1 ∷ 0xa2 ∷ 0xa3 ∷ 0xa4 ∷ 0xa5 ∷ 0 ∷ 0 ∷ 0 ∷ 9 ∷ 10 ∷ 11 ∷ 12 ∷ []

-- "a second chunk of 4 bytes", b1 to b4 here.
abbrev pub four : List ℕ
four = 0xb1 ∷ 0xb2 ∷ 0xb3 ∷ 0xb4 ∷ []

-- "at 16 or 20: accepted, 24 bytes": the chunk before C6's last four bytes, or behind them.
abbrev pub c7_at16 : List ℕ
c7_at16 = 1 ∷ 2 ∷ 3 ∷ 4 ∷ 5 ∷ 6 ∷ 7 ∷ 8 ∷ 0xa1 ∷ 0xa2 ∷ 0xa3 ∷ 0xa4 ∷ 0xa5 ∷ 0 ∷ 0 ∷ 0 ∷ 0xb1 ∷ 0xb2 ∷ 0xb3 ∷ 0xb4 ∷ 9 ∷ 10 ∷ 11 ∷ 12 ∷ []

abbrev pub c7_at20 : List ℕ
c7_at20 = 1 ∷ 2 ∷ 3 ∷ 4 ∷ 5 ∷ 6 ∷ 7 ∷ 8 ∷ 0xa1 ∷ 0xa2 ∷ 0xa3 ∷ 0xa4 ∷ 0xa5 ∷ 0 ∷ 0 ∷ 0 ∷ 9 ∷ 10 ∷ 11 ∷ 12 ∷ 0xb1 ∷ 0xb2 ∷ 0xb3 ∷ 0xb4 ∷ []

-- "C10 f6 ab 0e 18 01 01 03 07"
abbrev pub c10 : List ℕ
c10 = 0xf6 ∷ 0xab ∷ 0x0e ∷ 0x18 ∷ 0x01 ∷ 0x01 ∷ 0x03 ∷ 0x07 ∷ []

-- "C13 All limits full"
abbrev pub full : Header
full = header_of (record {
  kind = Msg;
  xid = 0x2a;
  credit = 0x20;
  reads = replicate 16 (record { position = 4; target = record { handle = 1; length = 2; offset = 3 } });
  writes = replicate 4 (replicate 4 (record { handle = 1; length = 2; offset = 3 }));
  reply = some (replicate 16 (record { handle = 1; length = 2; offset = 3 }));
})

-- C1 to C13, in the document's order; C3's reply as mended by order 4: "2a, 2, 20, 4, 1, 1, 1".
abbrev pub examples : List Example
examples =
    frame_reads [] 1 []
    ∷ frame_reads c2 0 []
    ∷ assembles c2 0 (asking ∷ []) (gives 0 [] ∷ [])
    ∷ frame_reads c3 2 []
    ∷ replied c3 2 32 (words (0x2a ∷ 2 ∷ 0x20 ∷ 4 ∷ 1 ∷ 1 ∷ 1 ∷ []))
    ∷ frame_reads (take 27 c2) 5 []
    ∷ frame_reads (words (0x2a ∷ 1 ∷ 0x20 ∷ 0 ∷ 2 ∷ 0 ∷ 0 ∷ [])) 6 []
    ∷ assembles (call 0 ((8, 5) ∷ []) twelve) 24 (asking ∷ piece (0 ∷ five) ∷ piece five ∷ asking ∷ []) (gives 19 [] ∷ gives 18 [] ∷ gives 0 [] ∷ gives 0 c6_message ∷ [])
    ∷ assembles (call 0 ((8, 5) ∷ (16, 4) ∷ []) twelve) 24 (piece five ∷ piece four ∷ asking ∷ []) (gives 0 [] ∷ gives 0 [] ∷ gives 0 c7_at16 ∷ [])
    ∷ assembles (call 0 ((8, 5) ∷ (20, 4) ∷ []) twelve) 24 (piece (five ++ four) ∷ asking ∷ []) (gives 0 [] ∷ gives 0 c7_at20 ∷ [])
    ∷ starts (call 0 ((8, 5) ∷ (20, 4) ∷ []) twelve) 23 16
    ∷ starts (call 0 ((8, 5) ∷ (12, 4) ∷ []) twelve) 24 14
    ∷ starts (call 0 ((8, 5) ∷ (24, 4) ∷ []) twelve) 24 14
    ∷ assembles (call 1 ((0, 12) ∷ (8, 5) ∷ []) []) 20 (piece twelve ∷ asking ∷ piece five ∷ asking ∷ []) (gives 0 [] ∷ gives 19 [] ∷ gives 0 [] ∷ gives 0 c6_message ∷ [])
    ∷ assembles (call 0 ((8, 2) ∷ (8, 3) ∷ []) twelve) 20 (piece five ∷ asking ∷ []) (gives 0 [] ∷ gives 0 c6_message ∷ [])
    ∷ setup_reads c10 (record { setup = record { remote_invalidation = true; send = record { 0 = 4096 }; receive = record { 0 = 8192 } }; present = true; number = 0 })
    ∷ setup_reads (take 7 c10) (record { setup = record { remote_invalidation = false; send = record { 0 = 1024 }; receive = record { 0 = 1024 } }; present = false; number = 0 })
    ∷ grants 0 32 1
    ∷ grants 100 32 32
    ∷ header_takes full 960
    ∷ []

-- The numbers of the table that C1 to C13 do not show, each given once (8 and 21 are reserved and never given).
abbrev pub numbers : List Example
numbers =
    frame_reads (words (0x2a ∷ 1 ∷ 0x20 ∷ 2 ∷ [])) 3 []
    ∷ frame_reads (words (0x2a ∷ 1 ∷ 0x20 ∷ 3 ∷ [])) 4 []
    ∷ frame_reads (call 0 (replicate 17 (4, 0)) []) 7 []
    ∷ frame_reads (call 0 ((6, 4) ∷ []) []) 9 []
    ∷ frame_reads (words (0x2a ∷ 1 ∷ 0x20 ∷ 4 ∷ 3 ∷ [])) 10 []
    ∷ frame_reads (call 1 [] (0xff ∷ [])) 11 []
    ∷ starts (call 1 [] []) 0 12
    ∷ starts (call 0 [] (1 ∷ [])) 4 13
    ∷ starts (call 0 ((4, 1048576) ∷ []) four) 0 15
    ∷ piece_gives (replicate 103 0 ++ (2 ∷ [])) 0 0 17
    ∷ grant_gives 1 0 20
    ∷ []

-- Setup data with this flag and these two sizes.
abbrev pub side : Bool → ℕ → ℕ → Setup
side flag send receive = record { remote_invalidation = flag; send = record { 0 = send }; receive = record { 0 = receive } }

-- A header whose parts all differ: no frame holds it, but its words do.
abbrev pub distinct : Header
distinct = header_of (record {
  kind = Error (error.Version 9 10);
  xid = 0x2a;
  credit = 0x20;
  reads = record { position = 4; target = record { handle = 5; length = 6; offset = 8 * 4294967296 + 7 } } ∷ [];
  writes = (record { handle = 11; length = 12; offset = 13 } ∷ []) ∷ [] ∷ [];
  reply = some (record { handle = 14; length = 15; offset = 16 } ∷ record { handle = 17; length = 18; offset = 19 } ∷ record { handle = 20; length = 21; offset = 22 } ∷ []);
})

-- A header with these read positions.
abbrev pub reading : Kind → List ℕ → Header
reading kind positions = header_of (record {
  kind = kind;
  xid = 0;
  credit = 0;
  reads = map (λ n. record { position = n; target = zero_segment }) positions;
  writes = [];
  reply = none;
})

-- A header of which only the counts matter: of read segments, of write chunks and of the segments in each, of those in the reply chunk.
abbrev pub counting : Kind → ℕ → ℕ → List ℕ → Bool → ℕ → Header
counting kind reads chunks counts present replies = record {
  reads = record { segments = replicate 16 zero_read_segment; count = reads };
  writes = record { segments = replicate 16 zero_segment; counts = counts; chunks = chunks };
  reply = record { segments = replicate 16 zero_segment; count = replies; present = present };
  kind = kind;
  xid = 0x2a;
  credit = 0;
}

-- No write chunks.
abbrev pub no_counts : List ℕ
no_counts = replicate 4 0

-- A header with a write chunk and a reply chunk, their offsets above 32 bits.
abbrev pub offsets : Header
offsets = header_of (record {
  kind = Msg;
  xid = 0x2a;
  credit = 0x20;
  reads = [];
  writes = (record { handle = 7; length = 8; offset = 10 * 4294967296 + 11 } ∷ []) ∷ [];
  reply = some (record { handle = 1; length = 2; offset = 3 * 4294967296 + 4 } ∷ []);
})

-- A frame with 16 read entries and these words behind them.
abbrev pub sixteen_then : List ℕ → List ℕ
sixteen_then behind = words (0x2a ∷ 1 ∷ 0x20 ∷ 0 ∷ []) ++ take 384 (words (entry_words (replicate 16 (4, 0)))) ++ words behind

-- Of what the two lists above leave open: orders in which checks are made, ends of limits, places of bytes and words.
abbrev pub edges : List Example
edges =
    frame_reads (words (0x2a ∷ 1 ∷ 0x20 ∷ 5 ∷ [])) 3 []
    ∷ frame_reads (call 0 ((8, 4) ∷ (6, 4) ∷ []) []) 9 []
    ∷ frame_reads (call 0 (replicate 16 (4, 0)) []) 0 []
    ∷ frame_reads (words (0x2a ∷ 1 ∷ 0x20 ∷ 0 ∷ 1 ∷ 6 ∷ [])) 5 []
    ∷ frame_reads (sixteen_then (1 ∷ [])) 7 []
    ∷ frame_reads (sixteen_then (2 ∷ [])) 6 []
    ∷ frame_reads (words (0x2a ∷ 1 ∷ 0x20 ∷ 0 ∷ 0 ∷ 1 ∷ [])) 5 []
    ∷ frame_reads (words (0x2a ∷ 1 ∷ 0x20 ∷ 0 ∷ 0 ∷ 1 ∷ 1 ∷ [])) 5 []
    ∷ frame_reads (words (0x2a ∷ 1 ∷ 0x20 ∷ 0 ∷ 0 ∷ 1 ∷ 17 ∷ [])) 7 []
    ∷ frame_reads (words (0x2a ∷ 1 ∷ 0x20 ∷ 0 ∷ 0 ∷ 1 ∷ 0 ∷ 1 ∷ 0 ∷ 1 ∷ 0 ∷ 1 ∷ 0 ∷ 1 ∷ [])) 7 []
    ∷ frame_reads (words (0x2a ∷ 1 ∷ 0x20 ∷ 0 ∷ 0 ∷ 0 ∷ 1 ∷ 1 ∷ [])) 5 []
    ∷ frame_reads (words (0x2a ∷ 1 ∷ 0x20 ∷ 0 ∷ 0 ∷ 0 ∷ 1 ∷ 17 ∷ [])) 7 []
    ∷ header_writes offsets (words (0x2a ∷ 1 ∷ 0x20 ∷ 0 ∷ 0 ∷ 1 ∷ 1 ∷ 7 ∷ 8 ∷ 10 ∷ 11 ∷ 0 ∷ 1 ∷ 1 ∷ 1 ∷ 2 ∷ 3 ∷ 4 ∷ []))
    ∷ header_writes (reading (Error (error.Version 5 6)) []) (words (0 ∷ 1 ∷ 0 ∷ 4 ∷ 1 ∷ 5 ∷ 6 ∷ []))
    ∷ header_gives (reading (Error error.Chunk) (replicate 17 6)) 0 12
    ∷ header_gives (reading Msg (replicate 17 6)) 0 7
    ∷ header_gives (counting Msg 0 0 no_counts false 1) 0 7
    ∷ header_gives (reading Msg (8 ∷ 6 ∷ [])) 0 9
    ∷ header_gives (reading Msg (8 ∷ 4 ∷ [])) 0 16
    ∷ header_gives (reading Msg []) 27 16
    ∷ words_of_header distinct ((0, 4) ∷ (1, 0) ∷ (2, 5) ∷ (3, 6) ∷ (4, 7) ∷ (5, 8) ∷ (96, 11) ∷ (97, 12) ∷ (98, 13) ∷ (99, 0) ∷ (160, 14) ∷ (164, 17) ∷ (224, 1) ∷ (225, 0) ∷ (228, 1) ∷ (229, 2) ∷ (230, 1) ∷ (231, 3) ∷ (232, 2) ∷ (233, 9) ∷ (234, 10) ∷ (235, 0x2a) ∷ (236, 0x20) ∷ (237, 0) ∷ [])
    ∷ setup_reads (0xf6 ∷ 0xab ∷ 0x0e ∷ 0x18 ∷ 0x01 ∷ 0x03 ∷ 0x03 ∷ 0x07 ∷ []) (record { setup = side true 4096 8192; present = true; number = 0 })
    ∷ setup_reads (0xf6 ∷ 0xab ∷ 0x0e ∷ 0x18 ∷ 0x01 ∷ 0x02 ∷ 0x03 ∷ 0x07 ∷ []) (record { setup = side false 4096 8192; present = true; number = 0 })
    ∷ setup_gives (side true 1000 1024) 0 20
    ∷ setup_gives (side true 1024 1024) 7 16
    ∷ agrees (side true 4096 8192) (side true 16384 2048) (record { client_to_server = record { 0 = 2048 }; server_to_client = record { 0 = 8192 }; remote_invalidation = true; number = 0 }) (2048 ∷ 8192 ∷ 1 ∷ [])
    ∷ agrees (side true 4096 8192) (side true 1000 2048) (record { client_to_server = record { 0 = 0 }; server_to_client = record { 0 = 0 }; remote_invalidation = false; number = 20 }) (0 ∷ 0 ∷ 0 ∷ [])
    ∷ grants 5 32 5
    ∷ replies_are (None ∷ None ∷ Version ∷ Chunk ∷ None ∷ Chunk ∷ Chunk ∷ Chunk ∷ Chunk ∷ Chunk ∷ None ∷ Chunk ∷ Chunk ∷ Chunk ∷ Chunk ∷ Chunk ∷ None ∷ None ∷ None ∷ None ∷ None ∷ None ∷ [])
    ∷ replied (words (0x2a ∷ 1 ∷ 5 ∷ 0 ∷ [])) 5 32 (words (0x2a ∷ 1 ∷ 5 ∷ 4 ∷ 2 ∷ []))
    ∷ reply_gives c3 2 0 0 20
    ∷ reply_gives c3 22 32 28 20
    ∷ reply_gives c3 2 32 27 16
    ∷ starts (call 0 ((4, 1048572) ∷ []) four) 1048576 0
    ∷ starts (call 0 ((4, 1048572) ∷ []) four) 1048575 16
    ∷ starts (call 0 [] (1 ∷ 2 ∷ [])) 4 13
    ∷ starts (call 0 ((0, 4) ∷ []) []) 4 12
    ∷ starts (call 0 ((0, 0) ∷ []) []) 4 12
    ∷ starts (call 1 ((0, 0) ∷ []) []) 4 0
    ∷ words_of_start (call 0 ((8, 5) ∷ []) twelve) 24 ((0, 8) ∷ (2, 7) ∷ (3, 5) ∷ (4, 9) ∷ (96, 12) ∷ (97, 0) ∷ (98, 24) ∷ (100, 0) ∷ (102, 1) ∷ (103, 0) ∷ [])
    ∷ words_of_start (call 1 ((0, 12) ∷ (8, 5) ∷ []) []) 20 ((6, 8) ∷ (96, 12) ∷ (98, 20) ∷ (102, 2) ∷ (103, 1) ∷ [])
    ∷ piece_gives (replicate 104 0) 0 0 0
    ∷ piece_gives (replicate 104 0) 4 0 17
    ∷ []

-- Order 1. Segments of these lengths, all in one memory.
abbrev pub lengths : List ℕ → List Segment
lengths ns = map (λ n. record { handle = 7; length = n; offset = 9 }) ns

-- A header with write chunks and a reply chunk of these segments.
abbrev pub holding : Kind → ℕ → List (List Segment) → Option (List Segment) → Header
holding kind xid writes reply = header_of (record { kind = kind; xid = xid; credit = 0; reads = []; writes = writes; reply = reply })

-- One with write chunks of these lengths and no reply chunk.
abbrev pub chunks : List (List ℕ) → Header
chunks ls = holding Msg 0x2a (map lengths ls) none

-- One with a reply chunk of these lengths and no write chunks.
abbrev pub with_reply : Kind → List ℕ → Header
with_reply kind ns = holding kind 0x2a [] (some (lengths ns))

-- One with a single write segment, or a reply chunk of one.
abbrev pub with_write_segment : Segment → Header
with_write_segment x = holding Msg 0x2a ((x ∷ []) ∷ []) none

abbrev pub with_reply_segment : Segment → Header
with_reply_segment x = holding Nomsg 0x2a [] (some (x ∷ []))

-- A call with all parts, and its reply with these lengths: memory, kinds and credits differ, and offsets need 64 bits.
abbrev pub all_parts : Kind → ℕ → List ReadSegment → ℕ → ℕ → ℕ → ℕ → ℕ → Header
all_parts kind credit reads a b c d e = header_of (record {
  kind = kind;
  xid = 0x2a;
  credit = credit;
  reads = reads;
  writes = (record { handle = 1; length = a; offset = 1099511627776 } ∷ record { handle = 2; length = b; offset = 2 } ∷ []) ∷ [] ∷ (record { handle = 3; length = c; offset = 3 } ∷ []) ∷ [];
  reply = some (record { handle = 4; length = d; offset = 4 } ∷ record { handle = 5; length = e; offset = 18446744073709551615 } ∷ []);
})

-- A header with one write chunk of these lengths, and a number in all unused places.
abbrev pub with_noise : ℕ → List ℕ → Header
with_noise noise ns = record {
  reads = record { segments = replicate 16 (record { position = noise; target = record { handle = noise; length = noise; offset = noise } }); count = 0 };
  writes = record { segments = lengths ns ++ replicate (16 - length ns) (record { handle = noise; length = noise; offset = noise }); counts = length ns ∷ noise ∷ noise ∷ noise ∷ []; chunks = 1 };
  reply = record { segments = replicate 16 (record { handle = noise; length = noise; offset = noise }); count = 0; present = false };
  kind = Msg;
  xid = 0x2a;
  credit = noise;
}

-- What order 1 says: replies that are fine, then each condition of 26 in its sequence, then 7; then the words that are lent; then 26 as an argument of the error reply.
abbrev pub returned_cases : List Example
returned_cases =
    lands (chunks ((4 ∷ 0 ∷ 4 ∷ []) ∷ [])) (chunks ((4 ∷ 0 ∷ 2 ∷ []) ∷ [])) (6 ∷ 0 ∷ 0 ∷ 0 ∷ []) 0
    ∷ lands (chunks ((4 ∷ 4 ∷ []) ∷ [])) (chunks ((0 ∷ 0 ∷ []) ∷ [])) (0 ∷ 0 ∷ 0 ∷ 0 ∷ []) 0
    ∷ lands (chunks ((4 ∷ []) ∷ (4 ∷ []) ∷ [])) (chunks ((2 ∷ []) ∷ (3 ∷ []) ∷ [])) (2 ∷ 3 ∷ 0 ∷ 0 ∷ []) 0
    ∷ lands (chunks (replicate 4 (5 ∷ []))) (chunks ((1 ∷ []) ∷ (2 ∷ []) ∷ (3 ∷ []) ∷ (4 ∷ []) ∷ [])) (1 ∷ 2 ∷ 3 ∷ 4 ∷ []) 0
    ∷ lands (chunks (replicate 16 4294967295 ∷ [])) (chunks (replicate 16 4294967295 ∷ [])) (68719476720 ∷ 0 ∷ 0 ∷ 0 ∷ []) 0
    ∷ lands (with_reply Msg (replicate 16 4294967295)) (with_reply Nomsg (replicate 16 4294967295)) (0 ∷ 0 ∷ 0 ∷ 0 ∷ []) 68719476720
    ∷ lands (all_parts Msg 32 (record { position = 6; target = zero_segment } ∷ record { position = 4; target = zero_segment } ∷ []) 8 8 6 8 8) (all_parts Nomsg 5 [] 8 3 6 8 5) (11 ∷ 0 ∷ 6 ∷ 0 ∷ []) 13
    ∷ lands (all_parts Nomsg 5 [] 8 8 6 8 8) (all_parts Nomsg 32 [] 2 0 1 8 0) (2 ∷ 0 ∷ 1 ∷ 0 ∷ []) 8
    ∷ lands (all_parts Nomsg 5 [] 8 8 6 8 8) (all_parts Msg 32 [] 8 0 1 0 0) (8 ∷ 0 ∷ 1 ∷ 0 ∷ []) 0
    ∷ lands (with_noise 1 (4 ∷ 4 ∷ [])) (with_noise 2 (4 ∷ 1 ∷ [])) (5 ∷ 0 ∷ 0 ∷ 0 ∷ []) 0
    ∷ lands (with_noise 4294967295 (4 ∷ [])) (with_noise 0 (0 ∷ [])) (0 ∷ 0 ∷ 0 ∷ 0 ∷ []) 0
    ∷ lands (with_reply Msg (8 ∷ [])) (chunks []) (0 ∷ 0 ∷ 0 ∷ 0 ∷ []) 0
    ∷ lands (with_reply Nomsg (8 ∷ [])) (chunks []) (0 ∷ 0 ∷ 0 ∷ 0 ∷ []) 0
    ∷ lands (with_reply Msg []) (with_reply Nomsg []) (0 ∷ 0 ∷ 0 ∷ 0 ∷ []) 0
    ∷ lands (counting Msg 16 4 (4 ∷ 4 ∷ 4 ∷ 4 ∷ []) true 16) (counting Nomsg 0 4 (4 ∷ 4 ∷ 4 ∷ 4 ∷ []) true 16) (0 ∷ 0 ∷ 0 ∷ 0 ∷ []) 0
    ∷ lands_not (chunks []) (holding Msg 0x2b [] none) 26
    ∷ lands_not (chunks []) (counting Msg 1 0 no_counts false 0) 26
    ∷ lands_not (holding (Error error.Chunk) 0x2a [] none) (chunks []) 26
    ∷ lands_not (holding (Error (error.Version 1 1)) 0x2a [] none) (chunks []) 26
    ∷ lands_not (chunks []) (holding (Error error.Chunk) 0x2a [] none) 26
    ∷ lands_not (chunks []) (holding (Error (error.Version 1 1)) 0x2a [] none) 26
    ∷ lands_not (chunks ((4 ∷ []) ∷ [])) (chunks []) 26
    ∷ lands_not (chunks ([] ∷ [])) (chunks []) 26
    ∷ lands_not (chunks []) (chunks ([] ∷ [])) 26
    ∷ lands_not (chunks ((0 ∷ 0 ∷ []) ∷ [])) (chunks ((0 ∷ []) ∷ [])) 26
    ∷ lands_not (chunks ((4 ∷ []) ∷ (4 ∷ 4 ∷ []) ∷ [])) (chunks ((4 ∷ 4 ∷ []) ∷ (4 ∷ []) ∷ [])) 26
    ∷ lands_not (with_reply Msg (0 ∷ 0 ∷ [])) (with_reply Msg (0 ∷ [])) 26
    ∷ lands_not (with_reply Msg (4 ∷ [])) (with_reply Nomsg (4 ∷ 0 ∷ [])) 26
    ∷ lands_not (with_write_segment (record { handle = 7; length = 4; offset = 9 })) (with_write_segment (record { handle = 8; length = 4; offset = 9 })) 26
    ∷ lands_not (with_write_segment (record { handle = 7; length = 4; offset = 9 })) (with_write_segment (record { handle = 7; length = 0; offset = 8 })) 26
    ∷ lands_not (with_write_segment (record { handle = 7; length = 4; offset = 9 })) (with_write_segment (record { handle = 7; length = 4; offset = 4294967305 })) 26
    ∷ lands_not (with_reply_segment (record { handle = 7; length = 4; offset = 9 })) (with_reply_segment (record { handle = 8; length = 4; offset = 9 })) 26
    ∷ lands_not (with_reply_segment (record { handle = 7; length = 4; offset = 9 })) (with_reply_segment (record { handle = 7; length = 4; offset = 4294967305 })) 26
    ∷ lands_not (chunks ((4 ∷ []) ∷ [])) (chunks ((5 ∷ []) ∷ [])) 26
    ∷ lands_not (chunks ((4 ∷ []) ∷ (4 ∷ []) ∷ [])) (chunks ((4 ∷ []) ∷ (5 ∷ []) ∷ [])) 26
    ∷ lands_not (with_reply Msg (4 ∷ [])) (with_reply Nomsg (5 ∷ [])) 26
    ∷ lands_not (chunks ((4 ∷ 4 ∷ 4 ∷ []) ∷ [])) (chunks ((4 ∷ 0 ∷ 1 ∷ []) ∷ [])) 26
    ∷ lands_not (chunks ((4 ∷ 4 ∷ 4 ∷ []) ∷ [])) (chunks ((3 ∷ 4 ∷ 4 ∷ []) ∷ [])) 26
    ∷ lands_not (chunks ((4 ∷ 0 ∷ 4 ∷ []) ∷ [])) (chunks ((3 ∷ 0 ∷ 1 ∷ []) ∷ [])) 26
    ∷ lands_not (with_reply Msg (4 ∷ 4 ∷ [])) (with_reply Nomsg (3 ∷ 1 ∷ [])) 26
    ∷ lands_not (with_reply Msg (8 ∷ [])) (holding Nomsg 0x2a [] none) 26
    ∷ lands_not (with_reply Nomsg (8 ∷ [])) (holding Nomsg 0x2a [] none) 26
    ∷ lands_not (chunks []) (holding Nomsg 0x2a [] none) 26
    ∷ lands_not (chunks []) (with_reply Msg []) 26
    ∷ lands_not (chunks []) (with_reply Nomsg []) 26
    ∷ lands_not (with_reply Msg (8 ∷ [])) (with_reply Msg (8 ∷ [])) 26
    ∷ lands_not (with_reply Nomsg (8 ∷ [])) (with_reply Msg (8 ∷ [])) 26
    ∷ lands_not (with_reply Msg (0 ∷ 8 ∷ [])) (with_reply Msg (0 ∷ 1 ∷ [])) 26
    ∷ lands_not (holding Msg 0x2a [] (some (record { handle = 7; length = 4; offset = 9 } ∷ []))) (holding Msg 0x2a [] (some (record { handle = 8; length = 0; offset = 9 } ∷ []))) 26
    ∷ lands_not (counting Msg 17 0 no_counts false 0) (chunks []) 7
    ∷ lands_not (chunks []) (counting Msg 17 0 no_counts false 0) 7
    ∷ lands_not (counting Msg 0 5 no_counts false 0) (chunks []) 7
    ∷ lands_not (chunks []) (counting Nomsg 0 5 no_counts false 0) 7
    ∷ lands_not (counting Msg 0 2 (16 ∷ 1 ∷ 0 ∷ 0 ∷ []) false 0) (chunks []) 7
    ∷ lands_not (chunks []) (counting Msg 0 2 (2147483648 ∷ 2147483648 ∷ 0 ∷ 0 ∷ []) false 0) 7
    ∷ lands_not (counting Msg 0 0 no_counts true 17) (chunks []) 7
    ∷ lands_not (chunks []) (counting Nomsg 0 0 no_counts true 17) 7
    ∷ lands_not (counting Msg 0 0 no_counts false 1) (chunks []) 7
    ∷ lands_not (chunks []) (counting (Error error.Chunk) 0 0 no_counts false 1) 7
    ∷ lands_not (counting (Error (error.Version 1 1)) 0 5 no_counts false 0) (holding Msg 0x2b [] none) 7
    ∷ lends (header_words (holding Msg 0x2a (replicate 4 (lengths (8 ∷ []))) (some (lengths (8 ∷ []))))) (header_words (holding Nomsg 0x2a (map lengths ((1 ∷ []) ∷ (2 ∷ []) ∷ (3 ∷ []) ∷ (4 ∷ []) ∷ [])) (some (lengths (5 ∷ []))))) 0 (1 ∷ 2 ∷ 3 ∷ 4 ∷ 5 ∷ [])
    ∷ lends (header_words (chunks [])) (header_words (holding Msg 0x2b [] none)) 26 (replicate 5 9)
    ∷ lends (set (header_words (counting Msg 0 5 no_counts false 0)) kind_at 4) (header_words (chunks [])) 20 (replicate 5 9)
    ∷ lends (header_words (counting Msg 0 5 no_counts false 0)) (set (header_words (chunks [])) reply_present_at 2) 20 (replicate 5 9)
    ∷ reply_gives c3 26 32 28 20
    ∷ []

-- A piece that is taken in so many goes.
abbrev pub took : ℕ → PieceAnswer
took goes = record { number = 0; goes = goes }

-- The words behind a start over a frame and a buffer of so many bytes.
abbrev pub started : List ℕ → ℕ → List ℕ
started frame room = (start_answer (read_frame frame) room).state

-- MSG with 12 inline bytes, and NOMSG, each with these read entries, in a buffer of so many bytes, and pieces of these sizes: so many goes each.
abbrev pub msg_takes : List (ℕ × ℕ) → ℕ → List ℕ → List ℕ → Example
msg_takes entries room sizes numbers-of-goes = pieces_take (started (call 0 entries twelve) room) room sizes (map took numbers-of-goes)

abbrev pub nomsg_takes : List (ℕ × ℕ) → ℕ → List ℕ → List ℕ → Example
nomsg_takes entries room sizes numbers-of-goes = pieces_take (started (call 1 entries []) room) room sizes (map took numbers-of-goes)

-- One segment at position 0 and 15 other chunks, each with base bytes before and behind it.
abbrev pub parted15 : List (ℕ × ℕ)
parted15 = (0, 64) ∷ map (λ i. (4 + 8 * i, 4)) (from 0 15)

-- What order 2 says: no gap where a chunk is empty, one where it is not; runs of base and chunks; segments that touch; pieces that begin and end inside a run; the bound; empty and refused pieces; memory that goes on where the segment before it ends. But for the last two all segments have one handle and one offset.
abbrev pub goes_cases : List Example
goes_cases =
    nomsg_takes ((0, 12) ∷ (8, 0) ∷ []) 12 (12 ∷ []) (1 ∷ [])
    ∷ nomsg_takes ((0, 12) ∷ (8, 0) ∷ (8, 0) ∷ []) 12 (12 ∷ []) (1 ∷ [])
    ∷ nomsg_takes ((0, 12) ∷ (8, 0) ∷ (8, 5) ∷ []) 20 (12 ∷ 5 ∷ []) (2 ∷ 1 ∷ [])
    ∷ nomsg_takes ((0, 12) ∷ (8, 5) ∷ (8, 0) ∷ []) 20 (12 ∷ 5 ∷ []) (2 ∷ 1 ∷ [])
    ∷ nomsg_takes ((0, 12) ∷ (4, 4) ∷ (8, 4) ∷ []) 20 (12 ∷ 8 ∷ []) (2 ∷ 2 ∷ [])
    ∷ nomsg_takes ((0, 12) ∷ (4, 3) ∷ (8, 0) ∷ (8, 4) ∷ []) 20 (19 ∷ []) (4 ∷ [])
    ∷ nomsg_takes ((0, 12) ∷ (4, 4) ∷ (8, 0) ∷ (12, 4) ∷ []) 20 (20 ∷ []) (5 ∷ [])
    ∷ nomsg_takes ((0, 8) ∷ (0, 4) ∷ (8, 5) ∷ []) 20 (17 ∷ []) (3 ∷ [])
    ∷ nomsg_takes ((0, 12) ∷ (8, 5) ∷ []) 20 (17 ∷ []) (3 ∷ [])
    ∷ nomsg_takes ((0, 4) ∷ (0, 8) ∷ (8, 5) ∷ []) 20 (17 ∷ []) (4 ∷ [])
    ∷ nomsg_takes ((0, 4) ∷ (0, 0) ∷ (0, 8) ∷ (8, 5) ∷ []) 20 (17 ∷ []) (4 ∷ [])
    ∷ nomsg_takes ((0, 12) ∷ (8, 5) ∷ []) 20 (4 ∷ 6 ∷ 0 ∷ 7 ∷ []) (1 ∷ 2 ∷ 0 ∷ 2 ∷ [])
    ∷ nomsg_takes ((0, 0) ∷ (0, 12) ∷ (0, 0) ∷ (8, 5) ∷ []) 20 (12 ∷ 2 ∷ 3 ∷ []) (2 ∷ 1 ∷ 1 ∷ [])
    ∷ nomsg_takes ((0, 12) ∷ (12, 4) ∷ []) 16 (16 ∷ []) (2 ∷ [])
    ∷ msg_takes ((8, 4) ∷ (12, 4) ∷ []) 20 (8 ∷ []) (2 ∷ [])
    ∷ msg_takes ((8, 5) ∷ (16, 4) ∷ []) 24 (9 ∷ []) (2 ∷ [])
    ∷ msg_takes ((8, 2) ∷ (8, 3) ∷ []) 20 (5 ∷ []) (2 ∷ [])
    ∷ msg_takes ((8, 2) ∷ (8, 0) ∷ (8, 3) ∷ []) 20 (1 ∷ 2 ∷ 2 ∷ []) (1 ∷ 2 ∷ 1 ∷ [])
    ∷ msg_takes (replicate 16 (8, 1)) 28 (16 ∷ []) (16 ∷ [])
    ∷ msg_takes (replicate 16 (8, 0)) 12 (0 ∷ []) (0 ∷ [])
    ∷ nomsg_takes parted15 124 (124 ∷ []) (31 ∷ [])
    ∷ nomsg_takes parted15 124 (63 ∷ 0 ∷ 61 ∷ []) (16 ∷ 0 ∷ 16 ∷ [])
    ∷ pieces_take (started (call 1 ((0, 12) ∷ (8, 5) ∷ []) []) 20) 20 (18 ∷ 17 ∷ 1 ∷ 0 ∷ []) (record { number = 18; goes = 0 } ∷ took 3 ∷ record { number = 18; goes = 0 } ∷ took 0 ∷ [])
    ∷ pieces_take (started (call 1 ((0, 12) ∷ (8, 5) ∷ []) []) 20) 24 (17 ∷ []) (record { number = 17; goes = 0 } ∷ [])
    ∷ pieces_take (started (call 1 ((0, 12) ∷ (8, 5) ∷ []) []) 20) 24 (0 ∷ []) (record { number = 17; goes = 0 } ∷ [])
    ∷ pieces_take (replicate 103 0 ++ (2 ∷ [])) 0 (0 ∷ []) (record { number = 17; goes = 0 } ∷ [])
    ∷ pieces_take (started (words (0x2a ∷ 1 ∷ 0x20 ∷ 0 ∷ 1 ∷ 4 ∷ 7 ∷ 3 ∷ 0 ∷ 9 ∷ 1 ∷ 4 ∷ 7 ∷ 5 ∷ 0 ∷ 12 ∷ 0 ∷ 0 ∷ 0 ∷ []) ++ four) 12) 12 (8 ∷ []) (took 2 ∷ [])
    ∷ pieces_take (started (words (0x2a ∷ 1 ∷ 0x20 ∷ 1 ∷ 1 ∷ 0 ∷ 7 ∷ 4 ∷ 0 ∷ 9 ∷ 1 ∷ 0 ∷ 7 ∷ 8 ∷ 0 ∷ 13 ∷ 0 ∷ 0 ∷ 0 ∷ [])) 12) 12 (12 ∷ []) (took 2 ∷ [])
    ∷ []

-- The words of a read list with these entries of position, handle and length.
unfoldable pub handle_words : List (ℕ × ℕ × ℕ) → List ℕ
handle_words [] = 0 ∷ []
handle_words (e ∷ es) = 1 ∷ e.0 ∷ e.1 ∷ e.2 ∷ 0 ∷ 9 ∷ handle_words es

-- A frame with this procedure, read entries of these positions, handles and lengths, and these inline bytes.
abbrev pub handle_call : ℕ → List (ℕ × ℕ × ℕ) → List ℕ → List ℕ
handle_call procedure entries inline = words (0x2a ∷ 1 ∷ 0x20 ∷ procedure ∷ []) ++ words (handle_words entries) ++ words (0 ∷ 0 ∷ []) ++ inline

-- Where the position, the handle and the length of place i stand in a state's words.
abbrev pub place_words : ℕ → ℕ × ℕ × ℕ → List (ℕ × ℕ)
place_words i e = (i * 6, e.0) ∷ (i * 6 + 2, e.1) ∷ (i * 6 + 3, e.2) ∷ []

-- The first places of a state's list, from place i on.
unfoldable pub list_words : ℕ → List (ℕ × ℕ × ℕ) → List (ℕ × ℕ)
list_words i [] = []
list_words i (e ∷ es) = place_words i e ++ list_words (i + 1) es

-- A start over a frame with these entries, 12 bytes inline and a buffer of so many bytes leaves this list, its length, and a place behind it that is zero.
abbrev pub lists : List (ℕ × ℕ × ℕ) → ℕ → List (ℕ × ℕ × ℕ) → Example
lists entries room list = words_of_start (handle_call 0 entries twelve) room (list_words 0 list ++ place_words (length list) (0, 0, 0) ++ ((102, length list) ∷ []))

-- The state of C7's call, but with these two positions.
abbrev pub positioned : ℕ → ℕ → List ℕ
positioned p q = set (set (started (call 0 ((8, 5) ∷ (16, 4) ∷ []) twelve) 24) 0 p) 6 q

-- 16 entries of no bytes, their positions falling from 64 to 4, with handles from 0 on; and the same, sorted.
abbrev pub falling16 : List (ℕ × ℕ × ℕ)
falling16 = map (λ i. (64 - 4 * i, i, 0)) (from 0 16)

abbrev pub rising16 : List (ℕ × ℕ × ℕ)
rising16 = map (λ i. (4 + 4 * i, 15 - i, 0)) (from 0 16)

-- What order 3 says: reading and writing in wire order; 9 and 7 by entries; lists that a start leaves; messages whose pieces come in sorted order; numbers of a start; states, with what else 17 is given for, in the table's order; goes; 8 as an argument of the error reply.
abbrev pub order_cases : List Example
order_cases =
    frame_reads (call 0 ((8, 4) ∷ (4, 4) ∷ []) four) 0 four
    ∷ header_takes (reading Msg (8 ∷ 4 ∷ 8 ∷ 0 ∷ [])) 124
    ∷ header_writes (reading Msg (8 ∷ 4 ∷ [])) (words (0 ∷ 1 ∷ 0 ∷ 0 ∷ 1 ∷ 8 ∷ 0 ∷ 0 ∷ 0 ∷ 0 ∷ 1 ∷ 4 ∷ 0 ∷ 0 ∷ 0 ∷ 0 ∷ 0 ∷ 0 ∷ 0 ∷ []))
    ∷ frame_reads (call 0 ((8, 4) ∷ (6, 4) ∷ (4, 4) ∷ []) []) 9 []
    ∷ frame_reads (call 0 ((6, 0) ∷ replicate 16 (4, 0)) []) 9 []
    ∷ frame_reads (call 0 (replicate 16 (4, 0) ++ ((6, 0) ∷ [])) []) 7 []
    ∷ header_gives (reading Msg (8 ∷ 4 ∷ 6 ∷ [])) 0 9
    ∷ lists ((8, 1, 4) ∷ (4, 2, 4) ∷ []) 20 ((4, 2, 4) ∷ (8, 1, 4) ∷ [])
    ∷ lists ((8, 1, 2) ∷ (4, 2, 4) ∷ (8, 3, 3) ∷ []) 24 ((4, 2, 4) ∷ (8, 1, 2) ∷ (8, 3, 3) ∷ [])
    ∷ lists ((8, 3, 1) ∷ (8, 1, 1) ∷ (8, 2, 1) ∷ []) 16 ((8, 3, 1) ∷ (8, 1, 1) ∷ (8, 2, 1) ∷ [])
    ∷ lists ((8, 3, 1) ∷ (8, 1, 1) ∷ (4, 4, 0) ∷ (8, 2, 1) ∷ (4, 0, 0) ∷ []) 16 ((4, 4, 0) ∷ (4, 0, 0) ∷ (8, 3, 1) ∷ (8, 1, 1) ∷ (8, 2, 1) ∷ [])
    ∷ words_of_start (handle_call 1 ((8, 1, 5) ∷ (0, 2, 4) ∷ (4, 3, 0) ∷ (0, 4, 8) ∷ []) []) 20 (list_words 0 ((0, 2, 4) ∷ (0, 4, 8) ∷ (4, 3, 0) ∷ (8, 1, 5) ∷ (0, 0, 0) ∷ []))
    ∷ words_of_start (handle_call 0 falling16 (replicate 64 1)) 64 (list_words 0 rising16)
    ∷ words_of_start (handle_call 0 rising16 (replicate 64 1)) 64 (list_words 0 rising16)
    ∷ assembles (call 0 ((16, 4) ∷ (8, 5) ∷ []) twelve) 24 (piece five ∷ piece four ∷ asking ∷ []) (gives 0 [] ∷ gives 0 [] ∷ gives 0 c7_at16 ∷ [])
    ∷ assembles (call 0 ((20, 4) ∷ (8, 5) ∷ []) twelve) 24 (piece (five ++ four) ∷ asking ∷ []) (gives 0 [] ∷ gives 0 c7_at20 ∷ [])
    ∷ assembles (call 1 ((8, 5) ∷ (0, 12) ∷ []) []) 20 (piece twelve ∷ asking ∷ piece five ∷ asking ∷ []) (gives 0 [] ∷ gives 19 [] ∷ gives 0 [] ∷ gives 0 c6_message ∷ [])
    ∷ assembles (call 0 ((8, 2) ∷ (16, 4) ∷ (8, 3) ∷ []) twelve) 24 (piece (five ++ four) ∷ asking ∷ []) (gives 0 [] ∷ gives 0 c7_at16 ∷ [])
    ∷ starts (call 0 ((12, 4) ∷ (8, 5) ∷ []) twelve) 24 14
    ∷ starts (call 0 ((24, 4) ∷ (8, 5) ∷ []) twelve) 24 14
    ∷ starts (call 0 ((8, 5) ∷ (0, 4) ∷ []) twelve) 24 12
    ∷ starts (call 1 ((8, 5) ∷ (4, 4) ∷ []) []) 24 12
    ∷ starts (call 1 ((8, 5) ∷ (0, 10) ∷ []) []) 24 13
    ∷ starts (call 0 ((20, 4) ∷ (8, 5) ∷ []) twelve) 23 16
    ∷ state_gives (positioned 8 16) 24 0 19
    ∷ state_gives (positioned 8 8) 24 0 19
    ∷ state_gives (positioned 16 8) 24 17 17
    ∷ state_gives (positioned 8 18) 24 17 17
    ∷ state_gives (positioned 6 16) 24 17 17
    ∷ state_gives (set (started (call 0 ((8, 5) ∷ []) twelve) 20) 6 6) 20 0 19
    ∷ state_gives (set (started (call 1 (replicate 16 (0, 0)) []) 0) 102 17) 0 17 17
    ∷ state_gives (set (positioned 0 12) 3 0) 24 17 17
    ∷ state_gives (set (replicate 104 0) 103 1) 0 17 17
    ∷ state_gives (set (set (positioned 8 16) 96 14) 98 28) 28 17 17
    ∷ state_gives (positioned 8 12) 24 17 17
    ∷ state_gives (positioned 8 24) 24 17 17
    ∷ state_gives (set (set (positioned 8 16) 96 1048576) 98 2000000) 2000000 17 17
    ∷ state_gives (set (positioned 8 16) 98 23) 23 17 17
    ∷ state_gives (set (started (call 1 ((0, 12) ∷ (8, 5) ∷ []) []) 20) 96 8) 20 17 17
    ∷ state_gives (set (positioned 8 16) 100 10) 24 17 17
    ∷ state_gives (positioned 8 16) 23 17 17
    ∷ state_gives (positioned 8 16) 25 17 17
    ∷ nomsg_takes ((8, 5) ∷ (0, 12) ∷ []) 20 (17 ∷ []) (3 ∷ [])
    ∷ msg_takes ((8, 2) ∷ (4, 4) ∷ (8, 3) ∷ []) 24 (9 ∷ []) (3 ∷ [])
    ∷ replied c2 8 32 (words (0x2a ∷ 1 ∷ 0x20 ∷ 4 ∷ 2 ∷ []))
    ∷ []

-- Order 4. C2 with another version.
abbrev pub of_version : ℕ → List ℕ
of_version version = words (0x2a ∷ version ∷ 0x20 ∷ 0 ∷ 0 ∷ 0 ∷ 0 ∷ [])

-- A frame of 16 bytes, its xid 01 to 04, its version 05 to 08.
abbrev pub fixed_alone : List ℕ
fixed_alone = 1 ∷ 2 ∷ 3 ∷ 4 ∷ 5 ∷ 6 ∷ 7 ∷ 8 ∷ 0 ∷ 0 ∷ 0 ∷ 9 ∷ 0 ∷ 0 ∷ 0 ∷ 0 ∷ []

-- What is read from a reply to C2's xid and credit that names this error.
abbrev pub named_error : ErrorKind → ReadAnswer
named_error e = record { header = header_of (record { kind = Error e; xid = 0x2a; credit = 0x20; reads = []; writes = []; reply = none }); number = 0 }

-- What order 4 says: versions echoed, byte by byte; 2 with a frame of version 1; chunk replies to frames of another version; frames that get no reply; then what reading a reply gives, and a reply that gets none itself; then each procedure but 4, grants at both ends, 21 as an argument; and 20 before all else, 16 after it.
abbrev pub echo_cases : List Example
echo_cases =
    replied c2 2 32 (words (0x2a ∷ 1 ∷ 0x20 ∷ 4 ∷ 1 ∷ 1 ∷ 1 ∷ []))
    ∷ replied (of_version 0) 2 32 (words (0x2a ∷ 0 ∷ 0x20 ∷ 4 ∷ 1 ∷ 1 ∷ 1 ∷ []))
    ∷ replied (of_version 4294967295) 2 32 (words (0x2a ∷ 4294967295 ∷ 0x20 ∷ 4 ∷ 1 ∷ 1 ∷ 1 ∷ []))
    ∷ replied fixed_alone 2 32 (1 ∷ 2 ∷ 3 ∷ 4 ∷ 5 ∷ 6 ∷ 7 ∷ 8 ∷ 0 ∷ 0 ∷ 0 ∷ 9 ∷ 0 ∷ 0 ∷ 0 ∷ 4 ∷ 0 ∷ 0 ∷ 0 ∷ 1 ∷ 0 ∷ 0 ∷ 0 ∷ 1 ∷ 0 ∷ 0 ∷ 0 ∷ 1 ∷ [])
    ∷ replied fixed_alone 5 32 (1 ∷ 2 ∷ 3 ∷ 4 ∷ 0 ∷ 0 ∷ 0 ∷ 1 ∷ 0 ∷ 0 ∷ 0 ∷ 9 ∷ 0 ∷ 0 ∷ 0 ∷ 4 ∷ 0 ∷ 0 ∷ 0 ∷ 2 ∷ [])
    ∷ replied (of_version 7) 2 32 (words (0x2a ∷ 7 ∷ 0x20 ∷ 4 ∷ 1 ∷ 1 ∷ 1 ∷ []))
    ∷ replied (of_version 7) 5 32 (words (0x2a ∷ 1 ∷ 0x20 ∷ 4 ∷ 2 ∷ []))
    ∷ replied (of_version 7) 15 32 (words (0x2a ∷ 1 ∷ 0x20 ∷ 4 ∷ 2 ∷ []))
    ∷ replied (of_version 7) 4 32 []
    ∷ replied (words (0x2a ∷ 2 ∷ 0x20 ∷ 4 ∷ [])) 2 32 []
    ∷ replied (take 15 c3) 2 32 []
    ∷ reply_reads c2 2 32 (named_error (error.Version 1 1))
    ∷ reply_reads c3 2 32 (record { header = header_of nothing; number = 2 })
    ∷ reply_reads (of_version 0) 2 32 (record { header = header_of nothing; number = 2 })
    ∷ reply_reads (of_version 16777216) 2 32 (record { header = header_of nothing; number = 2 })
    ∷ reply_reads (of_version 7) 5 32 (named_error error.Chunk)
    ∷ reply_reads c2 5 32 (named_error error.Chunk)
    ∷ frame_reads (words (0x2a ∷ 2 ∷ 0x20 ∷ 4 ∷ 1 ∷ 1 ∷ 1 ∷ [])) 2 []
    ∷ replied (words (0x2a ∷ 2 ∷ 0x20 ∷ 4 ∷ 1 ∷ 1 ∷ 1 ∷ [])) 2 32 []
    ∷ replied (words (0x2a ∷ 1 ∷ 0x20 ∷ 5 ∷ [])) 3 32 (words (0x2a ∷ 1 ∷ 0x20 ∷ 4 ∷ 2 ∷ []))
    ∷ replied (words (0x2a ∷ 2 ∷ 0x20 ∷ 1 ∷ [])) 2 32 (words (0x2a ∷ 2 ∷ 0x20 ∷ 4 ∷ 1 ∷ 1 ∷ 1 ∷ []))
    ∷ replied (words (0x2a ∷ 2 ∷ 0x20 ∷ 3 ∷ [])) 2 32 (words (0x2a ∷ 2 ∷ 0x20 ∷ 4 ∷ 1 ∷ 1 ∷ 1 ∷ []))
    ∷ replied (words (0x2a ∷ 2 ∷ 0x20 ∷ 0x104 ∷ [])) 2 32 (words (0x2a ∷ 2 ∷ 0x20 ∷ 4 ∷ 1 ∷ 1 ∷ 1 ∷ []))
    ∷ replied (words (0x2a ∷ 2 ∷ 0 ∷ 0 ∷ [])) 2 32 (words (0x2a ∷ 2 ∷ 1 ∷ 4 ∷ 1 ∷ 1 ∷ 1 ∷ []))
    ∷ replied (words (0x2a ∷ 2 ∷ 100 ∷ 0 ∷ [])) 5 40 (words (0x2a ∷ 1 ∷ 40 ∷ 4 ∷ 2 ∷ []))
    ∷ replied c3 2 1 (words (0x2a ∷ 2 ∷ 1 ∷ 4 ∷ 1 ∷ 1 ∷ 1 ∷ []))
    ∷ replied c3 21 32 []
    ∷ reply_gives c3 4 0 28 20
    ∷ reply_gives (take 15 c3) 2 0 28 20
    ∷ reply_gives (take 15 c3) 22 32 28 20
    ∷ reply_gives (words (0x2a ∷ 2 ∷ 0x20 ∷ 4 ∷ [])) 22 32 28 20
    ∷ reply_gives c3 5 32 19 16
    ∷ []

-- A ledger whose first places hold these and whose others hold 9: so many are in flight, the grant and the last xid.
abbrev pub ledger_with : List ℕ → ℕ → ℕ → ℕ → Ledger
ledger_with xids count grant last = record { xids = xids ++ replicate (32 - length xids) 9; count = count; grant = grant; last = last }

-- The same with zeros in the others, and as many in flight as stand there.
abbrev pub ledger_of_calls : List ℕ → ℕ → ℕ → Ledger
ledger_of_calls xids grant last = record { xids = xids ++ replicate (32 - length xids) 0; count = length xids; grant = grant; last = last }

-- What order 5 says: opening; sends up to the grant and the room, behind the largest xid, past xids in flight, with the last one given in flight or not; what is ignored behind those in flight, and zero or kept there; the three grounds for 17, first; replies that are taken, at the front, within, at the end, with a lower grant and one above 32; 25 before 24; then histories.
abbrev pub ledger_cases : List Example
ledger_cases =
    ledger_opens 41 (ledger_of_calls [] 1 41)
    ∷ ledger_opens 4294967295 (ledger_of_calls [] 1 4294967295)
    ∷ ledger_sends (ledger_of_calls [] 1 41) 0 42 0 (ledger_of_calls (42 ∷ []) 1 42)
    ∷ ledger_sends (ledger_of_calls (42 ∷ []) 1 42) 23 0 0 (ledger_of_calls (42 ∷ []) 1 42)
    ∷ ledger_sends (ledger_of_calls (42 ∷ []) 2 42) 0 43 0 (ledger_of_calls (42 ∷ 43 ∷ []) 2 43)
    ∷ ledger_sends (ledger_of_calls (from 1 31) 32 31) 0 32 0 (ledger_of_calls (from 1 32) 32 32)
    ∷ ledger_sends (ledger_of_calls (from 1 32) 40 32) 23 0 0 (ledger_of_calls (from 1 32) 40 32)
    ∷ ledger_sends (ledger_of_calls (from 1 32) 33 32) 23 0 0 (ledger_of_calls (from 1 32) 33 32)
    ∷ ledger_sends (ledger_of_calls (1 ∷ 2 ∷ 3 ∷ []) 1 3) 23 0 0 (ledger_of_calls (1 ∷ 2 ∷ 3 ∷ []) 1 3)
    ∷ ledger_sends (ledger_of_calls [] 1 4294967294) 0 4294967295 0 (ledger_of_calls (4294967295 ∷ []) 1 4294967295)
    ∷ ledger_sends (ledger_of_calls [] 1 4294967295) 0 0 0 (ledger_of_calls (0 ∷ []) 1 0)
    ∷ ledger_sends (ledger_of_calls [] 1 0) 0 1 0 (ledger_of_calls (1 ∷ []) 1 1)
    ∷ ledger_sends (ledger_of_calls (0 ∷ 4294967295 ∷ []) 3 4294967294) 0 1 2 (ledger_of_calls (0 ∷ 4294967295 ∷ 1 ∷ []) 3 1)
    ∷ ledger_sends (ledger_of_calls (5 ∷ []) 2 5) 0 6 0 (ledger_of_calls (5 ∷ 6 ∷ []) 2 6)
    ∷ ledger_sends (ledger_of_calls (9 ∷ []) 2 5) 0 6 0 (ledger_of_calls (9 ∷ 6 ∷ []) 2 6)
    ∷ ledger_sends (ledger_of_calls (6 ∷ 8 ∷ []) 3 5) 0 7 1 (ledger_of_calls (6 ∷ 8 ∷ 7 ∷ []) 3 7)
    ∷ ledger_sends (ledger_of_calls (7 ∷ 6 ∷ []) 3 5) 0 8 2 (ledger_of_calls (7 ∷ 6 ∷ 8 ∷ []) 3 8)
    ∷ ledger_sends (ledger_of_calls (from 6 31) 32 5) 0 37 31 (ledger_of_calls (from 6 31 ++ 37 ∷ []) 32 37)
    ∷ ledger_sends (ledger_with (5 ∷ 6 ∷ []) 2 3 6) 0 7 0 (ledger_of_calls (5 ∷ 6 ∷ 7 ∷ []) 3 7)
    ∷ ledger_sends (ledger_with (from 20 16) 16 17 35) 0 36 0 (ledger_of_calls (from 20 17) 17 36)
    ∷ ledger_sends (ledger_with [] 0 1 8) 0 9 0 (ledger_of_calls (9 ∷ []) 1 9)
    ∷ ledger_sends (ledger_with (5 ∷ 6 ∷ 7 ∷ []) 2 3 6) 0 7 0 (ledger_of_calls (5 ∷ 6 ∷ 7 ∷ []) 3 7)
    ∷ ledger_sends (ledger_with (5 ∷ 6 ∷ []) 2 2 6) 23 0 0 (ledger_with (5 ∷ 6 ∷ []) 2 2 6)
    ∷ ledger_sends (ledger_with (7 ∷ 7 ∷ []) 1 2 7) 0 8 0 (ledger_of_calls (7 ∷ 8 ∷ []) 2 8)
    ∷ ledger_sends (ledger_with (7 ∷ 7 ∷ []) 2 3 7) 17 0 0 (ledger_with (7 ∷ 7 ∷ []) 2 3 7)
    ∷ ledger_sends (ledger_of_calls (from 1 31 ++ 1 ∷ []) 40 31) 17 0 0 (ledger_of_calls (from 1 31 ++ 1 ∷ []) 40 31)
    ∷ ledger_sends (ledger_of_calls (from 1 31 ++ 31 ∷ []) 40 31) 17 0 0 (ledger_of_calls (from 1 31 ++ 31 ∷ []) 40 31)
    ∷ ledger_sends (ledger_with (from 1 15 ++ 1 ∷ []) 16 17 15) 17 0 0 (ledger_with (from 1 15 ++ 1 ∷ []) 16 17 15)
    ∷ ledger_sends (ledger_with (0 ∷ 0 ∷ []) 2 3 0) 17 0 0 (ledger_with (0 ∷ 0 ∷ []) 2 3 0)
    ∷ ledger_sends (ledger_with [] 0 0 5) 17 0 0 (ledger_with [] 0 0 5)
    ∷ ledger_sends (ledger_with (from 1 32) 33 40 32) 17 0 0 (ledger_with (from 1 32) 33 40 32)
    ∷ ledger_sends (ledger_with [] 4294967295 40 32) 17 0 0 (ledger_with [] 4294967295 40 32)
    ∷ ledger_replies (ledger_of_calls (5 ∷ 6 ∷ 7 ∷ 8 ∷ []) 4 8) 6 4 0 (ledger_of_calls (5 ∷ 7 ∷ 8 ∷ []) 4 8)
    ∷ ledger_replies (ledger_of_calls (5 ∷ 6 ∷ 7 ∷ 8 ∷ []) 4 8) 5 4 0 (ledger_of_calls (6 ∷ 7 ∷ 8 ∷ []) 4 8)
    ∷ ledger_replies (ledger_of_calls (5 ∷ 6 ∷ 7 ∷ 8 ∷ []) 4 8) 8 4 0 (ledger_of_calls (5 ∷ 6 ∷ 7 ∷ []) 4 8)
    ∷ ledger_replies (ledger_of_calls (from 1 32) 32 32) 1 32 0 (ledger_of_calls (from 2 31) 32 32)
    ∷ ledger_replies (ledger_of_calls (1 ∷ 2 ∷ 3 ∷ []) 3 3) 2 1 0 (ledger_of_calls (1 ∷ 3 ∷ []) 1 3)
    ∷ ledger_replies (ledger_of_calls (1 ∷ 2 ∷ 3 ∷ []) 1 3) 3 1 0 (ledger_of_calls (1 ∷ 2 ∷ []) 1 3)
    ∷ ledger_replies (ledger_of_calls (7 ∷ []) 1 7) 7 100 0 (ledger_of_calls [] 100 7)
    ∷ ledger_replies (ledger_of_calls (7 ∷ []) 1 7) 7 4294967295 0 (ledger_of_calls [] 4294967295 7)
    ∷ ledger_replies (ledger_with (5 ∷ 6 ∷ 7 ∷ []) 3 3 7) 6 3 0 (ledger_of_calls (5 ∷ 7 ∷ []) 3 7)
    ∷ ledger_replies (ledger_with (from 20 17) 17 17 36) 28 65536 0 (ledger_of_calls (from 20 8 ++ from 29 8) 65536 36)
    ∷ ledger_replies (ledger_with (9 ∷ []) 1 2 9) 9 2 0 (ledger_of_calls [] 2 9)
    ∷ ledger_replies (ledger_of_calls (from 1 32) 32 32) 0 1 24 (ledger_of_calls (from 1 32) 32 32)
    ∷ ledger_replies (ledger_of_calls (5 ∷ 6 ∷ []) 2 7) 7 2 24 (ledger_of_calls (5 ∷ 6 ∷ []) 2 7)
    ∷ ledger_replies (ledger_with (5 ∷ 6 ∷ []) 1 3 7) 6 3 24 (ledger_with (5 ∷ 6 ∷ []) 1 3 7)
    ∷ ledger_replies (ledger_of_calls [] 1 41) 0 3 24 (ledger_of_calls [] 1 41)
    ∷ ledger_replies (ledger_of_calls (0 ∷ []) 1 0) 0 3 0 (ledger_of_calls [] 3 0)
    ∷ ledger_replies (ledger_with (5 ∷ []) 1 3 5) 7 0 25 (ledger_with (5 ∷ []) 1 3 5)
    ∷ ledger_replies (ledger_with (5 ∷ []) 1 3 5) 5 0 25 (ledger_with (5 ∷ []) 1 3 5)
    ∷ ledger_replies (ledger_with (5 ∷ []) 1 0 5) 7 0 17 (ledger_with (5 ∷ []) 1 0 5)
    ∷ ledger_replies (ledger_with (5 ∷ []) 1 0 5) 5 3 17 (ledger_with (5 ∷ []) 1 0 5)
    ∷ ledger_replies (ledger_with (5 ∷ 5 ∷ []) 2 3 5) 5 3 17 (ledger_with (5 ∷ 5 ∷ []) 2 3 5)
    ∷ ledger_replies (ledger_with (from 1 32) 33 40 32) 1 3 17 (ledger_with (from 1 32) 33 40 32)
    ∷ ledger_runs 41 (sending ∷ sending ∷ replying 42 3 ∷ sending ∷ sending ∷ sending ∷ sending ∷ replying 44 0 ∷ replying 44 1 ∷ replying 44 1 ∷ sending ∷ replying 43 9 ∷ sending ∷ [])
    (send_got (record { number = 0; xid = 42; passed = 0 }) ∷ send_got (record { number = 23; xid = 0; passed = 0 }) ∷ reply_got 42 3 0 ∷ send_got (record { number = 0; xid = 43; passed = 0 }) ∷ send_got (record { number = 0; xid = 44; passed = 0 }) ∷ send_got (record { number = 0; xid = 45; passed = 0 })
    ∷ send_got (record { number = 23; xid = 0; passed = 0 }) ∷ reply_got 44 0 25 ∷ reply_got 44 1 0 ∷ reply_got 44 1 24 ∷ send_got (record { number = 23; xid = 0; passed = 0 }) ∷ reply_got 43 9 0 ∷ send_got (record { number = 0; xid = 46; passed = 0 }) ∷ [])
    (ledger_of_calls (45 ∷ 46 ∷ []) 9 46)
    ∷ ledger_runs 4294967293 (sending ∷ replying 4294967294 40 ∷ sending ∷ sending ∷ sending ∷ replying 0 40 ∷ [])
    (send_got (record { number = 0; xid = 4294967294; passed = 0 }) ∷ reply_got 4294967294 40 0 ∷ send_got (record { number = 0; xid = 4294967295; passed = 0 }) ∷ send_got (record { number = 0; xid = 0; passed = 0 }) ∷ send_got (record { number = 0; xid = 1; passed = 0 }) ∷ reply_got 0 40 0 ∷ [])
    (ledger_of_calls (4294967295 ∷ 1 ∷ []) 40 1)
    ∷ []

-- What order 6 says: runs behind the last xid, up to 31, in any order of sending; across the largest xid; broken, of which the first stretch counts; behind the last and not with it; none right behind it; xids that agree in their low bits alone; not from the places behind those in flight; and refused sends.
abbrev pub passed_cases : List Example
passed_cases =
    ledger_sends (ledger_of_calls [] 1 5) 0 6 0 (ledger_of_calls (6 ∷ []) 1 6)
    ∷ ledger_sends (ledger_of_calls (6 ∷ []) 2 5) 0 7 1 (ledger_of_calls (6 ∷ 7 ∷ []) 2 7)
    ∷ ledger_sends (ledger_of_calls (8 ∷ 6 ∷ 7 ∷ []) 4 5) 0 9 3 (ledger_of_calls (8 ∷ 6 ∷ 7 ∷ 9 ∷ []) 4 9)
    ∷ ledger_sends (ledger_of_calls (from 6 16) 17 5) 0 22 16 (ledger_of_calls (from 6 17) 17 22)
    ∷ ledger_sends (ledger_of_calls (from 6 30 ++ 99 ∷ []) 32 5) 0 36 30 (ledger_of_calls (from 6 30 ++ 99 ∷ 36 ∷ []) 32 36)
    ∷ ledger_sends (ledger_of_calls (from 21 16 ++ from 6 15) 33 5) 0 37 31 (ledger_of_calls (from 21 16 ++ from 6 15 ++ 37 ∷ []) 33 37)
    ∷ ledger_sends (ledger_of_calls (4294967295 ∷ []) 2 4294967294) 0 0 1 (ledger_of_calls (4294967295 ∷ 0 ∷ []) 2 0)
    ∷ ledger_sends (ledger_of_calls (4294967295 ∷ 0 ∷ 1 ∷ []) 4 4294967294) 0 2 3 (ledger_of_calls (4294967295 ∷ 0 ∷ 1 ∷ 2 ∷ []) 4 2)
    ∷ ledger_sends (ledger_of_calls (0 ∷ 1 ∷ []) 3 4294967295) 0 2 2 (ledger_of_calls (0 ∷ 1 ∷ 2 ∷ []) 3 2)
    ∷ ledger_sends (ledger_of_calls (4294967295 ∷ 1 ∷ []) 3 4294967294) 0 0 1 (ledger_of_calls (4294967295 ∷ 1 ∷ 0 ∷ []) 3 0)
    ∷ ledger_sends (ledger_of_calls (from 4294967280 16 ++ from 0 15) 32 4294967279) 0 15 31 (ledger_of_calls (from 4294967280 16 ++ from 0 15 ++ 15 ∷ []) 32 15)
    ∷ ledger_sends (ledger_of_calls (6 ∷ 8 ∷ 9 ∷ []) 4 5) 0 7 1 (ledger_of_calls (6 ∷ 8 ∷ 9 ∷ 7 ∷ []) 4 7)
    ∷ ledger_sends (ledger_of_calls (6 ∷ 8 ∷ 9 ∷ 7 ∷ []) 5 7) 0 10 2 (ledger_of_calls (6 ∷ 8 ∷ 9 ∷ 7 ∷ 10 ∷ []) 5 10)
    ∷ ledger_sends (ledger_of_calls (7 ∷ 8 ∷ []) 3 5) 0 6 0 (ledger_of_calls (7 ∷ 8 ∷ 6 ∷ []) 3 6)
    ∷ ledger_sends (ledger_of_calls (3 ∷ 4 ∷ 5 ∷ []) 4 5) 0 6 0 (ledger_of_calls (3 ∷ 4 ∷ 5 ∷ 6 ∷ []) 4 6)
    ∷ ledger_sends (ledger_of_calls (4 ∷ 5 ∷ 6 ∷ []) 4 5) 0 7 1 (ledger_of_calls (4 ∷ 5 ∷ 6 ∷ 7 ∷ []) 4 7)
    ∷ ledger_sends (ledger_of_calls (262 ∷ 65542 ∷ 2147483654 ∷ []) 4 5) 0 6 0 (ledger_of_calls (262 ∷ 65542 ∷ 2147483654 ∷ 6 ∷ []) 4 6)
    ∷ ledger_sends (ledger_with (6 ∷ 7 ∷ 8 ∷ []) 2 3 5) 0 8 2 (ledger_of_calls (6 ∷ 7 ∷ 8 ∷ []) 3 8)
    ∷ ledger_sends (ledger_with (8 ∷ []) 1 2 7) 0 9 1 (ledger_of_calls (8 ∷ 9 ∷ []) 2 9)
    ∷ ledger_sends (ledger_of_calls (6 ∷ 7 ∷ []) 2 5) 23 0 0 (ledger_of_calls (6 ∷ 7 ∷ []) 2 5)
    ∷ ledger_sends (ledger_of_calls (6 ∷ 7 ∷ []) 1 5) 23 0 0 (ledger_of_calls (6 ∷ 7 ∷ []) 1 5)
    ∷ ledger_sends (ledger_of_calls (from 6 32) 40 5) 23 0 0 (ledger_of_calls (from 6 32) 40 5)
    ∷ ledger_sends (ledger_of_calls (6 ∷ 7 ∷ 6 ∷ []) 4 5) 17 0 0 (ledger_of_calls (6 ∷ 7 ∷ 6 ∷ []) 4 5)
    ∷ ledger_sends (ledger_of_calls (6 ∷ 7 ∷ []) 0 5) 17 0 0 (ledger_of_calls (6 ∷ 7 ∷ []) 0 5)
    ∷ ledger_sends (ledger_with (from 6 32) 33 40 5) 17 0 0 (ledger_with (from 6 32) 33 40 5)
    ∷ []

-- Four write chunks that share the 16 segments.
abbrev pub four_each : List ℕ
four_each = 4 ∷ 4 ∷ 4 ∷ 4 ∷ []

-- What order 7 says: the longest headers, and rooms about their length; one less in each count; one more, which is refused before a length could be; then 12 and 9 before the room; the longest ERROR header; 21 as an argument of the error reply, with room and without, and the numbers about it.
abbrev pub longest_cases : List Example
longest_cases =
    header_gives full 959 16
    ∷ header_gives full 0 16
    ∷ header_takes (counting Nomsg 16 4 (16 ∷ 0 ∷ 0 ∷ 0 ∷ []) true 16) 960
    ∷ header_takes (counting Msg 15 4 four_each true 16) 936
    ∷ header_takes (counting Msg 16 3 (4 ∷ 4 ∷ 8 ∷ 0 ∷ []) true 16) 952
    ∷ header_takes (counting Msg 16 4 (4 ∷ 4 ∷ 4 ∷ 3 ∷ []) true 16) 944
    ∷ header_takes (counting Msg 16 4 four_each true 15) 944
    ∷ header_takes (counting Msg 16 4 four_each false 0) 700
    ∷ header_gives (counting Msg 17 4 four_each true 16) 2000 7
    ∷ header_gives (counting Msg 16 5 four_each true 16) 2000 7
    ∷ header_gives (counting Msg 16 4 (4 ∷ 4 ∷ 4 ∷ 5 ∷ []) true 16) 2000 7
    ∷ header_gives (counting Msg 16 4 four_each true 17) 2000 7
    ∷ header_gives (counting Msg 16 4 four_each false 16) 2000 7
    ∷ header_gives (counting (Error error.Chunk) 16 4 four_each true 16) 2000 12
    ∷ header_gives (reading Msg (replicate 15 4 ++ 6 ∷ [])) 0 9
    ∷ header_takes (reading (Error (error.Version 5 6)) []) 28
    ∷ header_gives (reading (Error (error.Version 5 6)) []) 27 16
    ∷ replied c2 21 1 []
    ∷ replied (take 15 c2) 21 32 []
    ∷ replied (words (0x2a ∷ 1 ∷ 0x20 ∷ 4 ∷ [])) 21 32 []
    ∷ reply_gives c2 21 32 28 0
    ∷ reply_gives c2 21 0 28 20
    ∷ reply_gives c2 20 32 28 0
    ∷ reply_gives c2 22 32 28 20
    ∷ []
