-- No call gives 8 or 21.
-- Assumes nothing.
use Rattle.std.specs.Prelude.{Result, Ok, Err}
use Prim.Native.Nat.{ℕ, zero, suc, ◌+◌, ◌-◌, ◌*◌, ◌%◌}
use mathlib.Core.Path.{◌≡◌, refl}
use mathlib.Core.Bool.{Bool, true, false, cond, not, ◌&&◌, ◌||◌}
use mathlib.Core.List.{List, [], ◌∷◌}
use mathlib.Core.Option.{Option, none, some}
use native.Mathlib.Omega.{arith}
use lib.ListN.{length, drop}
use lib.Dec.{leb, eqb}
use Rattle.wire.specs.Wire.{word_at, word_of, segment_at}
use Rattle.wire.specs.declared.ReadSegment.{ReadSegment}
use Rattle.answers.specs.Answers.{check, room_number}
use Rattle.chunk_lists.specs.Parsed.{Parsed, refused, done, and_then, require, prepend, each}
use Rattle.chunk_lists.specs.Lists.{after_word, marker_word, marker_of, after_marker, optional, is_aligned, read_entry, read_list, segments, counted, write_list, reply_chunk}
use Rattle.chunk_lists.specs.declared.Marker.TheVariants as marker
use Rattle.header.specs.Content.{Content, content_of}
use Rattle.header.specs.declared.Kind.{Kind}
use Rattle.header.specs.declared.Kind.TheVariants.{Msg, Nomsg}
use Rattle.header.specs.declared.Header.{Header}
use Rattle.header.specs.declared.ErrorKind.TheVariants.{Version, Chunk}
use Rattle.header.specs.Limits.{keeps_limits}
use Rattle.header.specs.Bytes.{header_bytes}
use Rattle.reader.specs.Frame.{three_parts, error_content, error_body, nothing_behind, by_procedure, read_frame, read_answer, read_number}
use Rattle.writer.specs.Write.{bare_if_error, entries_number, write_number, write_answer, write_words_answer}
use Rattle.setup.specs.Setup.{is_setup, setup_at, no_setup, read_setup, setup_in_rule, setup_bytes, no_agreement, write_setup_number, write_setup_answer, agreement}
use Rattle.setup.specs.declared.Setup.{Setup}
use Rattle.setup.specs.declared.Agreement.{Agreement}
use Rattle.setup.specs.declared.SetupAnswer.{SetupAnswer}
use Rattle.c_setup.specs.Words.{setup_in, flag_fits, write_setup_words_answer, agree_words_answer}
use Rattle.credit.specs.Credit.{granted, grant_answer}
use Rattle.credit.specs.declared.GrantAnswer.{GrantAnswer}
use Rattle.error_reply.specs.Reply.{error_reply, error_reply_number, error_reply_answer}
use Rattle.layout.specs.Layout.{kind_fits, any_at_zero, other_chunks, stands, message_length, place_number}
use Rattle.layout.specs.declared.Run.{Run}
use Rattle.assembly_state.specs.State.{State}
use Rattle.assembly_start.specs.Start.{base_of, start_number}
use Rattle.assembly.specs.Assembly.{pulled_of, fits_state, piece_number, message_number}
use Rattle.ledger.specs.Ledger.{in_flight, open_answer, is_in, unfit, spent, send_number, send_answer, reply_number}
use Rattle.ledger.specs.declared.Ledger.{Ledger}
use Rattle.returned.specs.Returned.{mismatch, returned_number, returned_answer, returned_words_number}
use Rattle.theorems.specs.Reserved.{NeverGiven}

-- The numbers that are kept.
abbrev is_reserved : ℕ → Bool
is_reserved n = eqb n 8 || eqb n 21

-- Another number than these.
abbrev Other : ℕ → Type 0
Other n = is_reserved n ≡ false

-- A row of checks.
other_check : (holds : Bool) (n next : ℕ) → Other n → Other next → Other (check holds n next)
other_check true n next a b = b
other_check false n next a b = a

-- What reading gives.
abbrev OtherRead : {A : Type 0} → Parsed A → Type 0
OtherRead (refused n) = Other n
OtherRead (done a t) = Unit {0}

other_cond : {A : Type 0} (b : Bool) (p q : Parsed A) → OtherRead p → OtherRead q → OtherRead (cond b p q)
other_cond true p q a b = a
other_cond false p q a b = b

other_require : {A : Type 0} (holds : Bool) (n : ℕ) (p : Parsed A) → Other n → OtherRead p → OtherRead (require holds n p)
other_require holds n p a b = other_cond holds p (refused n) b a

other_then : {A B : Type 0} (p : Parsed A) (f : A → List ℕ → Parsed B) → OtherRead p → ((a : A) (t : List ℕ) → OtherRead (f a t)) → OtherRead (and_then p f)
other_then (refused n) f a b = a
other_then (done x t) f a b = b x t

other_prepend : {A : Type 0} (x : A) (p : Parsed (List A)) → OtherRead p → OtherRead (prepend x p)
other_prepend x p a = other_then p (λ xs t. done (x ∷ xs) t) a (λ xs t. tt)

five : Other 5
five = refl

other_word : {A : Type 0} (s : List ℕ) (f : ℕ → Parsed A) → ((x : ℕ) → OtherRead (f x)) → OtherRead (after_word (word_of s) f)
unfolding word_of
other_word s f a = by (leb 4 (length s))
  where
    by : (b : Bool) → OtherRead (after_word (cond {A = Result ℕ ℕ} b (Ok (word_at s 0)) (Err 5)) f)
    by true = a (word_at s 0)
    by false = five

other_optional : {A : Type 0} (absent : A) (f : List ℕ → Parsed A) (s : List ℕ) → ((t : List ℕ) → OtherRead (f t)) → OtherRead (optional absent f s)
unfolding marker_of word_of
other_optional absent f s a = by (leb 4 (length s))
  where
    value : (x y : Bool) → OtherRead (after_marker (cond x (Ok marker.End) (cond y (Ok marker.Entry) (Err 6))) (drop 4 s) absent f)
    value true y = tt
    value false true = a (drop 4 s)
    value false false = refl

    by : (b : Bool) → OtherRead (after_marker (marker_word (cond {A = Result ℕ ℕ} b (Ok (word_at s 0)) (Err 5))) (drop 4 s) absent f)
    by true = value (eqb (word_at s 0) 0) (eqb (word_at s 0) 1)
    by false = five

seven : Other 7
seven = refl

other_entry : (s : List ℕ) → OtherRead (read_entry s)
unfolding read_entry
other_entry s = other_require (leb 20 (length s)) 5 _ five (other_require (is_aligned (word_at s 0)) 9 _ refl tt)

other_reads : (room : ℕ) (s : List ℕ) → OtherRead (read_list room s)
unfolding read_list
other_reads zero s = other_optional [] (λ t. refused 7) s (λ t. seven)
other_reads (suc room) s = other_optional [] _ s (λ t. other_then (read_entry t) _ (other_entry t) (λ x u. other_prepend x (read_list room u) (other_reads room u)))

other_segments : (n : ℕ) (s : List ℕ) → OtherRead (segments n s)
unfolding segments
other_segments n s = other_require (leb (n * 16) (length s)) 5 (done (each 16 (λ t. segment_at t 0) n s) (drop (n * 16) s)) five tt

other_counted : (left : ℕ) (s : List ℕ) → OtherRead (counted left s)
unfolding counted
other_counted left s = other_word s _ (λ n. other_require (leb n left) 7 (segments n (drop 4 s)) seven (other_segments n (drop 4 s)))

other_writes : (room left : ℕ) (s : List ℕ) → OtherRead (write_list room left s)
unfolding write_list
other_writes zero left s = other_optional [] (λ t. refused 7) s (λ t. seven)
other_writes (suc room) left s =
    other_optional [] _ s (λ t. other_then (counted left t) _ (other_counted left t) (λ c u. other_prepend c (write_list room (left - length c) u) (other_writes room (left - length c) u)))

other_reply : (s : List ℕ) → OtherRead (reply_chunk s)
unfolding reply_chunk
other_reply s = other_optional none _ s (λ t. other_then (counted 16 t) _ (other_counted 16 t) (λ c u. tt))

other_parts : (kind : Kind) (xid credit : ℕ) (s : List ℕ) → OtherRead (three_parts kind xid credit s)
unfolding three_parts
other_parts kind xid credit s =
    other_then (read_list 16 s) _ (other_reads 16 s) (λ reads t. other_then (write_list 4 16 t) _ (other_writes 4 16 t) (λ writes u. other_then (reply_chunk u) _ (other_reply u) (λ reply v. tt)))

other_error : (xid credit : ℕ) (s : List ℕ) → OtherRead (error_body xid credit s)
unfolding error_body
other_error xid credit s =
    other_word s _ (λ code. other_cond (eqb code 1) _ _
    (other_word (drop 4 s) _ (λ low. other_word (drop 8 s) (λ high. done (error_content (Version low high) xid credit) (drop 12 s)) (λ high. tt)))
    (other_cond (eqb code 2) (done (error_content Chunk xid credit) (drop 4 s)) (refused 10) tt refl))

other_last : (p : Parsed Content) → OtherRead p → OtherRead (nothing_behind p)
other_last p a = other_then p _ a (λ c t. other_require (eqb (length t) 0) 11 (done c t) refl tt)

other_procedure : (procedure xid credit : ℕ) (s : List ℕ) → OtherRead (by_procedure procedure xid credit s)
unfolding by_procedure
other_procedure procedure xid credit s =
    other_cond (eqb procedure 0) (three_parts Msg xid credit s) _ (other_parts Msg xid credit s)
    (other_cond (eqb procedure 1) (nothing_behind (three_parts Nomsg xid credit s)) _ (other_last (three_parts Nomsg xid credit s) (other_parts Nomsg xid credit s))
    (other_cond (eqb procedure 3) (refused 4) _ refl
    (other_cond (eqb procedure 4) (nothing_behind (error_body xid credit s)) (refused 3) (other_last (error_body xid credit s) (other_error xid credit s)) refl)))

other_frame : (s : List ℕ) → OtherRead (read_frame s)
unfolding read_frame
other_frame s =
    other_require (leb 16 (length s)) 1 _ refl
    (other_require (eqb (word_at s 4) 1) 2 (by_procedure (word_at s 12) (word_at s 0) (word_at s 8) (drop 16 s)) refl (other_procedure (word_at s 12) (word_at s 0) (word_at s 8) (drop 16 s)))

never : Other 0
never = refl

other_answer : (p : Parsed Content) → OtherRead p → Other (read_answer p).number × Other (read_number p)
other_answer (refused n) a = (a, a)
other_answer (done c t) a = (never, never)

-- The numbers of the other calls, each a row of checks.
other_entries : (l : List ReadSegment) (next : ℕ) → Other next → Other (entries_number l next)
unfolding entries_number
other_entries [] next a = a
other_entries (x ∷ xs) next a = other_check (is_aligned x.position) 9 (entries_number xs next) refl (other_entries xs next a)

other_room : (bytes : List ℕ) (room : ℕ) → Other (room_number bytes room)
other_room bytes room = other_check (leb (length bytes) room) 16 0 refl never

other_writing : (h : Header) (room : ℕ) → Other (write_number h room)
unfolding write_number
other_writing h room =
    other_check (bare_if_error h.kind h.reads.count h.writes.chunks h.reply.present) 12 _ refl
    (other_check (keeps_limits h) 7 _ seven
    (other_entries (content_of h).reads _ (other_room (header_bytes (content_of h)) room)))

other_words : (h : Option Header) (room : ℕ) → Other (write_words_answer h room).number
unfolding write_answer
other_words none room = refl
other_words (some h) room = other_writing h room

other_place : (kind : Kind) (atZero : Bool) (base : ℕ) (cs : List Run) (room : ℕ) → Other (place_number kind atZero base cs room)
unfolding place_number
other_place kind atZero base cs room =
    other_check (kind_fits kind atZero) 12 _ refl
    (other_check (eqb (base % 4) 0) 13 _ refl
    (other_check (stands base 0 0 cs) 14 _ refl
    (other_check (leb (message_length base cs) 1048576) 15 _ refl
    (other_check (leb (message_length base cs) room) 16 0 refl never))))

other_start : (p : Parsed Content) (room : ℕ) → OtherRead p → Other (start_number p room)
unfolding start_number
other_start (refused n) room a = a
other_start (done c inline) room a = other_place c.kind (any_at_zero c.reads) (base_of c inline) (other_chunks c.reads) room

other_setup_read : (bytes : List ℕ) → Other (read_setup bytes).number
unfolding read_setup
other_setup_read bytes = by (is_setup bytes)
  where
    by : (b : Bool) → Other (cond {A = SetupAnswer} b (record { setup = setup_at bytes; present = true; number = 0 }) (record { setup = no_setup; present = false; number = 0 })).number
    by true = never
    by false = never

other_setup : (x : Setup) (room : ℕ) → Other (write_setup_number x room)
unfolding write_setup_number
other_setup x room = other_check (setup_in_rule x) 20 _ refl (other_room (setup_bytes x) room)

other_agreement : (client server : Setup) → Other (agreement client server).number
unfolding agreement
other_agreement client server = by (setup_in_rule client && setup_in_rule server) _ never
  where
    by : (b : Bool) (x : Agreement) → Other x.number → Other (cond b x no_agreement).number
    by true x a = a
    by false x a = refl

other_setup_words : (w : List ℕ) (room : ℕ) → Other (write_setup_words_answer w room).number
unfolding write_setup_words_answer write_setup_answer
other_setup_words w room = by (flag_fits w)
  where
    by : (b : Bool) → Other (cond b (write_setup_answer (setup_in w) room) (record { number = 20; length = 0 })).number
    by true = other_setup (setup_in w) room
    by false = refl

other_agreement_words : (client server : List ℕ) → Other (agree_words_answer client server).number
unfolding agree_words_answer
other_agreement_words client server = by (flag_fits client && flag_fits server)
  where
    by : (b : Bool) → Other (cond b (agreement (setup_in client) (setup_in server)) no_agreement).number
    by true = other_agreement (setup_in client) (setup_in server)
    by false = refl

other_grant : (asked limit : ℕ) → Other (grant_answer asked limit).number
unfolding grant_answer
other_grant asked limit = by (leb 1 limit)
  where
    by : (b : Bool) → Other (cond {A = GrantAnswer} b (record { credit = granted asked limit; number = 0 }) (record { credit = 0; number = 20 })).number
    by true = never
    by false = refl

other_reply_number : (frame : List ℕ) (number limit room : ℕ) → Other (error_reply_number frame number limit room)
unfolding error_reply_number
other_reply_number frame number limit room = other_check (leb 1 limit && leb number 21) 20 _ refl (other_room (error_reply frame number limit) room)

other_returned : (sent reply : Header) → Other (returned_number sent reply)
unfolding returned_number
other_returned sent reply = other_check (keeps_limits sent && keeps_limits reply) 7 _ seven (other_check (not (mismatch (content_of sent) (content_of reply))) 26 0 refl never)

other_returned_words : (sent reply : Option Header) → Other (returned_words_number sent reply)
other_returned_words none reply = refl
other_returned_words (some sent) none = refl
other_returned_words (some sent) (some reply) = other_returned sent reply

other_piece : (s : State) (room size : ℕ) → Other (piece_number s room size)
unfolding piece_number
other_piece s room size = other_check (fits_state s room) 17 _ refl (other_check (leb (s.taken + size) (length (pulled_of s))) 18 0 refl never)

other_asking : (s : State) (room : ℕ) → Other (message_number s room)
unfolding message_number
other_asking s room = other_check (fits_state s room) 17 _ refl (other_check (eqb s.taken (length (pulled_of s))) 19 0 refl never)

other_sent : (l : Ledger) → Other (send_number l)
unfolding send_number
other_sent l = other_check (not (unfit l)) 17 _ refl (other_check (not (spent l)) 23 0 refl never)

other_answered : (l : Ledger) (xid grant : ℕ) → Other (reply_number l xid grant)
unfolding reply_number
other_answered l xid grant = other_check (not (unfit l)) 17 _ refl (other_check (not (eqb grant 0)) 25 _ refl (other_check (is_in xid (in_flight l)) 24 0 refl never))

-- No call gives a number that is reserved.
module _ (n : ℕ) (kept : is_reserved n ≡ true) where
  apart : {m : ℕ} → Other m → m ≡ n → ⊥
  apart other e = let z : ◌≡◌ {A = ℕ} 0 1 = cc in omega arith

  pub never_given : NeverGiven n
  unfolding write_answer write_setup_answer error_reply_answer returned_answer open_answer send_answer
  never_given = record {
    in_reading = λ frame. apart (other_answer (read_frame frame) (other_frame frame)).0;
    in_reading_words = λ frame. apart (other_answer (read_frame frame) (other_frame frame)).1;
    in_writing = λ h room. apart (other_writing h room);
    in_writing_words = λ h room. apart (other_words h room);
    in_starting = λ frame room. apart (other_start (read_frame frame) room (other_frame frame));
    in_taking = λ s room size. apart (other_piece s room size);
    in_asking = λ s room. apart (other_asking s room);
    in_reading_setup = λ bytes. apart (other_setup_read bytes);
    in_writing_setup = λ x room. apart (other_setup x room);
    in_writing_setup_words = λ w room. apart (other_setup_words w room);
    in_agreeing = λ client server. apart (other_agreement client server);
    in_agreeing_words = λ client server. apart (other_agreement_words client server);
    in_granting = λ asked limit. apart (other_grant asked limit);
    in_replying = λ frame number limit room. apart (other_reply_number frame number limit room);
    in_returning = λ sent reply. apart (other_returned sent reply);
    in_returning_words = λ sent reply. apart (other_returned_words sent reply);
    in_opening_ledger = λ last. apart never;
    in_sending_by_ledger = λ l. apart (other_sent l);
    in_replying_to_ledger = λ l xid grant. apart (other_answered l xid grant);
  }
