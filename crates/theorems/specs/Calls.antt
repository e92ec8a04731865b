-- Lists of calls after a start (document 01, "Where each byte of a message goes"; demand 3).
use Rattle.std.specs.Prelude.{ℕ, List, [], ◌∷◌, length}
use Rattle.reader.specs.Frame.{read_frame}
use Rattle.assembly_start.specs.Start.{start_buffer, start_answer}
use Rattle.assembly.specs.Assembly.{piece_answer, piece_buffer, message_number, message_part, piece_words}
use Rattle.assembly_state.specs.Words.{state_in}

-- "taking a piece, empty ones too, and asking for the message"
pub data Call : Type 0 where
  piece : List ℕ → Call
  asking : Call

-- What a call answers: its number, and the part handed back.
pub record Outcome : Type 0 where
  pub number : ℕ
  pub part : List ℕ

-- The outcome of this number and this part.
abbrev pub gives : ℕ → List ℕ → Outcome
gives number part = record { number = number; part = part }

-- What a list of calls gives: "each answer number, each part handed back and, after the list, the count of bytes taken and the whole buffer", and the "answer to an asking" then.
pub record Ending : Type 0 where
  pub outcomes : List Outcome
  pub count : ℕ
  pub buffer : List ℕ
  pub asked : Outcome

-- "each answer number, each part handed back": what one call answers, and then what the calls behind it give.
abbrev pub answered : Outcome → Ending → Ending
answered o e = record { outcomes = o ∷ e.outcomes; count = e.count; buffer = e.buffer; asked = e.asked }

-- "asking for the message": the number and the part that the contracts of the two calls settle, for a state that lies in words.
abbrev pub ask_outcome : List ℕ → List ℕ → Outcome
ask_outcome w out = gives (message_number (state_in w) (length out)) (message_part (state_in w) out)

-- "Each gets the state last given back and the buffer as last left; nobody else writes either meanwhile.": what the contracts of the calls hand on. "demand 3 leaves the goes out" (order 2): of the answer to a piece only the number is seen.
unfoldable pub run_calls : List ℕ → List ℕ → List Call → Ending
run_calls w out [] = record { outcomes = []; count = (state_in w).taken; buffer = out; asked = ask_outcome w out }
run_calls w out (piece v ∷ calls) =
    answered (gives (piece_answer (state_in w) (length out) (length v)).number []) (run_calls (piece_words w (length out) (length v)) (piece_buffer (state_in w) v out) calls)
run_calls w out (asking ∷ calls) = answered (ask_outcome w out) (run_calls w out calls)

-- "After it comes any list of these calls": a start over a frame and a buffer, then the calls.
abbrev pub start_then : List ℕ → List ℕ → List Call → Ending
start_then frame out calls = run_calls (start_answer (read_frame frame) (length out)).state (start_buffer (read_frame frame) out) calls
