-- Of 8: "8 is never given again and stays reserved." Of 21: "the number stays reserved and is never given." (document 02, orders 3 and 7)
use Rattle.std.specs.Prelude.{ℕ, ◌≡◌, List}
use Rattle.std.proofs.Math.Option.{Option}
use Rattle.header.specs.declared.Header.{Header}
use Rattle.reader.specs.Frame.{read_frame, read_answer, read_number}
use Rattle.writer.specs.Write.{write_answer, write_words_answer}
use Rattle.setup.specs.Setup.{read_setup, write_setup_answer, agreement}
use Rattle.setup.specs.declared.Setup.{Setup}
use Rattle.c_setup.specs.Words.{write_setup_words_answer, agree_words_answer}
use Rattle.credit.specs.Credit.{grant_answer}
use Rattle.error_reply.specs.Reply.{error_reply_answer}
use Rattle.assembly_state.specs.State.{State}
use Rattle.assembly_start.specs.Start.{start_answer}
use Rattle.assembly.specs.Assembly.{piece_answer, message_number}
use Rattle.returned.specs.Returned.{returned_answer, returned_words_number}
use Rattle.ledger.specs.Ledger.{open_answer, send_answer, reply_number}
use Rattle.ledger.specs.declared.Ledger.{Ledger}

-- No call with a number gives n: those of the library, and of the exports where they have a definition of their own.
pub record NeverGiven (n : ℕ) : Type 0 where
  pub in_reading : (frame : List ℕ) → (read_answer (read_frame frame)).number ≡ n → ⊥
  pub in_reading_words : (frame : List ℕ) → read_number (read_frame frame) ≡ n → ⊥
  pub in_writing : (h : Header) (room : ℕ) → (write_answer h room).number ≡ n → ⊥
  pub in_writing_words : (h : Option Header) (room : ℕ) → (write_words_answer h room).number ≡ n → ⊥
  pub in_starting : (frame : List ℕ) (room : ℕ) → (start_answer (read_frame frame) room).number ≡ n → ⊥
  pub in_taking : (s : State) (room size : ℕ) → (piece_answer s room size).number ≡ n → ⊥
  pub in_asking : (s : State) (room : ℕ) → message_number s room ≡ n → ⊥
  pub in_reading_setup : (bytes : List ℕ) → (read_setup bytes).number ≡ n → ⊥
  pub in_writing_setup : (x : Setup) (room : ℕ) → (write_setup_answer x room).number ≡ n → ⊥
  pub in_writing_setup_words : (w : List ℕ) (room : ℕ) → (write_setup_words_answer w room).number ≡ n → ⊥
  pub in_agreeing : (client server : Setup) → (agreement client server).number ≡ n → ⊥
  pub in_agreeing_words : (client server : List ℕ) → (agree_words_answer client server).number ≡ n → ⊥
  pub in_granting : (asked limit : ℕ) → (grant_answer asked limit).number ≡ n → ⊥
  pub in_replying : (frame : List ℕ) (number limit room : ℕ) → (error_reply_answer frame number limit room).number ≡ n → ⊥
  pub in_returning : (sent reply : Header) → (returned_answer sent reply).number ≡ n → ⊥
  pub in_returning_words : (sent reply : Option Header) → returned_words_number sent reply ≡ n → ⊥
  pub in_opening_ledger : (last : ℕ) → (open_answer last).number ≡ n → ⊥
  pub in_sending_by_ledger : (l : Ledger) → (send_answer l).number ≡ n → ⊥
  pub in_replying_to_ledger : (l : Ledger) (xid grant : ℕ) → reply_number l xid grant ≡ n → ⊥
