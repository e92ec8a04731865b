-- Setup data as the words that a caller holds and lends.
use Rattle.std.specs.Prelude.{ℕ, Bool, cond, ◌&&◌, List, [], ◌∷◌, get_or, leb, eqb, ◌≡◌, Result, Ok, Err}
use Rattle.wire.specs.Words.{flag_number}
use Rattle.answers.specs.declared.WriteAnswer.{WriteAnswer}
use Rattle.setup.specs.Setup.{write_setup_answer, write_setup_buffer, agreement, no_agreement}
use Rattle.setup.specs.declared.Setup.{Setup}
use Rattle.setup.specs.declared.Agreement.{Agreement}
use Rattle.setup.specs.declared.SetupAnswer.{SetupAnswer}

-- Which word is which.
abbrev pub flag_at : ℕ
flag_at = 0

abbrev pub send_at : ℕ
send_at = 1

abbrev pub receive_at : ℕ
receive_at = 2

-- The words that hold setup data.
unfoldable pub setup_words : Setup → List ℕ
setup_words x = flag_number x.remote_invalidation ∷ x.send.0 ∷ x.receive.0 ∷ []

-- The setup data that words hold.
unfoldable pub setup_in : List ℕ → Setup
setup_in w =
    record { remote_invalidation = eqb (get_or w flag_at 0) 1; send = record { 0 = get_or w send_at 0 }; receive = record { 0 = get_or w receive_at 0 } }

-- A flag is 0 or 1; another number is a bad argument, 20 (DECISIONS 26).
abbrev pub flag_fits : List ℕ → Bool
flag_fits w = leb (get_or w flag_at 0) 1

-- The setup data that words hold, or 20.
abbrev pub held_setup : List ℕ → Result Setup ℕ
held_setup w = cond (flag_fits w) (Ok (setup_in w)) (Err 20)

-- What writing the setup data that words hold answers, and the buffer behind it.
unfoldable pub write_setup_words_answer : List ℕ → ℕ → WriteAnswer
write_setup_words_answer w room = cond (flag_fits w) (write_setup_answer (setup_in w) room) (record { number = 20; length = 0 })

unfoldable pub write_setup_words_buffer : List ℕ → List ℕ → List ℕ
write_setup_words_buffer w out = cond (flag_fits w) (write_setup_buffer (setup_in w) out) out

-- What follows from the setup data that words hold.
unfoldable pub agree_words_answer : List ℕ → List ℕ → Agreement
agree_words_answer client server = cond (flag_fits client && flag_fits server) (agreement (setup_in client) (setup_in server)) no_agreement

-- The words of what holds between two sides: client to server, server to client, the flag.
abbrev pub to_server_at : ℕ
to_server_at = 0

abbrev pub to_client_at : ℕ
to_client_at = 1

abbrev pub both_flag_at : ℕ
both_flag_at = 2

unfoldable pub agreement_words : Agreement → List ℕ
agreement_words a = a.client_to_server.0 ∷ a.server_to_client.0 ∷ flag_number a.remote_invalidation ∷ []

-- Whether there is setup data, as the word that `eos_read_setup` stores.
abbrev pub present_word : SetupAnswer → ℕ
present_word a = flag_number a.present

-- What `eos_read_setup` stores: these words, and 1 for setup data that is there.
pub record Stores (w : List ℕ) (a : SetupAnswer) : Type 0 where
  pub words : setup_words a.setup ≡ w
  pub there : present_word a ≡ 1
