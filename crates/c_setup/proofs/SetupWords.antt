-- Setup data and the words that hold it.
-- Assumes nothing.
use mathlib.Core.Path.{◌≡◌, refl}
use mathlib.Core.Bool.{Bool, true, false, cond, ◌&&◌}
use mathlib.Core.List.{List, [], ◌∷◌}
use Prim.Native.Nat.{ℕ, zero, suc, min}
use native.Mathlib.Omega.{arith}
use native.Mathlib.Numerals.{unary_clauses}
use borrow.Author.Tests.{leb-true}
use lib.ListN.{length, get_or}
use lib.Dec.{leb, eqb}
use Rattle.wire.specs.Words.{flag_number}
use Rattle.wire.proofs.Fields.{flag_fits_lem, flag_back}
use Rattle.answers.specs.declared.WriteAnswer.{WriteAnswer}
use Rattle.setup.specs.Setup.{setup_in_rule, smaller_size, write_setup_answer, write_setup_buffer, agreement, no_agreement}
use Rattle.setup.specs.declared.Agreement.{Agreement}
use Rattle.setup.specs.declared.Setup.{Setup}
use Rattle.c_setup.specs.Words.{flag_at, send_at, receive_at, to_server_at, to_client_at, both_flag_at, agreement_words, setup_words, setup_in, flag_fits, write_setup_words_answer, write_setup_words_buffer, agree_words_answer}

-- The words of setup data hold it, with a flag that exists.
pub setup_back : (x : Setup) → setup_in (setup_words x) ≡ x
unfolding setup_in setup_words
setup_back x = rw (flag_back x.remote_invalidation)

pub setup_fits : (x : Setup) → flag_fits (setup_words x) ≡ true
unfolding setup_words
setup_fits x = flag_fits_lem x.remote_invalidation

-- The words of the setup data that words hold, where their flag exists.
flag_again : (n : ℕ) → leb n 1 ≡ true → flag_number (eqb n 1) ≡ n
flag_again zero e = refl
flag_again (suc zero) e = refl
flag_again (suc (suc n)) e = absurd (let z = leb-true (suc (suc n)) 1 e in omega arith)

pub words_back : (w : List ℕ) → length w ≡ 3 → flag_fits w ≡ true → setup_words (setup_in w) ≡ w
unfolding setup_in setup_words
words_back [] e f = absurd (omega arith)
words_back (a ∷ []) e f = absurd (omega arith)
words_back (a ∷ b ∷ []) e f = absurd (omega arith)
words_back (a ∷ b ∷ c ∷ []) e f = rw (flag_again a f)
words_back (a ∷ b ∷ c ∷ d ∷ w) e f = absurd (omega arith)

-- What writing the words of setup data gives.
pub lent_is : (x : Setup) (room : ℕ) (out : List ℕ) → (write_setup_words_answer (setup_words x) room ≡ write_setup_answer x room) × (write_setup_words_buffer (setup_words x) out ≡ write_setup_buffer x out)
unfolding write_setup_words_answer write_setup_words_buffer
lent_is x room out = simp (setup_fits x, setup_back x) (refl, refl)

-- The same of words whose flag exists.
pub lent_held : (w : List ℕ) (room : ℕ) (out : List ℕ) → flag_fits w ≡ true → (write_setup_words_answer w room ≡ write_setup_answer (setup_in w) room) × (write_setup_words_buffer w out ≡ write_setup_buffer (setup_in w) out)
unfolding write_setup_words_answer write_setup_words_buffer
lent_held w room out e = simp e (refl, refl)

-- Words that are written hold a flag that exists.
pub lent_fits : (w : List ℕ) (room : ℕ) → (write_setup_words_answer w room).number ≡ 0 → flag_fits w ≡ true
unfolding write_setup_words_answer
lent_fits w room e = by (flag_fits w) e
  where
    by : (b : Bool) → (cond {A = WriteAnswer} b (write_setup_answer (setup_in w) room) (record { number = 20; length = 0 })).number ≡ 0 → b ≡ true
    by true q = refl
    by false q = absurd (omega arith)

-- "Client to server: the smaller of the client's send size and the server's receive size; the other way likewise. Remote invalidation needs R from both.", word by word.
pub record Agreed (client server words : List ℕ) : Type 0 where
  pub to_server : get_or words to_server_at 0 ≡ min (get_or client send_at 0) (get_or server receive_at 0)
  pub to_client : get_or words to_client_at 0 ≡ min (get_or server send_at 0) (get_or client receive_at 0)
  pub flag : get_or words both_flag_at 0 ≡ min (get_or client flag_at 0) (get_or server flag_at 0)

flags_both : (m n : ℕ) → leb m 1 ≡ true → leb n 1 ≡ true → flag_number (eqb m 1 && eqb n 1) ≡ min m n
flags_both zero n e f = simp unary_clauses
flags_both (suc zero) zero e f = refl
flags_both (suc zero) (suc zero) e f = refl
flags_both (suc zero) (suc (suc n)) e f = absurd (let z = leb-true (suc (suc n)) 1 f in omega arith)
flags_both (suc (suc m)) n e f = absurd (let z = leb-true (suc (suc m)) 1 e in omega arith)

-- The words of what two sides in rule agree on.
held : (client server : List ℕ) → flag_fits client ≡ true → flag_fits server ≡ true → Agreed client server
    ((smaller_size (setup_in client).send (setup_in server).receive).0 ∷ (smaller_size (setup_in server).send (setup_in client).receive).0 ∷ flag_number ((setup_in client).remote_invalidation && (setup_in server).remote_invalidation) ∷ [])
unfolding setup_in
held client server e f = record { to_server = refl; to_client = refl; flag = flags_both (get_or client flag_at 0) (get_or server flag_at 0) e f }

pub agreed_words : (client server : List ℕ) → (agree_words_answer client server).number ≡ 0 → Agreed client server (agreement_words (agree_words_answer client server))
unfolding agree_words_answer agreement agreement_words
agreed_words client server = by (flag_fits client) (flag_fits server) (setup_in_rule (setup_in client) && setup_in_rule (setup_in server)) refl refl
  where
    pick : Bool → Agreement
    pick ruled = cond ruled (record {
      client_to_server = smaller_size (setup_in client).send (setup_in server).receive;
      server_to_client = smaller_size (setup_in server).send (setup_in client).receive;
      remote_invalidation = (setup_in client).remote_invalidation && (setup_in server).remote_invalidation;
      number = 0;
    }) no_agreement

    by : (a b ruled : Bool) → flag_fits client ≡ a → flag_fits server ≡ b → (cond (a && b) (pick ruled) no_agreement).number ≡ 0 → Agreed client server (agreement_words (cond (a && b) (pick ruled) no_agreement))
    by true true true e f q = held client server e f
    by true true false e f q = absurd (omega arith)
    by true false ruled e f q = absurd (omega arith)
    by false b ruled e f q = absurd (omega arith)
