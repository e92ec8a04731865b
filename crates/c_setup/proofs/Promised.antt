-- What the contracts of the exports ask of a caller, which is nothing, and promise, once more in full. A contract that is changed together with its function fails here.
-- Assumes nothing.
use mathlib.Core.Path.{◌≡◌}
use mathlib.Core.List.{List}
use Prim.Native.Nat.{ℕ}
use lib.ListN.{length}
use contract.Lifetimes.{Lfts}
use denote.Ref.{Bor, MutBor}
use denote.Triple.Clauses.{AtExit}
use borrow.Fn.Kinds.{ended_of}
use Rattle.answers.specs.Answers.{unless_refused}
use Rattle.setup.specs.Setup.{read_setup}
use Rattle.c_setup.specs.Words.{present_word, setup_words, agreement_words, write_setup_words_answer, write_setup_words_buffer, agree_words_answer}
use Rattle.c_setup.proofs.eos_read_setup.Reads as reads
use Rattle.c_setup.proofs.eos_read_setup.Kinds as read-kinds
use Rattle.c_setup.proofs.eos_write_setup.Reads as writes
use Rattle.c_setup.proofs.eos_write_setup.Kinds as write-kinds
use Rattle.c_setup.proofs.eos_agree.Reads as agrees
use Rattle.c_setup.proofs.eos_agree.Kinds as agree-kinds

-- `eos_read_setup`: the number, every word of the setup data, and whether there is any.
pub reading_asks_nothing : (κs : Lfts 3) (bytes : Bor (List ℕ)) (setup : MutBor (List ℕ)) (present : MutBor ℕ) → reads.Pre κs (bytes, (setup, (present, tt)))
reading_asks_nothing κs bytes setup present = tt

pub read : (κs : Lfts 3) (bytes : Bor (List ℕ)) (setup : MutBor (List ℕ)) (present : MutBor ℕ) (answer : ℕ) (left : AtExit (ended_of 3 read-kinds.ps read-kinds.r) κs) → reads.Post κs (bytes, (setup, (present, tt))) answer left →
    let gives = read_setup bytes.now in
    (answer ≡ gives.number) × ((left.1.0.now ≡ setup_words gives.setup) × (left.1.1.0.now ≡ present_word gives))
read κs bytes setup present answer left promise = promise

-- `eos_write_setup`: the number, the length if it is 0, and every byte of the buffer.
pub writing_asks_nothing : (κs : Lfts 3) (setup : Bor (List ℕ)) (out : MutBor (List ℕ)) (size : MutBor ℕ) → writes.Pre κs (setup, (out, (size, tt)))
writing_asks_nothing κs setup out size = tt

pub written : (κs : Lfts 3) (setup : Bor (List ℕ)) (out : MutBor (List ℕ)) (size : MutBor ℕ) (answer : ℕ) (left : AtExit (ended_of 3 write-kinds.ps write-kinds.r) κs) → writes.Post κs (setup, (out, (size, tt))) answer left →
    let gives = write_setup_words_answer setup.now (length out.now) in
    (answer ≡ gives.number)
    × ((left.1.1.0.now ≡ unless_refused gives.number gives.length size.now) × (left.1.0.now ≡ write_setup_words_buffer setup.now out.now))
written κs setup out size answer left promise = promise

-- `eos_agree`: the number, and every word of the agreement if it is 0.
pub agreeing_asks_nothing : (κs : Lfts 3) (client server : Bor (List ℕ)) (agreement : MutBor (List ℕ)) → agrees.Pre κs (client, (server, (agreement, tt)))
agreeing_asks_nothing κs client server agreement = tt

pub agreed : (κs : Lfts 3) (client server : Bor (List ℕ)) (agreement : MutBor (List ℕ)) (answer : ℕ) (left : AtExit (ended_of 3 agree-kinds.ps agree-kinds.r) κs) → agrees.Post κs (client, (server, (agreement, tt))) answer left →
    let gives = agree_words_answer client.now server.now in
    (answer ≡ gives.number) × (left.1.1.0.now ≡ unless_refused gives.number (agreement_words gives) agreement.now)
agreed κs client server agreement answer left promise = promise
