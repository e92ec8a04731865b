-- What the contract of `eos_returned` asks of a caller, which is nothing, and promises, once more in full. A contract that is changed together with its function fails here.
-- Assumes nothing.
use mathlib.Core.Path.{◌≡◌}
use mathlib.Core.List.{List}
use Prim.Native.Nat.{ℕ}
use contract.Lifetimes.{Lfts}
use denote.Ref.{Bor, MutBor}
use denote.Triple.Clauses.{AtExit}
use borrow.Fn.Kinds.{ended_of}
use Rattle.header.specs.Words.{header_in}
use Rattle.returned.specs.Returned.{returned_words_number, returned_words_places}
use Rattle.c_returned.proofs.eos_returned.Reads as compares
use Rattle.c_returned.proofs.eos_returned.Kinds as kinds

-- `eos_returned`: the number, and what landed in each chunk.
pub comparing_asks_nothing : (κs : Lfts 3) (sent reply : Bor (List ℕ)) (landed : MutBor (List ℕ)) → compares.Pre κs (sent, (reply, (landed, tt)))
comparing_asks_nothing κs sent reply landed = tt

pub compared : (κs : Lfts 3) (sent reply : Bor (List ℕ)) (landed : MutBor (List ℕ)) (answer : ℕ) (left : AtExit (ended_of 3 kinds.ps kinds.r) κs) → compares.Post κs (sent, (reply, (landed, tt))) answer left →
    (answer ≡ returned_words_number (header_in sent.now) (header_in reply.now)) × (left.1.1.0.now ≡ returned_words_places (header_in sent.now) (header_in reply.now) landed.now)
compared κs sent reply landed answer left promise = promise
