-- What the contracts of the exports ask of a caller, which is nothing, and promise, once more in full. A contract that is changed together with its function fails here.
-- Assumes nothing.
use mathlib.Core.Path.{◌≡◌}
use mathlib.Core.List.{List}
use Prim.Native.Nat.{ℕ}
use lib.ListN.{length}
use contract.Lifetimes.{Lfts}
use denote.Ref.{Bor, MutBor}
use denote.Triple.Clauses.{AtExit}
use borrow.Fn.Kinds.{ended_of}
use Rattle.answers.specs.Answers.{unless_refused}
use Rattle.credit.specs.Credit.{grant_answer}
use Rattle.error_reply.specs.Reply.{error_reply_answer, error_reply_buffer}
use Rattle.c_reply.proofs.eos_grant.Reads as grants
use Rattle.c_reply.proofs.eos_grant.Kinds as grant-kinds
use Rattle.c_reply.proofs.eos_error_reply.Reads as replies
use Rattle.c_reply.proofs.eos_error_reply.Kinds as reply-kinds

-- `eos_grant`: the number, and the credit if it is 0.
pub granting_asks_nothing : (κs : Lfts 1) (asked limit : ℕ) (credit : MutBor ℕ) → grants.Pre κs (asked, (limit, (credit, tt)))
granting_asks_nothing κs asked limit credit = tt

pub granted : (κs : Lfts 1) (asked limit : ℕ) (credit : MutBor ℕ) (answer : ℕ) (left : AtExit (ended_of 1 grant-kinds.ps grant-kinds.r) κs) → grants.Post κs (asked, (limit, (credit, tt))) answer left →
    let gives = grant_answer asked limit in
    (answer ≡ gives.number) × (left.1.1.0.now ≡ unless_refused gives.number gives.credit credit.now)
granted κs asked limit credit answer left promise = promise

-- `eos_error_reply`: the number, the length if it is 0, and every byte of the buffer.
pub replying_asks_nothing : (κs : Lfts 3) (frame : Bor (List ℕ)) (number limit : ℕ) (out : MutBor (List ℕ)) (size : MutBor ℕ) → replies.Pre κs (frame, (number, (limit, (out, (size, tt)))))
replying_asks_nothing κs frame number limit out size = tt

pub replied : (κs : Lfts 3) (frame : Bor (List ℕ)) (number limit : ℕ) (out : MutBor (List ℕ)) (size : MutBor ℕ) (answer : ℕ) (left : AtExit (ended_of 3 reply-kinds.ps reply-kinds.r) κs) → replies.Post κs (frame, (number, (limit, (out, (size, tt))))) answer left →
    let gives = error_reply_answer frame.now number limit (length out.now) in
    (answer ≡ gives.number)
    × ((left.1.1.1.1.0.now ≡ unless_refused gives.number gives.length size.now) × (left.1.1.1.0.now ≡ error_reply_buffer frame.now number limit out.now))
replied κs frame number limit out size answer left promise = promise
