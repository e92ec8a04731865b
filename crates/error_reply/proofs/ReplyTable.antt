-- Laws about the table of replies.
-- Assumes nothing.
use mathlib.Core.Path.{◌≡◌, sym, ap, ◌∙◌}
use Prim.Native.Nat.{ℕ, zero, suc, ◌+◌, ◌≤◌, ◌<◌}
use native.Mathlib.Nat.{le_of_suc-le-suc, add-zero, zero-add, add-suc, suc-add}
use native.Mathlib.Omega.{arith}
use mathlib.Core.Bool.{true}
use mathlib.Core.List.{List, [], ◌∷◌}
use lib.Dec.{leb}
use lib.ListN.{get_or}
use borrow.Author.Tests.{le-leb}
use Rattle.error_reply.specs.Reply.{reply_kind_of}
use Rattle.error_reply.specs.declared.ReplyKind.{ReplyKind}
use Rattle.error_reply.specs.declared.ReplyKind.TheVariants.{None}

-- No bytes fit into any room.
pub none_fits : (n : ℕ) → leb 0 n ≡ true
none_fits n = le-leb 0 n (omega arith)

-- What f gives for the n numbers from k on.
abbrev pub listed : {A : Type 0} → (ℕ → A) → ℕ → ℕ → List A
listed f k zero = []
listed f k (suc n) = f k ∷ listed f (suc k) n

at_listed : {A : Type 0} (f : ℕ → A) (z : A) (k n i : ℕ) → i < n → get_or (listed f k n) i z ≡ f (k + i)
at_listed f z k zero i h = absurd (omega arith)
at_listed f z k (suc n) zero h = ap f (sym (add-zero k))
at_listed f z k (suc n) (suc i) h = at_listed f z (suc k) n i (le_of_suc-le-suc h) ∙ ap f (suc-add k i ∙ sym (add-suc k i))

-- The rule of the table, over the whole of it.
pub by_table : (table : List ReplyKind) → table ≡ listed reply_kind_of 0 22 → (number : ℕ) → number ≤ 21 → get_or table number None ≡ reply_kind_of number
by_table table rule number h =
    ap (λ (l : List ReplyKind). get_or l number None) rule ∙ at_listed reply_kind_of None 0 22 number (omega arith) ∙ ap reply_kind_of (zero-add number)
