-- The reply chunk, compared.
-- Assumes nothing.
use mathlib.Core.Path.{◌≡◌, refl, sym, ◌∙◌}
use mathlib.Core.Bool.{Bool, true, false, not, ◌||◌, cond, or-false}
use mathlib.Core.List.{List, [], ◌∷◌}
use mathlib.Core.Option.{Option, none, some}
use Prim.Native.Nat.{ℕ, ◌+◌}
use native.Mathlib.Omega.{arith}
use lib.Dec.{eqb}
use lib.ListN.{length}
use borrow.Author.Tests.{eq-eqb, ne_eqb, eqb-true, eqb-false}
use Rattle.wire.specs.declared.Segment.{Segment}
use Rattle.header.specs.declared.Kind.{Kind}
use Rattle.header.specs.declared.Kind.TheVariants.{Msg, Nomsg, Error}
use Rattle.std.specs.Prelude.{Some, None}
use Rattle.returned.specs.Returned.{any, differ, non_empty, lacks_reply_chunk, reply_chunk_filled_in_msg, chunk_length}
use Rattle.returned.specs.Internal.Parts.{chunk_wrong, chunk_check, reply_check}
use Rattle.returned.proofs.Chunks.{length_cons, length_none}
use Rattle.returned.proofs.Writes.{chunk_landed, chunk_mismatch}

-- Two sums are not both zero where one of them is not.
sums : (x y : ℕ) (a b : Bool) → eqb x 0 ≡ a → eqb y 0 ≡ b → (not a || not b) ≡ differ (x + y) 0
sums x y true true e f = let p = eqb-true x 0 e in let q = eqb-true y 0 f in sym (rw (eq-eqb (x + y) 0 (omega arith)))
sums x y true false e f = sym (rw (ne_eqb (x + y) 0 (λ z. eqb-false y 0 f (omega arith))))
sums x y false b e f = sym (rw (ne_eqb (x + y) 0 (λ z. eqb-false x 0 e (omega arith))))

-- A chunk has a segment that is not empty where it has bytes.
pub bytes_there : (d : List Segment) → any non_empty d ≡ differ (chunk_length d) 0
unfolding any
bytes_there [] = rw length_none
bytes_there (x ∷ xs) = rw (bytes_there xs, length_cons x xs) (sums x.length (chunk_length xs) _ _ refl refl)

-- Where nothing landed in it no kind asks for more.
pub empty : (kind : Kind) (d : List Segment) → chunk_length d ≡ 0 → reply_chunk_filled_in_msg kind (some d) ≡ false
empty Msg d e = bytes_there d ∙ rw e
empty Nomsg d e = refl
empty (Error f) d e = refl

-- It does not come back.
pub reply_missing : (kind : Kind) (sent : Option (List Segment)) → reply_check kind sent none ≡ cond (not (lacks_reply_chunk kind none)) (Some 0) None
unfolding any
reply_missing Msg none = refl
reply_missing Msg (some c) = refl
reply_missing Nomsg none = refl
reply_missing Nomsg (some c) = refl
reply_missing (Error e) none = refl
reply_missing (Error e) (some c) = refl

pub reply_absent : (kind : Kind) (sent : Option (List Segment)) → lacks_reply_chunk kind none ≡ false → reply_check kind sent none ≡ Some 0
reply_absent kind sent h = reply_missing kind sent ∙ rw h

-- It comes back and was not sent.
pub reply_unsent : (kind : Kind) (d : List Segment) → reply_check kind none (some d) ≡ None
unfolding any
reply_unsent Msg d = refl
reply_unsent Nomsg d = refl
reply_unsent (Error e) d = refl

-- Both have it.
module _ (kind : Kind) (c d : List Segment) where
  both : reply_check kind (some c) (some d) ≡ cond (chunk_wrong (record { sent = c; back = d }) || reply_chunk_filled_in_msg kind (some d)) None (Some (chunk_length d))
  unfolding any
  both = rw (or-false (chunk_wrong (record { sent = c; back = d })), lacks kind)
    where
      lacks : (k : Kind) → lacks_reply_chunk k (some d) ≡ false
      lacks Msg = refl
      lacks Nomsg = refl
      lacks (Error e) = refl

  pub reply_count : (length c ≡ length d → ⊥) → reply_check kind (some c) (some d) ≡ None
  reply_count h = both ∙ rw (ne_eqb (length c) (length d) h)

  module _ (same : length c ≡ length d) where
    pub reply_fault : chunk_check (record { sent = c; back = d }) ≡ None → reply_check kind (some c) (some d) ≡ None
    reply_fault h = both ∙ rw (eq-eqb (length c) (length d) same, chunk_mismatch _ h)

    pub reply_landed : (n : ℕ) → chunk_check (record { sent = c; back = d }) ≡ Some n → reply_chunk_filled_in_msg kind (some d) ≡ false → reply_check kind (some c) (some d) ≡ Some n
    reply_landed n h f = both ∙ rw (eq-eqb (length c) (length d) same, (chunk_landed _ _ h).0, f, (chunk_landed _ _ h).1)

    pub reply_filled : (n : ℕ) → chunk_check (record { sent = c; back = d }) ≡ Some n → reply_chunk_filled_in_msg kind (some d) ≡ true → reply_check kind (some c) (some d) ≡ None
    reply_filled n h f = both ∙ rw (eq-eqb (length c) (length d) same, (chunk_landed _ _ h).0, f)
