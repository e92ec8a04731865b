-- How long a reply is, its words in the order in which they are written, and what is answered to one that was written.
-- Assumes nothing.
use mathlib.Core.Path.{◌≡◌, refl, sym, ◌∙◌}
use mathlib.Core.List.{List, [], ◌∷◌}
use Prim.Native.Nat.{ℕ, ◌≤◌}
use native.Mathlib.Omega.{arith}
use borrow.Author.Tests.{le-leb}
use lib.ListN.{length}
use Rattle.wire.specs.Wire.{word_at, stored, words, joined, word_bytes}
use Rattle.wire.proofs.Fields.{then, behind_first, length_stored, stored_front}
use Rattle.credit.specs.Credit.{granted}
use Rattle.error_reply.specs.Reply.{reply_kind_for, reply_words, error_reply, error_reply_number, error_reply_answer, error_reply_buffer}
use Rattle.error_reply.specs.Internal.Length.{reply_length}
use Rattle.error_reply.specs.declared.ReplyKind.{ReplyKind}
use Rattle.error_reply.specs.declared.ReplyKind.TheVariants.{None, Version, Chunk}

-- How many bytes the words of a reply have.
pub reply_length_lem : (kind : ReplyKind) (xid version credit : ℕ) → length (words (reply_words kind xid version credit)) ≡ reply_length kind
unfolding words joined word_bytes reply_length
reply_length_lem None xid version credit = refl
reply_length_lem Version xid version credit = refl
reply_length_lem Chunk xid version credit = refl

-- The length of a reply tells which it is.
pub none_length : (kind : ReplyKind) → reply_length kind ≡ 0 → kind ≡ None
unfolding reply_length
none_length None e = refl
none_length Version e = absurd (omega arith)
none_length Chunk e = absurd (omega arith)

version_length : (kind : ReplyKind) → reply_length kind ≡ 28 → kind ≡ Version
unfolding reply_length
version_length None e = absurd (omega arith)
version_length Version e = refl
version_length Chunk e = absurd (omega arith)

chunk_length_lem : (kind : ReplyKind) → reply_length kind ≡ 20 → kind ≡ Chunk
unfolding reply_length
chunk_length_lem None e = absurd (omega arith)
chunk_length_lem Version e = absurd (omega arith)
chunk_length_lem Chunk e = refl

pub no_length : (kind : ReplyKind) (size : ℕ) → size ≡ reply_length kind → (size ≡ 0 → ⊥) → (size ≡ 28 → ⊥) → (size ≡ 20 → ⊥) → ⊥
unfolding reply_length
no_length None size e p q r = p e
no_length Version size e p q r = q e
no_length Chunk size e p q r = r e

-- A chunk reply is the shortest.
pub chunk_room : (kind : ReplyKind) (size room : ℕ) → size ≡ reply_length kind → (size ≡ 0 → ⊥) → size ≤ room → 20 ≤ room
unfolding reply_length
chunk_room None size room e p h = absurd (p e)
chunk_room Version size room e p h = omega arith
chunk_room Chunk size room e p h = omega arith

-- Two runs that are stored leave the length.
pub both_kept : (l m : List ℕ) (i j : ℕ) (a b : List ℕ) → m ≡ stored (stored l i a) j b → length m ≡ length l
both_kept l m i j a b e = rw (e, length_stored (stored l i a) j b) (length_stored l i a)

pub one_kept : (l m : List ℕ) (i : ℕ) (a : List ℕ) → m ≡ stored l i a → length m ≡ length l
one_kept l m i a e = rw e (length_stored l i a)

-- The words that are written for a reply of 28 bytes are a version reply's, in the order of the code.
pub version_stored : (kind : ReplyKind) (l m out : List ℕ) (xid version credit size : ℕ) → size ≡ reply_length kind → size ≡ 28 →
    m ≡ stored (stored l 0 (words (xid ∷ version ∷ []))) 12 (words (4 ∷ 1 ∷ 1 ∷ 1 ∷ [])) → out ≡ stored m 8 (word_bytes credit) → out ≡ stored l 0 (words (reply_words kind xid version credit))
unfolding words joined word_bytes
version_stored kind l m out xid version credit size told s e f =
    rw (version_length kind (sym told ∙ s)) (then _ _ _ _ _ _ _ refl (behind_first _ _ _ _ _ _ _ e f refl) refl)

-- Those for one of 20 bytes are a chunk reply's.
pub chunk_stored : (kind : ReplyKind) (l m out : List ℕ) (xid version credit size : ℕ) → size ≡ reply_length kind → size ≡ 20 →
    m ≡ stored l 8 (word_bytes credit) → out ≡ stored (stored m 0 (words (xid ∷ 1 ∷ []))) 12 (words (4 ∷ 2 ∷ [])) → out ≡ stored l 0 (words (reply_words kind xid version credit))
unfolding words joined word_bytes
chunk_stored kind l m out xid version credit size told s e f =
    rw (chunk_length_lem kind (sym told ∙ s)) (then _ _ _ _ _ _ _ (behind_first _ _ _ _ _ _ _ e refl refl) f refl)

-- A reply at the front of a buffer is what is promised.
pub reply_stored : (frame l out : List ℕ) (number limit asked credit size : ℕ) (kind : ReplyKind) → 1 ≤ limit → number ≤ 21 → kind ≡ reply_kind_for frame number → size ≡ reply_length kind → size ≤ length l → asked ≡ word_at frame 8 → credit ≡ granted asked limit →
    out ≡ stored l 0 (words (reply_words kind (word_at frame 0) (word_at frame 4) credit)) →
    (record { number = 0; length = size } ≡ error_reply_answer frame number limit (length l)) × (out ≡ error_reply_buffer frame number limit l)
unfolding error_reply_answer error_reply_buffer error_reply_number error_reply
reply_stored frame l out number limit asked credit size kind some-limit known k told room a c e =
    let long : length (words (reply_words kind (word_at frame 0) (word_at frame 4) credit)) ≡ size = reply_length_lem kind (word_at frame 0) (word_at frame 4) credit ∙ sym told in
    simp (le-leb 1 limit some-limit, le-leb number 21 known, ← k, ← a, ← c, long, le-leb size (length l) room)
    (refl, e ∙ stored_front l (words (reply_words kind (word_at frame 0) (word_at frame 4) credit)) (rw long room) ∙ rw long refl)
