-- `error_reply::write_reply` meets its contract.
use Rattle.error_reply.proofs.ReplyTable.{none_fits}
use Rattle.error_reply.proofs.ReplyWritten.{none_length, no_length, reply_length_lem, chunk_room, chunk_stored, version_stored, reply_stored}
use mathlib.Core.Path.{refl, sym, ◌∙◌}
use native.Mathlib.Omega.{arith}
use borrow.Author.Tests.{le-leb, lt-leb}
use Rattle.error_reply.specs.Reply.{error_reply_answer, error_reply_buffer, error_reply_number, error_reply, reply_kind_for}
use Rattle.wire.specs.Wire.{words, joined}
use Rattle.error_reply.proofs.write_reply.Goals as goal
use Rattle.error_reply.proofs.write_reply.Goals.{then-n-eq-VERSION_ERROR_BYTES, else-n-eq-VERSION_ERROR_BYTES}

-- The clauses, from all of them at once.
clauses : {A B : Type 0} → A × B → record { answer : A; buffer : B }
clauses p = record { answer = p.0; buffer = p.1 }

pub returns-then-limit-eq0 : goal.returns-then-limit-eq0
unfolding error_reply_answer error_reply_buffer error_reply_number
returns-then-limit-eq0 c = clauses (rw (c.if-limit-eq0.true) (refl, refl))

pub returns-then-number-gt-LAST_NUMBER : goal.returns-then-number-gt-LAST_NUMBER
unfolding error_reply_answer error_reply_buffer error_reply_number
returns-then-number-gt-LAST_NUMBER c = clauses (simp (le-leb 1 c.args.limit (omega arith), lt-leb _ 21 c.if-number-gt-LAST_NUMBER.true) (refl, refl))

pub returns-then-frame-lt-FIXED_BYTES : goal.returns-then-frame-lt-FIXED_BYTES
unfolding error_reply_answer error_reply_buffer error_reply_number error_reply reply_kind_for words joined
returns-then-frame-lt-FIXED_BYTES c = clauses (simp (le-leb 1 c.args.limit (omega arith), le-leb _ 21 c.if-number-gt-LAST_NUMBER.false, lt-leb 16 _ c.if-frame-lt-FIXED_BYTES.true, none_fits) (refl, refl))

pub returns-then-n-eq0 : goal.returns-then-n-eq0
unfolding error_reply_answer error_reply_buffer error_reply_number error_reply words joined
returns-then-n-eq0 c = clauses (let none = sym c.kind_for.ensures ∙ none_length _ (sym c.length_of-n.ensures ∙ c.if-n-eq0.true) in
    simp (le-leb 1 c.args.limit (omega arith), le-leb _ 21 c.if-number-gt-LAST_NUMBER.false, none, none_fits) (refl, refl))

pub returns-then-out-n : goal.returns-then-out-n
unfolding error_reply_answer error_reply_buffer error_reply_number error_reply
returns-then-out-n c = clauses (simp (le-leb 1 c.args.limit (omega arith), le-leb _ 21 c.if-number-gt-LAST_NUMBER.false, ← c.kind_for.ensures, reply_length_lem, ← c.length_of-n.ensures, lt-leb _ _ c.if-out-n.true) (refl, refl))

-- The buffer behind a version reply's words is as long as before.
pub put_word-requires : goal.put_word-requires
put_word-requires c = let room = chunk_room _ _ _ c.length_of-n.ensures c.if-n-eq0.false c.if-out-n.false in omega arith

pub returns-then-n-eq-CHUNK_ERROR_BYTES : goal.returns-then-n-eq-CHUNK_ERROR_BYTES
returns-then-n-eq-CHUNK_ERROR_BYTES c = clauses (elim c.if-n-eq-VERSION_ERROR_BYTES.branch [
  | then-n-eq-VERSION_ERROR_BYTES w ↦ absurd (omega (arith, w.if-n-eq-VERSION_ERROR_BYTES.true, c.if-n-eq-CHUNK_ERROR_BYTES.true))
  | else-n-eq-VERSION_ERROR_BYTES w ↦ reply_stored _ _ _ _ _ _ _ _ _ (omega arith) c.if-number-gt-LAST_NUMBER.false c.kind_for.ensures c.length_of-n.ensures c.if-out-n.false c.word_at-asked.ensures c.granted_credit.ensures (chunk_stored _ _ _ _ _ _ _ _ c.length_of-n.ensures c.if-n-eq-CHUNK_ERROR_BYTES.true (rw (← w.out-is) c.put_word.ensures) c.encode_chunk.ensures)
])

pub returns-else-n-eq-CHUNK_ERROR_BYTES : goal.returns-else-n-eq-CHUNK_ERROR_BYTES
returns-else-n-eq-CHUNK_ERROR_BYTES c = clauses (elim c.if-n-eq-VERSION_ERROR_BYTES.branch [
  | then-n-eq-VERSION_ERROR_BYTES w ↦ reply_stored _ _ _ _ _ _ _ _ _ (omega arith) c.if-number-gt-LAST_NUMBER.false c.kind_for.ensures c.length_of-n.ensures c.if-out-n.false c.word_at-asked.ensures c.granted_credit.ensures (version_stored _ _ _ _ _ _ _ _ c.length_of-n.ensures w.if-n-eq-VERSION_ERROR_BYTES.true (w.out-is ∙ w.encode_version.ensures) c.put_word.ensures)
  | else-n-eq-VERSION_ERROR_BYTES w ↦ absurd (no_length _ _ c.length_of-n.ensures c.if-n-eq0.false w.if-n-eq-VERSION_ERROR_BYTES.false c.if-n-eq-CHUNK_ERROR_BYTES.false)
])
