-- What the checks of the writer answer, from its numbers.
-- Assumes nothing.
use mathlib.Core.Path.{◌≡◌, refl, ◌∙◌}
use mathlib.Core.Bool.{true}
use Prim.Native.Nat.{ℕ}
use mathlib.Core.List.{List}
use mathlib.Core.Option.{Option, none, some}
use lib.ListN.{length}
use borrow.Author.Tests.{ne_eqb}
use Rattle.std.specs.Prelude.{Result, Ok, Err}
use Rattle.answers.specs.Answers.{room_number, unless_refused}
use Rattle.answers.specs.Refusals.{refusal_number, numbered, written_answer}
use Rattle.answers.specs.declared.Refusal.{Refusal}
use Rattle.wire.specs.Wire.{stored}
use Rattle.wire.proofs.Fields.{stored_front}
use Rattle.header.specs.Content.{content_of}
use Rattle.header.specs.Bytes.{header_bytes}
use Rattle.header.specs.Limits.{keeps_limits}
use Rattle.header.specs.declared.Header.{Header}
use Rattle.writer.specs.Write.{bare_if_error, entries_number, write_number, write_answer, write_buffer, write_words_answer, write_words_buffer}
use Rattle.header.specs.Internal.Outcomes.{outcome}
use Rattle.header.proofs.Outcomes.{outcome_ok, outcome_err}
use Rattle.writer.specs.Internal.Parts.{header_outcome, lent_outcome}
use Rattle.writer.proofs.HeaderWriting.{accepted}
use Rattle.writer.proofs.Entries.{entries_fault, entries_fine}

-- A header that is bare where it must be, and within the limits.
module _ (h : Header) (room : ℕ) (bare : bare_if_error h.kind h.reads.count h.writes.chunks h.reply.present ≡ true) (keeps : keeps_limits h ≡ true) where
  -- The number of its first entry at fault is its number.
  pub entries_refuse : (number : ℕ) → ◌≡◌ {A = Result (Unit {0}) ℕ} (Err number) (outcome (entries_number (content_of h).reads 0) (tt {0})) → header_outcome h room ≡ Err number
  unfolding write_number
  entries_refuse number e =
      let fault = outcome_err (entries_number (content_of h).reads 0) (tt {0}) number e in
      rw (bare, keeps, entries_fault (content_of h).reads fault.1 (room_number (header_bytes (content_of h)) room), ne_eqb _ _ fault.1, fault.0)

  -- Where none is at fault the room decides.
  pub room_decides : ◌≡◌ {A = Result (Unit {0}) ℕ} (Ok (tt {0})) (outcome (entries_number (content_of h).reads 0) (tt {0})) → write_number h room ≡ room_number (header_bytes (content_of h)) room
  unfolding write_number
  room_decides e = rw (bare, keeps, entries_fine (content_of h).reads (outcome_ok (entries_number (content_of h).reads 0) (tt {0}) (tt {0}) e))

-- A header that is refused leaves the buffer.
pub buffer_refused : (o : Option Header) (h : Header) (out : List ℕ) (number : ℕ) → o ≡ some h → Err number ≡ header_outcome h (length out) → out ≡ write_words_buffer o out
unfolding write_buffer
buffer_refused o h out number found e = let fault = outcome_err (write_number h (length out)) _ number e in rw (found, ne_eqb _ _ fault.1)

-- One that is written stands at its front.
pub buffer_written : (o : Option Header) (h : Header) (out after : List ℕ) (n : ℕ) → o ≡ some h → Ok n ≡ header_outcome h (length out) → after ≡ stored out 0 (header_bytes (content_of h)) → after ≡ write_words_buffer o out
unfolding write_buffer
buffer_written o h out after n found e written =
    let zero = outcome_ok (write_number h (length out)) _ n e in
    rw (found, zero) (written ∙ stored_front out (header_bytes (content_of h)) (accepted h (length out) zero).1)

-- The answer to one who lends a header.
pub answer_is : (o : Option Header) (room : ℕ) (r : Result ℕ Refusal) → numbered r ≡ lent_outcome o room → written_answer r ≡ write_words_answer o room
unfolding write_answer
answer_is none room (Ok n) e = absurd cc
answer_is none room (Err r) e = let n : refusal_number r ≡ 20 = cc in rw n
answer_is (some h) room (Ok n) e =
    let zero = outcome_ok (write_number h room) _ n e in
    let long : ◌≡◌ {A = Result ℕ ℕ} (Ok n) (Ok (length (header_bytes (content_of h)))) = rw zero at e in
    let same : n ≡ length (header_bytes (content_of h)) = cc in
    rw (zero, same)
answer_is (some h) room (Err r) e =
    let fault = outcome_err (write_number h room) _ (refusal_number r) e in
    rw (ne_eqb _ _ fault.1, fault.0)

-- Where it is a refusal, the lent size is kept.
pub size_kept : (o : Option Header) (room number before : ℕ) → Err number ≡ lent_outcome o room → before ≡ unless_refused (write_words_answer o room).number (write_words_answer o room).length before
unfolding write_answer
size_kept none room number before e = refl
size_kept (some h) room number before e = let fault = outcome_err (write_number h room) _ number e in rw (ne_eqb _ _ fault.1)
