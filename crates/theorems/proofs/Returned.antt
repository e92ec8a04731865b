-- A reply that our writer wrote, read again, tells the same (order 1).
-- Assumes nothing.
use mathlib.Core.Path.{◌≡◌, ap, ◌∙◌}
use mathlib.Core.List.{List}
use mathlib.Core.Option.{some}
use Prim.Native.Nat.{ℕ}
use lib.ListN.{length, take}
use Rattle.wire.specs.Fits.{AllWords}
use Rattle.header.specs.Fits.{Representable, zeroed}
use Rattle.header.specs.Words.{header_in}
use Rattle.header.specs.declared.Header.{Header}
use Rattle.reader.specs.Frame.{read_frame, read_answer, read_words}
use Rattle.writer.specs.Write.{write_number, write_answer, write_buffer, write_words_answer, write_words_buffer}
use Rattle.writer.proofs.HeaderWriting.{accepted}
use Rattle.writer.proofs.RoundTrip.{written_read_answer}
use Rattle.returned.specs.Returned.{returned_answer, returned_words_number, returned_words_places}
use Rattle.returned.proofs.Unused.{reply_zeroed}
use Rattle.returned.proofs.Lent.{same_lent}
use Rattle.c_header.proofs.RoundTrip.{words_representable, zeroed_in, export_written_read}

-- By value.
pub written_returned : (sent reply : Header) (out : List ℕ) → Representable reply → write_number reply (length out) ≡ 0 →
    returned_answer sent (read_answer (read_frame (take (write_answer reply (length out)).length (write_buffer reply out)))).header ≡ returned_answer sent reply
written_returned sent reply out r e = ap (λ a. returned_answer sent a.header) (written_read_answer reply out r e).0 ∙ reply_zeroed sent reply r (accepted reply (length out) e).0

-- Through the exports: what `eos_write_header` wrote, read by `eos_read_header`, lent to `eos_returned`.
pub exports_written_returned : (v w out before numbers : List ℕ) (reply : Header) → AllWords w → length w ≡ 238 → header_in w ≡ some reply → (write_words_answer (header_in w) (length out)).number ≡ 0 →
    (returned_words_number (header_in v) (header_in (read_words (read_frame (take (write_words_answer (header_in w) (length out)).length (write_words_buffer (header_in w) out))) before)) ≡ returned_words_number (header_in v) (header_in w))
    × (returned_words_places (header_in v) (header_in (read_words (read_frame (take (write_words_answer (header_in w) (length out)).length (write_words_buffer (header_in w) out))) before)) numbers ≡ returned_words_places (header_in v) (header_in w) numbers)
unfolding write_answer
exports_written_returned v w out before numbers reply f long is ok =
    let within = (accepted reply (length out) (rw is at ok)).0 in
    let again = (export_written_read w out before reply f long is ok).1 in
    let same = same_lent (header_in v) reply (zeroed reply) numbers (λ s. reply_zeroed s reply (words_representable w f long reply is) within) in
    rw (again, zeroed_in w out reply f long is ok, is) same
