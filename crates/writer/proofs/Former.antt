-- Order 7: the writer answers as it did while it still checked 21. What it was to answer then stands here for that purpose alone.
-- Assumes nothing.
use mathlib.Core.Path.{◌≡◌, refl, ◌∙◌}
use mathlib.Core.Bool.{Bool, true, false}
use mathlib.Core.List.{List}
use mathlib.Core.Option.{Option, none, some}
use Prim.Native.Nat.{ℕ}
use native.Mathlib.Omega.{arith}
use lib.ListN.{length}
use lib.Dec.{leb}
use borrow.Author.Tests.{le-leb}
use Rattle.answers.specs.Answers.{check, room_number, writer_answer, writer_buffer}
use Rattle.answers.specs.declared.WriteAnswer.{WriteAnswer}
use Rattle.answers.proofs.Checks.{check_other}
use Rattle.header.specs.Content.{content_of}
use Rattle.header.specs.Bytes.{header_bytes}
use Rattle.header.specs.Limits.{keeps_limits}
use Rattle.header.specs.declared.Header.{Header}
use Rattle.header.proofs.Longest.{longest}
use Rattle.writer.specs.Write.{bare_if_error, entries_number, write_number, write_answer, write_buffer, write_words_answer, write_words_buffer}
use Rattle.writer.proofs.Entries.{entries_other}

-- "Writing a header checks 12 .., 7 .., then entry by entry 9 .., then 21, 16.", as order 3 left it.
unfoldable pub former_number : Header → ℕ → ℕ
former_number h room =
    check (bare_if_error h.kind h.reads.count h.writes.chunks h.reply.present) 12
    (check (keeps_limits h) 7
    (entries_number (content_of h).reads
    (check (leb (length (header_bytes (content_of h))) 1024) 21
    (room_number (header_bytes (content_of h)) room))))

abbrev pub former_answer : Option Header → ℕ → WriteAnswer
former_answer none room = record { number = 20; length = 0 }
former_answer (some h) room = writer_answer (former_number h room) (header_bytes (content_of h))

abbrev pub former_buffer : Option Header → List ℕ → List ℕ
former_buffer none out = out
former_buffer (some h) out = writer_buffer (former_number h (length out)) (header_bytes (content_of h)) out

-- Behind a check that is passed only where another holds, that other need not be made.
needless : (bare keeps short : Bool) (entries : ℕ → ℕ) (behind : ℕ) → (keeps ≡ true → short ≡ true) →
    check bare 12 (check keeps 7 (entries behind)) ≡ check bare 12 (check keeps 7 (entries (check short 21 behind)))
needless false keeps short entries behind h = refl
needless true false short entries behind h = refl
needless true true short entries behind h = rw (h refl)

-- The number is the same for every header and every room.
pub same_number : (h : Header) (room : ℕ) → write_number h room ≡ former_number h room
unfolding write_number former_number
same_number h room =
    needless (bare_if_error h.kind h.reads.count h.writes.chunks h.reply.present) (keeps_limits h) (leb (length (header_bytes (content_of h))) 1024) (entries_number (content_of h).reads) _
    (λ keeps. let most = longest h keeps in le-leb (length (header_bytes (content_of h))) 1024 (omega arith))

-- So are the answer and the buffer, of a header that is lent too.
pub as_before : (h : Option Header) (out : List ℕ) → (write_words_answer h (length out) ≡ former_answer h (length out)) × (write_words_buffer h out ≡ former_buffer h out)
unfolding write_answer write_buffer
as_before none out = (refl, refl)
as_before (some h) out = rw (same_number h (length out)) (refl, refl)

-- So 21 could not be given.
pub could_not : (h : Option Header) (room : ℕ) → (former_answer h room).number ≡ 21 → ⊥
unfolding write_number
could_not none room e = omega arith
could_not (some h) room e =
    let bare = check_other (bare_if_error h.kind h.reads.count h.writes.chunks h.reply.present) 12 _ 21 (λ z. omega arith) (same_number h room ∙ e) in
    let keeps = check_other (keeps_limits h) 7 _ 21 (λ z. omega arith) bare.1 in
    let last = check_other (leb (length (header_bytes (content_of h))) room) 16 0 21 (λ z. omega arith) (entries_other (content_of h).reads _ 21 (λ z. omega arith) keeps.1) in
    omega (arith, last.1)
