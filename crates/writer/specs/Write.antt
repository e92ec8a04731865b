-- Writing a header (document 01, "The numbers and their order"; document 02, orders 3 and 7).
use Rattle.std.specs.Prelude.{ℕ, Bool, true, not, ◌&&◌, List, [], ◌∷◌, length, eqb}
use Rattle.std.proofs.Math.Option.{Option, none, some}
use Rattle.answers.specs.Answers.{check, room_number, writer_answer, writer_buffer}
use Rattle.answers.specs.declared.WriteAnswer.{WriteAnswer}
use Rattle.wire.specs.declared.ReadSegment.{ReadSegment}
use Rattle.chunk_lists.specs.Lists.{is_aligned}
use Rattle.header.specs.Content.{content_of}
use Rattle.header.specs.declared.Kind.{Kind}
use Rattle.header.specs.declared.Kind.TheVariants.{Msg, Nomsg, Error}
use Rattle.header.specs.declared.Header.{Header}
use Rattle.header.specs.Bytes.{header_bytes}
use Rattle.header.specs.Limits.{keeps_limits}

-- "12 (here only for an ERROR header with any entry or a reply chunk)"
abbrev pub bare_if_error : Kind → ℕ → ℕ → Bool → Bool
bare_if_error Msg reads chunks present = true
bare_if_error Nomsg reads chunks present = true
bare_if_error (Error e) reads chunks present = eqb reads 0 && (eqb chunks 0 && not present)

-- "then entry by entry 9", as mended by order 3: "8 is never given again". And then what `next` says.
unfoldable pub entries_number : List ReadSegment → ℕ → ℕ
entries_number [] next = next
entries_number (x ∷ xs) next = check (is_aligned x.position) 9 (entries_number xs next)

-- "Writing a header checks 12 .., 7 .., then entry by entry 9 .., then .. 16.", so mended, and by order 7: "take the check out of the writer". Into `room` bytes.
unfoldable pub write_number : Header → ℕ → ℕ
write_number h room =
    check (bare_if_error h.kind h.reads.count h.writes.chunks h.reply.present) 12
    (check (keeps_limits h) 7
    (entries_number (content_of h).reads
    (room_number (header_bytes (content_of h)) room)))

-- The number, and with 0 how many bytes were written.
unfoldable pub write_answer : Header → ℕ → WriteAnswer
write_answer h room = writer_answer (write_number h room) (header_bytes (content_of h))

-- The buffer after the call.
unfoldable pub write_buffer : Header → List ℕ → List ℕ
write_buffer h out = writer_buffer (write_number h (length out)) (header_bytes (content_of h)) out

-- The answer to one who lends the header: "bad argument" (20) where its kind or its flag stands for nothing.
abbrev pub write_words_answer : Option Header → ℕ → WriteAnswer
write_words_answer none room = record { number = 20; length = 0 }
write_words_answer (some h) room = write_answer h room

-- The buffer then.
abbrev pub write_words_buffer : Option Header → List ℕ → List ℕ
write_words_buffer none out = out
write_words_buffer (some h) out = write_buffer h out
