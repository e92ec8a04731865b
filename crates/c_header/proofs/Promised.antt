-- What the contracts of the exports ask of a caller, which is nothing, and promise, once more in full. A contract that is changed together with its function fails here.
-- Assumes nothing.
use mathlib.Core.Path.{◌≡◌}
use mathlib.Core.List.{List}
use Prim.Native.Nat.{ℕ}
use lib.ListN.{length}
use contract.Lifetimes.{Lfts}
use denote.Ref.{Bor, MutBor}
use denote.Triple.Clauses.{AtExit}
use borrow.Fn.Kinds.{ended_of}
use Rattle.answers.specs.Answers.{unless_refused}
use Rattle.reader.specs.Frame.{read_frame, payload_of, read_number, read_words}
use Rattle.header.specs.Words.{header_in}
use Rattle.writer.specs.Write.{write_words_answer, write_words_buffer}
use Rattle.c_header.specs.Part.{part_of}
use Rattle.c_header.specs.declared.Part.{Part}
use Rattle.c_header.proofs.eos_read_header.Reads as reads
use Rattle.c_header.proofs.eos_read_header.Kinds as read-kinds
use Rattle.c_header.proofs.eos_payload.Reads as finds
use Rattle.c_header.proofs.eos_payload.Kinds as find-kinds
use Rattle.c_header.proofs.eos_write_header.Reads as writes
use Rattle.c_header.proofs.eos_write_header.Kinds as write-kinds

-- `eos_read_header`: the number, and every word of the header.
pub reading_asks_nothing : (κs : Lfts 2) (frame : Bor (List ℕ)) (header : MutBor (List ℕ)) → reads.Pre κs (frame, (header, tt))
reading_asks_nothing κs frame header = tt

pub read : (κs : Lfts 2) (frame : Bor (List ℕ)) (header : MutBor (List ℕ)) (answer : ℕ) (left : AtExit (ended_of 2 read-kinds.ps read-kinds.r) κs) → reads.Post κs (frame, (header, tt)) answer left →
    (answer ≡ read_number (read_frame frame.now)) × (left.1.0.now ≡ read_words (read_frame frame.now) header.now)
read κs frame header answer left promise = promise

-- `eos_payload`: where the payload lies.
pub finding_asks_nothing : (κs : Lfts 1) (frame : Bor (List ℕ)) → finds.Pre κs (frame, tt)
finding_asks_nothing κs frame = tt

pub found : (κs : Lfts 1) (frame : Bor (List ℕ)) (part : Part) (left : AtExit (ended_of 1 find-kinds.ps find-kinds.r) κs) → finds.Post κs (frame, tt) part left → part ≡ part_of frame.now (payload_of (read_frame frame.now))
found κs frame part left promise = promise

-- `eos_write_header`: the number, the length if it is 0, and every byte of the buffer.
pub writing_asks_nothing : (κs : Lfts 3) (header : Bor (List ℕ)) (out : MutBor (List ℕ)) (size : MutBor ℕ) → writes.Pre κs (header, (out, (size, tt)))
writing_asks_nothing κs header out size = tt

pub written : (κs : Lfts 3) (header : Bor (List ℕ)) (out : MutBor (List ℕ)) (size : MutBor ℕ) (answer : ℕ) (left : AtExit (ended_of 3 write-kinds.ps write-kinds.r) κs) → writes.Post κs (header, (out, (size, tt))) answer left →
    let gives = write_words_answer (header_in header.now) (length out.now) in
    (answer ≡ gives.number)
    × ((left.1.1.0.now ≡ unless_refused gives.number gives.length size.now) × (left.1.0.now ≡ write_words_buffer (header_in header.now) out.now))
written κs header out size answer left promise = promise
