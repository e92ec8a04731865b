-- What the parts of the writer answer, and what lies in the words of a header that is to be written.
use Rattle.std.specs.Prelude.{ℕ, Bool, List, length, get_or, take, Result, Err}
use Rattle.std.proofs.Math.Option.{Option, none, some}
use Rattle.chunk_lists.specs.Words.{reads_in, segments_in}
use Rattle.header.specs.Content.{content_of, runs, reply_of}
use Rattle.header.specs.Words.{writes_at, reply_at, read_count_at, write_chunks_at, reply_count_at, counts_in}
use Rattle.header.specs.Bytes.{parts_bytes, header_bytes}
use Rattle.header.specs.declared.Header.{Header}
use Rattle.header.specs.Internal.Outcomes.{outcome}
use Rattle.writer.specs.Write.{write_number}

-- How many bytes a header takes that is written into `room` bytes, or the number.
abbrev pub header_outcome : Header → ℕ → Result ℕ ℕ
header_outcome h room = outcome (write_number h room) (length (header_bytes (content_of h)))

-- The same of a header that is lent.
abbrev pub lent_outcome : Option Header → ℕ → Result ℕ ℕ
lent_outcome none room = Err 20
lent_outcome (some h) room = header_outcome h room

-- The bytes of the three parts, where they are.
abbrev pub parts_bytes_in : List ℕ → Bool → List ℕ
parts_bytes_in w present =
    parts_bytes (take (get_or w read_count_at 0) (reads_in w)) (runs (take (get_or w write_chunks_at 0) (counts_in w)) (segments_in writes_at w))
    (reply_of present (take (get_or w reply_count_at 0) (segments_in reply_at w)))
