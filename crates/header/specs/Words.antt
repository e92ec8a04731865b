-- A header as the words that a caller holds and lends.
use Rattle.std.specs.Prelude.{ℕ, Bool, true, false, cond, List, [], ◌∷◌, ◌++◌, get_or, take, drop, leb, eqb, Option, Some, None}
use Rattle.std.proofs.Math.Option as maybe
use Rattle.wire.specs.Words.{flag_number}
use Rattle.chunk_lists.specs.Lists.{max_write_chunks}
use Rattle.chunk_lists.specs.Words.{reads_in, reads_words, segments_in, segments_words}
use Rattle.header.specs.declared.Kind.{Kind}
use Rattle.header.specs.declared.Kind.TheVariants.{Msg, Nomsg, Error}
use Rattle.header.specs.declared.ErrorKind.TheVariants.{Version, Chunk}
use Rattle.header.specs.declared.Header.{Header}

-- Where each part stands: the places of the read list first, then those of the write list and of the reply chunk, then the counts of the write chunks, and the numbers. The last of the 238 words is reserved: zero in what a call makes, ignored in what it is given.
abbrev pub writes_at : ℕ
writes_at = 96

abbrev pub reply_at : ℕ
reply_at = 160

abbrev pub write_counts_at : ℕ
write_counts_at = 224

abbrev pub read_count_at : ℕ
read_count_at = 228

abbrev pub write_chunks_at : ℕ
write_chunks_at = 229

abbrev pub reply_present_at : ℕ
reply_present_at = 230

abbrev pub reply_count_at : ℕ
reply_count_at = 231

abbrev pub kind_at : ℕ
kind_at = 232

abbrev pub low_at : ℕ
low_at = 233

abbrev pub high_at : ℕ
high_at = 234

abbrev pub xid_at : ℕ
xid_at = 235

abbrev pub credit_at : ℕ
credit_at = 236

-- A kind as a number, with the two of a version error beside it; zero where there is none.
abbrev pub kind_number : Kind → ℕ
kind_number Msg = 0
kind_number Nomsg = 1
kind_number (Error (Version low high)) = 2
kind_number (Error Chunk) = 3

abbrev pub low_of : Kind → ℕ
low_of Msg = 0
low_of Nomsg = 0
low_of (Error (Version low high)) = low
low_of (Error Chunk) = 0

abbrev pub high_of : Kind → ℕ
high_of Msg = 0
high_of Nomsg = 0
high_of (Error (Version low high)) = high
high_of (Error Chunk) = 0

-- The words of a header.
unfoldable pub header_words : Header → List ℕ
header_words h =
    reads_words h.reads.segments
    ++ (segments_words h.writes.segments
    ++ (segments_words h.reply.segments
    ++ (h.writes.counts
    ++ (h.reads.count ∷ h.writes.chunks ∷ flag_number h.reply.present ∷ h.reply.count
    ∷ kind_number h.kind ∷ low_of h.kind ∷ high_of h.kind ∷ h.xid ∷ h.credit ∷ 0 ∷ []))))

-- The kind that a number names, where there is one. The two numbers beside it count for a version error alone.
unfoldable pub kind_in : ℕ → ℕ → ℕ → Option Kind
kind_in kind low high =
    cond (eqb kind 0) (Some Msg)
    (cond (eqb kind 1) (Some Nomsg)
    (cond (eqb kind 2) (Some (Error (Version low high)))
    (cond (eqb kind 3) (Some (Error Chunk))
    None)))

-- How many segments each write chunk has.
abbrev pub counts_in : List ℕ → List ℕ
counts_in w = take max_write_chunks (drop write_counts_at w)

-- The header that words hold, its kind and presence known.
abbrev pub header_as : List ℕ → Kind → Bool → Header
header_as w kind present = record {
  reads = record { segments = reads_in w; count = get_or w read_count_at 0 };
  writes = record { segments = segments_in writes_at w; counts = counts_in w; chunks = get_or w write_chunks_at 0 };
  reply = record { segments = segments_in reply_at w; count = get_or w reply_count_at 0; present = present };
  kind = kind;
  xid = get_or w xid_at 0;
  credit = get_or w credit_at 0;
}

-- The header that words hold; none where the kind or the flag is a number that stands for nothing.
abbrev pub header_found : List ℕ → Option Kind → Bool → maybe.Option Header
header_found w None fits = maybe.none
header_found w (Some kind) false = maybe.none
header_found w (Some kind) true = maybe.some (header_as w kind (eqb (get_or w reply_present_at 0) 1))

unfoldable pub header_in : List ℕ → maybe.Option Header
header_in w = header_found w (kind_in (get_or w kind_at 0) (get_or w low_at 0) (get_or w high_at 0)) (leb (get_or w reply_present_at 0) 1)
