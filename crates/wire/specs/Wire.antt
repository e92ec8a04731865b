-- Words and segments on the wire (document 01, "The header on the wire").
use Rattle.std.specs.Prelude.{ℕ, ◌+◌, ◌*◌, ◌/◌, ◌%◌, cond, List, [], ◌∷◌, ◌++◌, length, get_or, leb, Result, Ok, Err}
use Rattle.std.proofs.lemmas.List.Edits.{sets}
use Rattle.wire.specs.declared.Segment.{Segment}
use Rattle.wire.specs.declared.ReadSegment.{ReadSegment}

-- "All numbers on the wire are big-endian 32-bit words": four bytes as one number, the first the highest.
abbrev pub join_bytes : ℕ → ℕ → ℕ → ℕ → ℕ
join_bytes a b c d = a * 16777216 + b * 65536 + c * 256 + d

-- The word in the bytes from k on.
unfoldable pub word_at : List ℕ → ℕ → ℕ
word_at s k = join_bytes (get_or s k 0) (get_or s (k + 1) 0) (get_or s (k + 2) 0) (get_or s (k + 3) 0)

-- "frame ends inside a field that must be there" (5): the first word of s, where s has its four bytes.
unfoldable pub word_of : List ℕ → Result ℕ ℕ
word_of s = cond (leb 4 (length s)) (Ok (word_at s 0)) (Err 5)

-- "handle, length, offset", of which "a segment's offset has 64 bits": the segment in the bytes from k on.
unfoldable pub segment_at : List ℕ → ℕ → Segment
segment_at s k =
    record { handle = word_at s k; length = word_at s (k + 4); offset = word_at s (k + 8) * 4294967296 + word_at s (k + 12) }

-- "An entry is position, handle, length, offset": the read segment in the bytes from k on.
unfoldable pub read_segment_at : List ℕ → ℕ → ReadSegment
read_segment_at s k = record { position = word_at s k; target = segment_at s (k + 4) }

-- An unused place.
abbrev pub zero_segment : Segment
zero_segment = record { handle = 0; length = 0; offset = 0 }

abbrev pub zero_read_segment : ReadSegment
zero_read_segment = record { position = 0; target = zero_segment }

-- A buffer or an array l with the elements v from place k on. (`sets` stores them one by one; no place behind l is written.)
unfoldable pub stored : {A : Type 0} → List A → ℕ → List A → List A
stored l k v = sets l k v

-- What f gives for each element, one behind the other.
unfoldable pub joined : {A B : Type 0} → (A → List B) → List A → List B
joined f [] = []
joined f (x ∷ xs) = f x ++ joined f xs

-- The four bytes of a word.
unfoldable pub word_bytes : ℕ → List ℕ
word_bytes x = x / 16777216 % 256 ∷ x / 65536 % 256 ∷ x / 256 % 256 ∷ x % 256 ∷ []

-- The bytes of a list of words.
unfoldable pub words : List ℕ → List ℕ
words ws = joined word_bytes ws

-- The 16 bytes of a segment.
unfoldable pub segment_bytes : Segment → List ℕ
segment_bytes x =
    word_bytes x.handle ++ word_bytes x.length ++ word_bytes (x.offset / 4294967296) ++ word_bytes (x.offset % 4294967296)

-- The 20 bytes of a read segment.
unfoldable pub read_segment_bytes : ReadSegment → List ℕ
read_segment_bytes x = word_bytes x.position ++ segment_bytes x.target
