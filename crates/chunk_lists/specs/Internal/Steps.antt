-- What the functions under the readers answer, case by case, from the definitions of the lists.
use Rattle.std.specs.Prelude.{ℕ, zero, suc, ◌+◌, ◌-◌, ◌*◌, ◌≤◌, cond, List, [], ◌∷◌, map, length, drop, eqb, Option, Some, None, Result, Ok, Err}
use Rattle.wire.specs.Wire.{word_at, segment_at, read_segment_at, stored, joined}
use Rattle.wire.specs.declared.Segment.{Segment}
use Rattle.wire.specs.declared.ReadSegment.{ReadSegment}
use Rattle.chunk_lists.specs.Parsed.{Parsed, refused, done, each}
use Rattle.chunk_lists.specs.Lists.{marker_of, read_entry, counted}
use Rattle.chunk_lists.specs.declared.Marker.{Marker}
use Rattle.chunk_lists.specs.declared.Marker.TheVariants as marker
use Rattle.chunk_lists.specs.declared.Chunks.{Chunks}
use Rattle.chunk_lists.specs.declared.ListEnd.{ListEnd}
use Rattle.chunk_lists.specs.Words.{segments_words}

-- An entry of the read list, or the number.
abbrev pub entry_step : Parsed ReadSegment → Result Marker ℕ
entry_step (refused n) = Err n
entry_step (done x t) = Ok marker.Entry

-- What stands at the front of a list of at most `room` entries: a fault, its end, or an entry.
abbrev pub marked : {A : Type 0} → A → Result Marker ℕ → ℕ → Result A ℕ → Result A ℕ
marked end (Err n) room entry = Err n
marked end (Ok marker.End) room entry = Ok end
marked end (Ok marker.Entry) room entry = cond (eqb room 0) (Err 7) entry

unfoldable pub read_step : ℕ → List ℕ → Result Marker ℕ
read_step room s = marked marker.End (marker_of s) room (entry_step (read_entry (drop 4 s)))

-- How many entries stand at the front of a list of at most `room`, one behind the other.
abbrev pub one_more : Result Marker ℕ → ℕ → ℕ
one_more (Err n) behind = 0
one_more (Ok marker.End) behind = 0
one_more (Ok marker.Entry) behind = behind + 1

unfoldable pub entries_in_front : ℕ → List ℕ → ℕ
entries_in_front zero s = 0
entries_in_front (suc room) s = one_more (read_step (suc room) s) (entries_in_front room (drop 24 s))

-- A counted run of segments: how many, or the number.
abbrev pub count_step : Parsed (List Segment) → Result ℕ ℕ
count_step (refused n) = Err n
count_step (done c t) = Ok (length c)

-- A chunk of so many segments.
abbrev pub one_chunk : Result ℕ ℕ → Result (Option ℕ) ℕ
one_chunk (Err n) = Err n
one_chunk (Ok n) = Ok (Some n)

unfoldable pub chunk_step : ℕ → ℕ → List ℕ → Result (Option ℕ) ℕ
chunk_step room left s = marked None (marker_of s) room (one_chunk (count_step (counted left (drop 4 s))))

-- What may still come behind the chunks in front of a list of at most `room` chunks with at most `left` segments together.
abbrev pub behind_step : Result (Option ℕ) ℕ → Chunks → (ℕ → Chunks) → Chunks
behind_step (Err n) here further = here
behind_step (Ok None) here further = here
behind_step (Ok (Some n)) here further = further n

unfoldable pub room_behind : ℕ → ℕ → List ℕ → Chunks
room_behind zero left s = record { chunks = 0; segments = left }
room_behind (suc room) left s =
    behind_step (chunk_step (suc room) left s) (record { chunks = suc room; segments = left }) (λ n. room_behind room (left - n) (drop (8 + n * 16) s))

-- A whole list, behind `before` entries: how many entries there are then, and the bytes left behind it.
unfoldable pub list_check : {A : Type 0} → ℕ → Parsed (List A) → Result ListEnd ℕ
list_check before (refused n) = Err n
list_check before (done l t) = Ok (record { entries = before + length l; left = length t })

-- The chunks of a write list that was read, by their count words: the next count word stands behind a marker.
unfoldable pub chunks_at : ℕ → List ℕ → List (List Segment)
chunks_at zero s = []
chunks_at (suc n) s = each 16 (λ t. segment_at t 0) (word_at s 4) (drop 8 s) ∷ chunks_at n (drop (8 + word_at s 4 * 16) s)

-- All bytes of these chunks are there, and they have at most `left` segments together.
unfoldable pub ChunksFit : ℕ → ℕ → List ℕ → Type 0
ChunksFit zero left s = Unit {0}
ChunksFit (suc n) left s =
    (8 + word_at s 4 * 16 ≤ length s) × (word_at s 4 ≤ left) × ChunksFit n (left - word_at s 4) (drop (8 + word_at s 4 * 16) s)

-- The read segment behind a marker.
abbrev pub marked_segment_at : List ℕ → ReadSegment
marked_segment_at s = read_segment_at s 4

-- Words with the chunks cs of a write list stored: how many segments each has from word `counts` on, and all their segments from word `to` on.
unfoldable pub with_writes : List ℕ → ℕ → ℕ → List (List Segment) → List ℕ
with_writes w to counts cs = stored (stored w counts (map length cs)) to (segments_words (joined (λ c. c) cs))
