-- The three lists of a header, read (document 01, "The header on the wire" and "The numbers and their order"; document 02, order 3).
use Rattle.std.specs.Prelude.{ℕ, zero, suc, ◌-◌, ◌*◌, ◌%◌, Bool, true, cond, ◌&&◌, List, [], ◌∷◌, length, drop, leb, eqb, Result, Ok, Err}
use Rattle.std.proofs.Math.Option.{Option, none, some}
use Rattle.wire.specs.Wire.{word_at, word_of, segment_at, read_segment_at}
use Rattle.wire.specs.declared.Segment.{Segment}
use Rattle.wire.specs.declared.ReadSegment.{ReadSegment}
use Rattle.chunk_lists.specs.Parsed.{Parsed, refused, done, and_then, require, prepend, each}
use Rattle.chunk_lists.specs.declared.Marker.{Marker}
use Rattle.chunk_lists.specs.declared.Marker.TheVariants as marker

-- "Limits: 16 read segments; 4 write chunks holding 16 segments together; 16 segments in the reply chunk"
abbrev pub max_read_segments : ℕ
max_read_segments = 16

abbrev pub max_write_chunks : ℕ
max_write_chunks = 4

abbrev pub max_write_segments : ℕ
max_write_segments = 16

abbrev pub max_reply_segments : ℕ
max_reply_segments = 16

-- What a word decides; 5 where it is not there.
abbrev pub after_word : {A : Type 0} → Result ℕ ℕ → (ℕ → Parsed A) → Parsed A
after_word (Err n) next = refused n
after_word (Ok x) next = next x

-- "a marker word 1, an entry ..; a marker word 0 ends it", and "a marker word above 1": 6.
abbrev pub marker_word : Result ℕ ℕ → Result Marker ℕ
marker_word (Err n) = Err n
marker_word (Ok m) = cond (eqb m 0) (Ok marker.End) (cond (eqb m 1) (Ok marker.Entry) (Err 6))

unfoldable pub marker_of : List ℕ → Result Marker ℕ
marker_of s = marker_word (word_of s)

-- "Each list is optional data as XDR has it": `absent` where a marker 0 stands; behind a marker 1 `present` goes on.
abbrev pub after_marker : {A : Type 0} → Result Marker ℕ → List ℕ → A → (List ℕ → Parsed A) → Parsed A
after_marker (Err n) t absent present = refused n
after_marker (Ok marker.End) t absent present = done absent t
after_marker (Ok marker.Entry) t absent present = present t

abbrev pub optional : {A : Type 0} → A → (List ℕ → Parsed A) → List ℕ → Parsed A
optional absent present s = after_marker (marker_of s) (drop 4 s) absent present

-- "a read position that is no multiple of 4" (9)
abbrev pub is_aligned : ℕ → Bool
is_aligned position = eqb (position % 4) 0

-- "An entry is position, handle, length, offset: 20 bytes." "its 20 bytes (5), then 9", as mended by order 3: "8 is never given again".
unfoldable pub read_entry : List ℕ → Parsed ReadSegment
read_entry s = require (leb 20 (length s)) 5 (require (is_aligned (word_at s 0)) 9 (done (read_segment_at s 0) (drop 20 s)))

-- "For a read entry: marker (5, 6), limit (7), its 20 bytes (5), then 9", so mended: a list of at most `room` entries. "The reader and writer keep wire order." (order 3)
unfoldable pub read_list : ℕ → List ℕ → Parsed (List ReadSegment)
read_list zero s = optional [] (λ t. refused 7) s
read_list (suc room) s = optional [] (λ t. and_then (read_entry t) (λ x u. prepend x (read_list room u))) s

-- "positions .. pass .. 9": those of a list that is at hand.
unfoldable pub all_aligned : List ReadSegment → Bool
all_aligned [] = true
all_aligned (x ∷ xs) = is_aligned x.position && all_aligned xs

-- "that many segments of handle, length, offset: 16 bytes each", 5 where they are not there.
unfoldable pub segments : ℕ → List ℕ → Parsed (List Segment)
segments n s = require (leb (n * 16) (length s)) 5 (done (each 16 (λ t. segment_at t 0) n s) (drop (n * 16) s))

-- "count word (5), total of counts (7), segments (5)", where `left` segments may still come.
unfoldable pub counted : ℕ → List ℕ → Parsed (List Segment)
counted left s = after_word (word_of s) (λ n. require (leb n left) 7 (segments n (drop 4 s)))

-- "For a write entry: marker (5, 6), chunk limit (7), count word (5), total of counts (7), segments (5).": at most `room` chunks, `left` segments.
unfoldable pub write_list : ℕ → ℕ → List ℕ → Parsed (List (List Segment))
write_list zero left s = optional [] (λ t. refused 7) s
write_list (suc room) left s =
    optional [] (λ t. and_then (counted left t) (λ c u. prepend c (write_list room (left - length c) u))) s

-- "The reply chunk: marker, count word, limit, segments."
unfoldable pub reply_chunk : List ℕ → Parsed (Option (List Segment))
reply_chunk s = optional none (λ t. and_then (counted max_reply_segments t) (λ c u. done (some c) u)) s
