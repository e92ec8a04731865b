-- What the functions under the layout answer, from the definitions.
use Rattle.std.specs.Prelude.{ℕ, ◌+◌, ◌-◌, ◌<◌, ◌≤◌, Bool, true, cond, ◌&&◌, List, [], ◌∷◌, eqb, leb, Option, Some, None, Result, Ok, Err}
use Rattle.wire.specs.declared.ReadSegment.{ReadSegment}
use Rattle.chunk_lists.specs.Lists.{all_aligned}
use Rattle.read_order.specs.ReadOrder.{is_sorted}
use Rattle.header.specs.declared.Kind.{Kind}
use Rattle.layout.specs.Layout.{run, any_at_zero, zero_length, other_chunks, rounded_up, rounded_total, stands, message_length, place_number}
use Rattle.layout.specs.declared.Run.{Run}
use Rattle.layout.specs.declared.Sums.{Sums}
use Rattle.layout.specs.declared.Standing.{Standing}
use Rattle.layout.specs.declared.ReadsFound.{ReadsFound}

-- The bytes of chunks together: L1 + L2 + ..
unfoldable pub total_length : List Run → ℕ
total_length [] = 0
total_length (c ∷ cs) = c.length + total_length cs

-- The bytes of all segments.
unfoldable pub read_length : List ReadSegment → ℕ
read_length [] = 0
read_length (x ∷ xs) = x.target.length + read_length xs

-- What a read list makes together, and with a segment more.
abbrev pub sums_of : List ReadSegment → Sums
sums_of xs = record { zero_length = zero_length xs; any_zero = any_at_zero xs; all_length = read_length xs }

unfoldable pub sums_with : Sums → ReadSegment → Sums
sums_with s x =
    cond (eqb x.position 0) (record { zero_length = s.zero_length + x.target.length; any_zero = true; all_length = s.all_length + x.target.length })
    (record { zero_length = s.zero_length; any_zero = s.any_zero; all_length = s.all_length + x.target.length })

-- The chunk at hand behind a segment.
unfoldable pub joined_run : Run → ReadSegment → Run
joined_run w x =
    cond (eqb x.position 0) w
    (cond (eqb w.at x.position) (run w.at (w.length + x.target.length))
    (run x.position x.target.length))

-- The bytes of the chunk that a segment ends.
unfoldable pub ended_length : Run → ReadSegment → ℕ
ended_length w x = cond (eqb w.at x.position) 0 w.length

-- Position and length of a segment are words.
pub record Near (x : ReadSegment) : Type 0 where
  pub near_position : x.position < 4294967296
  pub near_length : x.target.length < 4294967296

-- The chunks behind a segment more, if it stands at or behind the end of the former chunk and within the base.
unfoldable pub standing_step : ℕ → Standing → ReadSegment → Option Standing
standing_step base w x =
    cond (leb (w.hand.at + rounded_up (ended_length w.hand x)) x.position && leb (x.position - (w.earlier + rounded_up (ended_length w.hand x))) base)
    (Some (record { hand = joined_run w.hand x; earlier = w.earlier + rounded_up (ended_length w.hand x) })) None

-- All rounded lengths, behind the last segment.
abbrev pub standing_length : Standing → ℕ
standing_length w = w.earlier + rounded_up w.hand.length

-- The numbers of a walk over at most 16 segments: no sum of a step wraps.
pub record Standable (w : Standing) : Type 0 where
  pub within : w.earlier ≤ w.hand.at
  pub at : w.hand.at ≤ 4294967295
  pub sum : w.earlier + w.hand.length ≤ 68719476800

-- The chunks stand, with the sum of their rounded lengths.
abbrev pub chunk_check : ℕ → List Run → Option ℕ
chunk_check base cs = cond (stands base 0 0 cs) (Some (rounded_total cs)) None

-- The list is sorted, its positions are multiples of 4 and its chunks stand: with the sums of its segments and of its chunks.
unfoldable pub reads_check : ℕ → List ReadSegment → Option ReadsFound
reads_check base reads =
    cond (is_sorted reads && (all_aligned reads && stands base 0 0 (other_chunks reads))) (Some (record { sums = sums_of reads; chunks = rounded_total (other_chunks reads) })) None

-- The length of the message, or the number of the check that fails.
unfoldable pub layout_check : Kind → ℕ → Bool → List Run → ℕ → Result ℕ ℕ
layout_check kind base atZero cs room = cond (eqb (place_number kind atZero base cs room) 0) (Ok (message_length base cs)) (Err (place_number kind atZero base cs room))

abbrev pub layout_number : Result ℕ ℕ → ℕ
layout_number (Ok message) = 0
layout_number (Err number) = number
