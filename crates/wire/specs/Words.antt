-- Structs that a caller holds and lends: words of 32 bits, in the order that C has them in memory.
use Rattle.std.specs.Prelude.{ℕ, ◌+◌, ◌*◌, ◌/◌, ◌%◌, Bool, true, false, List, [], ◌∷◌, get_or, drop}
use Rattle.wire.specs.declared.Segment.{Segment}
use Rattle.wire.specs.declared.ReadSegment.{ReadSegment}

-- A number of 64 bits is two words, the low one first.
abbrev pub join_words : ℕ → ℕ → ℕ
join_words low high = high * 4294967296 + low

abbrev pub number_in : List ℕ → ℕ → ℕ
number_in w k = join_words (get_or w k 0) (get_or w (k + 1) 0)

abbrev pub number_words : ℕ → List ℕ
number_words x = x % 4294967296 ∷ x / 4294967296 ∷ []

-- A flag is a word, 0 or 1.
abbrev pub flag_number : Bool → ℕ
flag_number true = 1
flag_number false = 0

-- A segment is four words: handle, length, and the two of its offset.
abbrev pub segment_size : ℕ
segment_size = 4

abbrev pub handle_at : ℕ
handle_at = 0

abbrev pub length_at : ℕ
length_at = 1

abbrev pub offset_at : ℕ
offset_at = 2

unfoldable pub segment_in : List ℕ → Segment
segment_in w = record { handle = get_or w handle_at 0; length = get_or w length_at 0; offset = number_in w offset_at }

unfoldable pub segment_words : Segment → List ℕ
segment_words x = x.handle ∷ x.length ∷ number_words x.offset

-- A read segment is six: its position, a reserved word, and the segment. The reserved word is zero in what a call makes and ignored in what it is given.
abbrev pub read_segment_size : ℕ
read_segment_size = 6

abbrev pub position_at : ℕ
position_at = 0

abbrev pub target_at : ℕ
target_at = 2

unfoldable pub read_segment_in : List ℕ → ReadSegment
read_segment_in w = record { position = get_or w position_at 0; target = segment_in (drop target_at w) }

unfoldable pub read_segment_words : ReadSegment → List ℕ
read_segment_words x = x.position ∷ 0 ∷ segment_words x.target
