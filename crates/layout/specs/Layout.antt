-- Where each byte of a message goes (document 01, "Where each byte of a message goes").
use Rattle.std.specs.Prelude.{ℕ, ◌+◌, ◌-◌, ◌*◌, ◌/◌, ◌%◌, Bool, true, false, cond, not, ◌&&◌, ◌||◌, List, [], ◌∷◌, ◌++◌, ltb, leb, eqb}
use Rattle.answers.specs.Answers.{check}
use Rattle.wire.specs.declared.ReadSegment.{ReadSegment}
use Rattle.header.specs.declared.Kind.{Kind}
use Rattle.header.specs.declared.Kind.TheVariants.{Msg, Nomsg, Error}
use Rattle.layout.specs.Places.{from}
use Rattle.layout.specs.declared.Run.{Run}

-- A run of places: where it begins, and how many they are. A chunk is one, at its position and of its total length.
abbrev pub run : ℕ → ℕ → Run
run start size = record { at = start; length = size }

-- Whether any segment stands at position 0.
unfoldable pub any_at_zero : List ReadSegment → Bool
any_at_zero [] = false
any_at_zero (x ∷ xs) = eqb x.position 0 || any_at_zero xs

-- "At a start, 12 is given for an ERROR header, for MSG with any segment at position 0, and for NOMSG with none there."
abbrev pub kind_fits : Kind → Bool → Bool
kind_fits Msg atZero = not atZero
kind_fits Nomsg atZero = atZero
kind_fits (Error e) atZero = false

-- "the bytes of NOMSG's position-zero chunk": how many they are.
unfoldable pub zero_length : List ReadSegment → ℕ
zero_length [] = 0
zero_length (x ∷ xs) = cond (eqb x.position 0) x.target.length 0 + zero_length xs

-- "The base is MSG's inline payload, or the bytes of NOMSG's position-zero chunk. Let B be its length."
abbrev pub base_length : Kind → ℕ → List ReadSegment → ℕ
base_length Msg inline reads = inline
base_length Nomsg inline reads = zero_length reads
base_length (Error e) inline reads = inline

-- "Read segments with the same position form one chunk.": bytes at a position join the chunk that stands there. Chunks stand by position.
unfoldable pub join_chunk : ℕ → ℕ → List Run → List Run
join_chunk position size [] = run position size ∷ []
join_chunk position size (c ∷ cs) =
    cond (ltb position c.at) (run position size ∷ c ∷ cs)
    (cond (eqb position c.at) (run position (size + c.length) ∷ cs)
    (c ∷ join_chunk position size cs))

-- "Let the other chunks stand at positions p1 < p2 < ..., with total lengths L1, L2, ..."
unfoldable pub other_chunks : List ReadSegment → List Run
other_chunks [] = []
other_chunks (x ∷ xs) = cond (eqb x.position 0) (other_chunks xs) (join_chunk x.position x.target.length (other_chunks xs))

-- "let Ri be Li rounded up to a multiple of 4"
unfoldable pub rounded_up : ℕ → ℕ
rounded_up l = (l + 3) / 4 * 4

-- R1 + R2 + ..
unfoldable pub rounded_total : List Run → ℕ
rounded_total [] = 0
rounded_total (c ∷ cs) = rounded_up c.length + rounded_total cs

-- "Chunk i must stand at or behind the end of the former one: pi is at least p(i-1) + R(i-1)." "Take from pi all R of earlier chunks; the rest is at most B."
-- `end` is where the former chunk ends, `earlier` all R of earlier chunks.
unfoldable pub stands : ℕ → ℕ → ℕ → List Run → Bool
stands base end earlier [] = true
stands base end earlier (c ∷ cs) =
    leb end c.at && (leb (c.at - earlier) base && stands base (c.at + rounded_up c.length) (earlier + rounded_up c.length) cs)

-- "The message has B + R1 + R2 + ... bytes."
abbrev pub message_length : ℕ → List Run → ℕ
message_length base cs = base + rounded_total cs

-- "and then 12, 13, 14, 15, 16": kind, whether a segment stands at 0, base length, other chunks and buffer length.
unfoldable pub place_number : Kind → Bool → ℕ → List Run → ℕ → ℕ
place_number kind atZero base cs room =
    check (kind_fits kind atZero) 12
    (check (eqb (base % 4) 0) 13
    (check (stands base 0 0 cs) 14
    (check (leb (message_length base cs) 1048576) 15
    (check (leb (message_length base cs) room) 16
    0))))

-- The places of runs, one behind the other.
unfoldable pub places : List Run → List ℕ
places [] = []
places (r ∷ rs) = from r.at r.length ++ places rs

-- The runs from `start` up to `end` that lie in no chunk and no padding.
unfoldable pub gaps : ℕ → ℕ → List Run → List Run
gaps start end [] = run start (end - start) ∷ []
gaps start end (c ∷ cs) = run start (c.at - start) ∷ gaps (c.at + rounded_up c.length) end cs

-- "then Ri - Li zero bytes"
unfoldable pub paddings : List Run → List Run
paddings [] = []
paddings (c ∷ cs) = run (c.at + c.length) (rounded_up c.length - c.length) ∷ paddings cs

-- "The base fills all other places in order."
unfoldable pub base_places : ℕ → List Run → List ℕ
base_places base cs = places (gaps 0 (message_length base cs) cs)

-- The places of all padding.
unfoldable pub padding_places : List Run → List ℕ
padding_places cs = places (paddings cs)

-- "Its pulled places are, for NOMSG, those of the base in order, then for each other chunk, by position, the Li from pi on"
unfoldable pub pulled_places : Kind → ℕ → List Run → List ℕ
pulled_places Msg base cs = places cs
pulled_places Nomsg base cs = base_places base cs ++ places cs
pulled_places (Error e) base cs = []
