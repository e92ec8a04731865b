-- The plain tally (document 01, "The plain tally of demand 3").
use Rattle.std.specs.Prelude.{ℕ, ◌+◌, Bool, cond, List, [], ◌∷◌, ◌++◌, length, take, leb, eqb}
use Rattle.header.specs.Content.{Content}
use Rattle.layout.specs.Places.{scatter}
use Rattle.layout.specs.Layout.{other_chunks, message_length, pulled_places}
use Rattle.assembly_start.specs.Start.{base_of, start_writes}
use Rattle.theorems.specs.Calls.{Call, piece, asking, Outcome, gives, Ending, answered}

-- "Its pulled places are, for NOMSG, those of the base in order, then for each other chunk, by position, the Li from pi on; N is their number."
abbrev pub pulled_places_of : Content → List ℕ → List ℕ
pulled_places_of c inline = pulled_places c.kind (base_of c inline) (other_chunks c.reads)

-- "The buffer is as before the start, but with an inline base and all padding at their places and byte k of T at pulled place k."
unfoldable pub tally_buffer : Content → List ℕ → List ℕ → List ℕ → List ℕ
tally_buffer c inline out t = scatter (pulled_places_of c inline) t (start_writes (base_of c inline) (other_chunks c.reads) inline out)

-- "if T's length and its own make at most N"
abbrev pub has_room : Content → List ℕ → List ℕ → List ℕ → Bool
has_room c inline t v = leb (length t + length v) (length (pulled_places_of c inline))

-- "the number is 0 and T grows by it; else 18, and T stays"
abbrev pub grown : Content → List ℕ → List ℕ → List ℕ → List ℕ
grown c inline t v = cond (has_room c inline t v) (t ++ v) t

-- "if T's length is N"
abbrev pub is_full : Content → List ℕ → List ℕ → Bool
is_full c inline t = eqb (length t) (length (pulled_places_of c inline))

-- "the message, which is the first B + R1 + R2 + ... bytes of the tally's buffer"
abbrev pub tally_message : Content → List ℕ → List ℕ → List ℕ → List ℕ
tally_message c inline out t = take (message_length (base_of c inline) (other_chunks c.reads)) (tally_buffer c inline out t)

-- "Asking: if T's length is N, 0 and the message ..; else 19 and an empty part"
abbrev pub tally_asked : Content → List ℕ → List ℕ → List ℕ → Outcome
tally_asked c inline out t = cond (is_full c inline t) (gives 0 (tally_message c inline out t)) (gives 19 [])

-- "The plain tally of demand 3 is fed the uncut frame, the buffer before the start, and the list of calls, each taking with its piece. .. It keeps only T, the bytes taken, none at first." "The count is T's length."
unfoldable pub tally : Content → List ℕ → List ℕ → List ℕ → List Call → Ending
tally c inline out t [] = record { outcomes = []; count = length t; buffer = tally_buffer c inline out t; asked = tally_asked c inline out t }
tally c inline out t (piece v ∷ calls) = answered (gives (cond (has_room c inline t v) 0 18) []) (tally c inline out (grown c inline t v) calls)
tally c inline out t (asking ∷ calls) = answered (tally_asked c inline out t) (tally c inline out t calls)
