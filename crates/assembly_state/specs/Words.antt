-- The state of a reassembly as the words that a caller holds and lends.
use Rattle.std.specs.Prelude.{ℕ, cond, List, [], ◌∷◌, ◌++◌, get_or, eqb}
use Rattle.wire.specs.Wire.{stored}
use Rattle.wire.specs.Words.{number_in, number_words}
use Rattle.wire.specs.declared.ReadSegment.{ReadSegment}
use Rattle.chunk_lists.specs.Words.{reads_in, reads_words}
use Rattle.header.specs.Words.{kind_number}
use Rattle.header.specs.declared.Kind.{Kind}
use Rattle.header.specs.declared.Kind.TheVariants.{Msg, Nomsg, Error}
use Rattle.header.specs.declared.ErrorKind.TheVariants.{Chunk}
use Rattle.assembly_state.specs.State.{State}
use Rattle.assembly_state.specs.declared.Parts.{Parts}

-- Where each number stands: behind the places of the read list come the base length, the buffer length and the count, two words each, then the number of read segments and the kind, the last of 104.
abbrev pub base_at : ℕ
base_at = 96

abbrev pub buffer_at : ℕ
buffer_at = 98

abbrev pub taken_at : ℕ
taken_at = 100

abbrev pub count_at : ℕ
count_at = 102

abbrev pub state_kind_at : ℕ
state_kind_at = 103

-- No state that can arise is of an ERROR header: a number that is neither MSG nor NOMSG stands for one, which gets 17.
unfoldable pub state_kind : ℕ → Kind
state_kind n = cond (eqb n 0) Msg (cond (eqb n 1) Nomsg (Error Chunk))

-- All of a state but its read segments.
unfoldable pub parts_in : List ℕ → Parts
parts_in w = record {
  kind = state_kind (get_or w state_kind_at 0);
  count = get_or w count_at 0;
  base = number_in w base_at;
  buffer = number_in w buffer_at;
  taken = number_in w taken_at;
}

abbrev pub with_reads : List ReadSegment → Parts → State
with_reads segments p =
    record { reads = record { segments = segments; count = p.count }; kind = p.kind; base = p.base; buffer = p.buffer; taken = p.taken }

-- The state that words hold.
abbrev pub state_in : List ℕ → State
state_in w = with_reads (reads_in w) (parts_in w)

-- The words that hold a state.
abbrev pub parts_words : Parts → List ℕ
parts_words p = number_words p.base ++ (number_words p.buffer ++ (number_words p.taken ++ (p.count ∷ kind_number p.kind ∷ [])))

abbrev pub parts_of : State → Parts
parts_of s = record { kind = s.kind; count = s.reads.count; base = s.base; buffer = s.buffer; taken = s.taken }

unfoldable pub state_words : State → List ℕ
state_words s = reads_words s.reads.segments ++ parts_words (parts_of s)

-- "of the state only the count of bytes taken changes"
unfoldable pub with_taken : List ℕ → ℕ → List ℕ
with_taken w taken = stored w taken_at (number_words taken)
