-- What demands 2 and 3 say of a reassembly.
use Rattle.std.specs.Prelude.{ℕ, ◌≡◌, cond, List, [], ◌∷◌, ◌++◌, length, drop, eqb}
use Rattle.wire.specs.declared.ReadSegment.{ReadSegment}
use Rattle.header.specs.Content.{Content}
use Rattle.reader.specs.Frame.{read_frame}
use Rattle.assembly_start.specs.Start.{start_answer}
use Rattle.theorems.specs.Message.{message_of}
use Rattle.theorems.specs.Calls.{Call, piece, asking, Outcome, gives, Ending}
use Rattle.theorems.specs.Tally.{pulled_places_of, tally}
use Rattle.theorems.specs.Cuts.{CutOf, cut_frame}

-- "taken bytes joined": the pieces whose own answer was 0, one behind the other.
unfoldable pub taken_bytes : List Call → List Outcome → List ℕ
taken_bytes [] outcomes = []
taken_bytes (call ∷ calls) [] = []
taken_bytes (piece v ∷ calls) (o ∷ outcomes) = cond (eqb o.number 0) (v ++ taken_bytes calls outcomes) (taken_bytes calls outcomes)
taken_bytes (asking ∷ calls) (o ∷ outcomes) = taken_bytes calls outcomes

-- "leave the same count, the same whole buffer and the same answer to an asking"
pub record SameEnding (x y : Ending) : Type 0 where
  pub same_count : x.count ≡ y.count
  pub same_buffer : x.buffer ≡ y.buffer
  pub same_answer : x.asked ≡ y.asked

-- Demand 2: "A finished message, its state and buffer handed on unaltered from call to call since its accepted start". The taken bytes joined are t.
pub record Finished (c : Content) (inline out t : List ℕ) (x : Ending) : Type 0 where
  -- "holds each inline byte, pulled byte and padding byte at its defined place, once"
  pub answer : x.asked ≡ gives 0 (message_of c inline t)
  -- "bytes behind its end are untouched"
  pub buffer : x.buffer ≡ message_of c inline t ++ drop (length (message_of c inline t)) out

-- Demand 3: "Cutting changes nothing. Take any accepted start and any cut of its read list as 01 defines it". `run` is what a start over a frame and then a list of calls give, by the library's calls or through the exports.
pub record Unchanged (run : List ℕ → List Call → Ending) (frame out : List ℕ) (c : Content) (inline : List ℕ) (cut : List ReadSegment) : Type 0 where
  -- "the cut start is accepted too, over the same buffer."
  pub accepted : (start_answer (read_frame (cut_frame frame c.reads cut)) (length out)).number ≡ 0
  -- "After it comes any list of these calls .. For every such cut and list, each answer number, each part handed back and, after the list, the count of bytes taken and the whole buffer are what 01's plain tally gives, which never sees the cut."
  pub tallied : (calls : List Call) → run (cut_frame frame c.reads cut) calls ≡ tally c inline out [] calls
  -- "So two cuts of one start, over equal buffers, with two lists whose taken bytes joined are the same, leave the same count, the same whole buffer and the same answer to an asking."
  pub compared : (other : List ReadSegment) → CutOf c.reads other → (calls others : List Call) →
      taken_bytes calls (run (cut_frame frame c.reads cut) calls).outcomes ≡ taken_bytes others (run (cut_frame frame c.reads other) others).outcomes →
      SameEnding (run (cut_frame frame c.reads cut) calls) (run (cut_frame frame c.reads other) others)
  -- "Once all bytes are in, that answer is 0 and the message of demand 2, as in one piece uncut."
  pub all_in : (calls : List Call) (t : List ℕ) → t ≡ taken_bytes calls (run (cut_frame frame c.reads cut) calls).outcomes → length t ≡ length (pulled_places_of c inline) →
      Finished c inline out t (run (cut_frame frame c.reads cut) calls) × SameEnding (run (cut_frame frame c.reads cut) calls) (run frame (piece t ∷ []))
