-- Order 3: one who pulls what the list of the state says gets the message that the wire list defines.
-- Assumes nothing.
use mathlib.Core.Path.{◌≡◌, refl, sym, ap, ◌∙◌}
use mathlib.Core.Bool.{true}
use mathlib.Core.List.{List, [], ◌∷◌, append-nil}
use Prim.Native.Nat.{ℕ, ◌+◌, ◌≤◌}
use native.Mathlib.Omega.{arith}
use lib.ListN.{length, length-append, length-take}
use borrow.Author.Tests.{le-leb}
use Rattle.wire.specs.Wire.{joined}
use Rattle.wire.specs.Fits.{AllBytes, AllWords, All, ReadSegmentFits}
use Rattle.wire.specs.declared.ReadSegment.{ReadSegment}
use Rattle.chunk_lists.specs.Parsed.{Parsed, done}
use Rattle.chunk_lists.specs.Lists.{read_list}
use Rattle.chunk_lists.specs.Words.{reads_in}
use Rattle.chunk_lists.proofs.WordsFit.{reads_fit}
use Rattle.header.specs.Bytes.{read_list_bytes}
use Rattle.header.proofs.Contents.{all_take}
use Rattle.reader.proofs.ReadBack.{read_list_back}
use Rattle.header.specs.Content.{Content}
use Rattle.reader.specs.Frame.{read_frame}
use Rattle.read_order.specs.ReadOrder.{sorted}
use Rattle.layout.specs.Internal.Walks.{read_length}
use Rattle.layout.proofs.Passed.{base_again}
use Rattle.layout.proofs.Unseen.{read_sorted}
use Rattle.layout.proofs.ByChunk.{pulled_by_chunk}
use Rattle.placing.proofs.Segments.{pulled_read, base_pulled, read_length_lem}
use Rattle.assembly_state.specs.Words.{state_in}
use Rattle.assembly_start.specs.Start.{base_of, start_number, start_answer, start_words}
use Rattle.assembly.specs.Assembly.{reads_of, can_arise}
use Rattle.assembly.proofs.Arises.{arises}
use Rattle.assembly.proofs.Kept.{started_list}
use Rattle.theorems.specs.Message.{bytes_by_chunk}
use Rattle.theorems.specs.Calls.{Call, piece, start_then}
use Rattle.theorems.specs.Tally.{pulled_places_of, tally}
use Rattle.theorems.specs.Demands.{taken_bytes, Finished}
use Rattle.theorems.specs.Exports.{export_then}
use Rattle.theorems.proofs.TallySettles.{settled}
use Rattle.theorems.proofs.Started.{passed, uncut_tallied}
use Rattle.theorems.proofs.Message.{finished_left}
use Rattle.theorems.proofs.Exports.{exports_same}

-- The list of a state that can arise passes 7 and 9 as the reader has them: its bytes read as that list.
pub state_reads : (w : List ℕ) → AllWords w → can_arise (state_in w) ≡ true → read_list 16 (read_list_bytes (reads_of (state_in w))) ≡ done (reads_of (state_in w)) []
state_reads w f e =
    let a = arises (state_in w) e in
    let few = a.few in
    let fit : All ReadSegmentFits (reads_of (state_in w)) = all_take ReadSegmentFits (state_in w).reads.count (reads_in w) (reads_fit w f) in
    ap (read_list 16) (sym (append-nil (read_list_bytes (reads_of (state_in w))))) ∙ read_list_back (reads_of (state_in w)) [] 16 fit (rw length-take (omega arith)) a.aligned

-- The state behind an accepted start holds the sorted list, whatever the words held before.
pub state_list : (frame : List ℕ) (room : ℕ) (w : List ℕ) (c : Content) (inline : List ℕ) → read_frame frame ≡ done c inline → start_number (read_frame frame) room ≡ 0 → reads_of (state_in (start_words (read_frame frame) room w)) ≡ sorted c.reads
state_list frame room w c inline read ok = started_list frame room c inline read (ap (λ (p : Parsed Content). start_number p room) (sym read) ∙ ok) w

module _ (bytes : ReadSegment → List ℕ) (long : (x : ReadSegment) → length (bytes x) ≡ x.target.length) where
  length_joined : (xs : List ReadSegment) → length (joined bytes xs) ≡ read_length xs
  unfolding joined read_length
  length_joined [] = refl
  length_joined (x ∷ xs) = length-append (bytes x) (joined bytes xs) ∙ rw (long x, length_joined xs)

  module _ (frame out : List ℕ) (c : Content) (inline : List ℕ) (b : AllBytes frame) (read : read_frame frame ≡ done c inline) (ok : (start_answer (read_frame frame) (length out)).number ≡ 0) where
    -- The bytes of all segments are as many as are to be pulled.
    all_bytes : length (joined bytes (sorted c.reads)) ≡ length (pulled_places_of c inline)
    all_bytes =
        let p = passed frame out c inline b read ok in
        length_joined (sorted c.reads) ∙ read_sorted c.reads
        ∙ sym (read_length_lem (base_of c inline) c.reads p.stand (base_pulled c.kind (base_of c inline) c.reads p.fits (base_again c.kind (length inline) c.reads)))
        ∙ ap length (sym (pulled_read c.kind (base_of c inline) c.reads p.fits))

    -- Calls whose taken bytes are those, in sorted order.
    sorted_finished : (calls : List Call) → taken_bytes calls (start_then frame out calls).outcomes ≡ joined bytes (sorted c.reads) → Finished c inline out (joined bytes (sorted c.reads)) (start_then frame out calls)
    sorted_finished calls = rw (uncut_tallied frame out c inline b read ok calls) (λ e.
        finished_left frame out c inline b read ok (joined bytes (sorted c.reads)) all_bytes _ (settled c inline out _ calls (sym e)))

    list_is : (w : List ℕ) → joined bytes (reads_of (state_in (start_words (read_frame frame) (length out) w))) ≡ joined bytes (sorted c.reads)
    list_is w = ap (joined bytes) (state_list frame (length out) w c inline read ok)

    pub pulled_finished : (calls : List Call) → taken_bytes calls (start_then frame out calls).outcomes ≡ joined bytes (reads_of (state_in (start_answer (read_frame frame) (length out)).state)) →
        Finished c inline out (bytes_by_chunk bytes c.reads) (start_then frame out calls)
    pulled_finished calls e = rw (← pulled_by_chunk c.reads bytes) (sorted_finished calls (e ∙ list_is _))

    pub export_finished : (before : List ℕ) (size : ℕ) (calls : List Call) →
        taken_bytes calls (export_then frame out before size calls).outcomes ≡ joined bytes (reads_of (state_in (start_words (read_frame frame) (length out) before))) →
        Finished c inline out (bytes_by_chunk bytes c.reads) (export_then frame out before size calls)
    export_finished before size calls = rw (exports_same frame out before size c inline read ok calls) (λ e. rw (← pulled_by_chunk c.reads bytes) (sorted_finished calls (e ∙ list_is before)))

    -- There are such calls: all of it in one piece.
    fits : (t : List ℕ) → t ≡ joined bytes (sorted c.reads) → 0 + length t ≤ length (pulled_places_of c inline)
    fits t e = let same : length t ≡ length (pulled_places_of c inline) = ap length e ∙ all_bytes in omega arith

    pub taken_at_once : (t : List ℕ) → t ≡ joined bytes (reads_of (state_in (start_answer (read_frame frame) (length out)).state)) → taken_bytes (piece t ∷ []) (start_then frame out (piece t ∷ [])).outcomes ≡ t
    unfolding taken_bytes tally
    taken_at_once t e = rw (uncut_tallied frame out c inline b read ok (piece t ∷ []), le-leb (0 + length t) (length (pulled_places_of c inline)) (fits t (e ∙ list_is _))) (append-nil t)
