-- A reassembly by the exports is one by the library: demands 2 and 3 hold at the C boundary as they stand.
-- Assumes nothing.
use mathlib.Core.Path.{◌≡◌, refl, sym, ap, ◌∙◌}
use mathlib.Core.Bool.{Bool, true, false, cond}
use mathlib.Core.List.{List, [], ◌∷◌}
use Prim.Native.Nat.{ℕ}
use lib.ListN.{length, take}
use lib.Dec.{eqb}
use Rattle.chunk_lists.specs.Parsed.{Parsed, done}
use Rattle.header.specs.Content.{Content}
use Rattle.reader.specs.Frame.{read_frame}
use Rattle.wire.specs.declared.ReadSegment.{ReadSegment}
use Rattle.layout.specs.Layout.{message_length, any_at_zero}
use Rattle.assembly_state.specs.State.{no_state}
use Rattle.assembly.specs.Assembly.{chunks_of, piece_number, piece_buffer, message_number, message_part, piece_words}
use Rattle.assembly_start.specs.Start.{start_number, start_buffer}
use Rattle.assembly_state.specs.Words.{state_in, state_words}
use Rattle.c_assembly.specs.Message.{message_size}
use Rattle.wire.specs.Fits.{AllBytes}
use Rattle.theorems.specs.Calls.{Call, piece, asking, Outcome, gives, answered, ask_outcome, run_calls, start_then}
use Rattle.theorems.specs.Tally.{tally}
use Rattle.theorems.specs.Cuts.{CutOf, cut_frame}
use Rattle.theorems.proofs.Cutting.{with_reads}
use Rattle.theorems.proofs.CutFrame.{cut_read}
use Rattle.theorems.proofs.Started.{passed, cut_accepted, cut_tallied, uncut_tallied}
use Rattle.theorems.specs.Demands.{taken_bytes, Finished, Unchanged}
use Rattle.theorems.proofs.Demand3.{unchanged}
use Rattle.theorems.proofs.Message.{finished}
use Rattle.theorems.specs.Exports.{export_outcome, run_exports, export_then}
use Rattle.assembly_start.proofs.Kept.{started_words}

-- The part that the export names is the message.
asked_same : (w out : List ℕ) (size : ℕ) → export_outcome w out size ≡ ask_outcome w out
unfolding message_size message_part
asked_same w out size = ap (gives (message_number (state_in w) (length out))) (by (eqb (message_number (state_in w) (length out)) 0))
  where
    by : (b : Bool) → cond b (take (cond b (message_length (state_in w).base (chunks_of (state_in w))) size) out) [] ≡ cond b (take (message_length (state_in w).base (chunks_of (state_in w))) out) []
    by true = refl
    by false = refl

run_same : (w out : List ℕ) (size : ℕ) (calls : List Call) → run_exports w out size calls ≡ run_calls w out calls
unfolding run_exports run_calls
run_same w out size [] = ap (λ (o : Outcome). record { outcomes = []; count = (state_in w).taken; buffer = out; asked = o }) (asked_same w out size)
run_same w out size (piece v ∷ calls) =
    ap (answered (gives (piece_number (state_in w) (length out) (length v)) [])) (run_same (piece_words w (length out) (length v)) (piece_buffer (state_in w) v out) size calls)
run_same w out size (asking ∷ calls) =
    rw (asked_same w out size) (ap (answered (ask_outcome w out)) (run_same w out (message_size (state_in w) (length out) size) calls))

-- After an accepted start, whatever the words and the size held before.
pub exports_same : (frame out w : List ℕ) (size : ℕ) (c : Content) (inline : List ℕ) → read_frame frame ≡ done c inline → start_number (read_frame frame) (length out) ≡ 0 → (calls : List Call) →
    export_then frame out w size calls ≡ start_then frame out calls
exports_same frame out w size c inline read ok calls =
    let zero_number : start_number (done c inline) (length out) ≡ 0 = ap (λ (p : Parsed Content). start_number p (length out)) (sym read) ∙ ok in
    run_same _ (start_buffer (read_frame frame) out) size calls
    ∙ ap (λ (x : List ℕ). run_calls x (start_buffer (read_frame frame) out) calls)
    (started_words frame (length out) c inline read zero_number w ∙ sym (started_words frame (length out) c inline read zero_number (state_words no_state)))

-- Demand 3 through the exports: any cut of an accepted start, and any list of calls.
pub exports_tallied : (frame out w : List ℕ) (size : ℕ) (c : Content) (inline : List ℕ) → AllBytes frame → read_frame frame ≡ done c inline → start_number (read_frame frame) (length out) ≡ 0 →
    (cut : List ReadSegment) → CutOf c.reads cut → (calls : List Call) → export_then (cut_frame frame c.reads cut) out w size calls ≡ tally c inline out [] calls
exports_tallied frame out w size c inline b read ok cut k calls =
    let fits = (passed frame out c inline b read ok).fits in
    exports_same (cut_frame frame c.reads cut) out w size (with_reads c cut) inline (cut_read frame c inline b read (any_at_zero c.reads) fits cut k) (cut_accepted frame out c inline b read ok cut k) calls
    ∙ cut_tallied frame out c inline b read ok cut k calls

-- So demand 3 holds through the exports, with all that it says.
pub exports_unchanged : (frame out w : List ℕ) (size : ℕ) (c : Content) (inline : List ℕ) → AllBytes frame → read_frame frame ≡ done c inline → start_number (read_frame frame) (length out) ≡ 0 →
    (cut : List ReadSegment) → CutOf c.reads cut → Unchanged (λ f. export_then f out w size) frame out c inline cut
exports_unchanged frame out w size c inline b read ok =
    unchanged (λ f. export_then f out w size) frame out c inline b read ok (exports_tallied frame out w size c inline b read ok)
    (λ calls. exports_same frame out w size c inline read ok calls ∙ uncut_tallied frame out c inline b read ok calls)

-- And demand 2, of a finished message.
pub exports_finished : (frame out w : List ℕ) (size : ℕ) (c : Content) (inline : List ℕ) → AllBytes frame → read_frame frame ≡ done c inline → start_number (read_frame frame) (length out) ≡ 0 →
    (calls : List Call) → (export_then frame out w size calls).asked.number ≡ 0 → Finished c inline out (taken_bytes calls (export_then frame out w size calls).outcomes) (export_then frame out w size calls)
exports_finished frame out w size c inline b read ok calls = rw (exports_same frame out w size c inline read ok calls) (finished frame out c inline b read ok calls)
