-- Demand 3: cutting changes nothing.
-- Assumes nothing.
use mathlib.Core.Path.{◌≡◌, refl, sym, ◌∙◌}
use mathlib.Core.List.{List, [], ◌∷◌}
use Prim.Native.Nat.{ℕ}
use native.Mathlib.Omega.{arith}
use lib.ListN.{length}
use Rattle.wire.specs.declared.ReadSegment.{ReadSegment}
use Rattle.chunk_lists.specs.Parsed.{done}
use Rattle.header.specs.Content.{Content}
use Rattle.reader.specs.Frame.{read_frame}
use Rattle.assembly_start.specs.Start.{start_answer}
use Rattle.wire.specs.Fits.{AllBytes}
use Rattle.theorems.specs.Calls.{Call, piece, Ending, start_then}
use Rattle.theorems.specs.Tally.{tally}
use Rattle.theorems.specs.Cuts.{CutOf, cut_frame}
use Rattle.theorems.specs.Demands.{Unchanged}
use Rattle.theorems.proofs.TallySettles.{settled, in_one_piece, same_ending}
use Rattle.theorems.proofs.Started.{cut_accepted, cut_tallied, uncut_tallied}
use Rattle.theorems.proofs.Message.{finished_left}

-- What gives the plain tally for every cut and for the frame itself is unchanged by a cut.
module _ (run : List ℕ → List Call → Ending) (frame out : List ℕ) (c : Content) (inline : List ℕ) (b : AllBytes frame) (read : read_frame frame ≡ done c inline) (ok : (start_answer (read_frame frame) (length out)).number ≡ 0) (cut-run : (cut : List ReadSegment) → CutOf c.reads cut → (calls : List Call) → run (cut_frame frame c.reads cut) calls ≡ tally c inline out [] calls) (uncut-run : (calls : List Call) → run frame calls ≡ tally c inline out [] calls) where
  pub unchanged : (cut : List ReadSegment) → CutOf c.reads cut → Unchanged run frame out c inline cut
  unchanged cut k = record {
    accepted = cut_accepted frame out c inline b read ok cut k;
    tallied = cut-run cut k;
    compared = λ other l calls others. rw (cut-run cut k calls, cut-run other l others) (λ e.
        same_ending (settled c inline out _ calls refl ∙ sym (settled c inline out _ others e)));
    all_in = λ calls t. rw (cut-run cut k calls, uncut-run (piece t ∷ [])) (λ e full.
        let s = settled c inline out t calls e in
        (finished_left frame out c inline b read ok t full _ s, same_ending (s ∙ sym (in_one_piece c inline out t (omega arith)))));
  }

-- "Cutting changes nothing. Take any accepted start and any cut of its read list as 01 defines it"
pub cutting_changes_nothing : (frame out : List ℕ) (c : Content) (inline : List ℕ) → AllBytes frame → read_frame frame ≡ done c inline → (start_answer (read_frame frame) (length out)).number ≡ 0 →
    (cut : List ReadSegment) → CutOf c.reads cut → Unchanged (λ f. start_then f out) frame out c inline cut
cutting_changes_nothing frame out c inline b read ok =
    unchanged (λ f. start_then f out) frame out c inline b read ok (cut_tallied frame out c inline b read ok) (uncut_tallied frame out c inline b read ok)
