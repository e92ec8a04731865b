-- An accepted start, of a frame or of a cut of it, and then any calls: what the plain tally gives.
-- Assumes nothing.
use mathlib.Core.Path.{◌≡◌, sym, ap, ◌∙◌}
use mathlib.Core.List.{List, []}
use Prim.Native.Nat.{ℕ}
use lib.ListN.{length}
use Rattle.wire.specs.declared.ReadSegment.{ReadSegment}
use Rattle.chunk_lists.specs.Parsed.{Parsed, done}
use Rattle.header.specs.Content.{Content}
use Rattle.reader.specs.Frame.{read_frame}
use Rattle.layout.specs.Layout.{any_at_zero, other_chunks}
use Rattle.assembly_start.specs.Start.{base_of, start_number, start_answer}
use Rattle.assembly_state.specs.State.{no_state}
use Rattle.assembly_state.specs.Words.{state_words}
use Rattle.layout.proofs.Passed.{Passed, place_passed}
use Rattle.wire.specs.Fits.{AllBytes}
use Rattle.theorems.specs.Calls.{Call, start_then}
use Rattle.theorems.specs.Tally.{tally}
use Rattle.theorems.specs.Cuts.{cut_frame, cut_then, CutOf}
use Rattle.reader.proofs.FrameRead.{frame_done}
use Rattle.theorems.proofs.Cutting.{with_reads}
use Rattle.theorems.proofs.CutFrame.{uncut, cut_of_itself, cut_read}
use Rattle.theorems.proofs.Lent.{started_run}
use Rattle.theorems.proofs.Tallied.{cut_number, tallied}

module _ (frame out : List ℕ) (c : Content) (inline : List ℕ) (b : AllBytes frame) (read : read_frame frame ≡ done c inline) (ok : (start_answer (read_frame frame) (length out)).number ≡ 0) where
  zero_number : start_number (done c inline) (length out) ≡ 0
  zero_number = ap (λ (p : Parsed Content). start_number p (length out)) (sym read) ∙ ok

  pub passed : Passed c.kind (any_at_zero c.reads) (base_of c inline) (other_chunks c.reads) (length out)
  unfolding start_number
  passed = place_passed c.kind (any_at_zero c.reads) (base_of c inline) (other_chunks c.reads) (length out) zero_number

  module _ (cut : List ReadSegment) (k : CutOf c.reads cut) where
    read_cut : read_frame (cut_frame frame c.reads cut) ≡ done (with_reads c cut) inline
    read_cut = cut_read frame c inline b read (any_at_zero c.reads) passed.fits cut k

    cut_zero : start_number (done (with_reads c cut) inline) (length out) ≡ 0
    cut_zero = cut_number c inline out cut zero_number (frame_done frame c inline b read).allowed.aligned k.cuts k.few

    pub cut_accepted : (start_answer (read_frame (cut_frame frame c.reads cut)) (length out)).number ≡ 0
    cut_accepted = rw read_cut cut_zero

    pub cut_tallied : (calls : List Call) → cut_then frame out c cut calls ≡ tally c inline out [] calls
    cut_tallied calls =
        started_run (cut_frame frame c.reads cut) out (with_reads c cut) inline read_cut cut_zero (state_words no_state) calls
        ∙ tallied c inline out cut zero_number (frame_done frame c inline b read).allowed.aligned k.cuts k.few calls

  itself : CutOf c.reads c.reads
  itself = cut_of_itself frame c inline b read (any_at_zero c.reads) passed.fits

  -- Demand 3's tally for the frame that arrived.
  pub uncut_tallied : (calls : List Call) → start_then frame out calls ≡ tally c inline out [] calls
  uncut_tallied calls = ap (λ (s : List ℕ). start_then s out calls) (sym (uncut frame c inline b read (any_at_zero c.reads) passed.fits)) ∙ cut_tallied c.reads itself calls
