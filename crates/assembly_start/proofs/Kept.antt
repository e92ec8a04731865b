-- What a crate above may rely on: lengths that stay, refusals that change nothing, and states that can arise.
-- Assumes nothing.
use mathlib.Core.Path.{◌≡◌, refl, ap, ◌∙◌}
use mathlib.Core.Bool.{Bool, true, false, cond}
use mathlib.Core.List.{List}
use Prim.Native.Nat.{ℕ, ◌≤◌, ◌<◌}
use borrow.Author.Tests.{ne_eqb}
use lib.ListN.{length}
use lib.Dec.{eqb}
use Rattle.chunk_lists.specs.Parsed.{Parsed, refused, done}
use Rattle.header.specs.Content.{Content}
use Rattle.reader.specs.Frame.{read_frame}
use Rattle.header.specs.Words.{kind_number}
use Rattle.reader.proofs.FrameParts.{frame_parts}
use Rattle.read_order.specs.ReadOrder.{sorted}
use Rattle.read_order.proofs.Sorting.{length_sorted}
use Rattle.layout.specs.Layout.{any_at_zero, other_chunks}
use Rattle.layout.proofs.Scatter.{length_scatter}
use Rattle.assembly_start.specs.Start.{base_of, start_number, start_state, start_writes, started_buffer, start_buffer, start_words}
use Rattle.assembly_state.specs.Words.{state_in, state_words}
use Rattle.layout.proofs.Passed.{place_passed, kind_known}
use Rattle.assembly_state.proofs.Words.{padded_length, state_back, length_state}

-- A start keeps the buffer's length; a refused one leaves buffer and words.
started_length : (p : Parsed Content) (out : List ℕ) → length (started_buffer p out) ≡ length out
unfolding start_writes
started_length (refused n) out = refl
started_length (done c inline) out = simp length_scatter

pub start_length : (p : Parsed Content) (out : List ℕ) → length (start_buffer p out) ≡ length out
unfolding start_buffer
start_length p out = by (eqb (start_number p (length out)) 0)
  where
    by : (b : Bool) → length (cond b (started_buffer p out) out) ≡ length out
    by true = started_length p out
    by false = refl

pub start_refused : (p : Parsed Content) (out : List ℕ) → (start_number p (length out) ≡ 0 → ⊥) → start_buffer p out ≡ out
unfolding start_buffer
start_refused p out n = simp (ne_eqb _ _ n)

pub start_words_refused : (p : Parsed Content) (room : ℕ) (w : List ℕ) → (start_number p room ≡ 0 → ⊥) → start_words p room w ≡ w
unfolding start_words
start_words_refused (refused n) room w h = refl
start_words_refused (done c inline) room w h = simp (ne_eqb _ _ h)

-- After an accepted start, whatever the words held before.
module _ (frame : List ℕ) (room : ℕ) (c : Content) (inline : List ℕ) (read : read_frame frame ≡ done c inline) (ok : start_number (done c inline) room ≡ 0) where
  few : length (sorted c.reads) ≤ 16
  few = rw (length_sorted c.reads) (frame_parts frame c inline read).reads_few

  full : length (start_state c inline room).reads.segments ≡ 16
  full = padded_length (sorted c.reads) few

  known : kind_number c.kind < 2
  unfolding start_number
  known = kind_known c.kind (any_at_zero c.reads) (place_passed c.kind (any_at_zero c.reads) (base_of c inline) (other_chunks c.reads) room ok).fits

  pub started_words : (w : List ℕ) → start_words (read_frame frame) room w ≡ state_words (start_state c inline room)
  unfolding start_words
  started_words w = simp (read, ok)

  -- The words hold the state of the start.
  pub started_long : (w : List ℕ) → length (start_words (read_frame frame) room w) ≡ 104
  started_long w = rw (started_words w) (length_state (start_state c inline room) full)

  pub started_held : (w : List ℕ) → state_in (start_words (read_frame frame) room w) ≡ start_state c inline room
  started_held w = ap state_in (started_words w) ∙ state_back (start_state c inline room) full known
