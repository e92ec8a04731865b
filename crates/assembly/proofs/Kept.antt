-- What a crate above may rely on: lengths that stay, refusals that change nothing, and states that can arise.
-- Assumes nothing.
use mathlib.Core.Path.{◌≡◌, refl, ap, ◌∙◌}
use mathlib.Core.Bool.{Bool, true, false, cond, ◌&&◌, and-false}
use mathlib.Core.List.{List, []}
use Prim.Native.Nat.{ℕ, ◌+◌, ◌≤◌, ◌<◌}
use native.Mathlib.Omega.{arith}
use borrow.Author.Tests.{le-leb, eq-eqb, ne_eqb, leb-true}
use lib.ListN.{length, drop, get_or}
use lib.Seq.{take-append_seam}
use lib.Dec.{leb, eqb}
use Rattle.answers.proofs.Checks.{both_hold}
use Rattle.read_order.specs.ReadOrder.{sorted, is_sorted}
use Rattle.read_order.proofs.Sorting.{length_sorted, sorted_rises, aligned_sorted}
use Rattle.assembly_start.proofs.Kept.{started_held}
use Rattle.layout.proofs.Unseen.{others_sorted, any_sorted, base_sorted}
use Rattle.chunk_lists.specs.Parsed.{done}
use Rattle.header.specs.Content.{Content}
use Rattle.reader.specs.Frame.{read_frame}
use Rattle.reader.proofs.FrameParts.{frame_parts}
use Rattle.layout.specs.Layout.{other_chunks, place_number, pulled_places}
use Rattle.layout.specs.Places.{scatter}
use Rattle.layout.proofs.Passed.{base_again}
use Rattle.layout.proofs.Scatter.{length_scatter}
use Rattle.assembly_state.specs.State.{State}
use Rattle.assembly_start.specs.Start.{base_of, start_number, start_state, start_words}
use Rattle.assembly.proofs.Arises.{arises}
use Rattle.assembly.specs.Assembly.{reads_of, pulled_of, can_arise, fits_state, piece_number, piece_buffer, message_number, message_part, piece_words}
use Rattle.assembly_state.specs.Words.{state_kind_at, parts_in, state_in, with_taken}
use Rattle.assembly_state.proofs.Words.{other_kind, length_taken, state_taken}

-- So a piece.
pub piece_length : (s : State) (piece out : List ℕ) → length (piece_buffer s piece out) ≡ length out
unfolding piece_buffer
piece_length s piece out = by (eqb (piece_number s (length out) (length piece)) 0)
  where
    by : (b : Bool) → length (cond b (scatter (drop s.taken (pulled_of s)) piece out) out) ≡ length out
    by true = length_scatter (drop s.taken (pulled_of s)) piece out
    by false = refl

pub piece_refused : (s : State) (piece out : List ℕ) → (piece_number s (length out) (length piece) ≡ 0 → ⊥) → piece_buffer s piece out ≡ out
unfolding piece_buffer
piece_refused s piece out n = simp (ne_eqb _ _ n)

pub piece_words_refused : (w : List ℕ) (room size : ℕ) → (piece_number (state_in w) room size ≡ 0 → ⊥) → piece_words w room size ≡ w
unfolding piece_words
piece_words_refused w room size n = simp (ne_eqb _ _ n)

-- "it is empty where the numbered call refuses"
pub message_refused : (s : State) (out : List ℕ) → (message_number s (length out) ≡ 0 → ⊥) → message_part s out ≡ []
unfolding message_part
message_refused s out n = simp (ne_eqb _ _ n)

-- "of the state only the count of bytes taken changes"; "a refused piece hands back the state it got": the state behind a piece.
abbrev pub with_count : State → ℕ → State
with_count s taken = record { reads = s.reads; kind = s.kind; base = s.base; buffer = s.buffer; taken = taken }

unfoldable pub taken_state : State → ℕ → ℕ → State
taken_state s room size = cond (eqb (piece_number s room size) 0) (with_count s (s.taken + size)) s

-- The words behind a piece hold the state behind it.
pub piece_held : (w : List ℕ) (room size : ℕ) → length w ≡ 104 → (length (piece_words w room size) ≡ 104) × (state_in (piece_words w room size) ≡ taken_state (state_in w) room size)
unfolding piece_words taken_state
piece_held w room size long = by (eqb (piece_number (state_in w) room size) 0)
  where
    by : (b : Bool) → (length (cond b (with_taken w ((state_in w).taken + size)) w) ≡ 104) × (state_in (cond b (with_taken w ((state_in w).taken + size)) w) ≡ cond b (with_count (state_in w) ((state_in w).taken + size)) (state_in w))
    by true = (length_taken w long _, state_taken w long _)
    by false = (long, refl)

-- A state that fits a buffer fits it with another count, if that is not too large.
pub count_fits : (s : State) (room taken : ℕ) → fits_state s room ≡ true → taken ≤ length (pulled_of s) → fits_state (with_count s taken) room ≡ true
unfolding can_arise
count_fits s room taken e h =
    let fit = both_hold (can_arise s) _ e in
    let a = arises s fit.0 in
    rw (le-leb _ _ a.few, a.in_order, a.aligned, a.placed, eq-eqb _ _ a.based, le-leb taken (length (pulled_of s)) h, fit.1)

pub piece_fits : (s : State) (room size : ℕ) → fits_state s room ≡ true → fits_state (taken_state s room size) room ≡ true
unfolding taken_state piece_number
piece_fits s room size e = rw e (by (leb (s.taken + size) (length (pulled_of s))) refl)
  where
    by : (b : Bool) → leb (s.taken + size) (length (pulled_of s)) ≡ b → fits_state (cond (eqb (cond b 0 18) 0) (with_count s (s.taken + size)) s) room ≡ true
    by true q = count_fits s room (s.taken + size) e (leb-true _ _ q)
    by false q = e

-- After an accepted start.
module _ (frame : List ℕ) (room : ℕ) (c : Content) (inline : List ℕ) (read : read_frame frame ≡ done c inline) (ok : start_number (done c inline) room ≡ 0) where
  -- "A state can arise if ..": that of a start does, and fits its buffer.
  pub start_fits : fits_state (start_state c inline room) room ≡ true
  unfolding can_arise start_number
  start_fits =
      let reads : reads_of (start_state c inline room) ≡ sorted c.reads = take-append_seam (sorted c.reads) _ in
      rw (
        le-leb (length (sorted c.reads)) 16 (rw (length_sorted c.reads) (frame_parts frame c inline read).reads_few),
        reads,
        sorted_rises c.reads,
        aligned_sorted c.reads,
        (frame_parts frame c inline read).reads_aligned,
        any_sorted c.reads,
        others_sorted c.reads,
        ok,
        base_sorted c.kind (base_of c inline) c.reads,
        eq-eqb _ _ (base_again c.kind (length inline) c.reads),
        le-leb 0 (length (pulled_places c.kind (base_of c inline) (other_chunks c.reads))) (omega arith),
        eq-eqb room room refl,
      )

  -- Its list is the sorted one.
  pub started_list : (w : List ℕ) → reads_of (state_in (start_words (read_frame frame) room w)) ≡ sorted c.reads
  started_list w = ap reads_of (started_held frame room c inline read ok w) ∙ take-append_seam (sorted c.reads) _

-- "another buffer length than at the start" (17)
pub other_buffer : (s : State) (room size : ℕ) → (s.buffer ≡ room → ⊥) → (piece_number s room size ≡ 17) × (message_number s room ≡ 17)
unfolding piece_number message_number
other_buffer s room size n = rw (ne_eqb _ _ n, and-false) (refl, refl)

-- "A state whose list is not sorted gets 17."
not_sorted : (a b c : Bool) → ((a && (false && b)) && c) ≡ false
not_sorted true b c = refl
not_sorted false b c = refl

pub unsorted : (s : State) (room size : ℕ) → is_sorted (reads_of s) ≡ false → (piece_number s room size ≡ 17) × (message_number s room ≡ 17)
unfolding piece_number message_number can_arise
unsorted s room size h = rw (h, not_sorted) (refl, refl)

-- A kind that stands for nothing gets 17.
no_state_lem : (a b c d e : Bool) → ((a && (b && (c && (false && d)))) && e) ≡ false
no_state_lem true true true d e = refl
no_state_lem true true false d e = refl
no_state_lem true false c d e = refl
no_state_lem false b c d e = refl

pub no_kind : (w : List ℕ) (room size : ℕ) → 1 < get_or w state_kind_at 0 → (piece_number (state_in w) room size ≡ 17) × (message_number (state_in w) room ≡ 17)
unfolding piece_number message_number can_arise parts_in place_number
no_kind w room size h = rw (other_kind (get_or w state_kind_at 0) h, no_state_lem) (refl, refl)
