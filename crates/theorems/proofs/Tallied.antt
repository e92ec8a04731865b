-- After an accepted start, a list of calls over any cut gives what the plain tally gives.
-- Assumes nothing.
use mathlib.Core.Path.{◌≡◌, refl, sym, ap, ◌∙◌}
use mathlib.Core.Bool.{Bool, true, false, cond}
use mathlib.Core.List.{List, [], ◌∷◌, ◌++◌}
use Prim.Native.Nat.{ℕ, ◌+◌, ◌≤◌}
use native.Mathlib.Omega.{arith}
use lib.ListN.{length, drop, length-append}
use lib.Seq.{take-append_seam}
use lib.Dec.{eqb}
use borrow.Author.Tests.{leb-true, le-leb, eq-eqb}
use Rattle.wire.specs.declared.ReadSegment.{ReadSegment}
use Rattle.chunk_lists.specs.Lists.{all_aligned}
use Rattle.chunk_lists.specs.Parsed.{done}
use Rattle.header.specs.Content.{Content, read_list_of}
use Rattle.header.specs.declared.Kind.{Kind}
use Rattle.header.specs.declared.Kind.TheVariants.{Msg, Nomsg, Error}
use Rattle.read_order.specs.ReadOrder.{sorted}
use Rattle.read_order.proofs.Sorting.{length_sorted, sorted_rises, aligned_sorted}
use Rattle.layout.specs.Places.{scatter}
use Rattle.layout.specs.Layout.{other_chunks, base_length, pulled_places}
use Rattle.layout.proofs.Scatter.{length_scatter, scatter_none, scatter_append}
use Rattle.assembly_state.specs.State.{State}
use Rattle.assembly_start.specs.Start.{base_of, start_number, start_state, start_writes, started_buffer}
use Rattle.assembly.specs.Assembly.{reads_of, chunks_of, pulled_of, can_arise, fits_state, piece_number, piece_buffer, message_number, message_part}
use Rattle.theorems.specs.Calls.{Call, piece, asking, gives, answered}
use Rattle.theorems.specs.Tally.{pulled_places_of, tally_buffer, has_room, is_full, tally_message, tally_asked, grown, tally}
use Rattle.theorems.specs.Cuts.{Cut}
use Rattle.assembly.proofs.Kept.{with_count, taken_state}
use Rattle.layout.proofs.Passed.{base_again}
use Rattle.layout.proofs.Unseen.{others_sorted, any_sorted, base_sorted}
use Rattle.theorems.proofs.Lent.{state_outcome, ran}
use Rattle.theorems.proofs.Cutting.{with_reads, others_cut, any_cut, zero_cut, aligned_cut}

-- The base length does not depend on the cut.
pub base_cut : (kind : Kind) (inline : ℕ) (xs ys : List ReadSegment) → Cut xs ys → base_length kind inline ys ≡ base_length kind inline xs
base_cut Msg inline xs ys c = refl
base_cut Nomsg inline xs ys c = zero_cut c
base_cut (Error e) inline xs ys c = refl

pub length_tally : (c : Content) (inline out t : List ℕ) → length (tally_buffer c inline out t) ≡ length out
unfolding tally_buffer start_writes
length_tally c inline out t = simp length_scatter

module _ (c : Content) (inline out : List ℕ) (cut : List ReadSegment) (ok : start_number (done c inline) (length out) ≡ 0) (aligned : all_aligned c.reads ≡ true) (k : Cut c.reads cut) (few : length cut ≤ 16) where
  base_same : base_of (with_reads c cut) inline ≡ base_of c inline
  base_same = base_cut c.kind (length inline) c.reads cut k

  -- "the cut start is accepted too"
  pub cut_number : start_number (done (with_reads c cut) inline) (length out) ≡ 0
  unfolding start_number
  cut_number = rw (any_cut k, others_cut k, base_same) ok

  -- The state of the cut start after n bytes: it holds the cut list, sorted.
  abbrev after : ℕ → State
  after n = record { reads = read_list_of (sorted cut); kind = c.kind; base = base_of c inline; buffer = length out; taken = n }

  reads_after : (n : ℕ) → reads_of (after n) ≡ sorted cut
  reads_after n = take-append_seam (sorted cut) _

  others_same : other_chunks (sorted cut) ≡ other_chunks c.reads
  others_same = others_sorted cut ∙ others_cut k

  chunks_after : (n : ℕ) → chunks_of (after n) ≡ other_chunks c.reads
  chunks_after n = ap other_chunks (reads_after n) ∙ others_same

  pulled_after : (n : ℕ) → pulled_of (after n) ≡ pulled_places_of c inline
  pulled_after n = ap (pulled_places c.kind (base_of c inline)) (chunks_after n)

  fits_after : (n : ℕ) → n ≤ length (pulled_places_of c inline) → fits_state (after n) (length out) ≡ true
  unfolding can_arise start_number
  fits_after n h =
      let zero-cut-base : base_length c.kind (base_of c inline) (sorted cut) ≡ base_of c inline =
      base_sorted c.kind (base_of c inline) cut ∙ base_cut c.kind (base_of c inline) c.reads cut k ∙ base_again c.kind (length inline) c.reads in
      rw (
        le-leb (length (sorted cut)) 16 (rw (length_sorted cut) few),
        reads_after n,
        sorted_rises cut,
        aligned_sorted cut,
        aligned_cut k aligned,
        any_sorted cut,
        any_cut k,
        others_same,
        ok,
        eq-eqb _ _ zero-cut-base,
        le-leb n (length (pulled_places_of c inline)) h,
        eq-eqb (length out) (length out) refl,
      )

  module _ (t : List ℕ) (l : length t ≤ length (pulled_places_of c inline)) where
    fits_now : fits_state (after (length t)) (length (tally_buffer c inline out t)) ≡ true
    fits_now = rw (length_tally c inline out t) (fits_after (length t) l)

    ask_number : message_number (after (length t)) (length (tally_buffer c inline out t)) ≡ cond (is_full c inline t) 0 19
    unfolding message_number
    ask_number = rw (fits_now, pulled_after (length t))

    ask_part : message_part (after (length t)) (tally_buffer c inline out t) ≡ cond (is_full c inline t) (tally_message c inline out t) []
    unfolding message_part
    ask_part = rw (ask_number, chunks_after (length t)) (by (is_full c inline t))
      where
        by : (x : Bool) → cond (eqb (cond x 0 19) 0) (tally_message c inline out t) [] ≡ cond x (tally_message c inline out t) []
        by true = refl
        by false = refl

    ask_outcome_lem : state_outcome (after (length t)) (tally_buffer c inline out t) ≡ tally_asked c inline out t
    ask_outcome_lem = rw (ask_number, ask_part) (by (is_full c inline t))
      where
        by : (x : Bool) → gives (cond x 0 19) (cond x (tally_message c inline out t) []) ≡ cond x (gives 0 (tally_message c inline out t)) (gives 19 [])
        by true = refl
        by false = refl

    take_number : (v : List ℕ) → piece_number (after (length t)) (length (tally_buffer c inline out t)) (length v) ≡ cond (has_room c inline t v) 0 18
    unfolding piece_number
    take_number v = rw (fits_now, pulled_after (length t))

    take_state : (v : List ℕ) → taken_state (after (length t)) (length (tally_buffer c inline out t)) (length v) ≡ after (length (grown c inline t v))
    unfolding taken_state
    take_state v = rw (take_number v) (by (has_room c inline t v))
      where
        by : (x : Bool) → cond (eqb (cond x 0 18) 0) (with_count (after (length t)) (length t + length v)) (after (length t)) ≡ after (length (cond x (t ++ v) t))
        by true = rw length-append
        by false = refl

    take_buffer : (v : List ℕ) → piece_buffer (after (length t)) v (tally_buffer c inline out t) ≡ tally_buffer c inline out (grown c inline t v)
    unfolding piece_buffer tally_buffer
    take_buffer v = rw (take_number v, pulled_after (length t)) (by (has_room c inline t v))
      where
        by : (x : Bool) → cond (eqb (cond x 0 18) 0) (scatter (drop (length t) (pulled_places_of c inline)) v (tally_buffer c inline out t)) (tally_buffer c inline out t) ≡ tally_buffer c inline out (cond x (t ++ v) t)
        by true = sym (scatter_append (pulled_places_of c inline) t v (start_writes (base_of c inline) (other_chunks c.reads) inline out))
        by false = refl

    grown_fits : (v : List ℕ) → length (grown c inline t v) ≤ length (pulled_places_of c inline)
    grown_fits v = by (has_room c inline t v) refl
      where
        by : (x : Bool) → has_room c inline t v ≡ x → length (cond x (t ++ v) t) ≤ length (pulled_places_of c inline)
        by true e = rw length-append (leb-true _ _ e)
        by false e = l

    -- What a piece hands on.
    after_piece : (v : List ℕ) (calls : List Call) → ran (after (length t)) (tally_buffer c inline out t) (piece v ∷ calls)
        ≡ answered (gives (cond (has_room c inline t v) 0 18) []) (ran (after (length (grown c inline t v))) (tally_buffer c inline out (grown c inline t v)) calls)
    unfolding ran
    after_piece v calls = rw (take_number v, take_state v, take_buffer v)

  same : (calls : List Call) (t : List ℕ) → length t ≤ length (pulled_places_of c inline) → ran (after (length t)) (tally_buffer c inline out t) calls ≡ tally c inline out t calls
  unfolding ran tally
  same [] t l = rw (ask_outcome_lem t l)
  same (piece v ∷ calls) t l = after_piece t l v calls ∙ ap (answered (gives (cond (has_room c inline t v) 0 18) [])) (same calls (grown c inline t v) (grown_fits t l v))
  same (asking ∷ calls) t l = rw (ask_outcome_lem t l, same calls t l)

  started_state : start_state (with_reads c cut) inline (length out) ≡ after 0
  started_state = rw base_same

  started_buffer_lem : started_buffer (done (with_reads c cut) inline) out ≡ tally_buffer c inline out []
  unfolding tally_buffer
  started_buffer_lem = rw (scatter_none, others_cut k, base_same)

  -- "For every such cut and list, each answer number, each part handed back and, after the list, the count of bytes taken and the whole buffer are what 01's plain tally gives"
  pub tallied : (calls : List Call) → ran (start_state (with_reads c cut) inline (length out)) (started_buffer (done (with_reads c cut) inline) out) calls ≡ tally c inline out [] calls
  tallied calls = rw (started_state, started_buffer_lem) (same calls [] (omega arith))
