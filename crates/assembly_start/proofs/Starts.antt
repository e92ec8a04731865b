-- What a start finds out about a frame, and what it answers.
-- Assumes nothing.
use mathlib.Core.Path.{◌≡◌, refl, sym, ap, subst, ◌∙◌}
use mathlib.Core.Bool.{Bool, true, false, cond}
use mathlib.Core.List.{List, [], ◌++◌}
use Prim.Native.Nat.{ℕ, ◌-◌, ◌≤◌}
use native.Mathlib.Omega.{arith}
use borrow.Author.Tests.{ne_eqb}
use lib.ListN.{length, take, drop, replicate}
use lib.Seq.{take-append_seam, drop_at}
use lib.Dec.{eqb}
use Rattle.std.specs.Prelude.{Result, Ok, Err}
use Rattle.answers.specs.Refusals.{numbered, outcome_number}
use Rattle.answers.specs.declared.Refusal.{Refusal}
use Rattle.wire.specs.Wire.{stored, zero_read_segment}
use Rattle.wire.specs.declared.ReadSegment.{ReadSegment}
use Rattle.chunk_lists.specs.Parsed.{Parsed, refused, done}
use Rattle.read_order.specs.ReadOrder.{sorted, is_sorted}
use Rattle.read_order.specs.Internal.Places.{sorted_first}
use Rattle.read_order.proofs.Sorting.{length_sorted, sorted_rises}
use Rattle.layout.proofs.Unseen.{others_sorted, any_sorted, zero_sorted}
use Rattle.chunk_lists.specs.Words.{reads_in, reads_words}
use Rattle.chunk_lists.proofs.Words.{reads_back}
use Rattle.header.specs.Content.{Content, padded, read_list_of}
use Rattle.reader.specs.Frame.{read_frame}
use Rattle.header.specs.declared.Kind.{Kind}
use Rattle.header.specs.declared.Kind.TheVariants.{Msg, Nomsg, Error}
use Rattle.reader.specs.declared.Shape.{Shape}
use Rattle.reader.proofs.FrameParts.{Found, bounds, payload_part}
use Rattle.reader.proofs.Ends.{nomsg_ends}
use Rattle.layout.specs.Places.{scatter}
use Rattle.layout.proofs.Passed.{layout_holds, layout_refused, place_passed}
use Rattle.layout.specs.Layout.{kind_fits, any_at_zero, zero_length, other_chunks, base_length, message_length, place_number, base_places, padding_places}
use Rattle.layout.specs.Internal.Walks.{sums_of, layout_check}
use Rattle.layout.specs.declared.Run.{Run}
use Rattle.layout.specs.declared.Sums.{Sums}
use Rattle.placing.specs.Internal.Sources.{LayoutChecked}
use Rattle.assembly_start.specs.Start.{base_of, start_number, start_state, start_writes, started_buffer, start_buffer, start_words}
use Rattle.assembly_state.specs.Words.{parts_words, state_words}
use Rattle.assembly_state.proofs.Words.{words_padded, padded_length, parts_stored}

-- The inline bytes are within the base.
inline_within : (kind : Kind) (atZero : Bool) (inline : List ℕ) (reads : List ReadSegment) → kind_fits kind atZero ≡ true → (kind ≡ Nomsg → inline ≡ []) → length inline ≤ base_length kind (length inline) reads
inline_within Msg atZero inline reads f n = omega arith
inline_within Nomsg atZero inline reads f n = rw (n refl) (omega arith)
inline_within (Error x) atZero inline reads f n = absurd (let z : ◌≡◌ {A = ℕ} 0 1 = cc in omega arith)

-- The places of a list, padded and then sorted as far as it goes.
padded_sorted : (n : ℕ) (l : List ReadSegment) → n ≡ length l → sorted_first n (padded 16 zero_read_segment l) ≡ padded 16 zero_read_segment (sorted l)
padded_sorted n l e =
    ap (λ (k : ℕ). sorted_first k (padded 16 zero_read_segment l)) e
    ∙ rw (take-append_seam l (replicate (16 - length l) zero_read_segment), drop_at l (replicate (16 - length l) zero_read_segment) (length l) refl, length_sorted l)

-- What is not Ok is an Err.
only_err : {A E : Type 0} (m : Result A E) → ((x : A) → m ≡ Ok x → ⊥) → (r : E) × (m ≡ Err r)
only_err (Ok x) other = absurd (other x refl)
only_err (Err r) other = (r, refl)

-- A frame that was found, its read list decoded into words, and these with the list sorted.
module _ (s : List ℕ) (shape : Shape) (f : Found s shape) (words : List ℕ) (filled : words ≡ stored (replicate 104 0) 0 (reads_words f.content.reads))
    (ready : List ℕ) (sorts : (l : List ReadSegment) (rest : List ℕ) → length l ≡ 16 → words ≡ reads_words l ++ rest → ready ≡ reads_words (sorted_first shape.reads l) ++ rest) where
  abbrev content : Content
  content = f.content

  abbrev segs : List ReadSegment
  segs = reads_in ready

  abbrev in_order : List ReadSegment
  in_order = sorted f.content.reads

  kind_is : shape.kind ≡ content.kind
  kind_is = ap (λ (x : Shape). x.kind) f.shape_is

  wire_count : shape.reads ≡ length content.reads
  wire_count = ap (λ (x : Shape). x.reads) f.shape_is

  count_is : shape.reads ≡ length in_order
  count_is = wire_count ∙ sym (length_sorted content.reads)

  few : length in_order ≤ 16
  few = rw (length_sorted content.reads) f.parts.reads_few

  -- The words hold the read list of the frame, sorted, its unused places zero.
  words_are : ready ≡ reads_words (padded 16 zero_read_segment in_order) ++ replicate 8 0
  words_are =
      sorts (padded 16 zero_read_segment content.reads) (replicate 8 0) (padded_length content.reads f.parts.reads_few) (filled ∙ words_padded content.reads f.parts.reads_few)
      ∙ ap (λ (l : List ReadSegment). reads_words l ++ replicate 8 0) (padded_sorted shape.reads content.reads wire_count)

  segs_are : segs ≡ padded 16 zero_read_segment in_order
  segs_are = ap reads_in words_are ∙ reads_back _ (replicate 8 0) (padded_length in_order few)

  reads_are : take shape.reads segs ≡ in_order
  reads_are = ap (λ (n : ℕ). take n segs) count_is ∙ ap (take (length in_order)) segs_are ∙ take-append_seam in_order _

  pub chunks_ready : (shape.reads ≤ 16) × (is_sorted (take shape.reads segs) ≡ true)
  chunks_ready = ((bounds s shape f).reads_few, rw reads_are (sorted_rises content.reads))

  inline_is : drop shape.end s ≡ f.behind
  inline_is = (payload_part s shape f).1 ∙ rw f.read

  inline_length : length (drop shape.end s) ≡ length f.behind
  inline_length = ap length inline_is

  abbrev chunks : List Run
  chunks = other_chunks (take shape.reads segs)

  module _ (sums : Sums) (summed : sums ≡ sums_of (take shape.reads segs)) (base : ℕ) (b : (reads : List ReadSegment) → sums.zero_length ≡ zero_length reads → base ≡ base_length shape.kind (length (drop shape.end s)) reads) (room : ℕ) (m : Result ℕ Refusal) (measured : numbered m ≡ layout_check shape.kind base sums.any_zero chunks room) where
    sums_are : sums ≡ sums_of in_order
    sums_are = summed ∙ ap sums_of reads_are

    zero_is : sums.zero_length ≡ zero_length content.reads
    zero_is = ap (λ (x : Sums). x.zero_length) sums_are ∙ zero_sorted content.reads

    any_is : sums.any_zero ≡ any_at_zero content.reads
    any_is = ap (λ (x : Sums). x.any_zero) sums_are ∙ any_sorted content.reads

    chunks_are : chunks ≡ other_chunks content.reads
    chunks_are = ap other_chunks reads_are ∙ others_sorted content.reads

    base_is : base ≡ base_of content f.behind
    base_is =
        b content.reads zero_is
        ∙ (λ i. base_length (kind_is i) (inline_length i) content.reads)

    number_is : place_number shape.kind sums.any_zero base chunks room ≡ start_number (read_frame s) room
    unfolding start_number
    number_is =
        (λ i. place_number (kind_is i) (any_is i) (base_is i) (chunks_are i) room)
        ∙ ap (λ (p : Parsed Content). start_number p room) (sym f.read)

    pub not_started_is : (n : ℕ) → n ≡ outcome_number m → ((x : ℕ) → m ≡ Ok x → ⊥) → (out w : List ℕ) → length out ≡ room → (n ≡ start_number (read_frame s) room) × ((w ≡ start_words (read_frame s) room w) × (out ≡ start_buffer (read_frame s) out))
    unfolding start_words start_buffer
    not_started_is n e other out w l =
        let r = only_err m other in
        let told = layout_refused shape.kind base sums.any_zero chunks room m measured r.0 r.1 in
        let same : n ≡ start_number (read_frame s) room = e ∙ told.0 ∙ number_is in
        let here : start_number (done content f.behind) room ≡ n = ap (λ (p : Parsed Content). start_number p room) (sym f.read) ∙ sym same in
        simp (l, f.read, here, ne_eqb n 0 (λ z. told.1 (sym e ∙ z))) (refl, (refl, refl))

    module _ (message : ℕ) (holds : m ≡ Ok message) where
      passes : place_number shape.kind sums.any_zero base chunks room ≡ 0
      passes = (layout_holds shape.kind base sums.any_zero chunks room m measured message holds).0

      -- What holds where a start is accepted.
      pub start_layout : LayoutChecked base (take shape.reads segs) × (message_length base chunks ≤ room) × (length (drop shape.end s) ≤ base)
      start_layout =
          let p = place_passed shape.kind sums.any_zero base chunks room passes in
          let within = inline_within content.kind sums.any_zero f.behind content.reads (subst (λ (x : Kind). kind_fits x sums.any_zero ≡ true) kind_is p.fits) (nomsg_ends s content f.behind f.read) in
          let long = p.long in
          let same = base_is in
          let inline = inline_length in
          (record { rise = chunks_ready.1; stand = p.stand; small = omega arith }, p.holds, omega arith)

      pub started_is : (out after w state : List ℕ) → length out ≡ room → state ≡ stored ready 96 (parts_words (record { kind = shape.kind; count = shape.reads; base = base; buffer = room; taken = 0 })) → after ≡ start_writes base chunks (drop shape.end s) out →
          (0 ≡ start_number (read_frame s) room) × ((state ≡ start_words (read_frame s) room w) × (after ≡ start_buffer (read_frame s) out))
      unfolding start_words start_buffer
      started_is out after w state l kept z =
          let passed : start_number (done content f.behind) room ≡ 0 = ap (λ (p : Parsed Content). start_number p room) (sym f.read) ∙ sym number_is ∙ passes in
          let whole : state ≡ state_words (record { reads = read_list_of in_order; kind = shape.kind; base = base; buffer = room; taken = 0 }) =
          kept ∙ (λ i. stored (words_are i) 96 (parts_words (record { kind = shape.kind; count = count_is i; base = base; buffer = room; taken = 0 }))) ∙ parts_stored (record { reads = read_list_of in_order; kind = shape.kind; base = base; buffer = room; taken = 0 }) (padded_length in_order few) in
          let made : state_words (record { reads = read_list_of in_order; kind = shape.kind; base = base; buffer = room; taken = 0 }) ≡ state_words (start_state content f.behind room) =
          (λ i. state_words (record { reads = read_list_of in_order; kind = kind_is i; base = base_is i; buffer = room; taken = 0 })) in
          let buffer : start_writes base chunks (drop shape.end s) out ≡ started_buffer (done content f.behind) out = (λ i. start_writes (base_is i) (chunks_are i) (inline_is i) out) in
          simp (l, f.read, passed) (refl, (whole ∙ made, z ∙ buffer))

-- A frame that the reader refuses.
pub refused_is : (s : List ℕ) (n room : ℕ) (out w : List ℕ) → read_frame s ≡ refused n → (n ≡ start_number (read_frame s) room) × ((w ≡ start_words (read_frame s) room w) × (out ≡ start_buffer (read_frame s) out))
unfolding start_words start_buffer start_number
refused_is s n room out w e = rw e (refl, (refl, by (eqb n 0)))
  where
    by : (b : Bool) → out ≡ cond b out out
    by true = refl
    by false = refl

-- What laying a base and then the padding leaves.
pub start_writes_lem : (base : ℕ) (cs : List Run) (inline out placed after : List ℕ) →
    placed ≡ scatter (drop 0 (base_places base cs)) inline out → after ≡ scatter (padding_places cs) (replicate (length (padding_places cs)) 0) placed → after ≡ start_writes base cs inline out
unfolding start_writes
start_writes_lem base cs inline out placed after p q = q ∙ rw p
