-- A header and the words that hold it.
-- Assumes nothing.
use mathlib.Core.Path.{◌≡◌, refl, sym, ◌∙◌}
use mathlib.Core.Bool.{Bool, true, false}
use mathlib.Core.List.{List, [], ◌∷◌, ◌++◌, append_assoc}
use mathlib.Core.Option.{none, some}
use Rattle.std.specs.Prelude.{Some, None}
use Prim.Native.Nat.{ℕ, ◌+◌, ◌≤◌, ◌<◌}
use native.Mathlib.Nat.{zero-add}
use native.Mathlib.Omega.{arith}
use lib.ListN.{length, take, drop, get_or, replicate, length-replicate, length-append, length-map}
use lib.Seq.{take_at, drop_at, drop-drop, drop-cons, get_or-append-add}
use lib.Dec.{leb, eqb}
use mir.Val.{Val}
use denote.Shadow.{shadow}
use borrow.Author.Rules.{rules}
use borrow.Author.Tests.{le-leb, lt-leb}
use Rattle.wire.specs.Wire.{stored}
use Rattle.std.proofs.lemmas.List.Edits.{sets-eq}
use borrow.Rule.Slice.PartMut.{put_mid}
use Rattle.wire.proofs.Fields.{then, stored_front, length_stored, flag_fits_lem, flag_back}
use Rattle.wire.specs.contracts.Segment as segment
use Rattle.wire.specs.contracts.ReadSegment as read-segment
use Rattle.chunk_lists.specs.contracts.ReadList as read-list
use Rattle.chunk_lists.specs.contracts.WriteList as write-list
use Rattle.chunk_lists.specs.contracts.ReplyChunk as reply_chunk
use Rattle.wire.specs.Words.{flag_number}
use Rattle.chunk_lists.specs.Words.{reads_in, reads_words, segments_in, segments_words}
use Rattle.chunk_lists.proofs.Words.{length_reads_words, length_segments_words, reads_back, segments_back}
use Rattle.header.specs.Words.{reply_present_at, kind_at, low_at, high_at, kind_number, low_of, high_of, kind_in, header_words, header_as, header_found, header_in}
use Rattle.header.specs.declared.Kind.{Kind}
use Rattle.header.specs.declared.Kind.TheVariants.{Msg, Nomsg, Error}
use Rattle.header.specs.declared.ErrorKind.TheVariants.{Version, Chunk}
use Rattle.header.specs.declared.Header.{Header}

-- A kind, from its numbers.
pub kind_back : (kind : Kind) → kind_in (kind_number kind) (low_of kind) (high_of kind) ≡ Some kind
unfolding kind_in
kind_back Msg = refl
kind_back Nomsg = refl
kind_back (Error (Version low high)) = refl
kind_back (Error Chunk) = refl

-- No kind but a version error has numbers beside it.
pub no_numbers : (kind : Kind) → ((low high : ℕ) → kind ≡ Error (Version low high) → ⊥) → (low_of kind ≡ 0) × (high_of kind ≡ 0)
no_numbers Msg f = (refl, refl)
no_numbers Nomsg f = (refl, refl)
no_numbers (Error (Version low high)) f = absurd (f low high refl)
no_numbers (Error Chunk) f = (refl, refl)

-- What stands behind the lists.
abbrev numbers : Header → List ℕ
numbers h =
    h.reads.count ∷ h.writes.chunks ∷ flag_number h.reply.present ∷ h.reply.count
    ∷ kind_number h.kind ∷ low_of h.kind ∷ high_of h.kind ∷ h.xid ∷ h.credit ∷ 0 ∷ []

-- The places that a header's struct has.
pub record Full (h : Header) : Type 0 where
  pub reads : length h.reads.segments ≡ 16
  pub writes : length h.writes.segments ≡ 16
  pub counts : length h.writes.counts ≡ 4
  pub reply : length h.reply.segments ≡ 16

-- A struct that a caller passes has them.
pub full_of : (h : Header) (rs ws ps : List Val) → shadow ((read-list.the_field).row.own_val ((read-list.the_type).to h.reads) rs) → shadow ((write-list.the_field).row.own_val ((write-list.the_type).to h.writes) ws) → shadow ((reply_chunk.the_field).row.own_val ((reply_chunk.the_type).to h.reply) ps) → Full h
full_of h rs ws ps r w p = record {
  reads = omega (arith, length-map h.reads.segments (read-segment.the_type).to);
  writes = omega (arith, length-map h.writes.segments (segment.the_type).to);
  counts = search rules;
  reply = omega (arith, length-map h.reply.segments (segment.the_type).to);
}

-- What is written over a part is stored there.
put_mid_stored : (i n : ℕ) (l v : List ℕ) → length v ≡ n → i + n ≤ length l → put_mid i n l v ≡ stored l i v
unfolding stored
put_mid_stored i n l v e h = rw (drop-drop n i l, sets-eq v l i (omega arith), e, append_assoc)

module _ (h : Header) (full : Full h) where
  abbrev one : List ℕ
  one = reads_words h.reads.segments

  abbrev two : List ℕ
  two = segments_words h.writes.segments

  abbrev three : List ℕ
  three = segments_words h.reply.segments

  one_long : length one ≡ 96
  one_long = rw (length_reads_words, full.reads)

  two_long : length two ≡ 64
  two_long = rw (length_segments_words, full.writes)

  three_long : length three ≡ 64
  three_long = rw (length_segments_words, full.reply)

  -- The words, with what stands before a part taken together.
  before_reply : header_words h ≡ (one ++ two) ++ (three ++ (h.writes.counts ++ numbers h))
  unfolding header_words
  before_reply = rw append_assoc

  before_counts : header_words h ≡ ((one ++ two) ++ three) ++ (h.writes.counts ++ numbers h)
  before_counts = before_reply ∙ sym (append_assoc (one ++ two) three (h.writes.counts ++ numbers h))

  before_numbers : header_words h ≡ (((one ++ two) ++ three) ++ h.writes.counts) ++ numbers h
  before_numbers = before_counts ∙ sym (append_assoc ((one ++ two) ++ three) h.writes.counts (numbers h))

  number_at : (n : ℕ) → get_or (header_words h) (228 + n) 0 ≡ get_or (numbers h) n 0
  number_at n =
      let long : length (((one ++ two) ++ three) ++ h.writes.counts) ≡ 228 = rw (length-append, length-append, length-append, one_long, two_long, three_long, full.counts) in
      rw (before_numbers, ← long) (get_or-append-add (((one ++ two) ++ three) ++ h.writes.counts) (numbers h) n 0)

  -- The reserved word is zero in what a call makes.
  pub reserved_zero : get_or (header_words h) 237 0 ≡ 0
  reserved_zero = number_at 9

  reads_held : reads_in (header_words h) ≡ h.reads.segments
  unfolding header_words
  reads_held = reads_back h.reads.segments _ full.reads

  writes_held : segments_in 96 (header_words h) ≡ h.writes.segments
  unfolding header_words
  writes_held = segments_back 96 one h.writes.segments _ one_long full.writes

  reply_held : segments_in 160 (header_words h) ≡ h.reply.segments
  reply_held = rw before_reply (segments_back 160 (one ++ two) h.reply.segments _ (rw (length-append, one_long, two_long)) full.reply)

  counts_held : take 4 (drop 224 (header_words h)) ≡ h.writes.counts
  counts_held =
      let long : length ((one ++ two) ++ three) ≡ 224 = rw (length-append, length-append, one_long, two_long, three_long) in
      rw (before_counts, drop_at ((one ++ two) ++ three) (h.writes.counts ++ numbers h) 224 long) (take_at h.writes.counts (numbers h) 4 full.counts)

  -- Words that hold nothing, with the parts of a header stored into them one behind the other.
  pub words_made : (flag kind low high : ℕ) (a b c d counts all : List ℕ) → flag ≡ flag_number h.reply.present → kind ≡ kind_number h.kind → low ≡ low_of h.kind → high ≡ high_of h.kind →
      a ≡ stored (replicate 238 0) 0 one → b ≡ stored a 96 two → c ≡ stored b 160 three → counts ≡ h.writes.counts → d ≡ put_mid 224 4 c counts →
      all ≡ stored d 228 (h.reads.count ∷ h.writes.chunks ∷ flag ∷ h.reply.count ∷ kind ∷ low ∷ high ∷ h.xid ∷ h.credit ∷ []) → all ≡ header_words h
  words_made flag kind low high a b c d counts all flag_is kind_is low-is high_is p q r same t s =
      let nine : List ℕ = h.reads.count ∷ h.writes.chunks ∷ flag_number h.reply.present ∷ h.reply.count ∷ kind_number h.kind ∷ low_of h.kind ∷ high_of h.kind ∷ h.xid ∷ h.credit ∷ [] in
      let lists : List ℕ = (one ++ two) ++ three in
      let before : length (one ++ two) ≡ 160 = rw (length-append, one_long, two_long) in
      let long : length lists ≡ 224 = rw (length-append, before, three_long) in
      let counted : length (lists ++ h.writes.counts) ≡ 228 = rw (length-append, long, full.counts) in
      let whole : length ((lists ++ h.writes.counts) ++ nine) ≡ 237 = rw (length-append, counted) in
      let listed : c ≡ stored (replicate 238 0) 0 lists = then _ _ _ 0 160 (one ++ two) three (then _ _ _ 0 96 one two p q (rw (zero-add, one_long))) r (rw (zero-add, before)) in
      let room : 228 ≤ length c = rw (listed, length_stored, length-replicate) (omega arith) in
      let fourth : d ≡ stored c 224 h.writes.counts = t ∙ rw same (put_mid_stored 224 4 c h.writes.counts full.counts room) in
      let numbered : all ≡ stored d 228 nine = s ∙ rw (flag_is, kind_is, low-is, high_is) in
      then _ _ _ 0 228 (lists ++ h.writes.counts) nine (then _ _ _ 0 224 lists h.writes.counts listed fourth (rw (zero-add, long))) numbered (rw (zero-add, counted))
      ∙ stored_front (replicate 238 0) _ (rw whole (omega arith)) ∙ rw (whole, before_counts) (simp append_assoc)

  -- The words of a header hold it.
  pub header_back : header_in (header_words h) ≡ some h
  unfolding header_in
  header_back =
      rw (
        number_at 2,
        number_at 4,
        number_at 5,
        number_at 6,
        kind_back h.kind,
        flag_fits_lem h.reply.present,
        number_at 0,
        number_at 1,
        number_at 2,
        number_at 3,
        number_at 7,
        number_at 8,
        flag_back h.reply.present,
        reads_held,
        writes_held,
        reply_held,
        counts_held,
      )

-- The header that words hold, by the kind that they name.
module _ (w : List ℕ) (h : Header) (is : header_in w ≡ some h) where
  pub none_held : kind_in (get_or w 232 0) (get_or w 233 0) (get_or w 234 0) ≡ None → ⊥
  unfolding header_in
  none_held e = let z : ◌≡◌ {A = ℕ} 0 1 = let q : none ≡ some h = rw e at is in cc in omega arith

  pub held : (kind : Kind) → kind_in (get_or w 232 0) (get_or w 233 0) (get_or w 234 0) ≡ Some kind → header_as w kind (eqb (get_or w 230 0) 1) ≡ h
  unfolding header_in
  held kind e = go (leb (get_or w 230 0) 1) (rw e at is)
    where
      go : (fits : Bool) → header_found w (Some kind) fits ≡ some h → header_as w kind (eqb (get_or w 230 0) 1) ≡ h
      go false q = absurd (let z : ◌≡◌ {A = ℕ} 0 1 = cc in omega arith)
      go true q = cc

-- The counts of the write chunks, one by one.
pub counts_in_lem : (w : List ℕ) → length w ≡ 238 → get_or w 224 0 ∷ get_or w 225 0 ∷ get_or w 226 0 ∷ get_or w 227 0 ∷ [] ≡ take 4 (drop 224 w)
counts_in_lem w long = rw (drop-cons w 224 0 (omega arith), drop-cons w 225 0 (omega arith), drop-cons w 226 0 (omega arith), drop-cons w 227 0 (omega arith))

-- The header that words hold: none where its kind or its flag is unknown.
pub header_known : (w : List ℕ) (kind : Kind) → kind_in (get_or w kind_at 0) (get_or w low_at 0) (get_or w high_at 0) ≡ Some kind → get_or w reply_present_at 0 ≤ 1 → header_in w ≡ some (header_as w kind (eqb (get_or w reply_present_at 0) 1))
unfolding header_in
header_known w kind e h = rw (e, le-leb _ _ h)

pub kind_unknown : (w : List ℕ) → kind_in (get_or w kind_at 0) (get_or w low_at 0) (get_or w high_at 0) ≡ None → header_in w ≡ none
unfolding header_in
kind_unknown w e = rw e

pub flag_unknown : (w : List ℕ) (kind : Kind) → kind_in (get_or w kind_at 0) (get_or w low_at 0) (get_or w high_at 0) ≡ Some kind → 1 < get_or w reply_present_at 0 → header_in w ≡ none
unfolding header_in
flag_unknown w kind e h = rw (e, lt-leb _ _ h)
