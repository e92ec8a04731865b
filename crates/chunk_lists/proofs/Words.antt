-- The read segments that lie in words.
-- Assumes nothing.
use mathlib.Core.Path.{◌≡◌, refl, sym, ap, ◌∙◌}
use mathlib.Core.List.{List, [], ◌∷◌, ◌++◌, map, append_assoc}
use Prim.Native.Nat.{ℕ, zero, suc, ◌+◌, ◌-◌, ◌*◌, ◌≤◌, ◌<◌}
use native.Mathlib.Omega.{arith}
use native.Mathlib.Nat.{add-zero}
use lib.ListN.{length, get_or, set, take, drop, length-set, drop_of_length-le}
use lib.Seq.{get_or-drop, drop-drop, drop_at, get_or-set_other, ext_get_or, length-take-le}
use Rattle.wire.specs.Wire.{word_at, segment_at, zero_segment, zero_read_segment, stored, joined}
use Rattle.wire.proofs.Words.{read_segment_words_lem, segment_words_lem, read_segment_back, segment_back}
use Rattle.wire.specs.Words.{segment_in, segment_words, read_segment_in, read_segment_words}
use Rattle.wire.proofs.Fields.{stored_append, length_stored, stored_apart}
use Rattle.wire.proofs.Joining.{joined_length, joined_append}
use Rattle.wire.specs.declared.Segment.{Segment}
use Rattle.wire.specs.declared.ReadSegment.{ReadSegment}
use Rattle.chunk_lists.specs.Parsed.{each}
use Rattle.chunk_lists.specs.Internal.Steps.{chunks_at, ChunksFit, with_writes}
use Rattle.chunk_lists.specs.Words.{reads_in, reads_words, segments_in, segments_words}
use Rattle.chunk_lists.proofs.Items.{item_at, length_each, next_of, store_cons}
use Rattle.chunk_lists.proofs.ListSteps.{Passing, passing_starts, passing_fits, passing_next, passing_chunk}

-- There are 16 places.
pub length_reads : (w : List ℕ) → length (reads_in w) ≡ 16
unfolding reads_in
length_reads w = length_each 6 read_segment_in 16 w

-- Segment i stands behind i others.
pub segment_here : (w : List ℕ) (i : ℕ) → i < 16 → get_or (reads_in w) i zero_read_segment ≡ read_segment_in (drop (i * 6) w)
unfolding reads_in
segment_here w i h = item_at 6 read_segment_in 16 w i zero_read_segment h

-- The next of the first n segments.
pub next_in : (w : List ℕ) (n k : ℕ) (x : ReadSegment) → x ≡ get_or (reads_in w) k zero_read_segment → k < n → n ≤ 16 → drop k (take n (reads_in w)) ≡ x ∷ drop (k + 1) (take n (reads_in w))
next_in w n k x e h few = rw e (next_of (reads_in w) k n zero_read_segment h (rw (length_reads w) few))

-- Behind the last there is none.
pub none_in : (w : List ℕ) (n k : ℕ) → n ≤ k → n ≤ 16 → drop k (take n (reads_in w)) ≡ []
none_in w n k h few =
    let full = length_reads w in
    let short : length (take n (reads_in w)) ≤ k = rw (length-take-le n (reads_in w) (omega arith)) h in
    drop_of_length-le _ short

-- How many words lists of segments have.
pub length_reads_words : (l : List ReadSegment) → length (reads_words l) ≡ length l * 6
unfolding reads_words
length_reads_words l = joined_length read_segment_words 6 read_segment_words_lem l

pub length_segments_words : (l : List Segment) → length (segments_words l) ≡ length l * 4
unfolding segments_words
length_segments_words l = joined_length segment_words 4 segment_words_lem l

-- Items that give back what their words hold, one behind the other.
each_back : {A : Type 0} (width : ℕ) (item : List ℕ → A) (f : A → List ℕ) → ((x : A) → length (f x) ≡ width) → ((x : A) (t : List ℕ) → item (f x ++ t) ≡ x) →
    (n : ℕ) (l : List A) (t : List ℕ) → length l ≡ n → each width item n (joined f l ++ t) ≡ l
unfolding each joined
each_back width item f long back zero [] t e = refl
each_back width item f long back zero (x ∷ l) t e = absurd (omega arith)
each_back width item f long back (suc n) [] t e = absurd (omega arith)
each_back width item f long back (suc n) (x ∷ l) t e =
    let here : (f x ++ joined f l) ++ t ≡ f x ++ (joined f l ++ t) = append_assoc (f x) (joined f l) t in
    rw (here, back x (joined f l ++ t), drop_at (f x) (joined f l ++ t) width (long x)) (ap (λ (r : List _). x ∷ r) (each_back width item f long back n l t (omega arith)))

pub reads_back : (l : List ReadSegment) (t : List ℕ) → length l ≡ 16 → reads_in (reads_words l ++ t) ≡ l
unfolding reads_in reads_words
reads_back l t e = each_back 6 read_segment_in read_segment_words read_segment_words_lem read_segment_back 16 l t e

-- The same of segments behind k other words.
pub segments_back : (k : ℕ) (before : List ℕ) (l : List Segment) (t : List ℕ) → length before ≡ k → length l ≡ 16 → segments_in k (before ++ (segments_words l ++ t)) ≡ l
unfolding segments_in segments_words
segments_back k before l t b e = rw (drop_at before (joined segment_words l ++ t) k b) (each_back 4 segment_in segment_words segment_words_lem segment_back 16 l t e)

same : (w : List ℕ) (k v i : ℕ) → i < 16 → 96 ≤ k → read_segment_in (drop (i * 6) (set w k v)) ≡ read_segment_in (drop (i * 6) w)
unfolding read_segment_in segment_in
same w k v i few h =
    let other : (j : ℕ) → j < 6 → get_or (drop (i * 6) (set w k v)) j 0 ≡ get_or (drop (i * 6) w) j 0 = λ j s. get_or-drop (i * 6) (set w k v) j 0 ∙ get_or-set_other w k (i * 6 + j) v 0 (λ e. omega arith) ∙ sym (get_or-drop (i * 6) w j 0) in
    let two : (j : ℕ) → j < 4 → get_or (drop 2 (drop (i * 6) (set w k v))) j 0 ≡ get_or (drop 2 (drop (i * 6) w)) j 0 = λ j s. get_or-drop 2 (drop (i * 6) (set w k v)) j 0 ∙ other (2 + j) (omega arith) ∙ sym (get_or-drop 2 (drop (i * 6) w) j 0) in
    rw (other 0 (omega arith), two 0 (omega arith), two 1 (omega arith), two 2 (omega arith), two 3 (omega arith))

-- A word behind the read list is none of it.
pub reads_set : (w : List ℕ) (k v : ℕ) → 96 ≤ k → reads_in (set w k v) ≡ reads_in w
reads_set w k v h = ext_get_or zero_read_segment (reads_in (set w k v)) (reads_in w) (length_reads (set w k v) ∙ sym (length_reads w)) here
  where
    here : (i : ℕ) → i < length (reads_in (set w k v)) → get_or (reads_in (set w k v)) i zero_read_segment ≡ get_or (reads_in w) i zero_read_segment
    here i l =
        let few : i < 16 = rw (length_reads (set w k v)) at l in
        segment_here (set w k v) i few ∙ same w k v i few h ∙ sym (segment_here w i few)

-- Segments that are not to be pulled, in words.
pub length_segments : (k : ℕ) (w : List ℕ) → length (segments_in k w) ≡ 16
unfolding segments_in
length_segments k w = length_each 4 segment_in 16 (drop k w)

pub segments_here : (k : ℕ) (w : List ℕ) (i : ℕ) → i < 16 → get_or (segments_in k w) i zero_segment ≡ segment_in (drop (k + i * 4) w)
unfolding segments_in
segments_here k w i h = item_at 4 segment_in 16 (drop k w) i zero_segment h ∙ rw (drop-drop (i * 4) k w)

-- The words of two runs of segments.
pub segments_words_append : (a b : List Segment) → segments_words (a ++ b) ≡ segments_words a ++ segments_words b
unfolding segments_words
segments_words_append a b = joined_append segment_words a b

-- One chunk more, its count and its segments: then those behind it.
writes_next : (w : List ℕ) (k free d : ℕ) (c : List Segment) (cs : List (List Segment)) → d ≡ length c → free + d * 4 ≤ k →
    stored (stored (stored (set w k d) free (segments_words c)) (k + 1) (map length cs)) (free + d * 4) (segments_words (joined (λ x. x) cs))
    ≡ stored (stored w k (map length (c ∷ cs))) free (segments_words (joined (λ x. x) (c ∷ cs)))
unfolding joined
writes_next w k free d c cs e h =
    let long : length (segments_words c) ≡ d * 4 = length_segments_words c ∙ rw (← e) in
    let apart = stored_apart (set w k d) free (k + 1) (segments_words c) (map length cs) (rw long (omega arith)) in
    rw (apart, ← e, store_cons w k d (map length cs), segments_words_append c (joined (λ x. x) cs), stored_append (stored (set w k d) (k + 1) (map length cs)) free (segments_words c) (segments_words (joined (λ x. x) cs)), long)

-- Words that a write list is decoded into chunk by chunk: with the chunks to come they are all.
pub record Decoding (s : List ℕ) (n : ℕ) (before w : List ℕ) (to counts from free i : ℕ) : Type 0 where
  pub used : ℕ
  pub is_free : free ≡ to + used * 4
  pub walk : Passing s n from used i
  pub long : length w ≡ length before
  pub rest : stored (stored w (counts + i) (map length (chunks_at (n - i) (drop from s)))) free (segments_words (joined (λ c. c) (chunks_at (n - i) (drop from s)))) ≡ with_writes before to counts (chunks_at n s)

pub decoding_starts : (s : List ℕ) (n : ℕ) (w : List ℕ) (to counts : ℕ) → ChunksFit n 16 s → Decoding s n w w to counts 0 to 0
unfolding with_writes
decoding_starts s n w to counts fits =
    let all : n - 0 ≡ n = omega arith in
    record { used = 0; is_free = omega arith; walk = passing_starts s n fits; long = refl; rest = rw (all, add-zero) }

module _ {s : List ℕ} {n : ℕ} {before w : List ℕ} {to counts from free i : ℕ} (f : Decoding s n before w to counts from free i) where
  module _ (more : i < n) (d : ℕ) (is : d ≡ word_at s (from + 4)) (fits : to + 64 ≤ counts) where
    pub decoding_fits : (from + (8 + d * 16) ≤ length s) × (d ≤ 16) × (free + d * 4 ≤ counts)
    decoding_fits =
        let p = passing_fits s n from f.used i f.walk more d is in
        let e = f.is_free in
        (p.0, omega (arith, p.1), omega (arith, p.1))

    pub decoding_next : (after : List ℕ) → after ≡ stored (set w (counts + i) d) free (segments_words (each 16 (λ t. segment_at t 0) d (drop (from + 8) s))) →
        Decoding s n before after to counts (from + (8 + d * 16)) (free + d * 4) (i + 1)
    decoding_next after e =
        let many : d ≡ length (each 16 (λ t. segment_at t 0) d (drop (from + 8) s)) = sym (length_each 16 (λ t. segment_at t 0) d (drop (from + 8) s)) in
        let k : counts + (i + 1) ≡ counts + i + 1 = omega arith in
        let step = writes_next w (counts + i) free d (each 16 (λ t. segment_at t 0) d (drop (from + 8) s)) (chunks_at (n - (i + 1)) (drop (from + (8 + d * 16)) s)) many (omega (arith, decoding_fits.2)) in
        let whole = ap (λ (cs : List (List Segment)). stored (stored w (counts + i) (map length cs)) free (segments_words (joined (λ c. c) cs))) (sym (passing_chunk s n from f.used i f.walk more d is)) in
        record {
          used = f.used + d;
          is_free = omega (arith, f.is_free);
          walk = passing_next s n from f.used i f.walk more d is;
          long = rw (e, length_stored, length-set) f.long;
          rest = rw (e, k) (step ∙ whole ∙ f.rest);
        }

  pub decoding_ends : n ≤ i → w ≡ with_writes before to counts (chunks_at n s)
  unfolding chunks_at joined segments_words stored
  decoding_ends h =
      let none : n - i ≡ 0 = omega arith in
      rw none at f.rest
