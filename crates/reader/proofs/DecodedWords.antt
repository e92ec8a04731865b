-- The words that a header is decoded into: zeros with its numbers, into which its lists are then stored one by one.
-- Assumes nothing.
use mathlib.Core.Path.{◌≡◌, refl, ap, ◌∙◌}
use mathlib.Core.List.{List, [], ◌∷◌, ◌++◌, map, append_assoc}
use mathlib.Core.Option.{Option, none, some}
use Prim.Native.Nat.{ℕ, zero, suc, ◌+◌, ◌-◌, ◌*◌, ◌≤◌}
use native.Mathlib.Nat.{zero-add, zero-mul, suc-add, suc-mul}
use native.Mathlib.Omega.{arith}
use lib.ListN.{length, take, drop, set, replicate, length-append, length-map, length-replicate, replicate-append-replicate}
use lib.Seq.{drop-append-le}
use Rattle.wire.specs.Wire.{word_at, segment_at, stored, joined, zero_segment, zero_read_segment}
use Rattle.wire.specs.Words.{flag_number, segment_words, read_segment_words}
use Rattle.wire.specs.declared.Segment.{Segment}
use Rattle.wire.specs.declared.ReadSegment.{ReadSegment}
use Rattle.wire.proofs.Fields.{part_from, stored_front, drop_replicate}
use Rattle.wire.proofs.Joining.{joined_length, joined_append}
use Rattle.chunk_lists.specs.Parsed.{Parsed, refused, done, each}
use Rattle.chunk_lists.specs.Internal.Steps.{marked_segment_at, chunks_at, with_writes}
use Rattle.chunk_lists.specs.Words.{reads_words, segments_words}
use Rattle.wire.proofs.Words.{read_segment_words_lem, segment_words_lem}
use Rattle.chunk_lists.proofs.Words.{length_reads_words, length_segments_words}
use Rattle.header.specs.Content.{Content, padded, reply_chunk_of, header_of, nothing}
use Rattle.reader.specs.Frame.{read_frame, read_answer, read_number, read_words}
use Rattle.std.specs.Option.{unwrap_or, is_some}
use Rattle.reader.proofs.FrameParts.{is_present, replies}
use Rattle.header.specs.Words.{kind_number, low_of, high_of, header_words, header_in}
use Rattle.header.specs.declared.Kind.{Kind}
use Rattle.header.specs.declared.Kind.TheVariants.{Msg}
use Rattle.header.specs.declared.Header.{Header}
use Rattle.reader.specs.declared.Shape.{Shape}
use Rattle.reader.proofs.FrameParts.{reply_segments_lem, Found, frame_parts}
use Rattle.header.proofs.Words.{Full, header_back}

-- A refused reading leaves the words as they were.
pub read_refused : (p : Parsed Content) (w : List ℕ) → (read_number p ≡ 0 → ⊥) → read_words p w ≡ w
read_refused (refused n) w h = refl
read_refused (done c t) w h = absurd (h refl)

abbrev zeros : ℕ → List ℕ
zeros n = replicate n 0

-- What is stored behind some words leaves them as they are.
set_behind : (a b : List ℕ) (j x : ℕ) → set (a ++ b) (length a + j) x ≡ a ++ set b j x
set_behind [] b j x = rw zero-add
set_behind (y ∷ a) b j x = rw suc-add (ap (λ (l : List ℕ). y ∷ l) (set_behind a b j x))

behind : (a b v : List ℕ) (j n : ℕ) → n ≡ length a + j → stored (a ++ b) n v ≡ a ++ stored b j v
unfolding stored
behind a b [] j n e = refl
behind a b (x ∷ v) j n e = rw (e, set_behind a b j x) (behind a (set b j x) v (suc j) (suc (length a + j)) (omega arith))

-- What is stored at the front of zeros leaves the rest of them, and what stands behind.
front : (k : ℕ) (v t : List ℕ) → length v ≤ k → stored (zeros k ++ t) 0 v ≡ (v ++ zeros (k - length v)) ++ t
front k v t h =
    let long : length (zeros k) ≡ k = length-replicate {A = ℕ} k 0 in
    let short : length v ≤ length (zeros k) = omega arith in
    stored_front (zeros k ++ t) v (omega (arith, length-append (zeros k) t))
    ∙ rw (drop-append-le (length v) (zeros k) t short, drop_replicate {A = ℕ} (length v) k 0 h, append_assoc)

-- Places of w words each, of which an empty one is zero: entries stored at their front.
module _ {A : Type 0} (f : A → List ℕ) (w : ℕ) (z : A) (long : (x : A) → length (f x) ≡ w) (empty : f z ≡ zeros w) where
  zero_places : (n : ℕ) → joined f (replicate n z) ≡ zeros (n * w)
  unfolding joined
  zero_places zero = rw zero-mul
  zero_places (suc n) =
      let e : w + n * w ≡ suc n * w = omega (arith, suc-mul n w) in
      rw (empty, zero_places n, replicate-append-replicate {A = ℕ} w (n * w) 0, e)

  places : (n k : ℕ) (l : List A) (t : List ℕ) → length l * w ≤ k → k - length l * w ≡ (n - length l) * w → stored (zeros k ++ t) 0 (joined f l) ≡ joined f (padded n z l) ++ t
  places n k l t fits e =
      let many : length (joined f l) ≡ length l * w = joined_length f w long l in
      front k (joined f l) t (rw many fits)
      ∙ rw (many, e, ← (zero_places (n - length l)), joined_append f l (replicate (n - length l) z))

reads_placed : (l : List ReadSegment) (t : List ℕ) → length l ≤ 16 → stored (zeros 96 ++ t) 0 (reads_words l) ≡ reads_words (padded 16 zero_read_segment l) ++ t
unfolding reads_words read_segment_words segment_words
reads_placed l t few = places read_segment_words 6 zero_read_segment read_segment_words_lem refl 16 96 l t (omega arith) (omega arith)

segments_placed : (l : List Segment) (t : List ℕ) → length l ≤ 16 → stored (zeros 64 ++ t) 0 (segments_words l) ≡ segments_words (padded 16 zero_segment l) ++ t
unfolding segments_words segment_words
segments_placed l t few = places segment_words 4 zero_segment segment_words_lem refl 16 64 l t (omega arith) (omega arith)

padded_length : {A : Type 0} (n : ℕ) (z : A) (l : List A) → length l ≤ n → length (padded n z l) ≡ n
padded_length n z l h = rw (length-append, length-replicate) (omega arith)

-- The three lists of a header, stored into zeros before its numbers.
lists_placed : (l : List ReadSegment) (cs : List (List Segment)) (r : List Segment) (numbers : List ℕ) →
    length l ≤ 16 → length cs ≤ 4 → length (joined (λ c. c) cs) ≤ 16 → length r ≤ 16 →
    stored (with_writes (stored (zeros 96 ++ (zeros 64 ++ (zeros 64 ++ (zeros 4 ++ numbers)))) 0 (reads_words l)) 96 224 cs) 160 (segments_words r)
    ≡ reads_words (padded 16 zero_read_segment l) ++ (segments_words (padded 16 zero_segment (joined (λ c. c) cs)) ++ (segments_words (padded 16 zero_segment r) ++ (padded 4 0 (map length cs) ++ numbers)))
unfolding with_writes
lists_placed l cs r numbers few chunks within replied =
    let a = reads_words (padded 16 zero_read_segment l) in
    let b = segments_words (padded 16 zero_segment (joined (λ c. c) cs)) in
    let a-long : length a ≡ 96 = rw (length_reads_words, padded_length 16 zero_read_segment l few) in
    let b-long : length b ≡ 64 = rw (length_segments_words, padded_length 16 zero_segment (joined (λ c. c) cs) within) in
    let z-long : length (zeros 64) ≡ 64 = length-replicate {A = ℕ} 64 0 in
    let counted : length (map length cs) ≤ 4 = rw length-map chunks in
    let counts = map length cs in
    let rest = padded 4 0 counts ++ numbers in
    rw (
      reads_placed l (zeros 64 ++ (zeros 64 ++ (zeros 4 ++ numbers))) few,
      behind a (zeros 64 ++ (zeros 64 ++ (zeros 4 ++ numbers))) counts 128 224 (omega arith),
      behind (zeros 64) (zeros 64 ++ (zeros 4 ++ numbers)) counts 64 128 (omega arith),
      behind (zeros 64) (zeros 4 ++ numbers) counts 0 64 (omega arith),
      front 4 counts numbers counted,
      behind a (zeros 64 ++ (zeros 64 ++ rest)) (segments_words (joined (λ c. c) cs)) 0 96 (omega arith),
      segments_placed (joined (λ c. c) cs) (zeros 64 ++ rest) within,
      behind a (b ++ (zeros 64 ++ rest)) (segments_words r) 64 160 (omega arith),
      behind b (zeros 64 ++ rest) (segments_words r) 0 64 (omega arith),
      segments_placed r rest replied,
    )

-- The words of a content, its lists padded.
content_words : (kind : Kind) (xid credit : ℕ) (reads : List ReadSegment) (writes : List (List Segment)) (reply : Option (List Segment)) →
    reads_words (padded 16 zero_read_segment reads) ++ (segments_words (padded 16 zero_segment (joined (λ c. c) writes)) ++ (segments_words (padded 16 zero_segment (reply_segments_lem reply)) ++ (padded 4 0 (map length writes)
    ++ (length reads ∷ length writes ∷ flag_number (is_present reply) ∷ replies reply ∷ kind_number kind ∷ low_of kind ∷ high_of kind ∷ xid ∷ credit ∷ 0 ∷ []))))
    ≡ header_words (header_of (record { kind = kind; xid = xid; credit = credit; reads = reads; writes = writes; reply = reply }))
unfolding header_words header_of
content_words kind xid credit reads writes none = refl
content_words kind xid credit reads writes (some l) = refl

-- A frame that was checked: the words after its numbers and its three lists were stored.
pub words_read : (s : List ℕ) (shape : Shape) → Found s shape → (k low high flag m x y : ℕ) (before a b after : List ℕ) →
    k ≡ kind_number shape.kind → low ≡ low_of shape.kind → high ≡ high_of shape.kind → flag ≡ flag_number (is_some shape.reply) → m ≡ unwrap_or shape.reply 0 → x ≡ word_at s 0 → y ≡ word_at s 8 →
    a ≡ stored (zeros 96 ++ (zeros 64 ++ (zeros 64 ++ (zeros 4 ++ (shape.reads ∷ shape.chunks ∷ flag ∷ m ∷ k ∷ low ∷ high ∷ x ∷ y ∷ 0 ∷ []))))) 0 (reads_words (each 24 marked_segment_at shape.reads (take (length s - 16) (drop 16 s)))) →
    b ≡ with_writes a 96 224 (chunks_at shape.chunks (take (length s - (20 + shape.reads * 24)) (drop (20 + shape.reads * 24) s))) →
    after ≡ stored b 160 (segments_words (each 16 (λ t. segment_at t 0) m (drop (shape.end - m * 16) s))) →
    (0 ≡ read_number (read_frame s)) × (after ≡ read_words (read_frame s) before)
words_read s shape f k low high flag m x y before a b after kind_is low-is high_is flag_is many xid credit reads writes reply =
    let c = f.content in
    let l = f.parts in
    let placed = lists_placed c.reads c.writes (reply_segments_lem c.reply)
    (length c.reads ∷ length c.writes ∷ flag_number (is_present c.reply) ∷ replies c.reply ∷ kind_number c.kind ∷ low_of c.kind ∷ high_of c.kind ∷ c.xid ∷ c.credit ∷ 0 ∷ [])
    l.reads_few l.writes_few l.writes_within (reply_few c.reply l.reply.few) in
    let words = placed ∙ content_words c.kind c.xid c.credit c.reads c.writes c.reply in
    (rw f.read, reply ∙ rw (writes, reads, kind_is, low-is, high_is, flag_is, many, xid, credit, part_from 16 s, part_from (20 + shape.reads * 24) s, f.shape_is, f.read, ← l.reads_are, ← l.writes_are, ← l.reply.are, ← l.xid, ← l.credit) words)
  where
    reply_few : (reply : Option (List Segment)) → replies reply ≤ 16 → length (reply_segments_lem reply) ≤ 16
    reply_few none h = omega arith
    reply_few (some l) h = h

-- A header that was read has all its places.
full_of : (kind : Kind) (xid credit : ℕ) (reads : List ReadSegment) (writes : List (List Segment)) (reply : Option (List Segment)) →
    length reads ≤ 16 → length writes ≤ 4 → length (joined (λ c. c) writes) ≤ 16 → replies reply ≤ 16 →
    Full (header_of (record { kind = kind; xid = xid; credit = credit; reads = reads; writes = writes; reply = reply }))
unfolding header_of
full_of kind xid credit reads writes reply few chunks within replied = record {
  reads = padded_length 16 zero_read_segment reads few;
  writes = padded_length 16 zero_segment (joined (λ c. c) writes) within;
  counts = padded_length 4 0 (map length writes) (rw length-map chunks);
  reply = places_of reply replied;
}
  where
    places_of : (reply : Option (List Segment)) → replies reply ≤ 16 → length (reply_chunk_of reply).segments ≡ 16
    places_of none h = length-replicate 16 zero_segment
    places_of (some l) h = padded_length 16 zero_segment l h

-- The words of a header that says nothing are zero.
nothing_words : zeros 238 ≡ header_words (header_of nothing)
unfolding header_words header_of reads_words segments_words joined read_segment_words segment_words
nothing_words = refl

-- What the words hold after reading into zeros.
pub answer_held : (s : List ℕ) (n : ℕ) (w : List ℕ) (h : Header) → n ≡ read_number (read_frame s) → w ≡ read_words (read_frame s) (zeros 238) → ((x : Header) → header_in w ≡ some x → h ≡ x) →
    record { header = h; number = n } ≡ read_answer (read_frame s)
unfolding joined
answer_held s n w h number words holds = go (read_frame s) refl number words
  where
    held_by : (x : Header) → Full x → w ≡ header_words x → h ≡ x
    held_by x full e = holds x (rw e (header_back x full))

    go : (p : Parsed Content) → read_frame s ≡ p → n ≡ read_number p → w ≡ read_words p (zeros 238) → record { header = h; number = n } ≡ read_answer p
    go (refused k) r e v = let same : h ≡ header_of nothing = held_by (header_of nothing) (full_of Msg 0 0 [] [] none (omega arith) (omega arith) (omega arith) (omega arith)) (v ∙ nothing_words) in rw (same, e)
    go (done c t) r e v =
        let l = frame_parts s c t r in
        let same : h ≡ header_of c = held_by (header_of c) (full_of c.kind c.xid c.credit c.reads c.writes c.reply l.reads_few l.writes_few l.writes_within l.reply.few) v in
        rw (same, e)
