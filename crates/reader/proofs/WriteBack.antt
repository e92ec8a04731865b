-- What was read, written again, gives the bytes that it was read from.
-- Assumes nothing.
use mathlib.Core.Path.{◌≡◌, refl, sym, subst}
use mathlib.Core.Bool.{Bool, true, false, cond}
use mathlib.Core.List.{List, [], ◌∷◌, ◌++◌, append_assoc, map}
use mathlib.Core.Option.{Option, none, some}
use Rattle.std.specs.Prelude.{Result, Ok, Err}
use Prim.Native.Nat.{ℕ, zero, suc, ◌+◌, ◌-◌, ◌*◌, ◌%◌, ◌≤◌}
use native.Mathlib.Omega.{arith}
use borrow.Author.Tests.{leb-true, eqb-true}
use lib.ListN.{length, drop, length-drop}
use lib.Seq.{drop-drop, drop-append_seam}
use lib.Dec.{leb, eqb}
use Rattle.wire.specs.Wire.{word_at, word_of, segment_at, read_segment_at, word_bytes, segment_bytes, read_segment_bytes, joined}
use Rattle.chunk_lists.specs.Parsed.{Parsed, refused, done, and_then, require, prepend, each}
use Rattle.chunk_lists.specs.Lists.{marker_word, marker_of, after_marker, optional, is_aligned, read_entry, read_list, all_aligned, segments, after_word, counted, write_list, reply_chunk}
use Rattle.header.specs.Bytes.{counted_bytes, chunk_bytes, read_list_bytes, write_list_bytes, reply_bytes}
use Rattle.header.specs.Limits.{total}
use Rattle.wire.specs.Fits.{AllBytes, Word32, All, SegmentFits, ReadSegmentFits}
use Rattle.wire.specs.declared.Segment.{Segment}
use Rattle.wire.specs.declared.ReadSegment.{ReadSegment}
use Rattle.chunk_lists.specs.declared.Marker.TheVariants as marker
use Rattle.header.proofs.Allowed.{ReplyAllowed}
use Rattle.reader.proofs.ReadBack.{read_entry_first, chunk_first}
use Rattle.wire.proofs.WordBytes.{bytes_drop, word_fits, word_front, segment_front, read_segment_front, segment_fits, read_segment_fits}
use Rattle.chunk_lists.proofs.Items.{length_each}
use Rattle.chunk_lists.proofs.ListSteps.{never, required, both}
use Rattle.chunk_lists.proofs.ListBytes.{longer}

-- What holds of one reading holds of the same reading.
pub done_same : {A : Type 0} (P : A → List ℕ → Type 0) (a b : A) (t u : List ℕ) → done a t ≡ done b u → P a t → P b u
done_same {A} P a b t u e p =
    let v : a ≡ b = cc in
    let w : t ≡ u = cc in
    subst (λ (s : List ℕ). P b s) w (subst (λ (x : A). P x t) v p)

-- What stands behind some bytes of s is bytes, where s is.
pub bytes_behind : (u t s : List ℕ) → u ++ t ≡ s → AllBytes s → AllBytes t
bytes_behind u t s e b =
    let d : drop (length u) s ≡ t = simp (← e) (drop-append_seam u t) in
    subst AllBytes d (bytes_drop (length u) s b)

-- A word that was there.
pub word_of_front : (s : List ℕ) (x : ℕ) → AllBytes s → word_of s ≡ Ok x → (word_bytes x ++ drop 4 s ≡ s) × Word32 x
unfolding word_of
word_of_front s x b e = go (leb 4 (length s)) refl e
  where
    go : (holds : Bool) → leb 4 (length s) ≡ holds → cond {A = Result ℕ ℕ} holds (Ok (word_at s 0)) (Err 5) ≡ Ok x → (word_bytes x ++ drop 4 s ≡ s) × Word32 x
    go true l q =
        let v : word_at s 0 ≡ x = cc in
        simp (← v) (word_front s 0 4 b refl (leb-true 4 (length s) l), word_fits s 0 b)
    go false l q = absurd (let z : ◌≡◌ {A = ℕ} 0 1 = cc in omega arith)

-- Optional data that was read: a marker 0 and no more, or a marker 1 and what is present.
data OptionalRead {A : Type 0} (absent : A) (present : List ℕ → Parsed A) (s : List ℕ) (a : A) (t : List ℕ) : Type 0 where
  ended : a ≡ absent → word_bytes 0 ++ t ≡ s → OptionalRead absent present s a t
  entered : word_bytes 1 ++ drop 4 s ≡ s → present (drop 4 s) ≡ done a t → OptionalRead absent present s a t

-- Optional data that was read is one or the other.
optional_done : {A : Type 0} (absent : A) (present : List ℕ → Parsed A) (s : List ℕ) (a : A) (t : List ℕ) → AllBytes s → optional absent present s ≡ done a t →
    OptionalRead absent present s a t
unfolding marker_of
optional_done absent present s a t b e = by_word (word_of s) refl e
  where
    by_value : (x : ℕ) (zero? one? : Bool) → eqb x 0 ≡ zero? → eqb x 1 ≡ one? → word_of s ≡ Ok x →
        after_marker (cond zero? (Ok marker.End) (cond one? (Ok marker.Entry) (Err 6))) (drop 4 s) absent present ≡ done a t → OptionalRead absent present s a t
    by_value x true one? p q w e =
        let x0 : x ≡ 0 = eqb-true x 0 p in
        let d : t ≡ drop 4 s = cc in
        ended (cc) (simp (d, ← x0) (word_of_front s x b w).0)
    by_value x false true p q w e =
        let x1 : x ≡ 1 = eqb-true x 1 q in
        entered (simp (← x1) (word_of_front s x b w).0) e
    by_value x false false p q w e = absurd (never e)

    by_word : (w : Result ℕ ℕ) → word_of s ≡ w → after_marker (marker_word w) (drop 4 s) absent present ≡ done a t → OptionalRead absent present s a t
    by_word (Err n) p q = absurd (never q)
    by_word (Ok x) p q = by_value x (eqb x 0) (eqb x 1) refl refl p q

-- An entry of the read list that was read.
record EntryRead (s : List ℕ) (x : ReadSegment) (t : List ℕ) : Type 0 where
  bytes : read_segment_bytes x ++ t ≡ s
  fits : ReadSegmentFits x
  aligned : is_aligned x.position ≡ true

-- An entry that was read is what stood there.
entry_done : (s : List ℕ) (x : ReadSegment) (t : List ℕ) → AllBytes s → read_entry s ≡ done x t → EntryRead s x t
unfolding read_entry read_segment_at
entry_done s x t b e =
    let p = required (leb 20 (length s)) 5 _ e in
    let q = required (eqb (word_at s 0 % 4) 0) 9 _ p.1 in
    done_same (EntryRead s) (read_segment_at s 0) x (drop 20 s) t q.1 (record {
      bytes = read_segment_front s 0 20 b refl (leb-true 20 (length s) p.0);
      fits = read_segment_fits s 0 b;
      aligned = q.0;
    })

-- A read list that was read.
pub record ReadListRead (room : ℕ) (s : List ℕ) (l : List ReadSegment) (t : List ℕ) : Type 0 where
  pub bytes : read_list_bytes l ++ t ≡ s
  pub fits : All ReadSegmentFits l
  pub limit : length l ≤ room
  pub aligned : all_aligned l ≡ true

-- A read list of no entries.
reads_ended : (room : ℕ) (s : List ℕ) (l : List ReadSegment) (t : List ℕ) → l ≡ [] → word_bytes 0 ++ t ≡ s → ReadListRead room s l t
unfolding read_list_bytes joined All all_aligned
reads_ended room s l t n e = simp n (record { bytes = e; fits = tt; limit = omega arith; aligned = refl })

-- A read list of one entry more.
reads_entered : (room : ℕ) (s u : List ℕ) (x : ReadSegment) (l : List ReadSegment) (t : List ℕ) →
    word_bytes 1 ++ drop 4 s ≡ s → EntryRead (drop 4 s) x u → ReadListRead room u l t → ReadListRead (suc room) s (x ∷ l) t
unfolding All all_aligned
reads_entered room s u x l t m entry more =
    record {
      bytes = simp (read_entry_first x l t, more.bytes, entry.bytes) m;
      fits = (entry.fits, more.fits);
      limit = omega (arith, more.limit);
      aligned = simp entry.aligned more.aligned;
    }

-- A read list that was read is what stood there, and keeps the rules.
pub read_list_done : (room : ℕ) (s : List ℕ) (l : List ReadSegment) (t : List ℕ) → AllBytes s → read_list room s ≡ done l t → ReadListRead room s l t
unfolding read_list
read_list_done zero s l t b e = go (optional_done [] (λ u. refused 7) s l t b e)
  where
    go : OptionalRead [] (λ u. refused 7) s l t → ReadListRead zero s l t
    go (ended n m) = reads_ended zero s l t n m
    go (entered m f) = absurd (never f)
read_list_done (suc room) s l t b e = go (optional_done [] next s l t b e) (read_list_done room)
  where
    next : List ℕ → Parsed (List ReadSegment)
    next u = and_then (read_entry u) (λ x v. prepend x (read_list room v))

    go : OptionalRead [] next s l t →
        ((s' : List ℕ) (l' : List ReadSegment) (t' : List ℕ) → AllBytes s' → read_list room s' ≡ done l' t' → ReadListRead room s' l' t') →
        ReadListRead (suc room) s l t
    go (ended n m) ih = reads_ended (suc room) s l t n m
    go (entered m f) ih =
        let one = both (read_entry (drop 4 s)) f in
        let x = one.first in
        let entry = entry_done (drop 4 s) x one.behind (bytes_drop 4 s b) one.is in
        let two = longer x (read_list room one.behind) l t one.then in
        let more = ih one.behind two.rest t (bytes_behind (read_segment_bytes x) one.behind (drop 4 s) entry.bytes (bytes_drop 4 s b)) two.read in
        subst (λ (k : List ReadSegment). ReadListRead (suc room) s k t) (sym two.is) (reads_entered room s one.behind x two.rest t m entry more)

-- Segments that were read one behind the other are what stood there.
each_front : (n : ℕ) (s : List ℕ) → AllBytes s → n * 16 ≤ length s → joined segment_bytes (each 16 (λ t. segment_at t 0) n s) ++ drop (n * 16) s ≡ s
unfolding each joined
each_front zero s b h = refl
each_front (suc n) s b h =
    let k : suc n * 16 ≡ 16 + n * 16 = omega arith in
    simp (k, append_assoc, ← drop-drop, each_front n (drop 16 s) (bytes_drop 16 s b) (simp length-drop (omega arith)))
    (segment_front s 0 16 b refl (omega arith))

-- Segments of bytes fit.
each_fits : (n : ℕ) (s : List ℕ) → AllBytes s → All SegmentFits (each 16 (λ t. segment_at t 0) n s)
unfolding each All
each_fits zero s b = tt
each_fits (suc n) s b = (segment_fits s 0 b, each_fits n (drop 16 s) (bytes_drop 16 s b))

-- A counted run of segments that was read.
record CountedRead (left : ℕ) (s : List ℕ) (c : List Segment) (t : List ℕ) : Type 0 where
  bytes : counted_bytes c ++ t ≡ s
  fits : All SegmentFits c
  limit : length c ≤ left

-- A counted run that was read is what stood there, and keeps the limit.
counted_done : (left : ℕ) (s : List ℕ) (c : List Segment) (t : List ℕ) → AllBytes s → counted left s ≡ done c t → CountedRead left s c t
unfolding counted segments counted_bytes
counted_done left s c t b e = go (word_of s) refl e
  where
    go : (w : Result ℕ ℕ) → word_of s ≡ w → after_word w (λ n. require (leb n left) 7 (segments n (drop 4 s))) ≡ done c t → CountedRead left s c t
    go (Err n) p q = absurd (never q)
    go (Ok n) p q =
        let u = drop 4 s in
        let room = required (leb n left) 7 (segments n u) q in
        let there = required (leb (n * 16) (length u)) 5 (done (each 16 (λ v. segment_at v 0) n u) (drop (n * 16) u)) room.1 in
        let bu = bytes_drop 4 s b in
        let le = leb-true n left room.0 in
        done_same (CountedRead left s) (each 16 (λ v. segment_at v 0) n u) c (drop (n * 16) u) t there.1 (record {
          bytes = simp (length_each 16 (λ v. segment_at v 0) n u, append_assoc, each_front n u bu (leb-true (n * 16) (length u) there.0)) (word_of_front s n b p).0;
          fits = each_fits n u bu;
          limit = simp (length_each 16 (λ v. segment_at v 0) n u) le;
        })

-- A write list that was read.
pub record WriteListRead (room left : ℕ) (s : List ℕ) (cs : List (List Segment)) (t : List ℕ) : Type 0 where
  pub bytes : write_list_bytes cs ++ t ≡ s
  pub fits : All (All SegmentFits) cs
  pub limit : length cs ≤ room
  pub sum : total (map length cs) ≤ left

-- A write list of no chunks.
writes_ended : (room left : ℕ) (s : List ℕ) (cs : List (List Segment)) (t : List ℕ) → cs ≡ [] → word_bytes 0 ++ t ≡ s → WriteListRead room left s cs t
unfolding write_list_bytes joined All total
writes_ended room left s cs t n e = simp n (record { bytes = e; fits = tt; limit = omega arith; sum = omega arith })

-- A write list of one chunk more.
writes_entered : (room left : ℕ) (s u : List ℕ) (c : List Segment) (cs : List (List Segment)) (t : List ℕ) →
    word_bytes 1 ++ drop 4 s ≡ s → CountedRead left (drop 4 s) c u → WriteListRead room (left - length c) u cs t → WriteListRead (suc room) left s (c ∷ cs) t
unfolding All total
writes_entered room left s u c cs t m chunk more =
    record {
      bytes = simp (chunk_first c cs t, more.bytes, chunk.bytes) m;
      fits = (chunk.fits, more.fits);
      limit = omega (arith, more.limit);
      sum = omega (arith, more.sum, chunk.limit);
    }

-- A write list that was read is what stood there, and keeps the limits.
pub write_list_done : (room left : ℕ) (s : List ℕ) (cs : List (List Segment)) (t : List ℕ) → AllBytes s → write_list room left s ≡ done cs t → WriteListRead room left s cs t
unfolding write_list
write_list_done zero left s cs t b e = go (optional_done [] (λ u. refused 7) s cs t b e)
  where
    go : OptionalRead [] (λ u. refused 7) s cs t → WriteListRead zero left s cs t
    go (ended n m) = writes_ended zero left s cs t n m
    go (entered m f) = absurd (never f)
write_list_done (suc room) left s cs t b e = go (optional_done [] next s cs t b e) (write_list_done room)
  where
    next : List ℕ → Parsed (List (List Segment))
    next u = and_then (counted left u) (λ c v. prepend c (write_list room (left - length c) v))

    go : OptionalRead [] next s cs t →
        ((left' : ℕ) (s' : List ℕ) (cs' : List (List Segment)) (t' : List ℕ) → AllBytes s' → write_list room left' s' ≡ done cs' t' → WriteListRead room left' s' cs' t') →
        WriteListRead (suc room) left s cs t
    go (ended n m) ih = writes_ended (suc room) left s cs t n m
    go (entered m f) ih =
        let one = both (counted left (drop 4 s)) f in
        let c = one.first in
        let chunk = counted_done left (drop 4 s) c one.behind (bytes_drop 4 s b) one.is in
        let two = longer c (write_list room (left - length c) one.behind) cs t one.then in
        let more = ih (left - length c) one.behind two.rest t (bytes_behind (counted_bytes c) one.behind (drop 4 s) chunk.bytes (bytes_drop 4 s b)) two.read in
        subst (λ (k : List (List Segment)). WriteListRead (suc room) left s k t) (sym two.is) (writes_entered room left s one.behind c two.rest t m chunk more)

-- A reply chunk that was read.
pub record ReplyRead (s : List ℕ) (o : Option (List Segment)) (t : List ℕ) : Type 0 where
  pub bytes : reply_bytes o ++ t ≡ s
  pub allowed : ReplyAllowed o

-- A reply chunk that was read is what stood there, and keeps the limit.
pub reply_done : (s : List ℕ) (o : Option (List Segment)) (t : List ℕ) → AllBytes s → reply_chunk s ≡ done o t → ReplyRead s o t
unfolding reply_chunk reply_bytes chunk_bytes
reply_done s o t b e = go (optional_done none next s o t b e)
  where
    next : List ℕ → Parsed (Option (List Segment))
    next u = and_then (counted 16 u) (λ c v. done (some c) v)

    go : OptionalRead none next s o t → ReplyRead s o t
    go (ended n m) = simp n (record { bytes = m; allowed = tt })
    go (entered m f) =
        let one = both (counted 16 (drop 4 s)) f in
        let c = one.first in
        let chunk = counted_done 16 (drop 4 s) c one.behind (bytes_drop 4 s b) one.is in
        done_same (ReplyRead s) (some c) o one.behind t one.then (record { bytes = simp (append_assoc, chunk.bytes) m; allowed = (chunk.limit, chunk.fits) })
