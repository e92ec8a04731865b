-- What was written is read: the three lists, and the whole header.
-- Assumes nothing.
use mathlib.Core.Path.{◌≡◌, refl, sym, ◌∙◌}
use mathlib.Core.Bool.{true}
use mathlib.Core.List.{List, [], ◌∷◌, ◌++◌, append_assoc, map}
use mathlib.Core.Option.{Option, none, some}
use Rattle.std.specs.Prelude.{Ok}
use Prim.Native.Nat.{ℕ, zero, suc, ◌+◌, ◌-◌, ◌*◌, ◌≤◌}
use native.Mathlib.Omega.{arith}
use borrow.Author.Tests.{le-leb}
use lib.ListN.{length, drop}
use lib.Seq.{drop-drop}
use Rattle.wire.specs.Wire.{word_at, segment_at, word_bytes, segment_bytes, read_segment_bytes, joined}
use Rattle.chunk_lists.proofs.Positions.{aligned_on}
use Rattle.chunk_lists.specs.Parsed.{done, each}
use Rattle.chunk_lists.specs.Lists.{marker_of, is_aligned, read_entry, read_list, all_aligned, segments, counted, write_list, reply_chunk}
use Rattle.header.specs.Bytes.{entry_bytes, counted_bytes, chunk_bytes, read_list_bytes, write_list_bytes, reply_bytes, error_bytes, procedure_of, rest_bytes, fixed_bytes, header_bytes}
use Rattle.header.specs.Limits.{total}
use Rattle.wire.specs.Fits.{Word32, All, SegmentFits, ReadSegmentFits}
use Rattle.header.specs.Fits.{ErrorFits, KindFits}
use Rattle.header.specs.Content.{Content}
use Rattle.reader.specs.Frame.{three_parts, error_body, error_content, by_procedure, read_frame}
use Rattle.header.specs.declared.Kind.{Kind}
use Rattle.header.specs.declared.Kind.TheVariants.{Msg, Nomsg, Error}
use Rattle.header.specs.declared.ErrorKind.{ErrorKind}
use Rattle.header.specs.declared.ErrorKind.TheVariants.{Version, Chunk}
use Rattle.wire.specs.declared.Segment.{Segment}
use Rattle.wire.specs.declared.ReadSegment.{ReadSegment}
use Rattle.chunk_lists.specs.declared.Marker.TheVariants as marker
use Rattle.header.proofs.Allowed.{ReplyAllowed, Allowed, BareIfError, Behind}
use Rattle.wire.proofs.WordBytes.{join_bytes_lem, word_of_back, segment_back, read_segment_back, position_back, length_segment, length_read_segment, drop_word, drop_segment, drop_read_segment}

-- A marker 0 is read as an end.
pub marker_end : (r : List ℕ) → marker_of (word_bytes 0 ++ r) ≡ Ok marker.End
unfolding marker_of
marker_end r = simp (word_of_back 0 r (omega arith))

-- A marker 1 is read as an entry.
pub marker_entry : (r : List ℕ) → marker_of (word_bytes 1 ++ r) ≡ Ok marker.Entry
unfolding marker_of
marker_entry r = simp (word_of_back 1 r (omega arith))

-- An entry of the read list that was written is read.
entry_back : (x : ReadSegment) (r : List ℕ) → ReadSegmentFits x → is_aligned x.position ≡ true → read_entry (read_segment_bytes x ++ r) ≡ done x r
unfolding read_entry
entry_back x r f a =
    simp (le-leb 20 (length (read_segment_bytes x ++ r)) (omega (arith, length_read_segment x r)), position_back x r f, a, read_segment_back x r f, drop_read_segment x r)

-- The bytes of a read list begin with those of its first entry.
pub read_entry_first : (x : ReadSegment) (l : List ReadSegment) (r : List ℕ) → read_list_bytes (x ∷ l) ++ r ≡ word_bytes 1 ++ (read_segment_bytes x ++ (read_list_bytes l ++ r))
unfolding read_list_bytes joined entry_bytes
read_entry_first x l r = simp append_assoc

-- A read list that was written is read.
pub read_list_back : (l : List ReadSegment) (r : List ℕ) (room : ℕ) → All ReadSegmentFits l → length l ≤ room → all_aligned l ≡ true →
    read_list room (read_list_bytes l ++ r) ≡ done l r
unfolding read_list read_list_bytes joined All
read_list_back [] r zero f h p = simp (marker_end r, drop_word)
read_list_back [] r (suc room) f h p = simp (marker_end r, drop_word)
read_list_back (x ∷ l) r zero f h p = absurd (omega arith)
read_list_back (x ∷ l) r (suc room) f h p =
    let a = aligned_on x l p in
    simp (
      read_entry_first x l r,
      marker_entry (read_segment_bytes x ++ (read_list_bytes l ++ r)),
      drop_word,
      entry_back x (read_list_bytes l ++ r) f.0 a.0,
      read_list_back l r room f.1 (omega arith) a.1,
    )

-- How long the bytes of segments are.
length_segments : (l : List Segment) (r : List ℕ) → length (joined segment_bytes l ++ r) ≡ length l * 16 + length r
unfolding joined
length_segments [] r = omega arith
length_segments (x ∷ l) r = simp (append_assoc, length_segment) (omega (arith, length_segments l r))

-- What stands behind segments.
drop_segments : (l : List Segment) (r : List ℕ) → drop (length l * 16) (joined segment_bytes l ++ r) ≡ r
unfolding joined
drop_segments [] r = refl
drop_segments (x ∷ l) r =
    let n : suc (length l) * 16 ≡ 16 + length l * 16 = omega arith in
    simp (n, append_assoc, ← drop-drop, drop_segment, drop_segments l r)

-- Segments that were written are read one behind the other.
each_back : (l : List Segment) (r : List ℕ) → All SegmentFits l → each 16 (λ t. segment_at t 0) (length l) (joined segment_bytes l ++ r) ≡ l
unfolding joined each All
each_back [] r f = refl
each_back (x ∷ l) r f = simp (append_assoc, segment_back x (joined segment_bytes l ++ r) f.0, drop_segment, each_back l r f.1)

-- A counted run of segments that was written is read.
pub counted_back : (l : List Segment) (r : List ℕ) (left : ℕ) → All SegmentFits l → length l ≤ left → Word32 left → counted left (counted_bytes l ++ r) ≡ done l r
unfolding counted counted_bytes segments
counted_back l r left f h w =
    simp (
      append_assoc,
      word_of_back (length l) (joined segment_bytes l ++ r) (omega arith),
      drop_word,
      le-leb (length l) left h,
      le-leb (length l * 16) (length (joined segment_bytes l ++ r)) (omega (arith, length_segments l r)),
      each_back l r f,
      drop_segments l r,
    )

-- The bytes of a write list begin with those of its first chunk.
pub chunk_first : (c : List Segment) (cs : List (List Segment)) (r : List ℕ) → write_list_bytes (c ∷ cs) ++ r ≡ word_bytes 1 ++ (counted_bytes c ++ (write_list_bytes cs ++ r))
unfolding write_list_bytes joined chunk_bytes
chunk_first c cs r = simp append_assoc

-- A write list that was written is read.
pub write_list_back : (cs : List (List Segment)) (r : List ℕ) (room left : ℕ) → All (All SegmentFits) cs → length cs ≤ room → total (map length cs) ≤ left → Word32 left →
    write_list room left (write_list_bytes cs ++ r) ≡ done cs r
unfolding write_list write_list_bytes joined All total
write_list_back [] r zero left f h t w = simp (marker_end r, drop_word)
write_list_back [] r (suc room) left f h t w = simp (marker_end r, drop_word)
write_list_back (c ∷ cs) r zero left f h t w = absurd (omega arith)
write_list_back (c ∷ cs) r (suc room) left f h t w =
    simp (
      chunk_first c cs r,
      marker_entry (counted_bytes c ++ (write_list_bytes cs ++ r)),
      drop_word,
      counted_back c (write_list_bytes cs ++ r) left f.0 (omega arith) w,
      write_list_back cs r room (left - length c) f.1 (omega arith) (omega arith) (omega arith),
    )

-- A reply chunk that was written is read.
pub reply_back : (o : Option (List Segment)) (r : List ℕ) → ReplyAllowed o → reply_chunk (reply_bytes o ++ r) ≡ done o r
unfolding reply_chunk reply_bytes chunk_bytes
reply_back none r f = simp (marker_end r, drop_word)
reply_back (some l) r f =
    simp (append_assoc, marker_entry (counted_bytes l ++ r), drop_word, counted_back l r 16 f.1 f.0 (omega arith))

-- The three parts that were written are read.
three_parts_back : (c : Content) (t : List ℕ) → Allowed c →
    three_parts c.kind c.xid c.credit (read_list_bytes c.reads ++ (write_list_bytes c.writes ++ (reply_bytes c.reply ++ t))) ≡ done c t
unfolding three_parts
three_parts_back c t a =
    simp (
      read_list_back c.reads (write_list_bytes c.writes ++ (reply_bytes c.reply ++ t)) 16 a.reads a.reads_limit a.aligned,
      write_list_back c.writes (reply_bytes c.reply ++ t) 4 16 a.writes a.chunks_limit a.writes_limit (omega arith),
      reply_back c.reply t a.reply,
    )

-- What stands behind two words.
drop_two : (x y : ℕ) (r : List ℕ) → drop 8 (word_bytes x ++ (word_bytes y ++ r)) ≡ r
unfolding word_bytes
drop_two x y r = refl

-- What stands behind three words.
drop_three : (x y z : ℕ) (r : List ℕ) → drop 12 (word_bytes x ++ (word_bytes y ++ (word_bytes z ++ r))) ≡ r
unfolding word_bytes
drop_three x y z r = refl

-- What an ERROR header goes on with is read.
error_back : (e : ErrorKind) (xid credit : ℕ) (t : List ℕ) → ErrorFits e → error_body xid credit (error_bytes e ++ t) ≡ done (error_content e xid credit) t
unfolding error_body error_bytes
error_back (Version low high) xid credit t f =
    simp (append_assoc, word_of_back 1 (word_bytes low ++ (word_bytes high ++ t)) (omega arith), drop_two, drop_three, drop_word, word_of_back low (word_bytes high ++ t) f.0, word_of_back high t f.1)
error_back Chunk xid credit t f = simp (word_of_back 2 t (omega arith), drop_word)

-- A procedure number fits its word.
procedure_fits : (kind : Kind) → Word32 (procedure_of kind)
procedure_fits Msg = omega arith
procedure_fits Nomsg = omega arith
procedure_fits (Error e) = omega arith

-- The fixed words that were written are read.
fixed_back : (kind : Kind) (xid credit : ℕ) (r : List ℕ) → Word32 xid → Word32 credit →
    read_frame (fixed_bytes kind xid credit ++ r) ≡ by_procedure (procedure_of kind) xid credit r
unfolding read_frame fixed_bytes word_at word_bytes
fixed_back kind xid credit r x c =
    simp (le-leb 16 (length (fixed_bytes kind xid credit ++ r)) (omega arith), join_bytes_lem xid x, join_bytes_lem credit c, join_bytes_lem (procedure_of kind) (procedure_fits kind))

-- The content of an ERROR header.
pub error_content_lem : (e : ErrorKind) (c : Content) → c.kind ≡ Error e → BareIfError (Error e) c → error_content e c.xid c.credit ≡ c
error_content_lem e c k bare = λ i. record { kind = sym k i; xid = c.xid; credit = c.credit; reads = sym bare.0 i; writes = sym bare.1 i; reply = sym bare.2 i }

-- What stands behind the fixed words is read, by the kind.
by_kind_back : (kind : Kind) (c : Content) (t : List ℕ) → c.kind ≡ kind → Allowed c → KindFits kind → BareIfError kind c → Behind kind t →
    by_procedure (procedure_of kind) c.xid c.credit (rest_bytes kind (read_list_bytes c.reads ++ (write_list_bytes c.writes ++ reply_bytes c.reply)) ++ t) ≡ done c t
unfolding by_procedure
by_kind_back Msg c t k a f bare behind = simp (append_assoc, ← k) (three_parts_back c t a)
by_kind_back Nomsg c t k a f bare behind =
    simp (append_assoc, ← k, three_parts_back c t a) (simp behind)
by_kind_back (Error e) c t k a f bare behind =
    simp (error_back e c.xid c.credit t f) (simp (behind, error_content_lem e c k bare))

-- A header that was written is read.
pub header_back : (c : Content) (t : List ℕ) → Allowed c → Behind c.kind t → read_frame (header_bytes c ++ t) ≡ done c t
unfolding header_bytes
header_back c t a behind =
    simp append_assoc
    (fixed_back c.kind c.xid c.credit _ a.xid a.credit ∙ by_kind_back c.kind c t refl a a.kind a.bare behind)
