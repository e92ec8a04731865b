-- Words and segments, written and read back.
-- Assumes nothing.
use mathlib.Core.Path.{◌≡◌, refl}
use mathlib.Core.List.{List, [], ◌∷◌, ◌++◌, append_assoc}
use Prim.Native.Nat.{ℕ, ◌+◌, ◌*◌, ◌/◌, ◌%◌, ◌≤◌, ◌<◌}
use native.Mathlib.Omega.{arith}
use native.Mathlib.Nat.{div-add-mod', mod-eq_of_lt, add-zero}
use borrow.Author.Tests.{le-leb}
use lib.ListN.{length, drop, length-drop}
use lib.Seq.{get_or-drop, drop-drop}
use Rattle.wire.specs.Wire.{join_bytes, word_at, word_of, segment_at, read_segment_at, word_bytes, segment_bytes, read_segment_bytes}
use Rattle.wire.specs.Items.{word_drop}
use Rattle.wire.specs.Fits.{AllBytes, Word32, SegmentFits, ReadSegmentFits}
use Rattle.std.specs.Prelude.{Ok}
use Rattle.wire.specs.declared.Segment.{Segment}
use Rattle.wire.specs.declared.ReadSegment.{ReadSegment}

-- Four digits to the base 256 make a number.
digits : (x a b c p q r : ℕ) → a * 256 + p ≡ x → b * 256 + q ≡ a → c * 256 + r ≡ b → c * 16777216 + r * 65536 + q * 256 + p ≡ x
digits x a b c p q r h k l = omega arith

-- The four bytes of a word make the word.
pub join_bytes_lem : (x : ℕ) → Word32 x → join_bytes (x / 16777216 % 256) (x / 65536 % 256) (x / 256 % 256) (x % 256) ≡ x
join_bytes_lem x h =
    let two : x / 65536 ≡ x / 256 / 256 = omega arith in
    let three : x / 16777216 ≡ x / 65536 / 256 = omega arith in
    let top : x / 256 / 256 / 256 % 256 ≡ x / 256 / 256 / 256 = mod-eq_of_lt (omega arith) in
    simp (three, two, top)
    (digits x (x / 256) (x / 256 / 256) (x / 256 / 256 / 256) _ _ _ (div-add-mod' x 256) (div-add-mod' (x / 256) 256) (div-add-mod' (x / 256 / 256) 256))

-- Four bytes are the bytes of the word that they make.
pub bytes_join : (a b c d : ℕ) → a < 256 → b < 256 → c < 256 → d < 256 → word_bytes (join_bytes a b c d) ≡ a ∷ b ∷ c ∷ d ∷ []
unfolding word_bytes
bytes_join a b c d p q r s =
    let e : (a * 16777216 + b * 65536 + c * 256 + d) / 16777216 % 256 ≡ a = omega arith in
    let f : (a * 16777216 + b * 65536 + c * 256 + d) / 65536 % 256 ≡ b = omega arith in
    let g : (a * 16777216 + b * 65536 + c * 256 + d) / 256 % 256 ≡ c = omega arith in
    let h : (a * 16777216 + b * 65536 + c * 256 + d) % 256 ≡ d = omega arith in
    simp (e, f, g, h)

-- A word that was written is read.
pub word_back : (x : ℕ) (r : List ℕ) → Word32 x → word_at (word_bytes x ++ r) 0 ≡ x
unfolding word_at word_bytes
word_back x r h = join_bytes_lem x h

-- The bytes behind some bytes are bytes.
pub bytes_drop : (n : ℕ) (s : List ℕ) → AllBytes s → AllBytes (drop n s)
unfolding AllBytes
bytes_drop n s b k = rw get_or-drop (b (n + k))

-- A word of bytes fits.
pub word_fits : (s : List ℕ) (k : ℕ) → AllBytes s → Word32 (word_at s k)
unfolding word_at AllBytes
word_fits s k b = omega (arith, b k, b (k + 1), b (k + 2), b (k + 3))

-- The first word of some bytes is what stands there.
word_first : (s : List ℕ) → AllBytes s → 4 ≤ length s → word_bytes (word_at s 0) ++ drop 4 s ≡ s
unfolding word_at AllBytes
word_first [] b h = absurd (omega arith)
word_first (p ∷ []) b h = absurd (omega arith)
word_first (p ∷ q ∷ []) b h = absurd (omega arith)
word_first (p ∷ q ∷ r ∷ []) b h = absurd (omega arith)
word_first (p ∷ q ∷ r ∷ s ∷ t) b h = rw (bytes_join p q r s (b 0) (b 1) (b 2) (b 3))

-- The word read from k on is what stands there.
pub word_front : (s : List ℕ) (k j : ℕ) → AllBytes s → k + 4 ≡ j → j ≤ length s → word_bytes (word_at s k) ++ drop j s ≡ drop k s
word_front s k j b q h =
    let e : word_at (drop k s) 0 ≡ word_at s k = simp (word_drop, add-zero) in
    let f : word_bytes (word_at (drop k s) 0) ++ drop 4 (drop k s) ≡ drop k s = word_first (drop k s) (bytes_drop k s b) (simp length-drop (omega arith)) in
    simp (e, drop-drop, q) at f

-- The high word of an offset.
high_half : (a b : ℕ) → Word32 b → (a * 4294967296 + b) / 4294967296 ≡ a
high_half a b h = omega arith

-- The low word of an offset.
low_half : (a b : ℕ) → Word32 b → (a * 4294967296 + b) % 4294967296 ≡ b
low_half a b h = omega arith

-- The segment read from k on is what stands there.
pub segment_front : (s : List ℕ) (k j : ℕ) → AllBytes s → k + 16 ≡ j → j ≤ length s → segment_bytes (segment_at s k) ++ drop j s ≡ drop k s
unfolding segment_bytes segment_at
segment_front s k j b q h =
    let low = word_fits s (k + 12) b in
    simp (
      high_half (word_at s (k + 8)) _ low,
      low_half (word_at s (k + 8)) _ low,
      append_assoc,
      word_front s (k + 12) j b (omega arith) h,
      word_front s (k + 8) (k + 12) b (omega arith) (omega arith),
      word_front s (k + 4) (k + 8) b (omega arith) (omega arith),
      word_front s k (k + 4) b (omega arith) (omega arith),
    )

-- The read segment read from k on is what stands there.
pub read_segment_front : (s : List ℕ) (k j : ℕ) → AllBytes s → k + 20 ≡ j → j ≤ length s → read_segment_bytes (read_segment_at s k) ++ drop j s ≡ drop k s
unfolding read_segment_bytes read_segment_at
read_segment_front s k j b q h =
    simp (append_assoc, segment_front s (k + 4) j b (omega arith) h, word_front s k (k + 4) b (omega arith) (omega arith))

-- A segment of bytes fits.
pub segment_fits : (s : List ℕ) (k : ℕ) → AllBytes s → SegmentFits (segment_at s k)
unfolding segment_at
segment_fits s k b =
    let high = word_fits s (k + 8) b in
    let low = word_fits s (k + 12) b in
    record { handle_fits = word_fits s k b; length_fits = word_fits s (k + 4) b; offset_fits = omega arith }

-- A read segment of bytes fits.
pub read_segment_fits : (s : List ℕ) (k : ℕ) → AllBytes s → ReadSegmentFits (read_segment_at s k)
unfolding read_segment_at
read_segment_fits s k b = record { position = word_fits s k b; target = segment_fits s (k + 4) b }

-- A segment that was written is read.
pub segment_back : (x : Segment) (r : List ℕ) → SegmentFits x → segment_at (segment_bytes x ++ r) 0 ≡ x
unfolding segment_at segment_bytes word_at word_bytes
segment_back x r f =
    let a = join_bytes_lem x.handle f.handle_fits in
    let b = join_bytes_lem x.length f.length_fits in
    let o = f.offset_fits in
    let c = join_bytes_lem (x.offset / 4294967296) (omega arith) in
    let d = join_bytes_lem (x.offset % 4294967296) (omega arith) in
    let e : x.offset / 4294967296 * 4294967296 + x.offset % 4294967296 ≡ x.offset = omega arith in
    simp (a, b, c, d, e)

-- A segment behind a word.
segment_behind : (x : ℕ) (r : List ℕ) → segment_at (word_bytes x ++ r) 4 ≡ segment_at r 0
unfolding segment_at word_at word_bytes
segment_behind x r = refl

-- A read segment that was written is read.
pub read_segment_back : (x : ReadSegment) (r : List ℕ) → ReadSegmentFits x → read_segment_at (read_segment_bytes x ++ r) 0 ≡ x
unfolding read_segment_at read_segment_bytes
read_segment_back x r f =
    simp (append_assoc, word_back x.position (segment_bytes x.target ++ r) f.position, segment_behind x.position (segment_bytes x.target ++ r), segment_back x.target r f.target)

-- The position of a read segment that was written.
pub position_back : (x : ReadSegment) (r : List ℕ) → ReadSegmentFits x → word_at (read_segment_bytes x ++ r) 0 ≡ x.position
unfolding read_segment_bytes
position_back x r f = simp append_assoc (word_back x.position (segment_bytes x.target ++ r) f.position)

-- A word is 4 bytes long.
length_word : (x : ℕ) (r : List ℕ) → length (word_bytes x ++ r) ≡ 4 + length r
unfolding word_bytes
length_word x r = omega arith

-- A segment is 16 bytes long.
pub length_segment : (x : Segment) (r : List ℕ) → length (segment_bytes x ++ r) ≡ 16 + length r
unfolding segment_bytes word_bytes
length_segment x r = omega arith

-- A read segment is 20 bytes long.
pub length_read_segment : (x : ReadSegment) (r : List ℕ) → length (read_segment_bytes x ++ r) ≡ 20 + length r
unfolding read_segment_bytes segment_bytes word_bytes
length_read_segment x r = omega arith

-- What stands behind a word.
pub drop_word : (x : ℕ) (r : List ℕ) → drop 4 (word_bytes x ++ r) ≡ r
unfolding word_bytes
drop_word x r = refl

-- What stands behind a segment.
pub drop_segment : (x : Segment) (r : List ℕ) → drop 16 (segment_bytes x ++ r) ≡ r
unfolding segment_bytes word_bytes
drop_segment x r = refl

-- What stands behind a read segment.
pub drop_read_segment : (x : ReadSegment) (r : List ℕ) → drop 20 (read_segment_bytes x ++ r) ≡ r
unfolding read_segment_bytes segment_bytes word_bytes
drop_read_segment x r = refl

-- The first word, where it was written.
pub word_of_back : (x : ℕ) (r : List ℕ) → Word32 x → word_of (word_bytes x ++ r) ≡ Ok x
unfolding word_of
word_of_back x r h = simp (le-leb 4 (length (word_bytes x ++ r)) (omega (arith, length_word x r)), word_back x r h)
