-- The struct of an allowed content is one that can be held: its arrays have their lengths, and its numbers fit.
-- Assumes nothing.
use mathlib.Core.Path.{◌≡◌, refl}
use mathlib.Core.List.{List, [], ◌∷◌, ◌++◌, map}
use mathlib.Core.Option.{Option, none, some}
use Prim.Native.Nat.{ℕ, zero, suc, ◌-◌, ◌≤◌}
use native.Mathlib.Omega.{arith}
use lib.ListN.{length, replicate, length-append, length-replicate, length-map}
use Rattle.wire.specs.Wire.{joined, zero_segment}
use Rattle.header.specs.Content.{Content, padded, reply_chunk_of, header_of}
use Rattle.header.specs.Limits.{total}
use Rattle.wire.specs.Fits.{Word32, All, SegmentFits, ReadSegmentFits}
use Rattle.header.specs.Fits.{Representable}
use Rattle.wire.specs.declared.Segment.{Segment}
use Rattle.header.proofs.Allowed.{ReplyAllowed, Allowed}

-- What holds of every element of two lists holds of every element of both.
all_append : {A : Type 0} (P : A → Type 0) (l m : List A) → All P l → All P m → All P (l ++ m)
unfolding All
all_append P [] m f g = g
all_append P (x ∷ l) m f g = (f.0, all_append P l m f.1 g)

-- What holds of an element holds of every copy.
all_replicate : {A : Type 0} (P : A → Type 0) (n : ℕ) (x : A) → P x → All P (replicate n x)
unfolding All
all_replicate P zero x p = tt
all_replicate P (suc n) x p = (p, all_replicate P n x p)

-- What holds of every element of every list holds of every element of the lists joined.
all_joined : {A : Type 0} (P : A → Type 0) (cs : List (List A)) → All (All P) cs → All P (joined (λ c. c) cs)
unfolding All joined
all_joined P [] f = tt
all_joined P (c ∷ cs) f = all_append P c (joined (λ d. d) cs) f.0 (all_joined P cs f.1)

-- What holds of the places used and of an empty place holds of every place.
all_padded : {A : Type 0} (P : A → Type 0) (n : ℕ) (z : A) (l : List A) → P z → All P l → All P (padded n z l)
all_padded P n z l p f = all_append P l (replicate (n - length l) z) f (all_replicate P (n - length l) z p)

-- An array has as many places as it should.
length_padded : {A : Type 0} (n : ℕ) (z : A) (l : List A) → length l ≤ n → length (padded n z l) ≡ n
length_padded n z l h = simp (length-append, length-replicate) (omega arith)

-- Lists joined are as long as they are together.
length_joined : {A : Type 0} (cs : List (List A)) → length (joined (λ c. c) cs) ≡ total (map length cs)
unfolding joined total
length_joined [] = refl
length_joined (c ∷ cs) = simp (length-append, length_joined cs)

-- Lists that are short together have lengths that fit a word.
lengths_fit : {A : Type 0} (cs : List (List A)) → total (map length cs) ≤ 16 → All Word32 (map length cs)
unfolding All total
lengths_fit [] h = tt
lengths_fit (c ∷ cs) h = (omega arith, lengths_fit cs (omega arith))

-- An empty place fits.
zero_fits : SegmentFits zero_segment
zero_fits = record { handle_fits = omega arith; length_fits = omega arith; offset_fits = omega arith }

-- The struct of a reply chunk that is allowed can be held.
reply_held : (o : Option (List Segment)) → ReplyAllowed o →
    (length (reply_chunk_of o).segments ≡ 16) × All SegmentFits (reply_chunk_of o).segments × Word32 (reply_chunk_of o).count
reply_held none f = (length-replicate 16 zero_segment, all_replicate SegmentFits 16 zero_segment zero_fits, omega arith)
reply_held (some l) f = (length_padded 16 zero_segment l f.0, all_padded SegmentFits 16 zero_segment l zero_fits f.1, omega (arith, f.0))

-- The struct of an allowed content can be held.
pub allowed_representable : (c : Content) → Allowed c → Representable (header_of c)
unfolding header_of
allowed_representable c a =
    let reply = reply_held c.reply a.reply in
    let sum = length_joined c.writes in
    record {
      kind = a.kind;
      xid = a.xid;
      credit = a.credit;
      reads_length = length_padded 16 _ c.reads a.reads_limit;
      reads_segments = all_padded ReadSegmentFits 16 _ c.reads (record { position = omega arith; target = zero_fits }) a.reads;
      reads_count = omega (arith, a.reads_limit);
      writes_length = length_padded 16 zero_segment (joined (λ d. d) c.writes) (omega (arith, a.writes_limit));
      writes_segments = all_padded SegmentFits 16 zero_segment (joined (λ d. d) c.writes) zero_fits (all_joined SegmentFits c.writes a.writes);
      counts_length = length_padded 4 0 (map length c.writes) (simp length-map a.chunks_limit);
      counts = all_padded Word32 4 0 (map length c.writes) (omega arith) (lengths_fit c.writes a.writes_limit);
      chunks = omega (arith, a.chunks_limit);
      reply_length = reply.0;
      reply_segments = reply.1;
      reply_count = reply.2;
    }
