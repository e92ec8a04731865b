-- Contents and the structs that hold them.
-- Assumes nothing.
use mathlib.Core.Path.{◌≡◌, refl, ap, ◌∙◌}
use mathlib.Core.Bool.{Bool, true, false}
use mathlib.Core.List.{List, [], ◌∷◌, ◌++◌, append_assoc, map}
use mathlib.Core.Option.{Option, none, some}
use Prim.Native.Nat.{ℕ, zero, suc, ◌≤◌}
use native.Mathlib.Omega.{arith}
use lib.ListN.{length, take, drop, length-drop, length-map}
use lib.Seq.{take-append_seam, drop-append_seam, take-add, length-take-le}
use Rattle.wire.specs.Wire.{joined, zero_segment, zero_read_segment}
use Rattle.header.specs.Content.{Content, padded, read_list_of, reply_chunk_of, header_of, runs, reply_of, content_of}
use Rattle.header.specs.Limits.{total}
use Rattle.wire.specs.Fits.{All}
use Rattle.header.specs.Fits.{zeroed_reply, zeroed}
use Rattle.wire.specs.declared.Segment.{Segment}
use Rattle.wire.specs.declared.ReadSegment.{ReadSegment}
use Rattle.header.specs.declared.Header.{Header}

-- What holds of every element holds of those in front.
pub all_take : {A : Type 0} (P : A → Type 0) (n : ℕ) (l : List A) → All P l → All P (take n l)
unfolding All
all_take P zero l f = tt
all_take P (suc n) [] f = tt
all_take P (suc n) (x ∷ l) f = (f.0, all_take P n l f.1)

-- What holds of every element holds of those behind.
pub all_drop : {A : Type 0} (P : A → Type 0) (n : ℕ) (l : List A) → All P l → All P (drop n l)
unfolding All
all_drop P zero l f = f
all_drop P (suc n) [] f = tt
all_drop P (suc n) (x ∷ l) f = all_drop P n l f.1

-- Runs of what was joined are the lists that were joined.
pub runs_joined : {A : Type 0} (cs : List (List A)) (r : List A) → runs (map length cs) (joined (λ c. c) cs ++ r) ≡ cs
unfolding runs joined
runs_joined [] r = refl
runs_joined (c ∷ cs) r = simp (append_assoc, take-append_seam, drop-append_seam, runs_joined cs r)

-- Runs that are joined are the elements in front.
pub joined_runs : {A : Type 0} (ns : List ℕ) (l : List A) → joined (λ c. c) (runs ns l) ≡ take (total ns) l
unfolding runs joined total
joined_runs [] l = refl
joined_runs (n ∷ ns) l = simp (take-add, joined_runs ns (drop n l))

-- Runs are as long as they were to be.
pub lengths_runs : {A : Type 0} (ns : List ℕ) (l : List A) → total ns ≤ length l → map length (runs ns l) ≡ ns
unfolding runs total
lengths_runs [] l h = refl
lengths_runs (n ∷ ns) l h =
    simp (length-take-le n l (omega arith), lengths_runs ns (drop n l) (simp length-drop (omega arith)))

-- There are as many runs as counts.
pub length_runs : {A : Type 0} (ns : List ℕ) (l : List A) → length (runs ns l) ≡ length ns
unfolding runs
length_runs [] l = refl
length_runs (n ∷ ns) l = ap suc (length_runs ns (drop n l))

-- What holds of every element holds of every element of the runs.
pub all_runs : {A : Type 0} (P : A → Type 0) (ns : List ℕ) (l : List A) → All P l → All (All P) (runs ns l)
unfolding runs All
all_runs P [] l f = tt
all_runs P (n ∷ ns) l f = (all_take P n l f, all_runs P ns (drop n l) (all_drop P n l f))

-- The struct of a read list holds it.
reads_held : (l : List ReadSegment) → take (read_list_of l).count (read_list_of l).segments ≡ l
reads_held l = simp take-append_seam

-- The struct of a write list holds the lengths of its chunks.
pub counts_held : (cs : List (List Segment)) → take (length cs) (padded 4 0 (map length cs)) ≡ map length cs
counts_held cs =
    let e : length cs ≡ length (map length cs) = simp length-map in
    simp (e, take-append_seam)

-- The struct of a write list holds it.
writes_held : (cs : List (List Segment)) →
    runs (take (length cs) (padded 4 0 (map length cs))) (padded 16 zero_segment (joined (λ c. c) cs)) ≡ cs
writes_held cs = simp (counts_held cs) (runs_joined cs _)

-- The struct of a reply chunk holds it.
reply_held : (o : Option (List Segment)) → reply_of (reply_chunk_of o).present (take (reply_chunk_of o).count (reply_chunk_of o).segments) ≡ o
reply_held none = refl
reply_held (some l) = simp take-append_seam

-- The struct of a content holds it.
pub content_of_header_of : (c : Content) → content_of (header_of c) ≡ c
unfolding content_of header_of
content_of_header_of c = λ i. record {
  kind = c.kind;
  xid = c.xid;
  credit = c.credit;
  reads = reads_held c.reads i;
  writes = writes_held c.writes i;
  reply = reply_held c.reply i;
}

-- The places that a header uses are there.
pub record Within (h : Header) : Type 0 where
  pub reads : h.reads.count ≤ length h.reads.segments
  pub chunks : h.writes.chunks ≤ length h.writes.counts
  pub sum : total (take h.writes.chunks h.writes.counts) ≤ length h.writes.segments
  pub reply : h.reply.count ≤ length h.reply.segments

-- A header holds as many chunks as it says.
pub chunks_same : (h : Header) → Within h → length (runs (take h.writes.chunks h.writes.counts) h.writes.segments) ≡ h.writes.chunks
chunks_same h w =
    length_runs (take h.writes.chunks h.writes.counts) h.writes.segments ∙ length-take-le h.writes.chunks h.writes.counts w.chunks

-- A reply chunk with its unused places zeroed is the struct of what it holds.
reply_same : (present : Bool) (count : ℕ) (l : List Segment) → count ≤ length l → reply_chunk_of (reply_of present (take count l)) ≡ zeroed_reply present count l
reply_same false count l le = refl
reply_same true count l le = λ i. record { segments = padded 16 zero_segment (take count l); count = length-take-le count l le i; present = true }

-- The struct of what a struct holds is that struct, its unused places zeroed.
pub zeroed_same : (h : Header) → Within h → header_of (content_of h) ≡ zeroed h
unfolding header_of content_of zeroed
zeroed_same h w = λ i. record {
  reads = record {
    segments = padded 16 zero_read_segment (take h.reads.count h.reads.segments);
    count = length-take-le h.reads.count h.reads.segments w.reads i;
  };
  writes = record {
    segments = padded 16 zero_segment (joined_runs (take h.writes.chunks h.writes.counts) h.writes.segments i);
    counts = padded 4 0 (lengths_runs (take h.writes.chunks h.writes.counts) h.writes.segments w.sum i);
    chunks = chunks_same h w i;
  };
  reply = reply_same h.reply.present h.reply.count h.reply.segments w.reply i;
  kind = h.kind;
  xid = h.xid;
  credit = h.credit;
}
