-- How many bytes a header takes at most: from its limits alone, whatever else is checked.
-- Assumes nothing.
use mathlib.Core.Path.{◌≡◌}
use mathlib.Core.Bool.{Bool, true, false, cond}
use mathlib.Core.List.{List, [], ◌∷◌, map}
use mathlib.Core.Option.{Option, none, some}
use Prim.Native.Nat.{ℕ, ◌≤◌}
use native.Mathlib.Omega.{arith}
use lib.ListN.{length, take, drop, length-append, length-take}
use Rattle.wire.specs.Wire.{word_bytes}
use Rattle.wire.specs.declared.Segment.{Segment}
use Rattle.header.specs.Content.{Content, reply_chunk_of, runs, reply_of, content_of}
use Rattle.header.specs.Bytes.{reply_bytes, error_bytes, parts_bytes, rest_bytes, header_bytes}
use Rattle.header.specs.Limits.{total, keeps_limits}
use Rattle.header.specs.declared.Header.{Header}
use Rattle.header.specs.declared.Kind.{Kind}
use Rattle.header.specs.declared.Kind.TheVariants.{Msg, Nomsg, Error}
use Rattle.header.specs.declared.ErrorKind.TheVariants.{Version, Chunk}
use Rattle.header.proofs.Bytes.{read_list_length, write_list_length, chunk_length_lem, fixed_length}
use Rattle.header.proofs.Contents.{length_runs}
use Rattle.header.proofs.Limits.{few_in, few_counts}
use Rattle.header.proofs.Allowed.{ReplyAllowed, Allowed}

-- A content whose lists are within their limits.
pub record Limited (c : Content) : Type 0 where
  pub reads : length c.reads ≤ 16
  pub chunks : length c.writes ≤ 4
  pub segments : total (map length c.writes) ≤ 16
  pub reply : (reply_chunk_of c.reply).count ≤ 16

-- How many bytes a reply chunk takes at most.
reply_most : (o : Option (List Segment)) → (reply_chunk_of o).count ≤ 16 → length (reply_bytes o) ≤ 264
unfolding reply_bytes word_bytes
reply_most none h = omega arith
reply_most (some c) h = rw (chunk_length_lem c) (omega arith)

-- What stands behind the fixed words is no longer than the three parts, or 12 bytes.
rest_most : (kind : Kind) (parts : List ℕ) (n : ℕ) → length parts ≤ n → 12 ≤ n → length (rest_bytes kind parts) ≤ n
unfolding error_bytes word_bytes
rest_most Msg parts n h k = h
rest_most Nomsg parts n h k = h
rest_most (Error (Version low high)) parts n h k = k
rest_most (Error Chunk) parts n h k = omega arith

-- A header within the limits takes at most 960 bytes.
pub header_most : (c : Content) → Limited c → length (header_bytes c) ≤ 960
unfolding header_bytes
header_most c l =
    let reads = read_list_length c.reads in
    let writes = write_list_length c.writes in
    let reply = reply_most c.reply l.reply in
    let few = l.reads in
    let chunks = l.chunks in
    let segments = l.segments in
    let rest = rest_most c.kind (parts_bytes c.reads c.writes c.reply) 944 (rw (length-append, length-append, reads, writes) (omega arith)) (omega arith) in
    rw (length-append, fixed_length) (omega arith)

-- Runs have together at most as many elements as they were to have.
runs_most : {A : Type 0} (ns : List ℕ) (l : List A) → total (map length (runs ns l)) ≤ total ns
unfolding runs total
runs_most [] l = omega arith
runs_most (n ∷ ns) l = omega (arith, length-take n l, runs_most ns (drop n l))

reply_count : (present : Bool) (n : ℕ) (l : List Segment) → n ≤ cond present 16 0 → (reply_chunk_of (reply_of present (take n l))).count ≤ 16
reply_count false n l h = omega arith
reply_count true n l h = omega (arith, length-take n l)

-- What a header holds that keeps the limits, be its places there or not.
header_limited : (h : Header) → keeps_limits h ≡ true → Limited (content_of h)
unfolding content_of
header_limited h keeps =
    let few = few_counts _ _ _ _ _ keeps in
    let reads = few.reads in
    let chunks = few.chunks in
    let segments = few.segments in
    record {
      reads = omega (arith, length-take h.reads.count h.reads.segments);
      chunks = rw length_runs (omega (arith, length-take h.writes.chunks h.writes.counts));
      segments = omega (arith, runs_most (take h.writes.chunks h.writes.counts) h.writes.segments);
      reply = reply_count h.reply.present h.reply.count h.reply.segments few.there;
    }

-- "no header passes 960 bytes"
pub longest : (h : Header) → keeps_limits h ≡ true → length (header_bytes (content_of h)) ≤ 960
longest h keeps = header_most (content_of h) (header_limited h keeps)

-- The struct of a reply chunk that is allowed keeps its limit.
pub reply_limit : (o : Option (List Segment)) → ReplyAllowed o → (reply_chunk_of o).count ≤ cond (reply_chunk_of o).present 16 0
reply_limit none a = omega arith
reply_limit (some l) a = a.0

-- A content that is allowed, as one that was read is, is within the limits.
pub allowed_limited : (c : Content) → Allowed c → Limited c
allowed_limited c a = record {
  reads = a.reads_limit;
  chunks = a.chunks_limit;
  segments = a.writes_limit;
  reply = few_in (reply_chunk_of c.reply).present (reply_chunk_of c.reply).count (reply_limit c.reply a.reply);
}
