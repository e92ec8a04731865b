-- A header within the limits says the same with its unused places zeroed.
-- Assumes nothing.
use mathlib.Core.Path.{◌≡◌, refl, sym, ap, ◌∙◌}
use mathlib.Core.Bool.{Bool, true, false, cond}
use mathlib.Core.List.{List}
use Prim.Native.Nat.{ℕ, ◌≤◌}
use native.Mathlib.Omega.{arith}
use lib.Dec.{leb}
use lib.ListN.{take}
use lib.Seq.{length-take-le, take_at}
use borrow.Author.Tests.{le-leb}
use Rattle.wire.specs.declared.Segment.{Segment}
use Rattle.header.specs.Content.{padded, content_of}
use Rattle.header.specs.Limits.{within_limits, keeps_limits}
use Rattle.header.specs.Fits.{Representable, zeroed, zeroed_reply}
use Rattle.header.specs.declared.Header.{Header}
use Rattle.header.proofs.Limits.{Few, few_counts}
use Rattle.header.proofs.Contents.{Within, zeroed_same, content_of_header_of}

few : (h : Header) → keeps_limits h ≡ true → Few h.reads.count h.writes.chunks h.writes.counts h.reply.present h.reply.count
few h e = few_counts _ _ _ _ _ e

-- The places that it uses are there.
pub within_limits_lem : (h : Header) → Representable h → keeps_limits h ≡ true → Within h
within_limits_lem h r e =
    let f = few h e in
    record {
      reads = rw r.reads_length f.reads;
      chunks = rw r.counts_length f.chunks;
      sum = rw r.writes_length f.segments;
      reply = rw r.reply_length f.replies;
    }

pub zeroed_content : (h : Header) → Representable h → keeps_limits h ≡ true → content_of (zeroed h) ≡ content_of h
zeroed_content h r e = ap content_of (sym (zeroed_same h (within_limits_lem h r e))) ∙ content_of_header_of (content_of h)

-- The reply chunk has no more segments then.
reply_few : (present : Bool) (count : ℕ) (l : List Segment) → count ≤ cond present 16 0 → leb (zeroed_reply present count l).count (cond (zeroed_reply present count l).present 16 0) ≡ true
reply_few true count l h = le-leb count 16 h
reply_few false count l h = refl

pub zeroed_limits : (h : Header) → Representable h → keeps_limits h ≡ true → keeps_limits (zeroed h) ≡ true
unfolding within_limits zeroed
zeroed_limits h r e =
    let f = few h e in
    let four = r.counts_length in
    let most = f.chunks in
    let same : take h.writes.chunks (padded 4 0 (take h.writes.chunks h.writes.counts)) ≡ take h.writes.chunks h.writes.counts = take_at (take h.writes.chunks h.writes.counts) _ h.writes.chunks (length-take-le h.writes.chunks h.writes.counts (omega arith)) in
    rw (le-leb _ _ f.reads, le-leb _ _ f.chunks, same, le-leb _ _ f.segments) (reply_few h.reply.present h.reply.count h.reply.segments f.there)
