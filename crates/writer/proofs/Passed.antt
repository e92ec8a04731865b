-- What the checks of the writer let pass.
-- Assumes nothing.
use mathlib.Core.Path.{◌≡◌, refl, sym, subst}
use mathlib.Core.Bool.{Bool, true, false, cond}
use mathlib.Core.List.{List}
use mathlib.Core.Option.{Option, none, some}
use Prim.Native.Nat.{ℕ, ◌≤◌}
use native.Mathlib.Omega.{arith}
use borrow.Author.Tests.{le-leb, leb-true, eqb-true, not-true}
use lib.ListN.{length, take}
use lib.Seq.{length-take-le}
use lib.Dec.{leb, eqb}
use Rattle.header.specs.Content.{Content, reply_chunk_of, header_of, runs, reply_of, content_of}
use Rattle.header.specs.Bytes.{header_bytes}
use Rattle.writer.specs.Write.{bare_if_error, entries_number, write_number, write_answer, write_words_answer}
use Rattle.header.specs.Limits.{total, within_limits, keeps_limits}
use Rattle.header.proofs.Limits.{few_counts}
use Rattle.header.proofs.Longest.{reply_limit, longest}
use Rattle.wire.specs.Fits.{All, SegmentFits, ReadSegmentFits}
use Rattle.header.specs.Fits.{Representable}
use Rattle.header.specs.declared.Kind.{Kind}
use Rattle.header.specs.declared.Kind.TheVariants.{Msg, Nomsg, Error}
use Rattle.wire.specs.declared.Segment.{Segment}
use Rattle.header.specs.declared.Header.{Header}
use Rattle.header.proofs.Allowed.{ReplyAllowed, Allowed, BareIfError}
use Rattle.header.proofs.Contents.{all_take, all_runs, lengths_runs, content_of_header_of, counts_held, Within, chunks_same}
use Rattle.answers.specs.Answers.{room_number}
use Rattle.answers.proofs.Checks.{both_hold, check_other, check_passed}
use Rattle.writer.proofs.Entries.{entries_other, entries_zero, entries_aligned, aligned_entries}

-- What every check asks of a header that is written into `room` bytes.
pub record Passed (h : Header) (room : ℕ) : Type 0 where
  pub bare : bare_if_error h.kind h.reads.count h.writes.chunks h.reply.present ≡ true
  pub reads : h.reads.count ≤ 16
  pub chunks : h.writes.chunks ≤ 4
  pub sum : total (take h.writes.chunks h.writes.counts) ≤ 16
  pub reply : h.reply.count ≤ cond h.reply.present 16 0
  pub entries : entries_number (content_of h).reads 0 ≡ 0
  pub fits : length (header_bytes (content_of h)) ≤ room

-- The number 0 says that every check passed.
pub write_passed : (h : Header) (room : ℕ) → write_number h room ≡ 0 → Passed h room
unfolding write_number
write_passed h room e =
    let a = check_passed (bare_if_error h.kind h.reads.count h.writes.chunks h.reply.present) 12 _ (omega arith) e in
    let k = check_passed (keeps_limits h) 7 _ (omega arith) a.1 in
    let few = few_counts _ _ _ _ _ k.0 in
    let next = entries_zero (content_of h).reads _ k.1 in
    let i = check_passed (leb (length (header_bytes (content_of h))) room) 16 _ (omega arith) next in
    record {
      bare = a.0;
      reads = few.reads;
      chunks = few.chunks;
      sum = few.segments;
      reply = few.there;
      entries = subst (λ (n : ℕ). entries_number (content_of h).reads n ≡ 0) next k.1;
      fits = leb-true _ _ i.0;
    }

-- Where every check passes the number is 0.
pub passed_write : (h : Header) (room : ℕ) → Passed h room → write_number h room ≡ 0
unfolding write_number within_limits
passed_write h room p =
    simp (p.bare, le-leb _ _ p.reads, le-leb _ _ p.chunks, le-leb _ _ p.sum, le-leb _ _ p.reply, le-leb _ _ p.fits) p.entries

-- A header that passed every check uses places that are there.
pub passed_within : (h : Header) (room : ℕ) → Representable h → Passed h room → Within h
passed_within h room r p =
    let few = most h.reply.present p.reply in
    record {
      reads = simp r.reads_length p.reads;
      chunks = simp r.counts_length p.chunks;
      sum = simp r.writes_length p.sum;
      reply = simp r.reply_length few;
    }
  where
    most : (present : Bool) → h.reply.count ≤ cond present 16 0 → h.reply.count ≤ 16
    most true le = le
    most false le = omega arith

-- An ERROR header that passed holds no lists.
bare_error : (kind : Kind) (h : Header) → bare_if_error kind h.reads.count h.writes.chunks h.reply.present ≡ true → BareIfError kind (content_of h)
unfolding content_of runs
bare_error Msg h e = tt
bare_error Nomsg h e = tt
bare_error (Error k) h e =
    let a = both_hold (eqb h.reads.count 0) _ e in
    let b = both_hold (eqb h.writes.chunks 0) _ a.1 in
    let r : h.reads.count ≡ 0 = eqb-true _ _ a.0 in
    let w : h.writes.chunks ≡ 0 = eqb-true _ _ b.0 in
    let p : h.reply.present ≡ false = not-true _ b.1 in
    (simp r, simp w, simp p)

-- A reply chunk that passed is allowed.
reply_allowed : (present : Bool) (count : ℕ) (l : List Segment) → All SegmentFits l → count ≤ cond present 16 0 → count ≤ length l → ReplyAllowed (reply_of present (take count l))
reply_allowed false count l f h k = tt
reply_allowed true count l f h k = (simp (length-take-le count l k) h, all_take SegmentFits count l f)

-- What a header holds that passed every check is allowed.
pub content_allowed : (h : Header) (room : ℕ) → Representable h → Passed h room → Allowed (content_of h)
unfolding content_of
content_allowed h room r p =
    let w = passed_within h room r p in
    record {
      kind = r.kind;
      xid = r.xid;
      credit = r.credit;
      reads = all_take ReadSegmentFits h.reads.count h.reads.segments r.reads_segments;
      reads_limit = simp (length-take-le h.reads.count h.reads.segments w.reads) p.reads;
      aligned = entries_aligned (content_of h).reads p.entries;
      writes = all_runs SegmentFits (take h.writes.chunks h.writes.counts) h.writes.segments r.writes_segments;
      chunks_limit = simp (chunks_same h w) p.chunks;
      writes_limit = simp (lengths_runs (take h.writes.chunks h.writes.counts) h.writes.segments w.sum) p.sum;
      reply = reply_allowed h.reply.present h.reply.count h.reply.segments r.reply_segments p.reply w.reply;
      bare = bare_error h.kind h p.bare;
    }

-- The struct of an ERROR content without lists passes.
error_bare : (kind : Kind) (c : Content) → BareIfError kind c → bare_if_error kind (length c.reads) (length c.writes) (reply_chunk_of c.reply).present ≡ true
error_bare Msg c b = refl
error_bare Nomsg c b = refl
error_bare (Error e) c b = simp (b.0, b.1, b.2)

-- The struct of an allowed content passes every check, where there is room.
pub allowed_passed : (c : Content) (room : ℕ) → Allowed c → length (header_bytes c) ≤ room → Passed (header_of c) room
unfolding header_of
allowed_passed c room a h =
    let same : content_of (header_of c) ≡ c = content_of_header_of c in
    record {
      bare = error_bare c.kind c a.bare;
      reads = a.reads_limit;
      chunks = a.chunks_limit;
      sum = simp (counts_held c.writes) a.writes_limit;
      reply = reply_limit c.reply a.reply;
      entries = subst (λ (d : Content). entries_number d.reads 0 ≡ 0) (sym same) (aligned_entries c.reads a.aligned);
      fits = subst (λ (d : Content). length (header_bytes d) ≤ room) (sym same) h;
    }

-- A buffer of 960 bytes or more is never too short.
pub room_suffices : (h : Option Header) (room : ℕ) → 960 ≤ room → (write_words_answer h room).number ≡ 16 → ⊥
unfolding write_answer write_number
room_suffices none room long e = omega arith
room_suffices (some h) room long e =
    let bytes = header_bytes (content_of h) in
    let bare = check_other (bare_if_error h.kind h.reads.count h.writes.chunks h.reply.present) 12 _ 16 (λ z. omega arith) e in
    let keeps = check_other (keeps_limits h) 7 _ 16 (λ z. omega arith) bare.1 in
    let most = longest h keeps.0 in
    let fits : leb (length bytes) room ≡ true = le-leb (length bytes) room (omega arith) in
    let short : room_number bytes room ≡ 16 = entries_other (content_of h).reads _ 16 (λ z. omega arith) keeps.1 in
    let none-short = rw fits at short in
    omega arith
