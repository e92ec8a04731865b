-- Laws about a frame that was read: where the parts of its header lie, and what is behind it.
-- Assumes nothing.
use mathlib.Core.Path.{◌≡◌, refl, sym, ap, subst, ◌∙◌}
use mathlib.Core.Bool.{Bool, true, false, cond}
use mathlib.Core.List.{List, [], ◌∷◌}
use mathlib.Core.Option.{Option, none, some}
use Rattle.std.specs.Prelude.{Result, Ok, Err}
use Prim.Native.Nat.{ℕ, ◌+◌, ◌-◌, ◌*◌, ◌≤◌}
use native.Mathlib.Omega.{arith}
use borrow.Author.Tests.{leb-true}
use lib.ListN.{length, drop, length-drop}
use lib.Seq.{drop-drop}
use lib.Dec.{leb, eqb}
use Rattle.wire.specs.Wire.{word_at, word_of, segment_at, joined}
use Rattle.wire.specs.declared.Segment.{Segment}
use Rattle.wire.specs.declared.ReadSegment.{ReadSegment}
use Rattle.chunk_lists.specs.Parsed.{Parsed, refused, done, each}
use Rattle.chunk_lists.specs.Lists.{after_word, read_list, write_list, reply_chunk, all_aligned}
use Rattle.chunk_lists.specs.Internal.Steps.{marked_segment_at, chunks_at, ChunksFit}
use Rattle.chunk_lists.proofs.ListSteps.{never, required, both, word_room, Chunk, chunk_of, ChunkFront, chunk_front}
use Rattle.chunk_lists.proofs.ListSteps as laws
use Rattle.chunk_lists.proofs.ListBytes.{reads_of, writes_of, reply_refused, reply_absent, reply_chunk_lem, ReadsAre, WritesAre, reads_aligned}
use Rattle.header.specs.Content.{Content}
use Rattle.reader.specs.Frame.{three_parts, error_content, error_body, nothing_behind, by_procedure, read_frame, payload_of}
use Rattle.reader.specs.Internal.Shape.{reply_count, shape_of, frame_check}
use Rattle.std.specs.Option.{unwrap_or, is_some}
use Rattle.header.specs.declared.Kind.{Kind}
use Rattle.header.specs.declared.Kind.TheVariants.{Msg, Nomsg}
use Rattle.header.specs.declared.ErrorKind.{ErrorKind}
use Rattle.header.specs.declared.ErrorKind.TheVariants as error
use Rattle.reader.specs.declared.Shape.{Shape}
use Rattle.reader.proofs.FrameChecks.{suffix}

-- Whether there is a reply chunk, and how many segments it has.
abbrev pub is_present : Option (List Segment) → Bool
is_present reply = is_some (reply_count reply)

abbrev pub replies : Option (List Segment) → ℕ
replies reply = unwrap_or (reply_count reply) 0

-- The segments of a reply chunk.
abbrev pub reply_segments_lem : Option (List Segment) → List Segment
reply_segments_lem none = []
reply_segments_lem (some l) = l

-- The reply chunk in the bytes of s from p on, with t behind it.
pub record ReplyPart (s : List ℕ) (reply : Option (List Segment)) (t : List ℕ) : Type 0 where
  pub few : replies reply ≤ 16
  pub short : length t ≤ length s
  pub long : replies reply * 16 ≤ length s - length t
  pub behind : t ≡ drop (length s - length t) s
  pub are : reply_segments_lem reply ≡ each 16 (λ v. segment_at v 0) (replies reply) (drop (length s - length t - replies reply * 16) s)

pub reply_part : (s : List ℕ) (p : ℕ) (reply : Option (List Segment)) (t : List ℕ) → p ≤ length s → reply_chunk (drop p s) ≡ done reply t → ReplyPart s reply t
unfolding each
reply_part s p reply t fits e = go (chunk_front 1 16 (drop p s))
  where
    ended : (4 ≤ length (drop p s)) → done none (drop 4 (drop p s)) ≡ done reply t → ReplyPart s reply t
    ended four q =
        let absent : reply ≡ none = cc in
        let rest : t ≡ drop (p + 4) s = sym (let r : drop 4 (drop p s) ≡ t = cc in r) ∙ drop-drop 4 p s in
        let size : length t ≡ length s - (p + 4) = ap length rest ∙ length-drop (p + 4) s in
        let total = length-drop p s in
        let n : length s - length t ≡ p + 4 = omega arith in
        rw absent (record { few = omega arith; short = omega arith; long = omega arith; behind = rest ∙ ap (λ (j : ℕ). drop j s) (sym n); are = refl })

    chunked : (c : List Segment) (u : List ℕ) → Chunk 16 (drop p s) c u → done (some c) u ≡ done reply t → ReplyPart s reply t
    chunked c u k q =
        let present : reply ≡ some c = cc in
        let few = k.few in
        let long = k.long in
        let total = length-drop p s in
        let rest : t ≡ drop (p + (8 + length c * 16)) s = sym (let r : u ≡ t = cc in r) ∙ k.behind ∙ drop-drop (8 + length c * 16) p s in
        let size : length t ≡ length s - (p + (8 + length c * 16)) = ap length rest ∙ length-drop (p + (8 + length c * 16)) s in
        let n : length s - length t ≡ p + (8 + length c * 16) = omega arith in
        let m : p + 8 ≡ length s - length t - length c * 16 = omega arith in
        rw present
        (record {
          few = few;
          short = omega arith;
          long = omega arith;
          behind = rest ∙ ap (λ (j : ℕ). drop j s) (sym n);
          are = k.is ∙ ap (each 16 (λ v. segment_at v 0) (length c)) (drop-drop 8 p s ∙ ap (λ (j : ℕ). drop j s) m);
        })

    go : ChunkFront 1 16 (drop p s) → ReplyPart s reply t
    go (laws.ChunkFront.ends f m) = let a = reply_absent (drop p s) f in ended a.0 (sym a.1 ∙ e)
    go (laws.ChunkFront.unmarked k f m) = absurd (never (sym (reply_refused (drop p s) k f) ∙ e))
    go (laws.ChunkFront.full f m h) = absurd (omega arith)
    go (laws.ChunkFront.uncounted k f m h q) = absurd (never (sym (reply_refused (drop p s) k f) ∙ e))
    go (laws.ChunkFront.another c u f m h q) =
        chunked c u (chunk_of 16 (drop p s) c u m q) (sym (reply_chunk_lem (drop p s) c u m q) ∙ e)

-- Where the parts of a header lie.
pub record FrameParts (s : List ℕ) (c : Content) (t : List ℕ) : Type 0 where
  pub xid : c.xid ≡ word_at s 0
  pub credit : c.credit ≡ word_at s 8
  pub reads_few : length c.reads ≤ 16
  pub reads_long : 20 + length c.reads * 24 ≤ length s
  pub reads_are : c.reads ≡ each 24 marked_segment_at (length c.reads) (drop 16 s)
  pub reads_aligned : all_aligned c.reads ≡ true
  pub writes_few : length c.writes ≤ 4
  pub writes_within : length (joined (λ w. w) c.writes) ≤ 16
  pub writes_fit : ChunksFit (length c.writes) 16 (drop (20 + length c.reads * 24) s)
  pub writes_are : c.writes ≡ chunks_at (length c.writes) (drop (20 + length c.reads * 24) s)
  pub reply : ReplyPart s c.reply t

lists_parts : (kind : Kind) (s : List ℕ) (c : Content) (t : List ℕ) → 16 ≤ length s → three_parts kind (word_at s 0) (word_at s 8) (drop 16 s) ≡ done c t → FrameParts s c t
unfolding three_parts
lists_parts kind s c t long e =
    let a = both (read_list 16 (drop 16 s)) e in
    let b = both (write_list 4 16 a.behind) a.then in
    let r = both (reply_chunk b.behind) b.then in
    let x = reads_of 16 (drop 16 s) a.first a.behind a.is in
    let y = writes_of 4 16 a.behind b.first b.behind b.is in
    go a.first b.first r.first a.behind b.behind r.behind x (reads_aligned 16 (drop 16 s) a.first a.behind a.is) y r.is r.then
  where
    go : (reads : List ReadSegment) (writes : List (List Segment)) (reply : Option (List Segment)) (u v w : List ℕ) →
        ReadsAre 16 (drop 16 s) reads u → all_aligned reads ≡ true → WritesAre 4 16 u writes v → reply_chunk v ≡ done reply w →
        done (record { kind = kind; xid = word_at s 0; credit = word_at s 8; reads = reads; writes = writes; reply = reply }) w ≡ done c t → FrameParts s c t
    go reads writes reply u v w x aligned y r q =
        let is : c ≡ record { kind = kind; xid = word_at s 0; credit = word_at s 8; reads = reads; writes = writes; reply = reply } = cc in
        let rest : t ≡ w = cc in
        let front = length-drop 16 s in
        let n : 16 + (4 + length reads * 24) ≡ 20 + length reads * 24 = omega arith in
        let here : u ≡ drop (20 + length reads * 24) s = x.behind ∙ drop-drop (4 + length reads * 24) 16 s ∙ ap (λ (j : ℕ). drop j s) n in
        let enough : 20 + length reads * 24 ≤ length s = omega (arith, x.long) in
        let size : length u ≡ length s - (20 + length reads * 24) = ap length here ∙ length-drop (20 + length reads * 24) s in
        let there : v ≡ drop (length s - length v) s = suffix s u v (20 + length reads * 24) enough here y.short y.behind in
        let shorter = y.short in
        let reply-there : reply_chunk (drop (length s - length v) s) ≡ done reply w = subst (λ (z : List ℕ). reply_chunk z ≡ done reply w) there r in
        rw (is, rest)
        (record {
          xid = refl;
          credit = refl;
          reads_few = x.few;
          reads_long = enough;
          reads_are = x.is;
          reads_aligned = aligned;
          writes_few = y.few;
          writes_within = y.within;
          writes_fit = subst (ChunksFit (length writes) 16) here y.fits;
          writes_are = y.is ∙ ap (chunks_at (length writes)) here;
          reply = reply_part s (length s - length v) reply w (omega arith) reply-there;
        })

-- An ERROR header has empty lists, wherever it ends.
bare_parts : (e : ErrorKind) (s : List ℕ) (t : List ℕ) (end : ℕ) → 20 ≤ length s → end ≤ length s → t ≡ drop end s → FrameParts s (error_content e (word_at s 0) (word_at s 8)) t
unfolding ChunksFit chunks_at each joined all_aligned
bare_parts e s t end long fits rest =
    let size : length t ≡ length s - end = ap length rest ∙ length-drop end s in
    let n : end ≡ length s - length t = omega arith in
    record {
      xid = refl;
      credit = refl;
      reads_few = omega arith;
      reads_long = omega arith;
      reads_are = refl;
      reads_aligned = refl;
      writes_few = omega arith;
      writes_within = omega arith;
      writes_fit = tt;
      writes_are = refl;
      reply = record { few = omega arith; short = omega arith; long = omega arith; behind = rest ∙ ap (λ (j : ℕ). drop j s) n; are = refl };
    }

error_parts : (s : List ℕ) (c : Content) (t : List ℕ) → 16 ≤ length s → error_body (word_at s 0) (word_at s 8) (drop 16 s) ≡ done c t → FrameParts s c t
unfolding error_body
error_parts s c t long e = coded (word_of (drop 16 s)) refl e
  where
    front : length (drop 16 s) ≡ length s - 16
    front = length-drop 16 s

    ended : (x : ErrorKind) (u : List ℕ) (end : ℕ) → 20 ≤ length s → end ≤ length s → u ≡ drop end s → done (error_content x (word_at s 0) (word_at s 8)) u ≡ done c t → FrameParts s c t
    ended x u end h fits rest q =
        let is : c ≡ error_content x (word_at s 0) (word_at s 8) = cc in
        let same : t ≡ u = cc in
        rw (is, same) (bare_parts x s u end h fits rest)

    upper : (low : ℕ) → 20 ≤ length s → (w : Result ℕ ℕ) → word_of (drop 8 (drop 16 s)) ≡ w →
        after_word w (λ high. done (error_content (error.Version low high) (word_at s 0) (word_at s 8)) (drop 12 (drop 16 s))) ≡ done c t → FrameParts s c t
    upper low h (Err n) r q = absurd (never q)
    upper low h (Ok high) r q =
        let room = word_room (drop 8 (drop 16 s)) high r in
        ended (error.Version low high) (drop 12 (drop 16 s)) 28 h (omega (arith, front, length-drop 8 (drop 16 s))) (drop-drop 12 16 s) q

    lower : 20 ≤ length s → (w : Result ℕ ℕ) →
        after_word w (λ low. after_word (word_of (drop 8 (drop 16 s))) (λ high. done (error_content (error.Version low high) (word_at s 0) (word_at s 8)) (drop 12 (drop 16 s)))) ≡ done c t → FrameParts s c t
    lower h (Err n) q = absurd (never q)
    lower h (Ok low) q = upper low h (word_of (drop 8 (drop 16 s))) refl q

    chosen : 20 ≤ length s → (first second : Bool) →
        cond first
        (after_word (word_of (drop 4 (drop 16 s))) (λ low. after_word (word_of (drop 8 (drop 16 s))) (λ high. done (error_content (error.Version low high) (word_at s 0) (word_at s 8)) (drop 12 (drop 16 s)))))
        (cond second (done (error_content error.Chunk (word_at s 0) (word_at s 8)) (drop 4 (drop 16 s))) (refused 10)) ≡ done c t → FrameParts s c t
    chosen h true y q = lower h (word_of (drop 4 (drop 16 s))) q
    chosen h false true q = ended error.Chunk (drop 4 (drop 16 s)) 20 h h (drop-drop 4 16 s) q
    chosen h false false q = absurd (never q)

    coded : (w : Result ℕ ℕ) → word_of (drop 16 s) ≡ w →
        after_word w (λ code. cond (eqb code 1)
        (after_word (word_of (drop 4 (drop 16 s))) (λ low. after_word (word_of (drop 8 (drop 16 s))) (λ high. done (error_content (error.Version low high) (word_at s 0) (word_at s 8)) (drop 12 (drop 16 s)))))
        (cond (eqb code 2) (done (error_content error.Chunk (word_at s 0) (word_at s 8)) (drop 4 (drop 16 s))) (refused 10))) ≡ done c t → FrameParts s c t
    coded (Err n) r q = absurd (never q)
    coded (Ok code) r q =
        let room = word_room (drop 16 s) code r in
        chosen (omega (arith, front)) (eqb code 1) (eqb code 2) q

-- Where the parts of a frame that was read lie.
pub frame_parts : (s : List ℕ) (c : Content) (t : List ℕ) → read_frame s ≡ done c t → FrameParts s c t
unfolding read_frame by_procedure
frame_parts s c t e =
    let a = required (leb 16 (length s)) _ _ e in
    let b = required (eqb (word_at s 4) 1) _ _ a.1 in
    go (eqb (word_at s 12) 0) (eqb (word_at s 12) 1) (eqb (word_at s 12) 3) (eqb (word_at s 12) 4) (leb-true 16 (length s) a.0) b.1
  where
    bare : (p : Parsed Content) → nothing_behind p ≡ done c t → p ≡ done c t
    bare p q =
        let d = both p q in
        let f = required (eqb (length d.behind) 0) _ _ d.then in
        d.is ∙ f.1

    go : (zeroth first third fourth : Bool) → 16 ≤ length s →
        cond zeroth (three_parts Msg (word_at s 0) (word_at s 8) (drop 16 s))
        (cond first (nothing_behind (three_parts Nomsg (word_at s 0) (word_at s 8) (drop 16 s)))
        (cond third (refused 4)
        (cond fourth (nothing_behind (error_body (word_at s 0) (word_at s 8) (drop 16 s)))
        (refused 3)))) ≡ done c t → FrameParts s c t
    go true x y z h q = lists_parts Msg s c t h q
    go false true y z h q = lists_parts Nomsg s c t h (bare _ q)
    go false false true z h q = absurd (never q)
    go false false false true h q = error_parts s c t h (bare _ q)
    go false false false false h q = absurd (never q)

-- A frame that was checked was read, and its shape is that of its content.
pub record Found (s : List ℕ) (shape : Shape) : Type 0 where
  pub content : Content
  pub behind : List ℕ
  pub read : read_frame s ≡ done content behind
  pub shape_is : shape ≡ shape_of content (length s - length behind)
  pub parts : FrameParts s content behind

pub found : (s : List ℕ) (shape : Shape) → frame_check (length s) (read_frame s) ≡ Ok shape → Found s shape
unfolding frame_check
found s shape e = go (read_frame s) refl e
  where
    go : (p : Parsed Content) → read_frame s ≡ p → frame_check (length s) p ≡ Ok shape → Found s shape
    go (refused n) r q = absurd (let z : ◌≡◌ {A = ℕ} 0 1 = cc in omega arith)
    go (done c t) r q = record { content = c; behind = t; read = r; shape_is = cc; parts = frame_parts s c t r }

pub unfound : (s : List ℕ) (n : ℕ) → frame_check (length s) (read_frame s) ≡ Err n → read_frame s ≡ refused n
unfolding frame_check
unfound s n e = go (read_frame s) e
  where
    go : (p : Parsed Content) → frame_check (length s) p ≡ Err n → p ≡ refused n
    go (refused k) q = cc
    go (done c t) q = absurd (let z : ◌≡◌ {A = ℕ} 0 1 = cc in omega arith)

-- A list of no entries.
pub none_of : {A : Type 0} (l : List A) → length l ≡ 0 → l ≡ []
none_of [] e = refl
none_of (x ∷ l) e = absurd (omega arith)

-- The payload is what stands behind where the header ends.
pub payload_part : (s : List ℕ) (shape : Shape) → Found s shape → (shape.end ≤ length s) × (drop shape.end s ≡ payload_of (read_frame s))
payload_part s shape f =
    let ends : shape.end ≡ length s - length f.behind = ap (λ (x : Shape). x.end) f.shape_is in
    let short = f.parts.reply.short in
    (omega arith, rw (f.read, ends) (sym f.parts.reply.behind))

-- The chunks of a frame that was checked fit.
pub chunks_fit : (s : List ℕ) (shape : Shape) → Found s shape → ChunksFit shape.chunks 16 (drop (20 + shape.reads * 24) s)
chunks_fit s shape f = rw f.shape_is f.parts.writes_fit

-- The payload is no longer than the frame.
pub payload_short : (s : List ℕ) → length (payload_of (read_frame s)) ≤ length s
payload_short s = go (read_frame s) refl
  where
    go : (p : Parsed Content) → read_frame s ≡ p → length (payload_of p) ≤ length s
    go (refused n) e = omega arith
    go (done c t) e = (frame_parts s c t e).reply.short

-- The bounds that a shape keeps.
pub record Bounds (s : List ℕ) (shape : Shape) : Type 0 where
  pub reads_few : shape.reads ≤ 16
  pub reads_long : 20 + shape.reads * 24 ≤ length s
  pub chunks_few : shape.chunks ≤ 4
  pub replies_few : unwrap_or shape.reply 0 ≤ 16
  pub replies_long : unwrap_or shape.reply 0 * 16 ≤ shape.end
  pub end_short : shape.end ≤ length s

pub bounds : (s : List ℕ) (shape : Shape) → Found s shape → Bounds s shape
bounds s shape f =
    let n = ap (λ (x : Shape). x.reads) f.shape_is in
    let m = ap (λ (x : Shape). x.chunks) f.shape_is in
    let r = ap (λ (x : Shape). unwrap_or x.reply 0) f.shape_is in
    let e = ap (λ (x : Shape). x.end) f.shape_is in
    record {
      reads_few = omega (arith, f.parts.reads_few);
      reads_long = omega (arith, f.parts.reads_long);
      chunks_few = omega (arith, f.parts.writes_few);
      replies_few = omega (arith, f.parts.reply.few);
      replies_long = omega (arith, f.parts.reply.long);
      end_short = (payload_part s shape f).0;
    }

-- The read list of a frame that was checked, as it stands there.
pub reads_found : (s : List ℕ) (shape : Shape) → Found s shape → (c : Content) (t : List ℕ) → read_frame s ≡ done c t → each 24 marked_segment_at shape.reads (drop 16 s) ≡ c.reads
reads_found s shape f c t e =
    let same : f.content ≡ c = cc in
    rw (ap (λ (x : Shape). x.reads) f.shape_is) (sym f.parts.reads_are ∙ ap (λ (x : Content). x.reads) same)
