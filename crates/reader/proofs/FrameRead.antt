-- A frame that was read: its header bytes, written again, and what holds of its content.
-- Assumes nothing.
use mathlib.Core.Path.{◌≡◌, refl, sym, subst, ◌∙◌}
use mathlib.Core.Bool.{Bool, true, false, cond}
use mathlib.Core.List.{List, [], ◌∷◌, ◌++◌, append_assoc}
use mathlib.Core.Option.{Option}
use Rattle.std.specs.Prelude.{Result, Ok, Err}
use Prim.Native.Nat.{ℕ, ◌+◌, ◌≤◌}
use native.Mathlib.Omega.{arith}
use borrow.Author.Tests.{leb-true, eqb-true}
use lib.ListN.{length, drop, length-append}
use lib.Seq.{drop-drop}
use lib.Dec.{leb, eqb}
use Rattle.wire.specs.Wire.{word_at, word_of, word_bytes}
use Rattle.chunk_lists.specs.Parsed.{Parsed, refused, done}
use Rattle.chunk_lists.specs.Lists.{after_word, read_list, all_aligned, write_list, reply_chunk}
use Rattle.header.specs.Content.{Content}
use Rattle.reader.specs.Frame.{three_parts, error_body, error_content, nothing_behind, by_procedure, read_frame}
use Rattle.header.specs.Bytes.{read_list_bytes, write_list_bytes, reply_bytes, error_bytes, procedure_of, rest_bytes, fixed_bytes, header_bytes}
use Rattle.wire.specs.Fits.{AllBytes, Word32, All}
use Rattle.header.specs.Fits.{ErrorFits, KindFits}
use Rattle.header.specs.Limits.{total}
use Rattle.header.specs.declared.Kind.{Kind}
use Rattle.header.specs.declared.Kind.TheVariants.{Msg, Nomsg, Error}
use Rattle.header.specs.declared.ErrorKind.{ErrorKind}
use Rattle.header.specs.declared.ErrorKind.TheVariants.{Version, Chunk}
use Rattle.wire.specs.declared.Segment.{Segment}
use Rattle.wire.specs.declared.ReadSegment.{ReadSegment}
use Rattle.header.proofs.Allowed.{Allowed, BareIfError, Behind}
use Rattle.header.proofs.Longest.{header_most, allowed_limited}
use Rattle.wire.proofs.WordBytes.{bytes_drop, word_fits, word_front}
use Rattle.reader.proofs.WriteBack.{done_same, bytes_behind, word_of_front, ReadListRead, read_list_done, WriteListRead, write_list_done, ReplyRead, reply_done}
use Rattle.chunk_lists.proofs.ListSteps.{never, required, both}

-- What stands behind the fixed words, read.
record BodyRead (kind : Kind) (xid credit : ℕ) (s : List ℕ) (c : Content) (t : List ℕ) : Type 0 where
  same_kind : c.kind ≡ kind
  same_xid : c.xid ≡ xid
  same_credit : c.credit ≡ credit
  bytes : rest_bytes kind (read_list_bytes c.reads ++ (write_list_bytes c.writes ++ reply_bytes c.reply)) ++ t ≡ s
  allowed : Allowed c

-- A kind that goes on with three parts.
record Listed (kind : Kind) : Type 0 where
  fits : KindFits kind
  bare : (c : Content) → BareIfError kind c
  rest : (parts : List ℕ) → rest_bytes kind parts ≡ parts

-- The three parts, read, make the content.
parts_read : (kind : Kind) (xid credit : ℕ) (s u v t : List ℕ) (reads : List ReadSegment) (writes : List (List Segment)) (reply : Option (List Segment)) →
    Listed kind → Word32 xid → Word32 credit → ReadListRead 16 s reads u → WriteListRead 4 16 u writes v → ReplyRead v reply t →
    BodyRead kind xid credit s (record { kind = kind; xid = xid; credit = credit; reads = reads; writes = writes; reply = reply }) t
parts_read kind xid credit s u v t reads writes reply k x y r w p =
    record {
      same_kind = refl;
      same_xid = refl;
      same_credit = refl;
      bytes = simp (k.rest, append_assoc, p.bytes, w.bytes) r.bytes;
      allowed = record {
        kind = k.fits;
        xid = x;
        credit = y;
        reads = r.fits;
        reads_limit = r.limit;
        aligned = r.aligned;
        writes = w.fits;
        chunks_limit = w.limit;
        writes_limit = w.sum;
        reply = p.allowed;
        bare = k.bare _;
      };
    }

-- Three parts that were read are what stood there, and keep the rules.
three_parts_done : (kind : Kind) (xid credit : ℕ) (s : List ℕ) (c : Content) (t : List ℕ) → Listed kind → Word32 xid → Word32 credit → AllBytes s →
    three_parts kind xid credit s ≡ done c t → BodyRead kind xid credit s c t
unfolding three_parts
three_parts_done kind xid credit s c t k x y b e =
    let one = both (read_list 16 s) e in
    let reads = read_list_done 16 s one.first one.behind b one.is in
    let bu = bytes_behind (read_list_bytes one.first) one.behind s reads.bytes b in
    let two = both (write_list 4 16 one.behind) one.then in
    let writes = write_list_done 4 16 one.behind two.first two.behind bu two.is in
    let bv = bytes_behind (write_list_bytes two.first) two.behind one.behind writes.bytes bu in
    let three = both (reply_chunk two.behind) two.then in
    let reply = reply_done two.behind three.first three.behind bv three.is in
    done_same (BodyRead kind xid credit s) _ c three.behind t three.then (parts_read kind xid credit s _ _ _ _ _ _ k x y reads writes reply)

-- A word that was read, and what it decided.
record WordRead {A : Type 0} (w : Result ℕ ℕ) (next : ℕ → Parsed A) (a : A) (t : List ℕ) : Type 0 where
  value : ℕ
  there : w ≡ Ok value
  onward : next value ≡ done a t

-- What a word decided was decided by a word that was there.
after_word_done : {A : Type 0} (w : Result ℕ ℕ) (next : ℕ → Parsed A) (a : A) (t : List ℕ) → after_word w next ≡ done a t → WordRead w next a t
after_word_done (Err n) next a t e = absurd (never e)
after_word_done (Ok x) next a t e = record { value = x; there = refl; onward = e }

-- An ERROR header that was read.
record ErrorRead (xid credit : ℕ) (s : List ℕ) (c : Content) (t : List ℕ) : Type 0 where
  error : ErrorKind
  body : BodyRead (Error error) xid credit s c t

-- What an ERROR header goes on with, read, makes its content.
error_read : (e : ErrorKind) (xid credit : ℕ) (s t : List ℕ) → Word32 xid → Word32 credit → ErrorFits e → error_bytes e ++ t ≡ s →
    ErrorRead xid credit s (error_content e xid credit) t
unfolding All all_aligned total
error_read e xid credit s t x y f bytes =
    record {
      error = e;
      body = record {
        same_kind = refl;
        same_xid = refl;
        same_credit = refl;
        bytes = bytes;
        allowed = record {
          kind = f;
          xid = x;
          credit = y;
          reads = tt;
          reads_limit = omega arith;
          aligned = refl;
          writes = tt;
          chunks_limit = omega arith;
          writes_limit = omega arith;
          reply = tt;
          bare = (refl, refl, refl);
        };
      };
    }

-- The low and high of a version error that were read are what stood there.
version_done : (xid credit : ℕ) (s : List ℕ) (c : Content) (t : List ℕ) → Word32 xid → Word32 credit → AllBytes s → word_bytes 1 ++ drop 4 s ≡ s →
    after_word (word_of (drop 4 s)) (λ low. after_word (word_of (drop 8 s)) (λ high. done (error_content (Version low high) xid credit) (drop 12 s))) ≡ done c t →
    ErrorRead xid credit s c t
unfolding error_bytes
version_done xid credit s c t x y b one e =
    let low = after_word_done (word_of (drop 4 s)) _ c t e in
    let high = after_word_done (word_of (drop 8 s)) _ c t low.onward in
    let two = word_of_front (drop 4 s) low.value (bytes_drop 4 s b) low.there in
    let three = word_of_front (drop 8 s) high.value (bytes_drop 8 s b) high.there in
    let second : word_bytes low.value ++ drop 8 s ≡ drop 4 s = simp drop-drop at two.0 in
    let third : word_bytes high.value ++ drop 12 s ≡ drop 8 s = simp drop-drop at three.0 in
    done_same (ErrorRead xid credit s) _ c (drop 12 s) t high.onward
    (error_read (Version low.value high.value) xid credit s (drop 12 s) x y (two.1, three.1) (simp (append_assoc, third, second) one))

-- What an ERROR header goes on with that was read is what stood there.
error_done : (xid credit : ℕ) (s : List ℕ) (c : Content) (t : List ℕ) → Word32 xid → Word32 credit → AllBytes s → error_body xid credit s ≡ done c t →
    ErrorRead xid credit s c t
unfolding error_body error_bytes
error_done xid credit s c t x y b e =
    let code = after_word_done (word_of s) _ c t e in
    by_code code.value (eqb code.value 1) (eqb code.value 2) refl refl (word_of_front s code.value b code.there).0 code.onward
  where
    by_code : (code : ℕ) (one? two? : Bool) → eqb code 1 ≡ one? → eqb code 2 ≡ two? → word_bytes code ++ drop 4 s ≡ s →
        cond one? (after_word (word_of (drop 4 s)) (λ low. after_word (word_of (drop 8 s)) (λ high. done (error_content (Version low high) xid credit) (drop 12 s))))
        (cond two? (done (error_content Chunk xid credit) (drop 4 s)) (refused 10)) ≡ done c t → ErrorRead xid credit s c t
    by_code code true two? p q w e =
        let is : code ≡ 1 = eqb-true code 1 p in
        version_done xid credit s c t x y b (subst (λ (n : ℕ). word_bytes n ++ drop 4 s ≡ s) is w) e
    by_code code false true p q w e =
        let is : code ≡ 2 = eqb-true code 2 q in
        done_same (ErrorRead xid credit s) _ c (drop 4 s) t e (error_read Chunk xid credit s (drop 4 s) x y tt (subst (λ (n : ℕ). word_bytes n ++ drop 4 s ≡ s) is w))
    by_code code false false p q w e = absurd (never e)

-- "bytes behind a NOMSG or ERROR header": there are none.
nothing_behind_done : (p : Parsed Content) (c : Content) (t : List ℕ) → nothing_behind p ≡ done c t → (p ≡ done c t) × (t ≡ [])
nothing_behind_done p c t e =
    let one = both p e in
    let two = required (eqb (length one.behind) 0) 11 (done one.first one.behind) one.then in
    let w : t ≡ one.behind = cc in
    (one.is ∙ two.1, w ∙ empty one.behind (eqb-true (length one.behind) 0 two.0))
  where
    empty : (l : List ℕ) → length l ≡ 0 → l ≡ []
    empty [] h = refl
    empty (x ∷ l) h = absurd (omega arith)

-- What the procedure decides, read.
record ProcedureRead (procedure xid credit : ℕ) (s : List ℕ) (c : Content) (t : List ℕ) : Type 0 where
  kind : Kind
  same_procedure : procedure_of kind ≡ procedure
  behind : Behind kind t
  body : BodyRead kind xid credit s c t

-- What the procedure decided is what stood there.
procedure_done : (procedure xid credit : ℕ) (s : List ℕ) (c : Content) (t : List ℕ) → Word32 xid → Word32 credit → AllBytes s →
    by_procedure procedure xid credit s ≡ done c t → ProcedureRead procedure xid credit s c t
unfolding by_procedure
procedure_done n xid credit s c t x y b e = go (eqb n 0) (eqb n 1) (eqb n 3) (eqb n 4) refl refl refl e
  where
    go : (msg? nomsg? done? error? : Bool) → eqb n 0 ≡ msg? → eqb n 1 ≡ nomsg? → eqb n 4 ≡ error? →
        cond msg? (three_parts Msg xid credit s) (cond nomsg? (nothing_behind (three_parts Nomsg xid credit s))
        (cond done? (refused 4) (cond error? (nothing_behind (error_body xid credit s)) (refused 3)))) ≡ done c t → ProcedureRead n xid credit s c t
    go true b1 b3 b4 p q r e =
        record {
          kind = Msg;
          same_procedure = sym (eqb-true n 0 p);
          behind = tt;
          body = three_parts_done Msg xid credit s c t (record { fits = tt; bare = λ d. tt; rest = λ l. refl }) x y b e;
        }
    go false true b3 b4 p q r e =
        let f = nothing_behind_done (three_parts Nomsg xid credit s) c t e in
        record {
          kind = Nomsg;
          same_procedure = sym (eqb-true n 1 q);
          behind = f.1;
          body = three_parts_done Nomsg xid credit s c t (record { fits = tt; bare = λ d. tt; rest = λ l. refl }) x y b f.0;
        }
    go false false true b4 p q r e = absurd (never e)
    go false false false true p q r e =
        let f = nothing_behind_done (error_body xid credit s) c t e in
        let g = error_done xid credit s c t x y b f.0 in
        record { kind = Error g.error; same_procedure = sym (eqb-true n 4 r); behind = f.1; body = g.body }
    go false false false false p q r e = absurd (never e)

-- A frame that was read: its bytes, and what holds of its content.
pub record FrameRead (s : List ℕ) (c : Content) (t : List ℕ) : Type 0 where
  pub bytes : header_bytes c ++ t ≡ s
  pub allowed : Allowed c
  pub behind : Behind c.kind t

-- The fixed words that were read are what stood there.
fixed_front : (s : List ℕ) (kind : Kind) (xid credit : ℕ) (r : List ℕ) → AllBytes s → 16 ≤ length s → word_at s 4 ≡ 1 →
    procedure_of kind ≡ word_at s 12 → xid ≡ word_at s 0 → credit ≡ word_at s 8 → r ≡ drop 16 s → fixed_bytes kind xid credit ++ r ≡ s
unfolding fixed_bytes
fixed_front s kind xid credit r b long version p x y e =
    let v : word_bytes 1 ++ drop 8 s ≡ drop 4 s =
    subst (λ (n : ℕ). word_bytes n ++ drop 8 s ≡ drop 4 s) version (word_front s 4 8 b refl (omega arith)) in
    simp (append_assoc, e, p, word_front s 12 16 b refl long, y, word_front s 8 12 b refl (omega arith), v, x) (word_front s 0 4 b refl (omega arith))

-- A frame that was read is its header bytes and its payload, and its content keeps the rules.
pub frame_done : (s : List ℕ) (c : Content) (t : List ℕ) → AllBytes s → read_frame s ≡ done c t → FrameRead s c t
unfolding read_frame header_bytes
frame_done s c t b e =
    let long = required (leb 16 (length s)) 1 _ e in
    let version = required (eqb (word_at s 4) 1) 2 _ long.1 in
    let r = procedure_done (word_at s 12) (word_at s 0) (word_at s 8) (drop 16 s) c t (word_fits s 0 b) (word_fits s 8 b) (bytes_drop 16 s b) version.1 in
    record {
      bytes = simp (r.body.same_kind, append_assoc)
          (fixed_front s r.kind c.xid c.credit _ b (leb-true 16 (length s) long.0) (eqb-true (word_at s 4) 1 version.0)
          r.same_procedure r.body.same_xid r.body.same_credit r.body.bytes);
      allowed = r.body.allowed;
      behind = simp r.body.same_kind r.behind;
    }

-- Its header takes at most 960 bytes.
pub frame_most : (s : List ℕ) (c : Content) (t : List ℕ) → AllBytes s → read_frame s ≡ done c t → length s ≤ 960 + length t
frame_most s c t b e =
    let f = frame_done s c t b e in
    let most = header_most c (allowed_limited c f.allowed) in
    rw (← f.bytes, length-append) (omega arith)
