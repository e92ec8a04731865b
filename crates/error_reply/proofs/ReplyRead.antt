-- An error reply in bytes, and what reading gives for one that was written.
-- Assumes nothing.
use mathlib.Core.Path.{◌≡◌, refl, sym, ap, ◌∙◌, subst}
use mathlib.Core.Bool.{Bool, true, false, cond, ◌&&◌}
use mathlib.Core.List.{List, [], ◌∷◌, ◌++◌, append-nil}
use mathlib.Core.Option.{some, none-ne-some, some-injective}
use Prim.Native.Nat.{ℕ, ◌≤◌, ◌<◌, min, max}
use native.Mathlib.Nat.{min-le_right, max-le}
use native.Mathlib.Omega.{arith}
use borrow.Author.Tests.{le-leb, lt-leb, leb-true, eq-eqb, ne_eqb, eqb-true, eqb-false}
use lib.Dec.{leb, eqb}
use lib.ListN.{length, take, drop}
use lib.Seq.{take-append_seam}
use Rattle.wire.specs.Wire.{word_at, joined, word_bytes, words}
use Rattle.chunk_lists.specs.Lists.{all_aligned}
use Rattle.chunk_lists.specs.Parsed.{done, refused}
use Rattle.header.specs.Content.{header_of, nothing}
use Rattle.header.specs.Words.{header_words}
use Rattle.reader.specs.Frame.{read_frame, read_answer, read_number, read_words, payload_of, error_content}
use Rattle.header.specs.declared.ErrorKind.{ErrorKind}
use Rattle.header.specs.Bytes.{header_bytes, fixed_bytes, error_bytes}
use Rattle.header.specs.Limits.{total}
use Rattle.credit.specs.Credit.{granted}
use Rattle.error_reply.specs.Reply.{reply_kind_of, reply_kind_for, reply_words, error_reply, error_reply_number, error_reply_answer, error_reply_buffer}
use Rattle.error_reply.specs.declared.ReplyKind.{ReplyKind}
use Rattle.error_reply.specs.declared.ReplyKind.TheVariants as reply
use Rattle.wire.specs.Fits.{AllBytes, Word32, All}
use Rattle.header.specs.Fits.{ErrorFits}
use Rattle.answers.specs.Answers.{check, room_number}
use Rattle.error_reply.specs.Internal.Length.{reply_length}
use Rattle.error_reply.specs.Meant.{meant, written_reply}
use Rattle.header.proofs.Allowed.{Allowed}
use Rattle.wire.proofs.WordBytes.{join_bytes_lem, word_fits, word_front}
use Rattle.reader.proofs.ReadBack.{header_back}
use Rattle.error_reply.proofs.ReplyWritten.{reply_length_lem}

-- The words of a reply are the bytes of the header that it is meant to be, if a version reply's second word is 1.
reply_bytes_lem : (kind : ReplyKind) (e : ErrorKind) (xid version credit : ℕ) → meant kind ≡ some e → (kind ≡ reply.Version → version ≡ 1) →
    words (reply_words kind xid version credit) ≡ header_bytes (error_content e xid credit)
unfolding words joined word_bytes header_bytes fixed_bytes error_bytes
reply_bytes_lem reply.None e xid version credit m one = absurd (none-ne-some e m)
reply_bytes_lem reply.Version e xid version credit m one =
    subst (λ (x : ErrorKind). words (reply_words reply.Version xid version credit) ≡ header_bytes (error_content x xid credit)) (some-injective _ _ m) (ap (λ (v : ℕ). words (reply_words reply.Version xid v credit)) (one refl))
reply_bytes_lem reply.Chunk e xid version credit m one =
    subst (λ (x : ErrorKind). words (reply_words reply.Chunk xid version credit) ≡ header_bytes (error_content x xid credit)) (some-injective _ _ m) refl

-- The numbers in it fit their fields.
meant_fits : (kind : ReplyKind) (e : ErrorKind) → meant kind ≡ some e → ErrorFits e
meant_fits reply.None e m = absurd (none-ne-some e m)
meant_fits reply.Version e m = subst ErrorFits (some-injective _ _ m) (omega arith, omega arith)
meant_fits reply.Chunk e m = subst ErrorFits (some-injective _ _ m) tt

granted_fits : (asked limit : ℕ) → Word32 limit → Word32 (granted asked limit)
unfolding granted
granted_fits asked limit fits =
    let smaller : min asked limit ≤ limit = min-le_right asked limit in
    let most : max 1 (min asked limit) ≤ 4294967295 = max-le (omega arith) (omega arith) in
    omega arith

-- An ERROR header can be written.
error_allowed : (e : ErrorKind) (xid credit : ℕ) → ErrorFits e → Word32 xid → Word32 credit → Allowed (error_content e xid credit)
unfolding All all_aligned total
error_allowed e xid credit f x c = record {
  kind = f;
  xid = x;
  credit = c;
  reads = tt;
  reads_limit = omega arith;
  aligned = refl;
  writes = tt;
  chunks_limit = omega arith;
  writes_limit = omega arith;
  reply = tt;
  bare = (refl, refl, refl);
}

-- What was written is the reply.
reply_written : (frame out : List ℕ) (number limit : ℕ) → error_reply_number frame number limit (length out) ≡ 0 →
    written_reply frame number limit out ≡ error_reply frame number limit
unfolding error_reply_answer error_reply_buffer
reply_written frame out number limit zero = simp (zero, take-append_seam)

-- A chunk reply that was written is read as the error that it is meant to name, with the frame's xid and the grant; so is a version reply to a frame of version 1.
pub reply_read : (frame out : List ℕ) (number limit : ℕ) (e : ErrorKind) → AllBytes frame → Word32 limit → error_reply_number frame number limit (length out) ≡ 0 → meant (reply_kind_for frame number) ≡ some e → (reply_kind_for frame number ≡ reply.Version → word_at frame 4 ≡ 1) →
    read_frame (written_reply frame number limit out) ≡ done (error_content e (word_at frame 0) (granted (word_at frame 8) limit)) []
unfolding error_reply
reply_read frame out number limit e b fits zero m one =
    let bytes = reply_bytes_lem (reply_kind_for frame number) e (word_at frame 0) (word_at frame 4) (granted (word_at frame 8) limit) m one in
    let allowed = error_allowed e (word_at frame 0) (granted (word_at frame 8) limit) (meant_fits (reply_kind_for frame number) e m) (word_fits frame 0 b) (granted_fits (word_at frame 8) limit fits) in
    let back = header_back (error_content e (word_at frame 0) (granted (word_at frame 8) limit)) [] allowed refl in
    rw (reply_written frame out number limit zero, bytes) (simp append-nil at back)

-- So it reads back as that ERROR header, with nothing behind.
pub reply_read_answer : (frame out : List ℕ) (number limit : ℕ) (e : ErrorKind) → AllBytes frame → Word32 limit → error_reply_number frame number limit (length out) ≡ 0 → meant (reply_kind_for frame number) ≡ some e → (reply_kind_for frame number ≡ reply.Version → word_at frame 4 ≡ 1) →
    (read_answer (read_frame (written_reply frame number limit out)) ≡ record { header = header_of (error_content e (word_at frame 0) (granted (word_at frame 8) limit)); number = 0 })
    × (payload_of (read_frame (written_reply frame number limit out)) ≡ [])
reply_read_answer frame out number limit e b fits zero m one = rw (reply_read frame out number limit e b fits zero m one) (refl, refl)

-- The same through the exports.
pub export_reply_read : (frame out before : List ℕ) (number limit : ℕ) (e : ErrorKind) → AllBytes frame → Word32 limit → error_reply_number frame number limit (length out) ≡ 0 → meant (reply_kind_for frame number) ≡ some e → (reply_kind_for frame number ≡ reply.Version → word_at frame 4 ≡ 1) →
    (read_number (read_frame (written_reply frame number limit out)) ≡ 0)
    × (read_words (read_frame (written_reply frame number limit out)) before ≡ header_words (header_of (error_content e (word_at frame 0) (granted (word_at frame 8) limit))))
    × (payload_of (read_frame (written_reply frame number limit out)) ≡ [])
export_reply_read frame out before number limit e b fits zero m one = rw (reply_read frame out number limit e b fits zero m one) (refl, refl, refl)

-- "Reading such a reply back gives 2 unless its second word is 1."
other_version : (xid version credit : ℕ) → Word32 version → (version ≡ 1 → ⊥) → read_frame (words (reply_words reply.Version xid version credit)) ≡ refused 2
unfolding read_frame words joined word_bytes word_at
other_version xid version credit fits other = rw (join_bytes_lem version fits, ne_eqb version 1 other) refl

pub other_read : (frame out : List ℕ) (number limit : ℕ) → AllBytes frame → error_reply_number frame number limit (length out) ≡ 0 → reply_kind_for frame number ≡ reply.Version → (word_at frame 4 ≡ 1 → ⊥) →
    read_frame (written_reply frame number limit out) ≡ refused 2
unfolding error_reply
other_read frame out number limit b zero version other =
    rw (reply_written frame out number limit zero, version) (other_version (word_at frame 0) (word_at frame 4) (granted (word_at frame 8) limit) (word_fits frame 4 b) other)

-- So reading gives 2, the all-zero header and no payload; through the exports 2, and the caller's header as it was.
pub other_read_answer : (frame out : List ℕ) (number limit : ℕ) → AllBytes frame → error_reply_number frame number limit (length out) ≡ 0 → reply_kind_for frame number ≡ reply.Version → (word_at frame 4 ≡ 1 → ⊥) →
    (read_answer (read_frame (written_reply frame number limit out)) ≡ record { header = header_of nothing; number = 2 })
    × (payload_of (read_frame (written_reply frame number limit out)) ≡ [])
other_read_answer frame out number limit b zero version other = rw (other_read frame out number limit b zero version other) (refl, refl)

pub export_other_read : (frame out before : List ℕ) (number limit : ℕ) → AllBytes frame → error_reply_number frame number limit (length out) ≡ 0 → reply_kind_for frame number ≡ reply.Version → (word_at frame 4 ≡ 1 → ⊥) →
    (read_number (read_frame (written_reply frame number limit out)) ≡ 2)
    × (read_words (read_frame (written_reply frame number limit out)) before ≡ before)
    × (payload_of (read_frame (written_reply frame number limit out)) ≡ [])
export_other_read frame out before number limit b zero version other = rw (other_read frame out number limit b zero version other) (refl, refl, refl)

-- A frame that gets a reply has its fixed words.
replied_long : (frame : List ℕ) (number : ℕ) (e : ErrorKind) → meant (reply_kind_for frame number) ≡ some e → 16 ≤ length frame
unfolding reply_kind_for
replied_long frame number e m = go (leb 16 (length frame)) refl m
  where
    go : (b : Bool) → leb 16 (length frame) ≡ b → meant (cond b (cond (eqb (word_at frame 12) 4) reply.None (reply_kind_of number)) reply.None) ≡ some e → 16 ≤ length frame
    go true long q = leb-true 16 (length frame) long
    go false long q = absurd (none-ne-some e q)

-- The first two words of a frame are what stands there.
two_words : (frame : List ℕ) → AllBytes frame → 16 ≤ length frame → frame ≡ word_bytes (word_at frame 0) ++ (word_bytes (word_at frame 4) ++ drop 8 frame)
two_words frame b long =
    sym (ap (λ (t : List ℕ). word_bytes (word_at frame 0) ++ t) (word_front frame 4 8 b refl (omega arith)) ∙ word_front frame 0 4 b refl (omega arith))

error_length : (frame : List ℕ) (number limit : ℕ) → length (error_reply frame number limit) ≡ reply_length (reply_kind_for frame number)
unfolding error_reply
error_length frame number limit = reply_length_lem (reply_kind_for frame number) (word_at frame 0) (word_at frame 4) (granted (word_at frame 8) limit)

-- A reply of a kind, at the front of a buffer: its length, and what stands behind it is kept.
whole_reply : (frame out bytes : List ℕ) (number limit : ℕ) (kind : ReplyKind) → error_reply_number frame number limit (length out) ≡ 0 → reply_kind_for frame number ≡ kind → error_reply frame number limit ≡ bytes →
    (error_reply_answer frame number limit (length out) ≡ record { number = 0; length = reply_length kind })
    × (error_reply_buffer frame number limit out ≡ bytes ++ drop (reply_length kind) out)
unfolding error_reply_answer error_reply_buffer
whole_reply frame out bytes number limit kind zero k e =
    let size : length (error_reply frame number limit) ≡ reply_length kind = error_length frame number limit ∙ ap reply_length k in
    rw (zero, size) (refl, ap (λ (t : List ℕ). t ++ drop (reply_length kind) out) e)

-- "In a version reply the second word becomes the frame's version word; low and high stay 1.": xid and version byte by byte as they came.
version_bytes : (frame : List ℕ) (number limit : ℕ) → AllBytes frame → reply_kind_for frame number ≡ reply.Version →
    error_reply frame number limit ≡ take 8 frame ++ word_bytes (granted (word_at frame 8) limit) ++ (0 ∷ 0 ∷ 0 ∷ 4 ∷ 0 ∷ 0 ∷ 0 ∷ 1 ∷ 0 ∷ 0 ∷ 0 ∷ 1 ∷ 0 ∷ 0 ∷ 0 ∷ 1 ∷ [])
unfolding error_reply words joined word_bytes
version_bytes frame number limit b version =
    let first = ap (take 8) (two_words frame b (replied_long frame number _ (ap meant version))) in
    rw (version, first) refl

pub version_reply : (frame out : List ℕ) (number limit : ℕ) → AllBytes frame → error_reply_number frame number limit (length out) ≡ 0 → reply_kind_for frame number ≡ reply.Version →
    (error_reply_answer frame number limit (length out) ≡ record { number = 0; length = 28 })
    × (error_reply_buffer frame number limit out ≡ (take 8 frame ++ word_bytes (granted (word_at frame 8) limit) ++ (0 ∷ 0 ∷ 0 ∷ 4 ∷ 0 ∷ 0 ∷ 0 ∷ 1 ∷ 0 ∷ 0 ∷ 0 ∷ 1 ∷ 0 ∷ 0 ∷ 0 ∷ 1 ∷ [])) ++ drop 28 out)
unfolding reply_length
version_reply frame out number limit b zero version = whole_reply frame out _ number limit _ zero version (version_bytes frame number limit b version)

-- "A chunk reply keeps its second word 1, whatever the frame's."
chunk_bytes : (frame : List ℕ) (number limit : ℕ) → AllBytes frame → reply_kind_for frame number ≡ reply.Chunk →
    error_reply frame number limit ≡ take 4 frame ++ (0 ∷ 0 ∷ 0 ∷ 1 ∷ []) ++ word_bytes (granted (word_at frame 8) limit) ++ (0 ∷ 0 ∷ 0 ∷ 4 ∷ 0 ∷ 0 ∷ 0 ∷ 2 ∷ [])
unfolding error_reply words joined word_bytes
chunk_bytes frame number limit b chunk =
    let first = ap (take 4) (two_words frame b (replied_long frame number _ (ap meant chunk))) in
    rw (chunk, first) refl

pub chunk_reply : (frame out : List ℕ) (number limit : ℕ) → AllBytes frame → error_reply_number frame number limit (length out) ≡ 0 → reply_kind_for frame number ≡ reply.Chunk →
    (error_reply_answer frame number limit (length out) ≡ record { number = 0; length = 20 })
    × (error_reply_buffer frame number limit out ≡ (take 4 frame ++ (0 ∷ 0 ∷ 0 ∷ 1 ∷ []) ++ word_bytes (granted (word_at frame 8) limit) ++ (0 ∷ 0 ∷ 0 ∷ 4 ∷ 0 ∷ 0 ∷ 0 ∷ 2 ∷ [])) ++ drop 20 out)
unfolding reply_length
chunk_reply frame out number limit b zero chunk = whole_reply frame out _ number limit _ zero chunk (chunk_bytes frame number limit b chunk)

-- The second word of a reply.
second : (xid version credit : ℕ) → Word32 version → word_at (words (reply_words reply.Version xid version credit)) 4 ≡ version
unfolding words joined word_bytes word_at
second xid version credit fits = join_bytes_lem version fits

version_second : (frame : List ℕ) (number limit : ℕ) → AllBytes frame → reply_kind_for frame number ≡ reply.Version → word_at (error_reply frame number limit) 4 ≡ word_at frame 4
unfolding error_reply
version_second frame number limit b version = rw version (second (word_at frame 0) (word_at frame 4) (granted (word_at frame 8) limit) (word_fits frame 4 b))

chunk_second : (frame : List ℕ) (number limit : ℕ) → reply_kind_for frame number ≡ reply.Chunk → word_at (error_reply frame number limit) 4 ≡ 1
unfolding error_reply words joined word_bytes word_at
chunk_second frame number limit chunk = rw chunk refl

no_version : reply.Chunk ≡ reply.Version → ⊥
unfolding reply_length
no_version h = let q : ◌≡◌ {A = ℕ} 20 28 = ap reply_length h in omega (arith, q)

-- "Reading such a reply back gives 2 unless its second word is 1.", of both replies, by the reply's own word.
pub read_exactly : (frame out : List ℕ) (number limit : ℕ) (e : ErrorKind) → AllBytes frame → Word32 limit → error_reply_number frame number limit (length out) ≡ 0 → meant (reply_kind_for frame number) ≡ some e →
    read_number (read_frame (written_reply frame number limit out)) ≡ cond (eqb (word_at (written_reply frame number limit out) 4) 1) 0 2
read_exactly frame out number limit e b fits zero m =
    by (reply_kind_for frame number) refl (eqb (word_at frame 4) 1) refl ∙ ap (λ (t : List ℕ). cond (eqb (word_at t 4) 1) 0 2) (sym (reply_written frame out number limit zero))
  where
    by : (k : ReplyKind) → reply_kind_for frame number ≡ k → (t : Bool) → eqb (word_at frame 4) 1 ≡ t →
        read_number (read_frame (written_reply frame number limit out)) ≡ cond (eqb (word_at (error_reply frame number limit) 4) 1) 0 2
    by reply.None k t q = absurd (none-ne-some e (sym (ap meant k) ∙ m))
    by reply.Version k true q = rw (version_second frame number limit b k, q) (ap read_number (reply_read frame out number limit e b fits zero m (λ _. eqb-true (word_at frame 4) 1 q)))
    by reply.Version k false q = rw (version_second frame number limit b k, q) (ap read_number (other_read frame out number limit b zero k (eqb-false (word_at frame 4) 1 q)))
    by reply.Chunk k t q = rw (chunk_second frame number limit k) (ap read_number (reply_read frame out number limit e b fits zero m (λ v. absurd (no_version (sym k ∙ v)))))

-- "Checks: 20": limit 0, or a number above 21, whatever the frame and the room.
pub limit_zero : (frame out : List ℕ) (number : ℕ) →
    (error_reply_answer frame number 0 (length out) ≡ record { number = 20; length = 0 }) × (error_reply_buffer frame number 0 out ≡ out)
unfolding error_reply_answer error_reply_buffer error_reply_number
limit_zero frame out number = (refl, refl)

number_20 : (frame : List ℕ) (number limit room : ℕ) → 22 ≤ number → error_reply_number frame number limit room ≡ 20
unfolding error_reply_number
number_20 frame number limit room above = by (leb 1 limit)
  where
    by : (t : Bool) → check (t && leb number 21) 20 (room_number (error_reply frame number limit) room) ≡ 20
    by true = simp (lt-leb number 21 above)
    by false = refl

pub above_21 : (frame out : List ℕ) (number limit : ℕ) → 22 ≤ number →
    (error_reply_answer frame number limit (length out) ≡ record { number = 20; length = 0 }) × (error_reply_buffer frame number limit out ≡ out)
unfolding error_reply_answer error_reply_buffer
above_21 frame out number limit above = rw (number_20 frame number limit (length out) above) (refl, refl)

-- "then no reply .. for a frame under 16 bytes or with procedure 4; then a small fixed table by number"
pub reply_due : (frame : List ℕ) (number : ℕ) → 16 ≤ length frame → (word_at frame 12 ≡ 4 → ⊥) → reply_kind_for frame number ≡ reply_kind_of number
unfolding reply_kind_for
reply_due frame number long other = simp (le-leb 16 (length frame) long, ne_eqb (word_at frame 12) 4 other)

pub short_unanswered : (frame : List ℕ) (number : ℕ) → length frame < 16 → reply_kind_for frame number ≡ reply.None
unfolding reply_kind_for
short_unanswered frame number short = rw (lt-leb 16 (length frame) short) refl

pub error_unanswered : (frame : List ℕ) (number : ℕ) → word_at frame 12 ≡ 4 → reply_kind_for frame number ≡ reply.None
unfolding reply_kind_for
error_unanswered frame number four = rw (eq-eqb (word_at frame 12) 4 four) (either (leb 16 (length frame)))
  where
    either : (t : Bool) → cond t reply.None reply.None ≡ reply.None
    either true = refl
    either false = refl

-- A number for which the table has none gets none, whatever the frame.
number_unanswered : (frame : List ℕ) (number : ℕ) → reply_kind_of number ≡ reply.None → reply_kind_for frame number ≡ reply.None
unfolding reply_kind_for
number_unanswered frame number none-there = rw none-there (either (leb 16 (length frame)) (eqb (word_at frame 12) 4))
  where
    either : (t u : Bool) → cond t (cond u reply.None reply.None) reply.None ≡ reply.None
    either true true = refl
    either true false = refl
    either false u = refl

-- "no reply (number 0, length 0, buffer unchanged)"
pub no_reply : (frame out : List ℕ) (number limit : ℕ) → 1 ≤ limit → number ≤ 21 → reply_kind_for frame number ≡ reply.None →
    (error_reply_answer frame number limit (length out) ≡ record { number = 0; length = 0 })
    × (error_reply_buffer frame number limit out ≡ out)
unfolding error_reply_answer error_reply_buffer error_reply_number error_reply words joined
no_reply frame out number limit some-limit known none-meant =
    simp (le-leb 1 limit some-limit, le-leb number 21 known, none-meant, le-leb 0 (length out) (omega arith)) (refl, refl)

-- Order 7, of 21: "The error reply still takes it as an argument and answers none."
pub takes_21 : (frame out : List ℕ) (limit : ℕ) → 1 ≤ limit →
    (error_reply_answer frame 21 limit (length out) ≡ record { number = 0; length = 0 })
    × (error_reply_buffer frame 21 limit out ≡ out)
unfolding reply_kind_of
takes_21 frame out limit some-limit = no_reply frame out 21 limit some-limit (omega arith) (number_unanswered frame 21 refl)

-- An error reply is itself never answered: two sides cannot go on answering each other.
unanswered : (kind : ReplyKind) (xid version credit number : ℕ) → reply_kind_for (words (reply_words kind xid version credit)) number ≡ reply.None
unfolding reply_kind_for words joined word_bytes word_at
unanswered reply.None xid version credit number = refl
unanswered reply.Version xid version credit number = refl
unanswered reply.Chunk xid version credit number = refl

pub reply_unanswered : (frame : List ℕ) (number limit later : ℕ) → reply_kind_for (error_reply frame number limit) later ≡ reply.None
unfolding error_reply
reply_unanswered frame number limit later = unanswered (reply_kind_for frame number) (word_at frame 0) (word_at frame 4) (granted (word_at frame 8) limit) later
