-- Headers read and written through the exports: each undoes the other.
-- Assumes nothing.
use mathlib.Core.Path.{◌≡◌, refl, subst}
use mathlib.Core.Bool.{Bool, true, false, cond}
use mathlib.Core.List.{List, [], ◌∷◌, ◌++◌}
use mathlib.Core.Option.{some}
use Prim.Native.Nat.{ℕ, zero, suc, ◌+◌, ◌-◌, ◌≤◌}
use native.Mathlib.Omega.{arith}
use lib.ListN.{length, take, drop, get_or, length-drop}
use lib.Seq.{length-take-le}
use lib.Dec.{leb, eqb}
use Rattle.chunk_lists.specs.Parsed.{Parsed, refused, done}
use Rattle.chunk_lists.proofs.Words.{length_reads, length_segments}
use Rattle.chunk_lists.proofs.WordsFit.{words_behind, reads_fit, segments_fit}
use Rattle.header.specs.declared.Kind.{Kind}
use Rattle.header.specs.declared.Kind.TheVariants.{Msg, Nomsg, Error}
use Rattle.header.specs.declared.ErrorKind.TheVariants.{Version, Chunk}
use Rattle.std.specs.Prelude.{Option, Some, None}
use Rattle.header.specs.Content.{Content, header_of}
use Rattle.reader.specs.Frame.{read_frame, payload_of, read_number, read_words}
use Rattle.header.specs.Words.{kind_in, header_as, header_found, header_in, header_words}
use Rattle.header.specs.declared.Header.{Header}
use Rattle.header.proofs.Words.{Full, header_back}
use Rattle.header.specs.Bytes.{header_bytes}
use Rattle.c_header.specs.Part.{part_of}
use Rattle.c_header.proofs.PayloadPlace.{part_there}
use Rattle.writer.specs.Write.{write_number, write_answer, write_words_answer, write_words_buffer}
use Rattle.wire.specs.Fits.{Word32, All, AllBytes, AllWords}
use Rattle.header.specs.Fits.{KindFits, Representable, zeroed}
use Rattle.writer.proofs.RoundTrip.{zeroed_written, zeroed_representable, frame_is, written_read, header_of_content_of, read_written, read_representable}

-- The places that a header's struct has.
full : (h : Header) → Representable h → Full h
full h r = record { reads = r.reads_length; writes = r.writes_length; counts = r.counts_length; reply = r.reply_length }

some_words : (n : ℕ) (l : List ℕ) → AllWords l → All Word32 (take n l)
unfolding All
some_words zero l f = tt
some_words (suc n) [] f = tt
some_words (suc n) (x ∷ l) f = (f 0, some_words n l (λ i. f (suc i)))

kind_fits_lem : (number low high : ℕ) → Word32 low → Word32 high → (kind : Kind) → kind_in number low high ≡ Some kind → KindFits kind
unfolding kind_in
kind_fits_lem number low high l h kind = by (eqb number 0) (eqb number 1) (eqb number 2) (eqb number 3)
  where
    same : {x y : Kind} → Some x ≡ Some y → x ≡ y
    same e = cc

    by : (a b c d : Bool) → cond a (Some Msg) (cond b (Some Nomsg) (cond c (Some (Error (Version low high))) (cond d (Some (Error Chunk)) None))) ≡ Some kind → KindFits kind
    by true b c d e = subst KindFits (same e) tt
    by false true c d e = subst KindFits (same e) tt
    by false false true d e = subst KindFits (same e) (l, h)
    by false false false true e = subst KindFits (same e) tt
    by false false false false e = absurd (let z : ◌≡◌ {A = ℕ} 0 1 = cc in omega arith)

held : (w : List ℕ) → AllWords w → length w ≡ 238 → (kind : Kind) (present : Bool) → KindFits kind → Representable (header_as w kind present)
held w f long kind present k = record {
  kind = k;
  xid = f 235;
  credit = f 236;
  reads_length = length_reads w;
  reads_segments = reads_fit w f;
  reads_count = f 228;
  writes_length = length_segments 96 w;
  writes_segments = segments_fit 96 w f;
  counts_length = length-take-le 4 (drop 224 w) (rw length-drop (omega arith));
  counts = some_words 4 (drop 224 w) (words_behind w 224 f);
  chunks = f 229;
  reply_length = length_segments 160 w;
  reply_segments = segments_fit 160 w f;
  reply_count = f 231;
}

-- A header that lies in words can be held by its struct.
pub words_representable : (w : List ℕ) → AllWords w → length w ≡ 238 → (h : Header) → header_in w ≡ some h → Representable h
unfolding header_in
words_representable w f long h = by (kind_in (get_or w 232 0) (get_or w 233 0) (get_or w 234 0)) refl (leb (get_or w 230 0) 1)
  where
    is : {x y : Header} → some x ≡ some y → x ≡ y
    is e = cc

    by : (known : Option Kind) → kind_in (get_or w 232 0) (get_or w 233 0) (get_or w 234 0) ≡ known → (fits : Bool) → header_found w known fits ≡ some h → Representable h
    by None k fits e = absurd (let z : ◌≡◌ {A = ℕ} 0 1 = cc in omega arith)
    by (Some kind) k false e = absurd (let z : ◌≡◌ {A = ℕ} 0 1 = cc in omega arith)
    by (Some kind) k true e = subst Representable (is e) (held w f long kind (eqb (get_or w 230 0) 1) (kind_fits_lem _ _ _ (f 233) (f 234) kind k))

-- "what was read, written again, gives the frame's bytes before its payload": the words that `eos_read_header` stored, lent to `eos_write_header`.
pub export_read_written : (s out w : List ℕ) (c : Content) (t : List ℕ) → AllBytes s → read_frame s ≡ done c t → length s ≤ length out + length t →
    (write_words_answer (header_in (read_words (read_frame s) w)) (length out) ≡ record { number = 0; length = length s - length t })
    × (write_words_buffer (header_in (read_words (read_frame s) w)) out ≡ take (length s - length t) s ++ drop (length s - length t) out)
export_read_written s out w c t b e room =
    let held = header_back (header_of c) (full (header_of c) (read_representable s c t b e)) in
    simp (e, held) (read_written s out c t b e room)

-- "reading back what was written gives the header with these zeroed": what `eos_write_header` wrote is read by `eos_read_header` into the words of that header.
pub export_written_read : (w out v : List ℕ) (h : Header) → AllWords w → length w ≡ 238 → header_in w ≡ some h → (write_words_answer (header_in w) (length out)).number ≡ 0 →
    (read_number (read_frame (take (write_words_answer (header_in w) (length out)).length (write_words_buffer (header_in w) out))) ≡ 0)
    × (read_words (read_frame (take (write_words_answer (header_in w) (length out)).length (write_words_buffer (header_in w) out))) v ≡ header_words (zeroed h))
    × (payload_of (read_frame (take (write_words_answer (header_in w) (length out)).length (write_words_buffer (header_in w) out))) ≡ [])
unfolding write_answer
export_written_read w out v h f long is ok =
    let r = words_representable w f long h is in
    let number : write_number h (length out) ≡ 0 = (rw is at ok) in
    let read = written_read h out r number in
    simp (is, read, header_of_content_of h (length out) r number) (refl, refl, refl)

-- The words of such a header hold it.
pub zeroed_in : (w out : List ℕ) (h : Header) → AllWords w → length w ≡ 238 → header_in w ≡ some h → (write_words_answer (header_in w) (length out)).number ≡ 0 →
    header_in (header_words (zeroed h)) ≡ some (zeroed h)
unfolding write_answer
zeroed_in w out h f long is ok =
    let r = words_representable w f long h is in
    header_back (zeroed h) (full (zeroed h) (zeroed_representable h (length out) r (rw is at ok)))

-- "Unused places .. the writer ignores them": from the words of the header with them zeroed the same is written.
pub export_zeroed_written : (w out : List ℕ) (h : Header) → AllWords w → length w ≡ 238 → header_in w ≡ some h → (write_words_answer (header_in w) (length out)).number ≡ 0 →
    (write_words_answer (header_in (header_words (zeroed h))) (length out) ≡ write_words_answer (header_in w) (length out))
    × (write_words_buffer (header_in (header_words (zeroed h))) out ≡ write_words_buffer (header_in w) out)
unfolding write_answer
export_zeroed_written w out h f long is ok =
    let r = words_representable w f long h is in
    let number : write_number h (length out) ≡ 0 = (rw is at ok) in
    rw (is, zeroed_in w out h f long is ok) (zeroed_written h out r number)

-- "everything behind this is the inline payload, handed back as a part of the lent frame": where `eos_payload` says that it lies.
pub payload_there : (s : List ℕ) → AllBytes s → take (part_of s (payload_of (read_frame s))).length (drop (part_of s (payload_of (read_frame s))).offset s) ≡ payload_of (read_frame s)
unfolding part_of
payload_there s b = by (read_frame s) refl
  where
    by : (p : Parsed Content) → read_frame s ≡ p → take (part_of s (payload_of p)).length (drop (part_of s (payload_of p)).offset s) ≡ payload_of p
    by (refused n) e = refl
    by (done c t) e = subst (λ (f : List ℕ). take (part_of f t).length (drop (part_of f t).offset f) ≡ t) (frame_is s c t b e) (part_there (header_bytes c) t)
