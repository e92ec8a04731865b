-- What was read, written again, gives the frame's bytes before its payload; what was written, read back, gives the header with its unused places zeroed.
-- Assumes nothing.
use mathlib.Core.Path.{◌≡◌, refl, sym, ap, subst, ◌∙◌}
use mathlib.Core.List.{List, [], ◌++◌, append-nil}
use Prim.Native.Nat.{ℕ, ◌+◌, ◌-◌, ◌≤◌}
use native.Mathlib.Omega.{arith}
use lib.ListN.{length, take, drop, length-append}
use lib.Seq.{take-append_seam}
use Rattle.chunk_lists.specs.Parsed.{done}
use Rattle.header.specs.Content.{Content, header_of, content_of}
use Rattle.reader.specs.Frame.{read_frame, read_answer, payload_of}
use Rattle.header.specs.Bytes.{header_bytes}
use Rattle.writer.specs.Write.{write_number, write_answer, write_buffer}
use Rattle.wire.specs.Fits.{AllBytes}
use Rattle.header.specs.Fits.{Representable, zeroed}
use Rattle.header.specs.declared.Kind.{Kind}
use Rattle.header.specs.declared.Kind.TheVariants.{Msg, Nomsg, Error}
use Rattle.header.specs.declared.Header.{Header}
use Rattle.header.proofs.Allowed.{Behind}
use Rattle.reader.proofs.ReadBack.{header_back}
use Rattle.reader.proofs.FrameRead.{frame_done}
use Rattle.header.proofs.Contents.{content_of_header_of, zeroed_same}
use Rattle.header.proofs.Representable.{allowed_representable}
use Rattle.writer.proofs.Passed.{write_passed, passed_write, passed_within, content_allowed, allowed_passed}

-- A frame is its header bytes and then its payload.
pub frame_is : (s : List ℕ) (c : Content) (t : List ℕ) → AllBytes s → read_frame s ≡ done c t → header_bytes c ++ t ≡ s
frame_is s c t b e = (frame_done s c t b e).bytes

-- The struct of what a header holds, where that can be written, is the header with its unused places zeroed.
pub header_of_content_of : (h : Header) (room : ℕ) → Representable h → write_number h room ≡ 0 → header_of (content_of h) ≡ zeroed h
header_of_content_of h room r e = zeroed_same h (passed_within h room r (write_passed h room e))

-- An empty payload is allowed behind every kind of header.
none_behind : (kind : Kind) → Behind kind []
none_behind Msg = tt
none_behind Nomsg = refl
none_behind (Error e) = refl

-- The bytes that were written are read as what the header holds.
pub written_read : (h : Header) (out : List ℕ) → Representable h → write_number h (length out) ≡ 0 →
    read_frame (take (write_answer h (length out)).length (write_buffer h out)) ≡ done (content_of h) []
unfolding write_answer write_buffer
written_read h out r e =
    let back = header_back (content_of h) [] (content_allowed h (length out) r (write_passed h (length out) e)) (none_behind (content_of h).kind) in
    simp (e, take-append_seam) (simp append-nil at back)

-- "reading back what was written gives the header with these zeroed", and no payload
pub written_read_answer : (h : Header) (out : List ℕ) → Representable h → write_number h (length out) ≡ 0 →
    (read_answer (read_frame (take (write_answer h (length out)).length (write_buffer h out))) ≡ record { header = zeroed h; number = 0 })
    × (payload_of (read_frame (take (write_answer h (length out)).length (write_buffer h out))) ≡ [])
written_read_answer h out r e = simp (written_read h out r e, header_of_content_of h (length out) r e) (refl, refl)

-- "Unused places .. the writer ignores them": with them zeroed the same is written.
pub zeroed_written : (h : Header) (out : List ℕ) → Representable h → write_number h (length out) ≡ 0 →
    (write_answer (zeroed h) (length out) ≡ write_answer h (length out)) × (write_buffer (zeroed h) out ≡ write_buffer h out)
unfolding write_answer write_buffer
zeroed_written h out r e =
    let passed = write_passed h (length out) e in
    let same : zeroed h ≡ header_of (content_of h) = sym (header_of_content_of h (length out) r e) in
    let content : content_of (zeroed h) ≡ content_of h = ap content_of same ∙ content_of_header_of (content_of h) in
    let number : write_number (zeroed h) (length out) ≡ 0 = rw same (passed_write (header_of (content_of h)) (length out) (allowed_passed (content_of h) (length out) (content_allowed h (length out) r passed) passed.fits)) in
    simp (number, e, content) (refl, refl)

-- "what was read, written again, gives the frame's bytes before its payload"
pub read_written : (s out : List ℕ) (c : Content) (t : List ℕ) → AllBytes s → read_frame s ≡ done c t → length s ≤ length out + length t →
    (write_answer (header_of c) (length out) ≡ record { number = 0; length = length s - length t })
    × (write_buffer (header_of c) out ≡ take (length s - length t) s ++ drop (length s - length t) out)
unfolding write_answer write_buffer
read_written s out c t b e room =
    let f = frame_done s c t b e in
    let sum : length (header_bytes c) + length t ≡ length s = sym (length-append (header_bytes c) t) ∙ ap length f.bytes in
    let long : length s - length t ≡ length (header_bytes c) = omega arith in
    let front : take (length (header_bytes c)) s ≡ header_bytes c =
    subst (λ (l : List ℕ). take (length (header_bytes c)) l ≡ header_bytes c) f.bytes (take-append_seam (header_bytes c) t) in
    let written : write_number (header_of c) (length out) ≡ 0 = passed_write (header_of c) (length out) (allowed_passed c (length out) f.allowed (omega arith)) in
    simp (written, content_of_header_of c, long, front) (refl, refl)

-- A header that was read can be held, and so it can be written and read back.
pub read_representable : (s : List ℕ) (c : Content) (t : List ℕ) → AllBytes s → read_frame s ≡ done c t → Representable (header_of c)
read_representable s c t b e = allowed_representable c (frame_done s c t b e).allowed

-- So can a header that was written, with its unused places zeroed.
pub zeroed_representable : (h : Header) (room : ℕ) → Representable h → write_number h room ≡ 0 → Representable (zeroed h)
zeroed_representable h room r e =
    subst Representable (header_of_content_of h room r e) (allowed_representable (content_of h) (content_allowed h room r (write_passed h room e)))
