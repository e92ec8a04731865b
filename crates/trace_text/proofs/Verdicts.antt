-- The numbers that reading a frame can give, and what a frame gets from its check.
-- Assumes nothing.
use mathlib.Core.Path.{◌≡◌, refl, sym, ap, ◌∙◌}
use mathlib.Core.Bool.{Bool, true, false, cond}
use mathlib.Core.List.{List, []}
use mathlib.Core.Option.{none}
use Rattle.std.specs.Prelude.{Result, Ok, Err}
use Prim.Native.Nat.{ℕ, zero, suc, ◌-◌, ◌≤◌}
use native.Mathlib.Omega.{arith}
use lib.ListN.{length, drop, length-drop}
use lib.Dec.{leb, eqb}
use Rattle.wire.specs.Wire.{word_at, word_of}
use Rattle.chunk_lists.specs.Parsed.{Parsed, refused, done, and_then}
use Rattle.chunk_lists.specs.Lists.{after_word, after_marker, optional, marker_of, read_list, counted, write_list, reply_chunk}
use Rattle.chunk_lists.specs.declared.Marker.{Marker}
use Rattle.chunk_lists.specs.declared.Marker.TheVariants as marker
use Rattle.chunk_lists.proofs.ListSteps.{marker_number, count_number}
use Rattle.chunk_lists.proofs.ListBytes.{read_number_lem}
use Rattle.header.specs.Content.{Content}
use Rattle.header.specs.declared.Kind.{Kind}
use Rattle.header.specs.declared.Kind.TheVariants.{Msg, Nomsg}
use Rattle.header.specs.declared.ErrorKind.TheVariants.{Version, Chunk}
use Rattle.reader.specs.Frame.{three_parts, error_content, error_body, nothing_behind, by_procedure, read_frame, read_number, payload_of}
use Rattle.reader.specs.Internal.Shape.{frame_check}
use Rattle.reader.specs.declared.Shape.{Shape}
use Rattle.reader.proofs.FrameParts.{found, unfound, payload_part, payload_short}
use Rattle.error_reply.specs.Reply.{reply_kind_of, reply_kind_for}
use Rattle.error_reply.specs.declared.ReplyKind.TheVariants.{None}
use Rattle.trace_text.specs.Verdict.{answer, payload, reply_to, verdict_of}

-- Reading gives no number above 11.
abbrev Low : {A : Type 0} → Parsed A → Type 0
Low (refused n) = n ≤ 11
Low (done a t) = Unit {0}

-- The readers of the lists give none above 9.
low_refused : {A : Type 0} (p : Parsed A) → ((n : ℕ) → p ≡ refused n → n ≤ 9) → Low p
low_refused (refused n) h = let few = h n refl in omega arith
low_refused (done a t) h = tt

low_cond : {A : Type 0} (b : Bool) (p q : Parsed A) → Low p → Low q → Low (cond b p q)
low_cond true p q h g = h
low_cond false p q h g = g

low_then : {A B : Type 0} (p : Parsed A) (next : A → List ℕ → Parsed B) → Low p → ((a : A) (t : List ℕ) → Low (next a t)) → Low (and_then p next)
low_then (refused n) next h g = h
low_then (done a t) next h g = g a t

low_word : {A : Type 0} (s : List ℕ) (next : ℕ → Parsed A) → ((x : ℕ) → Low (next x)) → Low (after_word (word_of s) next)
unfolding word_of
low_word s next h = by_test (leb 4 (length s))
  where
    by_test : (b : Bool) → Low (after_word (cond {A = Result ℕ ℕ} b (Ok (word_at s 0)) (Err 5)) next)
    by_test true = h (word_at s 0)
    by_test false = omega arith

low_optional : {A : Type 0} (absent : A) (present : List ℕ → Parsed A) (s : List ℕ) → ((t : List ℕ) → Low (present t)) → Low (optional absent present s)
low_optional absent present s h = by_marker (marker_of s) refl
  where
    by_marker : (m : Result Marker ℕ) → marker_of s ≡ m → Low (after_marker m (drop 4 s) absent present)
    by_marker (Err n) e = let few = marker_number s n e in omega arith
    by_marker (Ok marker.End) e = tt
    by_marker (Ok marker.Entry) e = h (drop 4 s)

low_counted : (left : ℕ) (s : List ℕ) → Low (counted left s)
low_counted left s = low_refused (counted left s) (count_number left s)

low_writes : (room left : ℕ) (s : List ℕ) → Low (write_list room left s)
unfolding write_list
low_writes zero left s = low_optional [] (λ t. refused 7) s (λ t. omega arith)
low_writes (suc room) left s =
    low_optional [] _ s (λ t. low_then (counted left t) _ (low_counted left t) (λ c u. low_then (write_list room (left - length c) u) _ (low_writes room (left - length c) u) (λ xs v. tt)))

low_parts : (kind : Kind) (xid credit : ℕ) (s : List ℕ) → Low (three_parts kind xid credit s)
unfolding three_parts reply_chunk
low_parts kind xid credit s =
    low_then (read_list 16 s) _ (low_refused (read_list 16 s) (read_number_lem 16 s))
    (λ reads t. low_then (write_list 4 16 t) _ (low_writes 4 16 t)
    (λ writes u. low_then (reply_chunk u) _ (low_optional none _ u (λ v. low_then (counted 16 v) _ (low_counted 16 v) (λ c w. tt))) (λ reply v. tt)))

low_error : (xid credit : ℕ) (s : List ℕ) → Low (error_body xid credit s)
unfolding error_body
low_error xid credit s =
    low_word s _ (λ code. low_cond (eqb code 1) _ _
    (low_word (drop 4 s) _ (λ low. low_word (drop 8 s) (λ high. done (error_content (Version low high) xid credit) (drop 12 s)) (λ high. tt)))
    (low_cond (eqb code 2) (done (error_content Chunk xid credit) (drop 4 s)) (refused 10) tt (omega arith)))

low_behind : (p : Parsed Content) → Low p → Low (nothing_behind p)
low_behind p h = low_then p _ h (λ c t. low_cond (eqb (length t) 0) (done c t) (refused 11) tt (omega arith))

low_frame : (s : List ℕ) → Low (read_frame s)
unfolding read_frame by_procedure
low_frame s =
    low_cond (leb 16 (length s)) _ (refused 1) (low_cond (eqb (word_at s 4) 1) _ (refused 2)
    (low_cond (eqb (word_at s 12) 0) _ _ (low_parts Msg (word_at s 0) (word_at s 8) (drop 16 s))
    (low_cond (eqb (word_at s 12) 1) _ _ (low_behind (three_parts Nomsg (word_at s 0) (word_at s 8) (drop 16 s)) (low_parts Nomsg (word_at s 0) (word_at s 8) (drop 16 s)))
    (low_cond (eqb (word_at s 12) 3) (refused 4) _ (omega arith)
    (low_cond (eqb (word_at s 12) 4) _ (refused 3) (low_behind (error_body (word_at s 0) (word_at s 8) (drop 16 s)) (low_error (word_at s 0) (word_at s 8) (drop 16 s))) (omega arith))))) (omega arith)) (omega arith)

-- No frame gets a number above 11.
pub answer_low : (s : List ℕ) → answer s ≤ 11
unfolding answer
answer_low s = go (read_frame s) (low_frame s)
  where
    go : (p : Parsed Content) → Low p → read_number p ≤ 11
    go (refused n) h = h
    go (done c t) h = omega arith

-- A payload is no longer than its frame, and a refused frame has none.
pub payload_most : (f : List ℕ) → payload f ≤ length f
unfolding payload
payload_most f = payload_short f

pub refused_none : (f : List ℕ) → (answer f ≡ 0 → ⊥) → payload f ≡ 0
unfolding answer payload
refused_none f = go (read_frame f)
  where
    go : (p : Parsed Content) → (read_number p ≡ 0 → ⊥) → length (payload_of p) ≡ 0
    go (refused n) h = refl
    go (done c t) h = absurd (h refl)

-- An accepted frame gets no reply.
none_for : (s : List ℕ) → reply_kind_for s 0 ≡ None
unfolding reply_kind_for reply_kind_of
none_for s = by_test (leb 16 (length s)) (eqb (word_at s 12) 4)
  where
    by_test : (a b : Bool) → cond a (cond b None (reply_kind_of 0)) None ≡ None
    by_test true true = refl
    by_test true false = refl
    by_test false b = refl

-- What a frame gets that was found to be right, and what one that was refused.
pub judged_found : (s : List ℕ) (shape : Shape) → frame_check (length s) (read_frame s) ≡ Ok shape →
    (shape.end ≤ length s) × (record { answer = 0; payload = length s - shape.end; reply = None } ≡ verdict_of s)
unfolding verdict_of answer payload reply_to
judged_found s shape e =
    let f = found s shape e in
    let part = payload_part s shape f in
    let size : length s - shape.end ≡ length f.behind = sym (length-drop shape.end s) ∙ ap length (part.1 ∙ ap payload_of f.read) in
    (part.0, rw (f.read, size, none_for s))

pub judged_refused : (s : List ℕ) (n : ℕ) → frame_check (length s) (read_frame s) ≡ Err n →
    (n ≤ 11) × (record { answer = n; payload = 0; reply = reply_kind_for s n } ≡ verdict_of s)
unfolding verdict_of answer payload reply_to
judged_refused s n e = let r = unfound s n e in (rw (ap read_number r) at (answer_low s), rw r)
