-- How many bytes the parts of a header take.
-- Assumes nothing.
use mathlib.Core.Path.{◌≡◌, refl, ap, ◌∙◌}
use mathlib.Core.Bool.{Bool, true, false, cond}
use mathlib.Core.List.{List, [], ◌∷◌, ◌++◌, map}
use Prim.Native.Nat.{ℕ, ◌+◌, ◌*◌, ◌≤◌, ◌<◌}
use native.Mathlib.Numerals.{add-one}
use native.Mathlib.Omega.{arith}
use lib.ListN.{length, take, drop, get_or, length-append}
use lib.Seq.{take-suc, drop-drop, length-take-le}
use Rattle.wire.specs.Wire.{joined, word_bytes, segment_bytes, read_segment_bytes}
use Rattle.wire.specs.declared.Segment.{Segment}
use Rattle.wire.specs.declared.ReadSegment.{ReadSegment}
use Rattle.wire.proofs.Joining.{joined_length}
use Rattle.header.specs.Content.{runs, reply_of}
use Rattle.header.specs.declared.Kind.{Kind}
use Rattle.header.specs.declared.Kind.TheVariants.{Msg, Nomsg, Error}
use Rattle.header.specs.declared.ErrorKind.{ErrorKind}
use Rattle.header.specs.Bytes.{entry_bytes, counted_bytes, chunk_bytes, read_list_bytes, write_list_bytes, reply_bytes, rest_bytes, error_bytes, fixed_bytes}
use Rattle.header.specs.Limits.{total}
use Rattle.header.proofs.Contents.{length_runs, lengths_runs}

-- One run more: it is taken behind those that were.
pub runs_snoc : {A : Type 0} (ns : List ℕ) (n : ℕ) (l : List A) → runs (ns ++ (n ∷ [])) l ≡ runs ns l ++ (take n (drop (total ns) l) ∷ [])
unfolding runs total
runs_snoc [] n l = refl
runs_snoc (m ∷ ns) n l = ap (λ t. take m l ∷ t) (runs_snoc ns n (drop m l) ∙ rw (drop-drop (total ns) m l))

-- The same of the first counts of a list.
pub runs_next : {A : Type 0} (ns : List ℕ) (k : ℕ) (l : List A) → k < length ns → runs (take (k + 1) ns) l ≡ runs (take k ns) l ++ (take (get_or ns k 0) (drop (total (take k ns)) l) ∷ [])
runs_next ns k l h = rw (add-one, take-suc ns k 0 h) (runs_snoc (take k ns) (get_or ns k 0) l)

-- How many bytes a segment takes.
pub segment_length : (x : Segment) → length (segment_bytes x) ≡ 16
unfolding segment_bytes word_bytes
segment_length x = refl

-- How many bytes an entry of the read list takes.
pub entry_length : (x : ReadSegment) → length (entry_bytes x) ≡ 24
unfolding entry_bytes read_segment_bytes segment_bytes word_bytes
entry_length x = refl

-- How many bytes a chunk takes.
pub chunk_length_lem : (c : List Segment) → length (chunk_bytes c) ≡ 8 + length c * 16
unfolding chunk_bytes counted_bytes word_bytes
chunk_length_lem c = rw (joined_length segment_bytes 16 segment_length c) (omega arith)

-- How many bytes a read list takes.
pub read_list_length : (l : List ReadSegment) → length (read_list_bytes l) ≡ length l * 24 + 4
unfolding read_list_bytes word_bytes
read_list_length l = rw (length-append, joined_length entry_bytes 24 entry_length l)

-- The same of the first entries of more.
pub reads_length : (n : ℕ) (l : List ReadSegment) → n ≤ length l → length (read_list_bytes (take n l)) ≡ n * 24 + 4
reads_length n l h = rw (read_list_length, length-take-le n l h)

-- How many bytes the chunks take.
joined_chunks : (cs : List (List Segment)) → length (joined chunk_bytes cs) ≡ length cs * 8 + total (map length cs) * 16
unfolding joined total
joined_chunks [] = omega arith
joined_chunks (c ∷ cs) = rw (length-append, chunk_length_lem, joined_chunks cs) (omega arith)

pub chunks_length : (ns : List ℕ) (l : List Segment) → total ns ≤ length l → length (joined chunk_bytes (runs ns l)) ≡ length ns * 8 + total ns * 16
chunks_length ns l h = rw (joined_chunks, length_runs, lengths_runs ns l h)

-- How many bytes a write list takes.
pub write_list_length : (cs : List (List Segment)) → length (write_list_bytes cs) ≡ length cs * 8 + total (map length cs) * 16 + 4
unfolding write_list_bytes word_bytes
write_list_length cs = rw (length-append, joined_chunks)

-- The same of the first chunks of more.
pub writes_length : (n : ℕ) (ns : List ℕ) (l : List Segment) → n ≤ length ns → total (take n ns) ≤ length l → length (write_list_bytes (runs (take n ns) l)) ≡ n * 8 + total (take n ns) * 16 + 4
writes_length n ns l few h = rw (write_list_length, length_runs, lengths_runs (take n ns) l h, length-take-le n ns few)

-- How many bytes a reply chunk, or its absence, takes.
pub replies_length : (present : Bool) (n : ℕ) (l : List Segment) → n ≤ length l → length (reply_bytes (reply_of present (take n l))) ≡ cond present (8 + n * 16) 4
unfolding reply_bytes word_bytes
replies_length false n l h = refl
replies_length true n l h = rw (chunk_length_lem, length-take-le n l h)

-- They are few.
pub reply_within : (present : Bool) (n : ℕ) → n ≤ 16 → cond present (8 + n * 16) 4 ≤ 264
reply_within false n h = omega arith
reply_within true n h = omega arith

-- A kind that is not an ERROR goes on with its parts.
pub not_error : (kind : Kind) → ((e : ErrorKind) → kind ≡ Error e → ⊥) → (parts : List ℕ) → rest_bytes kind parts ≡ parts
not_error Msg h parts = refl
not_error Nomsg h parts = refl
not_error (Error e) h parts = absurd (h e refl)

-- An ERROR goes on with its error.
pub an_error : (kind : Kind) (e : ErrorKind) → kind ≡ Error e → (parts : List ℕ) → rest_bytes kind parts ≡ error_bytes e
an_error kind e h parts = rw h

-- How many bytes the fixed words take.
pub fixed_length : (kind : Kind) (xid credit : ℕ) → length (fixed_bytes kind xid credit) ≡ 16
unfolding fixed_bytes word_bytes
fixed_length kind xid credit = refl
