-- Laws about the bytes of a header, how many they are, and about writing them one behind the other.
-- Assumes nothing.
use mathlib.Core.Path.{◌≡◌, refl, ap, ◌∙◌}
use mathlib.Core.Bool.{Bool, true, cond}
use mathlib.Core.List.{List, ◌++◌}
use mathlib.Core.Option.{Option, none, some}
use Prim.Native.Nat.{ℕ, ◌+◌, ◌*◌, ◌≤◌}
use native.Mathlib.Omega.{arith}
use lib.ListN.{length, take, get_or, length-append}
use lib.Seq.{length-take-le}
use lib.Dec.{leb}
use borrow.Author.Tests.{leb-true, ne_eqb}
use Rattle.wire.specs.Wire.{stored, joined}
use Rattle.wire.proofs.Fields.{then, stored_apart}
use Rattle.answers.proofs.Checks.{check_passed}
use Rattle.chunk_lists.specs.Words.{reads_in, segments_in}
use Rattle.chunk_lists.proofs.Words.{length_reads, length_segments}
use Rattle.header.specs.Content.{content_of, runs}
use Rattle.header.specs.Words.{writes_at, reply_at, read_count_at, write_chunks_at, reply_count_at, xid_at, credit_at, header_as, counts_in}
use Rattle.header.specs.declared.Header.{Header}
use Rattle.header.specs.declared.Kind.{Kind}
use Rattle.header.specs.Bytes.{chunk_bytes, read_list_bytes, write_list_bytes, rest_bytes, fixed_bytes, header_bytes}
use Rattle.writer.specs.Write.{write_answer, write_buffer, write_words_answer, write_words_buffer, bare_if_error, write_number}
use Rattle.header.specs.Limits.{total, within_limits}
use Rattle.header.specs.Internal.Counts.{limits_kept}
use Rattle.writer.specs.Internal.Parts.{parts_bytes_in}
use Rattle.header.proofs.Limits.{FewIn, few_in_words, counts_long}
use Rattle.header.proofs.Bytes.{reads_length, chunks_length, writes_length, replies_length, fixed_length}
use Rattle.writer.proofs.Entries.{entries_zero}

-- How many bytes the three parts take within their limits.
abbrev pub parts_size : List ℕ → Bool → ℕ
parts_size w present =
    (get_or w read_count_at 0 * 24 + 4) + ((get_or w write_chunks_at 0 * 8 + total (take (get_or w write_chunks_at 0) (counts_in w)) * 16 + 4) + cond present (8 + get_or w reply_count_at 0 * 16) 4)

-- What holds of three parts within their limits: they have few entries, and so many bytes.
pub record Passed (w : List ℕ) (present : Bool) : Type 0 where
  pub few : FewIn w present
  pub size : length (parts_bytes_in w present) ≡ parts_size w present
  pub reads_bytes : length (read_list_bytes (take (get_or w read_count_at 0) (reads_in w))) ≡ get_or w read_count_at 0 * 24 + 4
  pub writes_bytes : length (write_list_bytes (runs (take (get_or w write_chunks_at 0) (counts_in w)) (segments_in writes_at w))) ≡ get_or w write_chunks_at 0 * 8 + total (take (get_or w write_chunks_at 0) (counts_in w)) * 16 + 4

-- Three parts within their limits.
pub passed : (w : List ℕ) (present : Bool) → length w ≡ 238 → limits_kept w present ≡ true → Passed w present
passed w present long h =
    let few = few_in_words w present h in
    let reads_bytes = reads_length (get_or w read_count_at 0) (reads_in w) (rw (length_reads w) few.reads) in
    let writes_bytes = writes_length (get_or w write_chunks_at 0) (counts_in w) (segments_in writes_at w) (rw (counts_long w long) few.chunks) (rw (length_segments writes_at w) few.segments) in
    let reply_bytes_lem = replies_length present (get_or w reply_count_at 0) (segments_in reply_at w) (rw (length_segments reply_at w) few.replies) in
    record {
      few = few;
      size = simp (length-append, reads_bytes, writes_bytes, reply_bytes_lem);
      reads_bytes = reads_bytes;
      writes_bytes = writes_bytes;
    }

-- How many bytes the first chunks take.
pub chunks_size : (w : List ℕ) (n : ℕ) → length w ≡ 238 → n ≤ 4 → total (take n (counts_in w)) ≤ 16 → length (joined chunk_bytes (runs (take n (counts_in w)) (segments_in writes_at w))) ≡ n * 8 + total (take n (counts_in w)) * 16
chunks_size w n long few all =
    let four = counts_long w long in
    let full = length_segments writes_at w in
    rw (chunks_length (take n (counts_in w)) (segments_in writes_at w) (omega arith), length-take-le n (counts_in w) (omega arith))

-- The second and the fourth of four words were stored before the first and the third: they stand one behind the other.
pub interleaved : (l m n p q u v x y : List ℕ) → m ≡ stored l 4 v → n ≡ stored m 12 y → p ≡ stored n 0 u → q ≡ stored p 8 x → length u ≡ 4 → length v ≡ 4 → length x ≡ 4 → q ≡ stored l 0 (u ++ (v ++ (x ++ y)))
interleaved l m n p q u v x y em en ep eq lu lv lx =
    let first : stored n 0 u ≡ stored (stored (stored l 0 u) 4 v) 12 y = rw (en, em, ← (stored_apart (stored l 4 v) 0 12 u y (omega arith)), ← (stored_apart l 0 4 u v (omega arith))) in
    let third : q ≡ stored (stored (stored (stored l 0 u) 4 v) 8 x) 12 y = eq ∙ rw (ep, first, ← (stored_apart (stored (stored l 0 u) 4 v) 8 12 x y (omega arith))) in
    then l (stored l 0 u) q 0 4 u _ refl (then (stored l 0 u) (stored (stored l 0 u) 4 v) q 4 8 v _ refl (then _ (stored (stored (stored l 0 u) 4 v) 8 x) q 8 12 x y refl third (omega arith)) (omega arith)) (omega arith)

-- A header in words, of which `rest` comes behind its fixed words.
module _ (w : List ℕ) (kind : Kind) (present : Bool) (rest : List ℕ) (e : rest_bytes kind (parts_bytes_in w present) ≡ rest) where
  -- Its bytes.
  header_of_lem : header_bytes (content_of (header_as w kind present)) ≡ fixed_bytes kind (get_or w xid_at 0) (get_or w credit_at 0) ++ rest
  unfolding header_bytes content_of
  header_of_lem = ap (λ t. fixed_bytes kind (get_or w xid_at 0) (get_or w credit_at 0) ++ t) e

  -- How many they are.
  pub header_size : length (header_bytes (content_of (header_as w kind present))) ≡ 16 + length rest
  header_size = rw (header_of_lem, length-append, fixed_length)

  -- It is written: its fixed words, and behind them the rest.
  pub header_written : (before out after : List ℕ) → out ≡ stored before 0 (fixed_bytes kind (get_or w xid_at 0) (get_or w credit_at 0)) → after ≡ stored out 16 rest → after ≡ stored before 0 (header_bytes (content_of (header_as w kind present)))
  header_written before out after fixed p = rw header_of_lem (then before out after 0 16 _ rest fixed p (rw fixed_length))

-- With the number 0 a header is within its limits, and there is room for it.
pub accepted : (h : Header) (room : ℕ) → write_number h room ≡ 0 → (within_limits h.reads.count h.writes.chunks h.writes.counts h.reply.present h.reply.count ≡ true) × (length (header_bytes (content_of h)) ≤ room)
unfolding write_number
accepted h room e =
    let n = length (header_bytes (content_of h)) in
    let a = (check_passed (bare_if_error h.kind h.reads.count h.writes.chunks h.reply.present) 12 _ (omega arith) e).1 in
    let b = check_passed (within_limits h.reads.count h.writes.chunks h.writes.counts h.reply.present h.reply.count) 7 _ (omega arith) a in
    let d = entries_zero (content_of h).reads _ b.1 in
    (b.0, leb-true n room (check_passed (leb n room) 16 0 (omega arith) d).0)

-- A refused writing leaves the buffer.
pub lent_refused : (h : Option Header) (out : List ℕ) → ((write_words_answer h (length out)).number ≡ 0 → ⊥) → write_words_buffer h out ≡ out
unfolding write_answer write_buffer
lent_refused none out n = refl
lent_refused (some h) out n = rw (ne_eqb (write_number h (length out)) 0 n)
