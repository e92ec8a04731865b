-- Two headers in words, compared.
-- Assumes nothing.
use mathlib.Core.Path.{◌≡◌, refl, ◌∙◌}
use mathlib.Core.Bool.{Bool, true, false, ◌||◌, and-false, or-true}
use mathlib.Core.List.{List, [], ◌∷◌, ◌++◌, map}
use Prim.Native.Nat.{ℕ, ◌≤◌}
use native.Mathlib.Omega.{arith}
use lib.ListN.{length, get_or, set, take, replicate, length-map}
use lib.Seq.{length-take-le}
use borrow.Author.Tests.{eq-eqb, ne_eqb}
use Rattle.wire.specs.Wire.{stored}
use Rattle.chunk_lists.specs.Words.{reads_in}
use Rattle.chunk_lists.proofs.Words.{length_reads}
use Rattle.header.specs.Content.{padded, content_of}
use Rattle.header.specs.Words.{read_count_at, write_chunks_at, counts_in, header_as}
use Rattle.header.specs.declared.Header.{Header}
use Rattle.header.specs.declared.Kind.{Kind}
use Rattle.header.specs.Internal.Counts.{limits_kept}
use Rattle.header.specs.declared.Lent.{Lent}
use Rattle.header.specs.Limits.{keeps_limits}
use Rattle.header.specs.Internal.Lent.{header_lent}
use Rattle.std.specs.Prelude.{Ok, Err, Some, None}
use Rattle.header.proofs.Limits.{few_in_words, counts_long}
use Rattle.header.proofs.Contents.{length_runs}
use Rattle.returned.specs.Returned.{any, differ, pairs, is_error, mismatch, chunk_length, reply_chunk_length, returned_number, returned_answer}
use Rattle.returned.specs.Internal.Parts.{chunk_wrong, reply_wrong, reply_in, writes_in, reply_check, writes_check, heads_wrong, headers_outcome}
use Rattle.returned.proofs.Parts.{mismatch_parts}
use Rattle.returned.proofs.Writes.{answer_landed, answer_mismatch}

-- The numbers that are stored: those of the write chunks in the first places, then the reply chunk's.
stored_numbers : (l : List ℕ) (n : ℕ) → length l ≤ 4 → set (stored (replicate 5 0) 0 l) 4 n ≡ padded 4 0 l ++ (n ∷ [])
unfolding stored
stored_numbers [] n h = refl
stored_numbers (a ∷ []) n h = refl
stored_numbers (a ∷ b ∷ []) n h = refl
stored_numbers (a ∷ b ∷ c ∷ []) n h = refl
stored_numbers (a ∷ b ∷ c ∷ d ∷ []) n h = refl
stored_numbers (a ∷ b ∷ c ∷ d ∷ e ∷ l) n h = absurd (omega arith)

-- As many write chunks as are counted.
chunk_count : (w : List ℕ) → length w ≡ 238 → get_or w write_chunks_at 0 ≤ 4 → length (writes_in (get_or w write_chunks_at 0) w) ≡ get_or w write_chunks_at 0
chunk_count w long few =
    let four = counts_long w long in
    length_runs (take (get_or w write_chunks_at 0) (counts_in w)) _ ∙ length-take-le (get_or w write_chunks_at 0) (counts_in w) (omega arith)

-- Six conditions, the first three apart.
grouped : (a b c d e f : Bool) → (a || (b || (c || (d || (e || f))))) ≡ ((a || (b || c)) || (d || (e || f)))
grouped true b c d e f = refl
grouped false true c d e f = refl
grouped false false true d e f = refl
grouped false false false d e f = refl

-- A count over a limit.
module _ (sent reply : List ℕ) (sent_kind reply_kind : Kind) (sent_present reply_present : Bool) where
  pub sent_over : limits_kept sent sent_present ≡ false → returned_number (header_as sent sent_kind sent_present) (header_as reply reply_kind reply_present) ≡ 7
  unfolding returned_number
  sent_over h = rw h

  pub reply_over : limits_kept reply reply_present ≡ false → returned_number (header_as sent sent_kind sent_present) (header_as reply reply_kind reply_present) ≡ 7
  unfolding returned_number
  reply_over h = rw (h, and-false (limits_kept sent sent_present))

module _ (sent reply : Lent) where
  -- The headers that are lent.
  abbrev pub call : Header
  call = header_lent sent

  abbrev pub answer : Header
  answer = header_lent reply

  -- The conditions of 26 that the chunks decide.
  abbrev pub writes_wrong : Bool
  writes_wrong = any chunk_wrong (pairs (writes_in (get_or sent.words.now write_chunks_at 0) sent.words.now) (writes_in (get_or reply.words.now write_chunks_at 0) reply.words.now))

  abbrev pub replied_wrong : Bool
  replied_wrong = reply_wrong reply.kind (reply_in sent) (reply_in reply)

  module _ (sent-in : keeps_limits call ≡ true) (reply-in : keeps_limits answer ≡ true) where
    wrong_in : mismatch (content_of call) (content_of answer) ≡ (heads_wrong call answer || (differ (length (content_of call).writes) (length (content_of answer).writes) || (writes_wrong || replied_wrong)))
    unfolding content_of
    wrong_in =
        let few = (few_in_words reply.words.now reply.present reply-in).reads in
        let full = length_reads reply.words.now in
        let reads : length (take (get_or reply.words.now read_count_at 0) (reads_in reply.words.now)) ≡ get_or reply.words.now read_count_at 0 = length-take-le (get_or reply.words.now read_count_at 0) (reads_in reply.words.now) (omega arith) in
        mismatch_parts (content_of call) (content_of answer) ∙ rw reads (grouped (differ call.xid answer.xid) (differ answer.reads.count 0) (is_error sent.kind || is_error reply.kind) _ writes_wrong replied_wrong)

    wrong : mismatch (content_of call) (content_of answer) ≡ true → headers_outcome call answer ≡ Err 26
    unfolding returned_number
    wrong h = rw (sent-in, reply-in, h)

    -- They differ in what their chunks do not say.
    pub heads_mismatch : heads_wrong call answer ≡ true → headers_outcome call answer ≡ Err 26
    heads_mismatch h = wrong (wrong_in ∙ rw h)

    module _ (sent-long : length sent.words.now ≡ 238) (reply-long : length reply.words.now ≡ 238) (heads : heads_wrong call answer ≡ false) where
      chunks_in : mismatch (content_of call) (content_of answer) ≡ (differ (get_or sent.words.now write_chunks_at 0) (get_or reply.words.now write_chunks_at 0) || (writes_wrong || replied_wrong))
      unfolding content_of
      chunks_in =
          let s = (few_in_words sent.words.now sent.present sent-in).chunks in
          let r = (few_in_words reply.words.now reply.present reply-in).chunks in
          wrong_in ∙ rw (heads, chunk_count sent.words.now sent-long s, chunk_count reply.words.now reply-long r)

      -- They have not as many write chunks.
      pub counts_mismatch : (get_or sent.words.now write_chunks_at 0 ≡ get_or reply.words.now write_chunks_at 0 → ⊥) → headers_outcome call answer ≡ Err 26
      counts_mismatch h = wrong (chunks_in ∙ rw (ne_eqb _ _ h))

      module _ (same : get_or sent.words.now write_chunks_at 0 ≡ get_or reply.words.now write_chunks_at 0) where
        -- A write chunk is at fault, or the reply chunk.
        pub writes_mismatch : writes_check (get_or sent.words.now write_chunks_at 0) sent.words.now reply.words.now ≡ None → headers_outcome call answer ≡ Err 26
        writes_mismatch e =
            let here : writes_wrong ≡ true = rw (← same) (answer_mismatch _ _ e) in
            wrong (chunks_in ∙ rw (eq-eqb _ _ same, here))

        pub reply_mismatch : reply_check reply.kind (reply_in sent) (reply_in reply) ≡ None → headers_outcome call answer ≡ Err 26
        reply_mismatch e = wrong (chunks_in ∙ rw (eq-eqb _ _ same, answer_mismatch replied_wrong _ e, or-true writes_wrong))

        -- Neither is: what landed is answered.
        pub lands : (found : List ℕ) (bytes : ℕ) → writes_check (get_or sent.words.now write_chunks_at 0) sent.words.now reply.words.now ≡ Some found → reply_check reply.kind (reply_in sent) (reply_in reply) ≡ Some bytes → headers_outcome call answer ≡ Ok (set found 4 bytes)
        unfolding returned_number returned_answer content_of
        lands found bytes e f =
            let few = (few_in_words reply.words.now reply.present reply-in).chunks in
            let size = chunk_count reply.words.now reply-long few in
            let writes = answer_landed _ _ _ e in
            let replies = answer_landed replied_wrong _ _ f in
            let right : writes_wrong ≡ false = rw (← same) writes.0 in
            let made : stored (replicate 5 0) 0 (map chunk_length (writes_in (get_or reply.words.now write_chunks_at 0) reply.words.now)) ≡ found = rw (← same) writes.1 in
            let zero : returned_number call answer ≡ 0 = rw (sent-in, reply-in, chunks_in, eq-eqb _ _ same, right, replies.0) in
            rw (zero, ← made, ← replies.1, stored_numbers (map chunk_length (writes_in (get_or reply.words.now write_chunks_at 0) reply.words.now)) (reply_chunk_length (reply_in reply)) (rw (length-map, size) few))
