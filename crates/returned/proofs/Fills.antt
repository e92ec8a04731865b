-- A reply is accepted exactly if it is that of a server which filled the chunks from the front, and then the numbers are its.
-- Assumes nothing.
use mathlib.Core.Path.{◌≡◌, refl, sym, ◌∙◌}
use mathlib.Core.Bool.{Bool, true, false, ◌&&◌, ◌||◌, cond}
use mathlib.Core.List.{List, [], ◌∷◌, ◌++◌, map}
use mathlib.Core.Option.{Option, none, some}
use Prim.Native.Nat.{ℕ, zero, suc, ◌-◌, ◌≤◌}
use native.Mathlib.Omega.{arith}
use lib.Dec.{eqb}
use lib.ListN.{length, get_or, take, replicate, length-map}
use lib.Seq.{take_at}
use borrow.Author.Tests.{eq-eqb, eqb-true, not-false}
use Rattle.answers.proofs.Checks.{neither}
use Rattle.wire.specs.declared.Segment.{Segment}
use Rattle.header.specs.Content.{Content, padded, content_of}
use Rattle.header.specs.Limits.{keeps_limits}
use Rattle.header.specs.declared.Kind.{Kind}
use Rattle.header.specs.declared.Kind.TheVariants.{Msg, Nomsg, Error}
use Rattle.header.specs.declared.Header.{Header}
use Rattle.returned.specs.Returned.{any, differ, pairs, has_reads, is_error, mismatch, chunk_length, reply_chunk_length, returned_number, returned_answer}
use Rattle.returned.specs.Filled.{filled, FilledChunks, FilledReplyChunk, Fills}
use Rattle.returned.specs.Internal.Parts.{chunk_wrong}
use Rattle.returned.proofs.Parts.{mismatch_parts}
use Rattle.returned.proofs.Accepted.{accepted, accepts, number_is}
use Rattle.returned.proofs.Filled.{chunks_filled, filled_chunks, reply_filled, filled_reply}

-- A list without elements.
no_length : {A : Type 0} (l : List A) → differ (length l) 0 ≡ false → l ≡ []
no_length [] h = refl
no_length (x ∷ l) h = absurd (let z = eqb-true (suc (length l)) 0 (not-false _ h) in omega arith)

-- Nothing is wrong with a reply exactly if it is that of such a server.
pub right_fills : (sent reply : Content) → mismatch sent reply ≡ false → Fills sent reply (map chunk_length reply.writes) (reply_chunk_length reply.reply)
right_fills sent reply e =
    let a = neither (differ sent.xid reply.xid) _ (sym (mismatch_parts sent reply) ∙ e) in
    let b = neither (has_reads reply) _ a.1 in
    let c = neither (is_error sent.kind || is_error reply.kind) _ b.1 in
    let kinds = neither (is_error sent.kind) _ c.0 in
    let d = neither (differ (length sent.writes) (length reply.writes)) _ c.1 in
    let f = neither (any chunk_wrong (pairs sent.writes reply.writes)) _ d.1 in
    record {
      xid = eqb-true sent.xid reply.xid (not-false _ a.0);
      reads = no_length reply.reads b.0;
      no_error = kinds.0;
      chunks = chunks_filled sent.writes reply.writes (eqb-true (length sent.writes) (length reply.writes) (not-false _ d.0)) f.0;
      replied = reply_filled reply.kind sent.reply reply.reply kinds.1 f.1;
    }

pub fills_right : (sent reply : Content) (ns : List ℕ) (n : ℕ) → Fills sent reply ns n → (mismatch sent reply ≡ false) × (map chunk_length reply.writes ≡ ns) × (reply_chunk_length reply.reply ≡ n)
fills_right sent reply ns n f =
    let writes = filled_chunks ns sent.writes reply.writes f.chunks in
    let replies = filled_reply reply.kind sent.reply reply.reply n f.replied in
    let none_read : length reply.reads ≡ 0 = rw f.reads in
    (rw (mismatch_parts sent reply, eq-eqb sent.xid reply.xid f.xid, eq-eqb (length reply.reads) 0 none_read, f.no_error, replies.0, eq-eqb (length sent.writes) (length reply.writes) writes.0, writes.1, replies.1), writes.2, replies.2)

-- The answer with the number 0.
answer_landed : (sent reply : Header) → returned_number sent reply ≡ 0 → returned_answer sent reply ≡ record { writes = padded 4 0 (map chunk_length (content_of reply).writes); reply = reply_chunk_length (content_of reply).reply; number = 0 }
unfolding returned_answer
answer_landed sent reply e = rw e

-- Every reply that is accepted is within the limits, as the header that was sent is, and is that of a server which put as many bytes into each chunk as is answered.
pub accepted_fills : (sent reply : Header) → (returned_answer sent reply).number ≡ 0 →
    (keeps_limits sent ≡ true) × (keeps_limits reply ≡ true) × Fills (content_of sent) (content_of reply) (take (length (content_of sent).writes) (returned_answer sent reply).writes) (returned_answer sent reply).reply
accepted_fills sent reply e =
    let zero_is = number_is sent reply ∙ e in
    let fine = accepted sent reply zero_is in
    let f = right_fills (content_of sent) (content_of reply) fine.right in
    let long : length (map chunk_length (content_of reply).writes) ≡ length (content_of sent).writes = rw length-map (sym (filled_chunks (map chunk_length (content_of reply).writes) (content_of sent).writes (content_of reply).writes f.chunks).0) in
    (fine.sent_within, fine.reply_within, rw (answer_landed sent reply zero_is, take_at (map chunk_length (content_of reply).writes) _ _ long) f)

-- And the reply of such a server is accepted, and its numbers are answered.
pub fills_accepted : (sent reply : Header) (ns : List ℕ) (n : ℕ) → keeps_limits sent ≡ true → keeps_limits reply ≡ true → Fills (content_of sent) (content_of reply) ns n → returned_answer sent reply ≡ record { writes = padded 4 0 ns; reply = n; number = 0 }
fills_accepted sent reply ns n s r f =
    let fine = fills_right (content_of sent) (content_of reply) ns n f in
    answer_landed sent reply (accepts sent reply (record { sent_within = s; reply_within = r; right = fine.0 })) ∙ (λ i. record { writes = padded 4 0 (fine.1 i); reply = fine.2 i; number = 0 })

-- Where a header is over a limit the number is 7.
pub over_limit : (sent reply : Header) → (keeps_limits sent && keeps_limits reply) ≡ false → returned_answer sent reply ≡ record { writes = replicate 4 0; reply = 0; number = 7 }
unfolding returned_answer returned_number
over_limit sent reply e = rw e

-- Else it is 26 where no such server can have sent the reply.
pub not_filled : (sent reply : Header) → keeps_limits sent ≡ true → keeps_limits reply ≡ true → ((ns : List ℕ) (n : ℕ) → Fills (content_of sent) (content_of reply) ns n → ⊥) →
    returned_answer sent reply ≡ record { writes = replicate 4 0; reply = 0; number = 26 }
unfolding returned_answer returned_number
not_filled sent reply s r none-fills = rw (s, r, wrong (mismatch (content_of sent) (content_of reply)) refl)
  where
    wrong : (holds : Bool) → mismatch (content_of sent) (content_of reply) ≡ holds → mismatch (content_of sent) (content_of reply) ≡ true
    wrong true e = e
    wrong false e = absurd (none-fills _ _ (right_fills (content_of sent) (content_of reply) e))

-- What holds of each write chunk, and of the reply chunk.
none_over : (ns : List ℕ) (sent back : List (List Segment)) → FilledChunks ns sent back → (k : ℕ) → get_or ns k 0 ≤ chunk_length (get_or sent k [])
none_over [] sent back f k = omega arith
none_over (n ∷ ns) [] back f k = absurd f
none_over (n ∷ ns) (c ∷ sent) [] f k = absurd f
none_over (n ∷ ns) (c ∷ sent) (d ∷ back) f zero = f.0
none_over (n ∷ ns) (c ∷ sent) (d ∷ back) f (suc k) = none_over ns sent back f.2 k

each_filled : (ns : List ℕ) (sent back : List (List Segment)) → FilledChunks ns sent back → (k : ℕ) → get_or back k [] ≡ filled (get_or ns k 0) (get_or sent k [])
unfolding filled
each_filled [] [] [] f k = refl
each_filled [] [] (d ∷ back) f k = absurd f
each_filled [] (c ∷ sent) back f k = absurd f
each_filled (n ∷ ns) [] back f k = absurd f
each_filled (n ∷ ns) (c ∷ sent) [] f k = absurd f
each_filled (n ∷ ns) (c ∷ sent) (d ∷ back) f zero = f.1
each_filled (n ∷ ns) (c ∷ sent) (d ∷ back) f (suc k) = each_filled ns sent back f.2 k

reply_over : (kind : Kind) (sent back : Option (List Segment)) (n : ℕ) → FilledReplyChunk kind sent back n → n ≤ reply_chunk_length sent
reply_over Msg none none n f = omega arith
reply_over Msg (some c) none n f = omega arith
reply_over Msg none (some d) n f = absurd f
reply_over Msg (some c) (some d) n f = let z = f.0 in omega arith
reply_over Nomsg none none n f = absurd f
reply_over Nomsg (some c) none n f = absurd f
reply_over Nomsg none (some d) n f = absurd f
reply_over Nomsg (some c) (some d) n f = f.0
reply_over (Error e) sent back n f = absurd f

reply_front : (kind : Kind) (c d : List Segment) (n : ℕ) → FilledReplyChunk kind (some c) (some d) n → d ≡ filled n c
reply_front Msg c d n f = rw f.0 f.1
reply_front Nomsg c d n f = f.1
reply_front (Error e) c d n f = absurd f

-- Zeros behind a list of numbers.
zeros_behind : (l : List ℕ) (m k : ℕ) → get_or (l ++ replicate m 0) k 0 ≡ get_or l k 0
zeros_behind [] zero k = refl
zeros_behind [] (suc m) zero = refl
zeros_behind [] (suc m) (suc k) = zeros_behind [] m k
zeros_behind (x ∷ l) m zero = refl
zeros_behind (x ∷ l) m (suc k) = zeros_behind l m k

-- No chunk has more bytes landed than were sent.
module _ (sent reply : Header) where
  over : (holds : Bool) → eqb (returned_number sent reply) 0 ≡ holds → ((k : ℕ) → get_or (cond holds (padded 4 0 (map chunk_length (content_of reply).writes)) (replicate 4 0)) k 0 ≤ chunk_length (get_or (content_of sent).writes k [])) × (cond holds (reply_chunk_length (content_of reply).reply) 0 ≤ reply_chunk_length (content_of sent).reply)
  over true e =
      let f = right_fills (content_of sent) (content_of reply) (accepted sent reply (eqb-true (returned_number sent reply) 0 e)).right in
      ((λ k. rw (zeros_behind (map chunk_length (content_of reply).writes) (4 - length (map chunk_length (content_of reply).writes)) k) (none_over (map chunk_length (content_of reply).writes) (content_of sent).writes (content_of reply).writes f.chunks k)), reply_over (content_of reply).kind (content_of sent).reply (content_of reply).reply _ f.replied)
  over false e = ((λ k. rw (zeros_behind [] 4 k) (omega arith)), omega arith)

  pub landed_within : ((k : ℕ) → get_or (returned_answer sent reply).writes k 0 ≤ chunk_length (get_or (content_of sent).writes k [])) × ((returned_answer sent reply).reply ≤ reply_chunk_length (content_of sent).reply)
  unfolding returned_answer
  landed_within = over (eqb (returned_number sent reply) 0) refl

  -- The number of bytes landed alone tells how far each segment was filled.
  pub filled_from_front : (returned_answer sent reply).number ≡ 0 → ((k : ℕ) → get_or (content_of reply).writes k [] ≡ filled (get_or (returned_answer sent reply).writes k 0) (get_or (content_of sent).writes k [])) × ((c d : List Segment) → (content_of sent).reply ≡ some c → (content_of reply).reply ≡ some d → d ≡ filled (returned_answer sent reply).reply c)
  filled_from_front e =
      let zero_is = number_is sent reply ∙ e in
      let f = right_fills (content_of sent) (content_of reply) (accepted sent reply zero_is).right in
      let l = map chunk_length (content_of reply).writes in
      rw (answer_landed sent reply zero_is)
      ((λ k. rw (zeros_behind l (4 - length l) k) (each_filled l (content_of sent).writes (content_of reply).writes f.chunks k)), λ c d s b. rw b (reply_front (content_of reply).kind c d (chunk_length d) (rw (s, b) at f.replied)))
