-- What a reply says was filled (document 02, order 1).
use Rattle.std.specs.Prelude.{ℕ, Bool, true, false, not, cond, ◌&&◌, ◌||◌, List, [], ◌∷◌, ◌++◌, map, length, replicate, eqb, ltb}
use Rattle.std.proofs.Math.Option.{Option, none, some}
use Rattle.answers.specs.Answers.{check, unless_refused}
use Rattle.wire.specs.declared.Segment.{Segment}
use Rattle.chunk_lists.specs.Lists.{max_write_chunks}
use Rattle.header.specs.Content.{Content, padded, content_of}
use Rattle.header.specs.Limits.{total, keeps_limits}
use Rattle.header.specs.declared.Kind.{Kind}
use Rattle.header.specs.declared.Kind.TheVariants.{Msg, Nomsg, Error}
use Rattle.header.specs.declared.Header.{Header}
use Rattle.returned.specs.declared.ReturnedAnswer.{ReturnedAnswer}

-- Whether something holds of an element.
unfoldable pub any : {A : Type 0} → (A → Bool) → List A → Bool
any holds [] = false
any holds (x ∷ xs) = holds x || any holds xs

abbrev pub differ : ℕ → ℕ → Bool
differ m n = not (eqb m n)

-- "Given the header we sent and the reply header": what stands at the same place in both.
pub record Pair (A : Type 0) : Type 0 where
  pub sent : A
  pub back : A

-- The elements of two lists, place by place.
unfoldable pub pairs : {A : Type 0} → List A → List A → List (Pair A)
pairs [] back = []
pairs (x ∷ sent) [] = []
pairs (x ∷ sent) (y ∷ back) = record { sent = x; back = y } ∷ pairs sent back

-- "a reply chunk both have"
abbrev pub reply_chunk_pair : Option (List Segment) → Option (List Segment) → List (Pair (List Segment))
reply_chunk_pair (some c) (some d) = record { sent = c; back = d } ∷ []
reply_chunk_pair (some c) none = []
reply_chunk_pair none back = []

-- The chunks that both have: the write chunks, and the reply chunk.
unfoldable pub chunk_pairs : Content → Content → List (Pair (List Segment))
chunk_pairs sent reply = pairs sent.writes reply.writes ++ reply_chunk_pair sent.reply reply.reply

-- The segments of a chunk that both have.
abbrev pub segment_pairs : Pair (List Segment) → List (Pair Segment)
segment_pairs c = pairs c.sent c.back

-- "the reply has read segments"
abbrev pub has_reads : Content → Bool
has_reads c = differ (length c.reads) 0

-- "ERROR"
abbrev pub is_error : Kind → Bool
is_error Msg = false
is_error Nomsg = false
is_error (Error e) = true

-- "the numbers .. of segments in one .. differ"
abbrev pub counts_differ : Pair (List Segment) → Bool
counts_differ c = differ (length c.sent) (length c.back)

-- "a handle or offset differs"
abbrev pub memory_differs : Pair Segment → Bool
memory_differs p = differ p.sent.handle p.back.handle || differ p.sent.offset p.back.offset

-- "a length is above the one we sent"
abbrev pub length_above : Pair Segment → Bool
length_above p = ltb p.sent.length p.back.length

-- "non-empty", and "any non-zero length"
abbrev pub non_empty : Segment → Bool
non_empty x = differ x.length 0

-- "not full"
abbrev pub not_full : Pair Segment → Bool
not_full p = differ p.sent.length p.back.length

-- "a segment is non-empty though one before it in its chunk is not full"
unfoldable pub filled_behind_gap : List (Pair Segment) → Bool
filled_behind_gap [] = false
filled_behind_gap (p ∷ ps) = (not_full p && any (λ q. non_empty q.back) ps) || filled_behind_gap ps

-- "a NOMSG reply lacks the reply chunk"
abbrev pub lacks_reply_chunk : Kind → Option (List Segment) → Bool
lacks_reply_chunk Nomsg none = true
lacks_reply_chunk Nomsg (some d) = false
lacks_reply_chunk Msg back = false
lacks_reply_chunk (Error e) back = false

-- "a reply chunk comes back that we did not send"
abbrev pub reply_chunk_not_sent : Option (List Segment) → Option (List Segment) → Bool
reply_chunk_not_sent none (some d) = true
reply_chunk_not_sent none none = false
reply_chunk_not_sent (some c) back = false

-- "or, in MSG, with any non-zero length"
abbrev pub reply_chunk_filled_in_msg : Kind → Option (List Segment) → Bool
reply_chunk_filled_in_msg Msg (some d) = any non_empty d
reply_chunk_filled_in_msg Msg none = false
reply_chunk_filled_in_msg Nomsg back = false
reply_chunk_filled_in_msg (Error e) back = false

-- "26 is given exactly if: xids differ; the reply has read segments; either is ERROR; the numbers of write chunks, or of segments in one or in a reply chunk both have, differ; a handle or offset differs; a length is above the one we sent; a segment is non-empty though one before it in its chunk is not full; a NOMSG reply lacks the reply chunk; a reply chunk comes back that we did not send, or, in MSG, with any non-zero length."
unfoldable pub mismatch : Content → Content → Bool
mismatch sent reply =
    differ sent.xid reply.xid
    || (has_reads reply
    || ((is_error sent.kind || is_error reply.kind)
    || (differ (length sent.writes) (length reply.writes)
    || (any counts_differ (chunk_pairs sent reply)
    || (any (λ c. any memory_differs (segment_pairs c)) (chunk_pairs sent reply)
    || (any (λ c. any length_above (segment_pairs c)) (chunk_pairs sent reply)
    || (any (λ c. filled_behind_gap (segment_pairs c)) (chunk_pairs sent reply)
    || (lacks_reply_chunk reply.kind reply.reply
    || (reply_chunk_not_sent sent.reply reply.reply
    || reply_chunk_filled_in_msg reply.kind reply.reply)))))))))

-- "Either header meeting the writer's 7, ERROR or not, gets 7 first.", then 26.
unfoldable pub returned_number : Header → Header → ℕ
returned_number sent reply =
    check (keeps_limits sent && keeps_limits reply) 7
    (check (not (mismatch (content_of sent) (content_of reply))) 26
    0)

-- The bytes of a chunk: those that landed, in a chunk that came back.
unfoldable pub chunk_length : List Segment → ℕ
chunk_length c = total (map (λ x. x.length) c)

-- "In MSG a missing reply chunk is fine.": nothing landed in it.
abbrev pub reply_chunk_length : Option (List Segment) → ℕ
reply_chunk_length none = 0
reply_chunk_length (some c) = chunk_length c

-- "the bytes landed in each write chunk", of which a header has up to four
abbrev pub landed_writes : Content → List ℕ
landed_writes reply = padded max_write_chunks 0 (map chunk_length reply.writes)

-- "return the bytes landed in each write chunk and in the reply chunk, or 26", or 7; "for all else zeros"
unfoldable pub returned_answer : Header → Header → ReturnedAnswer
returned_answer sent reply = record {
  writes = cond (eqb (returned_number sent reply) 0) (landed_writes (content_of reply)) (replicate max_write_chunks 0);
  reply = cond (eqb (returned_number sent reply) 0) (reply_chunk_length (content_of reply).reply) 0;
  number = returned_number sent reply;
}

-- The same as a caller lends places for it, five numbers of 64 bits: those of the write chunks, then that of the reply chunk. A refused call leaves them.
abbrev pub returned_places : Header → Header → List ℕ → List ℕ
returned_places sent reply before =
    unless_refused (returned_number sent reply) ((returned_answer sent reply).writes ++ ((returned_answer sent reply).reply ∷ [])) before

-- The number given to one who lends the headers: "bad argument" (20) where a kind or a flag stands for nothing.
abbrev pub returned_words_number : Option Header → Option Header → ℕ
returned_words_number none reply = 20
returned_words_number (some sent) none = 20
returned_words_number (some sent) (some reply) = returned_number sent reply

-- What stands in the lent places then.
abbrev pub returned_words_places : Option Header → Option Header → List ℕ → List ℕ
returned_words_places none reply before = before
returned_words_places (some sent) none before = before
returned_words_places (some sent) (some reply) before = returned_places sent reply before
