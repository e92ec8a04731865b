-- What the parts of the check answer.
use Rattle.std.specs.Prelude.{ℕ, Bool, not, cond, ◌&&◌, ◌||◌, List, [], ◌∷◌, ◌++◌, map, replicate, get_or, take, Option, Some, None, Result, Err}
use Rattle.std.proofs.Math.Option as maybe
use Rattle.wire.specs.Wire.{stored}
use Rattle.wire.specs.declared.Segment.{Segment}
use Rattle.chunk_lists.specs.Words.{segments_in}
use Rattle.header.specs.Content.{runs, reply_of}
use Rattle.header.specs.Words.{writes_at, reply_at, reply_count_at, counts_in}
use Rattle.header.specs.declared.Kind.{Kind}
use Rattle.header.specs.declared.Header.{Header}
use Rattle.header.specs.declared.Lent.{Lent}
use Rattle.header.specs.Internal.Outcomes.{outcome}
use Rattle.returned.specs.Returned.{Pair, any, pairs, differ, is_error, reply_chunk_pair, segment_pairs, counts_differ, memory_differs, length_above, non_empty, filled_behind_gap, lacks_reply_chunk, reply_chunk_not_sent, reply_chunk_filled_in_msg, chunk_length, reply_chunk_length, returned_number, returned_answer}

-- Whether a segment is at fault, behind segments of its chunk that are all full or not.
abbrev pub segment_wrong : Bool → Pair Segment → Bool
segment_wrong full p = memory_differs p || (length_above p || (not full && non_empty p.back))

-- Whether the segments of a chunk are at fault.
abbrev pub segments_wrong : Pair (List Segment) → Bool
segments_wrong c = any memory_differs (segment_pairs c) || (any length_above (segment_pairs c) || filled_behind_gap (segment_pairs c))

-- Whether a chunk is.
abbrev pub chunk_wrong : Pair (List Segment) → Bool
chunk_wrong c = counts_differ c || segments_wrong c

-- The bytes landed in one, where its segments are not at fault.
abbrev pub chunk_check : Pair (List Segment) → Option ℕ
chunk_check c = cond (segments_wrong c) None (Some (chunk_length c.back))

-- Whether the reply chunk is, in a reply of this kind.
abbrev pub reply_wrong : Kind → maybe.Option (List Segment) → maybe.Option (List Segment) → Bool
reply_wrong kind sent back =
    any chunk_wrong (reply_chunk_pair sent back) || (lacks_reply_chunk kind back || (reply_chunk_not_sent sent back || reply_chunk_filled_in_msg kind back))

abbrev pub reply_check : Kind → maybe.Option (List Segment) → maybe.Option (List Segment) → Option ℕ
reply_check kind sent back = cond (reply_wrong kind sent back) None (Some (reply_chunk_length back))

-- The reply chunk that a lent header holds.
abbrev pub reply_in : Lent → maybe.Option (List Segment)
reply_in h = reply_of h.present (take (get_or h.words.now reply_count_at 0) (segments_in reply_at h.words.now))

-- The first n write chunks that words hold.
abbrev pub writes_in : ℕ → List ℕ → List (List Segment)
writes_in n w = runs (take n (counts_in w)) (segments_in writes_at w)

-- The bytes landed in each of them, in front of zeros, where none is at fault.
abbrev pub writes_check : ℕ → List ℕ → List ℕ → Option (List ℕ)
writes_check n sent reply =
    cond (any chunk_wrong (pairs (writes_in n sent) (writes_in n reply))) None (Some (stored (replicate 5 0) 0 (map chunk_length (writes_in n reply))))

-- Whether two headers are at fault in what their chunks do not say.
abbrev pub heads_wrong : Header → Header → Bool
heads_wrong sent reply = differ sent.xid reply.xid || (differ reply.reads.count 0 || (is_error sent.kind || is_error reply.kind))

-- What is answered for two headers: the five numbers, or the refusal's.
abbrev pub headers_outcome : Header → Header → Result (List ℕ) ℕ
headers_outcome sent reply = outcome (returned_number sent reply) ((returned_answer sent reply).writes ++ ((returned_answer sent reply).reply ∷ []))

-- The same of headers that are lent.
abbrev pub lent_outcome : maybe.Option Header → maybe.Option Header → Result (List ℕ) ℕ
lent_outcome maybe.none reply = Err 20
lent_outcome (maybe.some sent) maybe.none = Err 20
lent_outcome (maybe.some sent) (maybe.some reply) = headers_outcome sent reply
