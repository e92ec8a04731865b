-- The conditions of 26 part by part, as the code asks them.
-- Assumes nothing.
use mathlib.Core.Path.{◌≡◌, refl, sym, ap, ◌∙◌}
use mathlib.Core.Bool.{Bool, true, false, ◌||◌, or_assoc}
use mathlib.Core.List.{List, [], ◌∷◌, ◌++◌}
use lib.ListN.{length}
use Rattle.wire.specs.declared.Segment.{Segment}
use Rattle.header.specs.Content.{Content}
use Rattle.returned.specs.Returned.{Pair, any, differ, pairs, reply_chunk_pair, chunk_pairs, segment_pairs, has_reads, is_error, counts_differ, memory_differs, length_above, filled_behind_gap, lacks_reply_chunk, reply_chunk_not_sent, reply_chunk_filled_in_msg, mismatch}
use Rattle.returned.specs.Internal.Parts.{segments_wrong, chunk_wrong, reply_wrong}

-- One of two things holds of an element.
either_of : (a b c d : Bool) → ((a || b) || (c || d)) ≡ ((a || c) || (b || d))
either_of true b c d = refl
either_of false true true d = refl
either_of false true false d = refl
either_of false false true d = refl
either_of false false false d = refl

any_or : {A : Type 0} (p q : A → Bool) (xs : List A) → any (λ x. p x || q x) xs ≡ (any p xs || any q xs)
unfolding any
any_or p q [] = refl
any_or p q (x ∷ xs) = rw (any_or p q xs) (either_of (p x) (q x) (any p xs) (any q xs))

-- Something holds of an element of two lists.
pub any_append : {A : Type 0} (p : A → Bool) (xs ys : List A) → any p (xs ++ ys) ≡ (any p xs || any p ys)
unfolding any
any_append p [] ys = refl
any_append p (x ∷ xs) ys = rw (any_append p xs ys) (sym (or_assoc (p x) (any p xs) (any p ys)))

-- What is asked of every chunk, chunk by chunk.
pub chunks_wrong : (cs : List (Pair (List Segment))) → any chunk_wrong cs ≡ (any counts_differ cs || (any (λ c. any memory_differs (segment_pairs c)) cs || (any (λ c. any length_above (segment_pairs c)) cs || any (λ c. filled_behind_gap (segment_pairs c)) cs)))
chunks_wrong cs =
    any_or counts_differ segments_wrong cs
    ∙ ap (λ r. any counts_differ cs || r)
    (any_or (λ c. any memory_differs (segment_pairs c)) (λ c. any length_above (segment_pairs c) || filled_behind_gap (segment_pairs c)) cs
    ∙ ap (λ r. any (λ c. any memory_differs (segment_pairs c)) cs || r) (any_or (λ c. any length_above (segment_pairs c)) (λ c. filled_behind_gap (segment_pairs c)) cs))

-- Four, of which each is of one part or the other.
gathered : (a b c d rest : Bool) → (a || (b || (c || (d || rest)))) ≡ ((a || (b || (c || d))) || rest)
gathered true b c d rest = refl
gathered false true c d rest = refl
gathered false false true d rest = refl
gathered false false false d rest = refl

-- The conditions of 26: those of the headers, of the write chunks, of the reply chunk.
pub mismatch_parts : (sent reply : Content) → mismatch sent reply ≡ (differ sent.xid reply.xid || (has_reads reply || ((is_error sent.kind || is_error reply.kind) || (differ (length sent.writes) (length reply.writes) || (any chunk_wrong (pairs sent.writes reply.writes) || reply_wrong reply.kind sent.reply reply.reply)))))
unfolding mismatch chunk_pairs
mismatch_parts sent reply =
    let cs = chunk_pairs sent reply in
    let counts = any counts_differ cs in
    let memory = any (λ c. any memory_differs (segment_pairs c)) cs in
    let above = any (λ c. any length_above (segment_pairs c)) cs in
    let gap = any (λ c. filled_behind_gap (segment_pairs c)) cs in
    let rest = lacks_reply_chunk reply.kind reply.reply || (reply_chunk_not_sent sent.reply reply.reply || reply_chunk_filled_in_msg reply.kind reply.reply) in
    let writes = any chunk_wrong (pairs sent.writes reply.writes) in
    let replies = any chunk_wrong (reply_chunk_pair sent.reply reply.reply) in
    let all = gathered counts memory above gap rest ∙ ap (λ r. r || rest) (sym (chunks_wrong cs) ∙ any_append chunk_wrong (pairs sent.writes reply.writes) (reply_chunk_pair sent.reply reply.reply)) ∙ or_assoc writes replies rest in
    ap (λ r. differ sent.xid reply.xid || (has_reads reply || ((is_error sent.kind || is_error reply.kind) || (differ (length sent.writes) (length reply.writes) || r)))) all
