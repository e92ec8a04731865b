-- A reply is accepted exactly if it is that of a server which fills the chunks from the front.
-- Assumes nothing.
use mathlib.Core.Path.{◌≡◌, refl, sym, ap, ◌∙◌}
use mathlib.Core.Bool.{Bool, true, false, not, ◌&&◌, ◌||◌, and-false}
use mathlib.Core.List.{List, [], ◌∷◌, map}
use mathlib.Core.Option.{Option, none, some}
use Prim.Native.Nat.{ℕ, suc, ◌+◌, ◌-◌, ◌≤◌, min}
use native.Mathlib.Omega.{arith}
use lib.Dec.{eqb, leb}
use lib.ListN.{length}
use borrow.Author.Tests.{eq-eqb, eqb-true, leb-true, leb-false, le-ltb, ltb-false, not-false}
use Rattle.answers.proofs.Checks.{neither}
use Rattle.wire.specs.declared.Segment.{Segment}
use Rattle.header.specs.declared.Kind.{Kind}
use Rattle.header.specs.declared.Kind.TheVariants.{Msg, Nomsg, Error}
use Rattle.returned.specs.Returned.{Pair, any, pairs, counts_differ, memory_differs, length_above, non_empty, not_full, filled_behind_gap, is_error, chunk_length, reply_chunk_length}
use Rattle.returned.specs.Filled.{filled, FilledChunks, FilledReplyChunk}
use Rattle.returned.specs.Internal.Parts.{segments_wrong, chunk_wrong, reply_wrong}
use Rattle.returned.proofs.Chunks.{length_cons, length_none}
use Rattle.returned.proofs.Replies.{bytes_there}

-- Whether a segment that came back holds bytes.
any_back : (c d : List Segment) → length c ≡ length d → any (λ q. non_empty q.back) (pairs c d) ≡ any non_empty d
unfolding any pairs
any_back [] [] e = refl
any_back [] (y ∷ d) e = absurd (omega arith)
any_back (x ∷ c) [] e = absurd (omega arith)
any_back (x ∷ c) (y ∷ d) e = rw (any_back c d (omega arith))

-- What is asked of the segments of a chunk.
record Right (c d : List Segment) : Type 0 where
  pub memory : any memory_differs (pairs c d) ≡ false
  pub within : any length_above (pairs c d) ≡ false
  pub turn : filled_behind_gap (pairs c d) ≡ false

right : (c d : List Segment) → segments_wrong (record { sent = c; back = d }) ≡ false → Right c d
right c d e =
    let first = neither (any memory_differs (pairs c d)) _ e in
    let second = neither (any length_above (pairs c d)) _ first.1 in
    record { memory = first.0; within = second.0; turn = second.1 }

-- A chunk with which nothing is wrong was filled from the front.
chunk_filled : (c d : List Segment) → length c ≡ length d → Right c d → (d ≡ filled (chunk_length d) c) × (chunk_length d ≤ chunk_length c)
unfolding any pairs filled_behind_gap filled
chunk_filled [] [] e r = (refl, rw length_none (omega arith))
chunk_filled [] (y ∷ d) e r = absurd (omega arith)
chunk_filled (x ∷ c) [] e r = absurd (omega arith)
chunk_filled (x ∷ c) (y ∷ d) e r =
    let p : Pair Segment = record { sent = x; back = y } in
    let same : length c ≡ length d = omega arith in
    let memory = neither (memory_differs p) _ r.memory in
    let within = neither (length_above p) _ r.within in
    let turn = neither (not_full p && any (λ q. non_empty q.back) (pairs c d)) _ r.turn in
    let rest = chunk_filled c d same (record { memory = memory.1; within = within.1; turn = turn.1 }) in
    let few : y.length ≤ x.length = ltb-false x.length y.length within.0 in
    let there = neither (not (eqb x.handle y.handle)) _ memory.0 in
    let handle : y.handle ≡ x.handle = sym (eqb-true x.handle y.handle (not-false _ there.0)) in
    let offset : y.offset ≡ x.offset = sym (eqb-true x.offset y.offset (not-false _ there.1)) in
    let parts = fills (eqb x.length y.length) refl few (any_back c d same ∙ bytes_there d) turn.0 in
    let all : d ≡ filled (y.length + chunk_length d - x.length) c = rw parts.1 rest.0 in
    let here : y ≡ record { handle = x.handle; length = min (y.length + chunk_length d) x.length; offset = x.offset } = λ i. record { handle = handle i; length = sym parts.0 i; offset = offset i } in
    let sum = rest.1 in
    (rw (length_cons y d) (λ i. here i ∷ all i), rw (length_cons x c, length_cons y d) (omega arith))
  where
    fills : {later : Bool} (full : Bool) → eqb x.length y.length ≡ full → y.length ≤ x.length → later ≡ not (eqb (chunk_length d) 0) → (not (eqb x.length y.length) && later) ≡ false → (min (y.length + chunk_length d) x.length ≡ y.length) × (y.length + chunk_length d - x.length ≡ chunk_length d)
    fills true f few l t = let full = eqb-true x.length y.length f in (omega arith, omega arith)
    fills false f few l t = let none_left = eqb-true (chunk_length d) 0 (not-false _ (sym l ∙ rw f at t)) in (omega arith, omega arith)

-- As many segments come back.
filled_long : (n : ℕ) (c : List Segment) → length (filled n c) ≡ length c
unfolding filled
filled_long n [] = refl
filled_long n (x ∷ c) = ap suc (filled_long (n - x.length) c)

-- All that was put into a chunk landed in it.
pub filled_bytes : (n : ℕ) (c : List Segment) → n ≤ chunk_length c → chunk_length (filled n c) ≡ n
unfolding filled
filled_bytes n [] h = let z = length_none in rw length_none (omega arith)
filled_bytes n (x ∷ c) h =
    let sum = length_cons x c in
    let rest = filled_bytes (n - x.length) c (omega arith) in
    rw (length_cons _ (filled (n - x.length) c), rest) (omega arith)

-- And nothing is wrong with it.
filled_right : (n : ℕ) (c : List Segment) → n ≤ chunk_length c → Right c (filled n c)
unfolding any pairs filled_behind_gap filled
filled_right n [] h = record { memory = refl; within = refl; turn = refl }
filled_right n (x ∷ c) h =
    let sum = length_cons x c in
    let left = n - x.length in
    let rest = filled_right left c (omega arith) in
    let few : min n x.length ≤ x.length = omega arith in
    let later = any_back c (filled left c) (sym (filled_long left c)) ∙ bytes_there (filled left c) in
    record {
      memory = rw (eq-eqb x.handle x.handle refl, eq-eqb x.offset x.offset refl, rest.memory);
      within = rw (le-ltb x.length (min n x.length) few, rest.within);
      turn = rw (later, filled_bytes left c (omega arith), rest.turn, gap (leb x.length n) refl);
    }
  where
    gap : (holds : Bool) → leb x.length n ≡ holds → (not (eqb x.length (min n x.length)) && not (eqb (n - x.length) 0)) ≡ false
    gap true e = let k = leb-true x.length n e in rw (eq-eqb x.length (min n x.length) (omega arith))
    gap false e = let k = leb-false x.length n e in rw (eq-eqb (n - x.length) 0 (omega arith), and-false (not (eqb x.length (min n x.length))))

-- A chunk is right exactly if it was filled so.
chunk_right : (c d : List Segment) → chunk_wrong (record { sent = c; back = d }) ≡ false → (d ≡ filled (chunk_length d) c) × (chunk_length d ≤ chunk_length c)
chunk_right c d e =
    let both = neither (counts_differ (record { sent = c; back = d })) _ e in
    chunk_filled c d (eqb-true (length c) (length d) (not-false _ both.0)) (right c d both.1)

right_chunk : (n : ℕ) (c : List Segment) → n ≤ chunk_length c → chunk_wrong (record { sent = c; back = filled n c }) ≡ false
right_chunk n c h =
    let fine = filled_right n c h in
    let same : length c ≡ length (filled n c) = sym (filled_long n c) in
    rw (eq-eqb (length c) (length (filled n c)) same, fine.memory, fine.within, fine.turn)

-- So are all write chunks.
pub chunks_filled : (sent back : List (List Segment)) → length sent ≡ length back → any chunk_wrong (pairs sent back) ≡ false → FilledChunks (map chunk_length back) sent back
unfolding any pairs
chunks_filled [] [] e h = record {}
chunks_filled [] (d ∷ back) e h = absurd (omega arith)
chunks_filled (c ∷ sent) [] e h = absurd (omega arith)
chunks_filled (c ∷ sent) (d ∷ back) e h =
    let both = neither (chunk_wrong (record { sent = c; back = d })) _ h in
    let here = chunk_right c d both.0 in
    (here.1, here.0, chunks_filled sent back (omega arith) both.1)

pub filled_chunks : (ns : List ℕ) (sent back : List (List Segment)) → FilledChunks ns sent back → (length sent ≡ length back) × (any chunk_wrong (pairs sent back) ≡ false) × (map chunk_length back ≡ ns)
unfolding any pairs
filled_chunks [] [] [] f = (refl, refl, refl)
filled_chunks [] [] (d ∷ back) f = absurd f
filled_chunks [] (c ∷ sent) back f = absurd f
filled_chunks (n ∷ ns) [] back f = absurd f
filled_chunks (n ∷ ns) (c ∷ sent) [] f = absurd f
filled_chunks (n ∷ ns) (c ∷ sent) (d ∷ back) f =
    let rest = filled_chunks ns sent back f.2 in
    let bytes : chunk_length d ≡ n = rw f.1 (filled_bytes n c f.0) in
    let fine : chunk_wrong (record { sent = c; back = d }) ≡ false = rw f.1 (right_chunk n c f.0) in
    (ap suc rest.0, rw (fine, rest.1), λ i. bytes i ∷ rest.2 i)

-- Something that does not hold, and does.
never : {P : Type 0} → true ≡ false → P
never e = absurd (let z : ◌≡◌ {A = ℕ} 0 1 = cc in omega arith)

-- What is asked of a reply chunk that both have.
both_right : (c d : List Segment) (filled-in-msg : Bool) → ((chunk_wrong (record { sent = c; back = d }) || false) || (false || (false || filled-in-msg))) ≡ false → (chunk_wrong (record { sent = c; back = d }) ≡ false) × (filled-in-msg ≡ false)
both_right c d f h = let both = neither (chunk_wrong (record { sent = c; back = d }) || false) f h in ((neither (chunk_wrong (record { sent = c; back = d })) false both.0).0, both.1)

-- So is the reply chunk.
pub reply_filled : (kind : Kind) (sent back : Option (List Segment)) → is_error kind ≡ false → reply_wrong kind sent back ≡ false → FilledReplyChunk kind sent back (reply_chunk_length back)
unfolding any
reply_filled Msg none none e h = refl
reply_filled Msg (some c) none e h = refl
reply_filled Msg none (some d) e h = never h
reply_filled Msg (some c) (some d) e h =
    let fine = both_right c d (any non_empty d) h in
    let empty : chunk_length d ≡ 0 = eqb-true (chunk_length d) 0 (not-false _ (sym (bytes_there d) ∙ fine.1)) in
    (empty, (chunk_right c d fine.0).0 ∙ rw empty)
reply_filled Nomsg none none e h = never h
reply_filled Nomsg (some c) none e h = never h
reply_filled Nomsg none (some d) e h = never h
reply_filled Nomsg (some c) (some d) e h = let here = chunk_right c d (both_right c d false h).0 in (here.1, here.0)
reply_filled (Error f) sent back e h = never e

pub filled_reply : (kind : Kind) (sent back : Option (List Segment)) (n : ℕ) → FilledReplyChunk kind sent back n → (is_error kind ≡ false) × (reply_wrong kind sent back ≡ false) × (reply_chunk_length back ≡ n)
unfolding any
filled_reply Msg none none n f = (refl, refl, sym f)
filled_reply Msg (some c) none n f = (refl, refl, sym f)
filled_reply Msg none (some d) n f = absurd f
filled_reply Msg (some c) (some d) n f =
    let fine : chunk_wrong (record { sent = c; back = d }) ≡ false = rw f.1 (right_chunk 0 c (omega arith)) in
    let bytes : chunk_length d ≡ 0 = rw f.1 (filled_bytes 0 c (omega arith)) in
    let empty : any non_empty d ≡ false = bytes_there d ∙ rw bytes in
    (refl, rw (fine, empty), bytes ∙ sym f.0)
filled_reply Nomsg none none n f = absurd f
filled_reply Nomsg (some c) none n f = absurd f
filled_reply Nomsg none (some d) n f = absurd f
filled_reply Nomsg (some c) (some d) n f =
    let fine : chunk_wrong (record { sent = c; back = d }) ≡ false = rw f.1 (right_chunk n c f.0) in
    (refl, rw fine, rw f.1 (filled_bytes n c f.0))
filled_reply (Error e) sent back n f = absurd f
