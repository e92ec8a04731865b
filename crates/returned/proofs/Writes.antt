-- The write chunks, compared one by one.
-- Assumes nothing.
use mathlib.Core.Path.{◌≡◌, refl, sym, ◌∙◌}
use mathlib.Core.Bool.{Bool, true, false, not, ◌||◌, cond}
use mathlib.Core.List.{List, [], ◌∷◌, map}
use Prim.Native.Nat.{ℕ, ◌+◌, ◌≤◌, ◌<◌}
use native.Mathlib.Omega.{arith}
use lib.ListN.{length, get_or, set, take, drop, length-drop, drop_of_length-le, length-take}
use lib.Dec.{eqb}
use lib.Seq.{drop-drop, length-take-le}
use borrow.Author.Tests.{eq-eqb, ne_eqb}
use Rattle.wire.specs.Wire.{stored}
use Rattle.wire.specs.declared.Segment.{Segment}
use Rattle.chunk_lists.specs.Words.{segments_in}
use Rattle.chunk_lists.proofs.Items.{next_of, store_cons}
use Rattle.chunk_lists.proofs.Words.{length_segments}
use Rattle.header.specs.Content.{runs}
use Rattle.header.specs.Limits.{total}
use Rattle.header.specs.Words.{counts_in}
use Rattle.header.proofs.Limits.{total_next, count_within, counts_long, count_here}
use Rattle.std.specs.Prelude.{Some, None}
use Rattle.returned.specs.Returned.{Pair, any, pairs, counts_differ, chunk_length}
use Rattle.returned.specs.Internal.Parts.{segments_wrong, chunk_wrong, chunk_check, writes_in}

-- What comparing says: what came back is right, and something landed; or it is wrong.
pub answer_landed : {A : Type 0} (wrong : Bool) (n m : A) → cond wrong None (Some n) ≡ Some m → (wrong ≡ false) × (n ≡ m)
answer_landed false n m e = (refl, cc)
answer_landed true n m e = absurd cc

pub answer_mismatch : {A : Type 0} (wrong : Bool) (n : A) → cond wrong None (Some n) ≡ None → wrong ≡ true
answer_mismatch true n e = refl
answer_mismatch false n e = absurd cc

pub chunk_landed : (c : Pair (List Segment)) (n : ℕ) → chunk_check c ≡ Some n → (segments_wrong c ≡ false) × (chunk_length c.back ≡ n)
chunk_landed c n e = answer_landed (segments_wrong c) (chunk_length c.back) n e

pub chunk_mismatch : (c : Pair (List Segment)) → chunk_check c ≡ None → segments_wrong c ≡ true
chunk_mismatch c e = answer_mismatch (segments_wrong c) (chunk_length c.back) e

-- The chunks from the k-th on, where those before it have so many segments.
abbrev pub rest_in : ℕ → List ℕ → ℕ → ℕ → List (List Segment)
rest_in n w k used = runs (drop k (take n (counts_in w))) (drop used (segments_in 96 w))

-- The segments of one.
abbrev pub chunk_in : List ℕ → ℕ → ℕ → List Segment
chunk_in w used d = take d (drop used (segments_in 96 w))

chunk_size : (w : List ℕ) (used d : ℕ) → used + d ≤ 16 → length (chunk_in w used d) ≡ d
chunk_size w used d h = let full = length_segments 96 w in length-take-le d (drop used (segments_in 96 w)) (rw length-drop (omega arith))

rest_next : (n : ℕ) (w : List ℕ) (k used d : ℕ) → length w ≡ 238 → k < n → n ≤ 4 → d ≡ get_or w (224 + k) 0 → rest_in n w k used ≡ chunk_in w used d ∷ rest_in n w (k + 1) (used + d)
unfolding runs
rest_next n w k used d long h few e =
    let four = counts_long w long in
    let here : get_or (counts_in w) k 0 ≡ d = count_here w k (omega arith) ∙ sym e in
    let next : drop k (take n (counts_in w)) ≡ d ∷ drop (k + 1) (take n (counts_in w)) = next_of (counts_in w) k n 0 h (omega arith) ∙ rw here in
    rw (next, drop-drop d used (segments_in 96 w))

rest_none : (n : ℕ) (w : List ℕ) (k used : ℕ) → n ≤ k → rest_in n w k used ≡ []
unfolding runs
rest_none n w k used h = rw (drop_of_length-le (take n (counts_in w)) {i = k} (rw length-take (omega arith)))

-- The first k write chunks of two headers were compared, and no fault was found.
pub record ComparingWrites (sent reply : List ℕ) (n : ℕ) (before after : List ℕ) (used k : ℕ) : Type 0 where
  pub sent_used : used ≡ total (take k (counts_in sent))
  pub reply_used : used ≡ total (take k (counts_in reply))
  pub wrong : any chunk_wrong (pairs (writes_in n sent) (writes_in n reply)) ≡ any chunk_wrong (pairs (rest_in n sent k used) (rest_in n reply k used))
  pub landed : stored before 0 (map chunk_length (writes_in n reply)) ≡ stored after k (map chunk_length (rest_in n reply k used))

pub writes_start : (sent reply : List ℕ) (n : ℕ) (before : List ℕ) → ComparingWrites sent reply n before before 0 0
unfolding total
writes_start sent reply n before = record { sent_used = refl; reply_used = refl; wrong = refl; landed = refl }

-- The segments of a chunk are among those of all.
pub chunk_few : (w : List ℕ) (n used k : ℕ) → length w ≡ 238 → n ≤ 4 → total (take n (counts_in w)) ≤ 16 → k < n → used ≡ total (take k (counts_in w)) → used + get_or w (224 + k) 0 ≤ 16
chunk_few w n used k long few h k< e =
    let within = count_within w k n long k< few in
    omega arith

used_next : (w : List ℕ) (n used k d : ℕ) → length w ≡ 238 → n ≤ 4 → k < n → used ≡ total (take k (counts_in w)) → d ≡ get_or w (224 + k) 0 → used + d ≡ total (take (k + 1) (counts_in w))
used_next w n used k d long few h e f =
    let four = counts_long w long in
    let here = count_here w k (omega arith) in
    let next = total_next (counts_in w) k (omega arith) in
    omega arith

module _ (sent reply : List ℕ) (n : ℕ) (before after : List ℕ) (used k : ℕ) (sent-long : length sent ≡ 238) (reply-long : length reply ≡ 238) (given : (n ≤ 4) × (total (take n (counts_in sent)) ≤ 16) × (total (take n (counts_in reply)) ≤ 16)) (c : ComparingWrites sent reply n before after used k) where
  -- No chunk is left.
  pub writes_end : n ≤ k → (any chunk_wrong (pairs (writes_in n sent) (writes_in n reply)) ≡ false) × (after ≡ stored before 0 (map chunk_length (writes_in n reply)))
  unfolding pairs any stored
  writes_end h = (c.wrong ∙ rw (rest_none n sent k used h), sym (c.landed ∙ rw (rest_none n reply k used h)))

  module _ (k< : k < n) (d e : ℕ) (in-sent : d ≡ get_or sent (224 + k) 0) (in-reply : e ≡ get_or reply (224 + k) 0) where
    -- The chunk at hand, before the rest.
    here : any chunk_wrong (pairs (rest_in n sent k used) (rest_in n reply k used)) ≡ (chunk_wrong (record { sent = chunk_in sent used d; back = chunk_in reply used e }) || any chunk_wrong (pairs (rest_in n sent (k + 1) (used + d)) (rest_in n reply (k + 1) (used + e))))
    unfolding pairs any
    here = rw (rest_next n sent k used d sent-long k< given.0 in-sent, rest_next n reply k used e reply-long k< given.0 in-reply)

    sizes : counts_differ (record { sent = chunk_in sent used d; back = chunk_in reply used e }) ≡ not (eqb d e)
    sizes =
        let s = chunk_few sent n used k sent-long given.0 given.1 k< c.sent_used in
        let r = chunk_few reply n used k reply-long given.0 given.2 k< c.reply_used in
        rw (chunk_size sent used d (omega arith), chunk_size reply used e (omega arith))

    -- It has another number of segments.
    pub writes_count : (d ≡ e → ⊥) → any chunk_wrong (pairs (writes_in n sent) (writes_in n reply)) ≡ true
    writes_count differs = c.wrong ∙ here ∙ rw (sizes, ne_eqb d e differs)

    module _ (same : d ≡ e) where
      -- It has as many; its segments are at fault.
      pub writes_fault : chunk_check (record { sent = chunk_in sent used d; back = chunk_in reply used d }) ≡ None → any chunk_wrong (pairs (writes_in n sent) (writes_in n reply)) ≡ true
      writes_fault fault =
          let wrong : segments_wrong (record { sent = chunk_in sent used d; back = chunk_in reply used e }) ≡ true = rw (← same) (chunk_mismatch _ fault) in
          c.wrong ∙ here ∙ rw (sizes, eq-eqb d e same, wrong)

      -- They are not: so many bytes landed in it.
      pub writes_next : (bytes : ℕ) → chunk_check (record { sent = chunk_in sent used d; back = chunk_in reply used d }) ≡ Some bytes → ComparingWrites sent reply n before (set after k bytes) (used + d) (k + 1)
      writes_next bytes fine =
          let right : segments_wrong (record { sent = chunk_in sent used d; back = chunk_in reply used e }) ≡ false = rw (← same) (chunk_landed _ _ fine).0 in
          let there : rest_in n reply k used ≡ chunk_in reply used d ∷ rest_in n reply (k + 1) (used + d) = rest_next n reply k used d reply-long k< given.0 (same ∙ in-reply) in
          let left : (chunk_wrong (record { sent = chunk_in sent used d; back = chunk_in reply used e }) || any chunk_wrong (pairs (rest_in n sent (k + 1) (used + d)) (rest_in n reply (k + 1) (used + e)))) ≡ any chunk_wrong (pairs (rest_in n sent (k + 1) (used + d)) (rest_in n reply (k + 1) (used + d))) = rw (sizes, eq-eqb d e same, right, ← same) in
          let stores : stored after k (map chunk_length (rest_in n reply k used)) ≡ stored (set after k bytes) (k + 1) (map chunk_length (rest_in n reply (k + 1) (used + d))) = rw (there, (chunk_landed _ _ fine).1) (store_cons after k bytes _) in
          record {
            sent_used = used_next sent n used k d sent-long given.0 k< c.sent_used in-sent;
            reply_used = used_next reply n used k d reply-long given.0 k< c.reply_used (same ∙ in-reply);
            wrong = c.wrong ∙ here ∙ left;
            landed = c.landed ∙ stores;
          }
