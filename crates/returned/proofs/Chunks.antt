-- A chunk that is compared segment by segment, with the bytes offered and landed so far.
-- Assumes nothing.
use mathlib.Core.Path.{◌≡◌, refl, sym, ◌∙◌}
use mathlib.Core.Bool.{Bool, true, false, not, ◌&&◌, ◌||◌, and-false, or-true, or-false, or_comm}
use mathlib.Core.List.{List, [], ◌∷◌}
use Prim.Native.Nat.{ℕ, ◌+◌, ◌*◌, ◌≤◌, ◌<◌}
use native.Mathlib.Nat.{zero-add}
use native.Mathlib.Omega.{arith}
use lib.Dec.{eqb}
use lib.ListN.{get_or, take, drop, length-drop, length-take, drop_of_length-le}
use lib.Seq.{get_or-drop}
use borrow.Author.Tests.{eq-eqb, ne_eqb, eqb-true, eqb-false, ltb-false}
use Rattle.answers.proofs.Checks.{neither}
use Rattle.wire.specs.Wire.{zero_segment}
use Rattle.wire.specs.Words.{segment_in}
use Rattle.wire.specs.declared.Segment.{Segment}
use Rattle.chunk_lists.specs.Words.{segments_in}
use Rattle.chunk_lists.proofs.Items.{next_of}
use Rattle.chunk_lists.proofs.Words.{length_segments, segments_here}
use Rattle.header.specs.Limits.{total}
use Rattle.std.specs.Prelude.{Some, None}
use Rattle.returned.specs.Returned.{Pair, any, pairs, memory_differs, length_above, non_empty, not_full, filled_behind_gap, chunk_length}
use Rattle.returned.specs.Internal.Parts.{segment_wrong, segments_wrong, chunk_check}

-- The bytes of a chunk are those of its first segment and of the rest.
pub length_cons : (x : Segment) (xs : List Segment) → chunk_length (x ∷ xs) ≡ x.length + chunk_length xs
unfolding chunk_length total
length_cons x xs = refl

pub length_none : chunk_length [] ≡ 0
unfolding chunk_length total
length_none = refl

-- Whether the rest of a chunk is wrong, behind segments that are all full or not.
abbrev pub rest_wrong : Bool → List Segment → List Segment → Bool
rest_wrong full sent back =
    any memory_differs (pairs sent back) || (any length_above (pairs sent back) || (filled_behind_gap (pairs sent back) || (not full && any (λ q. non_empty q.back) (pairs sent back))))

-- Before the first segment none is short.
rest_all : (sent back : List Segment) → segments_wrong (record { sent = sent; back = back }) ≡ rest_wrong true sent back
rest_all sent back = simp (or-false (filled_behind_gap (pairs sent back)))

-- Behind the last nothing is wrong.
rest_none : (full : Bool) → rest_wrong full [] [] ≡ false
unfolding pairs any filled_behind_gap
rest_none true = refl
rest_none false = refl

-- The first segment apart from the rest, where neither has another fault.
turned : (short later gap full here : Bool) → (((short && later) || gap) || (not full && (here || later))) ≡ ((not full && here) || (gap || (not (full && not short) && later)))
turned true later gap true here = simp or-false (or_comm later gap)
turned false later gap true here = refl
turned short true gap false here = simp or-true
turned short false gap false here = simp (and-false, or-false) (or_comm gap here)

apart : (other others above aboves short later gap full here : Bool) → ((other || others) || ((above || aboves) || (((short && later) || gap) || (not full && (here || later))))) ≡ ((other || (above || (not full && here))) || (others || (aboves || (gap || (not (full && not short) && later)))))
apart true others above aboves short later gap full here = refl
apart false true above aboves short later gap full here = sym (or-true (above || (not full && here)))
apart false false true aboves short later gap full here = refl
apart false false false true short later gap full here = sym (or-true (not full && here))
apart false false false false short later gap full here = turned short later gap full here

rest_next : (full : Bool) (x y : Segment) (xs ys : List Segment) → rest_wrong full (x ∷ xs) (y ∷ ys) ≡ (segment_wrong full (record { sent = x; back = y }) || rest_wrong (full && not (not_full (record { sent = x; back = y }))) xs ys)
unfolding pairs any filled_behind_gap
rest_next full x y xs ys =
    let p : Pair Segment = record { sent = x; back = y } in
    let ps = pairs xs ys in
    apart (memory_differs p) (any memory_differs ps) (length_above p) (any length_above ps) (not_full p) (any (λ q. non_empty q.back) ps) (filled_behind_gap ps) full (non_empty y)

-- All are full where as much landed as was offered.
full_by : (offered landed x y : ℕ) (all here : Bool) → landed ≤ offered → y ≤ x → eqb landed offered ≡ all → eqb x y ≡ here → (all && not (not here)) ≡ eqb (landed + y) (offered + x)
full_by offered landed x y true true h k e f = let p = eqb-true landed offered e in let q = eqb-true x y f in sym (eq-eqb (landed + y) (offered + x) (omega arith))
full_by offered landed x y true false h k e f = let p = eqb-true landed offered e in sym (ne_eqb (landed + y) (offered + x) (λ z. eqb-false x y f (omega arith)))
full_by offered landed x y false here h k e f = sym (ne_eqb (landed + y) (offered + x) (λ z. eqb-false landed offered e (omega arith)))

-- Segment j of a chunk in words, before the rest.
pub chunk_next : (from i n j : ℕ) (w : List ℕ) (x : Segment) → x ≡ segment_in (drop (from + (i + j) * 4) w) → j < n → i + n ≤ 16 → drop j (take n (drop i (segments_in from w))) ≡ x ∷ drop (j + 1) (take n (drop i (segments_in from w)))
chunk_next from i n j w x e h few =
    let l = segments_in from w in
    let full = length_segments from w in
    let here : get_or (drop i l) j zero_segment ≡ x = get_or-drop i l j zero_segment ∙ segments_here from w (i + j) (omega arith) ∙ sym e in
    next_of (drop i l) j n zero_segment h (rw length-drop (omega arith)) ∙ rw here

-- Behind its last segment there is none.
pub chunk_end : (from i n j : ℕ) (w : List ℕ) → n ≤ j → drop j (take n (drop i (segments_in from w))) ≡ []
chunk_end from i n j w h = drop_of_length-le (take n (drop i (segments_in from w))) {i = j} (rw length-take (omega arith))

-- The first j segments of a chunk were compared, and no fault was found.
pub record Comparing (sent back : List Segment) (offered landed j : ℕ) : Type 0 where
  pub within : landed ≤ offered
  pub wrong : segments_wrong (record { sent = sent; back = back }) ≡ rest_wrong (eqb landed offered) (drop j sent) (drop j back)
  pub bytes : chunk_length back ≡ landed + chunk_length (drop j back)

pub comparing_starts : (sent back : List Segment) → Comparing sent back 0 0 0
comparing_starts sent back = record { within = omega arith; wrong = rest_all sent back; bytes = sym (zero-add _) }

module _ (sent back : List Segment) (offered landed j : ℕ) (c : Comparing sent back offered landed j) where
  -- One more, which may come back so.
  pub comparing_next : (x y : Segment) → drop j sent ≡ x ∷ drop (j + 1) sent → drop j back ≡ y ∷ drop (j + 1) back → segment_wrong (eqb landed offered) (record { sent = x; back = y }) ≡ false → Comparing sent back (offered + x.length) (landed + y.length) (j + 1)
  comparing_next x y s b fine =
      let p : Pair Segment = record { sent = x; back = y } in
      let above = ltb-false _ _ (neither _ _ (neither (memory_differs p) _ fine).1).0 in
      let below = c.within in
      let next : rest_wrong (eqb landed offered) (drop j sent) (drop j back) ≡ rest_wrong (eqb (landed + y.length) (offered + x.length)) (drop (j + 1) sent) (drop (j + 1) back) = rw (s, b, rest_next (eqb landed offered) x y (drop (j + 1) sent) (drop (j + 1) back), fine, full_by offered landed x.length y.length _ _ below above refl refl) in
      let more : chunk_length (drop j back) ≡ y.length + chunk_length (drop (j + 1) back) = rw b (length_cons y (drop (j + 1) back)) in
      let all = c.bytes in
      record { within = omega arith; wrong = c.wrong ∙ next; bytes = omega arith }

  -- One more, which may not.
  pub comparing_fault : (x y : Segment) → drop j sent ≡ x ∷ drop (j + 1) sent → drop j back ≡ y ∷ drop (j + 1) back → segment_wrong (eqb landed offered) (record { sent = x; back = y }) ≡ true → chunk_check (record { sent = sent; back = back }) ≡ None
  comparing_fault x y s b fault = simp (c.wrong, s, b, rest_next (eqb landed offered) x y (drop (j + 1) sent) (drop (j + 1) back), fault)

  -- None is left.
  pub comparing_ends : drop j sent ≡ [] → drop j back ≡ [] → chunk_check (record { sent = sent; back = back }) ≡ Some landed
  comparing_ends s b =
      let all : chunk_length back ≡ landed = c.bytes ∙ rw (b, length_none) (omega arith) in
      simp (c.wrong, s, b, rest_none (eqb landed offered), all)
