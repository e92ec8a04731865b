-- The walk over a read list that checks its positions too: of the segments to come nothing is known yet.
-- Assumes nothing.
use mathlib.Core.Path.{◌≡◌, refl, sym, ap, ◌∙◌}
use mathlib.Core.Bool.{Bool, true, false, cond, ◌&&◌, and-false}
use mathlib.Core.List.{List, [], ◌∷◌}
use Prim.Native.Nat.{ℕ, ◌+◌, ◌-◌, ◌%◌, ◌≤◌, ◌<◌}
use Rattle.std.specs.Prelude.{Option, Some, None}
use Rattle.std.proofs.lemmas.Option.{same_Some, none-some, cond_some}
use native.Mathlib.Omega.{arith}
use lib.ListN.{drop}
use lib.Dec.{leb}
use borrow.Author.Tests.{leb-true, leb-false, le-leb, eq-eqb, ne_eqb}
use Rattle.wire.specs.declared.ReadSegment.{ReadSegment}
use Rattle.answers.proofs.Checks.{both_hold}
use Rattle.chunk_lists.specs.Lists.{all_aligned}
use Rattle.read_order.specs.ReadOrder.{never_falls, is_sorted}
use Rattle.layout.specs.Layout.{run, other_chunks, rounded_up, rounded_total, stands}
use Rattle.layout.specs.Internal.Walks.{sums_of, sums_with, ended_length, joined_run, Near, Standable, standing_step, standing_length, chunk_check, reads_check}
use Rattle.layout.specs.declared.Sums.{Sums}
use Rattle.layout.specs.declared.Standing.{Standing}
use Rattle.layout.specs.declared.ReadsFound.{ReadsFound}
use Rattle.layout.proofs.Summing.{Summed, summed_start, summed_next, summed_all}
use Rattle.layout.proofs.ChunkWalk.{Walk, joined_at, joined_length, Low}
use Rattle.layout.proofs.ChunksStand.{Stood, rounded_most, stood_start, stood_next, stood_overlaps, stood_past, stood_all, stands_told, overlaps_told, cond_none}

-- Behind i segments, whose positions are in order; if the others' are, the chunks stand so far.
pub record Walking (base : ℕ) (reads : List ReadSegment) (i : ℕ) (w : Standing) : Type 0 where
  pub rising : is_sorted reads ≡ never_falls w.hand.at (drop i reads)
  pub none : w.hand.at ≡ 0 → w.hand.length ≡ 0
  pub within : w.earlier ≤ w.hand.at
  pub low : Low i w.earlier w.hand
  pub stood : never_falls w.hand.at (drop i reads) ≡ true → Stood base (other_chunks reads) w.hand w.earlier (drop i reads)

pub walking_start : (base : ℕ) (reads : List ReadSegment) → Walking base reads 0 (record { hand = run 0 0; earlier = 0 })
walking_start base reads =
    record { rising = refl; none = λ e. refl; within = omega arith; low = record { sum = omega arith; at = omega arith }; stood = λ e. stood_start base reads }

-- What a step says.
record Stepped (base : ℕ) (w : Standing) (x : ReadSegment) (v : Standing) : Type 0 where
  over : w.hand.at + rounded_up (ended_length w.hand x) ≤ x.position
  near : x.position - (w.earlier + rounded_up (ended_length w.hand x)) ≤ base
  is : v ≡ record { hand = joined_run w.hand x; earlier = w.earlier + rounded_up (ended_length w.hand x) }

data Refused (base : ℕ) (w : Standing) (x : ReadSegment) : Type 0 where
  overlaps : x.position < w.hand.at + rounded_up (ended_length w.hand x) → Refused base w x
  past : w.hand.at + rounded_up (ended_length w.hand x) ≤ x.position → base < x.position - (w.earlier + rounded_up (ended_length w.hand x)) → Refused base w x

module _ (base : ℕ) (w : Standing) (x : ReadSegment) where
  abbrev next : Standing
  next = record { hand = joined_run w.hand x; earlier = w.earlier + rounded_up (ended_length w.hand x) }

  stepped : (v : Standing) → standing_step base w x ≡ Some v → Stepped base w x v
  unfolding standing_step
  stepped v e = by (leb (w.hand.at + rounded_up (ended_length w.hand x)) x.position) (leb (x.position - (w.earlier + rounded_up (ended_length w.hand x))) base) refl refl e
    where
      by : (a b : Bool) → leb (w.hand.at + rounded_up (ended_length w.hand x)) x.position ≡ a → leb (x.position - (w.earlier + rounded_up (ended_length w.hand x))) base ≡ b →
          cond {A = Option Standing} (a && b) (Some next) None ≡ Some v → Stepped base w x v
      by true true p q g = record { over = leb-true _ _ p; near = leb-true _ _ q; is = sym (same_Some _ _ g) }
      by true false p q g = absurd (none-some _ g)
      by false b p q g = absurd (none-some _ g)

  not_stepped : standing_step base w x ≡ None → Refused base w x
  unfolding standing_step
  not_stepped e = by (leb (w.hand.at + rounded_up (ended_length w.hand x)) x.position) (leb (x.position - (w.earlier + rounded_up (ended_length w.hand x))) base) refl refl e
    where
      by : (a b : Bool) → leb (w.hand.at + rounded_up (ended_length w.hand x)) x.position ≡ a → leb (x.position - (w.earlier + rounded_up (ended_length w.hand x))) base ≡ b →
          cond {A = Option Standing} (a && b) (Some next) None ≡ None → Refused base w x
      by true true p q g = absurd (none-some _ (sym g))
      by true false p q g = past (leb-true _ _ p) (leb-false _ _ q)
      by false b p q g = overlaps (leb-false _ _ p)

module _ (base : ℕ) (reads : List ReadSegment) (i : ℕ) (w : Standing) (k : Walking base reads i w) where
  -- No sum of a step wraps.
  pub standable : i ≤ 16 → Standable w
  standable few = record { within = k.within; at = k.low.at; sum = omega (arith, k.low.sum) }

  module _ (x : ReadSegment) (rest : drop i reads ≡ x ∷ drop (i + 1) reads) where
    -- If all positions are in order, the walk goes on as over a list that was checked.
    walk : is_sorted reads ≡ true → Walk w.hand (x ∷ drop (i + 1) reads)
    walk e = record { rising = rw rest at (sym k.rising ∙ e); none = k.none }

    stood_here : is_sorted reads ≡ true → Stood base (other_chunks reads) w.hand w.earlier (x ∷ drop (i + 1) reads)
    stood_here e = rw rest at (k.stood (sym k.rising ∙ e))

    pub fallen : standing_step base w x ≡ None → is_sorted reads ≡ true → stands base 0 0 (other_chunks reads) ≡ false
    fallen e z = by (not_stepped base w x e)
      where
        by : Refused base w x → stands base 0 0 (other_chunks reads) ≡ false
        by (overlaps h) = overlaps_told base (other_chunks reads) (stood_overlaps base (other_chunks reads) w.hand w.earlier x (drop (i + 1) reads) (walk z) (stood_here z) _ refl h)
        by (past h far) = overlaps_told base (other_chunks reads) (stood_past base (other_chunks reads) w.hand w.earlier x (drop (i + 1) reads) (walk z) (stood_here z) _ refl h far)

    module _ (v : Standing) (e : standing_step base w x ≡ Some v) where
      up : w.hand.at ≤ x.position
      up = let over = (stepped base w x v e).over in omega arith

      there : (joined_run w.hand x).at ≡ x.position
      there = joined_at w.hand x up

      onward : never_falls w.hand.at (x ∷ drop (i + 1) reads) ≡ never_falls x.position (drop (i + 1) reads)
      unfolding never_falls
      onward = rw (le-leb w.hand.at x.position up)

      rising_next : is_sorted reads ≡ never_falls (joined_run w.hand x).at (drop (i + 1) reads)
      rising_next = k.rising ∙ ap (λ (l : List ReadSegment). never_falls w.hand.at l) rest ∙ onward ∙ rw there

      same_hand : x.position ≡ 0 → joined_run w.hand x ≡ w.hand
      unfolding joined_run
      same_hand p = rw (eq-eqb x.position 0 p)

      none_next : (joined_run w.hand x).at ≡ 0 → (joined_run w.hand x).length ≡ 0
      none_next z =
          let here : x.position ≡ 0 = sym there ∙ z in
          let first : w.hand.at ≡ 0 = (let h = up in omega arith) in
          rw (same_hand here) (k.none first)

      pub walking_next : Near x → Walking base reads (i + 1) v
      walking_next nx =
          let s = stepped base w x v e in
          let more = joined_length w.hand x up in
          let grown = (rounded_most (ended_length w.hand x)).1 in
          let over = s.over in
          rw s.is
          (record {
            rising = rising_next;
            none = none_next;
            within = rw there (let low = k.within in omega arith);
            low = record { sum = omega (arith, k.low.sum, nx.near_length); at = rw there (let p = nx.near_position in omega arith) };
            stood = λ z. (let all = rising_next ∙ z in stood_next base (other_chunks reads) w.hand w.earlier x (drop (i + 1) reads) (walk all) (stood_here all) _ refl over s.near);
          })

  -- Behind the last segment all is known.
  pub walked : drop i reads ≡ [] → (is_sorted reads ≡ true) × (stands base 0 0 (other_chunks reads) ≡ true) × (standing_length w ≡ rounded_total (other_chunks reads))
  unfolding never_falls
  walked none_left =
      let stood-now = rw none_left at (k.stood (rw none_left)) in
      let told = stands_told base (standing_length w) (other_chunks reads) (sym (stood_all base (other_chunks reads) w.hand w.earlier _ (record { rising = refl; none = k.none }) stood-now refl)) in
      (k.rising ∙ rw none_left, told.0, told.1)

-- With the sums, and positions that are multiples of 4.
pub record Checking (base : ℕ) (reads : List ReadSegment) (i : ℕ) (w : Standing) (s : Sums) : Type 0 where
  pub walking : Walking base reads i w
  pub aligned : all_aligned reads ≡ all_aligned (drop i reads)
  pub summed : Summed reads i s

pub checking_start : (base : ℕ) (reads : List ReadSegment) → Checking base reads 0 (record { hand = run 0 0; earlier = 0 }) (record { zero_length = 0; any_zero = false; all_length = 0 })
checking_start base reads = record { walking = walking_start base reads; aligned = refl; summed = summed_start reads }

-- A list is at fault if its chunks do not stand where it is sorted and its positions are multiples of 4.
faulty : (base : ℕ) (reads : List ReadSegment) → (is_sorted reads ≡ true → (all_aligned reads && stands base 0 0 (other_chunks reads)) ≡ false) → None ≡ reads_check base reads
unfolding reads_check
faulty base reads h = by (is_sorted reads) refl
  where
    by : (b : Bool) → is_sorted reads ≡ b → None ≡ reads_check base reads
    by true e = rw (e, h e)
    by false e = rw e

module _ (base : ℕ) (reads : List ReadSegment) (i : ℕ) (w : Standing) (s : Sums) (k : Checking base reads i w s) where
  module _ (x : ReadSegment) (rest : drop i reads ≡ x ∷ drop (i + 1) reads) where
    pub unaligned : (x.position % 4 ≡ 0 → ⊥) → None ≡ reads_check base reads
    unfolding all_aligned
    unaligned n = faulty base reads (λ e. rw (k.aligned, rest, ne_eqb (x.position % 4) 0 n))

    pub fallen_reads : standing_step base w x ≡ None → None ≡ reads_check base reads
    fallen_reads e = faulty base reads (λ z. rw (fallen base reads i w k.walking x rest e z) (and-false (all_aligned reads)))

    pub checking_next : (v : Standing) (t : Sums) → standing_step base w x ≡ Some v → x.position % 4 ≡ 0 → t ≡ sums_with s x → Near x → Checking base reads (i + 1) v t
    unfolding all_aligned
    checking_next v t e aligned te nx =
        record {
          walking = walking_next base reads i w k.walking x rest v e nx;
          aligned = k.aligned ∙ rw (rest, eq-eqb (x.position % 4) 0 aligned);
          summed = summed_next reads i s t x rest k.summed te nx.near_length;
        }

  pub checked : drop i reads ≡ [] → Some (record { sums = s; chunks = standing_length w }) ≡ reads_check base reads
  unfolding all_aligned reads_check
  checked none_left =
      let told = walked base reads i w k.walking none_left in
      let multiples : all_aligned reads ≡ true = k.aligned ∙ rw none_left in
      rw (told.0, multiples, told.1, told.2, summed_all reads i s none_left k.summed)

-- What the answer says.
pub record FineReads (base : ℕ) (reads : List ReadSegment) (f : ReadsFound) : Type 0 where
  pub rise : is_sorted reads ≡ true
  pub aligned : all_aligned reads ≡ true
  pub summed : f.sums ≡ sums_of reads
  pub stood : Some f.chunks ≡ chunk_check base (other_chunks reads)

pub fine_told : (base : ℕ) (reads : List ReadSegment) (f : ReadsFound) → reads_check base reads ≡ Some f → FineReads base reads f
unfolding reads_check
fine_told base reads f e =
    let told = cond_some _ _ _ e in
    let all = both_hold (is_sorted reads) _ told.0 in
    let stand = both_hold (all_aligned reads) _ all.1 in
    record { rise = all.0; aligned = stand.0; summed = rw (← told.1); stood = rw (stand.1, ← told.1) }

pub faulty_told : (base : ℕ) (reads : List ReadSegment) → reads_check base reads ≡ None → is_sorted reads ≡ true → all_aligned reads ≡ true → stands base 0 0 (other_chunks reads) ≡ false
unfolding reads_check
faulty_told base reads e rise multiples = cond_none (stands base 0 0 (other_chunks reads)) _ (rw (rise, multiples) at e)
