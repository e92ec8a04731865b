-- The walk over a read list: the chunk at hand, and the chunks from it on.
-- Assumes nothing.
use mathlib.Core.Path.{◌≡◌, refl, sym, ap, subst, ◌∙◌}
use mathlib.Core.Bool.{Bool, true, false, cond}
use mathlib.Core.List.{List, [], ◌∷◌}
use Prim.Native.Nat.{ℕ, ◌+◌, ◌-◌, ◌*◌, ◌≤◌, ◌<◌}
use native.Mathlib.Omega.{arith}
use native.Mathlib.Numerals.{add-one}
use lib.ListN.{length, take, drop, get_or}
use lib.Seq.{length-take-le, get_or-take, drop-cons, drop-length}
use lib.Dec.{eqb}
use borrow.Author.Tests.{eqb-true, eqb-false, eq-eqb, ne_eqb, leb-true}
use Rattle.wire.specs.Wire.{zero_read_segment}
use Rattle.wire.specs.declared.ReadSegment.{ReadSegment}
use Rattle.read_order.specs.ReadOrder.{never_falls, is_sorted}
use Rattle.read_order.proofs.Rising.{rises}
use Rattle.layout.specs.Layout.{run, join_chunk, other_chunks}
use Rattle.layout.specs.Internal.Walks.{joined_run, ended_length, Near}
use Rattle.layout.proofs.Remaining.{remaining, Above}
use Rattle.layout.specs.declared.Run.{Run}
use Rattle.layout.proofs.Joins.{Order, less, same, more, order, join_less, join_same, join_join, join_first, above_join}

-- What a step over a segment answers.
module _ (w : Run) (x : ReadSegment) (p l : ℕ) (here : p ≡ x.position) (size : l ≡ x.target.length) where
  pub joined_zero : p ≡ 0 → w ≡ joined_run w x
  unfolding joined_run
  joined_zero e = rw (eq-eqb x.position 0 (sym here ∙ e))

  module _ (elsewhere : p ≡ 0 → ⊥) where
    not_zero : eqb x.position 0 ≡ false
    not_zero = ne_eqb x.position 0 (λ e. elsewhere (here ∙ e))

    pub joined_same : w.at ≡ p → run w.at (w.length + l) ≡ joined_run w x
    unfolding joined_run
    joined_same e = rw (not_zero, eq-eqb w.at x.position (e ∙ here), size)

    pub joined_new : (w.at ≡ p → ⊥) → run p l ≡ joined_run w x
    unfolding joined_run
    joined_new n = rw (not_zero, ne_eqb w.at x.position (λ e. n (e ∙ sym here)), here, size)

pub ended_none : (w : Run) (x : ReadSegment) → w.at ≡ x.position → 0 ≡ ended_length w x
unfolding ended_length
ended_none w x e = rw (eq-eqb w.at x.position e)

pub ended_all : (w : Run) (x : ReadSegment) → (w.at ≡ x.position → ⊥) → w.length ≡ ended_length w x
unfolding ended_length
ended_all w x n = rw (ne_eqb w.at x.position n)

-- A segment at or behind the chunk at hand: where the chunk stands then; and the bytes at hand and those that end grow by the segment's at most.
module _ (w : Run) (x : ReadSegment) (up : w.at ≤ x.position) where
  other_run : (w.at ≡ x.position → ⊥) → joined_run w x ≡ run x.position x.target.length
  other_run n = sym (joined_new w x x.position x.target.length refl refl (λ e. n (omega arith)) n)

  pub joined_at : (joined_run w x).at ≡ x.position
  joined_at = by (eqb x.position 0) (eqb w.at x.position) refl refl
    where
      by : (a b : Bool) → eqb x.position 0 ≡ a → eqb w.at x.position ≡ b → (joined_run w x).at ≡ x.position
      by true b e f = let z = eqb-true x.position 0 e in ap (λ (r : Run). r.at) (sym (joined_zero w x x.position x.target.length refl refl z)) ∙ omega arith
      by false true e f = let s = eqb-true w.at x.position f in ap (λ (r : Run). r.at) (sym (joined_same w x x.position x.target.length refl refl (eqb-false x.position 0 e) s)) ∙ s
      by false false e f = ap (λ (r : Run). r.at) (other_run (eqb-false w.at x.position f))

  pub joined_length : (joined_run w x).length + ended_length w x ≤ w.length + x.target.length
  joined_length = by (eqb x.position 0) (eqb w.at x.position) refl refl
    where
      by : (a b : Bool) → eqb x.position 0 ≡ a → eqb w.at x.position ≡ b → (joined_run w x).length + ended_length w x ≤ w.length + x.target.length
      by true b e f =
          let z = eqb-true x.position 0 e in
          rw (← (joined_zero w x x.position x.target.length refl refl z), ← (ended_none w x (omega arith))) (omega arith)
      by false true e f =
          let s = eqb-true w.at x.position f in
          rw (← (joined_same w x x.position x.target.length refl refl (eqb-false x.position 0 e) s), ← (ended_none w x s)) (omega arith)
      by false false e f =
          let n = eqb-false w.at x.position f in
          rw (other_run n, ← (ended_all w x n)) (omega arith)

-- What ends was at hand.
pub ended_within_hand : (w : Run) (x : ReadSegment) → ended_length w x ≤ w.length
unfolding ended_length
ended_within_hand w x = by (eqb w.at x.position)
  where
    by : (b : Bool) → cond b 0 w.length ≤ w.length
    by true = omega arith
    by false = omega arith

-- Chunks of segments that never fall below a position stand at or behind it.
pub rising_above : (q last : ℕ) (xs : List ReadSegment) → never_falls last xs ≡ true → q < last → Above q (other_chunks xs)
unfolding other_chunks Above
rising_above q last [] e h = tt
rising_above q last (x ∷ xs) e h =
    let up = rises last x xs e in
    let above = leb-true last x.position up.above in
    rw (ne_eqb x.position 0 (omega arith)) (above_join q x.position x.target.length (other_chunks xs) (omega arith) (rising_above q x.position xs up.onward (omega arith)))

-- The chunk at hand w, and the segments xs still to come.
pub record Walk (w : Run) (xs : List ReadSegment) : Type 0 where
  pub rising : never_falls w.at xs ≡ true
  pub none : w.at ≡ 0 → w.length ≡ 0

pub walk_start : (xs : List ReadSegment) → never_falls 0 xs ≡ true → Walk (run 0 0) xs
walk_start xs e = record { rising = e; none = λ z. refl }

-- The chunks from the one at hand on.
pub at_first : (xs : List ReadSegment) → remaining (run 0 0) xs ≡ other_chunks xs
unfolding remaining
at_first xs = refl

none_at_hand : (w : Run) (xs : List ReadSegment) → w.at ≡ 0 → remaining w xs ≡ other_chunks xs
unfolding remaining
none_at_hand w xs e = rw (eq-eqb w.at 0 e)

some_at_hand : (w : Run) (xs : List ReadSegment) → (w.at ≡ 0 → ⊥) → remaining w xs ≡ join_chunk w.at w.length (other_chunks xs)
unfolding remaining
some_at_hand w xs n = rw (ne_eqb w.at 0 n)

-- At the end of the list it is the last, if there is one.
pub data Last (w : Run) : Type 0 where
  nothing : w.length ≡ 0 → remaining w [] ≡ [] → Last w
  itself : remaining w [] ≡ w ∷ [] → Last w

pub last : (w : Run) → Walk w [] → Last w
unfolding other_chunks join_chunk
last w k = by (eqb w.at 0) refl
  where
    by : (b : Bool) → eqb w.at 0 ≡ b → Last w
    by true e = let z = eqb-true w.at 0 e in nothing (k.none z) (none_at_hand w [] z)
    by false e = itself (some_at_hand w [] (eqb-false w.at 0 e))

-- Chunks of which the first stands at p.
pub record Headed (p : ℕ) (cs : List Run) : Type 0 where
  pub size : ℕ
  pub rest : List Run
  pub is : cs ≡ run p size ∷ rest

headed_join : (p l : ℕ) (cs : List Run) → 0 < p → Above (p - 1) cs → Headed p (join_chunk p l cs)
unfolding join_chunk Above
headed_join p l [] h a = record { size = l; rest = []; is = refl }
headed_join p l (c ∷ cs) h a = by (order p c.at)
  where
    by : Order p c.at → Headed p (join_chunk p l (c ∷ cs))
    by (less b) = record { size = l; rest = c ∷ cs; is = join_less p l c cs b }
    by (same b) = record { size = l + c.length; rest = cs; is = join_same p l c cs b ∙ ap (λ (q : ℕ). run q (l + c.length) ∷ cs) (sym b) }
    by (more b) = absurd (let above = a.0 in omega arith)

pub headed : (w : Run) (xs : List ReadSegment) → (w.at ≡ 0 → ⊥) → never_falls w.at xs ≡ true → Headed w.at (remaining w xs)
headed w xs n e =
    rw (some_at_hand w xs n) (headed_join w.at w.length (other_chunks xs) (omega arith) (rising_above (w.at - 1) w.at xs e (omega arith)))

-- A segment more: it goes on with the chunk at hand, opens the first, or ends the chunk at hand and opens the next.
pub data Step (w : Run) (x : ReadSegment) (xs : List ReadSegment) : Type 0 where
  joins : x.position ≡ w.at → ended_length w x ≡ 0 → remaining w (x ∷ xs) ≡ remaining (joined_run w x) xs → Step w x xs
  opens : w.at ≡ 0 → ended_length w x ≡ 0 → remaining w (x ∷ xs) ≡ remaining (joined_run w x) xs → Headed x.position (remaining (joined_run w x) xs) → Step w x xs
  ends : ended_length w x ≡ w.length → remaining w (x ∷ xs) ≡ w ∷ remaining (joined_run w x) xs → Headed x.position (remaining (joined_run w x) xs) → Step w x xs

module _ (w : Run) (x : ReadSegment) (xs : List ReadSegment) (k : Walk w (x ∷ xs)) where
  pub above : w.at ≤ x.position
  above = leb-true w.at x.position (rises w.at x xs k.rising).above

  -- A chunk at another position is a new one.
  new_chunk : (w.at ≡ x.position → ⊥) → (x.position ≡ 0 → ⊥)
  new_chunk n e = let up = above in n (omega arith)

  new_run : (w.at ≡ x.position → ⊥) → joined_run w x ≡ run x.position x.target.length
  new_run n = sym (joined_new w x x.position x.target.length refl refl (new_chunk n) n)

  pub at_position_lem : (joined_run w x).at ≡ x.position
  at_position_lem = joined_at w x above

  pub walk_next : Walk (joined_run w x) xs
  walk_next =
      record {
        rising = rw at_position_lem (rises w.at x xs k.rising).onward;
        none = λ e. (let z = sym at_position_lem ∙ e in let up = above in rw (← (joined_zero w x x.position x.target.length refl refl z)) (k.none (omega arith)));
      }

  go_zero : x.position ≡ 0 → remaining w (x ∷ xs) ≡ remaining (joined_run w x) xs
  unfolding other_chunks
  go_zero z =
      let up = above in
      let none : w.at ≡ 0 = omega arith in
      rw (← (joined_zero w x x.position x.target.length refl refl z), none_at_hand w (x ∷ xs) none, none_at_hand w xs none, eq-eqb x.position 0 z)

  go_same : (x.position ≡ 0 → ⊥) → w.at ≡ x.position → remaining w (x ∷ xs) ≡ remaining (joined_run w x) xs
  unfolding other_chunks
  go_same n e =
      let there : (w.at ≡ 0 → ⊥) = λ z. n (sym e ∙ z) in
      rw (← (joined_same w x x.position x.target.length refl refl n e), some_at_hand w (x ∷ xs) there, some_at_hand (run w.at (w.length + x.target.length)) xs there, ne_eqb x.position 0 n, ← e)
      (join_join w.at w.length x.target.length (other_chunks xs))

  module _ (n : w.at ≡ x.position → ⊥) where
    head : Headed x.position (remaining (joined_run w x) xs)
    head = subst (λ (p : ℕ). Headed p (remaining (joined_run w x) xs)) at_position_lem (headed (joined_run w x) xs (λ e. new_chunk n (sym at_position_lem ∙ e)) walk_next.rising)

    behind : remaining (joined_run w x) xs ≡ other_chunks (x ∷ xs)
    unfolding other_chunks
    behind = rw (new_run n, some_at_hand (run x.position x.target.length) xs (new_chunk n), ne_eqb x.position 0 (new_chunk n))

    open_first : w.at ≡ 0 → remaining w (x ∷ xs) ≡ remaining (joined_run w x) xs
    open_first z = rw behind (none_at_hand w (x ∷ xs) z)

    open_next : (w.at ≡ 0 → ⊥) → remaining w (x ∷ xs) ≡ w ∷ remaining (joined_run w x) xs
    open_next there =
        let up = above in
        rw (behind, some_at_hand w (x ∷ xs) there)
        (join_first w.at w.length (other_chunks (x ∷ xs)) (rw (← behind, new_run n, some_at_hand (run x.position x.target.length) xs (new_chunk n)) (above_join w.at x.position x.target.length (other_chunks xs) (omega arith) (rising_above w.at x.position xs (rises w.at x xs k.rising).onward (omega arith)))))

  pub length_next : (joined_run w x).length + ended_length w x ≤ w.length + x.target.length
  length_next = joined_length w x above

  pub step : Step w x xs
  step = by (eqb w.at x.position) (eqb x.position 0) (eqb w.at 0) refl refl refl
    where
      by : (a b c : Bool) → eqb w.at x.position ≡ a → eqb x.position 0 ≡ b → eqb w.at 0 ≡ c → Step w x xs
      by true true c e f g = let s = eqb-true w.at x.position e in joins (sym s) (sym (ended_none w x s)) (go_zero (eqb-true x.position 0 f))
      by true false c e f g = let s = eqb-true w.at x.position e in joins (sym s) (sym (ended_none w x s)) (go_same (eqb-false x.position 0 f) s)
      by false b true e f g =
          let n = eqb-false w.at x.position e in
          let z = eqb-true w.at 0 g in
          opens z (sym (ended_all w x n) ∙ k.none z) (open_first n z) (head n)
      by false b false e f g =
          let n = eqb-false w.at x.position e in
          ends (sym (ended_all w x n)) (open_next n (eqb-false w.at 0 g)) (head n)

-- No number on the way is too large: behind i segments, with so many rounded bytes of earlier chunks.
pub record Low (i earlier : ℕ) (w : Run) : Type 0 where
  pub sum : earlier + w.length ≤ i * 4294967300
  pub at : w.at ≤ 4294967295

-- Behind i segments, with those to come.
pub record Along (to-come : List ReadSegment) (i earlier : ℕ) (w : Run) : Type 0 where
  pub walk : Walk w to-come
  pub low : Low i earlier w

pub along_start : (reads : List ReadSegment) → is_sorted reads ≡ true → Along reads 0 0 (run 0 0)
along_start reads e = record { walk = walk_start reads e; low = record { sum = omega arith; at = omega arith } }

-- What is known at a segment x, with xs behind it, and behind the last.
pub record Here (to-come xs : List ReadSegment) (i earlier : ℕ) (w : Run) (x : ReadSegment) : Type 0 where
  pub rest : to-come ≡ x ∷ xs
  pub walk : Walk w (x ∷ xs)
  pub ended_most : ended_length w x ≤ w.length
  pub sum : earlier + w.length ≤ i * 4294967300
  pub low : w.at ≤ 4294967295
  pub onward : (size : ℕ) (r : Run) → size ≤ ended_length w x + 3 → r ≡ joined_run w x → Near x → Along xs (i + 1) (earlier + size) r

pub record Behind (to-come : List ReadSegment) (i earlier : ℕ) (w : Run) : Type 0 where
  pub none : to-come ≡ []
  pub walk : Walk w []
  pub sum : earlier + w.length ≤ i * 4294967300
  pub low : w.at ≤ 4294967295

module _ (to-come : List ReadSegment) (i earlier : ℕ) (w : Run) (k : Along to-come i earlier w) where
  pub here_of : (x : ReadSegment) (xs : List ReadSegment) → to-come ≡ x ∷ xs → Here to-come xs i earlier w x
  here_of x xs rest =
      let walk = rw rest at k.walk in
      let more = length_next w x xs walk in
      record {
        rest = rest;
        walk = walk;
        ended_most = ended_within_hand w x;
        sum = k.low.sum;
        low = k.low.at;
        onward = λ size r most e near. rw e
            (record {
              walk = walk_next w x xs walk;
              low = record { sum = omega (arith, k.low.sum, near.near_length); at = rw (at_position_lem w x xs walk) (let p = near.near_position in omega arith) };
            });
      }

  pub behind_of : to-come ≡ [] → Behind to-come i earlier w
  behind_of none = record { none = none; walk = rw none at k.walk; sum = k.low.sum; low = k.low.at }

-- Segment i of a list's first n, and the end behind the last.
module _ (n i : ℕ) (a : List ReadSegment) (full : length a ≡ 16) (few : n ≤ 16) where
  pub segment_here : (x : ReadSegment) → x ≡ get_or a i zero_read_segment → i < n → drop i (take n a) ≡ x ∷ drop (i + 1) (take n a)
  segment_here x is h = rw (is, add-one, ← (get_or-take n a i zero_read_segment h)) (drop-cons (take n a) i zero_read_segment (rw (length-take-le n a (omega arith)) h))

  pub none_here : n ≤ i → i ≤ n → drop i (take n a) ≡ []
  none_here ge le =
      let all : i ≡ n = omega arith in
      ap (λ (m : ℕ). drop m (take n a)) (all ∙ sym (length-take-le n a (omega arith))) ∙ drop-length (take n a)

-- The same there.
module _ (n i earlier : ℕ) (a : List ReadSegment) (w : Run) (full : length a ≡ 16) (few : n ≤ 16) (k : Along (drop i (take n a)) i earlier w) where
  pub here : (x : ReadSegment) → x ≡ get_or a i zero_read_segment → i < n → Here (drop i (take n a)) (drop (i + 1) (take n a)) i earlier w x
  here x is h = here_of (drop i (take n a)) i earlier w k x (drop (i + 1) (take n a)) (segment_here n i a full few x is h)

  pub behind_all : n ≤ i → i ≤ n → Behind (drop i (take n a)) i earlier w
  behind_all ge le = behind_of (drop i (take n a)) i earlier w k (none_here n i a full few ge le)
