-- The walk over a read list that finds the run which a byte begins.
-- Assumes nothing.
use mathlib.Core.Path.{◌≡◌, sym, ap, subst, ◌∙◌}
use mathlib.Core.Bool.{true}
use mathlib.Core.List.{List, [], ◌∷◌, ◌++◌}
use Prim.Native.Nat.{ℕ, suc, ◌+◌, ◌-◌, ◌≤◌, ◌<◌}
use native.Mathlib.Nat.{add-zero, add_assoc}
use native.Mathlib.Omega.{arith}
use lib.ListN.{drop}
use lib.Dec.{leb}
use borrow.Author.Tests.{leb-true}
use Rattle.wire.specs.declared.ReadSegment.{ReadSegment}
use Rattle.answers.proofs.Checks.{both_hold}
use Rattle.layout.specs.Places.{from}
use Rattle.layout.specs.Layout.{run, other_chunks, rounded_up, rounded_total, stands, places, gaps, base_places, message_length}
use Rattle.layout.specs.Internal.Walks.{joined_run, ended_length}
use Rattle.layout.proofs.Remaining.{remaining, Solid, Seeks}
use Rattle.layout.specs.declared.Run.{Run}
use Rattle.layout.proofs.ChunkWalk.{Walk, Headed, Step, joins, opens, ends, step, at_position_lem, at_first, Last, nothing, itself, last}
use Rattle.layout.proofs.ChunksStand.{rounded_most, rounded_none}
use Rattle.layout.proofs.Scatter.{drop_within, drop_past}
use Rattle.layout.proofs.Placed.{Placed, stands_placed, above_gaps}
use Rattle.layout.proofs.Apart.{NotBelow}

-- The places behind k of `all` are those of rs behind `left`.
unfoldable pub Onward : List ℕ → ℕ → List Run → ℕ → Type 0
Onward all k rs left = (x : ℕ) → drop (k + x) all ≡ drop (left + x) (places rs)

-- The byte begins a part of the first run.
pub seek_here : (all : List ℕ) (k : ℕ) (r : Run) (rs : List Run) (left : ℕ) → left < r.length → Onward all k (r ∷ rs) left → Seeks all k (run (r.at + left) (r.length - left))
unfolding Onward places
seek_here all k r rs left h o =
    let all_of : left + (r.length - left) ≡ r.length + 0 = omega arith in
    record {
      some = omega arith;
      here =
          (rw (add-zero, add-zero) at (o 0)) ∙ drop_within left r.at r.length (places rs) (omega arith)
          ∙ ap (λ (ps : List ℕ). from (r.at + left) (r.length - left) ++ ps) (sym (o (r.length - left) ∙ rw all_of (drop_past 0 r.at r.length (places rs))));
    }

-- It lies behind the first run.
pub seek_next : (all : List ℕ) (k : ℕ) (r : Run) (rs : List Run) (left : ℕ) → r.length ≤ left → Onward all k (r ∷ rs) left → Onward all k rs (left - r.length)
unfolding Onward places
seek_next all k r rs left h o x =
    let e : left + x ≡ r.length + (left - r.length + x) = omega arith in
    o x ∙ rw e (drop_past (left - r.length + x) r.at r.length (places rs))

-- Before the chunks rs: all rounded lengths of those before, and where the gap before rs starts.
pub record Gap (base : ℕ) (cs : List Run) (k earlier start : ℕ) (rs : List Run) : Type 0 where
  pub reached : start ≤ k + earlier
  pub onward : Onward (base_places base cs) k (gaps start (message_length base cs) rs) (k + earlier - start)
  pub sum : earlier + rounded_total rs ≡ rounded_total cs
  pub stand : stands base start earlier rs ≡ true
  pub solid : Solid rs

-- The byte begins a run, and behind the run the places jump.
pub record GapRun (all : List ℕ) (k : ℕ) (r : Run) : Type 0 where
  pub seeks : Seeks all k r
  pub jump : NotBelow (suc (r.at + r.length)) (drop (k + r.length) all)

-- A run, said in two ways.
same_run : (all : List ℕ) (k p q l m : ℕ) → p ≡ q → l ≡ m → Seeks all k (run p l) → Seeks all k (run q m)
same_run all k p q l m e f s = subst (λ (n : ℕ). Seeks all k (run q n)) f (subst (λ (n : ℕ). Seeks all k (run n l)) e s)

-- The byte lies in the gap before a chunk at p, or behind the chunk c, or in the gap behind all.
gap_before : (base : ℕ) (cs : List Run) (k earlier start p : ℕ) (rs : List Run) → Gap base cs k earlier start rs → Headed p rs → k + earlier < p → GapRun (base_places base cs) k (run (k + earlier) (p - (k + earlier)))
unfolding gaps places Onward Placed Solid
gap_before base cs k earlier start p rs g h lt =
    let reached = g.reached in
    let placed = stands_placed base start earlier _ (rw h.is at g.stand) in
    let some = rw h.is at g.solid in
    let up = (rounded_most h.size).0 in
    let past : k + earlier - start + (p - (k + earlier)) ≡ p - start + 0 = omega arith in
    let end : k + earlier + (p - (k + earlier)) ≡ p = omega arith in
    let behind : drop (k + (p - (k + earlier))) (base_places base cs) ≡ places (gaps (p + rounded_up h.size) (message_length base cs) h.rest) = g.onward (p - (k + earlier)) ∙ rw (h.is, past) (drop_past 0 start (p - start) _) in
    record {
      seeks = same_run (base_places base cs) k (start + (k + earlier - start)) (k + earlier) (p - start - (k + earlier - start)) (p - (k + earlier)) (omega arith) (omega arith) (seek_here (base_places base cs) k (run start (p - start)) (gaps (p + rounded_up h.size) (message_length base cs) h.rest) (k + earlier - start) (omega arith) (rw h.is at g.onward));
      jump = rw (behind, end) (above_gaps (suc p) (p + rounded_up h.size) (message_length base cs) _ h.rest (omega (arith, some.0)) placed.2);
    }

gap_behind : (base : ℕ) (cs : List Run) (k earlier start : ℕ) (c : Run) (rs : List Run) → Gap base cs k earlier start (c ∷ rs) → c.at ≤ k + earlier → Gap base cs k (earlier + rounded_up c.length) (c.at + rounded_up c.length) rs
unfolding gaps stands rounded_total Solid
gap_behind base cs k earlier start c rs g le =
    let reached = g.reached in
    let both = both_hold (leb start c.at) _ g.stand in
    let behind-start = leb-true start c.at both.0 in
    let sum = g.sum in
    let left : k + earlier - start - (c.at - start) ≡ k + (earlier + rounded_up c.length) - (c.at + rounded_up c.length) = omega arith in
    record {
      reached = omega arith;
      onward = subst (λ (n : ℕ). Onward (base_places base cs) k (gaps (c.at + rounded_up c.length) (message_length base cs) rs) n) left (seek_next (base_places base cs) k _ _ (k + earlier - start) (omega arith) g.onward);
      sum = omega arith;
      stand = (both_hold (leb (c.at - earlier) base) _ both.1).1;
      solid = g.solid.1;
    }

gap_end : (base : ℕ) (cs : List Run) (k earlier start : ℕ) → k < base → Gap base cs k earlier start [] → GapRun (base_places base cs) k (run (k + earlier) (base - k))
unfolding gaps places rounded_total Onward NotBelow
gap_end base cs k earlier start lt g =
    let reached = g.reached in
    let sum = g.sum in
    let past : k + earlier - start + (base - k) ≡ message_length base cs - start + 0 = omega arith in
    let behind : drop (k + (base - k)) (base_places base cs) ≡ [] = g.onward (base - k) ∙ rw past (drop_past 0 start (message_length base cs - start) []) in
    record {
      seeks = same_run (base_places base cs) k (start + (k + earlier - start)) (k + earlier) (message_length base cs - start - (k + earlier - start)) (base - k) (omega arith) (omega arith) (seek_here (base_places base cs) k (run start (message_length base cs - start)) [] (k + earlier - start) (omega arith) g.onward);
      jump = rw behind tt;
    }

-- With the chunk w at hand, which the byte is not before.
pub record GapSought (base : ℕ) (cs : List Run) (k earlier : ℕ) (w : Run) (xs : List ReadSegment) : Type 0 where
  pub start : ℕ
  pub gap : Gap base cs k earlier start (remaining w xs)
  pub passed : w.at ≤ k + earlier

pub gap_start : (base : ℕ) (xs : List ReadSegment) (k : ℕ) → stands base 0 0 (other_chunks xs) ≡ true → Solid (other_chunks xs) → GapSought base (other_chunks xs) k 0 (run 0 0) xs
unfolding Onward base_places
gap_start base xs k s t =
    record {
      start = 0;
      gap = rw (at_first xs) (record { reached = omega arith; onward = λ x. (let e : k + 0 - 0 + x ≡ k + x = omega arith in rw e); sum = omega arith; stand = s; solid = t });
      passed = omega arith;
    }

-- A byte further on.
pub gap_advance : (base : ℕ) (cs : List Run) (k earlier m : ℕ) (w : Run) (xs : List ReadSegment) → GapSought base cs k earlier w xs → GapSought base cs (k + m) earlier w xs
unfolding Onward
gap_advance base cs k earlier m w xs s =
    let g = s.gap in
    let reached = g.reached in
    let passed = s.passed in
    let further : k + m + earlier - s.start ≡ k + earlier - s.start + m = omega arith in
    record {
      start = s.start;
      gap = record { reached = omega arith; onward = λ x. rw (further, add_assoc k m x, add_assoc (k + earlier - s.start) m x) (g.onward (m + x)); sum = g.sum; stand = g.stand; solid = g.solid };
      passed = omega arith;
    }

module _ (base : ℕ) (cs : List Run) (k earlier : ℕ) (w : Run) (x : ReadSegment) (xs : List ReadSegment) (walk : Walk w (x ∷ xs)) (s : GapSought base cs k earlier w (x ∷ xs)) (size : ℕ) (e : size ≡ rounded_up (ended_length w x)) where
  none_ended : ended_length w x ≡ 0 → earlier + size ≡ earlier
  none_ended z = let none : size ≡ 0 = e ∙ ap rounded_up z ∙ rounded_none in omega arith

  kept : ended_length w x ≡ 0 → remaining w (x ∷ xs) ≡ remaining (joined_run w x) xs → Gap base cs k (earlier + size) s.start (remaining (joined_run w x) xs)
  kept z is = rw (none_ended z, ← is) s.gap

  ended : ended_length w x ≡ w.length → remaining w (x ∷ xs) ≡ w ∷ remaining (joined_run w x) xs → Gap base cs k (earlier + size) (w.at + size) (remaining (joined_run w x) xs)
  ended z is =
      let all : rounded_up w.length ≡ size = sym (e ∙ ap rounded_up z) in
      rw all at (gap_behind base cs k earlier s.start w (remaining (joined_run w x) xs) (rw is at s.gap) s.passed)

  pub gap_here : k + (earlier + size) < x.position → GapRun (base_places base cs) k (run (k + (earlier + size)) (x.position - (k + (earlier + size))))
  gap_here lt = by (step w x xs walk)
    where
      by : Step w x xs → GapRun (base_places base cs) k (run (k + (earlier + size)) (x.position - (k + (earlier + size))))
      by (joins here z is) = absurd (let none = none_ended z in let passed = s.passed in omega arith)
      by (opens first z is h) = gap_before base cs k (earlier + size) s.start x.position _ (kept z is) h lt
      by (ends z is h) = gap_before base cs k (earlier + size) (w.at + size) x.position _ (ended z is) h lt

  pub gap_next : x.position ≤ k + (earlier + size) → GapSought base cs k (earlier + size) (joined_run w x) xs
  gap_next le = by (step w x xs walk)
    where
      passed : (joined_run w x).at ≤ k + (earlier + size)
      passed = rw (at_position_lem w x xs walk) le

      by : Step w x xs → GapSought base cs k (earlier + size) (joined_run w x) xs
      by (joins here z is) = record { start = s.start; gap = kept z is; passed = passed }
      by (opens first z is h) = record { start = s.start; gap = kept z is; passed = passed }
      by (ends z is h) = record { start = w.at + size; gap = ended z is; passed = passed }

  -- It lies in the message.
  pub gap_within : x.position ≤ k + (earlier + size) → k ≤ base → k + (earlier + size) ≤ message_length base cs
  gap_within le most = let sum = (gap_next le).gap.sum in omega arith

pub gap_last : (base : ℕ) (cs : List Run) (k earlier size : ℕ) (w : Run) → Walk w [] → k < base → size ≡ rounded_up w.length → GapSought base cs k earlier w [] →
    GapRun (base_places base cs) k (run (k + (earlier + size)) (base - k))
gap_last base cs k earlier size w walk lt e s = by (last w walk)
  where
    by : Last w → GapRun (base_places base cs) k (run (k + (earlier + size)) (base - k))
    by (nothing z is) =
        let same : earlier + size ≡ earlier = (let none : size ≡ 0 = e ∙ ap rounded_up z ∙ rounded_none in omega arith) in
        rw same (gap_end base cs k earlier s.start lt (rw is at s.gap))
    by (itself is) = rw e (gap_end base cs k (earlier + rounded_up w.length) _ lt (gap_behind base cs k earlier s.start w [] (rw is at s.gap) s.passed))
