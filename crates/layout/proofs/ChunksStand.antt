-- The walk over a read list that checks where its chunks stand.
-- Assumes nothing.
use mathlib.Core.Path.{◌≡◌, refl, sym, ap, ◌∙◌}
use mathlib.Core.Bool.{Bool, true, false, cond}
use mathlib.Core.List.{List, [], ◌∷◌}
use Prim.Native.Nat.{ℕ, ◌+◌, ◌-◌, ◌≤◌, ◌<◌}
use Rattle.std.specs.Prelude.{Some, None}
use Rattle.std.proofs.lemmas.Option.{none-some, cond_some}
use native.Mathlib.Omega.{arith}
use borrow.Author.Tests.{le-leb, lt-leb}
use Rattle.wire.specs.declared.ReadSegment.{ReadSegment}
use Rattle.layout.specs.Layout.{run, other_chunks, rounded_up, rounded_total, stands}
use Rattle.layout.specs.Internal.Walks.{joined_run, ended_length, chunk_check}
use Rattle.layout.proofs.Remaining.{remaining}
use Rattle.layout.specs.declared.Run.{Run}
use Rattle.layout.proofs.ChunkWalk.{Walk, Headed, Step, joins, opens, ends, step, above, at_position_lem, at_first, Last, nothing, itself, last}

-- Rounding adds 3 at most.
pub rounded_most : (l : ℕ) → (l ≤ rounded_up l) × (rounded_up l ≤ l + 3)
unfolding rounded_up
rounded_most l = (omega arith, omega arith)

pub rounded_none : rounded_up 0 ≡ 0
unfolding rounded_up
rounded_none = refl

-- A chunk that stands, one that overlaps the former, and one past the base.
stands_next : (base end earlier : ℕ) (c : Run) (cs : List Run) → end ≤ c.at → c.at - earlier ≤ base →
    stands base end earlier (c ∷ cs) ≡ stands base (c.at + rounded_up c.length) (earlier + rounded_up c.length) cs
unfolding stands
stands_next base end earlier c cs a b = rw (le-leb end c.at a, le-leb (c.at - earlier) base b)

stands_over : (base end earlier p : ℕ) (cs : List Run) → Headed p cs → p < end → stands base end earlier cs ≡ false
unfolding stands
stands_over base end earlier p cs h a = rw (h.is, lt-leb end p a)

stands_past : (base end earlier p : ℕ) (cs : List Run) → Headed p cs → end ≤ p → base < p - earlier → stands base end earlier cs ≡ false
unfolding stands
stands_past base end earlier p cs h a b = rw (h.is, le-leb end p a, lt-leb (p - earlier) base b)

overlaps : (base : ℕ) (cs : List Run) → stands base 0 0 cs ≡ false → chunk_check base cs ≡ None
overlaps base cs e = rw e

-- With the chunk w at hand: where the former one ends, and the rounded lengths of all before.
pub record Stood (base : ℕ) (cs : List Run) (w : Run) (earlier : ℕ) (xs : List ReadSegment) : Type 0 where
  pub end : ℕ
  pub same : stands base 0 0 cs ≡ stands base end earlier (remaining w xs)
  pub sum : earlier + rounded_total (remaining w xs) ≡ rounded_total cs
  pub below : earlier ≤ end
  pub behind : end ≤ w.at
  pub near : w.at - earlier ≤ base

pub stood_start : (base : ℕ) (xs : List ReadSegment) → Stood base (other_chunks xs) (run 0 0) 0 xs
stood_start base xs = record { end = 0; same = rw (at_first xs); sum = rw (at_first xs) (omega arith); below = omega arith; behind = omega arith; near = omega arith }

module _ (base : ℕ) (cs : List Run) (w : Run) (earlier : ℕ) (x : ReadSegment) (xs : List ReadSegment) (k : Walk w (x ∷ xs)) (s : Stood base cs w earlier (x ∷ xs)) (size : ℕ) (e : size ≡ rounded_up (ended_length w x)) where
  none_ended : ended_length w x ≡ 0 → size ≡ 0
  none_ended z = e ∙ ap rounded_up z ∙ rounded_none

  all_ended : ended_length w x ≡ w.length → rounded_up w.length ≡ size
  all_ended z = sym (e ∙ ap rounded_up z)

  -- What follows if the chunk at hand goes on, and if it ends.
  stays : ended_length w x ≡ 0 → remaining w (x ∷ xs) ≡ remaining (joined_run w x) xs → x.position - (earlier + size) ≤ base → Stood base cs (joined_run w x) (earlier + size) xs
  stays z is near =
      let nothing-more : earlier + size ≡ earlier = (let none = none_ended z in omega arith) in
      let below = s.below in
      let behind = s.behind in
      let up = above w x xs k in
      record {
        end = s.end;
        same = s.same ∙ rw (is, nothing-more);
        sum = rw (nothing-more, ← is) s.sum;
        below = omega arith;
        behind = rw (at_position_lem w x xs k) (omega arith);
        near = rw (at_position_lem w x xs k) near;
      }

  same_ended : ended_length w x ≡ w.length → remaining w (x ∷ xs) ≡ w ∷ remaining (joined_run w x) xs → stands base 0 0 cs ≡ stands base (w.at + size) (earlier + size) (remaining (joined_run w x) xs)
  same_ended z is = s.same ∙ rw (is, stands_next base s.end earlier w (remaining (joined_run w x) xs) s.behind s.near, all_ended z)

  pub stood_next : w.at + size ≤ x.position → x.position - (earlier + size) ≤ base → Stood base cs (joined_run w x) (earlier + size) xs
  unfolding rounded_total
  stood_next over near = by (step w x xs k)
    where
      by : Step w x xs → Stood base cs (joined_run w x) (earlier + size) xs
      by (joins here z is) = stays z is near
      by (opens none z is h) = stays z is near
      by (ends z is h) =
          let below = s.below in
          let behind = s.behind in
          let sum : earlier + (rounded_up w.length + rounded_total (remaining (joined_run w x) xs)) ≡ rounded_total cs = rw is at s.sum in
          let all = all_ended z in
          record {
            end = w.at + size;
            same = same_ended z is;
            sum = omega arith;
            below = omega arith;
            behind = rw (at_position_lem w x xs k) over;
            near = rw (at_position_lem w x xs k) near;
          }

  pub stood_overlaps : x.position < w.at + size → chunk_check base cs ≡ None
  stood_overlaps under = by (step w x xs k)
    where
      by : Step w x xs → chunk_check base cs ≡ None
      by (joins here z is) = absurd (let none = none_ended z in let up = above w x xs k in omega arith)
      by (opens first z is h) = absurd (let none = none_ended z in let up = above w x xs k in omega arith)
      by (ends z is h) = overlaps base cs (same_ended z is ∙ stands_over base (w.at + size) (earlier + size) x.position _ h under)

  pub stood_past : w.at + size ≤ x.position → base < x.position - (earlier + size) → chunk_check base cs ≡ None
  stood_past over past = by (step w x xs k)
    where
      by : Step w x xs → chunk_check base cs ≡ None
      by (joins here z is) = absurd (let none = none_ended z in let near = s.near in omega arith)
      by (opens first z is h) =
          let none = none_ended z in
          let behind = s.behind in
          let up = above w x xs k in
          overlaps base cs (s.same ∙ rw is (stands_past base s.end earlier x.position _ h (omega arith) (omega arith)))
      by (ends z is h) = overlaps base cs (same_ended z is ∙ stands_past base (w.at + size) (earlier + size) x.position _ h over past)

pub stood_all : (base : ℕ) (cs : List Run) (w : Run) (earlier size : ℕ) → Walk w [] → Stood base cs w earlier [] → size ≡ rounded_up w.length → Some (earlier + size) ≡ chunk_check base cs
unfolding stands rounded_total
stood_all base cs w earlier size k s e = by (last w k)
  where
    by : Last w → Some (earlier + size) ≡ chunk_check base cs
    by (nothing z is) =
        let none : size ≡ 0 = e ∙ ap rounded_up z ∙ rounded_none in
        let sum : earlier + size ≡ rounded_total cs = (let all = rw is at s.sum in omega arith) in
        rw (s.same, is, sum)
    by (itself is) =
        let sum : earlier + size ≡ rounded_total cs = (let all = rw is at s.sum in omega arith) in
        rw (s.same, is, stands_next base s.end earlier w [] s.behind s.near, sum)

-- What the answer says.
pub stands_told : (base size : ℕ) (cs : List Run) → chunk_check base cs ≡ Some size → (stands base 0 0 cs ≡ true) × (size ≡ rounded_total cs)
stands_told base size cs e = let told = cond_some (stands base 0 0 cs) (rounded_total cs) size e in (told.0, sym told.1)

pub cond_none : {A : Type 0} (b : Bool) (x : A) → cond b (Some x) None ≡ None → b ≡ false
cond_none true x e = absurd (none-some x (sym e))
cond_none false x e = refl

pub overlaps_told : (base : ℕ) (cs : List Run) → chunk_check base cs ≡ None → stands base 0 0 cs ≡ false
overlaps_told base cs e = cond_none (stands base 0 0 cs) (rounded_total cs) e
