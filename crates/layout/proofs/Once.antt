-- Each place of a message is one of the base, of a chunk or of padding, once; so these lie apart.
-- Assumes nothing.
use mathlib.Core.Path.{◌≡◌, refl, ap, ◌∙◌}
use mathlib.Core.Logic.{◌≢◌}
use mathlib.Core.Bool.{Bool, true, false, cond}
use mathlib.Core.List.{List, [], ◌∷◌, ◌++◌, append-nil}
use Prim.Native.Nat.{ℕ, zero, suc, ◌+◌, ◌-◌, ◌≤◌}
use native.Mathlib.Nat.{add-zero, add-suc, suc-add}
use native.Mathlib.Omega.{arith}
use lib.Dec.{ltb, eqb}
use borrow.Author.Tests.{ltb-true, ltb-false, lt-ltb, le-ltb, eqb-true, eqb-false, eq-eqb}
use Rattle.layout.specs.Places.{from}
use Rattle.header.specs.declared.Kind.{Kind}
use Rattle.header.specs.declared.Kind.TheVariants.{Msg, Nomsg, Error}
use Rattle.layout.specs.Layout.{rounded_up, rounded_total, stands, places, gaps, paddings, base_places, padding_places, pulled_places, message_length}
use Rattle.layout.specs.declared.Run.{Run}
use Rattle.layout.proofs.ChunksStand.{rounded_most}
use Rattle.layout.proofs.Placed.{Placed, all_placed}
use Rattle.layout.proofs.Apart.{Avoids, Apart}
use Rattle.layout.specs.Once.{times, Once}

pub times_append : (k : ℕ) (ps qs : List ℕ) → times k (ps ++ qs) ≡ times k ps + times k qs
unfolding times
times_append k [] qs = omega arith
times_append k (p ∷ ps) qs = omega (arith, times_append k ps qs)

-- 1 for a place before `end`, 0 for one at it or behind it.
unfoldable before : ℕ → ℕ → ℕ
before end k = cond (ltb k end) 1 0

-- A place more.
before_next : (a k : ℕ) → cond (eqb k a) 1 0 + before a k ≡ before (suc a) k
unfolding before
before_next a k = by (eqb k a) (ltb k a) refl refl
  where
    by : (x y : Bool) → eqb k a ≡ x → ltb k a ≡ y → cond x 1 0 + cond y 1 0 ≡ cond (ltb k (suc a)) 1 0
    by true true e f = absurd (let q = eqb-true k a e in let l = ltb-true k a f in omega arith)
    by true false e f = let q = eqb-true k a e in rw (lt-ltb k (suc a) (omega arith))
    by false true e f = let l = ltb-true k a f in rw (lt-ltb k (suc a) (omega arith))
    by false false e f = let n = eqb-false k a e in let g = ltb-false k a f in rw (le-ltb k (suc a) (omega arith))

before_most : (a k : ℕ) → before a k ≤ 1
unfolding before
before_most a k = by (ltb k a)
  where
    by : (x : Bool) → cond x 1 0 ≤ 1
    by true = omega arith
    by false = omega arith

-- The places of a run: those before its end that are not before its start.
times_from : (k a n : ℕ) → times k (from a n) + before a k ≡ before (a + n) k
unfolding times from
times_from k a zero = rw add-zero (omega arith)
times_from k a (suc n) = rw (add-suc, ← suc-add a n) (omega (arith, times_from k (suc a) n, before_next a k))

times_run : (k a n b : ℕ) → a + n ≡ b → times k (from a n) + before a k ≡ before b k
times_run k a n b e = times_from k a n ∙ ap (λ (m : ℕ). before m k) e

once_from : (k a m t : ℕ) (cs : List Run) → a ≤ t → Placed a t cs → m ≡ t + rounded_total cs →
    times k (places (gaps a m cs)) + times k (places cs) + times k (places (paddings cs)) + before a k ≡ before m k
unfolding places gaps paddings Placed rounded_total times
once_from k a m t [] h s e = rw append-nil (omega (arith, times_run k a (m - a) m (omega arith)))
once_from k a m t (c ∷ cs) h s e =
    let up = (rounded_most c.length).0 in
    let gap = times_run k a (c.at - a) c.at (omega arith) in
    let chunk = times_run k c.at c.length (c.at + c.length) refl in
    let pad = times_run k (c.at + c.length) (rounded_up c.length - c.length) (c.at + rounded_up c.length) (omega arith) in
    let rest = once_from k (c.at + rounded_up c.length) m (t + rounded_up c.length) cs (omega arith) s.2 (omega arith) in
    rw (times_append k (from a (c.at - a)), times_append k (from c.at c.length), times_append k (from (c.at + c.length) (rounded_up c.length - c.length))) (omega arith)

before_none : (k : ℕ) → before 0 k ≡ 0
unfolding before
before_none k = rw (le-ltb k 0 (omega arith))

-- "each inline byte, pulled byte and padding byte at its defined place, once"
pub once : (base : ℕ) (cs : List Run) → stands base 0 0 cs ≡ true → Once base cs
unfolding Once base_places padding_places before
once base cs s k = omega (arith, before_none k, once_from k 0 (message_length base cs) base cs (omega arith) (all_placed base cs s) refl)

-- Places that stand nowhere in a list, lists that share none, and lists with none twice.
pub avoids_times : (p : ℕ) (qs : List ℕ) → times p qs ≡ 0 → Avoids p qs
unfolding times Avoids
avoids_times p [] e = tt
avoids_times p (q ∷ qs) e = by (eqb p q) refl e (avoids_times p qs)
  where
    by : (x : Bool) → eqb p q ≡ x → cond x 1 0 + times p qs ≡ 0 → (times p qs ≡ 0 → Avoids p qs) → (p ≢ q) × Avoids p qs
    by true f z ih = absurd (omega arith)
    by false f z ih = (eqb-false p q f, ih (omega arith))

times_here : (p : ℕ) (ps : List ℕ) → times p (p ∷ ps) ≡ suc (times p ps)
unfolding times
times_here p ps = rw (eq-eqb p p refl) (omega arith)

times_more : (k p : ℕ) (ps : List ℕ) → times k ps ≤ times k (p ∷ ps)
unfolding times
times_more k p ps = omega arith

pub apart_times : (ps qs : List ℕ) → ((k : ℕ) → times k ps + times k qs ≤ 1) → Apart ps qs
unfolding Apart
apart_times [] qs h = tt
apart_times (p ∷ ps) qs h = (avoids_times p qs (omega (arith, h p, times_here p ps)), apart_times ps qs (λ k. omega (arith, h k, times_more k p ps)))

unfoldable pub Distinct : List ℕ → Type 0
Distinct [] = Unit {0}
Distinct (p ∷ ps) = Avoids p ps × Distinct ps

pub distinct_times : (ps : List ℕ) → ((k : ℕ) → times k ps ≤ 1) → Distinct ps
unfolding Distinct
distinct_times [] h = tt
distinct_times (p ∷ ps) h = (avoids_times p ps (omega (arith, h p, times_here p ps)), distinct_times ps (λ k. omega (arith, h k, times_more k p ps)))

-- A pulled place is pulled once, and is no place of padding; the base lies apart from chunks and padding.
module _ (base : ℕ) (cs : List Run) (s : stands base 0 0 cs ≡ true) where
  each_once : (k : ℕ) → times k (base_places base cs) + times k (places cs) + times k (padding_places cs) ≤ 1
  unfolding Once before
  each_once k = omega (arith, once base cs s k, before_most (message_length base cs) k)

  times_pulled : (kind : Kind) (k : ℕ) → times k (pulled_places kind base cs) ≤ times k (base_places base cs) + times k (places cs)
  unfolding pulled_places times
  times_pulled Msg k = omega arith
  times_pulled Nomsg k = omega (arith, times_append k (base_places base cs) (places cs))
  times_pulled (Error e) k = omega arith

  pub pulled_distinct : (kind : Kind) → Distinct (pulled_places kind base cs)
  pulled_distinct kind = distinct_times (pulled_places kind base cs) (λ k. omega (arith, each_once k, times_pulled kind k))

  pub pulled_padding : (kind : Kind) → Apart (pulled_places kind base cs) (padding_places cs)
  pulled_padding kind = apart_times _ _ (λ k. omega (arith, each_once k, times_pulled kind k))

  pub base_padding : Apart (base_places base cs) (padding_places cs)
  base_padding = apart_times _ _ (λ k. omega (arith, each_once k))

  pub base_chunks : Apart (base_places base cs) (places cs)
  base_chunks = apart_times _ _ (λ k. omega (arith, each_once k))
