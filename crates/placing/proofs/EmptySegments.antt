-- Segments of length 0 make no gap: a walk over the gaps of the base may pass over them.
-- Assumes nothing.
use mathlib.Core.Path.{◌≡◌, refl, sym, ap, ◌∙◌}
use mathlib.Core.Bool.{Bool, true, false, cond}
use mathlib.Core.List.{List, [], ◌∷◌, ◌++◌, append_assoc}
use Prim.Native.Nat.{ℕ, ◌+◌, ◌-◌, ◌≤◌, ◌<◌}
use native.Mathlib.Nat.{add-zero, zero-add}
use native.Mathlib.Omega.{arith}
use lib.ListN.{length, take, drop, get_or}
use lib.Dec.{eqb, leb}
use borrow.Author.Tests.{eq-eqb, ne_eqb, eqb-true, eqb-false, leb-true, le-leb}
use Rattle.answers.proofs.Checks.{both_hold}
use Rattle.wire.specs.Wire.{zero_read_segment}
use Rattle.wire.specs.declared.ReadSegment.{ReadSegment}
use Rattle.read_order.specs.ReadOrder.{never_falls, is_sorted}
use Rattle.read_order.proofs.Rising.{rises, above_last, rising_from}
use Rattle.layout.specs.Places.{from}
use Rattle.layout.specs.Layout.{run, join_chunk, other_chunks, rounded_up, rounded_total, stands, message_length, places, gaps, base_places}
use Rattle.layout.specs.declared.Run.{Run}
use Rattle.layout.proofs.Remaining.{Above, Solid}
use Rattle.layout.proofs.Joins.{Order, less, same, more, order, join_less, join_same, join_more, join_first}
use Rattle.layout.proofs.Scatter.{from_add}
use Rattle.layout.proofs.ChunkWalk.{Along, Here, here_of, Behind, behind_of, segment_here, none_here}
use Rattle.layout.proofs.ChunksStand.{rounded_none}
use Rattle.layout.proofs.Placed.{Placed, all_placed}

-- The segments that are not empty, and the chunks that are not.
unfoldable pub non_empty : List ReadSegment → List ReadSegment
non_empty [] = []
non_empty (x ∷ xs) = cond (eqb x.target.length 0) (non_empty xs) (x ∷ non_empty xs)

pub empty_first : (x : ReadSegment) (xs : List ReadSegment) → x.target.length ≡ 0 → non_empty (x ∷ xs) ≡ non_empty xs
unfolding non_empty
empty_first x xs e = rw (eq-eqb x.target.length 0 e)

pub some_first : (x : ReadSegment) (xs : List ReadSegment) → (x.target.length ≡ 0 → ⊥) → non_empty (x ∷ xs) ≡ x ∷ non_empty xs
unfolding non_empty
some_first x xs n = rw (ne_eqb x.target.length 0 n)

unfoldable solid : List Run → List Run
solid [] = []
solid (c ∷ cs) = cond (eqb c.length 0) (solid cs) (c ∷ solid cs)

-- Chunks stand one behind the other.
unfoldable Strict : ℕ → List Run → Type 0
Strict q [] = Unit {0}
Strict q (c ∷ cs) = (q < c.at) × Strict c.at cs

strict_join : (q p l : ℕ) (cs : List Run) → q < p → Strict q cs → Strict q (join_chunk p l cs)
unfolding Strict join_chunk
strict_join q p l [] h s = (h, tt)
strict_join q p l (c ∷ cs) h s = by (order p c.at) (λ g. strict_join c.at p l cs g s.1)
  where
    by : Order p c.at → (c.at < p → Strict c.at (join_chunk p l cs)) → Strict q (join_chunk p l (c ∷ cs))
    by (less b) ih = rw (join_less p l c cs b) (h, (b, s.1))
    by (same b) ih = rw (join_same p l c cs b) (s.0, s.1)
    by (more b) ih = rw (join_more p l c cs b) (s.0, ih b)

strict_others : (xs : List ReadSegment) → Strict 0 (other_chunks xs)
unfolding Strict other_chunks
strict_others [] = tt
strict_others (x ∷ xs) = by (eqb x.position 0) refl (strict_others xs)
  where
    by : (b : Bool) → eqb x.position 0 ≡ b → Strict 0 (other_chunks xs) → Strict 0 (cond b (other_chunks xs) (join_chunk x.position x.target.length (other_chunks xs)))
    by true e s = s
    by false e s = let n = eqb-false x.position 0 e in strict_join 0 x.position x.target.length (other_chunks xs) (omega arith) s

-- An empty chunk parts no gap.
runs_touch : (a p l : ℕ) (r : List ℕ) → a ≤ p → p ≤ l → from a (p - a) ++ (from p (l - p) ++ r) ≡ from a (l - a) ++ r
runs_touch a p l r h k =
    let sum : l - a ≡ p - a + (l - p) = omega arith in
    let there : a + (p - a) ≡ p = omega arith in
    rw (sum, from_add a (p - a) (l - p), there, append_assoc)

empty_gap : (a m p t : ℕ) (cs : List Run) → a ≤ p → p ≤ m → Placed p t cs → places (gaps a m (run p 0 ∷ cs)) ≡ places (gaps a m cs)
unfolding places gaps Placed
empty_gap a m p t [] h k s = rw (rounded_none, add-zero) (runs_touch a p m [] h k)
empty_gap a m p t (c ∷ cs) h k s = rw (rounded_none, add-zero) (runs_touch a p c.at _ h s.0)

solid_empty : (c : Run) (cs : List Run) → c.length ≡ 0 → solid (c ∷ cs) ≡ solid cs
unfolding solid
solid_empty c cs e = rw (eq-eqb c.length 0 e)

solid_some : (c : Run) (cs : List Run) → (c.length ≡ 0 → ⊥) → solid (c ∷ cs) ≡ c ∷ solid cs
unfolding solid
solid_some c cs n = rw (ne_eqb c.length 0 n)

solid_above : (p q : ℕ) (cs : List Run) → p ≤ q → Strict q cs → Above p (solid cs)
unfolding solid Strict Above
solid_above p q [] h s = tt
solid_above p q (c ∷ cs) h s = by (eqb c.length 0) (solid_above p c.at cs (omega (arith, s.0)) s.1)
  where
    by : (b : Bool) → Above p (solid cs) → Above p (cond b (solid cs) (c ∷ solid cs))
    by true ih = ih
    by false ih = (omega (arith, s.0), ih)

strict_behind : (q : ℕ) (c : Run) (cs : List Run) → Strict q (c ∷ cs) → Strict c.at cs
unfolding Strict
strict_behind q c cs s = s.1

strict_from : (q p : ℕ) (c : Run) (cs : List Run) → p < c.at → Strict q (c ∷ cs) → Strict p (c ∷ cs)
unfolding Strict
strict_from q p c cs h s = (h, s.1)

solid_none : ◌≡◌ {A = List Run} [] (solid [])
unfolding solid
solid_none = refl

join_alone : (p l : ℕ) → (l ≡ 0 → ⊥) → solid (join_chunk p l []) ≡ join_chunk p l (solid [])
unfolding join_chunk solid
join_alone p l n = rw (ne_eqb l 0 n)

-- No bytes that join a position leave the others; some join them.
join_nothing : (q p : ℕ) (cs : List Run) → Strict q cs → solid (join_chunk p 0 cs) ≡ solid cs
unfolding join_chunk solid
join_nothing q p [] s = refl
join_nothing q p (c ∷ cs) s = by (order p c.at) (join_nothing c.at p cs (strict_behind q c cs s))
  where
    by : Order p c.at → solid (join_chunk p 0 cs) ≡ solid cs → solid (join_chunk p 0 (c ∷ cs)) ≡ solid (c ∷ cs)
    by (less h) ih = ap solid (join_less p 0 c cs h) ∙ solid_empty (run p 0) (c ∷ cs) refl
    by (same h) ih = ap solid (join_same p 0 c cs h ∙ ap (λ (n : ℕ). run c.at n ∷ cs) (zero-add c.length))
    by (more h) ih = ap solid (join_more p 0 c cs h) ∙ ap (λ (l : List Run). cond (eqb c.length 0) l (c ∷ l)) ih

join_some : (q p l : ℕ) (cs : List Run) → (l ≡ 0 → ⊥) → Strict q cs → solid (join_chunk p l cs) ≡ join_chunk p l (solid cs)
join_some q p l [] n s = join_alone p l n
join_some q p l (c ∷ cs) n s = by (order p c.at) (eqb c.length 0) refl (join_some c.at p l cs n (strict_behind q c cs s))
  where
    by : Order p c.at → (b : Bool) → eqb c.length 0 ≡ b → solid (join_chunk p l cs) ≡ join_chunk p l (solid cs) → solid (join_chunk p l (c ∷ cs)) ≡ join_chunk p l (solid (c ∷ cs))
    by (less h) b e ih =
        ap solid (join_less p l c cs h) ∙ solid_some (run p l) (c ∷ cs) n ∙ sym (join_first p l (solid (c ∷ cs)) (solid_above p p (c ∷ cs) (omega arith) (strict_from q p c cs h s)))
    by (same h) true e ih =
        let z = eqb-true c.length 0 e in
        let sum : l + c.length ≡ l = omega arith in
        ap solid (join_same p l c cs h ∙ ap (λ (m : ℕ). run c.at m ∷ cs) sum) ∙ solid_some (run c.at l) cs n
        ∙ ap (λ (m : ℕ). run m l ∷ solid cs) (sym h) ∙ sym (ap (join_chunk p l) (solid_empty c cs z) ∙ join_first p l (solid cs) (solid_above p c.at cs (omega arith) (strict_behind q c cs s)))
    by (same h) false e ih =
        let k = eqb-false c.length 0 e in
        ap solid (join_same p l c cs h) ∙ solid_some (run c.at (l + c.length)) cs (λ z. n (omega arith)) ∙ sym (ap (join_chunk p l) (solid_some c cs k) ∙ join_same p l c (solid cs) h)
    by (more h) true e ih =
        let z = eqb-true c.length 0 e in
        ap solid (join_more p l c cs h) ∙ solid_empty c (join_chunk p l cs) z ∙ ih ∙ sym (ap (join_chunk p l) (solid_empty c cs z))
    by (more h) false e ih =
        let k = eqb-false c.length 0 e in
        ap solid (join_more p l c cs h) ∙ solid_some c (join_chunk p l cs) k ∙ ap (λ (r : List Run). c ∷ r) ih ∙ sym (ap (join_chunk p l) (solid_some c cs k) ∙ join_more p l c (solid cs) h)

-- The chunks of a list without its empty segments are the chunks that are not empty.
others_solid : (xs : List ReadSegment) → other_chunks (non_empty xs) ≡ solid (other_chunks xs)
unfolding other_chunks non_empty
others_solid [] = solid_none
others_solid (x ∷ xs) = by (eqb x.target.length 0) (eqb x.position 0) refl refl (others_solid xs)
  where
    by : (a b : Bool) → eqb x.target.length 0 ≡ a → eqb x.position 0 ≡ b → other_chunks (non_empty xs) ≡ solid (other_chunks xs) →
        other_chunks (cond a (non_empty xs) (x ∷ non_empty xs)) ≡ solid (cond b (other_chunks xs) (join_chunk x.position x.target.length (other_chunks xs)))
    by true true e f ih = ih
    by true false e f ih = let z = eqb-true x.target.length 0 e in ih ∙ sym (rw z (join_nothing 0 x.position (other_chunks xs) (strict_others xs)))
    by false true e f ih = rw f ih
    by false false e f ih = rw f (ap (join_chunk x.position x.target.length) ih ∙ sym (join_some 0 x.position x.target.length (other_chunks xs) (eqb-false x.target.length 0 e) (strict_others xs)))

placed_less : (a b t : ℕ) (cs : List Run) → a ≤ b → Placed b t cs → Placed a t cs
unfolding Placed
placed_less a b t [] h s = tt
placed_less a b t (c ∷ cs) h s = (omega (arith, s.0), s.1, s.2)

gaps_solid : (a m t : ℕ) (cs : List Run) → a ≤ t → m ≡ t + rounded_total cs → Placed a t cs → places (gaps a m cs) ≡ places (gaps a m (solid cs))
unfolding places gaps Placed rounded_total solid
gaps_solid a m t [] h e s = refl
gaps_solid a m t (c ∷ cs) h e s =
    by (eqb c.length 0) refl (λ g p. gaps_solid a m t cs h g p) (gaps_solid (c.at + rounded_up c.length) m (t + rounded_up c.length) cs (omega arith) (omega arith) s.2)
  where
    by : (b : Bool) → eqb c.length 0 ≡ b → (m ≡ t + rounded_total cs → Placed a t cs → places (gaps a m cs) ≡ places (gaps a m (solid cs))) →
        places (gaps (c.at + rounded_up c.length) m cs) ≡ places (gaps (c.at + rounded_up c.length) m (solid cs)) → places (gaps a m (c ∷ cs)) ≡ places (gaps a m (cond b (solid cs) (c ∷ solid cs)))
    by true f skip ih =
        let z = eqb-true c.length 0 f in
        let none : rounded_up c.length ≡ 0 = ap rounded_up z ∙ rounded_none in
        let there : Placed c.at t cs = rw (none, add-zero c.at, add-zero t) at s.2 in
        ap (λ (n : ℕ). places (gaps a m (run c.at n ∷ cs))) z
        ∙ empty_gap a m c.at t cs s.0 (omega (arith, s.1)) there
        ∙ skip (omega arith) (placed_less a c.at t cs s.0 there)
    by false f skip ih = ap (λ (ps : List ℕ). from a (c.at - a) ++ ps) ih

rounded_solid : (cs : List Run) → rounded_total (solid cs) ≡ rounded_total cs
unfolding rounded_total solid
rounded_solid [] = refl
rounded_solid (c ∷ cs) = by (eqb c.length 0) refl (rounded_solid cs)
  where
    by : (b : Bool) → eqb c.length 0 ≡ b → rounded_total (solid cs) ≡ rounded_total cs → rounded_total (cond b (solid cs) (c ∷ solid cs)) ≡ rounded_up c.length + rounded_total cs
    by true e ih = let none : rounded_up c.length ≡ 0 = ap rounded_up (eqb-true c.length 0 e) ∙ rounded_none in omega arith
    by false e ih = omega (arith, ih)

-- The base's places are those between the segments that are not empty.
base_solid : (base : ℕ) (xs : List ReadSegment) → stands base 0 0 (other_chunks xs) ≡ true → base_places base (other_chunks xs) ≡ base_places base (other_chunks (non_empty xs))
unfolding base_places
base_solid base xs s =
    rw (others_solid xs, rounded_solid (other_chunks xs)) (gaps_solid 0 (message_length base (other_chunks xs)) base (other_chunks xs) (omega arith) refl (all_placed base (other_chunks xs) s))

-- They stand, none is empty, and the segments are in order as before.
solid_solid : (cs : List Run) → Solid (solid cs)
unfolding Solid solid
solid_solid [] = tt
solid_solid (c ∷ cs) = by (eqb c.length 0) refl (solid_solid cs)
  where
    by : (b : Bool) → eqb c.length 0 ≡ b → Solid (solid cs) → Solid (cond b (solid cs) (c ∷ solid cs))
    by true e ih = ih
    by false e ih = let n = eqb-false c.length 0 e in (omega arith, ih)

stands_less : (base end behind earlier : ℕ) (cs : List Run) → end ≤ behind → stands base behind earlier cs ≡ true → stands base end earlier cs ≡ true
unfolding stands
stands_less base end behind earlier [] h s = refl
stands_less base end behind earlier (c ∷ cs) h s =
    let both = both_hold (leb behind c.at) _ s in
    let up = leb-true behind c.at both.0 in
    rw (le-leb end c.at (omega arith)) both.1

stands_solid : (base end earlier : ℕ) (cs : List Run) → stands base end earlier cs ≡ true → stands base end earlier (solid cs) ≡ true
unfolding stands solid
stands_solid base end earlier [] s = refl
stands_solid base end earlier (c ∷ cs) s =
    let one = both_hold (leb end c.at) _ s in
    let two = both_hold (leb (c.at - earlier) base) _ one.1 in
    by (eqb c.length 0) refl (leb-true end c.at one.0) (leb-true (c.at - earlier) base two.0) (stands_solid base (c.at + rounded_up c.length) (earlier + rounded_up c.length) cs two.1)
  where
    by : (b : Bool) → eqb c.length 0 ≡ b → end ≤ c.at → c.at - earlier ≤ base → stands base (c.at + rounded_up c.length) (earlier + rounded_up c.length) (solid cs) ≡ true → stands base end earlier (cond b (solid cs) (c ∷ solid cs)) ≡ true
    by true e up near ih =
        let none : rounded_up c.length ≡ 0 = ap rounded_up (eqb-true c.length 0 e) ∙ rounded_none in
        stands_less base end c.at earlier (solid cs) up (rw (none, add-zero c.at, add-zero earlier) at ih)
    by false e up near ih = rw (le-leb end c.at up, le-leb (c.at - earlier) base near) ih

rises_some : (last : ℕ) (xs : List ReadSegment) → never_falls last xs ≡ true → never_falls last (non_empty xs) ≡ true
unfolding never_falls non_empty
rises_some last [] e = refl
rises_some last (x ∷ xs) e = by (eqb x.target.length 0) (rises_some x.position xs (rises last x xs e).onward)
  where
    by : (b : Bool) → never_falls x.position (non_empty xs) ≡ true → never_falls last (cond b (non_empty xs) (x ∷ non_empty xs)) ≡ true
    by true ih = rising_from last x.position (non_empty xs) (above_last last x xs e) ih
    by false ih = rw (rises last x xs e).above ih

-- What a walk that passes over empty segments needs.
pub record PassedOver (base : ℕ) (reads : List ReadSegment) : Type 0 where
  pub rise : is_sorted (non_empty reads) ≡ true
  pub stand : stands base 0 0 (other_chunks (non_empty reads)) ≡ true
  pub solids : Solid (other_chunks (non_empty reads))
  pub same_message : message_length base (other_chunks (non_empty reads)) ≡ message_length base (other_chunks reads)
  pub same_places : base_places base (other_chunks reads) ≡ base_places base (other_chunks (non_empty reads))

pub passed_over_lem : (base : ℕ) (reads : List ReadSegment) → is_sorted reads ≡ true → stands base 0 0 (other_chunks reads) ≡ true → PassedOver base reads
passed_over_lem base reads r s =
    record {
      rise = rises_some 0 reads r;
      stand = rw (others_solid reads) (stands_solid base 0 0 (other_chunks reads) s);
      solids = rw (others_solid reads) (solid_solid (other_chunks reads));
      same_message = rw (others_solid reads, rounded_solid (other_chunks reads));
      same_places = base_solid base reads s;
    }

-- At segment i of a list's first n, which is empty or not, and behind the last: the walk goes over those to come that are not empty.
module _ (n i earlier : ℕ) (a : List ReadSegment) (w : Run) (full : length a ≡ 16) (few : n ≤ 16) (k : Along (non_empty (drop i (take n a))) i earlier w) where
  module _ (x : ReadSegment) (is : x ≡ get_or a i zero_read_segment) (h : i < n) where
    pub same_rest : x.target.length ≡ 0 → non_empty (drop i (take n a)) ≡ non_empty (drop (i + 1) (take n a))
    same_rest z = ap non_empty (segment_here n i a full few x is h) ∙ empty_first x (drop (i + 1) (take n a)) z

    pub empty_here : x.target.length ≡ 0 → Along (non_empty (drop (i + 1) (take n a))) (i + 1) earlier w
    empty_here z = record { walk = rw (same_rest z) at k.walk; low = record { sum = omega (arith, k.low.sum); at = k.low.at } }

    pub some_here : (x.target.length ≡ 0 → ⊥) → Here (non_empty (drop i (take n a))) (non_empty (drop (i + 1) (take n a))) i earlier w x
    some_here some =
        here_of (non_empty (drop i (take n a))) i earlier w k x (non_empty (drop (i + 1) (take n a)))
        (ap non_empty (segment_here n i a full few x is h) ∙ some_first x (drop (i + 1) (take n a)) some)

  pub none_to_come : n ≤ i → i ≤ n → Behind (non_empty (drop i (take n a))) i earlier w
  unfolding non_empty
  none_to_come ge le = behind_of (non_empty (drop i (take n a))) i earlier w k (ap non_empty (none_here n i a full few ge le))
