-- The pulled places of each segment: joined they are the pulled places; one at a position other than 0 has a run of its own.
-- Assumes nothing.
use mathlib.Core.Path.{◌≡◌, refl, sym, ap, ◌∙◌}
use mathlib.Core.Bool.{Bool, true, false, cond, ◌||◌}
use mathlib.Core.List.{List, [], ◌∷◌, ◌++◌, append_assoc}
use Prim.Native.Nat.{ℕ, suc, ◌+◌, ◌-◌, ◌≤◌, ◌<◌}
use native.Mathlib.Nat.{add-zero, zero-add, add_assoc, add-suc, suc-add}
use native.Mathlib.Omega.{arith}
use lib.ListN.{length, take, drop, get_or, length-drop, take-append-drop}
use lib.Seq.{take-add, take_at, drop_at, drop-drop, take-append-le, drop-append-le, drop-append-add, length-take-le}
use lib.Dec.{eqb}
use borrow.Author.Tests.{leb-true, eqb-true, eqb-false, eq-eqb, ne_eqb}
use Rattle.wire.specs.Wire.{joined, stored}
use Rattle.wire.specs.declared.ReadSegment.{ReadSegment}
use Rattle.read_order.specs.ReadOrder.{never_falls}
use Rattle.read_order.proofs.Rising.{rises}
use Rattle.layout.specs.Places.{from, scatter}
use Rattle.header.specs.declared.Kind.{Kind}
use Rattle.header.specs.declared.Kind.TheVariants.{Msg, Nomsg, Error}
use Rattle.layout.specs.Layout.{kind_fits, any_at_zero, zero_length, base_length, pulled_places, join_chunk, other_chunks, rounded_up, rounded_total, stands, message_length, places, base_places}
use Rattle.layout.specs.Internal.Walks.{total_length, read_length}
use Rattle.layout.specs.declared.Run.{Run}
use Rattle.layout.proofs.Remaining.{Above}
use Rattle.layout.proofs.Joins.{Order, less, same, more, order, join_less, join_same, join_join, join_first, above_join, total_join}
use Rattle.layout.proofs.ChunkWalk.{rising_above}
use Rattle.layout.proofs.Summing.{read_total, none_at_zero}
use Rattle.layout.proofs.Scatter.{length_from, from_add, length_places, drop_past, drop_within, scatter_from, scatter_take}
use Rattle.layout.proofs.ChunksStand.{rounded_most}
use Rattle.layout.proofs.Placed.{Placed, all_placed, length_base}
use Rattle.layout.proofs.Apart.{Below, below_append, below_from}
use Rattle.placing.specs.Segments.{dealt, position_length}
use Rattle.placing.specs.Goes.{PulledByte, of_segment, pulled_bytes, goes}
use Rattle.placing.specs.Internal.Sources.{source_places, read_places, part_places, PartWithin, LayoutChecked, BasePulled}
use Rattle.placing.proofs.Goes.{goes_one, bytes_append, length_bytes, SegmentsFrom, segments_all}
use Rattle.placing.proofs.Sources.{within_base, within_drop, from_within, length_based}

-- Dealt out and joined again.
pub joined_dealt : (xs : List ReadSegment) (ps : List ℕ) → length ps ≡ read_length xs → joined (λ qs. qs) (dealt xs ps) ≡ ps
unfolding joined dealt read_length
joined_dealt [] [] e = refl
joined_dealt [] (p ∷ ps) e = absurd (omega arith)
joined_dealt (x ∷ xs) ps e = rw (joined_dealt xs (drop x.target.length ps) (rw length-drop (omega arith))) (take-append-drop x.target.length ps)

-- What one segment gets.
pub dealt_at : (before : List ReadSegment) (x : ReadSegment) (behind : List ReadSegment) (ps : List ℕ) →
    get_or (dealt (before ++ (x ∷ behind)) ps) (length before) [] ≡ take x.target.length (drop (read_length before) ps)
unfolding dealt read_length
dealt_at [] x behind ps = refl
dealt_at (y ∷ ys) x behind ps = dealt_at ys x behind (drop y.target.length ps) ∙ rw drop-drop

-- For a kind that fits, the pulled places are those of all segments, and the base is pulled if it is as long as they say.
pub pulled_read : (kind : Kind) (base : ℕ) (reads : List ReadSegment) → kind_fits kind (any_at_zero reads) ≡ true → pulled_places kind base (other_chunks reads) ≡ read_places base reads
unfolding pulled_places
pulled_read kind base reads = by kind (any_at_zero reads)
  where
    by : (k : Kind) (z : Bool) → kind_fits k z ≡ true → pulled_places k base (other_chunks reads) ≡ source_places z base (other_chunks reads)
    by Msg true f = absurd (let n : ◌≡◌ {A = ℕ} 0 1 = cc in omega arith)
    by Msg false f = refl
    by Nomsg true f = refl
    by Nomsg false f = absurd (let n : ◌≡◌ {A = ℕ} 0 1 = cc in omega arith)
    by (Error e) z f = absurd (let n : ◌≡◌ {A = ℕ} 0 1 = cc in omega arith)

pub base_pulled : (kind : Kind) (base : ℕ) (reads : List ReadSegment) → kind_fits kind (any_at_zero reads) ≡ true → base_length kind base reads ≡ base → BasePulled base reads
base_pulled kind base reads f long = by kind f long
  where
    by : (k : Kind) → kind_fits k (any_at_zero reads) ≡ true → base_length k base reads ≡ base → any_at_zero reads ≡ true → zero_length reads ≡ base
    by Msg g e z = absurd (let q : ◌≡◌ {A = Bool} false true = (rw z at g) in let n : ◌≡◌ {A = ℕ} 0 1 = cc in omega arith)
    by Nomsg g e z = e
    by (Error x) g e z = absurd (let n : ◌≡◌ {A = ℕ} 0 1 = cc in omega arith)

-- There are as many places as the segments have bytes.
pub read_length_lem : (base : ℕ) (reads : List ReadSegment) → stands base 0 0 (other_chunks reads) ≡ true → BasePulled base reads → length (read_places base reads) ≡ read_length reads
read_length_lem base reads s b = by (any_at_zero reads) refl b
  where
    by : (z : Bool) → any_at_zero reads ≡ z → (z ≡ true → zero_length reads ≡ base) → length (source_places z base (other_chunks reads)) ≡ read_length reads
    by true e f = omega (arith, length_based base (other_chunks reads) s, read_total reads, f refl)
    by false e f = omega (arith, length_places (other_chunks reads), read_total reads, none_at_zero reads e)

-- Bytes that join at or before the first chunk are the first of its bytes.
record Fronted (q m : ℕ) (cs : List Run) : Type 0 where
  pub extra : ℕ
  pub rest : List ℕ
  pub is : places cs ≡ from q (m + extra) ++ rest

fronted : (q m : ℕ) (cs : List Run) → 0 < q → Above (q - 1) cs → Fronted q m (join_chunk q m cs)
unfolding join_chunk Above places
fronted q m [] h a = record { extra = 0; rest = []; is = rw add-zero }
fronted q m (c ∷ cs) h a = by (order q c.at)
  where
    by : Order q c.at → Fronted q m (join_chunk q m (c ∷ cs))
    by (less b) = record { extra = 0; rest = places (c ∷ cs); is = rw (join_less q m c cs b, add-zero) }
    by (same b) = record { extra = c.length; rest = places cs; is = rw (join_same q m c cs b, b) }
    by (more b) = absurd (let above = a.0 in omega arith)

-- A part of a run.
part_run : (q n l e : ℕ) (r : List ℕ) → take l (drop n (from q (n + (l + e)) ++ r)) ≡ from (q + n) l
part_run q n l e r =
    let left : n + (l + e) - n ≡ l + e = omega arith in
    rw (drop_within n q (n + (l + e)) r (omega arith), left, from_add (q + n) l e, append_assoc) (take_at (from (q + n) l) _ l (length_from (q + n) l))

part_of : (q n l : ℕ) (cs : List Run) → Fronted q (n + l) cs → take l (drop n (places cs)) ≡ from (q + n) l
part_of q n l cs f = rw (f.is, add_assoc) (part_run q n l f.extra f.rest)

front_of : (q l : ℕ) (cs : List Run) → Fronted q l cs → take l (places cs) ≡ from (q + 0) l
front_of q l cs f = rw (f.is, add-zero, from_add q l f.extra, append_assoc) (take_at (from q l) _ l (length_from q l))

first_above : (q : ℕ) (x : ReadSegment) (xs : List ReadSegment) → never_falls q (x ∷ xs) ≡ true → q ≤ x.position
first_above q x xs e = leb-true q x.position (rises q x xs e).above

any_above : (q : ℕ) (ys : List ReadSegment) (x : ReadSegment) (behind : List ReadSegment) → never_falls q (ys ++ (x ∷ behind)) ≡ true → q ≤ x.position
any_above q [] x behind e = first_above q x behind e
any_above q (y ∷ ys) x behind e =
    let up = first_above q y (ys ++ (x ∷ behind)) e in
    let more-up = any_above y.position ys x behind (rises q y (ys ++ (x ∷ behind)) e).onward in
    omega arith

-- The chunks of a list whose first segment stands elsewhere than at 0.
others_first : (y : ReadSegment) (xs : List ReadSegment) → (y.position ≡ 0 → ⊥) → other_chunks (y ∷ xs) ≡ join_chunk y.position y.target.length (other_chunks xs)
unfolding other_chunks
others_first y xs n = rw (ne_eqb y.position 0 n)

total_first : (y : ReadSegment) (xs : List ReadSegment) → (y.position ≡ 0 → ⊥) → total_length (other_chunks (y ∷ xs)) ≡ y.target.length + total_length (other_chunks xs)
total_first y xs n = ap total_length (others_first y xs n) ∙ total_join y.position y.target.length (other_chunks xs)

-- With n bytes at hand of a chunk at q: the next segment goes on with it, or stands behind it.
goes_on_lem : (q n : ℕ) (y : ReadSegment) (zs : List ReadSegment) → 0 < q → q ≡ y.position →
    join_chunk q n (other_chunks (y ∷ zs)) ≡ join_chunk q (n + y.target.length) (other_chunks zs)
goes_on_lem q n y zs h e =
    rw (others_first y zs (λ z. (let none : q ≡ 0 = e ∙ z in omega arith)), ← e) (join_join q n y.target.length (other_chunks zs))

stands_behind : (q n k : ℕ) (y : ReadSegment) (zs : List ReadSegment) → 0 < q → q < y.position → never_falls q (y ∷ zs) ≡ true →
    drop (n + k) (places (join_chunk q n (other_chunks (y ∷ zs)))) ≡ drop k (places (join_chunk y.position y.target.length (other_chunks zs)))
unfolding places
stands_behind q n k y zs h b e =
    let there : other_chunks (y ∷ zs) ≡ join_chunk y.position y.target.length (other_chunks zs) = others_first y zs (omega arith) in
    let above = above_join q y.position y.target.length (other_chunks zs) b (rising_above q y.position zs (rises q y zs e).onward b) in
    rw (there, join_first q n (join_chunk y.position y.target.length (other_chunks zs)) above) (drop_past k q n _)

-- How many bytes at hand are of the chunk at p.
unfoldable hand : ℕ → ℕ → ℕ → ℕ
hand p q n = cond (eqb q p) n 0

hand_same : (p q n : ℕ) → q ≡ p → hand p q n ≡ n
unfolding hand
hand_same p q n e = rw (eq-eqb q p e)

hand_other : (p q n : ℕ) → q < p → hand p q n ≡ 0
unfolding hand
hand_other p q n l = rw (ne_eqb q p (omega arith))

hand_add : (p q n m : ℕ) → hand p q n + hand p q m ≡ hand p q (n + m)
unfolding hand
hand_add p q n m = by (eqb q p)
  where
    by : (b : Bool) → cond b n 0 + cond b m 0 ≡ cond b (n + m) 0
    by true = refl
    by false = refl

length_first : (p : ℕ) (y : ReadSegment) (ys : List ReadSegment) → position_length p (y ∷ ys) ≡ hand p y.position y.target.length + position_length p ys
unfolding position_length hand
length_first p y ys = refl

module _ (x : ReadSegment) (behind : List ReadSegment) where
  own_hand : (before : List ReadSegment) (q n : ℕ) → 0 < q → never_falls q (before ++ (x ∷ behind)) ≡ true →
      take x.target.length (drop (n + total_length (other_chunks before)) (places (join_chunk q n (other_chunks (before ++ (x ∷ behind))))))
      ≡ from (x.position + (hand x.position q n + position_length x.position before)) x.target.length
  unfolding position_length total_length other_chunks
  own_hand [] q n h e = by (order q x.position)
    where
      up : q ≤ x.position
      up = first_above q x behind e

      behind_above : Above (x.position - 1) (other_chunks behind)
      behind_above = let u = up in rising_above (x.position - 1) x.position behind (rises q x behind e).onward (omega arith)

      by : Order q x.position → take x.target.length (drop (n + 0) (places (join_chunk q n (other_chunks (x ∷ behind)))))
          ≡ from (x.position + (hand x.position q n + 0)) x.target.length
      by (less b) =
          rw (stands_behind q n 0 x behind h b e, hand_other x.position q n b) (front_of x.position x.target.length _ (fronted x.position x.target.length (other_chunks behind) (omega arith) behind_above))
      by (same b) =
          rw (add-zero n, add-zero, goes_on_lem q n x behind h b, hand_same x.position q n b, ← b) (part_of q n x.target.length _ (fronted q (n + x.target.length) (other_chunks behind) h (rw (← b) at behind_above)))
      by (more b) = absurd (let u = up in omega arith)
  own_hand (y ∷ ys) q n h e = by (order q y.position) (λ p m g. own_hand ys p m g)
    where
      rest : List ReadSegment
      rest = ys ++ (x ∷ behind)

      onward : never_falls y.position rest ≡ true
      onward = (rises q y rest e).onward

      up : q ≤ y.position
      up = first_above q y rest e

      total : total_length (other_chunks (y ∷ ys)) ≡ y.target.length + total_length (other_chunks ys)
      total = let u = up in total_first y ys (omega arith)

      by : Order q y.position →
          ((p m : ℕ) → 0 < p → never_falls p rest ≡ true → take x.target.length (drop (m + total_length (other_chunks ys)) (places (join_chunk p m (other_chunks rest)))) ≡ from (x.position + (hand x.position p m + position_length x.position ys)) x.target.length) →
          take x.target.length (drop (n + total_length (other_chunks (y ∷ ys))) (places (join_chunk q n (other_chunks (y ∷ rest))))) ≡ from (x.position + (hand x.position q n + position_length x.position (y ∷ ys))) x.target.length
      by (less b) ih =
          let far = any_above y.position ys x behind onward in
          rw (total, stands_behind q n (y.target.length + total_length (other_chunks ys)) y rest h b e, hand_other x.position q n (omega arith), length_first, zero-add) (ih y.position y.target.length (omega arith) onward)
      by (same b) ih =
          let sum : n + (y.target.length + total_length (other_chunks ys)) ≡ n + y.target.length + total_length (other_chunks ys) = omega arith in
          let hands : hand x.position q n + (hand x.position y.position y.target.length + position_length x.position ys) ≡ hand x.position q (n + y.target.length) + position_length x.position ys =
          rw (← b, ← hand_add x.position q n y.target.length) (omega arith) in
          rw (total, sum, goes_on_lem q n y rest h b, length_first, hands) (ih q (n + y.target.length) h (rw (← b) at onward))
      by (more b) ih = absurd (let u = up in omega arith)

  -- The same from the front of the list: segments at 0 add nothing.
  own_front : (before : List ReadSegment) (last : ℕ) → (x.position ≡ 0 → ⊥) → never_falls last (before ++ (x ∷ behind)) ≡ true →
      take x.target.length (drop (total_length (other_chunks before)) (places (other_chunks (before ++ (x ∷ behind)))))
      ≡ from (x.position + position_length x.position before) x.target.length
  unfolding other_chunks total_length position_length
  own_front [] last n e =
      let up = rises last x behind e in
      rw (others_first x behind n) (front_of x.position x.target.length _ (fronted x.position x.target.length (other_chunks behind) (omega arith) (rising_above (x.position - 1) x.position behind up.onward (omega arith))))
  own_front (y ∷ ys) last n e = by (eqb y.position 0) refl (own_front ys y.position n (rises last y (ys ++ (x ∷ behind)) e).onward)
    where
      by : (b : Bool) → eqb y.position 0 ≡ b →
          take x.target.length (drop (total_length (other_chunks ys)) (places (other_chunks (ys ++ (x ∷ behind))))) ≡ from (x.position + position_length x.position ys) x.target.length →
          take x.target.length (drop (total_length (other_chunks (y ∷ ys))) (places (other_chunks (y ∷ (ys ++ (x ∷ behind)))))) ≡ from (x.position + position_length x.position (y ∷ ys)) x.target.length
      by true f ih =
          let z = eqb-true y.position 0 f in
          let skip : hand x.position y.position y.target.length ≡ 0 = hand_other x.position y.position y.target.length (omega arith) in
          rw (length_first, skip, zero-add, f) ih
      by false f ih =
          let there = eqb-false y.position 0 f in
          rw (total_first y ys there, others_first y (ys ++ (x ∷ behind)) there, length_first) (own_hand ys y.position y.target.length (omega arith) (rises last y (ys ++ (x ∷ behind)) e).onward)

-- A list in two parts.
pub read_append : (xs ys : List ReadSegment) → read_length (xs ++ ys) ≡ read_length xs + read_length ys
unfolding read_length
read_append [] ys = omega arith
read_append (x ∷ xs) ys = omega (arith, read_append xs ys)

zero_append : (xs ys : List ReadSegment) → zero_length (xs ++ ys) ≡ zero_length xs + zero_length ys
unfolding zero_length
zero_append [] ys = omega arith
zero_append (x ∷ xs) ys = omega (arith, zero_append xs ys)

-- Behind a segment elsewhere than at 0 none stands at 0; before one at 0 all do.
none_behind : (last : ℕ) (xs : List ReadSegment) → 0 < last → never_falls last xs ≡ true → zero_length xs ≡ 0
unfolding zero_length
none_behind last [] h e = refl
none_behind last (x ∷ xs) h e =
    let up = rises last x xs e in
    let above = leb-true last x.position up.above in
    rw (ne_eqb x.position 0 (omega arith)) (omega (arith, none_behind x.position xs (omega arith) up.onward))

all_before : (last : ℕ) (before : List ReadSegment) (x : ReadSegment) (behind : List ReadSegment) → x.position ≡ 0 → never_falls last (before ++ (x ∷ behind)) ≡ true → zero_length before ≡ read_length before
unfolding zero_length read_length
all_before last [] x behind z e = refl
all_before last (y ∷ ys) x behind z e =
    let onward = (rises last y (ys ++ (x ∷ behind)) e).onward in
    let far = any_above y.position ys x behind onward in
    rw (eq-eqb y.position 0 (omega arith)) (omega (arith, all_before y.position ys x behind z onward))

onward_past : (last : ℕ) (before : List ReadSegment) (x : ReadSegment) (behind : List ReadSegment) → never_falls last (before ++ (x ∷ behind)) ≡ true → never_falls x.position behind ≡ true
onward_past last [] x behind e = (rises last x behind e).onward
onward_past last (y ∷ ys) x behind e = onward_past y.position ys x behind (rises last y (ys ++ (x ∷ behind)) e).onward

-- The first of the segments' places.
zero_at : (xs : List ReadSegment) → zero_length xs ≡ position_length 0 xs
unfolding zero_length position_length
zero_at [] = refl
zero_at (x ∷ xs) = ap (λ (n : ℕ). cond (eqb x.position 0) x.target.length 0 + n) (zero_at xs)

any_there : (before : List ReadSegment) (x : ReadSegment) (behind : List ReadSegment) → x.position ≡ 0 → any_at_zero (before ++ (x ∷ behind)) ≡ true
unfolding any_at_zero
any_there [] x behind z = rw (eq-eqb x.position 0 z)
any_there (y ∷ ys) x behind z = by (eqb y.position 0) (any_there ys x behind z)
  where
    by : (b : Bool) → any_at_zero (ys ++ (x ∷ behind)) ≡ true → (b || any_at_zero (ys ++ (x ∷ behind))) ≡ true
    by true ih = refl
    by false ih = ih

part_zero : (base : ℕ) (cs : List Run) (p k size : ℕ) → p ≡ 0 → part_places base cs p k size ≡ take size (drop k (base_places base cs))
unfolding part_places
part_zero base cs p k size e = rw (eq-eqb p 0 e)

part_else : (base : ℕ) (cs : List Run) (p k size : ℕ) → (p ≡ 0 → ⊥) → part_places base cs p k size ≡ from (p + k) size
unfolding part_places
part_else base cs p k size n = rw (ne_eqb p 0 n)

part_none : (base : ℕ) (cs : List Run) (p k : ℕ) → part_places base cs p k 0 ≡ []
unfolding part_places from
part_none base cs p k = by (eqb p 0)
  where
    by : (b : Bool) → cond b (take 0 (drop k (base_places base cs))) (from (p + k) 0) ≡ []
    by true = refl
    by false = refl

-- Bytes of one position in two parts.
part_add : (base : ℕ) (cs : List Run) (p k l m : ℕ) → part_places base cs p k (l + m) ≡ part_places base cs p k l ++ part_places base cs p (k + l) m
part_add base cs p k l m = by (eqb p 0) refl
  where
    by : (b : Bool) → eqb p 0 ≡ b → part_places base cs p k (l + m) ≡ part_places base cs p k l ++ part_places base cs p (k + l) m
    by true e =
        let z = eqb-true p 0 e in
        rw (part_zero base cs p k (l + m) z, part_zero base cs p k l z, part_zero base cs p (k + l) m z, ← drop-drop l k (base_places base cs)) (take-add l m (drop k (base_places base cs)))
    by false e =
        let n = eqb-false p 0 e in
        rw (part_else base cs p k (l + m) n, part_else base cs p k l n, part_else base cs p (k + l) m n, ← add_assoc p k l) (from_add (p + k) l m)

pub length_part : (base : ℕ) (cs : List Run) (room p k size : ℕ) → stands base 0 0 cs ≡ true → PartWithin base room p k size → length (part_places base cs p k size) ≡ size
length_part base cs room p k size s w = by (eqb p 0) refl
  where
    by : (b : Bool) → eqb p 0 ≡ b → length (part_places base cs p k size) ≡ size
    by true e =
        let z = eqb-true p 0 e in
        rw (part_zero base cs p k size z) (length-take-le size (drop k (base_places base cs)) (rw (length-drop, length_base base cs s) (let within = w.based z in omega arith)))
    by false e = rw (part_else base cs p k size (eqb-false p 0 e)) (length_from (p + k) size)

-- What is to be shown of bytes put there: those of the base, and one run.
module _ (base : ℕ) (cs : List Run) (p k : ℕ) (part out : List ℕ) where
  pub part_based : p ≡ 0 → (r : ℕ) (after : List ℕ) → (r ≡ goes (of_segment 0 (take (length part) (drop k (base_places base cs))))) × (after ≡ scatter (drop k (base_places base cs)) part out) →
      (r ≡ goes (of_segment 0 (part_places base cs p k (length part)))) × (after ≡ scatter (part_places base cs p k (length part)) part out)
  part_based z r after made = rw (part_zero base cs p k (length part) z) (made.0, made.1 ∙ sym (scatter_take (drop k (base_places base cs)) part out))

  pub part_copied : (p ≡ 0 → ⊥) → 0 < length part → (after : List ℕ) → after ≡ stored out (p + k) part →
      (1 ≡ goes (of_segment 0 (part_places base cs p k (length part)))) × (after ≡ scatter (part_places base cs p k (length part)) part out)
  part_copied n some after made = rw (part_else base cs p k (length part) n) (sym (goes_one 0 (p + k) (length part) some), made ∙ sym (scatter_from (p + k) part out))

-- All places lie in the message.
within_places : (n end most : ℕ) (cs : List Run) → Placed end most cs → most + rounded_total cs ≤ n → Below n (places cs)
unfolding Placed rounded_total places Below
within_places n end most [] p h = tt
within_places n end most (c ∷ cs) p h =
    let up = (rounded_most c.length).0 in
    below_append n (from c.at c.length) (places cs) (below_from n c.at c.length (omega (arith, p.1))) (within_places n (c.at + rounded_up c.length) (most + rounded_up c.length) cs p.2 (omega arith))

within_read : (base : ℕ) (reads : List ReadSegment) → stands base 0 0 (other_chunks reads) ≡ true → Below (message_length base (other_chunks reads)) (read_places base reads)
within_read base reads s = by (any_at_zero reads)
  where
    rest : Below (message_length base (other_chunks reads)) (places (other_chunks reads))
    rest = within_places _ 0 base (other_chunks reads) (all_placed base (other_chunks reads) s) (omega arith)

    by : (b : Bool) → Below (message_length base (other_chunks reads)) (source_places b base (other_chunks reads))
    by true = below_append _ (base_places base (other_chunks reads)) (places (other_chunks reads)) (within_base base (other_chunks reads) s) rest
    by false = rest

-- A list in parts.
in_parts : {A : Type 0} (u v t l : List A) (k : ℕ) → drop k l ≡ u ++ (v ++ t) → (left m : ℕ) → length u ≡ left → length v ≡ m → (drop (k + left) l ≡ v ++ drop (k + left + m) l) × (drop (k + left + m) l ≡ t)
in_parts u v t l k whole left m eu ev =
    let here : drop (k + left) l ≡ v ++ t = sym (drop-drop left k l) ∙ rw whole (drop_at u (v ++ t) left eu) in
    let then : drop (k + left + m) l ≡ t = sym (drop-drop m (k + left) l) ∙ rw here (drop_at v t m ev) in
    (rw then here, then)

-- The bytes of the segments behind the first ones.
bytes_behind : (i : ℕ) (before rest : List ReadSegment) (ps : List ℕ) → read_length before ≤ length ps → drop (read_length before) (pulled_bytes i (dealt (before ++ rest) ps)) ≡ pulled_bytes (i + length before) (dealt rest (drop (read_length before) ps))
unfolding read_length dealt pulled_bytes
bytes_behind i [] rest ps h = rw add-zero
bytes_behind i (y ∷ ys) rest ps h =
    let l = y.target.length in
    let long : length (of_segment i (take l ps)) ≡ l = length_bytes i (take l ps) ∙ length-take-le l ps (omega arith) in
    let past : drop (l + read_length ys) (of_segment i (take l ps) ++ pulled_bytes (suc i) (dealt (ys ++ rest) (drop l ps))) ≡ drop (read_length ys) (pulled_bytes (suc i) (dealt (ys ++ rest) (drop l ps))) =
    ap (λ (n : ℕ). drop (n + read_length ys) (of_segment i (take l ps) ++ pulled_bytes (suc i) (dealt (ys ++ rest) (drop l ps)))) (sym long) ∙ drop-append-add (of_segment i (take l ps)) _ (read_length ys) in
    past ∙ bytes_behind (suc i) ys rest (drop l ps) (rw length-drop (omega arith)) ∙ rw (drop-drop, add-suc, suc-add)

module _ (base : ℕ) (before : List ReadSegment) (x : ReadSegment) (behind : List ReadSegment) (checked : LayoutChecked base (before ++ (x ∷ behind))) (pulled : BasePulled base (before ++ (x ∷ behind))) where
  abbrev reads : List ReadSegment
  reads = before ++ (x ∷ behind)

  abbrev cs : List Run
  cs = other_chunks (before ++ (x ∷ behind))

  abbrev source : List ℕ
  source = read_places base (before ++ (x ∷ behind))

  -- The segments at 0 are those before a segment elsewhere, and all before one at 0.
  zeros_before : (x.position ≡ 0 → ⊥) → zero_length reads ≡ zero_length before
  unfolding zero_length
  zeros_before n =
      let none = none_behind x.position behind (omega arith) (onward_past 0 before x behind checked.rise) in
      zero_append before (x ∷ behind) ∙ rw (ne_eqb x.position 0 n) (omega arith)

  zeros_here : x.position ≡ 0 → zero_length reads ≡ read_length before + (x.target.length + zero_length behind)
  unfolding zero_length
  zeros_here z = zero_append before (x ∷ behind) ∙ rw (eq-eqb x.position 0 z, all_before 0 before x behind z checked.rise)

  -- "its segments joined in list order": a segment elsewhere than at 0 has a run behind the segments before it at its position.
  pub own_run : (x.position ≡ 0 → ⊥) → take x.target.length (drop (read_length before) source) ≡ from (x.position + position_length x.position before) x.target.length
  own_run n = by (any_at_zero reads) refl pulled
    where
      sum : total_length (other_chunks before) + zero_length before ≡ read_length before
      sum = read_total before

      by : (b : Bool) → any_at_zero reads ≡ b → (b ≡ true → zero_length reads ≡ base) → take x.target.length (drop (read_length before) (source_places b base cs)) ≡ from (x.position + position_length x.position before) x.target.length
      by true e f =
          let all : read_length before ≡ length (base_places base cs) + total_length (other_chunks before) = omega (arith, sum, zeros_before n, length_base base cs checked.stand, f refl) in
          rw (all, drop-append-add) (own_front x behind before 0 n checked.rise)
      by false e f =
          let all : read_length before ≡ total_length (other_chunks before) = omega (arith, sum, zeros_before n, none_at_zero reads e) in
          rw all (own_front x behind before 0 n checked.rise)

  -- "those of the base in order": one at 0 has its part of the base's places.
  pub own_base : x.position ≡ 0 → take x.target.length (drop (read_length before) source) ≡ take x.target.length (drop (position_length x.position before) (base_places base cs))
  own_base z =
      let there = any_there before x behind z in
      let long : length (base_places base cs) ≡ read_length before + (x.target.length + zero_length behind) = length_base base cs checked.stand ∙ sym (pulled there) ∙ zeros_here z in
      let here : position_length x.position before ≡ read_length before = rw z (sym (zero_at before) ∙ all_before 0 before x behind z checked.rise) in
      rw (there, here, drop-append-le (read_length before) (base_places base cs) (places cs) (omega arith))
      (take-append-le x.target.length (drop (read_length before) (base_places base cs)) (places cs) (rw length-drop (omega arith)))

  own_places : take x.target.length (drop (read_length before) source) ≡ part_places base cs x.position (position_length x.position before) x.target.length
  own_places = by (eqb x.position 0) refl
    where
      by : (b : Bool) → eqb x.position 0 ≡ b → take x.target.length (drop (read_length before) source) ≡ part_places base cs x.position (position_length x.position before) x.target.length
      by true e = let z = eqb-true x.position 0 e in own_base z ∙ sym (part_zero base cs x.position (position_length x.position before) x.target.length z)
      by false e = let n = eqb-false x.position 0 e in own_run n ∙ sym (part_else base cs x.position (position_length x.position before) x.target.length n)

  -- The segment's places lie in the base, or in the message.
  own_within : 0 < x.target.length → PartWithin base (message_length base cs) x.position (position_length x.position before) x.target.length
  own_within some = record { based = within_zero; elsewhere = within_else }
    where
      within_zero : x.position ≡ 0 → position_length x.position before + x.target.length ≤ base
      within_zero z =
          let here : position_length x.position before ≡ read_length before = rw z (sym (zero_at before) ∙ all_before 0 before x behind z checked.rise) in
          omega (arith, zeros_here z, pulled (any_there before x behind z))

      within_else : (x.position ≡ 0 → ⊥) → x.position + position_length x.position before + x.target.length ≤ message_length base cs
      within_else n =
          let all : Below (message_length base cs) (drop (read_length before) source) = within_drop (message_length base cs) (read_length before) source (within_read base reads checked.stand) in
          let first : drop (read_length before) source ≡ from (x.position + position_length x.position before) x.target.length ++ drop x.target.length (drop (read_length before) source) = sym (take-append-drop x.target.length (drop (read_length before) source)) ∙ ap (λ (ps : List ℕ). ps ++ drop x.target.length (drop (read_length before) source)) (own_run n) in
          from_within (message_length base cs) (x.position + position_length x.position before) x.target.length (drop x.target.length (drop (read_length before) source)) some (rw first at all)

  -- The bytes of the segment and those behind it.
  abbrev bytes : List PulledByte
  bytes = pulled_bytes 0 (dealt (before ++ (x ∷ behind)) (read_places base (before ++ (x ∷ behind))))

  own_bytes : drop (read_length before) bytes ≡ of_segment (length before) (take x.target.length (drop (read_length before) source)) ++ pulled_bytes (suc (length before)) (dealt behind (drop (read_length before + x.target.length) source))
  unfolding dealt pulled_bytes read_length
  own_bytes =
      let long : length source ≡ read_length before + (x.target.length + read_length behind) = read_length_lem base reads checked.stand pulled ∙ read_append before (x ∷ behind) in
      bytes_behind 0 before (x ∷ behind) source (omega arith) ∙ rw (zero-add, drop-drop)

  -- m bytes of the segment, behind its first `left`.
  module _ (left m : ℕ) (some : 0 < m) (most : left + m ≤ x.target.length) where
    abbrev first : List ℕ
    first = part_places base cs x.position (position_length x.position before) left

    abbrev part : List ℕ
    part = part_places base cs x.position (position_length x.position before + left) m

    abbrev rest : List ℕ
    rest = part_places base cs x.position (position_length x.position before + left + m) (x.target.length - (left + m))

    own_parts : take x.target.length (drop (read_length before) source) ≡ first ++ (part ++ rest)
    own_parts =
        let sum : x.target.length ≡ left + (m + (x.target.length - (left + m))) = omega arith in
        own_places
        ∙ ap (part_places base cs x.position (position_length x.position before)) sum
        ∙ rw (part_add base cs x.position (position_length x.position before) left (m + (x.target.length - (left + m))), part_add base cs x.position (position_length x.position before + left) m (x.target.length - (left + m)))

    pub part_within : (room : ℕ) → message_length base cs ≤ room → PartWithin base room x.position (position_length x.position before + left) m
    part_within room h =
        let w = own_within (omega arith) in
        record { based = λ z. (let b = w.based z in omega arith); elsewhere = λ n. (let b = w.elsewhere n in omega arith) }

    pub length_of_part : length part ≡ m
    length_of_part = length_part base cs (message_length base cs) x.position (position_length x.position before + left) m checked.stand (part_within (message_length base cs) (omega arith))

    length_of_first : length first ≡ left
    length_of_first =
        let w = own_within (omega arith) in
        length_part base cs (message_length base cs) x.position (position_length x.position before) left checked.stand (record { based = λ z. (let b = w.based z in omega arith); elsewhere = λ n. (let b = w.elsewhere n in omega arith) })

    pub part_places_lem : drop (read_length before + left) source ≡ part ++ drop (read_length before + left + m) source
    part_places_lem =
        let whole : drop (read_length before) source ≡ first ++ (part ++ (rest ++ drop x.target.length (drop (read_length before) source))) =
        sym (take-append-drop x.target.length (drop (read_length before) source)) ∙ ap (λ (ps : List ℕ). ps ++ drop x.target.length (drop (read_length before) source)) own_parts ∙ rw (append_assoc, append_assoc) in
        (in_parts first part _ source (read_length before) whole left m length_of_first length_of_part).0

    abbrev others : List PulledByte
    others = pulled_bytes (suc (length before)) (dealt behind (drop (read_length before + x.target.length) source))

    bytes_parts : drop (read_length before) bytes ≡ of_segment (length before) first ++ (of_segment (length before) part ++ (of_segment (length before) rest ++ others))
    bytes_parts = own_bytes ∙ rw (own_parts, bytes_append (length before) first, bytes_append (length before) part, append_assoc, append_assoc)

    in_bytes : (drop (read_length before + left) bytes ≡ of_segment (length before) part ++ drop (read_length before + left + m) bytes) × (drop (read_length before + left + m) bytes ≡ of_segment (length before) rest ++ others)
    in_bytes =
        in_parts (of_segment (length before) first) (of_segment (length before) part) _ bytes (read_length before) bytes_parts left m
        (length_bytes (length before) first ∙ length_of_first) (length_bytes (length before) part ∙ length_of_part)

    pub part_bytes : drop (read_length before + left) bytes ≡ of_segment (length before) part ++ drop (read_length before + left + m) bytes
    part_bytes = in_bytes.0

    -- Where the segment ends with them, others come behind them.
    pub part_last : left + m ≡ x.target.length → SegmentsFrom (suc (length before)) (drop (read_length before + left + m) bytes)
    unfolding of_segment
    part_last e =
        let none : x.target.length - (left + m) ≡ 0 = omega arith in
        rw (in_bytes.1, none, part_none base cs x.position (position_length x.position before + left + m)) (segments_all (suc (length before)) (suc (length before)) _ (omega arith))
