-- "at most 31": the goes of a piece of a read list that passed its checks.
-- Assumes nothing.
use mathlib.Core.Path.{◌≡◌, refl, sym, ap, subst, ◌∙◌}
use mathlib.Core.Bool.{Bool, true, false, cond}
use mathlib.Core.List.{List, [], ◌∷◌, ◌++◌, append_assoc, append-nil}
use Prim.Native.Nat.{ℕ, suc, ◌+◌, ◌≤◌, ◌<◌}
use native.Mathlib.Omega.{arith}
use native.Mathlib.Nat.{add-zero, add-suc, suc-add}
use lib.ListN.{length, take, drop, length-append}
use lib.Seq.{take-add, drop-drop, take_at}
use lib.Dec.{eqb}
use borrow.Author.Tests.{eq-eqb, ne_eqb, eqb-true, eqb-false, leb-true}
use Rattle.wire.specs.Fits.{All}
use Rattle.wire.specs.declared.ReadSegment.{ReadSegment}
use Rattle.read_order.specs.ReadOrder.{never_falls}
use Rattle.read_order.proofs.Rising.{rises}
use Rattle.layout.specs.Places.{from}
use Rattle.layout.specs.Layout.{any_at_zero, zero_length, join_chunk, other_chunks, message_length, places, base_places}
use Rattle.layout.specs.Internal.Walks.{read_length}
use Rattle.layout.specs.declared.Run.{Run}
use Rattle.layout.proofs.Joins.{Order, less, same, more, order, join_less, join_same, join_more}
use Rattle.layout.proofs.Placed.{length_base}
use Rattle.placing.specs.Segments.{dealt, position_length}
use Rattle.placing.specs.Goes.{of_segment, pulled_bytes, goes}
use Rattle.placing.specs.Internal.Sources.{read_places, LayoutChecked, BasePulled}
use Rattle.placing.proofs.Goes.{goes_append, goes_parts, goes_piece, goes_any, goes_from, goes_gaps, bytes_append}
use Rattle.placing.proofs.Segments.{read_append, own_run}

abbrev AtZero : ReadSegment → Type 0
AtZero x = x.position ≡ 0

abbrev Elsewhere : ReadSegment → Type 0
Elsewhere x = x.position ≡ 0 → ⊥

-- A sorted list: the segments at 0, and then the others.
record Zeros (reads : List ReadSegment) : Type 0 where
  pub zs : List ReadSegment
  pub os : List ReadSegment
  pub is : reads ≡ zs ++ os
  pub zero : All AtZero zs
  pub other : All Elsewhere os

all_elsewhere : (last : ℕ) (xs : List ReadSegment) → 0 < last → never_falls last xs ≡ true → All Elsewhere xs
unfolding All
all_elsewhere last [] h e = tt
all_elsewhere last (x ∷ xs) h e =
    let up = rises last x xs e in
    let above = leb-true last x.position up.above in
    (omega arith, all_elsewhere x.position xs (omega arith) up.onward)

zeros : (last : ℕ) (xs : List ReadSegment) → never_falls last xs ≡ true → Zeros xs
unfolding All
zeros last [] e = record { zs = []; os = []; is = refl; zero = tt; other = tt }
zeros last (x ∷ xs) e = by (eqb x.position 0) refl (zeros x.position xs (rises last x xs e).onward)
  where
    by : (b : Bool) → eqb x.position 0 ≡ b → Zeros xs → Zeros (x ∷ xs)
    by true f z = record { zs = x ∷ z.zs; os = z.os; is = ap (λ (l : List ReadSegment). x ∷ l) z.is; zero = (eqb-true x.position 0 f, z.zero); other = z.other }
    by false f z =
        let n = eqb-false x.position 0 f in
        record { zs = []; os = x ∷ xs; is = refl; zero = tt; other = (n, all_elsewhere x.position xs (omega arith) (rises last x xs e).onward) }

-- There are no more chunks than segments elsewhere than at 0.
length_join : (p l : ℕ) (cs : List Run) → length (join_chunk p l cs) ≤ suc (length cs)
unfolding join_chunk
length_join p l [] = omega arith
length_join p l (c ∷ cs) = by (order p c.at) (length_join p l cs)
  where
    by : Order p c.at → length (join_chunk p l cs) ≤ suc (length cs) → length (join_chunk p l (c ∷ cs)) ≤ suc (suc (length cs))
    by (less h) ih = rw (join_less p l c cs h) (omega arith)
    by (same h) ih = rw (join_same p l c cs h) (omega arith)
    by (more h) ih = rw (join_more p l c cs h) (omega arith)

length_others : (xs : List ReadSegment) → length (other_chunks xs) ≤ length xs
unfolding other_chunks
length_others [] = omega arith
length_others (x ∷ xs) = by (eqb x.position 0) (length_others xs)
  where
    by : (b : Bool) → length (other_chunks xs) ≤ length xs → length (cond b (other_chunks xs) (join_chunk x.position x.target.length (other_chunks xs))) ≤ suc (length xs)
    by true ih = omega arith
    by false ih = omega (arith, length_join x.position x.target.length (other_chunks xs))

others_of : (zs os : List ReadSegment) → All AtZero zs → other_chunks (zs ++ os) ≡ other_chunks os
unfolding other_chunks All
others_of [] os z = refl
others_of (x ∷ zs) os z = rw (eq-eqb x.position 0 z.0) (others_of zs os z.1)

-- Dealing to a list in two parts.
dealt_append : (xs ys : List ReadSegment) (ps : List ℕ) → dealt (xs ++ ys) ps ≡ dealt xs ps ++ dealt ys (drop (read_length xs) ps)
unfolding dealt read_length
dealt_append [] ys ps = refl
dealt_append (x ∷ xs) ys ps = rw (dealt_append xs ys (drop x.target.length ps), drop-drop)

all_append : (i : ℕ) (pss qss : List (List ℕ)) → pulled_bytes i (pss ++ qss) ≡ pulled_bytes i pss ++ pulled_bytes (i + length pss) qss
unfolding pulled_bytes
all_append i [] qss = rw add-zero
all_append i (ps ∷ pss) qss = rw (all_append (suc i) pss qss, add-suc, ← suc-add i (length pss), append_assoc)

-- The segments elsewhere than at 0: a go for each.
others_goes : (base : ℕ) (all rest before : List ReadSegment) (i : ℕ) → all ≡ before ++ rest → LayoutChecked base all → BasePulled base all → All Elsewhere rest →
    goes (pulled_bytes i (dealt rest (drop (read_length before) (read_places base all)))) ≤ length rest
unfolding dealt pulled_bytes All goes read_length
others_goes base all [] before i e a b n = omega arith
others_goes base all (x ∷ xs) before i e a b n =
    let own : take x.target.length (drop (read_length before) (read_places base all)) ≡ from (x.position + position_length x.position before) x.target.length = ap (λ (l : List ReadSegment). take x.target.length (drop (read_length before) (read_places base l))) e ∙ own_run base before x xs (subst (LayoutChecked base) e a) (subst (BasePulled base) e b) n.0 in
    let sum : read_length (before ++ (x ∷ [])) ≡ read_length before + x.target.length = omega (arith, read_append before (x ∷ [])) in
    let ih = others_goes base all xs (before ++ (x ∷ [])) (suc i) (e ∙ sym (append_assoc before (x ∷ []) xs)) a b n.1 in
    rw (own, drop-drop) (omega (arith, goes_append (of_segment i (from (x.position + position_length x.position before) x.target.length)) (pulled_bytes (suc i) (dealt xs (drop (read_length before + x.target.length) (read_places base all)))), goes_from i (x.position + position_length x.position before) x.target.length, rw sum at ih))

-- The segments at 0: their places, dealt out, take a go more at each seam.
zeros_goes : (zs : List ReadSegment) (z : ReadSegment) (ps : List ℕ) (i : ℕ) →
    goes (pulled_bytes i (dealt (z ∷ zs) ps)) ≤ goes (of_segment 0 (take (read_length (z ∷ zs)) ps)) + length zs
unfolding dealt pulled_bytes read_length
zeros_goes [] z ps i = rw (append-nil, add-zero z.target.length) (omega (arith, goes_any i 0 (take z.target.length ps)))
zeros_goes (y ∷ ys) z ps i =
    let l = z.target.length in
    let r = read_length (y ∷ ys) in
    let ih = zeros_goes ys y (drop l ps) (suc i) in
    let joint : goes (of_segment 0 (take l ps)) + goes (of_segment 0 (take r (drop l ps))) ≤ suc (goes (of_segment 0 (take (l + r) ps))) = rw (take-add l r ps, bytes_append) (goes_parts (of_segment 0 (take l ps)) (of_segment 0 (take r (drop l ps)))) in
    omega (arith, goes_append (of_segment i (take l ps)) (pulled_bytes (suc i) (dealt (y ∷ ys) (drop l ps))), goes_any i 0 (take l ps), ih, joint)

zeros_some : (zs : List ReadSegment) (ps : List ℕ) (i : ℕ) → 0 < length zs → suc (goes (pulled_bytes i (dealt zs ps))) ≤ goes (of_segment 0 (take (read_length zs) ps)) + length zs
zeros_some [] ps i h = absurd (omega arith)
zeros_some (z ∷ zs) ps i h = omega (arith, zeros_goes zs z ps i)

-- Some segment stands at 0 where one is said to.
some_zero : (zs os : List ReadSegment) → All Elsewhere os → any_at_zero (zs ++ os) ≡ true → 0 < length zs
unfolding All any_at_zero
some_zero [] [] n e = absurd (let m : ◌≡◌ {A = ℕ} 0 1 = cc in omega arith)
some_zero [] (o ∷ os) n e = some_zero [] os n.1 (rw (ne_eqb o.position 0 n.0) at e)
some_zero (z ∷ zs) os n e = omega arith

no_zero : (zs os : List ReadSegment) → All AtZero zs → any_at_zero (zs ++ os) ≡ false → zs ≡ []
unfolding All any_at_zero
no_zero [] os z e = refl
no_zero (x ∷ zs) os z e = absurd (let f : ◌≡◌ {A = Bool} true false = (rw (eq-eqb x.position 0 z.0) at e) in let m : ◌≡◌ {A = ℕ} 0 1 = cc in omega arith)

zero_read : (zs os : List ReadSegment) → All AtZero zs → All Elsewhere os → zero_length (zs ++ os) ≡ read_length zs
unfolding All zero_length read_length
zero_read [] [] z n = refl
zero_read [] (o ∷ os) z n = rw (ne_eqb o.position 0 n.0) (omega (arith, zero_read [] os z n.1))
zero_read (x ∷ zs) os z n = rw (eq-eqb x.position 0 z.0) (omega (arith, zero_read zs os z.1 n))

base_goes : (i base : ℕ) (cs : List Run) → goes (of_segment i (base_places base cs)) ≤ suc (length cs)
unfolding base_places
base_goes i base cs = goes_gaps i 0 (message_length base cs) cs

module _ (base : ℕ) (zs os : List ReadSegment) (zero : All AtZero zs) (other : All Elsewhere os) (a : LayoutChecked base (zs ++ os)) (b : BasePulled base (zs ++ os)) where
  few_chunks : length (other_chunks (zs ++ os)) ≤ length os
  few_chunks = rw (others_of zs os zero) (length_others os)

  with_base : 0 < length zs → any_at_zero (zs ++ os) ≡ true → goes (pulled_bytes 0 (dealt (zs ++ os) (read_places base (zs ++ os)))) ≤ length os + length zs + length os
  with_base h t =
      let cs = other_chunks (zs ++ os) in
      let p = read_places base (zs ++ os) in
      let long : length (base_places base cs) ≡ read_length zs = length_base base cs a.stand ∙ sym (b t) ∙ zero_read zs os zero other in
      let front : take (read_length zs) p ≡ base_places base cs = rw t (take_at (base_places base cs) (places cs) (read_length zs) long) in
      let first = rw front at (zeros_some zs p 0 h) in
      let rest = others_goes base (zs ++ os) os zs (0 + length (dealt zs p)) refl a b other in
      rw (dealt_append zs os p, all_append 0 (dealt zs p)) (omega (arith, goes_append (pulled_bytes 0 (dealt zs p)) (pulled_bytes (0 + length (dealt zs p)) (dealt os (drop (read_length zs) p))), first, rest, base_goes 0 base cs, few_chunks))

-- All bytes together: with segments at 0, each of the others parts the base once more.
pub all_goes : (base : ℕ) (reads : List ReadSegment) → length reads ≤ 16 → LayoutChecked base reads → BasePulled base reads → goes (pulled_bytes 0 (dealt reads (read_places base reads))) ≤ 31
unfolding read_length
all_goes base reads few a b = by (any_at_zero reads) refl (zeros 0 reads a.rise)
  where
    sum : (z : Zeros reads) → length z.zs + length z.os ≤ 16
    sum z = let l = ap length z.is ∙ length-append z.zs z.os in omega arith

    by : (t : Bool) → any_at_zero reads ≡ t → Zeros reads → goes (pulled_bytes 0 (dealt reads (read_places base reads))) ≤ 31
    by true t z =
        let there = rw z.is at t in
        let h = some_zero z.zs z.os z.other there in
        rw z.is (omega (arith, sum z, with_base base z.zs z.os z.zero z.other (subst (LayoutChecked base) z.is a) (subst (BasePulled base) z.is b) h there))
    by false t z =
        let none = no_zero z.zs z.os z.zero (rw z.is at t) in
        let all : reads ≡ z.os = z.is ∙ rw none in
        let most = others_goes base reads z.os [] 0 all a b z.other in
        let is : goes (pulled_bytes 0 (dealt reads (read_places base reads))) ≡ goes (pulled_bytes 0 (dealt z.os (read_places base reads))) = ap (λ (l : List ReadSegment). goes (pulled_bytes 0 (dealt l (read_places base reads)))) all in
        omega (arith, sum z)

-- "at most 31"
pub most_goes : (base : ℕ) (reads : List ReadSegment) → length reads ≤ 16 → LayoutChecked base reads → BasePulled base reads → (count size : ℕ) → goes (take size (drop count (pulled_bytes 0 (dealt reads (read_places base reads))))) ≤ 31
most_goes base reads few a b count size = omega (arith, goes_piece count size (pulled_bytes 0 (dealt reads (read_places base reads))), all_goes base reads few a b)
