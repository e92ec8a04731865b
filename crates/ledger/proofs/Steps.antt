-- What a send and a reply are, by what they meet.
-- Assumes nothing.
use Rattle.std.specs.List.{position_or_len}
use Rattle.std.proofs.Common.{Ok, Err, Option, Some, None, position, ltb-true, ◌≡◌, ℕ, suc, ◌+◌, ◌-◌, ◌<◌, ◌≤◌, Bool, true, false, cond, not, ◌||◌, eqb, ltb, List, [], ◌∷◌, ◌++◌, T as Holds, length, take, drop, sym, refl, subst, true≢false, suc-add, arith, length-take-le, ltb-false, lt-ltb, eq-eqb, ne_eqb}
use mathlib.Core.Bool.{false≢true, or-true}
use borrow.Author.Tests.{eqb-false}
use Rattle.answers.proofs.Checks.{neither, kept}
use Rattle.ledger.specs.Ledger.{max_in_flight, in_flight, padded, is_in, any_twice, unfit, send_number, send_ledger, reply_number, without, reply_ledger}
use Rattle.ledger.specs.Internal.Outcomes.{sent, replied}
use Rattle.ledger.specs.declared.Ledger.{Ledger}
use Rattle.ledger.proofs.Xids.{length_without}

-- A number that differs from 0, as a branch in the code tells it.
pub not_zero : (n : ℕ) → Holds (not (eqb n 0)) → n ≡ 0 → ⊥
not_zero n d e = subst (λ (k : ℕ). Holds (not (eqb k 0))) e d

-- A ledger with grant 0 gets 17.
pub no_grant : (xids : List ℕ) (count grant last : ℕ) → grant ≡ 0 → true ≡ unfit (record { xids = xids; count = count; grant = grant; last = last })
unfolding unfit
no_grant xids count grant last e = rw (eq-eqb grant 0 e, or-true (any_twice (take count xids)), or-true (ltb max_in_flight count))

-- A send on one that gets 17 is refused with it.
pub sent_unfit : (l : Ledger) → unfit l ≡ true → Err 17 ≡ sent l
unfolding send_number
sent_unfit l e = rw e

-- What passes the check for 17.
pub record Fit (l : Ledger) : Type 0 where
  pub few : l.count ≤ max_in_flight
  pub once : any_twice (in_flight l) ≡ false
  pub granted : l.grant ≡ 0 → ⊥

pub fits : (l : Ledger) → unfit l ≡ false → Fit l
unfolding unfit
fits l e =
    let f = neither (ltb max_in_flight l.count) (any_twice (in_flight l) || eqb l.grant 0) e in
    let g = neither (any_twice (in_flight l)) (eqb l.grant 0) f.1 in
    record { few = ltb-false max_in_flight l.count f.0; once = g.0; granted = eqb-false l.grant 0 g.1 }

-- So many xids are in flight.
pub all_in_flight : (l : Ledger) → length l.xids ≡ max_in_flight → l.count ≤ max_in_flight → length (in_flight l) ≡ l.count
all_in_flight l long h = length-take-le l.count l.xids (omega arith)

-- "A refusal changes nothing."
pub send_kept : (l : Ledger) → (send_number l ≡ 0 → ⊥) → l ≡ send_ledger l
unfolding send_ledger
send_kept l d = sym (kept (send_number l) _ l d)

pub reply_kept : (l : Ledger) (xid grant : ℕ) → (reply_number l xid grant ≡ 0 → ⊥) → l ≡ reply_ledger l xid grant
unfolding reply_ledger
reply_kept l xid grant d = sym (kept (reply_number l xid grant) _ l d)

-- Where an xid stands in a list, or its length.
abbrev pub place : ℕ → List ℕ → ℕ
place x xs = position_or_len (λ (y : ℕ). eqb x y) xs

place_in : (x : ℕ) (xs : List ℕ) (b : Bool) → is_in x xs ≡ b → cond b (place x xs < length xs) (place x xs ≡ length xs)
unfolding is_in
place_in x [] true e = absurd (false≢true e)
place_in x [] false e = refl
place_in x (y ∷ ys) b e = by_test (λ c q. place_in x ys c q) (eqb x y) refl b e
  where
    by_test : ((c : Bool) → is_in x ys ≡ c → cond c (place x ys < length ys) (place x ys ≡ length ys)) → (c : Bool) → eqb x y ≡ c → (b : Bool) → (c || is_in x ys) ≡ b →
        cond b (cond (not c) (1 + place x ys) 0 < suc (length ys)) (cond (not c) (1 + place x ys) 0 ≡ suc (length ys))
    by_test again true q true e = omega arith
    by_test again true q false e = absurd (true≢false e)
    by_test again false q true e = let h = again true e in omega arith
    by_test again false q false e = let h = again false e in omega arith

leaves_from : (x : ℕ) (xs : List ℕ) → place x xs < length xs → take (place x xs) xs ++ drop (place x xs + 1) xs ≡ without x xs
unfolding without
leaves_from x [] h = absurd (omega arith)
leaves_from x (y ∷ ys) h = by_test (λ k. leaves_from x ys k) (eqb x y) h
  where
    by_test : (place x ys < length ys → take (place x ys) ys ++ drop (place x ys + 1) ys ≡ without x ys) → (c : Bool) → cond (not c) (1 + place x ys) 0 < suc (length ys) →
        take (cond (not c) (1 + place x ys) 0) (y ∷ ys) ++ drop (cond (not c) (1 + place x ys) 0 + 1) (y ∷ ys) ≡ cond c ys (y ∷ without x ys)
    by_test again true k = refl
    by_test again false k = let more : 1 + place x ys ≡ suc (place x ys) = omega arith in rw (more, suc-add, again (omega arith))

-- An xid that is found is in the list, and leaves from there; one that is not found is not.
pub record Leaves (x : ℕ) (xs : List ℕ) (p : ℕ) : Type 0 where
  pub within : p < length xs
  pub is : is_in x xs ≡ true
  pub rest : take p xs ++ drop (p + 1) xs ≡ without x xs

leaves_at : (x : ℕ) (xs : List ℕ) (b : Bool) → is_in x xs ≡ b → place x xs < length xs → Leaves x xs (place x xs)
leaves_at x xs true e h = record { within = h; is = e; rest = leaves_from x xs h }
leaves_at x xs false e h = let k = place_in x xs false e in absurd (omega arith)

pub found : (x : ℕ) (xs : List ℕ) (p : ℕ) → position (λ (y : ℕ). eqb x y) xs ≡ Some p → Leaves x xs p
found x xs p e = by_test (ltb (place x xs) (length xs)) refl e
  where
    by_test : (b : Bool) → ltb (place x xs) (length xs) ≡ b → cond b (Some (place x xs)) None ≡ Some p → Leaves x xs p
    by_test true q e = let same : place x xs ≡ p = cc in subst (λ (k : ℕ). Leaves x xs k) same (leaves_at x xs (is_in x xs) refl (ltb-true (place x xs) (length xs) q))
    by_test false q e = absurd cc

pub not_found : (x : ℕ) (xs : List ℕ) → position (λ (y : ℕ). eqb x y) xs ≡ None → is_in x xs ≡ false
not_found x xs e = by_test (is_in x xs) refl
  where
    by_test : (b : Bool) → is_in x xs ≡ b → is_in x xs ≡ false
    by_test false q = q
    by_test true q = let h = place_in x xs true q in let none : cond {A = Option ℕ} true (Some (place x xs)) None ≡ None = rw (lt-ltb (place x xs) (length xs) h) at e in absurd cc

-- A reply that is taken.
pub replied_done : (l : Ledger) (xid grant p : ℕ) → unfit l ≡ false → (grant ≡ 0 → ⊥) → length l.xids ≡ max_in_flight → Leaves xid (in_flight l) p → (ys : List ℕ) → ys ≡ padded (take p (in_flight l) ++ drop (p + 1) (in_flight l)) →
    Ok (record { xids = ys; count = l.count - 1; grant = grant; last = l.last }) ≡ replied l xid grant
unfolding reply_ledger reply_number
replied_done l xid grant p fit granted long leaves ys e =
    let all = all_in_flight l long (fits l fit).few in
    let one = length_without xid (in_flight l) leaves.is in
    let fewer : length (without xid (in_flight l)) ≡ l.count - 1 = omega arith in
    rw (e, leaves.rest, fit, ne_eqb grant 0 granted, leaves.is, fewer)
