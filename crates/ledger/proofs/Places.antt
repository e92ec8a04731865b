-- What an accepted operation leaves, place by place.
-- Assumes nothing.
use Rattle.std.proofs.Common.{◌≡◌, ℕ, zero, suc, ◌+◌, ◌-◌, ◌<◌, ◌≤◌, Bool, true, false, cond, not, eqb, List, [], ◌∷◌, ◌++◌, length, get_or, take, replicate, sym, refl, ◌∙◌, arith, length-append, eqb-true}
use mathlib.Core.Bool.{false≢true}
use lib.ListN.{length-replicate, get_or-append}
use borrow.Author.Tests.{not-true}
use Rattle.answers.specs.Answers.{check}
use Rattle.answers.proofs.Checks.{check_passed}
use Rattle.ledger.specs.Ledger.{max_in_flight, in_flight, padded, is_in, unfit, send_number, send_answer, send_ledger, reply_number, without, reply_ledger}
use Rattle.ledger.specs.Conditions.{Joined, Closed}
use Rattle.ledger.specs.declared.Ledger.{Ledger}
use Rattle.ledger.proofs.Xids.{length_without}
use Rattle.ledger.proofs.Steps.{all_in_flight, fits}
use Rattle.ledger.proofs.Conditions.{sent_ledger, accepts, below}

-- A row of xids with zeros behind it.
zeros_behind : (xs : List ℕ) (n k : ℕ) → length xs ≤ k → get_or (xs ++ replicate n 0) k 0 ≡ 0
zeros_behind [] zero k h = refl
zeros_behind [] (suc n) zero h = refl
zeros_behind [] (suc n) (suc k) h = zeros_behind [] n k (omega arith)
zeros_behind (x ∷ xs) n zero h = absurd (omega arith)
zeros_behind (x ∷ xs) n (suc k) h = zeros_behind xs n k (omega arith)

in_front : (n : ℕ) (xs : List ℕ) (k : ℕ) → k < n → get_or (take n xs) k 0 ≡ get_or xs k 0
in_front zero xs k h = absurd (omega arith)
in_front (suc n) [] k h = refl
in_front (suc n) (x ∷ xs) zero h = refl
in_front (suc n) (x ∷ xs) (suc k) h = in_front n xs k (omega arith)

at_end : (xs : List ℕ) (x n : ℕ) → length xs ≡ n → get_or (xs ++ x ∷ []) n 0 ≡ x
at_end [] x zero e = refl
at_end [] x (suc n) e = absurd (omega arith)
at_end (y ∷ ys) x zero e = absurd (omega arith)
at_end (y ∷ ys) x (suc n) e = at_end ys x n (omega arith)

full : (xs : List ℕ) → length xs ≤ 32 → length (padded xs) ≡ 32
full xs h = simp (length-append, length-replicate {A = ℕ} (max_in_flight - length xs) 0) (omega arith)

joined : (l : Ledger) (xid : ℕ) → length (in_flight l) ≡ l.count → l.count < 32 → Joined l (record { xids = padded (in_flight l ++ xid ∷ []); count = length (in_flight l ++ xid ∷ []); grant = l.grant; last = xid }) xid
joined l xid all few =
    let more : length (in_flight l ++ xid ∷ []) ≡ l.count + 1 = simp (length-append, all) (omega arith) in
    let behind = replicate {A = ℕ} (max_in_flight - length (in_flight l ++ xid ∷ [])) 0 in
    record {
      stay = λ k h. get_or-append (in_flight l ++ xid ∷ []) behind 0 k (omega arith) ∙ get_or-append (in_flight l) (xid ∷ []) 0 k (omega arith) ∙ in_front l.count l.xids k h;
      joins = get_or-append (in_flight l ++ xid ∷ []) behind 0 l.count (omega arith) ∙ at_end (in_flight l) xid l.count all;
      zeros = λ k h. zeros_behind (in_flight l ++ xid ∷ []) (max_in_flight - length (in_flight l ++ xid ∷ [])) k (omega arith);
      places = full (in_flight l ++ xid ∷ []) (omega arith);
      count = more;
      grant = refl;
      last = refl;
    }

pub send_joins : (l : Ledger) → length l.xids ≡ 32 → send_number l ≡ 0 → Joined l (send_ledger l) (send_answer l).xid
send_joins l long e =
    let few = below l (accepts l e).1 in
    rw (sent_ledger l e) (joined l (send_answer l).xid (all_in_flight l long (omega arith)) few)

-- Where an xid leaves a list.
record Gap (xs : List ℕ) (xid : ℕ) : Type 0 where
  place : ℕ
  within : place < length xs
  is : get_or xs place 0 ≡ xid
  stay : (k : ℕ) → k < place → get_or (without xid xs) k 0 ≡ get_or xs k 0
  close : (k : ℕ) → place ≤ k → get_or (without xid xs) k 0 ≡ get_or xs (k + 1) 0

gap : (xs : List ℕ) (xid : ℕ) → is_in xid xs ≡ true → Gap xs xid
unfolding is_in without
gap [] xid e = absurd (false≢true e)
gap (y ∷ ys) xid e = by_test (eqb xid y) refl (λ h. gap ys xid h)
  where
    one_on : (k : ℕ) → k + 1 ≡ suc k
    one_on k = omega arith

    by_test : (c : Bool) → eqb xid y ≡ c → (is_in xid ys ≡ true → Gap ys xid) → Gap (y ∷ ys) xid
    by_test true q again = record { place = 0; within = omega arith; is = sym (eqb-true xid y q); stay = λ k h. absurd (omega arith); close = λ k h. rw (q, one_on k) }
    by_test false q again =
        let g = again (rw q at e) in
        let within = g.within in
        record { place = suc g.place; within = omega arith; is = g.is; stay = λ k h. stays k h g.stay; close = λ k h. closes k h g.close }
      where
        stays : (k : ℕ) → {p : ℕ} → k < suc p → ((j : ℕ) → j < p → get_or (without xid ys) j 0 ≡ get_or ys j 0) → get_or (cond (eqb xid y) ys (y ∷ without xid ys)) k 0 ≡ get_or (y ∷ ys) k 0
        stays zero h f = rw q
        stays (suc k) h f = rw q (f k (omega arith))

        closes : (k : ℕ) → {p : ℕ} → suc p ≤ k → ((j : ℕ) → p ≤ j → get_or (without xid ys) j 0 ≡ get_or ys (j + 1) 0) → get_or (cond (eqb xid y) ys (y ∷ without xid ys)) k 0 ≡ get_or (y ∷ ys) (k + 1) 0
        closes zero h f = absurd (omega arith)
        closes (suc k) h f = let on : suc k + 1 ≡ suc (k + 1) = omega arith in rw (q, on) (f k (omega arith))

taken : (l : Ledger) (xid grant : ℕ) → reply_number l xid grant ≡ 0 → (unfit l ≡ false) × (is_in xid (in_flight l) ≡ true)
unfolding reply_number
taken l xid grant e =
    let f = check_passed (not (unfit l)) 17 (check (not (eqb grant 0)) 25 (check (is_in xid (in_flight l)) 24 0)) (omega arith) e in
    let g = check_passed (not (eqb grant 0)) 25 (check (is_in xid (in_flight l)) 24 0) (omega arith) f.1 in
    let h = check_passed (is_in xid (in_flight l)) 24 0 (omega arith) g.1 in
    (not-true (unfit l) f.0, h.0)

left : (l : Ledger) (xid grant : ℕ) → length (in_flight l) ≡ l.count → l.count ≤ 32 → is_in xid (in_flight l) ≡ true →
    Closed l (record { xids = padded (without xid (in_flight l)); count = length (without xid (in_flight l)); grant = grant; last = l.last }) xid grant
left l xid grant all few e =
    let g = gap (in_flight l) xid e in
    let within = g.within in
    let one = length_without xid (in_flight l) e in
    let behind = replicate {A = ℕ} (max_in_flight - length (without xid (in_flight l))) 0 in
    record {
      place = g.place;
      within = omega arith;
      is = sym (in_front l.count l.xids g.place (omega arith)) ∙ g.is;
      stay = λ k h. get_or-append (without xid (in_flight l)) behind 0 k (omega arith) ∙ g.stay k h ∙ in_front l.count l.xids k (omega arith);
      close = λ k h b. get_or-append (without xid (in_flight l)) behind 0 k (omega arith) ∙ g.close k h ∙ in_front l.count l.xids (k + 1) (omega arith);
      zeros = λ k h. zeros_behind (without xid (in_flight l)) (max_in_flight - length (without xid (in_flight l))) k (omega arith);
      places = full (without xid (in_flight l)) (omega arith);
      count = omega arith;
      granted = refl;
      last = refl;
    }

pub reply_leaves : (l : Ledger) (xid grant : ℕ) → length l.xids ≡ 32 → reply_number l xid grant ≡ 0 → Closed l (reply_ledger l xid grant) xid grant
unfolding reply_ledger
reply_leaves l xid grant long e =
    let t = taken l xid grant e in
    let few = (fits l t.0).few in
    rw e (left l xid grant (all_in_flight l long few) few t.1)
