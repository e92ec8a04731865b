-- The unbroken run of xids in a list from one xid on, and the search that passes over it. It ends, since so many different xids need as many places.
-- Assumes nothing.
use Rattle.std.proofs.Common.{◌≡◌, ℕ, zero, suc, ◌+◌, ◌%◌, ◌<◌, ◌≤◌, Bool, true, false, cond, eqb, List, ◌∷◌, length, sym, refl, ap, ◌∙◌, true≢false, arith, eqb-true}
use borrow.Author.Tests.{eqb-false}
use Rattle.ledger.specs.Ledger.{is_in, xid_after, first_free, xids_behind, run_length, without}
use Rattle.ledger.proofs.Xids.{in_without, length_without}

-- The n xids from x on are in the list.
abbrev pub Run : ℕ → ℕ → List ℕ → Type 0
Run n x xs = (k : ℕ) → k < n → is_in ((x + k) % 4294967296) xs ≡ true

-- The first of them, and the others.
run_first : (n x : ℕ) (xs : List ℕ) → Run (suc n) x xs → is_in (x % 4294967296) xs ≡ true
run_first n x xs r = let same : x + 0 ≡ x = omega arith in rw same at (r 0 (omega arith))

run_others : (n x : ℕ) (xs : List ℕ) → Run (suc n) x xs → Run n (x + 1) xs
run_others n x xs r k h = let same : x + 1 + k ≡ x + suc k = omega arith in rw same (r (suc k) (omega arith))

-- So many different xids need as many places.
places : (n x : ℕ) (xs : List ℕ) → n ≤ 4294967296 → Run n x xs → n ≤ length xs
places zero x xs h r = omega arith
places (suc n) x xs h r =
    let fewer = places n (x + 1) (without (x % 4294967296) xs) (omega arith) (λ k b. in_without (x % 4294967296) ((x + 1 + k) % 4294967296) xs (λ q. omega arith) (run_others n x xs r k b)) in
    let one_less = length_without (x % 4294967296) xs (run_first n x xs r) in
    omega arith

-- One more at the end, and at the front.
run_more : (n x : ℕ) (xs : List ℕ) → Run n x xs → is_in ((x + n) % 4294967296) xs ≡ true → Run (n + 1) x xs
run_more n x xs r e k h = at_end (eqb k n) refl
  where
    at_end : (c : Bool) → eqb k n ≡ c → is_in ((x + k) % 4294967296) xs ≡ true
    at_end true q = rw (eqb-true k n q) e
    at_end false q = let d = eqb-false k n q in r k (omega arith)

run_before : (n x : ℕ) (xs : List ℕ) → is_in (x % 4294967296) xs ≡ true → Run n (x + 1) xs → Run (suc n) x xs
run_before n x xs e r zero h = let same : x + 0 ≡ x = omega arith in rw same e
run_before n x xs e r (suc k) h = let same : x + suc k ≡ x + 1 + k = omega arith in rw same (r k (omega arith))

-- The unbroken run from x on has n xids.
pub record Unbroken (n x : ℕ) (xs : List ℕ) : Type 0 where
  pub over : Run n x xs
  pub ends : is_in ((x + n) % 4294967296) xs ≡ false

unbroken_none : (x : ℕ) (xs : List ℕ) → Unbroken 0 x xs → is_in (x % 4294967296) xs ≡ false
unbroken_none x xs u = let same : x + 0 ≡ x = omega arith in rw same at u.ends

unbroken_others : (n x : ℕ) (xs : List ℕ) → Unbroken (suc n) x xs → Unbroken n (x + 1) xs
unbroken_others n x xs u = let same : x + 1 + n ≡ x + suc n = omega arith in record { over = run_others n x xs u.over; ends = rw same u.ends }

-- And no other number.
pub unbroken_only : (n m x : ℕ) (xs : List ℕ) → Unbroken n x xs → Unbroken m x xs → n ≡ m
unbroken_only zero zero x xs u v = refl
unbroken_only zero (suc m) x xs u v = absurd (true≢false (sym (run_first m x xs v.over) ∙ unbroken_none x xs u))
unbroken_only (suc n) zero x xs u v = absurd (true≢false (sym (run_first n x xs u.over) ∙ unbroken_none x xs v))
unbroken_only (suc n) (suc m) x xs u v = ap suc (unbroken_only n m (x + 1) xs (unbroken_others n x xs u) (unbroken_others m x xs v))

-- What the run among the n xids behind x says: all of them are in the list, or it is unbroken.
record Counted (n x : ℕ) (xs : List ℕ) (run : ℕ) : Type 0 where
  most : run ≤ n
  over : Run run (x + 1) xs
  stops : run < n → is_in ((x + 1 + run) % 4294967296) xs ≡ false

xids_on : (n x : ℕ) → xids_behind n (x % 4294967296) ≡ xids_behind n x
unfolding xids_behind
xids_on zero x = refl
xids_on (suc n) x = from_same (omega arith)
  where
    from_same : {y z : ℕ} → y ≡ z → y ∷ xids_behind n y ≡ z ∷ xids_behind n z
    from_same e = rw e

counted : (n x : ℕ) (xs : List ℕ) → Counted n x xs (run_length (xids_behind n x) xs)
unfolding xids_behind run_length
counted zero x xs = record { most = omega arith; over = λ k h. absurd (omega arith); stops = λ h. absurd (omega arith) }
counted (suc n) x xs = rw (xids_on n (x + 1)) (by_test (counted n (x + 1) xs) (is_in ((x + 1) % 4294967296) xs) refl)
  where
    by_test : Counted n (x + 1) xs (run_length (xids_behind n (x + 1)) xs) → (b : Bool) → is_in ((x + 1) % 4294967296) xs ≡ b → Counted (suc n) x xs (cond b (suc (run_length (xids_behind n (x + 1)) xs)) 0)
    by_test c true e =
        let most = c.most in
        let same : x + 1 + suc (run_length (xids_behind n (x + 1)) xs) ≡ x + 1 + 1 + run_length (xids_behind n (x + 1)) xs = omega arith in
        record { most = omega arith; over = run_before (run_length (xids_behind n (x + 1)) xs) (x + 1) xs e c.over; stops = λ h. rw same (c.stops (omega arith)) }
    by_test c false e = let same : x + 1 + 0 ≡ x + 1 = omega arith in record { most = omega arith; over = λ k h. absurd (omega arith); stops = λ h. rw same e }

-- It is no longer than the list, and among more xids than the list has it is unbroken.
pub run_within : (n x : ℕ) (xs : List ℕ) → n ≤ 4294967296 → run_length (xids_behind n x) xs ≤ length xs
run_within n x xs below = let c = counted n x xs in let most = c.most in places (run_length (xids_behind n x) xs) (x + 1) xs (omega arith) c.over

pub run_unbroken : (n x : ℕ) (xs : List ℕ) → n ≤ 4294967296 → length xs < n → Unbroken (run_length (xids_behind n x) xs) (x + 1) xs
run_unbroken n x xs below short = let c = counted n x xs in let few = run_within n x xs below in record { over = c.over; ends = c.stops (omega arith) }

-- The search that may step on m times, past n xids that are in the list, to one that is not unless it may not step on.
search_at : (n m x : ℕ) (xs : List ℕ) → Run n x xs → (n < m → is_in ((x + n) % 4294967296) xs ≡ false) → n ≤ m → first_free m (x % 4294967296) xs ≡ (x + n) % 4294967296
unfolding first_free
search_at zero zero x xs r stops h = omega arith
search_at zero (suc m) x xs r stops h = let none = unbroken_none x xs (record { over = r; ends = stops (omega arith) }) in rw none (omega arith)
search_at (suc n) zero x xs r stops h = absurd (omega arith)
search_at (suc n) (suc m) x xs r stops h =
    let on : xid_after (x % 4294967296) ≡ (x + 1) % 4294967296 = omega arith in
    let same : x + 1 + n ≡ x + suc n = omega arith in
    rw (run_first n x xs r, on) (rw same at (search_at n m (x + 1) xs (run_others n x xs r) (λ k. rw same (stops (omega arith))) (omega arith)))

-- It stops at the end of an unbroken run, and before that only where it may not step on.
pub search_ends : (n m x : ℕ) (xs : List ℕ) → Unbroken n x xs → n ≤ m → first_free m (x % 4294967296) xs ≡ (x + n) % 4294967296
search_ends n m x xs u h = search_at n m x xs u.over (λ k. u.ends) h

pub search_within : (n m x : ℕ) (xs : List ℕ) → Unbroken n x xs → m ≤ n → first_free m (x % 4294967296) xs ≡ (x + m) % 4294967296
search_within n m x xs u h = search_at m m x xs (λ k b. u.over k (omega arith)) (λ b. absurd (omega arith)) (omega arith)

-- The loop, where it has come to `xid`.
pub record Seeking (xs : List ℕ) (last xid passed : ℕ) : Type 0 where
  pub few : passed ≤ length xs
  pub is : xid ≡ (last + 1 + passed) % 4294967296
  pub over : Run passed (last + 1) xs

module _ (xs : List ℕ) (last xid passed : ℕ) (short : length xs < 32) (s : Seeking xs last xid passed) where
  pub seeking_next : is_in xid xs ≡ true → Seeking xs last ((xid + 1) % 4294967296) (passed + 1)
  seeking_next e =
      let few = s.few in
      let is = s.is in
      let over = run_more passed (last + 1) xs s.over (rw is at e) in
      record { few = places (passed + 1) (last + 1) xs (omega arith) over; is = omega arith; over = over }

  -- So it has not been past all of them.
  pub seeking_room : is_in xid xs ≡ true → passed < length xs
  seeking_room e = let few = (seeking_next e).few in omega arith

  pub seeking_ends : is_in xid xs ≡ false → (xid ≡ first_free (length xs) (xid_after last) xs) × (passed ≡ run_length (xids_behind 32 last) xs)
  seeking_ends e =
      let u : Unbroken passed (last + 1) xs = record { over = s.over; ends = rw s.is at e } in
      (s.is ∙ sym (search_ends passed (length xs) (last + 1) xs u s.few), unbroken_only passed (run_length (xids_behind 32 last) xs) (last + 1) xs u (run_unbroken 32 last xs (omega arith) short))
