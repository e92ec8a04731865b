-- The tests that definitions and code make are the conditions of orders 5 and 6, said by places.
-- Assumes nothing.
use Rattle.std.proofs.Common.{◌≡◌, ℕ, zero, suc, ◌+◌, ◌%◌, ◌<◌, ◌≤◌, Bool, true, false, not, eqb, ltb, leb, List, [], ◌∷◌, ◌++◌, length, get_or, sym, refl, ◌∙◌, true≢false, arith, length-take, ltb-true, lt-ltb, eq-eqb, ne_eqb, eqb-true, le-leb, leb-false, leb-true}
use mathlib.Core.Bool.{false≢true, or-true}
use borrow.Author.Tests.{eqb-false, not-true}
use Rattle.answers.specs.Answers.{check}
use Rattle.answers.proofs.Checks.{neither, check_passed}
use Rattle.ledger.specs.Ledger.{max_in_flight, in_flight, ledger_of, is_in, any_twice, unfit, first_free, next_xid, spent, send_number, passed_over, send_answer, send_ledger, reply_number, reply_ledger}
use Rattle.ledger.specs.Conditions.{In, Twice, Unfit, more_in_flight, one_twice, no_grant, Spent, reach_grant, reach_room, RunBehind, Next, SendGets, send_unfit, send_spent, send_taken, ReplyGets, reply_unfit, reply_no_grant, reply_unknown, reply_taken, SameCalls}
use Rattle.ledger.specs.declared.Ledger.{Ledger}
use Rattle.ledger.proofs.Searching.{Unbroken, unbroken_only, run_within, run_unbroken, search_ends, search_within}
use Rattle.ledger.proofs.Steps.{send_kept, reply_kept}

-- In a list.
in_at : (x : ℕ) (xs : List ℕ) → is_in x xs ≡ true → In x xs
unfolding is_in
in_at x [] e = absurd (false≢true e)
in_at x (y ∷ ys) e = by_test (eqb x y) refl (λ h. in_at x ys h)
  where
    by_test : (c : Bool) → eqb x y ≡ c → (is_in x ys ≡ true → In x ys) → In x (y ∷ ys)
    by_test true q again = record { place = 0; within = omega arith; is = sym (eqb-true x y q) }
    by_test false q again = let i = again (rw q at e) in let within = i.within in record { place = suc i.place; within = omega arith; is = i.is }

in_place : (x : ℕ) (xs : List ℕ) (k : ℕ) → k < length xs → get_or xs k 0 ≡ x → is_in x xs ≡ true
unfolding is_in
in_place x [] k h e = absurd (omega arith)
in_place x (y ∷ ys) zero h e = rw (eq-eqb x y (sym e))
in_place x (y ∷ ys) (suc k) h e = rw (in_place x ys k (omega arith) e, or-true (eqb x y))

at_in : (x : ℕ) (xs : List ℕ) → In x xs → is_in x xs ≡ true
at_in x xs i = in_place x xs i.place i.within i.is

not_in : (x : ℕ) (xs : List ℕ) → is_in x xs ≡ false → In x xs → ⊥
not_in x xs e i = true≢false (sym (at_in x xs i) ∙ e)

at_not : (x : ℕ) (xs : List ℕ) → (In x xs → ⊥) → is_in x xs ≡ false
at_not x xs d = by_test (is_in x xs) refl
  where
    by_test : (b : Bool) → is_in x xs ≡ b → is_in x xs ≡ false
    by_test true e = absurd (d (in_at x xs e))
    by_test false e = e

-- Twice in a list.
twice_at : (xs : List ℕ) → any_twice xs ≡ true → Twice xs
unfolding any_twice
twice_at [] e = absurd (false≢true e)
twice_at (x ∷ xs) e = by_test (is_in x xs) refl (λ h. twice_at xs h)
  where
    by_test : (c : Bool) → is_in x xs ≡ c → (any_twice xs ≡ true → Twice xs) → Twice (x ∷ xs)
    by_test true q again = let i = in_at x xs q in let within = i.within in record { first = 0; second = suc i.place; before = omega arith; within = omega arith; same = sym i.is }
    by_test false q again =
        let t = again (rw q at e) in
        let before = t.before in
        let within = t.within in
        record { first = suc t.first; second = suc t.second; before = omega arith; within = omega arith; same = t.same }

twice_places : (xs : List ℕ) (i j : ℕ) → i < j → j < length xs → get_or xs i 0 ≡ get_or xs j 0 → any_twice xs ≡ true
unfolding any_twice
twice_places [] i j h k e = absurd (omega arith)
twice_places (x ∷ xs) i zero h k e = absurd (omega arith)
twice_places (x ∷ xs) zero (suc j) h k e = rw (in_place x xs j (omega arith) (sym e))
twice_places (x ∷ xs) (suc i) (suc j) h k e = rw (twice_places xs i j (omega arith) (omega arith) e, or-true (is_in x xs))

at_twice : (xs : List ℕ) → Twice xs → any_twice xs ≡ true
at_twice xs t = twice_places xs t.first t.second t.before t.within t.same

-- "A ledger with more in flight, one xid twice or grant 0"
unfit_is : (l : Ledger) → unfit l ≡ true → Unfit l
unfolding unfit
unfit_is l e = by_test (ltb max_in_flight l.count) refl (any_twice (in_flight l)) refl (eqb l.grant 0) refl
  where
    by_test : (a : Bool) → ltb max_in_flight l.count ≡ a → (b : Bool) → any_twice (in_flight l) ≡ b → (c : Bool) → eqb l.grant 0 ≡ c → Unfit l
    by_test true p b q c r = more_in_flight (ltb-true max_in_flight l.count p)
    by_test false p true q c r = one_twice (twice_at (in_flight l) q)
    by_test false p false q true r = no_grant (eqb-true l.grant 0 r)
    by_test false p false q false r = absurd (false≢true (rw (p, q, r) at e))

is_unfit : (l : Ledger) → Unfit l → unfit l ≡ true
unfolding unfit
is_unfit l (more_in_flight h) = rw (lt-ltb max_in_flight l.count h)
is_unfit l (one_twice t) = rw (at_twice (in_flight l) t, or-true (ltb max_in_flight l.count))
is_unfit l (no_grant e) = rw (eq-eqb l.grant 0 e, or-true (any_twice (in_flight l)), or-true (ltb max_in_flight l.count))

fit_not : (l : Ledger) → unfit l ≡ false → Unfit l → ⊥
fit_not l e u = true≢false (sym (is_unfit l u) ∙ e)

-- "the calls in flight reach or pass the grant or 32"
spent_is : (l : Ledger) → spent l ≡ true → Spent l
unfolding spent
spent_is l e = by_test (leb l.grant l.count) refl (leb max_in_flight l.count) refl
  where
    by_test : (a : Bool) → leb l.grant l.count ≡ a → (b : Bool) → leb max_in_flight l.count ≡ b → Spent l
    by_test true p b q = reach_grant (leb-true l.grant l.count p)
    by_test false p true q = reach_room (leb-true max_in_flight l.count q)
    by_test false p false q = absurd (false≢true (rw (p, q) at e))

is_spent : (l : Ledger) → Spent l → spent l ≡ true
unfolding spent
is_spent l (reach_grant h) = rw (le-leb l.grant l.count h)
is_spent l (reach_room h) = rw (le-leb max_in_flight l.count h, or-true (leb l.grant l.count))

free_not : (l : Ledger) → spent l ≡ false → Spent l → ⊥
free_not l e s = true≢false (sym (is_spent l s) ∙ e)

-- The number of a send, and of a reply: the first condition that holds.
pub send_gets : (l : Ledger) → SendGets l (send_number l)
unfolding send_number
send_gets l = by_test (unfit l) refl (spent l) refl
  where
    by_test : (a : Bool) → unfit l ≡ a → (b : Bool) → spent l ≡ b → SendGets l (check (not (unfit l)) 17 (check (not (spent l)) 23 0))
    by_test true p b q = send_unfit (unfit_is l p) (rw p)
    by_test false p true q = send_spent (fit_not l p) (spent_is l q) (rw (p, q))
    by_test false p false q = send_taken (fit_not l p) (free_not l q) (rw (p, q))

pub reply_gets : (l : Ledger) (xid grant : ℕ) → ReplyGets l xid grant (reply_number l xid grant)
unfolding reply_number
reply_gets l xid grant = by_test (unfit l) refl (eqb grant 0) refl (is_in xid (in_flight l)) refl
  where
    by_test : (a : Bool) → unfit l ≡ a → (b : Bool) → eqb grant 0 ≡ b → (c : Bool) → is_in xid (in_flight l) ≡ c → ReplyGets l xid grant (check (not (unfit l)) 17 (check (not (eqb grant 0)) 25 (check (is_in xid (in_flight l)) 24 0)))
    by_test true p b q c r = reply_unfit (unfit_is l p) (rw p)
    by_test false p true q c r = reply_no_grant (fit_not l p) (eqb-true grant 0 q) (rw (p, q))
    by_test false p false q false r = reply_unknown (fit_not l p) (eqb-false grant 0 q) (not_in xid (in_flight l) r) (rw (p, q, r))
    by_test false p false q true r = reply_taken (fit_not l p) (eqb-false grant 0 q) (in_at xid (in_flight l) r) (rw (p, q, r))

-- What is accepted.
pub accepts : (l : Ledger) → send_number l ≡ 0 → (unfit l ≡ false) × (spent l ≡ false)
unfolding send_number
accepts l e =
    let f = check_passed (not (unfit l)) 17 (check (not (spent l)) 23 0) (omega arith) e in
    let g = check_passed (not (spent l)) 23 0 (omega arith) f.1 in
    (not-true (unfit l) f.0, not-true (spent l) g.0)

pub below : (l : Ledger) → spent l ≡ false → l.count < max_in_flight
unfolding spent
below l e = leb-false max_in_flight l.count (neither (leb l.grant l.count) (leb max_in_flight l.count) e).1

-- The unbroken run of xids in flight behind the last one given, said by places.
behind_last : (l : Ledger) (n : ℕ) → Unbroken n (l.last + 1) (in_flight l) → RunBehind l n
behind_last l n u = record { over = λ k h. in_at ((l.last + 1 + k) % 4294967296) (in_flight l) (u.over k h); ends = not_in ((l.last + 1 + n) % 4294967296) (in_flight l) u.ends }

unbroken_behind : (l : Ledger) (n : ℕ) → RunBehind l n → Unbroken n (l.last + 1) (in_flight l)
unbroken_behind l n r =
    record { over = λ k h. at_in ((l.last + 1 + k) % 4294967296) (in_flight l) (r.over k h); ends = at_not ((l.last + 1 + n) % 4294967296) (in_flight l) r.ends }

-- A call that is sent: the xid given, and how many were passed over.
module _ (l : Ledger) (e : send_number l ≡ 0) where
  room : l.count < max_in_flight
  room = below l (accepts l e).1

  counted : length (in_flight l) ≤ l.count
  counted = rw length-take (omega arith)

  few : length (in_flight l) < max_in_flight
  few = let h = room in let k = counted in omega arith

  xid_is : (send_answer l).xid ≡ next_xid l
  unfolding send_answer
  xid_is = rw e

  passed_is : (send_answer l).passed ≡ passed_over l
  unfolding send_answer
  passed_is = rw e

  passed_run : Unbroken (send_answer l).passed (l.last + 1) (in_flight l)
  unfolding passed_over
  passed_run = rw passed_is (run_unbroken max_in_flight l.last (in_flight l) (omega arith) few)

  pub passed_most : ((send_answer l).passed ≤ l.count) × ((send_answer l).passed ≤ 31)
  unfolding passed_over
  passed_most =
      let within = run_within max_in_flight l.last (in_flight l) (omega arith) in
      let h = room in
      let k = counted in
      rw passed_is (omega arith, omega arith)

  pub run_is : (n : ℕ) → ((send_answer l).passed ≡ n → RunBehind l n) × (RunBehind l n → (send_answer l).passed ≡ n)
  run_is n = (λ q. behind_last l n (rw q at passed_run), λ r. unbroken_only (send_answer l).passed n (l.last + 1) (in_flight l) passed_run (unbroken_behind l n r))

  pub next_is : Next l (send_answer l).xid (send_answer l).passed
  unfolding next_xid
  next_is =
      let within = passed_most.0 in
      let is : (send_answer l).xid ≡ (l.last + 1 + (send_answer l).passed) % 4294967296 = xid_is ∙ search_ends (send_answer l).passed l.count (l.last + 1) (in_flight l) passed_run within in
      record { over = behind_last l (send_answer l).passed passed_run; is = is }

  pub search_is : (k : ℕ) → (k ≤ (send_answer l).passed → first_free k ((l.last + 1) % 4294967296) (in_flight l) ≡ (l.last + 1 + k) % 4294967296) × ((send_answer l).passed ≤ k → first_free k ((l.last + 1) % 4294967296) (in_flight l) ≡ (send_answer l).xid)
  search_is k = (λ h. search_within (send_answer l).passed k (l.last + 1) (in_flight l) passed_run h, λ h. search_ends (send_answer l).passed k (l.last + 1) (in_flight l) passed_run h ∙ sym next_is.is)

-- It joins at the end, and is the last one given.
pub sent_ledger : (l : Ledger) → send_number l ≡ 0 → send_ledger l ≡ ledger_of (in_flight l ++ (send_answer l).xid ∷ []) l.grant (send_answer l).xid
unfolding send_ledger send_answer
sent_ledger l e = rw e

-- "places behind them are ignored"
module _ (l k : Ledger) (s : SameCalls l k) where
  send_number_same : send_number l ≡ send_number k
  unfolding send_number unfit spent
  send_number_same = rw (s.calls, s.count, s.grant)

  next_same : next_xid l ≡ next_xid k
  unfolding next_xid
  next_same = rw (s.calls, s.count, s.last)

  passed_same : passed_over l ≡ passed_over k
  unfolding passed_over
  passed_same = rw (s.calls, s.last)

  pub send_ignores : (send_answer l ≡ send_answer k) × (send_number l ≡ 0 → send_ledger l ≡ send_ledger k)
  unfolding send_answer send_ledger
  send_ignores = (rw (send_number_same, next_same, passed_same), λ e. rw (e, sym send_number_same ∙ e, next_same, s.calls, s.grant))

  reply_number_same : (xid grant : ℕ) → reply_number l xid grant ≡ reply_number k xid grant
  unfolding reply_number unfit
  reply_number_same xid grant = rw (s.calls, s.count, s.grant)

  pub reply_ignores : (xid grant : ℕ) → (reply_number l xid grant ≡ reply_number k xid grant) × (reply_number l xid grant ≡ 0 → reply_ledger l xid grant ≡ reply_ledger k xid grant)
  unfolding reply_ledger
  reply_ignores xid grant = (reply_number_same xid grant, λ e. rw (e, sym (reply_number_same xid grant) ∙ e, s.calls, s.last))

-- "A refusal changes nothing."
pub refused : (l : Ledger) →
    ((send_number l ≡ 0 → ⊥) → ((send_answer l).xid ≡ 0) × (send_ledger l ≡ l))
    × ((xid grant : ℕ) → (reply_number l xid grant ≡ 0 → ⊥) → reply_ledger l xid grant ≡ l)
unfolding send_answer
refused l = (λ d. (rw (ne_eqb (send_number l) 0 d), sym (send_kept l d)), λ xid grant d. sym (reply_kept l xid grant d))

-- "A refused send reports 0."
pub reports_none : (l : Ledger) → (send_number l ≡ 0 → ⊥) → (send_answer l).passed ≡ 0
unfolding send_answer
reports_none l d = rw (ne_eqb (send_number l) 0 d)
