-- After any operations from an opening: each answer is what the history says, and the ledger holds what was sent and not answered.
-- Assumes nothing.
use Rattle.std.proofs.Common.{◌≡◌, ℕ, zero, suc, ◌+◌, ◌-◌, ◌%◌, ◌<◌, ◌≤◌, Bool, true, false, cond, not, ◌||◌, eqb, ltb, leb, List, [], ◌∷◌, ◌++◌, length, replicate, sym, refl, ap, ◌∙◌, subst, append-nil, arith, length-append, le-ltb, lt-ltb, eq-eqb, ne_eqb, eqb-true, leb-false}
use mathlib.Core.Bool.{false≢true}
use lib.Seq.{take-append_seam, append_snoc}
use borrow.Author.Tests.{eqb-false}
use Rattle.answers.proofs.Checks.{neither}
use Rattle.ledger.specs.Ledger.{max_in_flight, in_flight, ledger_of, open_answer, is_in, any_twice, unfit, next_xid, spent, send_number, passed_over, send_answer, send_ledger, reply_number, without, reply_ledger}
use Rattle.ledger.specs.History.{Operation, sending, replying, ledger_left, Event, send_got, reply_got, event_of, ledger_after, history, sent_in, answered_in, grant_in, last_in, occurrences, unanswered, unanswered_calls, spent_in, NextXid, SendSaid, Said, AllSaid, numbers_in, minus, Accounted}
use Rattle.ledger.specs.declared.Ledger.{Ledger}
use Rattle.ledger.proofs.Xids.{length_without, once_without, once_end}
use Rattle.ledger.proofs.Searching.{run_within, run_unbroken, search_ends}

-- How often an xid is in a list.
occurrences_append : (x : ℕ) (xs ys : List ℕ) → occurrences x (xs ++ ys) ≡ occurrences x xs + occurrences x ys
unfolding occurrences
occurrences_append x [] ys = omega arith
occurrences_append x (z ∷ xs) ys = by_test (eqb x z) (occurrences_append x xs ys)
  where
    by_test : (c : Bool) → occurrences x (xs ++ ys) ≡ occurrences x xs + occurrences x ys → cond c (suc (occurrences x (xs ++ ys))) (occurrences x (xs ++ ys)) ≡ cond c (suc (occurrences x xs)) (occurrences x xs) + occurrences x ys
    by_test true h = omega arith
    by_test false h = h

occurrences_without : (x y : ℕ) (xs : List ℕ) → is_in x xs ≡ true → occurrences y xs ≡ occurrences y (x ∷ []) + occurrences y (without x xs)
unfolding is_in without occurrences
occurrences_without x y [] e = absurd (false≢true e)
occurrences_without x y (z ∷ zs) e = by_test (λ h. occurrences_without x y zs h) (eqb x z) refl (eqb y z) refl
  where
    by_test : (is_in x zs ≡ true → occurrences y zs ≡ occurrences y (x ∷ []) + occurrences y (without x zs)) → (b : Bool) → eqb x z ≡ b → (c : Bool) → eqb y z ≡ c →
        cond c (suc (occurrences y zs)) (occurrences y zs) ≡ cond (eqb y x) 1 0 + occurrences y (cond b zs (z ∷ without x zs))
    by_test again true q true r = let here : eqb y x ≡ true = eq-eqb y x (eqb-true y z r ∙ sym (eqb-true x z q)) in rw here (omega arith)
    by_test again true q false r = let here : eqb y x ≡ false = ne_eqb y x (λ w. eqb-false y z r (w ∙ eqb-true x z q)) in rw here (omega arith)
    by_test again false q true r = let h = again (rw q at e) in rw r (omega arith)
    by_test again false q false r = let h = again (rw q at e) in rw r h

in_occurrences : (x : ℕ) (xs : List ℕ) → is_in x xs ≡ ltb 0 (occurrences x xs)
unfolding is_in occurrences
in_occurrences x [] = refl
in_occurrences x (y ∷ ys) = by_test (eqb x y) (in_occurrences x ys)
  where
    by_test : (c : Bool) → is_in x ys ≡ ltb 0 (occurrences x ys) → (c || is_in x ys) ≡ ltb 0 (cond c (suc (occurrences x ys)) (occurrences x ys))
    by_test true h = sym (lt-ltb 0 (suc (occurrences x ys)) (omega arith))
    by_test false h = h

absent_occurrences : (x : ℕ) (xs : List ℕ) → is_in x xs ≡ false → occurrences x xs ≡ 0
unfolding is_in occurrences
absent_occurrences x [] e = refl
absent_occurrences x (y ∷ ys) e = let f = neither (eqb x y) (is_in x ys) e in rw f.0 (absent_occurrences x ys f.1)

once_occurrences : (x : ℕ) (xs : List ℕ) → any_twice xs ≡ false → occurrences x xs ≤ 1
unfolding any_twice occurrences
once_occurrences x [] e = omega arith
once_occurrences x (y ∷ ys) e = by_test (neither (is_in y ys) (any_twice ys) e) (once_occurrences x ys (neither (is_in y ys) (any_twice ys) e).1) (eqb x y) refl
  where
    by_test : (is_in y ys ≡ false) × (any_twice ys ≡ false) → occurrences x ys ≤ 1 → (c : Bool) → eqb x y ≡ c → cond c (suc (occurrences x ys)) (occurrences x ys) ≤ 1
    by_test f h true q = let none : occurrences x ys ≡ 0 = absent_occurrences x ys (rw (eqb-true x y q) f.0) in omega arith
    by_test f h false q = h

-- Without several.
not_there : (x : ℕ) (xs : List ℕ) → is_in x xs ≡ false → without x xs ≡ xs
unfolding is_in without
not_there x [] e = refl
not_there x (y ∷ ys) e = let f = neither (eqb x y) (is_in x ys) e in rw f.0 (ap (λ (zs : List ℕ). y ∷ zs) (not_there x ys f.1))

without_end : (x y : ℕ) (xs : List ℕ) → is_in x xs ≡ true → without x (xs ++ y ∷ []) ≡ without x xs ++ y ∷ []
unfolding is_in without
without_end x y [] e = absurd (false≢true e)
without_end x y (z ∷ zs) e = by_test (λ h. without_end x y zs h) (eqb x z) refl
  where
    by_test : (is_in x zs ≡ true → without x (zs ++ y ∷ []) ≡ without x zs ++ y ∷ []) → (c : Bool) → eqb x z ≡ c → cond c (zs ++ y ∷ []) (z ∷ without x (zs ++ y ∷ [])) ≡ cond c zs (z ∷ without x zs) ++ y ∷ []
    by_test again true q = refl
    by_test again false q = ap (λ (ws : List ℕ). z ∷ ws) (again (rw q at e))

length_minus : (xs ys : List ℕ) → length xs ≤ length ys + length (minus xs ys)
unfolding minus
length_minus xs [] = omega arith
length_minus xs (y ∷ ys) = by_test (is_in y xs) refl (length_minus (without y xs) ys)
  where
    by_test : (b : Bool) → is_in y xs ≡ b → length (without y xs) ≤ length ys + length (minus (without y xs) ys) → length xs ≤ suc (length ys) + length (minus (without y xs) ys)
    by_test true e h = let one = length_without y xs e in omega arith
    by_test false e h = let same : length (without y xs) ≡ length xs = ap length (not_there y xs e) in omega arith

-- Where all of ys were in xs, what comes later stays behind.
minus_end : (xs ys : List ℕ) (x : ℕ) → length xs ≡ length ys + length (minus xs ys) → minus (xs ++ x ∷ []) ys ≡ minus xs ys ++ x ∷ []
unfolding minus
minus_end xs [] x e = refl
minus_end xs (y ∷ ys) x e = by_test (is_in y xs) refl (λ h. minus_end (without y xs) ys x h)
  where
    by_test : (b : Bool) → is_in y xs ≡ b → (length (without y xs) ≡ length ys + length (minus (without y xs) ys) → minus (without y xs ++ x ∷ []) ys ≡ minus (without y xs) ys ++ x ∷ []) →
        minus (without y (xs ++ x ∷ [])) ys ≡ minus (without y xs) ys ++ x ∷ []
    by_test true q again = let one = length_without y xs q in rw (without_end y x xs q) (again (omega arith))
    by_test false q again =
        let same : length (without y xs) ≡ length xs = ap length (not_there y xs q) in
        let most = length_minus (without y xs) ys in
        absurd (omega arith)

minus_one : (xs ys : List ℕ) (x : ℕ) → minus xs (ys ++ x ∷ []) ≡ without x (minus xs ys)
unfolding minus
minus_one xs [] x = refl
minus_one xs (y ∷ ys) x = minus_one (without y xs) ys x

-- Two histories, one behind the other.
sent_append : (es fs : List Event) → sent_in (es ++ fs) ≡ sent_in es ++ sent_in fs
unfolding sent_in
sent_append [] fs = refl
sent_append (send_got a ∷ es) fs = by_test (eqb a.number 0) (sent_append es fs)
  where
    by_test : (c : Bool) → sent_in (es ++ fs) ≡ sent_in es ++ sent_in fs → cond c (a.xid ∷ sent_in (es ++ fs)) (sent_in (es ++ fs)) ≡ cond c (a.xid ∷ sent_in es) (sent_in es) ++ sent_in fs
    by_test true h = ap (λ (xs : List ℕ). a.xid ∷ xs) h
    by_test false h = h
sent_append (reply_got xid grant number ∷ es) fs = sent_append es fs

answered_append : (es fs : List Event) → answered_in (es ++ fs) ≡ answered_in es ++ answered_in fs
unfolding answered_in
answered_append [] fs = refl
answered_append (send_got a ∷ es) fs = answered_append es fs
answered_append (reply_got xid grant number ∷ es) fs = by_test (eqb number 0) (answered_append es fs)
  where
    by_test : (c : Bool) → answered_in (es ++ fs) ≡ answered_in es ++ answered_in fs → cond c (xid ∷ answered_in (es ++ fs)) (answered_in (es ++ fs)) ≡ cond c (xid ∷ answered_in es) (answered_in es) ++ answered_in fs
    by_test true h = ap (λ (xs : List ℕ). xid ∷ xs) h
    by_test false h = h

grant_append : (g : ℕ) (es fs : List Event) → grant_in g (es ++ fs) ≡ grant_in (grant_in g es) fs
unfolding grant_in
grant_append g [] fs = refl
grant_append g (send_got a ∷ es) fs = grant_append g es fs
grant_append g (reply_got xid grant number ∷ es) fs = grant_append (cond (eqb number 0) grant g) es fs

last_append : (x : ℕ) (es fs : List Event) → last_in x (es ++ fs) ≡ last_in (last_in x es) fs
unfolding last_in
last_append x [] fs = refl
last_append x (send_got a ∷ es) fs = last_append (cond (eqb a.number 0) a.xid x) es fs
last_append x (reply_got xid grant number ∷ es) fs = last_append x es fs

-- What holds of the calls sent, those answered and the grant.
record Books (gone ans : List ℕ) (g : ℕ) : Type 0 where
  each : (x : ℕ) → occurrences x gone ≡ occurrences x ans + occurrences x (minus gone ans)
  all : length gone ≡ length ans + length (minus gone ans)
  few : length (minus gone ans) ≤ max_in_flight
  once : any_twice (minus gone ans) ≡ false
  granted : g ≡ 0 → ⊥

books_open : Books [] [] 1
unfolding occurrences minus any_twice
books_open = record { each = λ x. refl; all = refl; few = omega arith; once = refl; granted = λ e. omega arith }

-- One call more is sent.
books_sent : (gone ans : List ℕ) (g x : ℕ) → Books gone ans g → is_in x (minus gone ans) ≡ false → length (minus gone ans) < max_in_flight → Books (gone ++ x ∷ []) ans g
books_sent gone ans g x b free room =
    let more = minus_end gone ans x b.all in
    let all = b.all in
    record {
      each = λ y. let h = b.each y in let t = occurrences_append y gone (x ∷ []) in let u = occurrences_append y (minus gone ans) (x ∷ []) in rw more (omega arith);
      all = let t = length-append gone (x ∷ []) in let u = length-append (minus gone ans) (x ∷ []) in rw more (omega arith);
      few = let u = length-append (minus gone ans) (x ∷ []) in rw more (omega arith);
      once = rw more (once_end x (minus gone ans) b.once free);
      granted = b.granted;
    }

-- One call more is answered.
books_answered : (gone ans : List ℕ) (g x grant : ℕ) → Books gone ans g → is_in x (minus gone ans) ≡ true → (grant ≡ 0 → ⊥) → Books gone (ans ++ x ∷ []) grant
books_answered gone ans g x grant b there some =
    let fewer = minus_one gone ans x in
    let one = length_without x (minus gone ans) there in
    let all = b.all in
    let few = b.few in
    record {
      each = λ y. let h = b.each y in let t = occurrences_append y ans (x ∷ []) in let u = occurrences_without x y (minus gone ans) there in rw fewer (omega arith);
      all = let t = length-append ans (x ∷ []) in rw fewer (omega arith);
      few = rw fewer (omega arith);
      once = rw fewer (once_without x (minus gone ans) b.once);
      granted = some;
    }

-- The ledger by the history.
abbrev left : List Event → List ℕ
left es = minus (sent_in es) (answered_in es)

abbrev by_history : ℕ → List Event → Ledger
by_history last es = ledger_of (left es) (grant_in 1 es) (last_in last es)

in_flight_of : (xs : List ℕ) (grant last : ℕ) → in_flight (ledger_of xs grant last) ≡ xs
in_flight_of xs grant last = take-append_seam xs (replicate (max_in_flight - length xs) 0)

more_than : (a t : ℕ) → ltb a (a + t) ≡ ltb 0 t
more_than a zero = le-ltb a (a + 0) (omega arith) ∙ sym (le-ltb 0 0 (omega arith))
more_than a (suc t) = lt-ltb a (a + suc t) (omega arith) ∙ sym (lt-ltb 0 (suc t) (omega arith))

-- What the history says, and what the ledger says.
module _ (last : ℕ) (es : List Event) (b : Books (sent_in es) (answered_in es) (grant_in 1 es)) where
  abbrev l : Ledger
  l = by_history last es

  fit : unfit l ≡ false
  unfolding unfit
  fit = rw (in_flight_of (left es) (grant_in 1 es) (last_in last es), b.once, le-ltb max_in_flight (length (left es)) b.few, ne_eqb (grant_in 1 es) 0 b.granted)

  unanswered_is : (x : ℕ) → unanswered es x ≡ is_in x (left es)
  unanswered_is x = rw (b.each x) (more_than (occurrences x (answered_in es)) (occurrences x (left es)) ∙ sym (in_occurrences x (left es)))

  calls_are : unanswered_calls es ≡ length (left es)
  calls_are = let all = b.all in omega arith

  spent_is : spent l ≡ spent_in es
  unfolding spent
  spent_is = rw calls_are

  -- The run and the search are over the xids that are not answered.
  next_said : length (left es) < max_in_flight → NextXid es (last_in last es) (next_xid l) (passed_over l)
  unfolding next_xid passed_over
  next_said h =
      let within = run_within max_in_flight (last_in last es) (left es) (omega arith) in
      let u = run_unbroken max_in_flight (last_in last es) (left es) (omega arith) h in
      let is = search_ends _ (length (left es)) (last_in last es + 1) (left es) u within in
      rw (in_flight_of (left es) (grant_in 1 es) (last_in last es)) (record {
        is = is;
        over = λ k below. unanswered_is ((last_in last es + 1 + k) % 4294967296) ∙ u.over k below;
        free = unanswered_is _ ∙ rw is u.ends;
        within = rw calls_are within;
        most = omega arith;
      })

  send_number_lem : send_number l ≡ cond (spent_in es) 23 0
  unfolding send_number
  send_number_lem = rw (fit, spent_is) (by_test (spent_in es))
    where
      by_test : (c : Bool) → ◌≡◌ {A = ℕ} (cond (not c) 0 23) (cond c 23 0)
      by_test true = refl
      by_test false = refl

  -- Where calls may be sent there is room.
  room : spent_in es ≡ false → length (left es) < max_in_flight
  room e = let f = neither (leb (grant_in 1 es) (unanswered_calls es)) (leb max_in_flight (unanswered_calls es)) e in rw calls_are at (leb-false max_in_flight (unanswered_calls es) f.1)

  send_said : SendSaid last es (send_answer l)
  unfolding send_answer
  send_said = record { number = send_number_lem; refused = λ e. let is = spends e in (rw is, rw is); sent = λ e. let is = takes e in rw is (next_said (room e)) }
    where
      spends : spent_in es ≡ true → send_number l ≡ 23
      spends e = send_number_lem ∙ rw e

      takes : spent_in es ≡ false → send_number l ≡ 0
      takes e = send_number_lem ∙ rw e

  reply_said : (xid grant : ℕ) → reply_number l xid grant ≡ cond (eqb grant 0) 25 (cond (unanswered es xid) 0 24)
  unfolding reply_number
  reply_said xid grant = rw (fit, in_flight_of (left es) (grant_in 1 es) (last_in last es), unanswered_is xid) (by_test (eqb grant 0) (is_in xid (left es)))
    where
      by_test : (c d : Bool) → ◌≡◌ {A = ℕ} (cond (not c) (cond d 0 24) 25) (cond c 25 (cond d 0 24))
      by_test true d = refl
      by_test false d = refl

  -- What an entry leaves.
  record Goes_on (e : Event) (after : Ledger) : Type 0 where
    books : Books (sent_in (es ++ e ∷ [])) (answered_in (es ++ e ∷ [])) (grant_in 1 (es ++ e ∷ []))
    ledger : by_history last (es ++ e ∷ []) ≡ after

  goes_on_lem : (e : Event) (s a : List ℕ) (g x : ℕ) → sent_in (e ∷ []) ≡ s → answered_in (e ∷ []) ≡ a → grant_in (grant_in 1 es) (e ∷ []) ≡ g → last_in (last_in last es) (e ∷ []) ≡ x →
      Books (sent_in es ++ s) (answered_in es ++ a) g → (after : Ledger) → ledger_of (minus (sent_in es ++ s) (answered_in es ++ a)) g x ≡ after → Goes_on e after
  goes_on_lem e s a g x is-s is-a is-g is_x books after is =
      let sent : sent_in (es ++ e ∷ []) ≡ sent_in es ++ s = sent_append es (e ∷ []) ∙ ap (λ (xs : List ℕ). sent_in es ++ xs) is-s in
      let answered : answered_in (es ++ e ∷ []) ≡ answered_in es ++ a = answered_append es (e ∷ []) ∙ ap (λ (xs : List ℕ). answered_in es ++ xs) is-a in
      let granted : grant_in 1 (es ++ e ∷ []) ≡ g = grant_append 1 es (e ∷ []) ∙ is-g in
      let given : last_in last (es ++ e ∷ []) ≡ x = last_append last es (e ∷ []) ∙ is_x in
      record { books = rw (sent, answered, granted) books; ledger = rw (sent, answered, granted, given) is }

  -- A refused operation leaves all as it was.
  stays : (e : Event) → sent_in (e ∷ []) ≡ [] → answered_in (e ∷ []) ≡ [] → grant_in (grant_in 1 es) (e ∷ []) ≡ grant_in 1 es → last_in (last_in last es) (e ∷ []) ≡ last_in last es → Goes_on e l
  stays e is-s is-a is-g is_x =
      goes_on_lem e [] [] (grant_in 1 es) (last_in last es) is-s is-a is-g is_x (rw (append-nil (sent_in es), append-nil (answered_in es)) b) l (rw (append-nil (sent_in es), append-nil (answered_in es)))

  send_goes_on : Goes_on (send_got (send_answer l)) (send_ledger l)
  unfolding send_ledger send_answer sent_in answered_in grant_in last_in
  send_goes_on = by_test (spent_in es) refl
    where
      by_test : (c : Bool) → spent_in es ≡ c → Goes_on (send_got (send_answer l)) (send_ledger l)
      by_test true e = let refused : send_number l ≡ 23 = rw (send_number_lem, e) in rw refused (stays _ refl refl refl refl)
      by_test false e =
          let taken : send_number l ≡ 0 = rw (send_number_lem, e) in
          let free : is_in (next_xid l) (left es) ≡ false = sym (unanswered_is (next_xid l)) ∙ (next_said (room e)).free in
          let more = minus_end (sent_in es) (answered_in es) (next_xid l) b.all in
          rw taken
          (goes_on_lem _ (next_xid l ∷ []) [] (grant_in 1 es) (next_xid l) refl refl refl refl
          (rw (append-nil (answered_in es)) (books_sent (sent_in es) (answered_in es) (grant_in 1 es) (next_xid l) b free (room e))) _
          (rw (append-nil (answered_in es), more, in_flight_of (left es) (grant_in 1 es) (last_in last es))))

  reply_goes_on : (xid grant : ℕ) → Goes_on (reply_got xid grant (reply_number l xid grant)) (reply_ledger l xid grant)
  unfolding reply_ledger sent_in answered_in grant_in last_in
  reply_goes_on xid grant = by_test (eqb grant 0) refl (is_in xid (left es)) refl
    where
      by_test : (c : Bool) → eqb grant 0 ≡ c → (d : Bool) → is_in xid (left es) ≡ d → Goes_on (reply_got xid grant (reply_number l xid grant)) (reply_ledger l xid grant)
      by_test true e d f = let refused : reply_number l xid grant ≡ 25 = rw (reply_said xid grant, e) in rw refused (stays _ refl refl refl refl)
      by_test false e false f = let refused : reply_number l xid grant ≡ 24 = rw (reply_said xid grant, e, unanswered_is xid, f) in rw refused (stays _ refl refl refl refl)
      by_test false e true f =
          let taken : reply_number l xid grant ≡ 0 = rw (reply_said xid grant, e, unanswered_is xid, f) in
          let fewer = minus_one (sent_in es) (answered_in es) xid in
          rw taken
          (goes_on_lem _ [] (xid ∷ []) grant (last_in last es) refl refl refl refl
          (rw (append-nil (sent_in es)) (books_answered (sent_in es) (answered_in es) (grant_in 1 es) xid grant b f (eqb-false grant 0 e))) _
          (rw (append-nil (sent_in es), fewer, in_flight_of (left es) (grant_in 1 es) (last_in last es))))

  step_said : (o : Operation) → Said last es (event_of l o)
  step_said sending = send_said
  step_said (replying xid grant) = reply_said xid grant

  step_goes_on : (o : Operation) → Goes_on (event_of l o) (ledger_left l o)
  step_goes_on sending = send_goes_on
  step_goes_on (replying xid grant) = reply_goes_on xid grant

-- All of a history, behind another.
record Kept (last : ℕ) (es more : List Event) (after : Ledger) : Type 0 where
  said : AllSaid last es more
  books : Books (sent_in (es ++ more)) (answered_in (es ++ more)) (grant_in 1 (es ++ more))
  ledger : by_history last (es ++ more) ≡ after

runs : (last : ℕ) (os : List Operation) (es : List Event) → Books (sent_in es) (answered_in es) (grant_in 1 es) → Kept last es (history (by_history last es) os) (ledger_after (by_history last es) os)
unfolding history ledger_after AllSaid
runs last [] es b = record { said = tt; books = rw (append-nil es) b; ledger = rw (append-nil es) }
runs last (o ∷ os) es b = with_event (event_of (by_history last es) o) (ledger_left (by_history last es) o) (step_said last es b o) (step_goes_on last es b o) (λ c. runs last os (es ++ event_of (by_history last es) o ∷ []) c)
  where
    with_event : (e : Event) (after : Ledger) → Said last es e → Goes_on last es b e after → (Books (sent_in (es ++ e ∷ [])) (answered_in (es ++ e ∷ [])) (grant_in 1 (es ++ e ∷ [])) → Kept last (es ++ e ∷ []) (history (by_history last (es ++ e ∷ [])) os) (ledger_after (by_history last (es ++ e ∷ [])) os)) →
        Kept last es (e ∷ history after os) (ledger_after after os)
    with_event e after said g again =
        let k = again g.books in
        let whole : es ++ e ∷ history after os ≡ (es ++ e ∷ []) ++ history after os = sym (append_snoc es e (history after os)) in
        let rest : Kept last (es ++ e ∷ []) (history after os) (ledger_after after os) = subst (λ (l : Ledger). Kept last (es ++ e ∷ []) (history l os) (ledger_after l os)) g.ledger k in
        record { said = (said, rest.said); books = rw whole rest.books; ledger = rw whole rest.ledger }

-- No answer that the history says is 17.
never : (last : ℕ) (es more : List Event) → AllSaid last es more → is_in 17 (numbers_in more) ≡ false
unfolding AllSaid numbers_in is_in
never last es [] s = refl
never last es (send_got a ∷ more) s = rw s.0.number (by_test (spent_in es) (never last (es ++ send_got a ∷ []) more s.1))
  where
    by_test : (c : Bool) → is_in 17 (numbers_in more) ≡ false → (eqb 17 (cond c 23 0) || is_in 17 (numbers_in more)) ≡ false
    by_test true h = h
    by_test false h = h
never last es (reply_got xid grant number ∷ more) s = rw s.0 (by_test (eqb grant 0) (unanswered es xid) (never last (es ++ reply_got xid grant number ∷ []) more s.1))
  where
    by_test : (c d : Bool) → is_in 17 (numbers_in more) ≡ false → (eqb 17 (cond c 25 (cond d 0 24)) || is_in 17 (numbers_in more)) ≡ false
    by_test true d h = h
    by_test false true h = h
    by_test false false h = h

-- Order 5, over any history.
pub accounted : (last : ℕ) (os : List Operation) → Accounted last (history (open_answer last).ledger os) (ledger_after (open_answer last).ledger os)
unfolding open_answer sent_in answered_in grant_in last_in minus
accounted last os = settled (runs last os [] books_open)
  where
    settled : {es : List Event} {l : Ledger} → Kept last [] es l → Accounted last es l
    settled {es} {l} k =
        let is = k.ledger in
        let b = k.books in
        let flying : in_flight l ≡ left es = rw (← is) (in_flight_of (left es) (grant_in 1 es) (last_in last es)) in
        record {
          said = k.said;
          calls = λ x. rw flying (b.each x);
          count = rw (← is) b.all;
          once = λ x. rw flying (once_occurrences x (left es) b.once);
          never_17 = never last [] es k.said;
          whole = sym is;
        }

-- A send, after any history.
pub next_send : (last : ℕ) (os : List Operation) → SendSaid last (history (open_answer last).ledger os) (send_answer (ledger_after (open_answer last).ledger os))
unfolding open_answer sent_in answered_in grant_in last_in minus
next_send last os = let k = runs last os [] books_open in rw (← k.ledger) (send_said last (history (ledger_of [] 1 last) os) k.books)
