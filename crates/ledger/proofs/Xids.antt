-- Lists of xids: what is in them, once or twice, and what is left when one leaves.
-- Assumes nothing.
use Rattle.std.proofs.Common.{◌≡◌, ℕ, suc, ◌≤◌, Bool, true, false, cond, eqb, ltb, List, [], ◌∷◌, ◌++◌, length, sym, refl, ap, ◌∙◌, true≢false, arith, ltb-true, ne_eqb, eqb-true}
use mathlib.Core.Bool.{false≢true}
use borrow.Author.Tests.{eqb-false}
use Rattle.answers.proofs.Checks.{both_hold, neither}
use Rattle.ledger.specs.Ledger.{is_in, any_twice, without}
use Rattle.ledger.specs.Internal.Search.{rising}

-- What is in a list without x, if it is not x.
pub in_without : (x y : ℕ) (xs : List ℕ) → (y ≡ x → ⊥) → is_in y xs ≡ true → is_in y (without x xs) ≡ true
unfolding is_in without
in_without x y [] d e = e
in_without x y (z ∷ zs) d e = by_test (λ h. in_without x y zs d h) (eqb x z) refl (eqb y z) refl
  where
    by_test : (is_in y zs ≡ true → is_in y (without x zs) ≡ true) → (b : Bool) → eqb x z ≡ b → (c : Bool) → eqb y z ≡ c → is_in y (cond b zs (z ∷ without x zs)) ≡ true
    by_test again true q true r = absurd (d (eqb-true y z r ∙ sym (eqb-true x z q)))
    by_test again true q false r = rw r at e
    by_test again false q true r = rw r
    by_test again false q false r = rw r (again (rw r at e))

pub absent_without : (x y : ℕ) (xs : List ℕ) → is_in y xs ≡ false → is_in y (without x xs) ≡ false
unfolding is_in without
absent_without x y [] e = e
absent_without x y (z ∷ zs) e = by_test (λ h. absent_without x y zs h) (eqb x z) (eqb y z) refl
  where
    by_test : (is_in y zs ≡ false → is_in y (without x zs) ≡ false) → (b c : Bool) → eqb y z ≡ c → is_in y (cond b zs (z ∷ without x zs)) ≡ false
    by_test again b true r = absurd (true≢false (rw r at e))
    by_test again true false r = rw r at e
    by_test again false false r = rw r (again (rw r at e))

-- One that is in the list leaves, and no other.
pub length_without : (x : ℕ) (xs : List ℕ) → is_in x xs ≡ true → length xs ≡ suc (length (without x xs))
unfolding is_in without
length_without x [] e = absurd (false≢true e)
length_without x (z ∷ zs) e = by_test (λ h. length_without x zs h) (eqb x z) refl
  where
    by_test : (is_in x zs ≡ true → length zs ≡ suc (length (without x zs))) → (b : Bool) → eqb x z ≡ b → suc (length zs) ≡ suc (length (cond b zs (z ∷ without x zs)))
    by_test again true q = refl
    by_test again false q = ap suc (again (rw q at e))

-- Where none is twice, none is when one leaves.
pub once_without : (x : ℕ) (xs : List ℕ) → any_twice xs ≡ false → any_twice (without x xs) ≡ false
unfolding any_twice without
once_without x [] e = e
once_without x (z ∷ zs) e = by_test (once_without x zs (neither (is_in z zs) (any_twice zs) e).1) (eqb x z)
  where
    by_test : any_twice (without x zs) ≡ false → (b : Bool) → any_twice (cond b zs (z ∷ without x zs)) ≡ false
    by_test d true = (neither (is_in z zs) (any_twice zs) e).1
    by_test d false = rw (absent_without x z zs (neither (is_in z zs) (any_twice zs) e).0) d

-- One more at the end.
absent_end : (x y : ℕ) (xs : List ℕ) → (x ≡ y → ⊥) → is_in x xs ≡ false → is_in x (xs ++ y ∷ []) ≡ false
unfolding is_in
absent_end x y [] d e = rw (ne_eqb x y d)
absent_end x y (z ∷ zs) d e = by_test (λ h. absent_end x y zs d h) (eqb x z) refl
  where
    by_test : (is_in x zs ≡ false → is_in x (zs ++ y ∷ []) ≡ false) → (c : Bool) → eqb x z ≡ c → is_in x ((z ∷ zs) ++ y ∷ []) ≡ false
    by_test again true r = absurd (true≢false (rw r at e))
    by_test again false r = rw r (again (rw r at e))

pub once_end : (y : ℕ) (xs : List ℕ) → any_twice xs ≡ false → is_in y xs ≡ false → any_twice (xs ++ y ∷ []) ≡ false
unfolding any_twice is_in
once_end y [] e f = refl
once_end y (z ∷ zs) e f = by_test (λ h. once_end y zs (neither (is_in z zs) (any_twice zs) e).1 h) (eqb y z) refl
  where
    by_test : (is_in y zs ≡ false → any_twice (zs ++ y ∷ []) ≡ false) → (c : Bool) → eqb y z ≡ c → any_twice ((z ∷ zs) ++ y ∷ []) ≡ false
    by_test again true r = absurd (true≢false (rw r at f))
    by_test again false r = rw (absent_end z y zs (λ q. eqb-false y z r (sym q)) (neither (is_in z zs) (any_twice zs) e).0) (again (rw r at f))

-- What is not above the first of a rising list is not behind it.
not_above : (x y : ℕ) (xs : List ℕ) → y ≤ x → rising (x ∷ xs) ≡ true → is_in y xs ≡ false
unfolding rising is_in
not_above x y [] h e = refl
not_above x y (z ∷ zs) h e =
    let f = both_hold (ltb x z) (rising (z ∷ zs)) e in
    let above = ltb-true x z f.0 in
    rw (ne_eqb y z (λ q. omega arith)) (not_above z y zs (omega arith) f.1)

-- In a rising list none is twice.
pub rising_once : (xs : List ℕ) → rising xs ≡ true → any_twice xs ≡ false
unfolding rising any_twice is_in
rising_once [] e = refl
rising_once (x ∷ []) e = refl
rising_once (x ∷ y ∷ ys) e =
    rw (not_above x x (y ∷ ys) (omega arith) e) (rising_once (y ∷ ys) (both_hold (ltb x y) (rising (y ∷ ys)) e).1)
