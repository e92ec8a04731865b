-- Laws about numbers in decimal.
-- Assumes nothing.
use mathlib.Core.Path.{◌≡◌, refl, sym, ap, ◌∙◌}
use mathlib.Core.Bool.{Bool, true, false, cond}
use mathlib.Core.List.{List, [], ◌∷◌, ◌++◌, append_assoc, append-nil}
use Prim.Native.Nat.{ℕ, zero, suc, ◌+◌, ◌-◌, ◌*◌, ◌/◌, ◌%◌, ◌^◌, ◌≤◌, ◌<◌}
use native.Mathlib.Nat.{pow-suc}
use native.Mathlib.Omega.{arith}
use borrow.Author.Tests.{lt-ltb, le-ltb}
use lib.ListN.{length, set, length-append, length-set}
use lib.Dec.{ltb}
use Rattle.std.specs.Prelude.{Option, Some, None, IfSome, IfNone}
use Rattle.std.specs.Option.{unwrap_or}
use Rattle.wire.specs.Wire.{stored}
use Rattle.wire.proofs.Fields.{behind_first}
use Rattle.trace_text.specs.Text.{digits, decimal}

-- A number that fits its room has the same digits in a larger one.
digits_same : (r q n : ℕ) → r ≤ q → n < 10 ^ suc r → digits (suc r) n ≡ digits (suc q) n
unfolding digits
digits_same zero q n h g = let small : n < 10 = g in rw (lt-ltb n 10 small)
digits_same (suc r) zero n h g = absurd (omega arith)
digits_same (suc r) (suc q) n h g =
    ap (λ (l : List ℕ). cond (ltb n 10) ((48 + n) ∷ []) (l ++ ((48 + n % 10) ∷ [])))
    (digits_same r q (n / 10) (omega arith) (omega (arith, pow-suc 10 (suc r))))

-- A number by its last digit and what is before it.
pub decimal_one : (n : ℕ) → n < 10 → decimal n ≡ (48 + n) ∷ []
unfolding decimal digits
decimal_one n h = rw (lt-ltb n 10 h)

pub decimal_more : (n : ℕ) → 10 ≤ n → n < 2 ^ 64 → decimal n ≡ decimal (n / 10) ++ ((48 + n % 10) ∷ [])
unfolding decimal digits
decimal_more n h g =
    let fits : n / 10 < 10 ^ 19 = omega arith in
    rw (le-ltb n 10 h) (ap (λ (l : List ℕ). l ++ ((48 + n % 10) ∷ [])) (digits_same 18 19 (n / 10) (omega arith) fits))

pub decimal_longer : (n : ℕ) → 10 ≤ n → n < 2 ^ 64 → length (decimal n) ≡ length (decimal (n / 10)) + 1
decimal_longer n h g = ap length (decimal_more n h g) ∙ simp length-append

-- How many digits a number has at most: 20, and no more than k if it is below 10 ^ k.
digits_most : (room n : ℕ) → length (digits room n) ≤ room
unfolding digits
digits_most zero n = omega arith
digits_most (suc room) n = by_test (ltb n 10) (digits_most room (n / 10))
  where
    by_test : (b : Bool) → length (digits room (n / 10)) ≤ room → length (cond b ((48 + n) ∷ []) (digits room (n / 10) ++ ((48 + n % 10) ∷ []))) ≤ suc room
    by_test true h = omega arith
    by_test false h = rw length-append (omega arith)

pub decimal_most : (n : ℕ) → length (decimal n) ≤ 20
unfolding decimal
decimal_most n = digits_most 20 n

pub decimal_short : (k n : ℕ) → k ≤ 19 → n < 10 ^ suc k → length (decimal n) ≤ suc k
unfolding decimal
decimal_short k n h g = rw (ap length (digits_same k 19 n h g)) at (digits_most (suc k) n)

-- And at least: more than k, if it is 10 ^ k or above.
some_digit : (n : ℕ) → 1 ≤ length (decimal n)
unfolding decimal digits
some_digit n = by_test (ltb n 10)
  where
    by_test : (b : Bool) → 1 ≤ length (cond b ((48 + n) ∷ []) (digits 19 (n / 10) ++ ((48 + n % 10) ∷ [])))
    by_test true = omega arith
    by_test false = rw length-append (omega arith)

one_at_least : (k : ℕ) → 1 ≤ 10 ^ k
one_at_least zero = omega arith
one_at_least (suc k) = let e = pow-suc 10 k in let h = one_at_least k in omega arith

pub decimal_long : (k n : ℕ) → 10 ^ k ≤ n → n < 2 ^ 64 → suc k ≤ length (decimal n)
decimal_long zero n h g = some_digit n
decimal_long (suc k) n h g =
    let e = pow-suc 10 k in
    let some_left = one_at_least k in
    let more = decimal_long k (n / 10) (omega arith) (omega arith) in
    omega (arith, decimal_longer n (omega arith) g)

-- How many digits there are, by the powers of ten on either side, as the code finds them.
pub counted : (n : ℕ) (o : Option ℕ) → n < 2 ^ 64 → IfNone o (n ≡ 0) → IfSome o (λ k. 10 ^ k ≤ n) → IfSome o (λ k. n < 10 * 10 ^ k) → IfSome o (λ k. k < 20) → unwrap_or o 0 + 1 ≡ length (decimal n)
counted n None word none low high few = let one = ap length (decimal_one n (omega (arith, none))) in omega arith
counted n (Some k) word none low high few =
    let p = pow-suc 10 k in
    omega (arith, decimal_long k n low word, decimal_short k n (omega arith) (omega arith))

-- A number that is written from its last digit on: m is left, its digits end at i, and what stands behind was written.
pub record Writing (out₀ : List ℕ) (to n : ℕ) (out : List ℕ) (m i : ℕ) : Type 0 where
  pub behind : List ℕ
  pub whole : decimal n ≡ decimal m ++ behind
  pub place : i ≡ to + length (decimal m)
  pub text : out ≡ stored out₀ i behind
  pub word : m < 2 ^ 64
  pub same : length out ≡ length out₀
  pub room : to + length (decimal n) ≤ length out₀

pub writing_starts : (out : List ℕ) (to n i : ℕ) → i ≡ to + length (decimal n) → n < 2 ^ 64 → to + length (decimal n) ≤ length out → Writing out to n out n i
unfolding stored
writing_starts out to n i e word room =
    record { behind = []; whole = sym (append-nil (decimal n)); place = e; text = refl; word = word; same = refl; room = room }

module _ {out₀ out : List ℕ} {to n m i : ℕ} (w : Writing out₀ to n out m i) where
  -- There is room for all digits that are left.
  pub writing_room : i ≤ length out
  writing_room =
      let e = ap length w.whole ∙ length-append (decimal m) w.behind in
      let p = w.place in let s = w.same in let r = w.room in
      omega arith

  pub writing_some : to + 1 ≤ i
  writing_some = let p = w.place in omega (arith, some_digit m)

  pub writing_next : 10 ≤ m → Writing out₀ to n (set out (i - 1) (48 + m % 10)) (m / 10) (i - 1)
  unfolding stored
  writing_next h =
      let p = w.place in
      let s = w.same in
      let word = w.word in
      let longer = decimal_longer m h word in
      let d : ℕ = 48 + m % 10 in
      let split : decimal m ≡ decimal (m / 10) ++ (d ∷ []) = decimal_more m h word in
      record {
        behind = d ∷ w.behind;
        whole = w.whole ∙ ap (λ (l : List ℕ). l ++ w.behind) split ∙ append_assoc (decimal (m / 10)) (d ∷ []) w.behind;
        place = omega arith;
        text = behind_first out₀ out (set out (i - 1) d) (i - 1) i (d ∷ []) w.behind w.text refl (omega arith);
        word = omega arith;
        same = length-set out (i - 1) d ∙ s;
        room = w.room;
      }

  pub writing_ends : m < 10 → set out to (48 + m) ≡ stored out₀ to (decimal n)
  unfolding stored
  writing_ends h =
      let one = decimal_one m h in
      let p = w.place in
      let long = ap length one in
      behind_first out₀ out (set out to (48 + m)) to i ((48 + m) ∷ []) w.behind w.text refl (omega arith)
      ∙ ap (λ (l : List ℕ). stored out₀ to l) (sym (w.whole ∙ ap (λ (l : List ℕ). l ++ w.behind) one))
