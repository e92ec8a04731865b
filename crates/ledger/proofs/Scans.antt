-- What the walks along the xids find, what they clear, and how a gap closes.
-- Assumes nothing.
use Rattle.std.proofs.Common.{drop-drop, ◌≡◌, ℕ, suc, ◌+◌, ◌-◌, ◌<◌, ◌≤◌, Bool, true, false, ◌&&◌, ◌||◌, eqb, ltb, List, [], ◌∷◌, ◌++◌, length, get_or, take, drop, set, replicate, sym, refl, ap, ◌∙◌, append_assoc, append-nil, add-one, arith, length-append, length-drop, take-append-drop, drop_of_length-le, length-take-le, take_all, drop-cons, take-take}
use mathlib.Core.Bool.{and-true, or-false}
use lib.ListN.{length-replicate, replicate-append-replicate}
use lib.Seq.{set_at, paste, take-paste}
use Rattle.std.proofs.lemmas.List.{drop-take, take_more_set}
use Rattle.std.specs.List.{list_any, enumerate_from}
use Rattle.ledger.specs.Ledger.{max_in_flight, padded, is_in, any_twice}
use Rattle.ledger.specs.Internal.Search.{rising}

-- Whether x is there: before place k, or from there on.
pub in_next : (x : ℕ) (xs : List ℕ) (k : ℕ) (so : Bool) → k < length xs → is_in x xs ≡ (so || is_in x (drop k xs)) → is_in x xs ≡ ((so || eqb x (get_or xs k 0)) || is_in x (drop (k + 1) xs))
unfolding is_in
in_next x xs k so h e = e ∙ rw (add-one, drop-cons xs k 0 h) (either so (eqb x (get_or xs k 0)) (is_in x (drop (suc k) xs)))
  where
    either : (a b c : Bool) → (a || (b || c)) ≡ ((a || b) || c)
    either true b c = refl
    either false b c = refl

pub in_end : (x : ℕ) (xs : List ℕ) (k : ℕ) (so : Bool) → length xs ≤ k → is_in x xs ≡ (so || is_in x (drop k xs)) → so ≡ is_in x xs
unfolding is_in
in_end x xs k so h e = sym (e ∙ rw (drop_of_length-le xs {i = k} h) (or-false so))

-- Whether they rise: as far as place k, and from there on.
together : (a b c : Bool) → (a && (b && c)) ≡ ((a && b) && c)
together true b c = refl
together false b c = refl

pub rising_next : (xs : List ℕ) (k : ℕ) (so : Bool) → k + 1 < length xs → rising xs ≡ (so && rising (drop k xs)) → rising xs ≡ ((so && ltb (get_or xs k 0) (get_or xs (k + 1) 0)) && rising (drop (k + 1) xs))
unfolding rising
rising_next xs k so h e =
    let behind : drop (suc k) xs ≡ get_or xs (suc k) 0 ∷ drop (suc (suc k)) xs = drop-cons xs (suc k) 0 (omega arith) in
    e ∙ rw (add-one, drop-cons xs k 0 (omega arith), behind) (together so (ltb (get_or xs k 0) (get_or xs (suc k) 0)) (rising (get_or xs (suc k) 0 ∷ drop (suc (suc k)) xs)))

short_rises : (xs : List ℕ) → length xs ≤ 1 → true ≡ rising xs
unfolding rising
short_rises [] h = refl
short_rises (x ∷ []) h = refl
short_rises (x ∷ y ∷ ys) h = absurd (omega arith)

pub rising_end : (xs : List ℕ) (k : ℕ) (so : Bool) → length xs ≤ k + 1 → rising xs ≡ (so && rising (drop k xs)) → so ≡ rising xs
rising_end xs k so h e = let few = length-drop k xs in let short = short_rises (drop k xs) (omega arith) in sym (e ∙ rw (← short) (and-true so))

-- The first n kept, zeros from there to place i.
abbrev pub cleared : ℕ → ℕ → List ℕ → List ℕ
cleared n i xs = take n xs ++ (replicate (i - n) 0 ++ drop i xs)

pub cleared_none : (n : ℕ) (xs : List ℕ) → xs ≡ cleared n n xs
cleared_none n xs = let none : n - n ≡ 0 = omega arith in rw none (sym (take-append-drop n xs))

pub cleared_next : (n i : ℕ) (xs : List ℕ) → n ≤ i → i < length xs → set (cleared n i xs) i 0 ≡ cleared n (i + 1) xs
cleared_next n i xs h k =
    let front = length-take-le n xs (omega arith) in
    let long : length (take n xs ++ replicate (i - n) 0) ≡ i = simp (length-append, front, length-replicate {A = ℕ} (i - n) 0) (omega arith) in
    let one : i + 1 - n ≡ i - n + 1 = omega arith in
    let before : cleared n i xs ≡ (take n xs ++ replicate (i - n) 0) ++ get_or xs i 0 ∷ drop (suc i) xs =
    rw (drop-cons xs i 0 k) (sym (append_assoc (take n xs) (replicate (i - n) 0) (get_or xs i 0 ∷ drop (suc i) xs))) in
    let after : cleared n (i + 1) xs ≡ (take n xs ++ replicate (i - n) 0) ++ 0 ∷ drop (suc i) xs =
    rw (one, add-one i, ← (replicate-append-replicate {A = ℕ} (i - n) 1 0), append_assoc (replicate (i - n) 0) (0 ∷ []) (drop (suc i) xs))
    (sym (append_assoc (take n xs) (replicate (i - n) 0) (0 ∷ drop (suc i) xs))) in
    rw (before, after) (set_at (take n xs ++ replicate (i - n) 0) (get_or xs i 0) (drop (suc i) xs) 0 i long)

pub cleared_all : (n i : ℕ) (xs : List ℕ) → length xs ≡ max_in_flight → n ≤ max_in_flight → i ≡ max_in_flight → cleared n i xs ≡ padded (take n xs)
cleared_all n i xs long h e =
    let front = length-take-le n xs (omega arith) in
    rw (e, drop_of_length-le xs {i = max_in_flight} (omega arith), append-nil {A = ℕ} (replicate (max_in_flight - n) 0), front)

-- A part that reaches to the end.
rest_is : (xs : List ℕ) (k : ℕ) → take (length xs - k) (drop k xs) ≡ drop k xs
rest_is xs k = let long = length-drop k xs in take_all (length xs - k) (drop k xs) (omega arith)

-- Whether one is there twice, from place i on, where ys are left.
twice_from : (xs : List ℕ) (i : ℕ) (ys : List ℕ) → drop i xs ≡ ys → list_any (λ (p : ℕ × ℕ). is_in p.1 (take (length xs - (p.0 + 1)) (drop (p.0 + 1) xs))) (enumerate_from i ys) ≡ any_twice ys
unfolding any_twice
twice_from xs i [] e = refl
twice_from xs i (y ∷ ys) e =
    let behind : drop (i + 1) xs ≡ ys = sym (drop-drop 1 i xs) ∙ ap (drop 1) e in
    rw (rest_is xs (i + 1), behind, twice_from xs (i + 1) ys behind)

pub twice_at_all : (xs : List ℕ) → list_any (λ (p : ℕ × ℕ). is_in p.1 (take (length xs - (p.0 + 1)) (drop (p.0 + 1) xs))) (enumerate_from 0 xs) ≡ any_twice xs
twice_at_all xs = twice_from xs 0 xs refl

-- What closes a gap: of the first n those behind place p, k of them, move by one.
pub closed : (n m p k : ℕ) (xs : List ℕ) → n ≡ p + 1 + k → m ≡ p + k → n ≤ length xs →
    take m (paste xs p (drop (p + 1) xs) k) ≡ take p (take n xs) ++ drop (p + 1) (take n xs)
closed n m p k xs whole fewer few =
    let rest = length-drop (p + 1) xs in
    let front = take-paste xs p (drop (p + 1) xs) k (omega arith) (omega arith) in
    rw (whole, fewer, front, take-take p (p + 1 + k) xs (omega arith), drop-take (p + 1) k xs)

-- One more behind the first n.
pub one_more : (n : ℕ) (xs : List ℕ) (x : ℕ) → n < length xs → take (n + 1) (set xs n x) ≡ take n xs ++ x ∷ []
one_more n xs x h = take_more_set xs n x h
