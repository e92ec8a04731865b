-- Laws about bytes stored and read at places.
-- Assumes nothing.
use mathlib.Core.Path.{◌≡◌, refl, ◌∙◌, ap, sym}
use mathlib.Core.Bool.{Bool, true, false}
use mathlib.Core.List.{List, [], ◌∷◌, ◌++◌, append_assoc}
use Prim.Native.Nat.{ℕ, suc, ◌+◌, ◌-◌, ◌≤◌, ◌<◌}
use native.Mathlib.Nat.{add-zero, zero-add, add-suc, suc-add, le_refl}
use native.Mathlib.Omega.{arith}
use lib.ListN.{length, take, drop, set, replicate, length-drop, length-replicate, replicate-append-replicate}
use borrow.Rule.Slice.PartMut.{put_mid}
use lib.Seq.{take_all, drop-drop, drop_at, set_comm, sets-eq, length-sets}
use lib.Dec.{leb, eqb}
use Rattle.wire.specs.Words.{flag_number}
use Rattle.wire.specs.Wire.{stored}
pub use Rattle.wire.specs.Items.{word_drop, segment_drop, read_segment_drop}

-- The part of a slice from k on.
pub part_from : (k : ℕ) (s : List ℕ) → take (length s - k) (drop k s) ≡ drop k s
part_from k s = take_all (length s - k) (drop k s) (rw length-drop (le_refl _))

-- Two runs stored one behind the other are one run.
pub stored_append : {A : Type 0} (l : List A) (i : ℕ) (a b : List A) → stored l i (a ++ b) ≡ stored (stored l i a) (i + length a) b
unfolding stored
stored_append l i [] b = rw add-zero
stored_append l i (x ∷ a) b = stored_append (set l i x) (suc i) a b ∙ rw (add-suc, suc-add)

-- The same of three states of a buffer.
pub then : {A : Type 0} (l m n : List A) (i j : ℕ) (a b : List A) → m ≡ stored l i a → n ≡ stored m j b → i + length a ≡ j → n ≡ stored l i (a ++ b)
then l m n i j a b p q e = q ∙ rw (← e, p, stored_append l i a b)

-- Storing changes no length.
pub length_stored : {A : Type 0} (l : List A) (i : ℕ) (a : List A) → length (stored l i a) ≡ length l
unfolding stored
length_stored l i a = length-sets l i a

-- A part of a buffer, n elements from k on, that holds v now.
pub put_stored : {A : Type 0} (k n : ℕ) (l part v : List A) → part ≡ v → n ≡ length v → k + n ≤ length l → put_mid k n l part ≡ stored l k v
unfolding stored
put_stored k n l part v p e h = rw (sets-eq v l k (omega (arith, e, h)), drop-drop, e, p) (sym (append_assoc (take k l) v _))

-- Runs stored apart may be stored the other way round.
set_apart : {A : Type 0} (l : List A) (i j : ℕ) (x : A) (b : List A) → i < j → stored (set l i x) j b ≡ set (stored l j b) i x
unfolding stored
set_apart l i j x [] h = refl
set_apart l i j x (y ∷ b) h = rw (set_comm l i j x y (λ e. omega arith)) (set_apart (set l j y) i (suc j) x b (omega arith))

pub stored_apart : {A : Type 0} (l : List A) (i j : ℕ) (a b : List A) → i + length a ≤ j → stored (stored l i a) j b ≡ stored (stored l j b) i a
unfolding stored
stored_apart l i j [] b h = refl
stored_apart l i j (x ∷ a) b h =
    stored_apart (set l i x) (suc i) j a b (omega arith) ∙ rw (set_apart l i j x b (omega arith))

-- The run behind was stored first.
pub behind_first : {A : Type 0} (l m n : List A) (i j : ℕ) (a b : List A) → m ≡ stored l j b → n ≡ stored m i a → i + length a ≡ j → n ≡ stored l i (a ++ b)
behind_first {A} l m n i j a b p q e =
    then l (stored l i a) n i j a b refl (q ∙ ap (λ (t : List A). stored t i a) p ∙ sym (stored_apart l i j a b (omega arith))) e

-- What is stored at the front stands before the bytes behind it.
pub stored_front : (l v : List ℕ) → length v ≤ length l → stored l 0 v ≡ v ++ drop (length v) l
unfolding stored
stored_front l v h = sets-eq v l 0 (omega arith) ∙ rw zero-add

-- A flag, from its word.
pub flag_fits_lem : (flag : Bool) → leb (flag_number flag) 1 ≡ true
flag_fits_lem true = refl
flag_fits_lem false = refl

pub flag_back : (flag : Bool) → eqb (flag_number flag) 1 ≡ flag
flag_back true = refl
flag_back false = refl

-- Equal items, of which the first are dropped.
pub drop_replicate : {A : Type 0} (k n : ℕ) (a : A) → k ≤ n → drop k (replicate n a) ≡ replicate (n - k) a
drop_replicate {A} k n a h =
    let e : n ≡ k + (n - k) = omega arith in
    ap (λ (m : ℕ). drop k (replicate m a)) e
    ∙ ap (λ (l : List A). drop k l) (sym (replicate-append-replicate k (n - k) a))
    ∙ drop_at (replicate k a) (replicate (n - k) a) k (length-replicate k a)
