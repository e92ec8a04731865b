-- Laws about items that stand one behind the other, and about storing them one by one.
-- Assumes nothing.
use mathlib.Core.Path.{◌≡◌, refl, sym, ap, subst, ◌∙◌}
use mathlib.Core.List.{List, ◌∷◌}
use Prim.Native.Nat.{ℕ, zero, suc, ◌+◌, ◌*◌, ◌≤◌, ◌<◌}
use native.Mathlib.Nat.{add-zero, zero-add, zero-mul, suc-mul}
use native.Mathlib.Numerals.{add-one}
use native.Mathlib.Omega.{arith}
use lib.ListN.{length, take, drop, set, get_or}
use lib.Seq.{take_all, drop-drop, drop-cons, get_or-take, length-take-le, ext_get_or}
use denote.Param.Members.{Mut}
use Rattle.std.specs.Array.{IsFromFnResult, IsFromFnResultFrom}
use Rattle.std.specs.Iterator.{ActsAs}
use Rattle.wire.specs.Wire.{stored, joined}
use Rattle.wire.proofs.Fields.{length_stored}
use Rattle.wire.proofs.Joining.{stored_next}
use Rattle.chunk_lists.specs.Parsed.{each}

-- There are as many items as were asked for.
pub length_each : {A : Type 0} (width : ℕ) (item : List ℕ → A) (n : ℕ) (s : List ℕ) → length (each width item n s) ≡ n
unfolding each
length_each width item zero s = refl
length_each width item (suc n) s = ap suc (length_each width item n (drop width s))

-- Item k stands behind k others.
pub item_at : {A : Type 0} (width : ℕ) (item : List ℕ → A) (n : ℕ) (s : List ℕ) (k : ℕ) (z : A) → k < n → get_or (each width item n s) k z ≡ item (drop (k * width) s)
unfolding each
item_at width item zero s k z h = absurd (omega arith)
item_at width item (suc n) s zero z h = rw zero-mul
item_at width item (suc n) s (suc k) z h =
    let e : width + k * width ≡ suc k * width = omega (arith, suc-mul k width) in
    item_at width item n (drop width s) k z (omega arith) ∙ rw (drop-drop (k * width) width s, e)

-- The same of items that are read behind `skip` bytes of their own, from place `from` on.
pub item_there : {A : Type 0} (item : List ℕ → ℕ → A) → ((k j : ℕ) (s : List ℕ) → item (drop k s) j ≡ item s (k + j)) → (width skip from : ℕ) (s : List ℕ) (n k : ℕ) (z : A) → k < n → item s (from + k * width + skip) ≡ get_or (each width (λ t. item t skip) n (drop from s)) k z
item_there item behind width skip from s n k z h =
    sym (item_at width (λ t. item t skip) n (drop from s) k z h ∙ rw (drop-drop (k * width) from s) (behind (from + k * width) skip s))

-- A loop that stores what f gives for the n items of xs, one behind the other from place `to` on: it has stored k of them.
pub record Storing {A B : Type 0} (f : A → List B) (xs : List A) (n : ℕ) (before out : List B) (to k : ℕ) : Type 0 where
  pub within : k ≤ n
  pub long : length out ≡ length before
  pub so_far : out ≡ stored before to (joined f (take k xs))

pub storing_starts : {A B : Type 0} (f : A → List B) (xs : List A) (n : ℕ) (before : List B) (to : ℕ) → Storing f xs n before before to 0
unfolding stored joined
storing_starts f xs n before to = record { within = omega arith; long = refl; so_far = refl }

-- Each turn of such a loop, and its end.
module _ {A B : Type 0} (f : A → List B) (width : ℕ) (sized : (x : A) → length (f x) ≡ width) {xs : List A} {n : ℕ} {before out : List B} {to k : ℕ} (p : Storing f xs n before out to k) (all : length xs ≡ n) where
  pub storing_next : k < n → (z x : A) → x ≡ get_or xs k z → (i : ℕ) → i ≡ to + k * width → (after : List B) → after ≡ stored out i (f x) → Storing f xs n before after to (k + 1)
  storing_next more z x is i here after e = record {
    within = omega arith;
    long = rw (e, length_stored) p.long;
    so_far = stored_next f width sized xs z k to (omega arith) before out after p.so_far (rw (← is, ← here) e);
  }

  pub storing_ends : n ≤ k → out ≡ stored before to (joined f xs)
  storing_ends none_left = p.so_far ∙ rw (take_all k xs (omega arith))

-- The next of the first n elements.
pub next_of : {A : Type 0} (l : List A) (k n : ℕ) (z : A) → k < n → n ≤ length l → drop k (take n l) ≡ get_or l k z ∷ drop (k + 1) (take n l)
next_of l k n z h few =
    let long : k < length (take n l) = rw (length-take-le n l few) h in
    rw (add-one, drop-cons (take n l) k z long, get_or-take n l k z h)

-- The first element of a run, and the rest behind it.
pub store_cons : {A : Type 0} (l : List A) (i : ℕ) (x : A) (xs : List A) → stored l i (x ∷ xs) ≡ stored (set l i x) (i + 1) xs
unfolding stored
store_cons l i x xs = rw add-one

-- An array that is made of what calls give, one for each place, of which none changes what is called: each place.
module _ {F B : Type 0} (g : Mut F (ℕ × Unit {0}) B) (f : F) (h : ℕ → B) (acts : ActsAs g f h) (ys : List B) where
  made_at : (n i k : ℕ) (z : B) → IsFromFnResultFrom g f ys i n → k < n → get_or ys (i + k) z ≡ h (i + k)
  made_at zero i k z p more = absurd (omega arith)
  made_at (suc n) i zero z (q, y, there, called, rest) more = rw add-zero (there.1 z ∙ (acts i y q called).1)
  made_at (suc n) i (suc k) z (q, y, there, called, rest) more =
      let next : i + suc k ≡ (i + 1) + k = omega arith in
      rw next (made_at n (i + 1) k z (subst (λ (p : F). IsFromFnResultFrom g p ys (i + 1) n) (acts i y q called).0 rest) (omega arith))

  pub made_are : (xs : List B) (n : ℕ) (z : B) → IsFromFnResult g f ys n → length xs ≡ n → ((k : ℕ) → k < n → get_or xs k z ≡ h k) → ys ≡ xs
  made_are xs n z made all here =
      ext_get_or z ys xs (made.long ∙ sym all) (λ k more. let few : k < n = omega (arith, made.long, more) in let made_here = made_at n 0 k z made.each few in (rw zero-add at made_here) ∙ sym (here k few))
