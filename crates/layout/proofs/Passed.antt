-- What the numbers of a layout say.
-- Assumes nothing.
use mathlib.Core.Path.{◌≡◌, refl, sym, ap, ◌∙◌}
use mathlib.Core.Bool.{Bool, true, false, cond}
use mathlib.Core.List.{List}
use Prim.Native.Nat.{ℕ, ◌%◌, ◌≤◌, ◌<◌}
use Rattle.std.specs.Prelude.{Result, Ok, Err}
use native.Mathlib.Omega.{arith}
use borrow.Author.Tests.{leb-true, eqb-true, eqb-false}
use lib.Dec.{leb, eqb}
use Rattle.wire.specs.declared.ReadSegment.{ReadSegment}
use Rattle.answers.specs.Refusals.{refusal_number, numbered, outcome_number}
use Rattle.answers.specs.declared.Refusal.{Refusal}
use Rattle.answers.proofs.Checks.{check_passed}
use Rattle.header.specs.Words.{kind_number}
use Rattle.header.specs.declared.Kind.{Kind}
use Rattle.header.specs.declared.Kind.TheVariants.{Msg, Nomsg, Error}
use Rattle.layout.specs.Layout.{kind_fits, base_length, stands, message_length, place_number}
use Rattle.layout.specs.Internal.Walks.{layout_check, layout_number}
use Rattle.layout.specs.declared.Run.{Run}

-- What measuring says of the number, with either answer.
module _ (kind : Kind) (base : ℕ) (atZero : Bool) (cs : List Run) (room : ℕ) (m : Result ℕ Refusal) (measured : numbered m ≡ layout_check kind base atZero cs room) where
  abbrev number : ℕ
  number = place_number kind atZero base cs room

  pub layout_holds : (message : ℕ) → m ≡ Ok message → (number ≡ 0) × (message ≡ message_length base cs)
  unfolding layout_check
  layout_holds message e = by (eqb number 0) refl (sym (ap numbered e) ∙ measured)
    where
      by : (b : Bool) → eqb number 0 ≡ b → Ok message ≡ cond b (Ok (message_length base cs)) (Err number) → (number ≡ 0) × (message ≡ message_length base cs)
      by true z q = (eqb-true number 0 z, grind arith)
      by false z q = absurd (grind arith)

  pub layout_refused : (r : Refusal) → m ≡ Err r → (outcome_number m ≡ number) × (outcome_number m ≡ 0 → ⊥)
  unfolding layout_check
  layout_refused r e = rw e (by (eqb number 0) refl (sym (ap numbered e) ∙ measured))
    where
      by : (b : Bool) → eqb number 0 ≡ b → Err (refusal_number r) ≡ cond b (Ok (message_length base cs)) (Err number) → (refusal_number r ≡ number) × (refusal_number r ≡ 0 → ⊥)
      by true z q = absurd (grind arith)
      by false z q = let same = ap layout_number q in (same, λ w. eqb-false number 0 z (sym same ∙ w))

-- What a number 0 says of the chunks.
pub record Passed (kind : Kind) (atZero : Bool) (base : ℕ) (cs : List Run) (room : ℕ) : Type 0 where
  pub fits : kind_fits kind atZero ≡ true
  pub stand : stands base 0 0 cs ≡ true
  pub long : message_length base cs ≤ 1048576
  pub holds : message_length base cs ≤ room

pub place_passed : (kind : Kind) (atZero : Bool) (base : ℕ) (cs : List Run) (room : ℕ) → place_number kind atZero base cs room ≡ 0 → Passed kind atZero base cs room
unfolding place_number
place_passed kind atZero base cs room e =
    let a = check_passed (kind_fits kind atZero) 12 _ (omega arith) e in
    let b = check_passed (eqb (base % 4) 0) 13 _ (omega arith) a.1 in
    let d = check_passed (stands base 0 0 cs) 14 _ (omega arith) b.1 in
    let f = check_passed (leb (message_length base cs) 1048576) 15 _ (omega arith) d.1 in
    let g = check_passed (leb (message_length base cs) room) 16 0 (omega arith) f.1 in
    record { fits = a.0; stand = d.0; long = leb-true _ _ f.0; holds = leb-true _ _ g.0 }

-- No ERROR header is accepted.
pub kind_known : (kind : Kind) (atZero : Bool) → kind_fits kind atZero ≡ true → kind_number kind < 2
kind_known Msg z e = omega arith
kind_known Nomsg z e = omega arith
kind_known (Error x) z e = absurd (let n : ◌≡◌ {A = ℕ} 0 1 = cc in omega arith)

-- For a state the base length is the one it holds.
pub base_again : (kind : Kind) (inline : ℕ) (reads : List ReadSegment) → base_length kind (base_length kind inline reads) reads ≡ base_length kind inline reads
base_again Msg inline reads = refl
base_again Nomsg inline reads = refl
base_again (Error e) inline reads = refl
