-- What the plain tally leaves is settled by the bytes that it took.
-- Assumes nothing.
use mathlib.Core.Path.{◌≡◌, refl, sym, ap, ◌∙◌}
use mathlib.Core.Bool.{Bool, true, false, cond}
use mathlib.Core.List.{List, [], ◌∷◌, ◌++◌, append_assoc, append-nil}
use Prim.Native.Nat.{ℕ, ◌+◌, ◌≤◌}
use native.Mathlib.Omega.{arith}
use borrow.Author.Tests.{le-leb}
use lib.ListN.{length}
use lib.Dec.{eqb}
use Rattle.header.specs.Content.{Content}
use Rattle.theorems.specs.Calls.{Call, piece, asking, Ending}
use Rattle.theorems.specs.Tally.{has_room, grown, pulled_places_of, tally}
use Rattle.theorems.specs.Demands.{taken_bytes, SameEnding}

-- The bytes that a list of calls has taken.
unfoldable taken : Content → List ℕ → List ℕ → List Call → List ℕ
taken c inline t [] = t
taken c inline t (piece v ∷ calls) = taken c inline (grown c inline t v) calls
taken c inline t (asking ∷ calls) = taken c inline t calls

-- They are the pieces that were answered 0, joined.
taken_joined : (c : Content) (inline out t : List ℕ) (calls : List Call) → taken c inline t calls ≡ t ++ taken_bytes calls (tally c inline out t calls).outcomes
unfolding tally taken taken_bytes
taken_joined c inline out t [] = sym (append-nil t)
taken_joined c inline out t (piece v ∷ calls) = taken_joined c inline out (grown c inline t v) calls ∙ by (has_room c inline t v) (taken_bytes calls (tally c inline out (grown c inline t v) calls).outcomes)
  where
    by : (x : Bool) (rest : List ℕ) → cond x (t ++ v) t ++ rest ≡ t ++ cond (eqb (cond x 0 18) 0) (v ++ rest) rest
    by true rest = append_assoc t v rest
    by false rest = refl
taken_joined c inline out t (asking ∷ calls) = taken_joined c inline out t calls

-- What is left after a list of calls: all but their answers.
abbrev pub left : Ending → Ending
left x = record { outcomes = []; count = x.count; buffer = x.buffer; asked = x.asked }

tally_left : (c : Content) (inline out t : List ℕ) (calls : List Call) → left (tally c inline out t calls) ≡ tally c inline out (taken c inline t calls) []
unfolding tally taken
tally_left c inline out t [] = refl
tally_left c inline out t (piece v ∷ calls) = tally_left c inline out (grown c inline t v) calls
tally_left c inline out t (asking ∷ calls) = tally_left c inline out t calls

pub settled : (c : Content) (inline out t : List ℕ) (calls : List Call) → t ≡ taken_bytes calls (tally c inline out [] calls).outcomes → left (tally c inline out [] calls) ≡ tally c inline out t []
settled c inline out t calls e = tally_left c inline out [] calls ∙ ap (λ (u : List ℕ). tally c inline out u []) (taken_joined c inline out [] calls ∙ sym e)

-- Bytes that have their places are taken in one piece.
pub in_one_piece : (c : Content) (inline out t : List ℕ) → length t ≤ length (pulled_places_of c inline) → left (tally c inline out [] (piece t ∷ [])) ≡ tally c inline out t []
unfolding tally
in_one_piece c inline out t l =
    let room : has_room c inline [] t ≡ true = le-leb (0 + length t) (length (pulled_places_of c inline)) (omega arith) in
    ap (λ (x : Bool). tally c inline out (cond x t []) []) room

pub same_ending : {x y : Ending} → left x ≡ left y → SameEnding x y
same_ending e = record {
  same_count = ap (λ (z : Ending). z.count) e;
  same_buffer = ap (λ (z : Ending). z.buffer) e;
  same_answer = ap (λ (z : Ending). z.asked) e;
}
