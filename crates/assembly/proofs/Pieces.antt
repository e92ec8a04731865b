-- What a piece and an asking answer, from what the checks of the state have found.
-- Assumes nothing.
use mathlib.Core.Path.{◌≡◌, refl, sym, ap, ◌∙◌}
use mathlib.Core.Bool.{Bool, true, false, cond}
use mathlib.Core.List.{List, []}
use Prim.Native.Nat.{ℕ, ◌+◌, ◌≤◌, ◌<◌}
use native.Mathlib.Omega.{arith}
use Rattle.std.specs.Prelude.{Result, Ok, Err}
use Rattle.std.specs.Result.{result_unwrap_or}
use Rattle.answers.specs.Refusals.{refusal_number, numbered, outcome_number}
use Rattle.answers.specs.declared.Refusal.{Refusal}
use borrow.Author.Tests.{le-leb, lt-leb, eq-eqb, ne_eqb, eqb-true, eqb-false}
use lib.ListN.{length, take, drop}
use lib.Dec.{eqb}
use Rattle.answers.proofs.Checks.{both_hold, check_passed}
use Rattle.layout.specs.Places.{scatter}
use Rattle.layout.specs.Layout.{message_length, any_at_zero}
use Rattle.placing.specs.Goes.{goes}
use Rattle.assembly_state.specs.State.{State}
use Rattle.assembly.proofs.Arises.{arises}
use Rattle.assembly.specs.Assembly.{reads_of, chunks_of, pulled_of, can_arise, fits_state, piece_number, pulled_bytes_of, piece_goes, piece_answer, piece_buffer, message_number, message_part, piece_words}
use Rattle.assembly.specs.Internal.StateCheck.{placed_piece, message_answer}
use Rattle.assembly.specs.declared.PlacedPiece.{PlacedPiece}
use Rattle.wire.specs.Wire.{stored}
use Rattle.wire.specs.Words.{number_words}
use Rattle.assembly_state.specs.Words.{state_in, with_taken}
use Rattle.layout.proofs.Passed.{place_passed}

module _ (s : State) (piece out : List ℕ) where
  pub take_unfit : fits_state s (length out) ≡ false → (Err 17 ≡ placed_piece s (length out) (length piece)) × (out ≡ piece_buffer s piece out)
  unfolding piece_buffer piece_number piece_goes
  take_unfit f = simp f (refl, refl)

  pub take_long : fits_state s (length out) ≡ true → length (pulled_of s) < s.taken + length piece → (Err 18 ≡ placed_piece s (length out) (length piece)) × (out ≡ piece_buffer s piece out)
  unfolding piece_buffer piece_number piece_goes
  take_long f h = simp (f, lt-leb (s.taken + length piece) (length (pulled_of s)) h) (refl, refl)

  pub take_done : fits_state s (length out) ≡ true → s.taken + length piece ≤ length (pulled_of s) → (g : ℕ) → g ≡ goes (take (length piece) (drop s.taken (pulled_bytes_of s))) → (after : List ℕ) → after ≡ scatter (drop s.taken (pulled_of s)) piece out →
      (Ok (record { taken = s.taken + length piece; goes = g }) ≡ placed_piece s (length out) (length piece)) × (after ≡ piece_buffer s piece out)
  unfolding piece_buffer piece_number piece_goes
  take_done f h g told after e = rw told (simp (f, le-leb (s.taken + length piece) (length (pulled_of s)) h) (refl, e))

module _ (s : State) (room : ℕ) where
  within : message_number s room ≡ 0 → message_length s.base (chunks_of s) ≤ room
  unfolding message_number
  within e =
      let fit = both_hold (can_arise s) _ (check_passed (fits_state s room) 17 _ (omega arith) e).0 in
      let p = place_passed s.kind (any_at_zero (reads_of s)) s.base (chunks_of s) s.buffer (arises s fit.0).placed in
      let same = eqb-true s.buffer room fit.1 in
      let holds = p.holds in
      omega arith

  pub ask_unfit : fits_state s room ≡ false → Err 17 ≡ message_answer s room
  unfolding message_answer message_number
  ask_unfit f = simp f

  pub ask_early : fits_state s room ≡ true → (s.taken ≡ length (pulled_of s) → ⊥) → Err 19 ≡ message_answer s room
  unfolding message_answer message_number
  ask_early f h = simp (f, ne_eqb _ _ h)

  pub ask_done : fits_state s room ≡ true → s.taken ≡ length (pulled_of s) → Ok (message_length s.base (chunks_of s)) ≡ message_answer s room
  unfolding message_answer message_number
  ask_done f h = simp (f, eq-eqb _ _ h)

-- What asking says of the number and of the message.
module _ (s : State) (room : ℕ) where
  abbrev number : ℕ
  number = message_number s room

  pub asked_done : (r : Result ℕ Refusal) → numbered r ≡ message_answer s room → (n : ℕ) → r ≡ Ok n → (number ≡ 0) × (n ≡ message_length s.base (chunks_of s))
  unfolding message_answer
  asked_done r is n e = by (eqb number 0) refl (sym (ap numbered e) ∙ is)
    where
      by : (b : Bool) → eqb number 0 ≡ b → Ok n ≡ cond b (Ok (message_length s.base (chunks_of s))) (Err number) → (number ≡ 0) × (n ≡ message_length s.base (chunks_of s))
      by true z q = (eqb-true number 0 z, grind arith)
      by false z q = absurd (grind arith)

  asked_refused : (e : Refusal) → Err (refusal_number e) ≡ message_answer s room → (refusal_number e ≡ number) × (number ≡ 0 → ⊥)
  unfolding message_answer
  asked_refused e is = by (eqb number 0) refl is
    where
      by : (b : Bool) → eqb number 0 ≡ b → Err (refusal_number e) ≡ cond b (Ok (message_length s.base (chunks_of s))) (Err number) → (refusal_number e ≡ number) × (number ≡ 0 → ⊥)
      by true z q = absurd (grind arith)
      by false z q = (grind arith, eqb-false number 0 z)

  pub asked_number : (r : Result ℕ Refusal) → numbered r ≡ message_answer s room → outcome_number r ≡ number
  asked_number (Ok n) is = sym (asked_done (Ok n) is n refl).0
  asked_number (Err e) is = (asked_refused e is).0

  pub asked_other : (r : Result ℕ Refusal) → numbered r ≡ message_answer s room → ((n : ℕ) → r ≡ Ok n → ⊥) → number ≡ 0 → ⊥
  asked_other (Ok n) is other z = other n refl
  asked_other (Err e) is other z = (asked_refused e is).1 z

  -- A message that is handed out lies within the buffer, and is as long as asking says.
  pub asked_part : (r : Result ℕ Refusal) → numbered r ≡ message_answer s room → (out : List ℕ) → length out ≡ room → (result_unwrap_or r 0 ≤ length out) × (take (result_unwrap_or r 0) out ≡ message_part s out)
  unfolding message_part
  asked_part (Ok n) is out l =
      let done = asked_done (Ok n) is n refl in
      rw (l, done.0, done.1) (within s room done.0, refl)
  asked_part (Err e) is out l = rw (l, ne_eqb number 0 (asked_refused e is).1) (omega arith, refl)

-- The message is as long as asking says, and lies in the buffer.
pub message_part_lem : (s : State) (out : List ℕ) → take (result_unwrap_or (message_answer s (length out)) 0) out ≡ message_part s out
unfolding message_answer message_part
message_part_lem s out = by (eqb (message_number s (length out)) 0)
  where
    by : (b : Bool) → take (result_unwrap_or (cond b (Ok (message_length s.base (chunks_of s))) (Err (message_number s (length out)))) 0) out ≡ cond b (take (message_length s.base (chunks_of s)) out) []
    by true = refl
    by false = refl

-- What a piece leaves of the words, from what it answers.
module _ (w : List ℕ) (room size : ℕ) where
  abbrev answered : ℕ
  answered = piece_number (state_in w) room size

  abbrev counted : PlacedPiece
  counted = record { taken = (state_in w).taken + size; goes = piece_goes (state_in w) room size }

  pub piece_kept : (n : ℕ) → Err n ≡ placed_piece (state_in w) room size → (record { number = n; goes = 0 } ≡ piece_answer (state_in w) room size) × (w ≡ piece_words w room size)
  unfolding piece_words piece_goes
  piece_kept n is = by (eqb answered 0) refl is
    where
      by : (b : Bool) → eqb answered 0 ≡ b → Err n ≡ cond b (Ok counted) (Err answered) → (record { number = n; goes = 0 } ≡ piece_answer (state_in w) room size) × (w ≡ piece_words w room size)
      by true z e = absurd (grind arith)
      by false z e = let same : n ≡ answered = grind arith in rw (z, same) (refl, refl)

  pub piece_counted : (t : PlacedPiece) → Ok t ≡ placed_piece (state_in w) room size → (after : List ℕ) → after ≡ stored w 100 (number_words t.taken) → (record { number = 0; goes = t.goes } ≡ piece_answer (state_in w) room size) × (after ≡ piece_words w room size)
  unfolding piece_words with_taken
  piece_counted t is after made = by (eqb answered 0) refl is
    where
      by : (b : Bool) → eqb answered 0 ≡ b → Ok t ≡ cond b (Ok counted) (Err answered) → (record { number = 0; goes = t.goes } ≡ piece_answer (state_in w) room size) × (after ≡ piece_words w room size)
      by true z e = let same : t ≡ counted = grind arith in let zero_number = eqb-true answered 0 z in (rw (same, zero_number), made ∙ rw (same, z))
      by false z e = absurd (grind arith)
