-- What the checks of a state find.
-- Assumes nothing.
use mathlib.Core.Path.{◌≡◌, refl, sym, ap, ◌∙◌}
use mathlib.Core.Bool.{Bool, true, false, and-false}
use mathlib.Core.List.{List}
use Prim.Native.Nat.{ℕ, ◌≤◌, ◌<◌}
use native.Mathlib.Omega.{arith}
use Rattle.std.specs.Prelude.{Some, None, Result, Ok, Err}
use Rattle.std.specs.Result.{result_ok}
use Rattle.answers.specs.Refusals.{numbered}
use Rattle.answers.specs.declared.Refusal.{Refusal}
use borrow.Author.Tests.{le-leb, lt-leb, eq-eqb, ne_eqb}
use lib.ListN.{length}
use Rattle.wire.specs.declared.ReadSegment.{ReadSegment}
use Rattle.chunk_lists.specs.Lists.{all_aligned}
use Rattle.read_order.specs.ReadOrder.{is_sorted}
use Rattle.layout.specs.Layout.{message_length, any_at_zero, zero_length, base_length, place_number}
use Rattle.layout.specs.Internal.Walks.{sums_of, reads_check, layout_check}
use Rattle.layout.specs.declared.Sums.{Sums}
use Rattle.layout.proofs.ReadsWalk.{faulty_told}
use Rattle.placing.specs.Internal.Sources.{BasePulled, read_places}
use Rattle.placing.proofs.Segments.{pulled_read, base_pulled, read_length_lem}
use Rattle.assembly_state.specs.State.{State}
use Rattle.assembly.specs.Assembly.{reads_of, chunks_of, pulled_of, can_arise, fits_state}
use Rattle.assembly.specs.Internal.StateCheck.{StateChecked}
use Rattle.layout.proofs.Passed.{Passed, place_passed, layout_holds, layout_refused}

-- What gives no value was refused.
pub refused_told : (r : Result ℕ Refusal) → result_ok r ≡ None → (e : Refusal) × (r ≡ Err e)
refused_told (Ok n) e = absurd (grind arith)
refused_told (Err e) none = (e, refl)

module _ (s : State) (room : ℕ) where
  pub too_many : 16 < s.reads.count → fits_state s room ≡ false
  unfolding can_arise
  too_many h = simp (lt-leb _ _ h)

  -- A list that is not sorted, a position that is no multiple of 4, or chunks that do not stand.
  pub faulty_list : s.reads.count ≤ 16 → reads_check s.base (reads_of s) ≡ None → fits_state s room ≡ false
  unfolding can_arise
  faulty_list few e = by (is_sorted (reads_of s)) (all_aligned (reads_of s)) refl refl
    where
      misplaced_number : is_sorted (reads_of s) ≡ true → all_aligned (reads_of s) ≡ true → place_number s.kind (any_at_zero (reads_of s)) s.base (chunks_of s) s.buffer ≡ 0 → ⊥
      misplaced_number rise aligned z =
          let t : true ≡ false = sym (place_passed s.kind (any_at_zero (reads_of s)) s.base (chunks_of s) s.buffer z).stand ∙ faulty_told s.base (reads_of s) e rise aligned in
          (let n : ◌≡◌ {A = ℕ} 0 1 = cc in omega arith)

      by : (a b : Bool) → is_sorted (reads_of s) ≡ a → all_aligned (reads_of s) ≡ b → fits_state s room ≡ false
      by true true p q = simp (le-leb _ _ few, p, q, ne_eqb _ 0 (misplaced_number p q))
      by true false p q = simp (le-leb _ _ few, p, q)
      by false b p q = simp (le-leb _ _ few, p)

  pub other_buffer : (s.buffer ≡ room → ⊥) → fits_state s room ≡ false
  other_buffer h = simp (ne_eqb _ _ h) (and-false (can_arise s))

  module _ (few : s.reads.count ≤ 16) (rise : is_sorted (reads_of s) ≡ true) (aligned : all_aligned (reads_of s) ≡ true) (same : s.buffer ≡ room) (sums : Sums) (summed : sums ≡ sums_of (reads_of s)) (m : Result ℕ Refusal) (measured : numbered m ≡ layout_check s.kind s.base sums.any_zero (chunks_of s) room) where
    same_number : place_number s.kind sums.any_zero s.base (chunks_of s) room ≡ place_number s.kind (any_at_zero (reads_of s)) s.base (chunks_of s) s.buffer
    same_number = rw (summed, same)

    pub misplaced : (r : Refusal) → m ≡ Err r → fits_state s room ≡ false
    unfolding can_arise
    misplaced r e =
        let told = layout_refused s.kind s.base sums.any_zero (chunks_of s) room m measured r e in
        simp (le-leb _ _ few, rise, aligned, ne_eqb _ 0 (λ z. told.1 (told.0 ∙ same_number ∙ z)))

    module _ (message : ℕ) (holds : m ≡ Ok message) where
      told : (place_number s.kind sums.any_zero s.base (chunks_of s) room ≡ 0) × (message ≡ message_length s.base (chunks_of s))
      told = layout_holds s.kind s.base sums.any_zero (chunks_of s) room m measured message holds

      zero_number : place_number s.kind (any_at_zero (reads_of s)) s.base (chunks_of s) s.buffer ≡ 0
      zero_number = sym same_number ∙ told.0

      passed : Passed s.kind (any_at_zero (reads_of s)) s.base (chunks_of s) s.buffer
      passed = place_passed s.kind (any_at_zero (reads_of s)) s.base (chunks_of s) s.buffer zero_number

      module _ (base : ℕ) (b : (reads : List ReadSegment) → sums.zero_length ≡ zero_length reads → base ≡ base_length s.kind s.base reads) where
        base_of_lem : base ≡ base_length s.kind s.base (reads_of s)
        base_of_lem = b (reads_of s) (ap (λ (x : Sums). x.zero_length) summed)

        pub other_base : (base ≡ s.base → ⊥) → fits_state s room ≡ false
        unfolding can_arise
        other_base h = simp (le-leb _ _ few, rise, aligned, zero_number, ne_eqb _ _ (λ e. h (base_of_lem ∙ e)))

        module _ (based : base ≡ s.base) where
          pulls : BasePulled s.base (reads_of s)
          pulls = base_pulled s.kind s.base (reads_of s) passed.fits (sym base_of_lem ∙ based)

          places_of : pulled_of s ≡ read_places s.base (reads_of s)
          places_of = pulled_read s.kind s.base (reads_of s) passed.fits

          -- All bytes of a read list are to be pulled.
          pulled_of_lem : sums.all_length ≡ length (pulled_of s)
          pulled_of_lem = ap (λ (x : Sums). x.all_length) summed ∙ sym (read_length_lem s.base (reads_of s) passed.stand pulls) ∙ ap length (sym places_of)

          pub over_taken : sums.all_length < s.taken → fits_state s room ≡ false
          unfolding can_arise
          over_taken h = simp (le-leb _ _ few, rise, aligned, zero_number, eq-eqb _ _ (sym base_of_lem ∙ based), lt-leb _ _ (rw pulled_of_lem at h))

          fit : s.taken ≤ length (pulled_of s) → fits_state s room ≡ true
          unfolding can_arise
          fit h = simp (le-leb _ _ few, rise, aligned, zero_number, eq-eqb _ _ (sym base_of_lem ∙ based), le-leb _ _ h, eq-eqb _ _ same)

          pub fit_checked : s.taken ≤ sums.all_length → StateChecked s room (Some (record { message = message; pulled = sums.all_length }))
          fit_checked h =
              let p = passed in
              let room_for = p.holds in
              let long = p.long in (
                fit (rw pulled_of_lem at h),
                record {
                  count = few;
                  layout = record { rise = rise; stand = p.stand; small = omega arith };
                  message = told.1;
                  holds = omega arith;
                  base = pulls;
                  places = places_of;
                  pulled = pulled_of_lem;
                  taken = rw pulled_of_lem at h;
                },
              )
