-- What holds of a state that can arise.
-- Assumes nothing.
use mathlib.Core.Path.{◌≡◌}
use mathlib.Core.Bool.{true}
use lib.ListN.{length}
use lib.Dec.{leb, eqb}
use borrow.Author.Tests.{leb-true, eqb-true}
use Prim.Native.Nat.{◌≤◌}
use Rattle.answers.proofs.Checks.{both_hold}
use Rattle.chunk_lists.specs.Lists.{all_aligned}
use Rattle.read_order.specs.ReadOrder.{is_sorted}
use Rattle.layout.specs.Layout.{any_at_zero, base_length, place_number}
use Rattle.assembly_state.specs.State.{State}
use Rattle.assembly.specs.Assembly.{reads_of, chunks_of, pulled_of, can_arise}

pub record Arises (s : State) : Type 0 where
  pub few : s.reads.count ≤ 16
  pub in_order : is_sorted (reads_of s) ≡ true
  pub aligned : all_aligned (reads_of s) ≡ true
  pub placed : place_number s.kind (any_at_zero (reads_of s)) s.base (chunks_of s) s.buffer ≡ 0
  pub based : base_length s.kind s.base (reads_of s) ≡ s.base
  pub taken : s.taken ≤ length (pulled_of s)

pub arises : (s : State) → can_arise s ≡ true → Arises s
unfolding can_arise
arises s e =
    let a = both_hold (leb s.reads.count 16) _ e in
    let b = both_hold (is_sorted (reads_of s)) _ a.1 in
    let c = both_hold (all_aligned (reads_of s)) _ b.1 in
    let d = both_hold (eqb (place_number s.kind (any_at_zero (reads_of s)) s.base (chunks_of s) s.buffer) 0) _ c.1 in
    let f = both_hold (eqb (base_length s.kind s.base (reads_of s)) s.base) _ d.1 in
    record { few = leb-true _ _ a.0; in_order = b.0; aligned = c.0; placed = eqb-true _ _ d.0; based = eqb-true _ _ f.0; taken = leb-true _ _ f.1 }
