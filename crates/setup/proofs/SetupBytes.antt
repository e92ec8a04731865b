-- Laws about sizes and setup data.
-- Assumes nothing.
use mathlib.Core.Path.{◌≡◌}
use mathlib.Core.Bool.{true, ◌&&◌}
use mathlib.Core.List.{List}
use Prim.Native.Nat.{ℕ, ◌%◌, ◌≤◌}
use lib.ListN.{length, get_or}
use lib.Dec.{leb, eqb}
use borrow.Author.Tests.{leb-true, eqb-true}
use Rattle.answers.proofs.Checks.{both_hold}
use Rattle.setup.specs.Setup.{is_setup, in_rule, setup_in_rule}
use Rattle.wire.specs.Wire.{word_at}
use Rattle.setup.specs.declared.Size.{Size}
use Rattle.setup.specs.declared.Setup.{Setup}

-- What holds of a size in rule.
pub record Ruled (n : ℕ) : Type 0 where
  pub smallest : 1024 ≤ n
  pub largest : n ≤ 262144
  pub multiple : n % 1024 ≡ 0

pub in_rule_lem : (x : Size) → in_rule x ≡ true → Ruled x.0
unfolding in_rule
in_rule_lem x h =
    let ends = both_hold (leb 1024 x.0) (leb x.0 262144 && eqb (x.0 % 1024) 0) h in
    let rest = both_hold (leb x.0 262144) (eqb (x.0 % 1024) 0) ends.1 in
    record { smallest = leb-true _ _ ends.0; largest = leb-true _ _ rest.0; multiple = eqb-true _ _ rest.1 }

-- Both sizes of a side are in rule.
pub both_in_rule : (x : Setup) → setup_in_rule x ≡ true → (in_rule x.send ≡ true) × (in_rule x.receive ≡ true)
unfolding setup_in_rule
both_in_rule x h = both_hold _ _ h

-- What holds where there is setup data.
pub record There (s : List ℕ) : Type 0 where
  pub long : 8 ≤ length s
  pub identifier : word_at s 0 ≡ 0xf6ab0e18
  pub version : get_or s 4 0 ≡ 1

pub setup_there : (s : List ℕ) → is_setup s ≡ true → There s
unfolding is_setup
setup_there s h =
    let ends = both_hold (leb 8 (length s)) (eqb (word_at s 0) 0xf6ab0e18 && eqb (get_or s 4 0) 1) h in
    let rest = both_hold (eqb (word_at s 0) 0xf6ab0e18) (eqb (get_or s 4 0) 1) ends.1 in
    record { long = leb-true _ _ ends.0; identifier = eqb-true _ _ rest.0; version = eqb-true _ _ rest.1 }
