-- `copy::clear_at` meets its contract.
use mathlib.Core.Path.{◌≡◌, ap, ◌∙◌}
use Prim.Native.Nat.{ℕ, ◌+◌, ◌-◌}
use native.Mathlib.Omega.{arith}
use lib.ListN.{length, take, drop, replicate, length-take, length-drop, length-replicate}
use Rattle.wire.proofs.Fields.{put_stored}
use Rattle.copy.proofs.clear_at.Goals as goal

pub returns : goal.returns
returns c = let a = c.args in
    let lent : length (take (a.k + a.n - a.k) (drop a.k a.out.now)) ≡ a.n = simp (length-take, length-drop) (omega arith) in
    put_stored _ _ _ _ (replicate a.n 0) (c.fill.ensures.after (λ y e. e) ∙ ap (λ (m : ℕ). replicate m 0) lent) (omega (arith, length-replicate {A = ℕ} a.n 0)) (omega arith)
