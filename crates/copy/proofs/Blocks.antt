-- A law about the part of a buffer that was lent.
-- Assumes nothing.
use mathlib.Core.Path.{◌≡◌}
use mathlib.Core.List.{List, ◌++◌, append_assoc, append-nil}
use Prim.Native.Nat.{ℕ, ◌+◌, ◌-◌, ◌≤◌}
use native.Mathlib.Omega.{arith}
use lib.ListN.{length, take, drop, length-drop, drop_of_length-le}
use lib.Seq.{take_all, drop-drop, sets-eq}
use Rattle.wire.specs.Wire.{stored}

-- The part of a buffer from k on, with v at its front, put back.
pub lent_back : (k : ℕ) (l v : List ℕ) → k + length v ≤ length l →
    take k l ++ ((v ++ drop (length v) (take (length l - k) (drop k l))) ++ drop (length l - k) (drop k l)) ≡ stored l k v
unfolding stored
lent_back k l v h =
    let rest : length (drop k l) ≤ length l - k = omega (arith, length-drop k l) in
    rw (take_all (length l - k) (drop k l) rest, drop_of_length-le (drop k l) {i = length l - k} rest, sets-eq v l k h)
    (simp (append-nil, append_assoc, drop-drop))
