-- Positions that are multiples of 4.
-- Assumes nothing.
use mathlib.Core.Path.{◌≡◌}
use mathlib.Core.Bool.{true}
use mathlib.Core.List.{List, ◌∷◌}
use Rattle.wire.specs.declared.ReadSegment.{ReadSegment}
use Rattle.answers.proofs.Checks.{both_hold}
use Rattle.chunk_lists.specs.Lists.{is_aligned, all_aligned}

-- At the first entry of a list, and at the others.
pub aligned_on : (x : ReadSegment) (l : List ReadSegment) → all_aligned (x ∷ l) ≡ true → (is_aligned x.position ≡ true) × (all_aligned l ≡ true)
unfolding all_aligned
aligned_on x l e = both_hold (is_aligned x.position) (all_aligned l) e
