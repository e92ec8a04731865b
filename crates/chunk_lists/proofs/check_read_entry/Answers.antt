-- `chunk_lists::check_read_entry` meets its contract.
use borrow.Author.Tests.{le-leb, lt-leb, eq-eqb, ne_eqb}
use Rattle.chunk_lists.specs.Lists.{read_entry}
use native.Mathlib.Omega.{arith}
use mathlib.Core.Path.{◌≡◌}
use mathlib.Core.Bool.{true, false}
use Prim.Native.Nat.{ℕ, ◌+◌, ◌*◌, ◌/◌, ◌%◌}
use lib.Dec.{eqb}
use Rattle.chunk_lists.proofs.check_read_entry.Goals as goal

-- Rounding up leaves just the multiples of 4 as they are.
unaligned : (x r : ℕ) → r ≡ (x + 3) / 4 * 4 → (r ≡ x → ⊥) → eqb (x % 4) 0 ≡ false
unaligned x r e n = ne_eqb (x % 4) 0 (λ z. n (omega arith))

aligned : (x r : ℕ) → r ≡ (x + 3) / 4 * 4 → r ≡ x → eqb (x % 4) 0 ≡ true
aligned x r e n = eq-eqb (x % 4) 0 (omega arith)

pub returns-then-s-lt-READ_SEGMENT_BYTES : goal.returns-then-s-lt-READ_SEGMENT_BYTES
unfolding read_entry
returns-then-s-lt-READ_SEGMENT_BYTES c = simp (lt-leb _ _ c.if-s-lt-READ_SEGMENT_BYTES.true)

pub returns-then-rounded-position : goal.returns-then-rounded-position
unfolding read_entry
returns-then-rounded-position c = simp (le-leb _ _ c.if-s-lt-READ_SEGMENT_BYTES.false, ← c.word_at-position.ensures, unaligned _ _ c.rounded.ensures c.if-rounded-position.true)

pub returns : goal.returns
unfolding read_entry
returns c = simp (le-leb _ _ c.if-s-lt-READ_SEGMENT_BYTES.false, ← c.word_at-position.ensures, aligned _ _ c.rounded.ensures c.if-rounded-position.false)
