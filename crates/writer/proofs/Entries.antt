-- What the writer asks of read entries.
-- Assumes nothing.
use mathlib.Core.Path.{◌≡◌, refl}
use mathlib.Core.Bool.{Bool, true, false, cond}
use mathlib.Core.List.{List, [], ◌∷◌}
use Prim.Native.Nat.{ℕ}
use native.Mathlib.Omega.{arith}
use lib.Dec.{eqb}
use borrow.Author.Tests.{eq-eqb, ne_eqb}
use Rattle.wire.specs.declared.ReadSegment.{ReadSegment}
use Rattle.answers.specs.Answers.{check}
use Rattle.answers.proofs.Checks.{check_other, check_passed}
use Rattle.chunk_lists.specs.Lists.{is_aligned, all_aligned}
use Rattle.chunk_lists.proofs.Positions.{aligned_on}
use Rattle.writer.specs.Write.{entries_number}

-- The step of the law below.
check_next : (a : Bool) (p q next : ℕ) → p ≡ cond (eqb q 0) next q → check a 9 p ≡ cond (eqb (check a 9 q) 0) next (check a 9 q)
check_next true p q next h = h
check_next false p q next h = refl

-- The number of the first entry at fault, or where there is none what comes then.
entries_next : (l : List ReadSegment) (next : ℕ) → entries_number l next ≡ cond (eqb (entries_number l 0) 0) next (entries_number l 0)
unfolding entries_number
entries_next [] next = refl
entries_next (x ∷ xs) next = check_next (is_aligned x.position) _ _ next (entries_next xs next)

-- Where an entry is at fault, nothing else is asked.
pub entries_fault : (l : List ReadSegment) → (entries_number l 0 ≡ 0 → ⊥) → (next : ℕ) → entries_number l next ≡ entries_number l 0
entries_fault l h next = rw (entries_next l next, ne_eqb _ _ h)

-- Where none is, the rest decides.
pub entries_fine : (l : List ReadSegment) → entries_number l 0 ≡ 0 → (next : ℕ) → entries_number l next ≡ next
entries_fine l h next = rw (entries_next l next, eq-eqb _ _ h)

-- A number other than 9 comes from behind the entries.
pub entries_other : (l : List ReadSegment) (next given : ℕ) → (9 ≡ given → ⊥) → entries_number l next ≡ given → next ≡ given
unfolding entries_number
entries_other [] next given h e = e
entries_other (x ∷ xs) next given h e = entries_other xs next given h (check_other (is_aligned x.position) 9 _ given h e).1

pub entries_zero : (l : List ReadSegment) (next : ℕ) → entries_number l next ≡ 0 → next ≡ 0
entries_zero l next h = entries_other l next 0 (λ e. omega arith) h

-- Entries that pass are those whose positions are multiples of 4.
pub entries_aligned : (l : List ReadSegment) → entries_number l 0 ≡ 0 → all_aligned l ≡ true
unfolding entries_number all_aligned
entries_aligned [] e = refl
entries_aligned (x ∷ xs) e = let a = check_passed (is_aligned x.position) 9 _ (omega arith) e in rw a.0 (entries_aligned xs a.1)

pub aligned_entries : (l : List ReadSegment) → all_aligned l ≡ true → entries_number l 0 ≡ 0
unfolding entries_number
aligned_entries [] e = refl
aligned_entries (x ∷ xs) e = let a = aligned_on x xs e in rw a.0 (aligned_entries xs a.1)
