-- Laws about the lines of a report: how they are written piece by piece, and how long they are.
-- Assumes nothing.
use mathlib.Core.Path.{◌≡◌, refl, sym}
use mathlib.Core.List.{List, ◌++◌, append_assoc}
use Prim.Native.Nat.{ℕ, ◌+◌, ◌-◌, ◌≤◌}
use native.Mathlib.Omega.{arith}
use lib.ListN.{length, take, drop, length-append}
use lib.Seq.{sets-eq, drop-drop}
use Rattle.wire.specs.Wire.{stored}
use Rattle.wire.proofs.Fields.{then}
use Rattle.error_reply.specs.declared.ReplyKind.{ReplyKind}
use Rattle.error_reply.specs.declared.ReplyKind.TheVariants.{None, Version, Chunk}
use Rattle.trace_text.specs.Verdict.{verdict_of}
use Rattle.trace_text.specs.Text.{ascii, decimal, heading, reply_text, verdict_text, bad_text, sums_text, too_long}
use Rattle.trace_text.specs.declared.Verdict.{Verdict}
use Rattle.trace_text.specs.declared.Sums.{Sums}
use Rattle.trace_text.proofs.Decimals.{decimal_most, decimal_short}
use Rattle.trace_text.proofs.Verdicts.{answer_low, payload_most}

-- A text is copied into its place.
pub copied : (l v w : List ℕ) (to : ℕ) → to + length v ≤ length l → w ≡ v → take to l ++ (w ++ drop (to + length v - to) (drop to l)) ≡ stored l to v
unfolding stored
copied l v w to h e =
    let size : to + length v - to ≡ length v = omega arith in
    rw (e, size, sets-eq v l to h, drop-drop) (sym (append_assoc (take to l) v (drop (to + length v) l)))

-- A run behind another: both are one run, which ends where the second does.
pub behind : (l : List ℕ) (i : ℕ) (a b : List ℕ) {m n : List ℕ} {j k : ℕ} → (m ≡ stored l i a) × (j ≡ i + length a) → (n ≡ stored m j b) × (k ≡ j + length b) → (n ≡ stored l i (a ++ b)) × (k ≡ i + length (a ++ b))
behind l i a b p q = (then _ _ _ _ _ _ _ p.0 q.0 (sym p.1), rw length-append (omega (arith, p.1, q.1)))

-- The same where the first is a text and a number.
pub number_behind : (a l : List ℕ) (i x : ℕ) (b : List ℕ) {m n : List ℕ} {j k : ℕ} → (m ≡ stored l i (a ++ decimal x)) × (j ≡ i + (length a + length (decimal x))) → (n ≡ stored m j b) × (k ≡ j + length b) → (n ≡ stored l i ((a ++ decimal x) ++ b)) × (k ≡ i + length ((a ++ decimal x) ++ b))
number_behind a l i x b p q = behind l i (a ++ decimal x) b (p.0, rw length-append p.1) q

-- The lengths of the lines, by their parts.
pub verdict_length : (number : ℕ) (v : Verdict) → length (verdict_text number v) ≡ length (decimal number) + (1 + length (decimal v.answer) + (1 + length (decimal v.payload) + length (reply_text v.reply)))
unfolding verdict_text ascii
verdict_length number v = simp length-append (omega arith)

pub bad_length : (number : ℕ) → length (bad_text number) ≡ length (decimal number) + 5
unfolding bad_text ascii
bad_length number = simp length-append

pub sums_length : (t : Sums) → length (sums_text t) ≡ 9 + length (decimal t.accepted) + (9 + length (decimal t.refused) + (5 + length (decimal t.bad) + (9 + length (decimal t.payload) + 1)))
unfolding sums_text ascii
sums_length t = simp length-append (omega arith)

pub heading_length : length heading ≡ 27
unfolding heading ascii
heading_length = refl

pub too_long_length : length too_long ≡ 9
unfolding too_long ascii
too_long_length = refl

-- The most bytes that a line has.
reply_short : (k : ReplyKind) → length (reply_text k) ≤ 7
unfolding reply_text ascii
reply_short None = omega arith
reply_short Version = omega arith
reply_short Chunk = omega arith

pub verdict_short : (number : ℕ) (f : List ℕ) → number ≤ 1_000_000 → length f ≤ 4_096 → length (verdict_text number (verdict_of f)) ≤ 22
unfolding verdict_of
verdict_short number f h g =
    let v = verdict_of f in
    let first = decimal_short 6 number (omega arith) (omega arith) in
    let second = decimal_short 1 v.answer (omega arith) (omega (arith, answer_low f)) in
    let third = decimal_short 3 v.payload (omega arith) (omega (arith, payload_most f)) in
    omega (arith, verdict_length number v, reply_short v.reply)

pub bad_short : (number : ℕ) → number ≤ 1_000_000 → length (bad_text number) ≤ 22
bad_short number h = let few = decimal_short 6 number (omega arith) (omega arith) in omega (arith, bad_length number)

pub sums_short : (t : Sums) → length (sums_text t) ≤ 113
sums_short t =
    omega (arith, sums_length t, decimal_most t.accepted, decimal_most t.refused, decimal_most t.bad, decimal_most t.payload)
