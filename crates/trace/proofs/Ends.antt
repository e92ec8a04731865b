-- Laws about the end of a line: its line of the report, and the sums with it.
-- Assumes nothing.
use Rattle.std.proofs.Common.{◌≡◌, ℕ, ◌+◌, ◌%◌, ◌^◌, ◌<◌, ◌≤◌, true, false, leb, List, length, refl, ◌∙◌, append-nil, arith, drop_of_length-le, eq-eqb, ne_eqb, le-leb}
use Rattle.std.specs.Prelude as std
use mathlib.Core.Option.{Option, none, some}
use borrow.Author.Tests.{lt-leb}
use Rattle.wire.specs.Wire.{stored}
use Rattle.wire.proofs.Fields.{stored_front}
use Rattle.trace_line.specs.Line.{frame_in}
use Rattle.trace_line.specs.declared.Line.{Line}
use Rattle.trace_line.proofs.Decoded.{frame_in_most}
use Rattle.trace_text.specs.Verdict.{verdict_of}
use Rattle.trace_text.specs.Text.{heading, verdict_text, bad_text}
use Rattle.trace_text.specs.declared.Sums.{Sums}
use Rattle.trace_text.specs.declared.Verdict.{Verdict}
use Rattle.trace_text.proofs.Texts.{heading_length, verdict_short, bad_short}
use Rattle.trace.specs.Report.{max_lines, line_text}
use Rattle.trace.specs.Feeding.{plus}
use Rattle.trace.specs.Internal.Turns.{ended_as, plus_verdict, plus_line, verdict_in}
use Rattle.trace.specs.declared.Ended.{Ended}

-- Whether another line may begin.
pub is_full_lem : (n : ℕ) → 1_000_000 ≤ n → leb max_lines n ≡ true
unfolding max_lines
is_full_lem n h = le-leb 1_000_000 n h

pub not_full_lem : (n : ℕ) → n < 1_000_000 → leb max_lines n ≡ false
unfolding max_lines
not_full_lem n h = lt-leb 1_000_000 n h

-- The first line fills a buffer of its length.
pub heading_fills : (out : List ℕ) → length out ≡ 27 → stored out 0 heading ≡ heading
heading_fills out size =
    let z = heading_length in
    rw (stored_front out heading (omega arith), drop_of_length-le out {i = length heading} (omega arith)) (append-nil heading)

-- A sum that does not grow.
same_word : (x : ℕ) → x < 2 ^ 64 → x ≡ (x + 0) % 2 ^ 64
same_word x h = omega arith

-- A frame more.
pub plus_accepted : (t : Sums) (v : Verdict) (a p : ℕ) → v.answer ≡ 0 → t.refused < 2 ^ 64 → t.bad < 2 ^ 64 → a ≡ (t.accepted + 1) % 2 ^ 64 → p ≡ (t.payload + v.payload) % 2 ^ 64
    → ◌≡◌ {A = Sums} (record { lines = t.lines + 1; accepted = a; refused = t.refused; bad = t.bad; payload = p }) (plus_verdict t v)
unfolding plus_verdict
plus_accepted t v a p e r b is paid = rw (eq-eqb v.answer 0 e, ← same_word t.refused r, ← same_word t.bad b, is, paid)

pub plus_refused : (t : Sums) (v : Verdict) (n : ℕ) → (v.answer ≡ 0 → ⊥) → t.accepted < 2 ^ 64 → t.bad < 2 ^ 64 → t.payload < 2 ^ 64 → n ≡ (t.refused + 1) % 2 ^ 64
    → ◌≡◌ {A = Sums} (record { lines = t.lines + 1; accepted = t.accepted; refused = n; bad = t.bad; payload = t.payload }) (plus_verdict t v)
unfolding plus_verdict
plus_refused t v n e a b p is = rw (ne_eqb v.answer 0 e, ← same_word t.accepted a, ← same_word t.bad b, ← same_word t.payload p, is)

pub plus_bad : (t : Sums) (n : ℕ) → t.accepted < 2 ^ 64 → t.refused < 2 ^ 64 → t.payload < 2 ^ 64 → n ≡ (t.bad + 1) % 2 ^ 64
    → ◌≡◌ {A = Sums} (record { lines = t.lines + 1; accepted = t.accepted; refused = t.refused; bad = n; payload = t.payload }) (plus t none)
unfolding plus
plus_bad t n a r p is = rw (← same_word t.accepted a, ← same_word t.refused r, ← same_word t.payload p, is)

plus_frame : (t : Sums) (f : List ℕ) → plus_verdict t (verdict_of f) ≡ plus t (some f)
unfolding plus plus_verdict verdict_of
plus_frame t f = refl

-- A line that ended: the report's line for it is written, and the sums count it.
pub ended_some : (t s : Sums) (v : Verdict) (e : Option (List ℕ)) (out o : List ℕ) (to r : ℕ) → std.Some v ≡ verdict_in e → s ≡ plus_line t (std.Some v)
    → o ≡ stored out to (verdict_text (t.lines + 1) v) → r ≡ to + length (verdict_text (t.lines + 1) v)
    → (o ≡ stored out to (line_text (t.lines + 1) e)) × (◌≡◌ {A = Ended} (record { sums = s; to = r }) (ended_as t e to))
unfolding line_text plus_line verdict_in
ended_some t s v none out o to r h u p q = absurd (let z : ◌≡◌ {A = ℕ} 0 1 = cc in omega arith)
ended_some t s v (some f) out o to r h u p q = let gets : v ≡ verdict_of f = cc in (p ∙ rw gets refl, rw (u, q, gets, plus_frame) refl)

pub ended_none : (t s : Sums) (e : Option (List ℕ)) (out o : List ℕ) (to r : ℕ) → ◌≡◌ {A = std.Option Verdict} std.None (verdict_in e) → s ≡ plus_line t std.None
    → o ≡ stored out to (bad_text (t.lines + 1)) → r ≡ to + length (bad_text (t.lines + 1))
    → (o ≡ stored out to (line_text (t.lines + 1) e)) × (◌≡◌ {A = Ended} (record { sums = s; to = r }) (ended_as t e to))
unfolding line_text plus_line verdict_in
ended_none t s none out o to r h u p q = (p, rw (u, q) refl)
ended_none t s (some f) out o to r h u p q = absurd (let z : ◌≡◌ {A = ℕ} 0 1 = cc in omega arith)

-- No line of the report is longer than 22 bytes.
pub judged_short : (number : ℕ) (line : Line) (frame : List ℕ) (v : Verdict) → std.Some v ≡ verdict_in (frame_in line frame) → number ≤ 1_000_000 → length frame ≡ 4_096 → length (verdict_text number v) ≤ 22
unfolding verdict_in
judged_short number line frame v h few size = go (frame_in line frame) refl h
  where
    go : (e : Option (List ℕ)) → frame_in line frame ≡ e → std.Some v ≡ verdict_in e → length (verdict_text number v) ≤ 22
    go none is g = absurd (let z : ◌≡◌ {A = ℕ} 0 1 = cc in omega arith)
    go (some f) is g = let gets : v ≡ verdict_of f = cc in rw gets (verdict_short number f few (frame_in_most line frame f size is))

pub line_short : (number : ℕ) (line : Line) (frame : List ℕ) (e : Option (List ℕ)) → number ≤ 1_000_000 → length frame ≡ 4_096 → frame_in line frame ≡ e → length (line_text number e) ≤ 22
unfolding line_text
line_short number line frame none h size is = bad_short number h
line_short number line frame (some f) h size is = verdict_short number f h (frame_in_most line frame f size is)
