-- Calls of `feed` on blocks of any size give the report.
-- Assumes nothing.
use Rattle.std.proofs.Common.{◌≡◌, ℕ, suc, ◌+◌, ◌<◌, Bool, true, false, cond, eqb, leb, ◌⊎◌, List, [], ◌∷◌, ◌++◌, length, take, sym, refl, ap, ◌∙◌, inl, inr, append_assoc, append-nil, leb-false}
use Rattle.trace_line.specs.Line.{newline}
use Rattle.trace_text.specs.Text.{heading}
use Rattle.trace.specs.Feeding.{Reading, start_state, max_line_bytes, next, reads, taken, begun, is_full, stops, ends_line, goes_on, feed_used, feed_reading, finish_text}
use Rattle.trace.specs.Session.{Feed, written_by, taken_by, Replayed, Progress}
use Rattle.trace.specs.declared.TraceState.{TraceState}
use Rattle.trace.proofs.Streaming.{out_of, streamed}

-- One text behind another.
pub reads_append : (x y : List ℕ) (r : Reading) → reads r (x ++ y) ≡ reads (reads r x) y
unfolding reads
reads_append [] y r = refl
reads_append (b ∷ x) y r = reads_append x y (next r b)

-- What was written before stands before.
abbrev pub before : List ℕ → Reading → Reading
before t r = record { state = r.state; frame = r.frame; text = t ++ r.text }

next_before : (t : List ℕ) (r : Reading) (b : ℕ) → next (before t r) b ≡ before t (next r b)
unfolding next
next_before t r b = by_tests r.state.stopped (is_full r.state) (eqb b newline)
  where
    by_tests : (p q n : Bool)
        → cond p (before t r) (cond q (stops (before t r)) (cond n (ends_line (before t r)) (goes_on (before t r) b))) ≡ before t (cond p r (cond q (stops r) (cond n (ends_line r) (goes_on r b))))
    by_tests true q n = refl
    by_tests false true n = rw (append_assoc t r.text)
    by_tests false false true = rw (append_assoc t r.text)
    by_tests false false false = refl

pub reads_before : (s t : List ℕ) (r : Reading) → reads (before t r) s ≡ before t (reads r s)
unfolding reads
reads_before [] t r = refl
reads_before (b ∷ s) t r = ap (λ (x : Reading). reads x s) (next_before t r b) ∙ reads_before s t (next r b)

-- A reading is what was written before a block that has just begun.
pub whole : (r : Reading) → r ≡ before r.text (begun r.state r.frame)
whole r = rw (append-nil r.text)

-- The calls give what reading byte by byte gives.
written_is : (s : TraceState) (frame : List ℕ) (fs : List Feed) → written_by s frame fs ≡ out_of (begun s frame) (taken_by s frame fs)
unfolding written_by taken_by reads feed_reading
written_is s frame [] = refl
written_is s frame (f ∷ fs) =
    let r : Reading = reads (begun s frame) (take (feed_used s frame f.block f.room) f.block) in
    let rest : List ℕ = taken_by r.state r.frame fs in
    let is : reads (begun s frame) (take (feed_used s frame f.block f.room) f.block ++ rest) ≡ before r.text (reads (begun r.state r.frame) rest) =
    reads_append (take (feed_used s frame f.block f.room) f.block) rest (begun s frame)
    ∙ ap (λ (x : Reading). reads x rest) (whole r)
    ∙ reads_before rest r.text (begun r.state r.frame) in
    ap (λ (t : List ℕ). r.text ++ t) (written_is r.state r.frame fs)
    ∙ sym (append_assoc r.text (reads (begun r.state r.frame) rest).text _)
    ∙ ap (λ (x : Reading). x.text ++ finish_text x.state x.frame) (sym is)

pub replayed : Replayed
unfolding Replayed
replayed frame size fs =
    ap (λ (t : List ℕ). heading ++ t) (written_is start_state frame fs) ∙ streamed (taken_by start_state frame fs) frame size

-- Why a call stops.
stops_for : (s : List ℕ) (room : ℕ) (r : Reading) → (taken room r s ≡ length s) ⊎ (room < length (reads r (take (taken room r s) s)).text + max_line_bytes)
unfolding taken reads
stops_for [] room r = inl refl
stops_for (b ∷ s) room r = by_test (leb (length r.text + max_line_bytes) room) refl (stops_for s room (next r b))
  where
    by_test : (q : Bool) → leb (length r.text + max_line_bytes) room ≡ q → (taken room (next r b) s ≡ length s) ⊎ (room < length (reads (next r b) (take (taken room (next r b) s) s)).text + max_line_bytes)
        → (cond q (suc (taken room (next r b) s)) 0 ≡ suc (length s)) ⊎ (room < length (reads r (take (cond q (suc (taken room (next r b) s)) 0) (b ∷ s))).text + max_line_bytes)
    by_test true e (inl h) = inl (ap suc h)
    by_test true e (inr h) = inr h
    by_test false e h = inr (leb-false (length r.text + max_line_bytes) room e)

pub progress : Progress
unfolding Progress feed_used feed_reading
progress s frame block room = stops_for block room (begun s frame)
