-- Laws about the bytes up to the end of a line or of a text.
-- Assumes nothing.
use Rattle.std.proofs.Common.{◌≡◌, ℕ, zero, suc, ◌+◌, ◌<◌, ◌≤◌, Bool, true, false, cond, eqb, leb, List, [], ◌∷◌, length, get_or, take, sym, refl, ap, ◌∙◌, add-zero, add-one, arith, take-suc, eq-eqb}
use Rattle.wire.specs.Wire.{stored}
use Rattle.trace_line.specs.Line.{newline, next_line, next_frame, frame_in}
use Rattle.trace_line.specs.Internal.Taking.{line_length, line_after, frame_after}
use Rattle.trace_line.specs.declared.Line.{Line}
use Rattle.trace_line.specs.declared.Line.TheVariants.{Digits}
use Rattle.trace_line.proofs.Parts.{line_ends, line_most}
use Rattle.trace_text.specs.Text.{too_long}
use Rattle.trace_text.specs.declared.Sums.{Sums}
use Rattle.trace_text.proofs.Texts.{too_long_length}
use Rattle.trace.specs.Report.{max_lines, line_text}
use Rattle.trace.specs.Feeding.{Reading, stops, ends_line, goes_on, next, reads, begun}
use Rattle.trace.specs.Internal.Turns.{ended_as, Turns}
use Rattle.trace.specs.declared.TraceState.{TraceState}
use Rattle.trace.specs.declared.Ended.{Ended}
use Rattle.trace.proofs.Streaming.{next_full, next_other, still_stopped}
use Rattle.trace.proofs.Replayed.{reads_append}
use Rattle.trace.proofs.Ends.{is_full_lem, not_full_lem, line_short}

-- A state in which lines go on.
abbrev going : Sums → Line → TraceState
going t line = record { sums = t; line = line; stopped = false }

going_is : (s : TraceState) → s.stopped ≡ false → s ≡ going s.sums s.line
going_is s e = ap (λ (q : Bool). record { sums = s.sums; line = s.line; stopped = q }) e

-- Bytes of which none is a newline.
abbrev part_of : Sums → Line → List ℕ → List ℕ → Reading
part_of t line frame x = record { state = going t (line_after line x); frame = frame_after line frame x; text = [] }

reads_part : (text : List ℕ) (k : ℕ) (t : Sums) (line : Line) (frame : List ℕ) → leb max_lines t.lines ≡ false → k ≤ line_length text
    → reads (begun (going t line) frame) (take k text) ≡ part_of t line frame (take k text)
unfolding reads line_length line_after frame_after
reads_part text zero t line frame full h = refl
reads_part [] (suc k) t line frame full h = absurd (omega arith)
reads_part (b ∷ text) (suc k) t line frame full h = by_test (eqb b newline) refl h (λ g. reads_part text k t (next_line line b) (next_frame line frame b) full g)
  where
    r : Reading
    r = begun (going t line) frame

    by_test : (q : Bool) → eqb b newline ≡ q → suc k ≤ cond q 0 (suc (line_length text))
        → (k ≤ line_length text → reads (begun (going t (next_line line b)) (next_frame line frame b)) (take k text) ≡ part_of t (next_line line b) (next_frame line frame b) (take k text))
        → reads (next (begun (going t line) frame) b) (take k text) ≡ part_of t (next_line line b) (next_frame line frame b) (take k text)
    by_test true e g more = absurd (omega arith)
    by_test false e g more =
        ap (λ (x : Reading). reads x (take k text))
        (next_other (begun (going t line) frame) b refl full ∙ ap (λ (q : Bool). cond {A = Reading} q (ends_line (begun (going t line) frame)) (goes_on (begun (going t line) frame) b)) e)
        ∙ more (omega arith)

-- Behind `too long`.
pub turn_stopped : (s : TraceState) (text frame out : List ℕ) (to : ℕ) → s.stopped ≡ true → 0 < length text → Turns s text frame out to (record { state = s; used = length text; to = to }) frame out
unfolding stored
turn_stopped s text frame out to e h =
    record {
      some_used = omega arith;
      there = omega arith;
      state_is = ap (λ (r : Reading). r.state) (same (length text));
      frame_is = ap (λ (r : Reading). r.frame) (same (length text));
      out_is = ap (λ (r : Reading). stored out to r.text) (same (length text));
      to_is = sym (add-zero to) ∙ ap (λ (r : Reading). to + length r.text) (same (length text));
      short = let z = ap (λ (r : Reading). length r.text) (same (length text)) in omega arith;
      quiet = λ k g. sym (ap (λ (r : Reading). r.text) (same k));
    }
  where
    same : (k : ℕ) → begun s frame ≡ reads (begun s frame) (take k text)
    same k = sym (still_stopped (take k text) (begun s frame) e)

module _ (s : TraceState) (e : s.stopped ≡ false) where
  -- A byte behind the last line that may be.
  pub turn_full : (text frame out o : List ℕ) (to r : ℕ) → 1_000_000 ≤ s.sums.lines → 0 < length text → o ≡ stored out to too_long → r ≡ to + length too_long
      → Turns s text frame out to (record { state = record { sums = s.sums; line = s.line; stopped = true }; used = 1; to = r }) frame o
  unfolding reads
  turn_full [] frame out o to r full h p q = absurd (omega arith)
  turn_full (b ∷ text) frame out o to r full h p q =
      let is : next (begun s frame) b ≡ stops (begun s frame) = next_full (begun s frame) b e (is_full_lem s.sums.lines full) in
      let long = too_long_length in
      record {
        some_used = omega arith;
        there = omega arith;
        state_is = ap (λ (r : Reading). r.state) (sym is);
        frame_is = ap (λ (r : Reading). r.frame) (sym is);
        out_is = p ∙ ap (λ (r : Reading). stored out to r.text) (sym is);
        to_is = q ∙ ap (λ (r : Reading). to + length r.text) (sym is);
        short = let z = ap (λ (r : Reading). length r.text) is in omega arith;
        quiet = λ k g. quiet_first k g;
      }
    where
      quiet_first : (k : ℕ) → k < 1 → (reads (begun s frame) (take k (b ∷ text))).text ≡ []
      quiet_first zero g = refl
      quiet_first (suc k) g = absurd (omega arith)

  module _ (text frame : List ℕ) (few : s.sums.lines < 1_000_000) where
    part_is : (k : ℕ) → k ≤ line_length text → reads (begun s frame) (take k text) ≡ part_of s.sums s.line frame (take k text)
    part_is k h =
        ap (λ (x : TraceState). reads (begun x frame) (take k text)) (going_is s e)
        ∙ reads_part text k s.sums s.line frame (not_full_lem s.sums.lines few) h

    quiet_part : (k : ℕ) → k ≤ line_length text → (reads (begun s frame) (take k text)).text ≡ []
    quiet_part k h = ap (λ (r : Reading). r.text) (part_is k h)

    -- A part of a line.
    pub turn_part : (out after : List ℕ) (line : Line) (to u : ℕ) → u ≡ line_length text → u ≡ length text → 0 < length text
        → line ≡ line_after s.line (take (line_length text) text) → after ≡ frame_after s.line frame (take (line_length text) text)
        → Turns s text frame out to (record { state = record s { line = line }; used = u; to = to }) after out
    unfolding stored
    turn_part out after line to u all whole h l f =
        let is : part_of s.sums s.line frame (take (line_length text) text) ≡ reads (begun s frame) (take u text) = rw all (sym (part_is (line_length text) (omega arith))) in
        record {
          some_used = omega arith;
          there = omega arith;
          state_is = ap (λ (q : Bool). record { sums = s.sums; line = line; stopped = q }) e ∙ rw l (ap (λ (r : Reading). r.state) is);
          frame_is = f ∙ ap (λ (r : Reading). r.frame) is;
          out_is = ap (λ (r : Reading). stored out to r.text) is;
          to_is = sym (add-zero to) ∙ ap (λ (r : Reading). to + length r.text) is;
          short = let z = ap (λ (r : Reading). length r.text) is in omega arith;
          quiet = λ k g. quiet_part k (omega arith);
        }

    -- A line that ends.
    pub turn_line : (out after o : List ℕ) (line : Line) (x : Ended) (to u : ℕ) → u ≡ line_length text → (u ≡ length text → ⊥) → length after ≡ 4_096
        → line ≡ line_after s.line (take (line_length text) text) → after ≡ frame_after s.line frame (take (line_length text) text)
        → o ≡ stored out to (line_text (s.sums.lines + 1) (frame_in line after)) → x ≡ ended_as s.sums (frame_in line after) to
        → Turns s text frame out to (record { state = record s { sums = x.sums; line = Digits 0 }; used = u + 1; to = x.to }) after o
    unfolding reads
    turn_line out after o line x to u all some_left size l f p q =
        let less : line_length text < length text = omega (arith, line_most text, some_left) in
        let n : ℕ = line_length text in
        let part : Reading = record { state = going s.sums line; frame = after; text = [] } in
        let at-newline : reads (begun s frame) (take n text) ≡ part = part_is n (omega arith) ∙ rw (l, f) in
        let ends : next part (get_or text n 0) ≡ ends_line part =
        next_other part (get_or text n 0) refl (not_full_lem s.sums.lines few)
        ∙ ap (λ (b : Bool). cond {A = Reading} b (ends_line part) (goes_on part (get_or text n 0))) (eq-eqb (get_or text n 0) newline (line_ends text less)) in
        let is : ends_line part ≡ reads (begun s frame) (take (u + 1) text) =
        sym (rw (all, add-one n, take-suc text n 0 less, reads_append) (ap (λ (r : Reading). next r (get_or text n 0)) at-newline ∙ ends)) in
        record {
          some_used = omega arith;
          there = omega arith;
          state_is = ap (λ (q : Bool). record { sums = x.sums; line = Digits 0; stopped = q }) e ∙ rw q (ap (λ (r : Reading). r.state) is);
          frame_is = ap (λ (r : Reading). r.frame) is;
          out_is = p ∙ ap (λ (r : Reading). stored out to r.text) is;
          to_is = rw q (ap (λ (r : Reading). to + length r.text) is);
          short = let z = ap (λ (r : Reading). length r.text) is in omega (arith, line_short (s.sums.lines + 1) line after (frame_in line after) (omega arith) size refl);
          quiet = λ k g. quiet_part k (omega arith);
        }
