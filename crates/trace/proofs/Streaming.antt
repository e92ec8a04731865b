-- Bytes that are read one by one give what the report holds behind the lines that were reported.
-- Assumes nothing.
use Rattle.std.proofs.Common.{◌≡◌, ℕ, ◌+◌, ◌*◌, ◌%◌, ◌^◌, ◌<◌, ◌≤◌, Bool, true, false, cond, eqb, leb, List, [], ◌∷◌, ◌++◌, length, sym, refl, ap, ◌∙◌, append_assoc, append-nil, add-zero, zero-add, arith, length-append, le-leb, leb-false, leb-true}
use mathlib.Core.Option.{Option, none, some}
use borrow.Author.Tests.{lt-leb}
use Rattle.trace_line.specs.Line.{newline, frame_of, is_begun}
use Rattle.trace_line.specs.Internal.Taking.{line_after, frame_after}
use Rattle.trace_line.specs.declared.Line.TheVariants.{Digits}
use Rattle.trace_line.proofs.Parts.{line_append, frame_append, frame_length}
use Rattle.trace_line.proofs.Decoded.{decoded, not_begun, has_begun, frame_of_most}
use Rattle.trace_text.specs.Verdict.{answer, payload}
use Rattle.trace_text.specs.Text.{heading, sums_text, too_long}
use Rattle.trace_text.specs.declared.Sums.{Sums}
use Rattle.trace_text.proofs.Verdicts.{payload_most}
use Rattle.trace.specs.Report.{begins, lines_of, line_text, sum_over, is_accepted, is_refused, is_bad, payload_in, sums_of, max_lines, report}
use Rattle.trace.specs.Feeding.{Reading, start_state, plus, is_full, ending, ending_text, stops, ends_line, goes_on, next, reads, begun, finish_text}
use Rattle.trace.proofs.Remaining.{remaining, report_remaining, remaining_end, remaining_line, remaining_full, behind, behind_byte, behind_newline, behind_end, one_line}

-- One sum behind another.
sum_append : {A : Type 0} (f : A → ℕ) (x y : List A) → sum_over f (x ++ y) ≡ sum_over f x + sum_over f y
unfolding sum_over
sum_append f [] y = sym (zero-add (sum_over f y))
sum_append f (a ∷ x) y = let z = sum_append f x y in omega arith

-- What no sum passes: the lines, and 4,096 bytes for each.
pub record Bounded (fs : List (Option (List ℕ))) : Type 0 where
  pub accepted : sum_over is_accepted fs ≤ length fs
  pub refused : sum_over is_refused fs ≤ length fs
  pub bad : sum_over is_bad fs ≤ length fs
  pub payload : sum_over payload_in fs ≤ 4_096 * length fs

pub none_bounded : Bounded []
unfolding sum_over
none_bounded = record { accepted = omega arith; refused = omega arith; bad = omega arith; payload = omega arith }

one_or : (q : Bool) (a b : ℕ) → a ≤ 1 → b ≤ 1 → cond q a b ≤ 1
one_or true a b h g = h
one_or false a b h g = g

-- What one line adds.
record One (f : Option (List ℕ)) : Type 0 where
  accepted : is_accepted f ≤ 1
  refused : is_refused f ≤ 1
  bad : is_bad f ≤ 1
  payload : payload_in f ≤ 4_096

one_of : (l : List ℕ) (f : Option (List ℕ)) → frame_of l ≡ f → One f
one_of l none e = record { accepted = omega arith; refused = omega arith; bad = omega arith; payload = omega arith }
one_of l (some f) e =
    record {
      accepted = one_or (eqb (answer f) 0) 1 0 (omega arith) (omega arith);
      refused = one_or (eqb (answer f) 0) 0 1 (omega arith) (omega arith);
      bad = omega arith;
      payload = paid (eqb (answer f) 0) (omega (arith, payload_most f, frame_of_most l f e));
    }
  where
    paid : (q : Bool) → payload f ≤ 4_096 → cond q (payload f) 0 ≤ 4_096
    paid true h = h
    paid false h = omega arith

pub bounded_more : (fs : List (Option (List ℕ))) (l : List ℕ) → Bounded fs → Bounded (fs ++ (frame_of l ∷ []))
unfolding sum_over
bounded_more fs l b =
    let o = one_of l (frame_of l) refl in
    let n : length (fs ++ (frame_of l ∷ [])) ≡ length fs + 1 = length-append fs (frame_of l ∷ []) in
    let a₁ = b.accepted in let a₂ = o.accepted in
    let r₁ = b.refused in let r₂ = o.refused in
    let b₁ = b.bad in let b₂ = o.bad in
    let p₁ = b.payload in let p₂ = o.payload in
    record {
      accepted = rw (sum_append is_accepted fs (frame_of l ∷ []), n) (omega arith);
      refused = rw (sum_append is_refused fs (frame_of l ∷ []), n) (omega arith);
      bad = rw (sum_append is_bad fs (frame_of l ∷ []), n) (omega arith);
      payload = rw (sum_append payload_in fs (frame_of l ∷ []), n) (omega arith);
    }

within_word : (x : ℕ) → x < 2 ^ 64 → x % 2 ^ 64 ≡ x
within_word x h = omega arith

-- The sums with one line more: none passes 64 bits.
sums_more : (fs : List (Option (List ℕ))) (l : List ℕ) → Bounded fs → length fs < max_lines → plus (sums_of fs) (frame_of l) ≡ sums_of (fs ++ (frame_of l ∷ []))
unfolding plus sum_over max_lines
sums_more fs l b h =
    let o = one_of l (frame_of l) refl in
    let a₁ = b.accepted in let a₂ = o.accepted in
    let r₁ = b.refused in let r₂ = o.refused in
    let b₁ = b.bad in let b₂ = o.bad in
    let p₁ = b.payload in let p₂ = o.payload in
    rw (length-append fs (frame_of l ∷ []), sum_append is_accepted fs (frame_of l ∷ []), sum_append is_refused fs (frame_of l ∷ []), sum_append is_bad fs (frame_of l ∷ []), sum_append payload_in fs (frame_of l ∷ []), add-zero, add-zero, add-zero, add-zero, within_word (sum_over is_accepted fs + is_accepted (frame_of l)) (omega arith), within_word (sum_over is_refused fs + is_refused (frame_of l)) (omega arith), within_word (sum_over is_bad fs + is_bad (frame_of l)) (omega arith), within_word (sum_over payload_in fs + payload_in (frame_of l)) (omega arith))

-- The frames fs were reported, and the bytes l of a line have come since.
pub record Holds (fs : List (Option (List ℕ))) (l : List ℕ) (r : Reading) : Type 0 where
  pub going : r.state.stopped ≡ false
  pub sums : r.state.sums ≡ sums_of fs
  pub few : length fs ≤ max_lines
  pub full : length fs ≡ max_lines → l ≡ []
  pub bounded : Bounded fs
  pub empty : List ℕ
  pub size : length empty ≡ 4_096
  pub line : r.state.line ≡ line_after (Digits 0) l
  pub frame : r.frame ≡ frame_after (Digits 0) empty l

-- All that comes out: what is written while s is read, and what its end adds.
abbrev pub out_of : Reading → List ℕ → List ℕ
out_of r s = (reads r s).text ++ finish_text (reads r s).state (reads r s).frame

-- What one byte does, by the state that it meets.
pub next_stopped : (r : Reading) (b : ℕ) → r.state.stopped ≡ true → next r b ≡ r
unfolding next
next_stopped r b e = ap (λ (q : Bool). cond {A = Reading} q r (cond (is_full r.state) (stops r) (cond (eqb b newline) (ends_line r) (goes_on r b)))) e

next_going : (r : Reading) (b : ℕ) (full : Bool) → r.state.stopped ≡ false → is_full r.state ≡ full → next r b ≡ cond full (stops r) (cond (eqb b newline) (ends_line r) (goes_on r b))
unfolding next
next_going r b full e f =
    ap (λ (q : Bool). cond {A = Reading} q r (cond (is_full r.state) (stops r) (cond (eqb b newline) (ends_line r) (goes_on r b)))) e
    ∙ ap (λ (q : Bool). cond {A = Reading} q (stops r) (cond (eqb b newline) (ends_line r) (goes_on r b))) f

pub next_full : (r : Reading) (b : ℕ) → r.state.stopped ≡ false → is_full r.state ≡ true → next r b ≡ stops r
next_full r b e f = next_going r b true e f

pub next_other : (r : Reading) (b : ℕ) → r.state.stopped ≡ false → is_full r.state ≡ false → next r b ≡ cond (eqb b newline) (ends_line r) (goes_on r b)
next_other r b e f = next_going r b false e f

-- Behind `too long` nothing more comes.
pub still_stopped : (s : List ℕ) (r : Reading) → r.state.stopped ≡ true → reads r s ≡ r
unfolding reads
still_stopped [] r e = refl
still_stopped (b ∷ s) r e = ap (λ (x : Reading). reads x s) (next_stopped r b e) ∙ still_stopped s r e

module _ {fs : List (Option (List ℕ))} {l : List ℕ} {r : Reading} (h : Holds fs l r) where
  full_is : is_full r.state ≡ leb max_lines (length fs)
  full_is = ap (λ (t : Sums). leb max_lines t.lines) h.sums

  frame_is : ending r.state r.frame ≡ frame_of l
  frame_is = rw (h.line, h.frame) (decoded l h.empty h.size)

  text_is : ending_text r.state r.frame ≡ line_text (length fs + 1) (frame_of l)
  text_is = rw (frame_is, h.sums)

  sums_are : sums_text r.state.sums ≡ sums_text (sums_of fs)
  sums_are = ap sums_text h.sums

  plus_is : length fs < max_lines → plus r.state.sums (ending r.state r.frame) ≡ sums_of (fs ++ (frame_of l ∷ []))
  plus_is few = rw (frame_is, h.sums) (sums_more fs l h.bounded few)

  buffer_size : length r.frame ≡ 4_096
  buffer_size = ap length h.frame ∙ frame_length (Digits 0) h.empty l ∙ h.size

  -- A newline.
  holds_line : length fs < max_lines → Holds (fs ++ (frame_of l ∷ [])) [] (ends_line r)
  unfolding line_after frame_after
  holds_line few =
      record {
        going = refl;
        sums = plus_is few;
        few = rw (length-append fs (frame_of l ∷ [])) (omega arith);
        full = λ e. refl;
        bounded = bounded_more fs l h.bounded;
        empty = r.frame;
        size = buffer_size;
        line = refl;
        frame = refl;
      }

  -- Another byte.
  holds_byte : (b : ℕ) → length fs < max_lines → Holds fs (l ++ (b ∷ [])) (goes_on r b)
  unfolding line_after frame_after
  holds_byte b few =
      record {
        going = refl;
        sums = h.sums;
        few = h.few;
        full = λ e. absurd (omega arith);
        bounded = h.bounded;
        empty = h.empty;
        size = h.size;
        line = rw (line_append, ← h.line);
        frame = rw (frame_append, ← h.line, ← h.frame);
      }

  -- The end of the input.
  end_full : length fs ≡ max_lines → finish_text r.state r.frame ≡ remaining fs (behind l [])
  unfolding finish_text behind
  end_full e =
      rw (h.going, full_is, le-leb max_lines (length fs) (omega arith), h.full e, remaining_end fs h.few) sums_are

end_begun : (fs : List (Option (List ℕ))) (l : List ℕ) (r : Reading) → Holds fs l r → length fs < max_lines → finish_text r.state r.frame ≡ remaining fs (behind l [])
unfolding finish_text behind
end_begun fs [] r h few =
    rw (h.going, full_is h, lt-leb max_lines (length fs) few, h.line, not_begun, remaining_end fs h.few) (sums_are h)
end_begun fs (b ∷ l) r h few =
    let more : length (fs ++ (frame_of (b ∷ l) ∷ [])) ≤ max_lines = rw (length-append fs (frame_of (b ∷ l) ∷ [])) (omega arith) in
    let begins-one : is_begun r.state.line ≡ true = rw h.line (has_begun b l) in
    rw (h.going, full_is h, lt-leb max_lines (length fs) few, begins-one, behind_end b l, remaining_line fs (b ∷ l) [] few, remaining_end (fs ++ (frame_of (b ∷ l) ∷ [])) more, text_is h, plus_is h few)

-- Whatever was reported before, the bytes that come give the rest of the report.
Streams : List ℕ → Type 0
Streams s = (fs : List (Option (List ℕ))) (l : List ℕ) (r : Reading) → Holds fs l r → out_of r s ≡ r.text ++ remaining fs (behind l (lines_of s))

step_full : (b : ℕ) (s : List ℕ) (fs : List (Option (List ℕ))) (l : List ℕ) (r : Reading) → Holds fs l r → length fs ≡ max_lines → out_of r (b ∷ s) ≡ r.text ++ remaining fs (behind l (lines_of (b ∷ s)))
unfolding reads behind finish_text
step_full b s fs l r h e =
    let one = one_line b s in
    let is : reads r (b ∷ s) ≡ stops r =
    ap (λ (x : Reading). reads x s) (next_full r b h.going (full_is h ∙ le-leb max_lines (length fs) (omega arith))) ∙ still_stopped s (stops r) refl in
    ap (λ (x : Reading). x.text ++ finish_text x.state x.frame) is
    ∙ append-nil (r.text ++ too_long)
    ∙ rw (h.full e, one.is, remaining_full fs one.first one.rest e)

step_byte : (b : ℕ) (s : List ℕ) (fs : List (Option (List ℕ))) (l : List ℕ) (r : Reading) → Holds fs l r → length fs < max_lines → Streams s → out_of r (b ∷ s) ≡ r.text ++ remaining fs (behind l (lines_of (b ∷ s)))
unfolding reads behind lines_of Streams
step_byte b s fs l r h few more =
    ap (λ (x : Reading). out_of x s) (next_other r b h.going (full_is h ∙ lt-leb max_lines (length fs) few))
    ∙ by_test (eqb b newline)
  where
    by_test : (q : Bool) → out_of (cond q (ends_line r) (goes_on r b)) s ≡ r.text ++ remaining fs (behind l (cond q ([] ∷ lines_of s) (begins b (lines_of s))))
    by_test true =
        more (fs ++ (frame_of l ∷ [])) [] (ends_line r) (holds_line h few)
        ∙ rw (behind_newline l (lines_of s), remaining_line fs l (lines_of s) few, text_is h) (append_assoc r.text _ _)
    by_test false = more fs (l ++ (b ∷ [])) (goes_on r b) (holds_byte h b few) ∙ rw (behind_byte l b (lines_of s))

full_or_not : (fs : List (Option (List ℕ))) {A : Type 0} → length fs ≤ max_lines → (length fs ≡ max_lines → A) → (length fs < max_lines → A) → A
full_or_not fs {A} few a b = by_test (leb max_lines (length fs)) refl
  where
    by_test : (q : Bool) → leb max_lines (length fs) ≡ q → A
    by_test true e = a (let g = leb-true max_lines (length fs) e in omega arith)
    by_test false e = b (leb-false max_lines (length fs) e)

streams : (s : List ℕ) → Streams s
unfolding Streams reads lines_of
streams [] fs l r h =
    ap (λ (t : List ℕ). r.text ++ t)
    (full_or_not fs h.few (end_full h) (end_begun fs l r h))
streams (b ∷ s) fs l r h =
    full_or_not fs h.few (λ e. step_full b s fs l r h e) (λ few. step_byte b s fs l r h few (streams s))

holds_start : (frame : List ℕ) → length frame ≡ 4_096 → Holds [] [] (begun start_state frame)
unfolding line_after frame_after sum_over
holds_start frame size =
    record { going = refl; sums = refl; few = omega arith; full = λ e. refl; bounded = none_bounded; empty = frame; size = size; line = refl; frame = refl }

-- From the start on: the report.
pub streamed : (s frame : List ℕ) → length frame ≡ 4_096 → heading ++ out_of (begun start_state frame) s ≡ report s
unfolding behind Streams
streamed s frame size =
    ap (λ (t : List ℕ). heading ++ t) (streams s [] [] (begun start_state frame) (holds_start frame size)) ∙ sym (report_remaining s)
