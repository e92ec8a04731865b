-- Laws about a whole block: what holds at each turn of the loop over it, and how the report ends.
-- Assumes nothing.
use Rattle.std.proofs.Common.{◌≡◌, ℕ, zero, suc, ◌+◌, ◌-◌, ◌*◌, ◌^◌, ◌<◌, ◌≤◌, Bool, true, false, cond, List, [], ◌∷◌, ◌++◌, length, take, drop, sym, refl, ap, ◌∙◌, append-nil, zero-add, arith, length-append, length-drop, drop-drop, take-add, le-leb, leb-false}
use borrow.Author.Tests.{lt-leb}
use Rattle.wire.specs.Wire.{stored}
use Rattle.wire.proofs.Fields.{part_from, then, length_stored}
use Rattle.trace_line.specs.Line.{newline, is_begun}
use Rattle.trace_text.specs.Text.{sums_text}
use Rattle.trace_text.proofs.Texts.{behind, sums_short}
use Rattle.trace.specs.Report.{max_lines}
use Rattle.trace.specs.Feeding.{Reading, plus, is_full, ending, ending_text, has_last_line, max_line_bytes, ends_line, next, reads, taken, begun, feed_used, feed_reading, feed_answer, feed_buffer, finish_text}
use Rattle.trace.specs.Internal.Turns.{Turns}
use Rattle.trace.specs.declared.TraceState.{TraceState}
use Rattle.trace.specs.declared.FeedAnswer.{FeedAnswer}
use Rattle.trace.specs.declared.Turn.{Turn}
use Rattle.trace.proofs.Replayed.{reads_append, before, reads_before, whole}
use Rattle.trace.proofs.Streaming.{next_other}
use Rattle.trace.proofs.Ends.{not_full_lem}

-- Bytes are taken while nothing is written: u of them, where there is room.
run_taken : (u room : ℕ) (s : List ℕ) (r : Reading) → u ≤ length s → length r.text + max_line_bytes ≤ room → ((k : ℕ) → k < u → (reads r (take k s)).text ≡ r.text)
    → taken room r s ≡ u + taken room (reads r (take u s)) (drop u s)
unfolding taken reads
run_taken zero room s r h g quiet = sym (zero-add (taken room r s))
run_taken (suc u) room [] r h g quiet = absurd (omega arith)
run_taken (suc zero) room (b ∷ s) r h g quiet = rw (le-leb (length r.text + max_line_bytes) room g) (omega arith)
run_taken (suc (suc u)) room (b ∷ s) r h g quiet =
    let same : (next r b).text ≡ r.text = quiet 1 (omega arith) in
    let room_left : length (next r b).text + max_line_bytes ≤ room = rw same g in
    let more = run_taken (suc u) room s (next r b) (omega arith) room_left (λ k l. quiet (suc k) (omega arith) ∙ sym same) in
    rw (le-leb (length r.text + max_line_bytes) room g) (omega arith)

-- No byte is taken where there is no room.
none_taken : (room : ℕ) (s : List ℕ) (r : Reading) → room < length r.text + max_line_bytes → taken room r s ≡ 0
unfolding taken
none_taken room [] r h = refl
none_taken room (b ∷ s) r h = rw (lt-leb (length r.text + max_line_bytes) room h)

none_left : (room : ℕ) (s : List ℕ) (r : Reading) → length s ≡ 0 → taken room r s ≡ 0
unfolding taken
none_left room [] r h = refl
none_left room (b ∷ s) r h = absurd (omega arith)

-- What i bytes of a block give.
abbrev pub after : TraceState → List ℕ → List ℕ → ℕ → Reading
after s frame block i = reads (begun s frame) (take i block)

-- What holds at each turn of the loop over a block, with the rest behind its first i bytes.
pub record Running (s₀ : TraceState) (block frame₀ out₀ : List ℕ) (s : TraceState) (frame rest : List ℕ) (w : ℕ) (out : List ℕ) : Type 0 where
  pub i : ℕ
  pub rest_is : rest ≡ drop i block
  pub word : length block < 2 ^ 64
  pub there : i ≤ length block
  pub same : length out ≡ length out₀
  pub fits : w ≤ length out
  pub few : w ≤ 22 * i
  pub state_is : s ≡ (after s₀ frame₀ block i).state
  pub frame_is : frame ≡ (after s₀ frame₀ block i).frame
  pub written : w ≡ length (after s₀ frame₀ block i).text
  pub out_is : out ≡ stored out₀ 0 (after s₀ frame₀ block i).text
  pub used_is : feed_used s₀ frame₀ block (length out₀) ≡ i + taken (length out₀) (after s₀ frame₀ block i) (drop i block)

pub running_starts : (s : TraceState) (block frame out : List ℕ) → length block < 2 ^ 64 → Running s block frame out s frame block 0 out
unfolding reads feed_used stored
running_starts s block frame out word =
    record {
      i = 0;
      rest_is = refl;
      word = word;
      there = omega arith;
      same = refl;
      fits = omega arith;
      few = omega arith;
      state_is = refl;
      frame_is = refl;
      written = refl;
      out_is = refl;
      used_is = sym (zero-add (taken (length out) (begun s frame) block));
    }

-- What a call ensures.
abbrev pub Fed : TraceState → List ℕ → List ℕ → List ℕ → TraceState → List ℕ → ℕ → ℕ → List ℕ → Type 0
Fed s₀ block frame₀ out₀ s frame i w out =
    (◌≡◌ {A = FeedAnswer} (record { state = s; used = i; written = w }) (feed_answer s₀ frame₀ block (length out₀)))
    × ((frame ≡ (feed_reading s₀ frame₀ block (length out₀)).frame) × ((out ≡ feed_buffer s₀ frame₀ block out₀) × ((i ≤ length block) × ((w ≤ length out₀) × (w ≤ 22 * i)))))

module _ {s₀ s : TraceState} {block frame₀ out₀ frame rest out : List ℕ} {w : ℕ} (x : Running s₀ block frame₀ out₀ s frame rest w out) where
  abbrev r : Reading
  r = after s₀ frame₀ block x.i

  left : length rest ≡ length block - x.i
  left = ap length x.rest_is ∙ length-drop x.i block

  -- What bytes behind the first i give.
  more_is : (u : ℕ) → reads r (take u rest) ≡ before r.text (reads (begun s frame) (take u rest))
  more_is u =
      ap (λ (z : Reading). reads z (take u rest)) (whole r)
      ∙ reads_before (take u rest) r.text (begun r.state r.frame)
      ∙ ap (λ (z : TraceState). before r.text (reads (begun z r.frame) (take u rest))) (sym x.state_is)
      ∙ ap (λ (z : List ℕ). before r.text (reads (begun s z) (take u rest))) (sym x.frame_is)

  -- One turn more.
  pub running_more : (frame' out' : List ℕ) (t : Turn) → w + 22 ≤ length out → Turns s rest frame out w t frame' out'
      → Running s₀ block frame₀ out₀ t.state frame' (take (length rest - t.used) (drop t.used rest)) t.to out'
  running_more frame' out' t room v =
      let u : ℕ = t.used in
      let i : ℕ = x.i in
      let y : Reading = reads (begun s frame) (take u rest) in
      let is : before r.text y ≡ after s₀ frame₀ block (i + u) =
      sym (ap (λ (z : List ℕ). reads (begun s₀ frame₀) z) (take-add i u block) ∙ ap (λ (z : List ℕ). reads (begun s₀ frame₀) (take i block ++ take u z)) (sym x.rest_is) ∙ reads_append (take i block) (take u rest) (begun s₀ frame₀) ∙ more_is u) in
      let there = v.there in
      let room_left = left in
      let begun-there = x.there in
      let few = x.few in
      let some_used = v.some_used in
      let same = x.same in
      let written = x.written in
      let to_is = v.to_is in
      let short = v.short in
      let both : out' ≡ stored out₀ 0 (r.text ++ y.text) = then out₀ out out' 0 w r.text y.text x.out_is v.out_is (zero-add (length r.text) ∙ sym x.written) in
      let size_is : length out' ≡ length out₀ = ap length both ∙ length_stored out₀ 0 (r.text ++ y.text) in
      let long : length (r.text ++ y.text) ≡ length r.text + length y.text = length-append r.text y.text in
      let all = run_taken u (length out₀) rest r there (omega arith) (λ k h. ap (λ (z : Reading). z.text) (more_is k) ∙ ap (λ (z : List ℕ). r.text ++ z) (v.quiet k h) ∙ append-nil r.text) in
      let used : feed_used s₀ frame₀ block (length out₀) ≡ i + taken (length out₀) r rest = x.used_is ∙ ap (λ (z : List ℕ). i + taken (length out₀) r z) (sym x.rest_is) in
      let next_is : reads r (take u rest) ≡ after s₀ frame₀ block (i + u) = more_is u ∙ is in
      let next_rest : drop u rest ≡ drop (i + u) block = ap (λ (z : List ℕ). drop u z) x.rest_is ∙ drop-drop u i block in
      record {
        i = i + u;
        rest_is = part_from u rest ∙ next_rest;
        word = x.word;
        there = omega arith;
        same = size_is;
        fits = omega arith;
        few = omega arith;
        state_is = v.state_is ∙ ap (λ (z : Reading). z.state) is;
        frame_is = v.frame_is ∙ ap (λ (z : Reading). z.frame) is;
        written = let z = ap (λ (z : Reading). length z.text) is in omega arith;
        out_is = both ∙ ap (λ (z : Reading). stored out₀ 0 z.text) is;
        used_is =
            let z : taken (length out₀) (reads r (take u rest)) (drop u rest) ≡ taken (length out₀) (after s₀ frame₀ block (i + u)) (drop (i + u) block) =
            ap (λ (z : Reading). taken (length out₀) z (drop u rest)) next_is ∙ ap (λ (z : List ℕ). taken (length out₀) (after s₀ frame₀ block (i + u)) z) next_rest in
            omega arith;
      }

  -- Where the loop ends.
  ends : taken (length out₀) r (drop x.i block) ≡ 0 → Fed s₀ block frame₀ out₀ s frame (length block - length rest) w out
  unfolding feed_reading
  ends None-more =
      let used : feed_used s₀ frame₀ block (length out₀) ≡ x.i = let z = x.used_is in omega arith in
      let at : length block - length rest ≡ x.i = let z = left in let h = x.there in omega arith in
      let a = x.same in
      let b = x.fits in
      rw (at, used, ← x.state_is, ← x.written) (refl, (x.frame_is, (x.out_is, (x.there, (omega arith, x.few)))))

  pub ends_full : length out - w < 22 → Fed s₀ block frame₀ out₀ s frame (length block - length rest) w out
  ends_full h = ends (none_taken (length out₀) (drop x.i block) r (let a = x.same in let b = x.fits in let c = x.written in omega arith))

  pub ends_whole : length rest ≡ 0 → Fed s₀ block frame₀ out₀ s frame (length block - length rest) w out
  ends_whole h = ends (none_left (length out₀) (drop x.i block) r (ap length (sym x.rest_is) ∙ h))

-- Where a line has begun, and may, it is not too late for it.
pub begun_few : (s : TraceState) → has_last_line s ≡ true → s.sums.lines < 1_000_000
unfolding max_lines
begun_few s e = by_test (is_full s) refl e
  where
    by_test : (q : Bool) → is_full s ≡ q → cond q false (is_begun s.line) ≡ true → s.sums.lines < 1_000_000
    by_test true f g = absurd (let z : ◌≡◌ {A = ℕ} 0 1 = cc in omega arith)
    by_test false f g = leb-false 1_000_000 s.sums.lines f

-- A newline that is fed ends the line.
fed_newline : (s : TraceState) (frame : List ℕ) (room : ℕ) → s.stopped ≡ false → s.sums.lines < 1_000_000 → 22 ≤ room → feed_reading s frame (newline ∷ []) room ≡ ends_line (begun s frame)
unfolding feed_reading feed_used taken reads
fed_newline s frame room going few h =
    rw (zero-add max_line_bytes, le-leb max_line_bytes room h) (next_other (begun s frame) newline going (not_full_lem s.sums.lines few))

-- The end of the report: what a call ensures.
abbrev pub Finished : TraceState → List ℕ → List ℕ → ℕ → List ℕ → Type 0
Finished s frame out n o = (n ≡ length (finish_text s frame)) × ((o ≡ stored out 0 (finish_text s frame)) × (n ≤ 135))

module _ (s : TraceState) (frame out : List ℕ) where
  pub finish_stopped : s.stopped ≡ true → Finished s frame out 0 out
  unfolding finish_text stored
  finish_stopped e = rw e (refl, (refl, omega arith))

  module _ (going : s.stopped ≡ false) where
    text_if : (q : Bool) → has_last_line s ≡ q → finish_text s frame ≡ cond q (ending_text s frame ++ sums_text (plus s.sums (ending s frame))) (sums_text s.sums)
    unfolding finish_text
    text_if q e =
        ap (λ (p : Bool). cond p [] (cond (has_last_line s) (ending_text s frame ++ sums_text (plus s.sums (ending s frame))) (sums_text s.sums))) going
        ∙ ap (λ (p : Bool). cond p (ending_text s frame ++ sums_text (plus s.sums (ending s frame))) (sums_text s.sums)) e

    pub finish_line : has_last_line s ≡ true → 22 ≤ length out → (x : FeedAnswer) (o₁ o₂ : List ℕ) (n : ℕ) → x ≡ feed_answer s frame (newline ∷ []) (length out) → o₁ ≡ feed_buffer s frame (newline ∷ []) out
        → o₂ ≡ stored o₁ x.written (sums_text x.state.sums) → n ≡ x.written + length (sums_text x.state.sums) → x.written + length (sums_text x.state.sums) ≤ 135 → Finished s frame out n o₂
    finish_line e room x o₁ o₂ n p q u v few =
        let is = fed_newline s frame (length out) going (begun_few s e) room in
        let first : o₁ ≡ stored out 0 (ending_text s frame) = q ∙ ap (λ (r : Reading). stored out 0 r.text) is in
        let ends : x.written ≡ length (ending_text s frame) = ap (λ (y : FeedAnswer). y.written) p ∙ ap (λ (r : Reading). length r.text) is in
        let sums : x.state.sums ≡ plus s.sums (ending s frame) = ap (λ (y : FeedAnswer). y.state.sums) p ∙ ap (λ (r : Reading). r.state.sums) is in
        let both = behind out 0 (ending_text s frame) (sums_text (plus s.sums (ending s frame))) (first, ends ∙ sym (zero-add _)) ((rw sums at u), (rw sums at v)) in
        rw (text_if true e) (both.1 ∙ zero-add _, (both.0, omega arith))

    pub finish_sums : has_last_line s ≡ false → (o : List ℕ) (n : ℕ) → o ≡ stored out 0 (sums_text s.sums) → n ≡ 0 + length (sums_text s.sums) → Finished s frame out n o
    finish_sums e o n p q = rw (text_if false e) (q ∙ zero-add _, (p, omega (arith, sums_short s.sums)))

-- Both texts fit.
pub end_short : (x : FeedAnswer) → x.used ≤ 1 → x.written ≤ 22 * x.used → x.written + length (sums_text x.state.sums) ≤ 135
end_short x one few = omega (arith, sums_short x.state.sums)

-- A byte is taken where there is room for a line.
pub feeds_some : (a : FeedAnswer) (s : TraceState) (frame block : List ℕ) (room : ℕ) → a ≡ feed_answer s frame block room → 22 ≤ room → 0 < length block → 1 ≤ a.used
unfolding feed_used taken
feeds_some a s frame [] room e h g = absurd (omega arith)
feeds_some a s frame (b ∷ block) room e h g = rw (e, zero-add max_line_bytes, le-leb max_line_bytes room h) (omega arith)
