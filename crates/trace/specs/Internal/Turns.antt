-- What the functions under `feed` answer.
use Rattle.std.specs.Prelude.{◌≡◌, ℕ, ◌+◌, ◌%◌, ◌^◌, ◌<◌, ◌≤◌, cond, List, [], length, take, ◌==◌}
use Rattle.std.proofs.Math.Option.{Option, none, some}
use Rattle.std.specs.Prelude as std
use Rattle.wire.specs.Wire.{stored}
use Rattle.trace_text.specs.Verdict.{verdict_of}
use Rattle.trace_text.specs.declared.Sums.{Sums}
use Rattle.trace_text.specs.declared.Verdict.{Verdict}
use Rattle.trace.specs.Report.{line_text}
use Rattle.trace.specs.Feeding.{max_line_bytes, plus, reads, begun}
use Rattle.trace.specs.declared.TraceState.{TraceState}
use Rattle.trace.specs.declared.Ended.{Ended}
use Rattle.trace.specs.declared.Turn.{Turn}

-- A line that ended, its line of the report written from `to` on.
abbrev pub ended_as : Sums → Option (List ℕ) → ℕ → Ended
ended_as t f to = record { sums = plus t f; to = to + length (line_text (t.lines + 1) f) }

-- The sums with one frame more, by what it got.
unfoldable pub plus_verdict : Sums → Verdict → Sums
plus_verdict t v =
    record { lines = t.lines + 1; accepted = (t.accepted + cond (v.answer == 0) 1 0) % 2 ^ 64; refused = (t.refused + cond (v.answer == 0) 0 1) % 2 ^ 64; bad = (t.bad + 0) % 2 ^ 64; payload = (t.payload + cond (v.answer == 0) v.payload 0) % 2 ^ 64 }

-- The sums with one line more, by what it got: nothing where it is bad.
unfoldable pub plus_line : Sums → std.Option Verdict → Sums
plus_line t std.None = plus t none
plus_line t (std.Some v) = plus_verdict t v

-- What a line gets, by its frame.
unfoldable pub verdict_in : Option (List ℕ) → std.Option Verdict
verdict_in none = std.None
verdict_in (some f) = std.Some (verdict_of f)

-- The first bytes of a text were taken, and what they give was written from `to` on: by the last of them, if by any.
pub record Turns (s : TraceState) (text frame out : List ℕ) (to : ℕ) (t : Turn) (frame' out' : List ℕ) : Type 0 where
  pub some_used : 1 ≤ t.used
  pub there : t.used ≤ length text
  pub state_is : t.state ≡ (reads (begun s frame) (take t.used text)).state
  pub frame_is : frame' ≡ (reads (begun s frame) (take t.used text)).frame
  pub out_is : out' ≡ stored out to (reads (begun s frame) (take t.used text)).text
  pub to_is : t.to ≡ to + length (reads (begun s frame) (take t.used text)).text
  pub short : length (reads (begun s frame) (take t.used text)).text ≤ max_line_bytes
  pub quiet : (k : ℕ) → k < t.used → (reads (begun s frame) (take k text)).text ≡ []
