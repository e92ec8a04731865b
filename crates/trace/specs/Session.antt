-- The input cut in any way: calls of `feed`, one after the other, then one of `finish`.
use Rattle.std.specs.Prelude.{◌≡◌, ℕ, ◌+◌, ◌<◌, ◌⊎◌, List, [], ◌∷◌, ◌++◌, length, take}
use Rattle.trace_text.specs.Text.{heading}
use Rattle.trace.specs.Report.{report}
use Rattle.trace.specs.Feeding.{start_state, max_line_bytes, feed_used, feed_reading, finish_text}
use Rattle.trace.specs.declared.TraceState.{TraceState}

-- A call of `feed`: the block, and the length of the buffer for the report.
pub record Feed : Type 0 where
  pub block : List ℕ
  pub room : ℕ

-- All that the calls write, from a state and a frame buffer on.
unfoldable pub written_by : TraceState → List ℕ → List Feed → List ℕ
written_by s frame [] = finish_text s frame
written_by s frame (f ∷ fs) =
    (feed_reading s frame f.block f.room).text ++ written_by (feed_reading s frame f.block f.room).state (feed_reading s frame f.block f.room).frame fs

-- All bytes that they take.
unfoldable pub taken_by : TraceState → List ℕ → List Feed → List ℕ
taken_by s frame [] = []
taken_by s frame (f ∷ fs) =
    take (feed_used s frame f.block f.room) f.block ++ taken_by (feed_reading s frame f.block f.room).state (feed_reading s frame f.block f.room).frame fs

-- Whatever the blocks, the buffers and what the frame buffer held: the first line and all that the calls write are the report on the bytes that they took.
unfoldable pub Replayed : Type 0
Replayed =
    (frame : List ℕ) → length frame ≡ 4_096 → (fs : List Feed) → heading ++ written_by start_state frame fs ≡ report (taken_by start_state frame fs)

-- A call takes its whole block, but where the buffer has no room for another line.
unfoldable pub Progress : Type 0
Progress =
    (s : TraceState) (frame block : List ℕ) (room : ℕ) → (feed_used s frame block room ≡ length block) ⊎ (room < length (feed_reading s frame block room).text + max_line_bytes)
