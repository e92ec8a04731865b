-- The report, written while the input comes, byte by byte. That it is the report of the whole input, however it is cut, is said in `Session`.
use Rattle.std.specs.Prelude.{ℕ, suc, ◌+◌, ◌%◌, ◌^◌, Bool, true, false, cond, List, [], ◌∷◌, ◌++◌, length, take, ◌==◌, nat_le}
use Rattle.std.proofs.Math.Option.{Option}
use Rattle.wire.specs.Wire.{stored}
use Rattle.trace_line.specs.Line.{newline, next_line, next_frame, frame_in, is_begun}
use Rattle.trace_line.specs.declared.Line.TheVariants.{Digits}
use Rattle.trace_text.specs.Text.{sums_text, too_long}
use Rattle.trace_text.specs.declared.Sums.{Sums}
use Rattle.trace.specs.Report.{max_lines, line_text, is_accepted, is_refused, is_bad, payload_in}
use Rattle.trace.specs.declared.TraceState.{TraceState}
use Rattle.trace.specs.declared.FeedAnswer.{FeedAnswer}

-- The state, the frame buffer, and what was written since the block began.
pub record Reading : Type 0 where
  pub state : TraceState
  pub frame : List ℕ
  pub text : List ℕ

-- Nothing was read.
abbrev pub start_state : TraceState
start_state =
    record { sums = record { lines = 0; accepted = 0; refused = 0; bad = 0; payload = 0 }; line = Digits 0; stopped = false }

-- The sums with one frame more, each in 64 bits.
unfoldable pub plus : Sums → Option (List ℕ) → Sums
plus t f =
    record { lines = t.lines + 1; accepted = (t.accepted + is_accepted f) % 2 ^ 64; refused = (t.refused + is_refused f) % 2 ^ 64; bad = (t.bad + is_bad f) % 2 ^ 64; payload = (t.payload + payload_in f) % 2 ^ 64 }

-- No other line may begin.
abbrev pub is_full : TraceState → Bool
is_full s = nat_le max_lines s.sums.lines

-- The frame of the line that has begun, if it ends here, and the report's line for it.
abbrev pub ending : TraceState → List ℕ → Option (List ℕ)
ending s frame = frame_in s.line frame

abbrev pub ending_text : TraceState → List ℕ → List ℕ
ending_text s frame = line_text (s.sums.lines + 1) (ending s frame)

-- "stops with `too long` .. when another begins"
abbrev pub stops : Reading → Reading
stops r =
    record { state = record { sums = r.state.sums; line = r.state.line; stopped = true }; frame = r.frame; text = r.text ++ too_long }

-- A newline ends the line.
abbrev pub ends_line : Reading → Reading
ends_line r =
    record { state = record { sums = plus r.state.sums (ending r.state r.frame); line = Digits 0; stopped = false }; frame = r.frame; text = r.text ++ ending_text r.state r.frame }

-- Another byte belongs to it.
abbrev pub goes_on : Reading → ℕ → Reading
goes_on r b =
    record { state = record { sums = r.state.sums; line = next_line r.state.line b; stopped = false }; frame = next_frame r.state.line r.frame b; text = r.text }

-- One byte more.
unfoldable pub next : Reading → ℕ → Reading
next r b =
    cond r.state.stopped r
    (cond (is_full r.state) (stops r)
    (cond (b == newline) (ends_line r)
    (goes_on r b)))

-- All bytes of s, one after the other.
unfoldable pub reads : Reading → List ℕ → Reading
reads r [] = r
reads r (b ∷ s) = reads (next r b) s

-- Room for any line of the report for a frame: at most 7 digits, 2, 4 and a reply.
abbrev pub max_line_bytes : ℕ
max_line_bytes = 22

-- How many bytes of s are taken where the output buffer has so much room: a byte is, if there is room for a line behind what was written.
unfoldable pub taken : ℕ → Reading → List ℕ → ℕ
taken room r [] = 0
taken room r (b ∷ s) = cond (nat_le (length r.text + max_line_bytes) room) (suc (taken room (next r b) s)) 0

-- A call of `feed`.
abbrev pub begun : TraceState → List ℕ → Reading
begun s frame = record { state = s; frame = frame; text = [] }

unfoldable pub feed_used : TraceState → List ℕ → List ℕ → ℕ → ℕ
feed_used s frame block room = taken room (begun s frame) block

unfoldable pub feed_reading : TraceState → List ℕ → List ℕ → ℕ → Reading
feed_reading s frame block room = reads (begun s frame) (take (feed_used s frame block room) block)

abbrev pub feed_answer : TraceState → List ℕ → List ℕ → ℕ → FeedAnswer
feed_answer s frame block room =
    record { state = (feed_reading s frame block room).state; used = feed_used s frame block room; written = length (feed_reading s frame block room).text }

abbrev pub feed_buffer : TraceState → List ℕ → List ℕ → List ℕ → List ℕ
feed_buffer s frame block out = stored out 0 (feed_reading s frame block (length out)).text

-- "Bytes behind the last newline are a line if there are any." (Where no other line may begin, none is taken.)
abbrev pub has_last_line : TraceState → Bool
has_last_line s = cond (is_full s) false (is_begun s.line)

-- A call of `finish`: the line that has begun, if any, and the sums; nothing behind `too long`.
unfoldable pub finish_text : TraceState → List ℕ → List ℕ
finish_text s frame =
    cond s.stopped []
    (cond (has_last_line s) (ending_text s frame ++ sums_text (plus s.sums (ending s frame)))
    (sums_text s.sums))
