-- "The sums are proved over a list of any frames within that limit."
use Rattle.std.specs.Prelude.{◌≡◌, ℕ, ◌+◌, ◌*◌, ◌/◌, ◌%◌, ◌<◌, ◌≤◌, cond, List, [], ◌∷◌, ◌++◌, map, length, nat_lt}
use Rattle.std.proofs.Math.Option.{Option, some}
use Rattle.wire.specs.Fits.{All}
use Rattle.wire.specs.Wire.{joined}
use Rattle.reader.specs.Frame.{read_frame, payload_of}
use Rattle.trace_line.specs.Line.{newline}
use Rattle.trace_text.specs.Text.{heading, sums_text}
use Rattle.trace.specs.Report.{report, max_lines, numbered, sums_of}

-- A frame as a line of a trace: two digits a byte, and a newline.
abbrev pub hex_digit : ℕ → ℕ
hex_digit n = cond (nat_lt n 10) (48 + n) (87 + n)

unfoldable pub hex_line : List ℕ → List ℕ
hex_line [] = []
hex_line (b ∷ f) = hex_digit (b / 16) ∷ hex_digit (b % 16) ∷ hex_line f

unfoldable pub trace_of : List (List ℕ) → List ℕ
trace_of fs = joined (λ f. hex_line f ++ (newline ∷ [])) fs

-- A frame that a line can hold.
abbrev pub FitsLine : List ℕ → Type 0
FitsLine f = All (λ b. b < 256) f × (length f ≤ 4_096)

-- The trace of any such frames is reported frame by frame, with their sums behind: each frame is accepted or refused, and counts once; the payload is that of all of them, one behind the other (a refused frame has none), and at most 4,096 bytes for each, so that no sum passes 64 bits.
pub record Reported (fs : List (List ℕ)) : Type 0 where
  pub text : report (trace_of fs) ≡ heading ++ (numbered 1 (map some fs) ++ sums_text (sums_of (map some fs)))
  pub once : (sums_of (map some fs)).accepted + (sums_of (map some fs)).refused ≡ length fs
  pub none_bad : (sums_of (map some fs)).bad ≡ 0
  pub payload : (sums_of (map some fs)).payload ≡ length (joined (λ f. payload_of (read_frame f)) fs)
  pub few : (sums_of (map some fs)).payload ≤ 4_096 * length fs

unfoldable pub AnyFrames : Type 0
AnyFrames = (fs : List (List ℕ)) → All FitsLine fs → length fs ≤ max_lines → Reported fs

-- With bad lines among them: each line counts once.
unfoldable pub CountedOnce : Type 0
CountedOnce =
    (fs : List (Option (List ℕ))) → (sums_of fs).accepted + (sums_of fs).refused + (sums_of fs).bad ≡ length fs
