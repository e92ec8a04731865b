-- A list of calls over words is one over the state that they hold.
-- Assumes nothing.
use mathlib.Core.Path.{◌≡◌, refl, ap, ◌∙◌}
use mathlib.Core.List.{List, [], ◌∷◌}
use Prim.Native.Nat.{ℕ}
use lib.ListN.{length}
use Rattle.chunk_lists.specs.Parsed.{done}
use Rattle.header.specs.Content.{Content}
use Rattle.reader.specs.Frame.{read_frame}
use Rattle.assembly_state.specs.State.{State}
use Rattle.assembly_start.specs.Start.{start_number, start_state, start_buffer, started_buffer, start_words}
use Rattle.assembly.specs.Assembly.{piece_number, piece_buffer, message_number, message_part, piece_words}
use Rattle.assembly_state.specs.Words.{state_in}
use Rattle.assembly.proofs.Kept.{taken_state, piece_held}
use Rattle.assembly_start.proofs.Kept.{started_long, started_held}
use Rattle.theorems.specs.Calls.{Call, piece, asking, Outcome, Ending, gives, answered, run_calls}

abbrev pub state_outcome : State → List ℕ → Outcome
state_outcome s out = gives (message_number s (length out)) (message_part s out)

-- The calls over a state.
unfoldable pub ran : State → List ℕ → List Call → Ending
ran s out [] = record { outcomes = []; count = s.taken; buffer = out; asked = state_outcome s out }
ran s out (piece v ∷ calls) =
    answered (gives (piece_number s (length out) (length v)) []) (ran (taken_state s (length out) (length v)) (piece_buffer s v out) calls)
ran s out (asking ∷ calls) = answered (state_outcome s out) (ran s out calls)

pub run_is : (w : List ℕ) → length w ≡ 104 → (out : List ℕ) (calls : List Call) → run_calls w out calls ≡ ran (state_in w) out calls
unfolding run_calls ran
run_is w long out [] = refl
run_is w long out (piece v ∷ calls) =
    let next = piece_held w (length out) (length v) long in
    ap (answered (gives (piece_number (state_in w) (length out) (length v)) []))
    (run_is (piece_words w (length out) (length v)) next.0 (piece_buffer (state_in w) v out) calls ∙ ap (λ (s : State). ran s (piece_buffer (state_in w) v out) calls) next.1)
run_is w long out (asking ∷ calls) = ap (answered (state_outcome (state_in w) out)) (run_is w long out calls)

-- After an accepted start, whatever the words held before.
module _ (frame out : List ℕ) (c : Content) (inline : List ℕ) (read : read_frame frame ≡ done c inline) (ok : start_number (done c inline) (length out) ≡ 0) where
  started_buffer_lem : start_buffer (read_frame frame) out ≡ started_buffer (done c inline) out
  unfolding start_buffer
  started_buffer_lem = simp (read, ok)

  pub started_run : (w : List ℕ) (calls : List Call) → run_calls (start_words (read_frame frame) (length out) w) (start_buffer (read_frame frame) out) calls ≡ ran (start_state c inline (length out)) (started_buffer (done c inline) out) calls
  started_run w calls =
      rw started_buffer_lem
      (run_is _ (started_long frame (length out) c inline read ok w) (started_buffer (done c inline) out) calls
      ∙ ap (λ (x : State). ran x (started_buffer (done c inline) out) calls) (started_held frame (length out) c inline read ok w))
