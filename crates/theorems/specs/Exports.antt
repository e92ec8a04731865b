-- A reassembly by the exports, as their contracts settle it: the words of the state, the buffer and the lent size handed on from call to call.
use Rattle.std.specs.Prelude.{ℕ, List, [], ◌∷◌, length, take}
use Rattle.answers.specs.Answers.{unless_refused}
use Rattle.reader.specs.Frame.{read_frame}
use Rattle.assembly_start.specs.Start.{start_buffer, start_words}
use Rattle.assembly.specs.Assembly.{piece_answer, piece_buffer, message_number, piece_words}
use Rattle.assembly_state.specs.Words.{state_in}
use Rattle.c_assembly.specs.Message.{message_size}
use Rattle.theorems.specs.Calls.{Call, piece, asking, Outcome, Ending, gives, answered}

-- What asking gives a caller of `eos_message`: the number, and with 0 as many of the buffer's first bytes as were stored.
abbrev pub export_outcome : List ℕ → List ℕ → ℕ → Outcome
export_outcome w out size =
    gives (message_number (state_in w) (length out)) (unless_refused (message_number (state_in w) (length out)) (take (message_size (state_in w) (length out) size) out) [])

-- "Each gets the state last given back and the buffer as last left": what the contracts of the exports hand on.
unfoldable pub run_exports : List ℕ → List ℕ → ℕ → List Call → Ending
run_exports w out size [] = record { outcomes = []; count = (state_in w).taken; buffer = out; asked = export_outcome w out size }
run_exports w out size (piece v ∷ calls) =
    answered (gives (piece_answer (state_in w) (length out) (length v)).number []) (run_exports (piece_words w (length out) (length v)) (piece_buffer (state_in w) v out) size calls)
run_exports w out size (asking ∷ calls) =
    answered (export_outcome w out size) (run_exports w out (message_size (state_in w) (length out) size) calls)

-- A start by `eos_start` over words that hold anything, then the calls.
abbrev pub export_then : List ℕ → List ℕ → List ℕ → ℕ → List Call → Ending
export_then frame out w size calls = run_exports (start_words (read_frame frame) (length out) w) (start_buffer (read_frame frame) out) size calls
