-- What the contracts of the exports ask of a caller, which is nothing, and promise, once more in full. A contract that is changed together with its function fails here.
-- Assumes nothing.
use mathlib.Core.Path.{◌≡◌}
use mathlib.Core.List.{List}
use Prim.Native.Nat.{ℕ}
use lib.ListN.{length}
use contract.Lifetimes.{Lfts}
use denote.Ref.{Bor, MutBor}
use denote.Triple.Clauses.{AtExit}
use borrow.Fn.Kinds.{ended_of}
use Rattle.reader.specs.Frame.{read_frame}
use Rattle.assembly_state.specs.Words.{state_in}
use Rattle.assembly_start.specs.Start.{start_number, start_buffer, start_words}
use Rattle.assembly.specs.Assembly.{piece_answer, piece_buffer, message_number, piece_words}
use Rattle.assembly.specs.declared.PieceAnswer.{PieceAnswer}
use Rattle.c_assembly.specs.Message.{message_size}
use Rattle.c_assembly.proofs.eos_start.Reads as starts
use Rattle.c_assembly.proofs.eos_start.Kinds as start-kinds
use Rattle.c_assembly.proofs.eos_take_piece.Reads as takes
use Rattle.c_assembly.proofs.eos_take_piece.Kinds as take-kinds
use Rattle.c_assembly.proofs.eos_message.Reads as tells
use Rattle.c_assembly.proofs.eos_message.Kinds as tell-kinds

-- `eos_start`: the number, every word of the state, and every byte of the buffer.
pub starting_asks_nothing : (κs : Lfts 3) (frame : Bor (List ℕ)) (out state : MutBor (List ℕ)) → starts.Pre κs (frame, (out, (state, tt)))
starting_asks_nothing κs frame out state = tt

pub started : (κs : Lfts 3) (frame : Bor (List ℕ)) (out state : MutBor (List ℕ)) (answer : ℕ) (left : AtExit (ended_of 3 start-kinds.ps start-kinds.r) κs) → starts.Post κs (frame, (out, (state, tt))) answer left →
    (answer ≡ start_number (read_frame frame.now) (length out.now))
    × ((left.1.1.0.now ≡ start_words (read_frame frame.now) (length out.now) state.now) × (left.1.0.now ≡ start_buffer (read_frame frame.now) out.now))
started κs frame out state answer left promise = promise

-- `eos_take_piece`: the number and the goes, every word of the state, and every byte of the buffer.
pub taking_asks_nothing : (κs : Lfts 3) (state : MutBor (List ℕ)) (piece : Bor (List ℕ)) (out : MutBor (List ℕ)) → takes.Pre κs (state, (piece, (out, tt)))
taking_asks_nothing κs state piece out = tt

pub taken : (κs : Lfts 3) (state : MutBor (List ℕ)) (piece : Bor (List ℕ)) (out : MutBor (List ℕ)) (answer : PieceAnswer) (left : AtExit (ended_of 3 take-kinds.ps take-kinds.r) κs) → takes.Post κs (state, (piece, (out, tt))) answer left →
    (answer ≡ piece_answer (state_in state.now) (length out.now) (length piece.now))
    × ((left.0.now ≡ piece_words state.now (length out.now) (length piece.now)) × (left.1.1.0.now ≡ piece_buffer (state_in state.now) piece.now out.now))
taken κs state piece out answer left promise = promise

-- `eos_message`: the number, and the message's length.
pub telling_asks_nothing : (κs : Lfts 3) (state out : Bor (List ℕ)) (size : MutBor ℕ) → tells.Pre κs (state, (out, (size, tt)))
telling_asks_nothing κs state out size = tt

pub told : (κs : Lfts 3) (state out : Bor (List ℕ)) (size : MutBor ℕ) (answer : ℕ) (left : AtExit (ended_of 3 tell-kinds.ps tell-kinds.r) κs) → tells.Post κs (state, (out, (size, tt))) answer left →
    (answer ≡ message_number (state_in state.now) (length out.now)) × (left.1.1.0.now ≡ message_size (state_in state.now) (length out.now) size.now)
told κs state out size answer left promise = promise
