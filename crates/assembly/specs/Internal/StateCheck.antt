-- What the functions under the reassembly answer.
use Rattle.std.specs.Prelude.{ℕ, ◌+◌, ◌≤◌, ◌≡◌, true, false, cond, length, eqb, Option, MatchOption, Result, Ok, Err}
use Rattle.layout.specs.Layout.{message_length}
use Rattle.placing.specs.Internal.Sources.{LayoutChecked, BasePulled, read_places}
use Rattle.assembly_state.specs.State.{State}
use Rattle.assembly.specs.Assembly.{reads_of, chunks_of, pulled_of, fits_state, piece_number, piece_goes, message_number}
use Rattle.assembly.specs.declared.StateFound.{StateFound}
use Rattle.assembly.specs.declared.PlacedPiece.{PlacedPiece}

-- What is known of a state that fits.
pub record Fitting (s : State) (room : ℕ) (r : StateFound) : Type 0 where
  pub count : s.reads.count ≤ 16
  pub layout : LayoutChecked s.base (reads_of s)
  pub message : r.message ≡ message_length s.base (chunks_of s)
  pub holds : message_length s.base (chunks_of s) ≤ room
  pub base : BasePulled s.base (reads_of s)
  pub places : pulled_of s ≡ read_places s.base (reads_of s)
  pub pulled : r.pulled ≡ length (pulled_of s)
  pub taken : s.taken ≤ length (pulled_of s)

-- A state is found to fit exactly if it does.
abbrev pub StateChecked : State → ℕ → Option StateFound → Type 0
StateChecked s room r = MatchOption r (fits_state s room ≡ false) (λ f. (fits_state s room ≡ true) × Fitting s room f)

-- The count behind a piece and how many goes it took, or the number.
abbrev pub placed_piece : State → ℕ → ℕ → Result PlacedPiece ℕ
placed_piece s room size =
    cond (eqb (piece_number s room size) 0) (Ok (record { taken = s.taken + size; goes = piece_goes s room size })) (Err (piece_number s room size))

-- How long the message is, or the number.
unfoldable pub message_answer : State → ℕ → Result ℕ ℕ
message_answer s room = cond (eqb (message_number s room) 0) (Ok (message_length s.base (chunks_of s))) (Err (message_number s room))
