-- Where the message lies, for C.
use Rattle.std.specs.Prelude.{ℕ}
use Rattle.answers.specs.Answers.{unless_refused}
use Rattle.layout.specs.Layout.{message_length}
use Rattle.assembly_state.specs.State.{State}
use Rattle.assembly.specs.Assembly.{chunks_of, message_number}

-- "The message is handed back as the first part of the buffer.": how many bytes of it; the number that was lent stays if asking is refused.
unfoldable pub message_size : State → ℕ → ℕ → ℕ
message_size s room before = unless_refused (message_number s room) (message_length s.base (chunks_of s)) before
