-- What a frame of a trace gets (document 02, order 8).
use Rattle.std.specs.Prelude.{ℕ, List, length}
use Rattle.reader.specs.Frame.{read_frame, read_number, payload_of}
use Rattle.error_reply.specs.Reply.{reply_kind_for}
use Rattle.error_reply.specs.declared.ReplyKind.{ReplyKind}
use Rattle.trace_text.specs.declared.Verdict.{Verdict}

-- "reads each frame as 01's reader does": the number that reading a frame gives.
unfoldable pub answer : List ℕ → ℕ
answer frame = read_number (read_frame frame)

-- The bytes of its payload: none where it is refused.
unfoldable pub payload : List ℕ → ℕ
payload frame = length (payload_of (read_frame frame))

-- "with limit 32": the error reply that 01 has for the frame and its number. Which one it is does not depend on the limit, from 1 on.
unfoldable pub reply_to : List ℕ → ReplyKind
reply_to frame = reply_kind_for frame (answer frame)

-- All three.
unfoldable pub verdict_of : List ℕ → Verdict
verdict_of frame = record { answer = answer frame; payload = payload frame; reply = reply_to frame }
