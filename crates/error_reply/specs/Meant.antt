-- What an error reply is meant to say (document 01, "Setup data, credits and error replies"), and what of it is found in a buffer.
use Rattle.std.proofs.Math.Option.{Option, none, some}
use Rattle.std.specs.Prelude.{List, ℕ, length, take}
use Rattle.header.specs.declared.ErrorKind.{ErrorKind}
use Rattle.header.specs.declared.ErrorKind.TheVariants as error
use Rattle.error_reply.specs.Reply.{error_reply_answer, error_reply_buffer}
use Rattle.error_reply.specs.declared.ReplyKind.{ReplyKind}
use Rattle.error_reply.specs.declared.ReplyKind.TheVariants as reply

-- The error that a reply names: "4, 1, 1, 1" is a version error with low and high 1, "4, 2" a chunk error.
abbrev pub meant : ReplyKind → Option ErrorKind
meant reply.None = none
meant reply.Version = some (error.Version 1 1)
meant reply.Chunk = some error.Chunk

-- The reply as whoever sends it finds it: the buffer's first bytes, as many as were answered.
abbrev pub written_reply : List ℕ → ℕ → ℕ → List ℕ → List ℕ
written_reply frame number limit out =
    take (error_reply_answer frame number limit (length out)).length (error_reply_buffer frame number limit out)
