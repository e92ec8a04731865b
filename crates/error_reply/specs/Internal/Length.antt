-- For the function that tells how long a reply is.
use Rattle.std.specs.Prelude.{ℕ}
use Rattle.error_reply.specs.declared.ReplyKind.{ReplyKind}
use Rattle.error_reply.specs.declared.ReplyKind.TheVariants.{None, Version, Chunk}

-- How many bytes a reply has.
unfoldable pub reply_length : ReplyKind → ℕ
reply_length None = 0
reply_length Version = 28
reply_length Chunk = 20
