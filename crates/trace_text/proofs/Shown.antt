-- The reply that a report shows is the error reply that 01 has with limit 32.
-- Assumes nothing.
use mathlib.Core.Path.{◌≡◌}
use mathlib.Core.List.{List}
use Prim.Native.Nat.{ℕ}
use lib.ListN.{length}
use Rattle.wire.specs.Wire.{word_at}
use Rattle.credit.specs.Credit.{granted}
use Rattle.error_reply.specs.Reply.{reply_kind_for, error_reply}
use Rattle.error_reply.specs.Internal.Length.{reply_length}
use Rattle.error_reply.proofs.ReplyWritten.{reply_length_lem}
use Rattle.trace_text.specs.Verdict.{answer, reply_to}

-- Its length tells which one it is: 0, 28 or 20 bytes.
pub reply_shown : (f : List ℕ) → length (error_reply f (answer f) 32) ≡ reply_length (reply_to f)
unfolding error_reply reply_to
reply_shown f = reply_length_lem (reply_kind_for f (answer f)) (word_at f 0) (word_at f 4) (granted (word_at f 8) 32)
