-- `trace_text::reply_to` meets its contract.
use borrow.Author.Tests.{lt-leb}
use Rattle.error_reply.specs.Reply.{reply_kind_for}
use Rattle.trace_text.proofs.reply_to.Goals as goal

pub returns-then-frame-lt-FIXED_BYTES : goal.returns-then-frame-lt-FIXED_BYTES
unfolding reply_kind_for
returns-then-frame-lt-FIXED_BYTES c = rw (lt-leb _ _ c.if-frame-lt-FIXED_BYTES.true)
