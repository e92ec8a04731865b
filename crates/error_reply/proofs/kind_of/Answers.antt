-- `error_reply::kind_of` meets its contract.
use mathlib.Core.Path.{refl}
use Rattle.error_reply.specs.Reply.{reply_kind_of}
use Rattle.error_reply.proofs.ReplyTable.{by_table}
use Rattle.error_reply.proofs.kind_of.Goals as goal

pub returns : goal.returns
unfolding reply_kind_of
returns c = by_table _ refl _ c.requires
