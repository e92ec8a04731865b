-- `trace_text::put_reply` meets its contract.
use mathlib.Core.Path.{ap}
use lib.ListN.{length}
use borrow.Author.Rules.{rules}
use Rattle.trace_text.specs.Text.{ascii, reply_text}
use Rattle.error_reply.specs.declared.ReplyKind.{ReplyKind}
use Rattle.trace_text.proofs.put_reply.Goals as goal

-- The clauses, from all of them at once.
clauses : {A B : Type 0} → A × B → record { buffer : A; end : B }
clauses p = record { buffer = p.0; end = p.1 }

pub put_text-requires : goal.put_text-requires
unfolding reply_text ascii
put_text-requires c = let size = ap (λ (k : ReplyKind). length (reply_text k)) c.in-None.is in search rules

pub put_text-requires-in-Version : goal.put_text-requires-in-Version
unfolding reply_text ascii
put_text-requires-in-Version c = let size = ap (λ (k : ReplyKind). length (reply_text k)) c.in-Version.is in search rules

pub put_text-requires-in-Chunk : goal.put_text-requires-in-Chunk
unfolding reply_text ascii
put_text-requires-in-Chunk c = let size = ap (λ (k : ReplyKind). length (reply_text k)) c.in-Chunk.is in search rules

pub returns-in-None : goal.returns-in-None
unfolding reply_text ascii
returns-in-None c = clauses (rw c.in-None.is (c.put_text.ensures.buffer, c.put_text.ensures.end))

pub returns-in-Version : goal.returns-in-Version
unfolding reply_text ascii
returns-in-Version c = clauses (rw c.in-Version.is (c.put_text-in-Version.ensures.buffer, c.put_text-in-Version.ensures.end))

pub returns-in-Chunk : goal.returns-in-Chunk
unfolding reply_text ascii
returns-in-Chunk c = clauses (rw c.in-Chunk.is (c.put_text-in-Chunk.ensures.buffer, c.put_text-in-Chunk.ensures.end))
