-- `error_reply::length_of` meets its contract.
use Rattle.error_reply.specs.Internal.Length.{reply_length}
use Rattle.error_reply.proofs.length_of.Goals as goal

pub returns-in-None : goal.returns-in-None
unfolding reply_length
returns-in-None c = simp c.in-None.is

pub returns-in-Version : goal.returns-in-Version
unfolding reply_length
returns-in-Version c = simp c.in-Version.is

pub returns-in-Chunk : goal.returns-in-Chunk
unfolding reply_length
returns-in-Chunk c = simp c.in-Chunk.is
