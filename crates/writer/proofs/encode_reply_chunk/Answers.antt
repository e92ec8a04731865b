-- `writer::encode_reply_chunk` meets its contract.
use mathlib.Core.Path.{refl}
use native.Mathlib.Omega.{arith}
use borrow.Author.Rules.{rules}
use Rattle.header.specs.Bytes.{reply_bytes}
use Rattle.writer.proofs.encode_reply_chunk.Goals as goal

pub encode_chunk-requires : goal.encode_chunk-requires
encode_chunk-requires c = let h = simp c.if-present.true at c.requires.1 in search rules

pub returns-then-present : goal.returns-then-present
unfolding reply_bytes
returns-then-present c = rw c.if-present.true (omega arith, c.encode_chunk.ensures)

pub put_word-requires : goal.put_word-requires
put_word-requires c = let h = simp c.if-present.false at c.requires.1 in search rules

pub returns : goal.returns
unfolding reply_bytes
returns c = rw c.if-present.false (refl, c.put_word.ensures)
