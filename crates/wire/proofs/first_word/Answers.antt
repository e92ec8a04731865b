-- `wire::first_word` meets its contract.
use borrow.Author.Tests.{le-leb, lt-leb}
use Rattle.wire.specs.Wire.{word_of}
use Rattle.wire.proofs.first_word.Goals as goal

pub returns-then-s-lt-WORD_BYTES : goal.returns-then-s-lt-WORD_BYTES
unfolding word_of
returns-then-s-lt-WORD_BYTES c = simp (lt-leb _ _ c.if-s-lt-WORD_BYTES.true)

pub returns : goal.returns
unfolding word_of
returns c = simp (le-leb _ _ c.if-s-lt-WORD_BYTES.false, c.word_at.ensures)
