-- `wire::word_at` meets its contract.
use Rattle.std.proofs.Common.{rules}
use Rattle.wire.specs.Wire.{word_at}
use Rattle.wire.proofs.word_at.Goals as goal

pub returns : goal.returns
unfolding word_at
returns c = search rules
