-- `chunk_lists::read_segment_of` meets its contract.
use mathlib.Core.Path.{sym, ◌∙◌}
use Rattle.chunk_lists.proofs.Words.{segment_here}
use borrow.Author.Rules.{rules}
use Rattle.chunk_lists.proofs.read_segment_of.Goals as goal

pub returns : goal.returns
returns c = c.load.ensures ∙ sym (segment_here c.args.words.now c.args.i (search rules))
