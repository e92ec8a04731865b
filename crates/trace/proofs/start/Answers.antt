-- `trace::start` meets its contract.
use Rattle.std.proofs.Common.{◌∙◌, rules}
use Rattle.trace.proofs.Ends.{heading_fills}
use Rattle.trace.proofs.start.Goals as goal

pub returns-clause-buffer : goal.returns-clause-buffer
returns-clause-buffer c = c.put_heading.ensures.buffer ∙ heading_fills _ (search rules)
