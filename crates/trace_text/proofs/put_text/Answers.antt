-- `trace_text::put_text` meets its contract.
use Rattle.std.proofs.Common.{rules}
use Rattle.trace_text.proofs.Texts.{copied}
use Rattle.trace_text.proofs.put_text.Goals as goal

pub returns-clause-buffer : goal.returns-clause-buffer
returns-clause-buffer c = copied c.args.out.now c.args.text.now _ c.args.to (search rules) (search rules)
