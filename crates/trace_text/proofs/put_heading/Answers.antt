-- `trace_text::put_heading` meets its contract.
use Rattle.trace_text.specs.Text.{ascii, heading}
use Rattle.trace_text.proofs.put_heading.Goals as goal

pub returns : goal.returns
unfolding heading ascii
returns c = record { buffer = c.put_text.ensures.buffer; end = c.put_text.ensures.end }
