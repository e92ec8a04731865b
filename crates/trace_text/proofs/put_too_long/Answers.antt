-- `trace_text::put_too_long` meets its contract.
use Rattle.trace_text.specs.Text.{ascii, too_long}
use Rattle.trace_text.proofs.put_too_long.Goals as goal

pub returns : goal.returns
unfolding too_long ascii
returns c = record { buffer = c.put_text.ensures.buffer; end = c.put_text.ensures.end }
