-- `c_header::eos_payload` meets its contract.
use Rattle.reader.proofs.FrameParts.{payload_short}
use borrow.Author.Tests.{eq-eqb, ne_eqb}
use Rattle.c_header.specs.Part.{part_of}
use Rattle.c_header.proofs.eos_payload.Goals as goal

pub returns-then-n-eq0 : goal.returns-then-n-eq0
unfolding part_of
returns-then-n-eq0 c = rw (← c.payload-part.ensures, eq-eqb _ _ c.if-n-eq0.true)

pub overflow_sub-result : goal.overflow_sub-result
overflow_sub-result c = rw c.payload-part.ensures (payload_short c.args.frame.now)

pub returns : goal.returns
unfolding part_of
returns c = rw (← c.payload-part.ensures, ne_eqb _ _ c.if-n-eq0.false)
