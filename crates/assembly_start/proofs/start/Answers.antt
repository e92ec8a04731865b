-- `assembly_start::start` meets its contract.
use Rattle.assembly_state.proofs.Words.{zero_state}
use Rattle.assembly_start.proofs.start.Goals as goal

pub returns : goal.returns
returns c = record { answer = rw (c.start_into-number.ensures.answer, c.start_into-number.ensures.state, zero_state); buffer = c.start_into-number.ensures.buffer }
