-- First the base, then all padding.
use Rattle.std.proofs.Common.{take}
use Rattle.chunk_lists.specs.Words.{reads_in}
use Rattle.layout.specs.Layout.{other_chunks}
use Rattle.assembly_start.proofs.Starts.{start_writes_lem}
use Rattle.assembly_start.proofs.write_base_and_padding.Goals as goal

pub returns : goal.returns
returns c = start_writes_lem c.args.base (other_chunks (take c.args.n (reads_in c.args.words.now))) c.args.inline.now _ _ _ c.place_base.ensures.buffer c.clear_paddings.ensures
