-- `header::header_of` meets its contract.
use mathlib.Core.Path.{sym, ◌∙◌}
use Rattle.chunk_lists.specs.Words.{reads_in, segments_in}
use Rattle.header.proofs.Words.{none_held, held}
use Rattle.header.proofs.header_of.Goals as goal

pub returns-in_default : goal.returns-in_default
returns-in_default c h is = absurd (none_held _ h is (sym c.kind_in.ensures ∙ c.in_default.is))

pub returns : goal.returns
unfolding reads_in segments_in
returns c h is = rw (c.segments_in.ensures, c.segments_in-2.ensures, c.segments_in-3.ensures, c.copy_from_slice.ensures.after)
    (held c.args.words.now h is c.in-Some.kind (sym c.kind_in.ensures ∙ c.in-Some.is))
