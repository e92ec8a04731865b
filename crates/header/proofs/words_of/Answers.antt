-- `header::words_of` meets its contract.
use Rattle.wire.specs.Wire.{stored}
use mathlib.Core.Path.{refl}
use Rattle.chunk_lists.specs.Words.{reads_words, segments_words}
use Rattle.header.proofs.Words.{full_of, words_made}
use Rattle.header.proofs.words_of.Goals as goal

pub returns : goal.returns
unfolding stored reads_words segments_words
returns c = let h = c.args.h in
    let g = c.well_formed.0.1.1 in
    words_made h (full_of h _ _ _ g.0 g.1.0 g.1.1.0) _ _ _ _ _ _ _ _ _ _ c.from.ensures c.kind_number.ensures c.low_of.ensures c.high_of.ensures c.store_segments.ensures c.store_segments-2.ensures c.store_segments-3.ensures c.copy_from_slice.ensures.after refl refl
