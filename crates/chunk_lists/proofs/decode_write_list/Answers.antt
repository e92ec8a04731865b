-- `chunk_lists::decode_write_list` meets its contract.
use mathlib.Core.Path.{refl}
use native.Mathlib.Omega.{arith}
use lib.ListN.{length-set}
use Rattle.chunk_lists.specs.Words.{segments_words}
use Rattle.chunk_lists.proofs.Words.{decoding_starts, decoding_fits, decoding_next, decoding_ends}
use Rattle.chunk_lists.proofs.decode_write_list.Goals as goal

pub loop-i-init : goal.loop-i-init
loop-i-init c = decoding_starts _ _ _ _ _ c.requires.1

pub word_at-count-requires : goal.word_at-count-requires
word_at-count-requires c = let f = decoding_fits c.loop-i.invariant c.loop-i-test.true _ refl c.requires.2 in omega (arith, f.0)

pub decode_segments-requires : goal.decode_segments-requires
decode_segments-requires c = let f = decoding_fits c.loop-i.invariant c.loop-i-test.true c.word_at-count.result c.word_at-count.ensures c.requires.2 in (omega (arith, f.0), rw length-set (omega (arith, f.2, c.loop-i.invariant.long)))

pub loop-i-preserved : goal.loop-i-preserved
unfolding segments_words
loop-i-preserved c = decoding_next c.loop-i.invariant c.loop-i-test.true c.word_at-count.result c.word_at-count.ensures c.requires.2 _ c.decode_segments.ensures

pub returns : goal.returns
returns c = decoding_ends c.loop-i.invariant c.loop-i-test.false
