-- `writer::encode_lists` meets its contract.
use native.Mathlib.Omega.{arith}
use borrow.Author.Rules.{rules}
use Rattle.wire.proofs.Fields.{then}
use Rattle.writer.proofs.HeaderWriting.{passed}
use Rattle.writer.proofs.encode_lists.Goals as goal

pub encode_read_list-requires : goal.encode_read_list-requires
encode_read_list-requires c = let known = passed c.args.h.words.now c.args.h.present (search rules) c.requires.0 in search rules

pub encode_write_list-end-requires : goal.encode_write_list-end-requires
encode_write_list-end-requires c = let known = passed c.args.h.words.now c.args.h.present (search rules) c.requires.0 in search rules

pub encode_reply_chunk-requires : goal.encode_reply_chunk-requires
encode_reply_chunk-requires c = let known = passed c.args.h.words.now c.args.h.present (search rules) c.requires.0 in search rules

pub returns : goal.returns
returns c = let known = passed c.args.h.words.now c.args.h.present (search rules) c.requires.0 in
    (omega arith, then _ _ _ _ _ _ _ c.encode_read_list.ensures (then _ _ _ _ _ _ _ c.encode_write_list-end.ensures.1 c.encode_reply_chunk.ensures.1 (omega arith)) (omega arith))
