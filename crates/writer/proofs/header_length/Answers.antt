-- `writer::header_length` meets its contract.
use native.Mathlib.Omega.{arith}
use borrow.Author.Rules.{rules}
use Rattle.header.proofs.Bytes.{reply_within, not_error, an_error}
use Rattle.writer.proofs.HeaderWriting.{passed, header_size}
use Rattle.writer.proofs.header_length.Goals as goal

pub reply_length-requires : goal.reply_length-requires
reply_length-requires c = let known = passed c.args.h.words.now c.args.h.present (search rules) c.requires.0 in known.few.replies

pub lists_length-requires : goal.lists_length-requires
lists_length-requires c = let known = passed c.args.h.words.now c.args.h.present (search rules) c.requires.0 in
    (known.few.reads, known.few.chunks, rw c.requires.1 known.few.segments, rw c.reply_length.ensures (reply_within _ _ known.few.replies))

pub overflow_add-result : goal.overflow_add-result
overflow_add-result c = let known = passed c.args.h.words.now c.args.h.present (search rules) c.requires.0 in
    let small = reply_within c.args.h.present _ known.few.replies in
    search rules

pub returns-in_default : goal.returns-in_default
returns-in_default c = let h = c.args.h in
    let known = passed h.words.now h.present (search rules) c.requires.0 in
    let size = header_size h.words.now h.kind h.present _ (not_error h.kind c.in_default.not-Error _) in
    omega (arith, known.size)

pub returns : goal.returns
returns c = let h = c.args.h in
    let size = header_size h.words.now h.kind h.present _ (an_error h.kind _ c.in-Error.is _) in
    omega arith
