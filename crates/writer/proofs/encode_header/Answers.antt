-- `writer::encode_header` meets its contract.
use native.Mathlib.Omega.{arith}
use borrow.Author.Rules.{rules}
use mathlib.Core.Path.{refl}
use Rattle.writer.proofs.HeaderWriting.{header_size, header_written}
use Rattle.header.proofs.Bytes.{not_error, an_error}
use Rattle.writer.proofs.encode_header.Goals as goal

pub encode_fixed-requires : goal.encode_fixed-requires
encode_fixed-requires c = let h = c.args.h in let size = header_size h.words.now h.kind h.present _ refl in search rules

pub encode_error-requires : goal.encode_error-requires
encode_error-requires c = let h = c.args.h in
    let size = header_size h.words.now h.kind h.present _ (an_error h.kind _ c.in-Error.is _) in
    search rules

pub encode_lists-requires : goal.encode_lists-requires
encode_lists-requires c = let h = c.args.h in
    let size = header_size h.words.now h.kind h.present _ (not_error h.kind c.in_default.not-Error _) in
    (c.requires.0, omega arith)

pub returns-in-Error : goal.returns-in-Error
returns-in-Error c = let h = c.args.h in
    header_written h.words.now h.kind h.present _ (an_error h.kind _ c.in-Error.is _) _ _ _ c.encode_fixed.ensures c.encode_error.ensures.1

pub returns-in_default : goal.returns-in_default
returns-in_default c = let h = c.args.h in
    header_written h.words.now h.kind h.present _ (not_error h.kind c.in_default.not-Error _) _ _ _ c.encode_fixed.ensures c.encode_lists.ensures.1
