-- `reader::decode_header` meets its contract.
use mathlib.Core.Path.{ap, sym, ◌∙◌}
use Rattle.answers.specs.Refusals.{numbered}
use native.Mathlib.Omega.{arith}
use Rattle.wire.specs.Words.{flag_number}
use lib.ListN.{length-drop}
use Rattle.wire.proofs.Fields.{part_from}
use Rattle.reader.proofs.FrameParts.{Bounds, bounds, found, unfound, chunks_fit}
use Rattle.chunk_lists.specs.Words.{reads_words, segments_words}
use Rattle.reader.proofs.DecodedWords.{words_read}
use borrow.Author.Rules.{rules}
use Rattle.reader.proofs.decode_header.Goals as goal

-- The clauses, from all of them at once.
clauses : {A B : Type 0} → A × B → record { answer : A; words : B }
clauses p = record { answer = p.0; words = p.1 }

pub returns-in_default : goal.returns-in_default
returns-in_default c = let r = unfound c.args.s.now _ (sym c.check_frame-walk.ensures ∙ ap numbered c.in_default.is) in record { answer = rw (r, c.number.ensures, c.in_default.is); words = rw r }

pub overflow_cast-words : goal.overflow_cast-words
overflow_cast-words c = let b : Bounds c.args.s.now c.in-Ok.shape = bounds _ _ (found _ _ (sym c.check_frame-walk.ensures ∙ ap numbered c.in-Ok.is)) in omega arith

pub overflow_cast-words-2 : goal.overflow_cast-words-2
overflow_cast-words-2 c = let b : Bounds c.args.s.now c.in-Ok.shape = bounds _ _ (found _ _ (sym c.check_frame-walk.ensures ∙ ap numbered c.in-Ok.is)) in omega arith

pub overflow_cast-words-3 : goal.overflow_cast-words-3
overflow_cast-words-3 c = let b : Bounds c.args.s.now c.in-Ok.shape = bounds _ _ (found _ _ (sym c.check_frame-walk.ensures ∙ ap numbered c.in-Ok.is)) in omega arith

pub word_at-requires : goal.word_at-requires
word_at-requires c = let b : Bounds c.args.s.now c.in-Ok.shape = bounds _ _ (found _ _ (sym c.check_frame-walk.ensures ∙ ap numbered c.in-Ok.is)) in omega arith

pub word_at-requires-2 : goal.word_at-requires-2
word_at-requires-2 c = let b : Bounds c.args.s.now c.in-Ok.shape = bounds _ _ (found _ _ (sym c.check_frame-walk.ensures ∙ ap numbered c.in-Ok.is)) in omega arith

pub overflow_mul-w : goal.overflow_mul-w
overflow_mul-w c = let b : Bounds c.args.s.now c.in-Ok.shape = bounds _ _ (found _ _ (sym c.check_frame-walk.ensures ∙ ap numbered c.in-Ok.is)) in omega arith

pub overflow_add-w : goal.overflow_add-w
overflow_add-w c = let b : Bounds c.args.s.now c.in-Ok.shape = bounds _ _ (found _ _ (sym c.check_frame-walk.ensures ∙ ap numbered c.in-Ok.is)) in omega arith

pub overflow_mul-p : goal.overflow_mul-p
overflow_mul-p c = let b : Bounds c.args.s.now c.in-Ok.shape = bounds _ _ (found _ _ (sym c.check_frame-walk.ensures ∙ ap numbered c.in-Ok.is)) in omega arith

pub overflow_sub-p : goal.overflow_sub-p
overflow_sub-p c = let b : Bounds c.args.s.now c.in-Ok.shape = bounds _ _ (found _ _ (sym c.check_frame-walk.ensures ∙ ap numbered c.in-Ok.is)) in omega arith

pub slice_bounds-decode_segments-count : goal.slice_bounds-decode_segments-count
slice_bounds-decode_segments-count c = let b : Bounds c.args.s.now c.in-Ok.shape = bounds _ _ (found _ _ (sym c.check_frame-walk.ensures ∙ ap numbered c.in-Ok.is)) in omega arith

pub slice_bounds-decode_segments-start : goal.slice_bounds-decode_segments-start
slice_bounds-decode_segments-start c = let b : Bounds c.args.s.now c.in-Ok.shape = bounds _ _ (found _ _ (sym c.check_frame-walk.ensures ∙ ap numbered c.in-Ok.is)) in omega arith

pub decode_segments-requires : goal.decode_segments-requires
decode_segments-requires c = let b : Bounds c.args.s.now c.in-Ok.shape = bounds _ _ (found _ _ (sym c.check_frame-walk.ensures ∙ ap numbered c.in-Ok.is)) in (rw part_from (omega (arith, length-drop 16 c.args.s.now)), omega arith)

pub slice_bounds-decode_write_list-count : goal.slice_bounds-decode_write_list-count
slice_bounds-decode_write_list-count c = let b : Bounds c.args.s.now c.in-Ok.shape = bounds _ _ (found _ _ (sym c.check_frame-walk.ensures ∙ ap numbered c.in-Ok.is)) in omega arith

pub slice_bounds-decode_write_list-start : goal.slice_bounds-decode_write_list-start
slice_bounds-decode_write_list-start c = let b : Bounds c.args.s.now c.in-Ok.shape = bounds _ _ (found _ _ (sym c.check_frame-walk.ensures ∙ ap numbered c.in-Ok.is)) in omega arith

pub decode_write_list-requires : goal.decode_write_list-requires
decode_write_list-requires c = let b : Bounds c.args.s.now c.in-Ok.shape = bounds _ _ (found _ _ (sym c.check_frame-walk.ensures ∙ ap numbered c.in-Ok.is)) in (b.chunks_few, rw part_from (chunks_fit _ _ (found _ _ (sym c.check_frame-walk.ensures ∙ ap numbered c.in-Ok.is))), omega arith, search rules)

pub decode_segments-requires-2 : goal.decode_segments-requires-2
decode_segments-requires-2 c = let b : Bounds c.args.s.now c.in-Ok.shape = bounds _ _ (found _ _ (sym c.check_frame-walk.ensures ∙ ap numbered c.in-Ok.is)) in rw c.unwrap_or-m.ensures (omega arith, search rules)

pub returns : goal.returns
unfolding reads_words segments_words
returns c = clauses (words_read c.args.s.now c.in-Ok.shape (found _ _ (sym c.check_frame-walk.ensures ∙ ap numbered c.in-Ok.is)) _ _ _ _ _ _ _ _ _ _ _ c.kind_number.ensures c.low_of.ensures c.high_of.ensures (c.from.ensures ∙ ap flag_number c.is_some.ensures) c.unwrap_or-m.ensures c.word_at.ensures c.word_at-2.ensures c.decode_segments.ensures c.decode_write_list.ensures c.decode_segments-2.ensures)
