-- `writer::check_header` meets its contract.
use mathlib.Core.Path.{sym, ap, ◌∙◌}
use borrow.Author.Tests.{le-leb, lt-leb}
use borrow.Author.Rules.{rules}
use Rattle.answers.specs.Refusals.{numbered}
use Rattle.header.specs.Content.{content_of}
use Rattle.header.specs.Words.{counts_in}
use Rattle.header.specs.Internal.Lent.{header_lent}
use Rattle.header.proofs.Limits.{few_in_words}
use Rattle.writer.specs.Write.{write_number}
use Rattle.writer.proofs.Outcomes.{entries_refuse, room_decides}
use Rattle.writer.proofs.check_header.Goals as goal

pub returns-then-not-bare_if_error : goal.returns-then-not-bare_if_error
unfolding write_number
returns-then-not-bare_if_error c = simp (← c.bare_if_error.ensures, c.if-not-bare_if_error.true)

pub returns-then-not-within_limits : goal.returns-then-not-within_limits
unfolding write_number
returns-then-not-within_limits c = simp (← c.bare_if_error.ensures, c.if-not-bare_if_error.false, ← (c.within_limits.ensures (counts_in c.args.h.words.now) c.total_count-segments.ensures), c.if-not-within_limits.true)

pub check_entries-requires : goal.check_entries-requires
check_entries-requires c = (few_in_words c.args.h.words.now c.args.h.present (sym (c.within_limits.ensures (counts_in c.args.h.words.now) c.total_count-segments.ensures) ∙ c.if-not-within_limits.false)).reads

pub header_length-length-requires : goal.header_length-length-requires
header_length-length-requires c = (sym (c.within_limits.ensures (counts_in c.args.h.words.now) c.total_count-segments.ensures) ∙ c.if-not-within_limits.false, c.total_count-segments.ensures)

pub returns-in_err-check_entries : goal.returns-in_err-check_entries
unfolding content_of
returns-in_err-check_entries c =
    rw (entries_refuse (header_lent c.args.h) c.args.room (sym c.bare_if_error.ensures ∙ c.if-not-bare_if_error.false) (sym (c.within_limits.ensures (counts_in c.args.h.words.now) c.total_count-segments.ensures) ∙ c.if-not-within_limits.false) _ (ap numbered (sym c.in_err-check_entries.was) ∙ c.check_entries.ensures)) (search rules)

pub returns-then-room-length : goal.returns-then-room-length
unfolding content_of
returns-then-room-length c =
    let number = room_decides (header_lent c.args.h) c.args.room (sym c.bare_if_error.ensures ∙ c.if-not-bare_if_error.false) (sym (c.within_limits.ensures (counts_in c.args.h.words.now) c.total_count-segments.ensures) ∙ c.if-not-within_limits.false) (ap numbered (sym c.in_ok-check_entries.was) ∙ c.check_entries.ensures) in
    rw (number, ← c.header_length-length.ensures, lt-leb _ _ c.if-room-length.true)

pub returns : goal.returns
unfolding content_of
returns c =
    let number = room_decides (header_lent c.args.h) c.args.room (sym c.bare_if_error.ensures ∙ c.if-not-bare_if_error.false) (sym (c.within_limits.ensures (counts_in c.args.h.words.now) c.total_count-segments.ensures) ∙ c.if-not-within_limits.false) (ap numbered (sym c.in_ok-check_entries.was) ∙ c.check_entries.ensures) in
    rw (number, ← c.header_length-length.ensures, le-leb _ _ c.if-room-length.false)
