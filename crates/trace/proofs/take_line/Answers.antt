-- `trace::take_line` meets its contract.
use Rattle.std.proofs.Common.{rules}
use Rattle.trace_line.proofs.Parts.{line_most}
use Rattle.trace.proofs.Turns.{turn_stopped, turn_full, turn_part, turn_line}
use Rattle.trace.proofs.take_line.Goals as goal

pub returns-then-s : goal.returns-then-s
returns-then-s c = let a = c.args in
    turn_stopped a.s a.text.now a.frame.now a.out.now a.to c.if-s.true (search rules)

pub returns-then-s-ge-MAX_LINES : goal.returns-then-s-ge-MAX_LINES
returns-then-s-ge-MAX_LINES c = let a = c.args in
    turn_full a.s (search rules) a.text.now a.frame.now a.out.now _ a.to _ (search rules) (search rules) c.put_too_long.ensures.buffer c.put_too_long.ensures.end

pub returns-then-part-text : goal.returns-then-part-text
returns-then-part-text c = let a = c.args in
    let p = c.take_part-part.ensures in
    turn_part a.s (search rules) a.text.now a.frame.now (search rules) a.out.now _ _ a.to _ p.used (search rules) (search rules) p.line p.frame

pub overflow_add-result : goal.overflow_add-result
overflow_add-result c = let z = line_most c.args.text.now in
    let e = c.take_part-part.ensures.used in
    search rules

pub returns : goal.returns
returns c = let a = c.args in
    let p = c.take_part-part.ensures in
    let e = c.end_line-ended.ensures in
    turn_line a.s (search rules) a.text.now a.frame.now (search rules) a.out.now _ _ _ _ a.to _ p.used (search rules) (search rules) p.line p.frame e.buffer e.answer
