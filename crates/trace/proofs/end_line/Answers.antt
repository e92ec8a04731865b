-- `trace::end_line` meets its contract.
use Rattle.std.proofs.Common.{◌+◌, ◌∙◌, ap, rules}
use Rattle.trace_text.proofs.Texts.{bad_short}
use Rattle.trace.specs.Internal.Turns.{plus_line}
use Rattle.trace.proofs.Ends.{ended_some, ended_none, judged_short}
use Rattle.trace.proofs.end_line.Goals as goal

pub put_verdict-requires : goal.put_verdict-requires
put_verdict-requires c = let z = judged_short (c.args.t.lines + 1) c.args.line c.args.frame.now _ c.in-Some.ensures (search rules) (search rules) in
    search rules

pub put_bad-requires : goal.put_bad-requires
put_bad-requires c = let z = bad_short (c.args.t.lines + 1) (search rules) in search rules

pub returns-in-Some : goal.returns-in-Some
returns-in-Some c = let e = ended_some c.args.t _ c.in-Some.v _ c.args.out.now _ c.args.to _ c.in-Some.ensures (c.with_line.ensures ∙ ap (λ o. plus_line c.args.t o) c.in-Some.is) c.put_verdict.ensures.buffer c.put_verdict.ensures.end in
    record { buffer = e.0; answer = e.1 }

pub returns-in-None : goal.returns-in-None
returns-in-None c = let e = ended_none c.args.t _ _ c.args.out.now _ c.args.to _ c.in-None.ensures (c.with_line.ensures ∙ ap (λ o. plus_line c.args.t o) c.in-None.is) c.put_bad.ensures.buffer c.put_bad.ensures.end in
    record { buffer = e.0; answer = e.1 }
