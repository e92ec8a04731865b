-- The message lies in the buffer.
use Rattle.std.proofs.Common.{refl, sym, length-take-le}
use Rattle.assembly.proofs.Pieces.{asked_part}
use Rattle.assembly.proofs.message.Goals as goal

pub slice_bounds-result-end : goal.slice_bounds-result-end
slice_bounds-result-end c = let part = asked_part _ _ _ c.message_answer.ensures c.args.out.now refl in sym (length-take-le c.unwrap_or-end.result c.args.out.now (rw c.unwrap_or-end.ensures part.0))

pub returns : goal.returns
returns c = rw c.unwrap_or-end.ensures (asked_part _ _ _ c.message_answer.ensures c.args.out.now refl).1
