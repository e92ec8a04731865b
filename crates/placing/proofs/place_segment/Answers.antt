-- The bytes of a part go to their places.
use Rattle.placing.proofs.Segments.{part_based, part_copied}
use Rattle.placing.proofs.place_segment.Goals as goal

pub returns-then-x-eq0 : goal.returns-then-x-eq0
returns-then-x-eq0 c =
    let put = part_based c.args.base _ c.args.x.position c.args.k c.args.part.now c.args.out.now c.if-x-eq0.true _ _ (c.place_base.ensures.answer, c.place_base.ensures.buffer) in
    record { answer = put.0; buffer = put.1 }

pub returns : goal.returns
returns c =
    let put = part_copied c.args.base _ c.args.x.position c.args.k c.args.part.now c.args.out.now c.if-x-eq0.false c.requires.4 _ c.copy_at.ensures in
    record { answer = put.0; buffer = put.1 }
