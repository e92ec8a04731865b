-- No bytes leave the buffer as it was.
use Rattle.std.proofs.Common.{◌≡◌, ◌-◌, min, length, arith}
use Rattle.wire.specs.Wire.{stored}
use Rattle.placing.proofs.place_gap.Goals as goal

pub returns-then-end-here-clause-buffer : goal.returns-then-end-here-clause-buffer
unfolding stored
returns-then-end-here-clause-buffer c =
    let before = c.if-end-here.true in
    let none : min (c.args.end - c.args.here) (length c.args.rest.now) ≡ 0 = omega arith in
    rw none
