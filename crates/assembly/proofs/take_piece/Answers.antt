-- The count is stored where the piece was placed.
use Rattle.assembly.proofs.Pieces.{piece_kept, piece_counted}
use Rattle.assembly.proofs.take_piece.Goals as goal

pub returns-in-Ok : goal.returns-in-Ok
returns-in-Ok c =
    let made = piece_counted c.args.words.now _ _ c.in-Ok.placed c.in-Ok.ensures.answer _ c.store_number.ensures in
    record { answer = made.0; state = made.1; buffer = c.in-Ok.ensures.buffer }

pub returns-in-Err : goal.returns-in-Err
returns-in-Err c =
    let kept = piece_kept c.args.words.now _ _ _ c.in-Err.ensures.answer in
    record { answer = rw c.from.ensures kept.0; state = kept.1; buffer = c.in-Err.ensures.buffer }
