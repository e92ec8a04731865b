-- What a piece makes, by what the checks of the state find.
use Rattle.std.proofs.Common.{◌≡◌, sym, arith, rules}
use Rattle.std.specs.Prelude.{Some, None, Err}
use Rattle.std.proofs.lemmas.Option.{MatchOption-at_none, MatchOption-at_some}
use Rattle.answers.specs.Refusals.{numbered}
use Rattle.assembly.proofs.Pieces.{take_unfit, take_long, take_done}
use Rattle.assembly.proofs.place_piece.Goals as goal

pub returns-in_err-found : goal.returns-in_err-found
returns-in_err-found c =
    let none : c.check_state.result ≡ None = grind arith in
    let unfit : numbered c.from_residual.result ≡ Err 17 = search rules in
    let made = take_unfit _ c.args.piece.now c.args.out.now (MatchOption-at_none _ _ none c.check_state.ensures) in
    record { answer = rw (unfit, ← c.from-p.ensures) made.0; buffer = rw (← c.from-p.ensures) made.1 }

pub returns-then-size-found : goal.returns-then-size-found
returns-then-size-found c =
    let some : c.check_state.result ≡ Some c.in_ok-found.found = grind arith in
    let known = MatchOption-at_some _ _ _ some c.check_state.ensures in
    let pulled = known.1.pulled in
    let most = known.1.taken in
    let over = c.if-size-found.true in
    let made = take_long _ c.args.piece.now c.args.out.now known.0 (omega arith) in
    record { answer = rw (← c.from-p.ensures) made.0; buffer = rw (← c.from-p.ensures) made.1 }

pub returns : goal.returns
returns c =
    let some : c.check_state.result ≡ Some c.in_ok-found.found = grind arith in
    let known = MatchOption-at_some _ _ _ some c.check_state.ensures in
    let pulled = known.1.pulled in
    let most = known.1.taken in
    let left = c.if-size-found.false in
    let made = take_done _ c.args.piece.now c.args.out.now known.0 (omega arith) _ (rw (sym known.1.places) at c.place-goes.ensures.answer) _ (rw (sym known.1.places) at c.place-goes.ensures.buffer) in
    record { answer = rw (← c.from-p.ensures) made.0; buffer = rw (← c.from-p.ensures) made.1 }
