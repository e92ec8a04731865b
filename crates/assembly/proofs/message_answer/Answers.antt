-- What asking answers, by what the checks of the state find.
use Rattle.std.proofs.Common.{◌≡◌, sym, ◌∙◌, arith, rules}
use Rattle.std.specs.Prelude.{Some, None, Err}
use Rattle.std.proofs.lemmas.Option.{MatchOption-at_none, MatchOption-at_some}
use Rattle.answers.specs.Refusals.{numbered}
use Rattle.assembly.proofs.Pieces.{ask_unfit, ask_early, ask_done}
use Rattle.assembly.proofs.message_answer.Goals as goal

pub returns-in_err-found : goal.returns-in_err-found
returns-in_err-found c =
    let none : c.check_state.result ≡ None = grind arith in
    let unfit : numbered c.from_residual.result ≡ Err 17 = search rules in
    rw (unfit, ← c.from-p.ensures) (ask_unfit _ c.args.room (MatchOption-at_none _ _ none c.check_state.ensures))

pub returns-then-p-found : goal.returns-then-p-found
returns-then-p-found c =
    let some : c.check_state.result ≡ Some c.in_ok-found.found = grind arith in
    let known = MatchOption-at_some _ _ _ some c.check_state.ensures in
    rw (← c.from-p.ensures) (ask_early _ c.args.room known.0 (λ e. c.if-p-found.true (e ∙ sym known.1.pulled)))

pub returns : goal.returns
returns c =
    let some : c.check_state.result ≡ Some c.in_ok-found.found = grind arith in
    let known = MatchOption-at_some _ _ _ some c.check_state.ensures in
    rw (← c.from-p.ensures, known.1.message) (ask_done _ c.args.room known.0 (c.if-p-found.false ∙ known.1.pulled))
