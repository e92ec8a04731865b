-- `chunk_lists::check_marker` meets its contract.
use native.Mathlib.Omega.{arith}
use borrow.Author.Tests.{ne_eqb}
use Rattle.std.proofs.lemmas.Result.{err_from_is_err_and}
use Rattle.chunk_lists.specs.Lists.{marker_of}
use Rattle.chunk_lists.proofs.check_marker.Goals as goal

pub returns-in_err-first_word : goal.returns-in_err-first_word
unfolding marker_of
returns-in_err-first_word c = let p = err_from_is_err_and c.from_residual.result c.from_residual.ensures.1 in
    rw (p.1, p.2, ← c.first_word.ensures, c.in_err-first_word.was)

pub returns-in-0 : goal.returns-in-0
unfolding marker_of
returns-in-0 c = rw (← c.first_word.ensures, c.in_ok-first_word.was, c.in-0.is)

pub returns-in-1 : goal.returns-in-1
unfolding marker_of
returns-in-1 c = rw (← c.first_word.ensures, c.in_ok-first_word.was, c.in-1.is)

pub returns-in_default : goal.returns-in_default
unfolding marker_of
returns-in_default c = rw (← c.first_word.ensures, c.in_ok-first_word.was, ne_eqb c.in_ok-first_word.field-0 0 (λ z. omega arith), ne_eqb c.in_ok-first_word.field-0 1 (λ z. omega arith))
