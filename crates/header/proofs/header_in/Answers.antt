-- `header::header_in` meets its contract.
use mathlib.Core.Path.{refl, sym, ◌∙◌}
use native.Mathlib.Omega.{arith}
use Rattle.header.proofs.Words.{header_known}
use Rattle.header.proofs.header_in.Goals as goal

pub returns : goal.returns
returns c = (refl, header_known c.args.words.now _ (sym c.kind_in.ensures ∙ c.in_ok-kind.was) (omega arith))
