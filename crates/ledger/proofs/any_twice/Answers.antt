-- `ledger::any_twice` meets its contract.
use Rattle.std.proofs.Common.{◌+◌, ◌-◌, ◌∙◌, ℕ, length, take, drop, sym, rules}
use Rattle.std.proofs.lemmas.Iterator.{YieldsList-from_slice}
use Rattle.std.proofs.lemmas.Iterator.Consumers.{YieldsList-from_enumerate}
use Rattle.std.proofs.lemmas.Iterator.Search.{any_from_yields_List}
use borrow.Author.Tests.{tests}
use Rattle.ledger.specs.Ledger.{is_in}
use Rattle.ledger.proofs.Xids.{rising_once}
use Rattle.ledger.proofs.Scans.{twice_at_all}
use Rattle.ledger.proofs.any_twice.Goals as goal

pub returns-then-not-is_rising : goal.returns-then-not-is_rising
returns-then-not-is_rising c = let list = c.args.list.now in
    any_from_yields_List (λ (p : ℕ × ℕ). is_in p.1 (take (length list - (p.0 + 1)) (drop (p.0 + 1) list))) _ _ c.any.result c.any.ensures.ran (YieldsList-from_enumerate (YieldsList-from_slice list cc) c.enumerate.ensures.count) (λ x b q k. search (rules, tests))
    ∙ twice_at_all list

pub returns-else-not-is_rising : goal.returns-else-not-is_rising
returns-else-not-is_rising c = rw c.if-not-is_rising.false (sym (rising_once _ (sym c.is_rising.ensures ∙ c.if-not-is_rising.false)))
