-- Credits (document 01, "Setup data, credits and error replies").
use Rattle.std.specs.Prelude.{ℕ, min, max, cond, leb}
use Rattle.credit.specs.declared.GrantAnswer.{GrantAnswer}

-- "The grant is the smaller of the words asked and our limit, but at least 1."
unfoldable pub granted : ℕ → ℕ → ℕ
granted asked limit = max 1 (min asked limit)

-- "bad argument: credit limit 0" (20): "It and the values from two setup data check 20 alone."
unfoldable pub grant_answer : ℕ → ℕ → GrantAnswer
grant_answer asked limit =
    cond (leb 1 limit) (record { credit = granted asked limit; number = 0 }) (record { credit = 0; number = 20 })
