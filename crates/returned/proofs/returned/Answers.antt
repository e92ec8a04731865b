-- `returned::returned` meets its contract.
use mathlib.Core.Path.{◌≡◌, ap, ◌∙◌}
use mathlib.Core.Option.{some}
use Rattle.header.specs.Words.{header_in}
use Rattle.header.proofs.Words.{full_of, header_back}
use Rattle.returned.proofs.Accepted.{answer_is}
use Rattle.returned.proofs.returned.Goals as goal

pub returns : goal.returns
returns c = let a = c.args in
    let s = c.well_formed.0.1.1 in
    let r = c.well_formed.1.0.1.1 in
    let sent : header_in c.words_of.result ≡ some a.sent = ap header_in c.words_of.ensures ∙ header_back a.sent (full_of a.sent _ _ _ s.0 s.1.0 s.1.1.0) in
    let reply : header_in c.words_of-2.result ≡ some a.reply = ap header_in c.words_of-2.ensures ∙ header_back a.reply (full_of a.reply _ _ _ r.0 r.1.0 r.1.1.0) in
    rw (c.unwrap_or-landed.ensures, c.number.ensures) (answer_is a.sent a.reply c.check_lent-outcome.result _ (rw (sent, reply) at c.check_lent-outcome.ensures) (rw (← c.unwrap_or-landed.ensures) c.copy_from_slice.ensures.after))
