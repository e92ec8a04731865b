-- `returned::check_headers` meets its contract.
use mathlib.Core.Path.{◌≡◌, sym, ◌∙◌}
use borrow.Author.Rules.{rules}
use borrow.Author.Tests.{not-true, not-false}
use Rattle.std.specs.Prelude.{Some, None}
use Rattle.header.proofs.Limits.{few_in_words}
use Rattle.returned.proofs.Headers.{sent_over, reply_over, heads_mismatch, counts_mismatch, writes_mismatch, reply_mismatch, lands}
use Rattle.returned.proofs.check_headers.Goals as goal

pub returns-then-not-keeps_limits : goal.returns-then-not-keeps_limits
returns-then-not-keeps_limits c = rw (sent_over c.args.sent.words.now c.args.reply.words.now c.args.sent.kind c.args.reply.kind _ c.args.reply.present (sym c.keeps_limits.ensures ∙ c.if-not-keeps_limits.true))

pub returns-then-not-keeps_limits-2 : goal.returns-then-not-keeps_limits-2
returns-then-not-keeps_limits-2 c = rw (reply_over c.args.sent.words.now c.args.reply.words.now c.args.sent.kind c.args.reply.kind c.args.sent.present _ (sym c.keeps_limits-2.ensures ∙ c.if-not-keeps_limits-2.true))

pub returns-then-not-heads_fit : goal.returns-then-not-heads_fit
returns-then-not-heads_fit c = rw (heads_mismatch c.args.sent c.args.reply (sym c.keeps_limits.ensures ∙ c.if-not-keeps_limits.false) (sym c.keeps_limits-2.ensures ∙ c.if-not-keeps_limits-2.false) (not-false _ (sym c.heads_fit.ensures ∙ c.if-not-heads_fit.true)))

pub returns-then-n-answer : goal.returns-then-n-answer
returns-then-n-answer c = rw (counts_mismatch c.args.sent c.args.reply (sym c.keeps_limits.ensures ∙ c.if-not-keeps_limits.false) (sym c.keeps_limits-2.ensures ∙ c.if-not-keeps_limits-2.false) (search rules) (search rules) (not-true _ (sym c.heads_fit.ensures ∙ c.if-not-heads_fit.false)) c.if-n-answer.true)

pub check_writes-writes-requires : goal.check_writes-writes-requires
check_writes-writes-requires c =
    let s = few_in_words c.args.sent.words.now c.args.sent.present (sym c.keeps_limits.ensures ∙ c.if-not-keeps_limits.false) in
    let r = few_in_words c.args.reply.words.now c.args.reply.present (sym c.keeps_limits-2.ensures ∙ c.if-not-keeps_limits-2.false) in
    (s.chunks, s.segments, rw c.if-n-answer.false r.segments)

pub returns-in_err-landed : goal.returns-in_err-landed
returns-in_err-landed c =
    let none : c.check_writes-writes.result ≡ None = search rules in
    rw (writes_mismatch c.args.sent c.args.reply (sym c.keeps_limits.ensures ∙ c.if-not-keeps_limits.false) (sym c.keeps_limits-2.ensures ∙ c.if-not-keeps_limits-2.false) (search rules) (search rules) (not-true _ (sym c.heads_fit.ensures ∙ c.if-not-heads_fit.false)) c.if-n-answer.false (sym c.check_writes-writes.ensures ∙ none)) (search rules)

pub check_reply-requires : goal.check_reply-requires
check_reply-requires c =
    let s = few_in_words c.args.sent.words.now c.args.sent.present (sym c.keeps_limits.ensures ∙ c.if-not-keeps_limits.false) in
    let r = few_in_words c.args.reply.words.now c.args.reply.present (sym c.keeps_limits-2.ensures ∙ c.if-not-keeps_limits-2.false) in
    (s.replies, r.replies)

pub returns-in_err-landed-2 : goal.returns-in_err-landed-2
returns-in_err-landed-2 c =
    let none : c.check_reply.result ≡ None = search rules in
    rw (reply_mismatch c.args.sent c.args.reply (sym c.keeps_limits.ensures ∙ c.if-not-keeps_limits.false) (sym c.keeps_limits-2.ensures ∙ c.if-not-keeps_limits-2.false) (search rules) (search rules) (not-true _ (sym c.heads_fit.ensures ∙ c.if-not-heads_fit.false)) c.if-n-answer.false (sym c.check_reply.ensures ∙ none)) (search rules)

pub returns : goal.returns
returns c =
    let writes : c.check_writes-writes.result ≡ Some c.in_ok-landed.landed = search rules in
    let replied : c.check_reply.result ≡ Some c.in_ok-landed-2.field-0 = search rules in
    rw (lands c.args.sent c.args.reply (sym c.keeps_limits.ensures ∙ c.if-not-keeps_limits.false) (sym c.keeps_limits-2.ensures ∙ c.if-not-keeps_limits-2.false) (search rules) (search rules) (not-true _ (sym c.heads_fit.ensures ∙ c.if-not-heads_fit.false)) c.if-n-answer.false _ _ (sym c.check_writes-writes.ensures ∙ writes) (sym c.check_reply.ensures ∙ replied))
