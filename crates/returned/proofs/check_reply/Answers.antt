-- `returned::check_reply` meets its contract.
use mathlib.Core.Path.{◌≡◌, refl, sym, ◌∙◌}
use mathlib.Core.Bool.{Bool, true, false, cond}
use mathlib.Core.List.{List}
use mathlib.Core.Option.{some}
use Prim.Native.Nat.{ℕ, ◌≤◌}
use native.Mathlib.Omega.{arith}
use lib.ListN.{length, get_or, take}
use lib.Seq.{length-take-le}
use borrow.Author.Tests.{ne_eqb}
use Rattle.wire.specs.declared.Segment.{Segment}
use Rattle.chunk_lists.specs.Words.{segments_in}
use Rattle.chunk_lists.proofs.Words.{length_segments}
use Rattle.header.specs.Words.{reply_at, reply_count_at}
use Rattle.returned.specs.Returned.{chunk_length, reply_chunk_filled_in_msg}
use Rattle.returned.specs.Internal.Parts.{chunk_check, reply_in}
use Rattle.returned.proofs.Replies.{bytes_there, reply_missing, reply_count, reply_fault, reply_landed, reply_filled, empty}
use Rattle.returned.proofs.Writes.{chunk_landed}
use Rattle.std.specs.Prelude.{Some, None}
use Rattle.std.specs.Bool.{then_some}
use Rattle.returned.proofs.check_reply.Goals.{else-landed-ne0-via-then-landed-ne0+else-not-may_fill_reply, else-landed-ne0-via-else-landed-ne0}
use Rattle.returned.proofs.check_reply.Goals as goal

-- The reply chunk in words within their limits has as many segments as its count says.
abbrev segments : List ℕ → List Segment
segments w = take (get_or w reply_count_at 0) (segments_in reply_at w)

size : (w : List ℕ) → get_or w reply_count_at 0 ≤ 16 → length (segments w) ≡ get_or w reply_count_at 0
size w h = let full = length_segments reply_at w in length-take-le (get_or w reply_count_at 0) (segments_in reply_at w) (omega arith)

told : (b : Bool) → then_some {T = ℕ} b 0 ≡ cond b (Some 0) None
told true = refl
told false = refl

pub returns-then-not-reply : goal.returns-then-not-reply
returns-then-not-reply c = rw (c.if-not-reply.true, reply_missing c.args.reply.kind (reply_in c.args.sent), ← c.may_lack_reply.ensures) (c.then_some.ensures ∙ told c.may_lack_reply.result)

pub returns-then-n-reply : goal.returns-then-n-reply
returns-then-n-reply c =
    let v = c.args.sent.words.now in
    let w = c.args.reply.words.now in
    let differs : length (segments v) ≡ length (segments w) → ⊥ = λ e. c.if-n-reply.true (sym (size v c.requires.0) ∙ e ∙ size w c.requires.1) in
    sym (rw (c.if-not-reply.false, c.if-not-sent.false) (reply_count c.args.reply.kind _ _ differs))

-- The chunks that both headers have are as long as one another.
same : (v w : List ℕ) → get_or v reply_count_at 0 ≤ 16 → get_or w reply_count_at 0 ≤ 16 → get_or v reply_count_at 0 ≡ get_or w reply_count_at 0 → length (segments v) ≡ length (segments w)
same v w few less e = size v few ∙ e ∙ sym (size w less)

pub returns-in_err-landed : goal.returns-in_err-landed
returns-in_err-landed c =
    let fault : chunk_check (record { sent = segments c.args.sent.words.now; back = segments c.args.reply.words.now }) ≡ None = rw (← c.if-n-reply.false) (sym c.check_chunk.ensures ∙ c.in_err-landed.was) in
    rw (c.if-not-reply.false, c.if-not-sent.false, reply_fault c.args.reply.kind _ _ (same c.args.sent.words.now c.args.reply.words.now c.requires.0 c.requires.1 c.if-n-reply.false) fault) c.from_residual.ensures

pub returns-then-not-may_fill_reply : goal.returns-then-not-may_fill_reply
returns-then-not-may_fill_reply c =
    let d = segments c.args.reply.words.now in
    let fine : chunk_check (record { sent = segments c.args.sent.words.now; back = segments c.args.reply.words.now }) ≡ Some c.in_ok-landed.landed = rw (← c.if-n-reply.false) (sym c.check_chunk.ensures ∙ c.in_ok-landed.was) in
    let filled : reply_chunk_filled_in_msg c.args.reply.kind (some d) ≡ true = rw (c.may_fill_reply.ensures d, c.if-not-may_fill_reply.true, bytes_there d, (chunk_landed _ _ fine).1, ne_eqb _ _ c.if-landed-ne0.true) in
    sym (rw (c.if-not-reply.false, c.if-not-sent.false) (reply_filled c.args.reply.kind _ _ (same c.args.sent.words.now c.args.reply.words.now c.requires.0 c.requires.1 c.if-n-reply.false) _ fine filled))

pub returns : goal.returns
returns c =
    let d = segments c.args.reply.words.now in
    let fine : chunk_check (record { sent = segments c.args.sent.words.now; back = segments c.args.reply.words.now }) ≡ Some c.in_ok-landed.landed = rw (← c.if-n-reply.false) (sym c.check_chunk.ensures ∙ c.in_ok-landed.was) in
    let bytes : chunk_length d ≡ c.in_ok-landed.landed = (chunk_landed _ _ fine).1 in
    let free : reply_chunk_filled_in_msg c.args.reply.kind (some d) ≡ false =
    elim c.else-landed-ne0.branch [
      | else-landed-ne0-via-then-landed-ne0+else-not-may_fill_reply w ↦ rw (w.may_fill_reply.ensures d, w.if-not-may_fill_reply.false)
      | else-landed-ne0-via-else-landed-ne0 w ↦ empty c.args.reply.kind d (bytes ∙ w.if-landed-ne0.false)
    ]
    in
    sym (rw (c.if-not-reply.false, c.if-not-sent.false) (reply_landed c.args.reply.kind _ _ (same c.args.sent.words.now c.args.reply.words.now c.requires.0 c.requires.1 c.if-n-reply.false) _ fine free))
