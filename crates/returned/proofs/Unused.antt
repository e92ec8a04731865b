-- Unused places are ignored.
-- Assumes nothing.
use mathlib.Core.Path.{◌≡◌, refl, sym, ◌∙◌}
use mathlib.Core.Bool.{true}
use Rattle.header.specs.Content.{content_of}
use Rattle.header.specs.Limits.{keeps_limits}
use Rattle.header.specs.Fits.{Representable, zeroed}
use Rattle.header.specs.declared.Header.{Header}
use Rattle.header.proofs.Zeroed.{zeroed_content, zeroed_limits}
use Rattle.returned.specs.Returned.{returned_number, returned_answer}

-- Only what the headers say counts, and whether they keep the limits.
pub same_answer : (sent reply call answer : Header) → content_of call ≡ content_of sent → content_of answer ≡ content_of reply → keeps_limits call ≡ keeps_limits sent → keeps_limits answer ≡ keeps_limits reply → returned_answer call answer ≡ returned_answer sent reply
unfolding returned_answer returned_number
same_answer sent reply call answer a b c d = rw (a, b, c, d)

-- With unused places zeroed in both headers the answer is the same.
pub unused_ignored : (sent reply : Header) → Representable sent → Representable reply → keeps_limits sent ≡ true → keeps_limits reply ≡ true →
    returned_answer (zeroed sent) (zeroed reply) ≡ returned_answer sent reply
unused_ignored sent reply s r e f =
    same_answer sent reply (zeroed sent) (zeroed reply) (zeroed_content sent s e) (zeroed_content reply r f) (zeroed_limits sent s e ∙ sym e) (zeroed_limits reply r f ∙ sym f)

-- In the reply alone, whatever was sent.
pub reply_zeroed : (sent reply : Header) → Representable reply → keeps_limits reply ≡ true → returned_answer sent (zeroed reply) ≡ returned_answer sent reply
reply_zeroed sent reply r f = same_answer sent reply sent (zeroed reply) refl (zeroed_content reply r f) refl (zeroed_limits reply r f ∙ sym f)
