-- What the number 0 says, and the numbers that come with it.
-- Assumes nothing.
use mathlib.Core.Path.{◌≡◌, refl, sym, ◌∙◌}
use mathlib.Core.Bool.{Bool, true, false, not, ◌&&◌, cond}
use mathlib.Core.List.{List, [], ◌∷◌, ◌++◌, map}
use Prim.Native.Nat.{ℕ, ◌≤◌}
use native.Mathlib.Omega.{arith}
use lib.Dec.{eqb}
use lib.ListN.{length, get_or, take, replicate, length-append, length-map, length-take, length-replicate}
use lib.Seq.{take_at}
use Rattle.std.proofs.lemmas.List.{get_or_at}
use borrow.Author.Tests.{eqb-true, not-true, ne_eqb}
use Rattle.std.specs.Prelude.{Result, Ok, Err}
use Rattle.std.specs.Result.{result_unwrap_or}
use Rattle.answers.specs.Answers.{unless_refused}
use Rattle.answers.specs.Refusals.{refusal_number, numbered, outcome_number}
use Rattle.answers.specs.declared.Refusal.{Refusal}
use Rattle.answers.proofs.Checks.{both_hold, check_passed}
use Rattle.header.specs.Content.{padded, content_of}
use Rattle.header.specs.Limits.{keeps_limits}
use Rattle.header.specs.declared.Header.{Header}
use Rattle.header.proofs.Limits.{few_counts}
use Rattle.header.proofs.Contents.{length_runs}
use Rattle.header.proofs.Outcomes.{outcome_ok, outcome_err}
use Rattle.returned.specs.Returned.{mismatch, chunk_length, landed_writes, returned_number, returned_answer}
use Rattle.returned.specs.Internal.Parts.{headers_outcome}

-- Both headers are within the limits, and nothing is wrong with the reply.
pub record Accepted (sent reply : Header) : Type 0 where
  pub sent_within : keeps_limits sent ≡ true
  pub reply_within : keeps_limits reply ≡ true
  pub right : mismatch (content_of sent) (content_of reply) ≡ false

pub accepted : (sent reply : Header) → returned_number sent reply ≡ 0 → Accepted sent reply
unfolding returned_number
accepted sent reply e =
    let limits = check_passed (keeps_limits sent && keeps_limits reply) 7 _ (omega arith) e in
    let both = both_hold (keeps_limits sent) _ limits.0 in
    let fine = check_passed (not (mismatch (content_of sent) (content_of reply))) 26 0 (omega arith) limits.1 in
    record { sent_within = both.0; reply_within = both.1; right = not-true _ fine.0 }

pub accepts : (sent reply : Header) → Accepted sent reply → returned_number sent reply ≡ 0
unfolding returned_number
accepts sent reply a = rw (a.sent_within, a.reply_within, a.right)

-- A header within the limits has four write chunks at most.
pub few_chunks : (h : Header) → keeps_limits h ≡ true → length (content_of h).writes ≤ 4
unfolding content_of
few_chunks h e =
    let few = (few_counts _ _ h.writes.counts h.reply.present _ e).chunks in
    let size = length-take h.writes.chunks h.writes.counts in
    rw (length_runs (take h.writes.chunks h.writes.counts) h.writes.segments) (omega arith)

-- Four numbers are answered for the write chunks.
four : (n : ℕ) (made : List ℕ) → (n ≡ 0 → length made ≡ 4) → length (unless_refused n made (replicate 4 0)) ≡ 4
four n made h = by (eqb n 0) refl
  where
    by : (b : Bool) → eqb n 0 ≡ b → length (cond b made (replicate 4 0)) ≡ 4
    by true e = h (eqb-true n 0 e)
    by false e = refl

padded_long : (l : List ℕ) → length l ≤ 4 → length (padded 4 0 l) ≡ 4
padded_long l h = rw (length-append, length-replicate) (omega arith)

pub writes_long : (sent reply : Header) → length (returned_answer sent reply).writes ≡ 4
unfolding returned_answer
writes_long sent reply = four (returned_number sent reply) (landed_writes (content_of reply)) (λ e. padded_long (map chunk_length (content_of reply).writes) (rw length-map (few_chunks reply (accepted sent reply e).reply_within)))

pub number_is : (sent reply : Header) → returned_number sent reply ≡ (returned_answer sent reply).number
unfolding returned_answer
number_is sent reply = refl

-- Zeros and its number are the answer of what is refused.
refused_is : (sent reply : Header) (number : ℕ) → (returned_number sent reply ≡ number) × (returned_number sent reply ≡ 0 → ⊥) → record { writes = replicate 4 0; reply = 0; number = number } ≡ returned_answer sent reply
unfolding returned_answer
refused_is sent reply number fault = rw (ne_eqb _ _ fault.1, fault.0)

-- The five numbers, or zeros, and the number are the answer.
pub answer_is : (sent reply : Header) (r : Result (List ℕ) Refusal) (writes : List ℕ) → numbered r ≡ headers_outcome sent reply → writes ≡ take 4 (result_unwrap_or r (replicate 5 0)) →
    record { writes = writes; reply = get_or (result_unwrap_or r (replicate 5 0)) 4 0; number = outcome_number r } ≡ returned_answer sent reply
answer_is sent reply (Ok l) writes e w =
    let zero = outcome_ok (returned_number sent reply) _ l e in
    let made : ◌≡◌ {A = Result (List ℕ) ℕ} (Ok l) (Ok ((returned_answer sent reply).writes ++ ((returned_answer sent reply).reply ∷ []))) = rw zero at e in
    let same : l ≡ (returned_answer sent reply).writes ++ ((returned_answer sent reply).reply ∷ []) = cc in
    let front = take_at (returned_answer sent reply).writes ((returned_answer sent reply).reply ∷ []) 4 (writes_long sent reply) in
    let back = get_or_at (returned_answer sent reply).writes (returned_answer sent reply).reply [] 0 4 (writes_long sent reply) in
    let first : writes ≡ (returned_answer sent reply).writes = w ∙ rw same front in
    let last : get_or l 4 0 ≡ (returned_answer sent reply).reply = rw same back in
    let number : 0 ≡ (returned_answer sent reply).number = sym zero ∙ number_is sent reply in
    λ i. record { writes = first i; reply = last i; number = number i }
answer_is sent reply (Err r) writes e w = rw w (refused_is sent reply (refusal_number r) (outcome_err (returned_number sent reply) _ (refusal_number r) e))
