-- Laws about the counts of a header and their limits.
-- Assumes nothing.
use mathlib.Core.Path.{◌≡◌, refl, ap, ◌∙◌}
use mathlib.Core.Bool.{Bool, true, false, cond}
use mathlib.Core.List.{List, [], ◌∷◌}
use Prim.Native.Nat.{ℕ, ◌+◌, ◌≤◌, ◌<◌}
use native.Mathlib.Omega.{arith}
use lib.ListN.{length, take, drop, get_or, length-drop}
use lib.Seq.{length-take-le, get_or-drop, get_or-take}
use lib.Dec.{leb}
use Rattle.std.specs.Prelude.{sum_by}
use Rattle.std.proofs.lemmas.List.{length-take, take-take}
use Rattle.std.proofs.lemmas.List.Sums.{sum_by-cons, sum_by_more, sum_by_more_le}
use borrow.Author.Tests.{leb-true}
use Rattle.answers.proofs.Checks.{both_hold}
use Rattle.header.specs.Words.{read_count_at, write_chunks_at, reply_count_at, counts_in}
use Rattle.header.specs.Internal.Counts.{limits_kept}
use Rattle.header.specs.Limits.{total, within_limits}

-- It is std's sum.
pub total_is_sum : (ns : List ℕ) → sum_by (λ n. n) ns ≡ total ns
unfolding total
total_is_sum [] = refl
total_is_sum (n ∷ ns) = sum_by-cons (λ m. m) n ns ∙ ap (λ t. n + t) (total_is_sum ns)

-- The total of one count more.
pub total_next : (ns : List ℕ) (k : ℕ) → k < length ns → total (take (k + 1) ns) ≡ total (take k ns) + get_or ns k 0
total_next ns k h = rw (← (total_is_sum (take (k + 1) ns)), ← (total_is_sum (take k ns))) (sum_by_more (λ n. n) ns k 0 h)

-- One more of them is within the total.
pub total_within : (ns : List ℕ) (j k : ℕ) → j < k → k ≤ length ns → total (take j ns) + get_or ns j 0 ≤ total (take k ns)
total_within ns j k h few =
    let within : sum_by (λ n. n) (take j (take k ns)) + get_or (take k ns) j 0 ≤ sum_by (λ n. n) (take k ns) = sum_by_more_le (λ n. n) (take k ns) j 0 (rw (length-take-le k ns few) h) in
    rw (take-take j k ns (omega arith), get_or-take k ns j 0 h, total_is_sum (take j ns), total_is_sum (take k ns)) at within

-- The counts of the write chunks in words: there are four, of which no more are taken, and where they stand.
pub counts_long : (w : List ℕ) → length w ≡ 238 → length (counts_in w) ≡ 4
counts_long w e = length-take-le 4 (drop 224 w) (rw length-drop (omega arith))

pub counts_few : (n : ℕ) (w : List ℕ) → length (take n (counts_in w)) ≤ 4
counts_few n w = omega (arith, length-take n (counts_in w), length-take 4 (drop 224 w))

pub count_here : (w : List ℕ) (k : ℕ) → k < 4 → get_or (counts_in w) k 0 ≡ get_or w (224 + k) 0
count_here w k h = rw (get_or-take, get_or-drop)

-- One count more is within their total.
pub count_within : (w : List ℕ) (j n : ℕ) → length w ≡ 238 → j < n → n ≤ 4 → total (take j (counts_in w)) + get_or w (224 + j) 0 ≤ total (take n (counts_in w))
count_within w j n long h few = let four = counts_long w long in rw (count_here w j (omega arith)) at (total_within (counts_in w) j n h (omega arith))

-- The replies are few, be there a chunk or not.
pub few_in : (present : Bool) (n : ℕ) → n ≤ cond present 16 0 → n ≤ 16
few_in true n h = h
few_in false n h = omega arith

-- Counts that are within their limits.
pub record Few (r n : ℕ) (counts : List ℕ) (present : Bool) (m : ℕ) : Type 0 where
  pub reads : r ≤ 16
  pub chunks : n ≤ 4
  pub segments : total (take n counts) ≤ 16
  pub there : m ≤ cond present 16 0
  pub replies : m ≤ 16

pub few_counts : (r n : ℕ) (counts : List ℕ) (present : Bool) (m : ℕ) → within_limits r n counts present m ≡ true → Few r n counts present m
unfolding within_limits
few_counts r n counts present m h =
    let first = both_hold (leb r 16) _ h in
    let second = both_hold (leb n 4) _ first.1 in
    let third = both_hold (leb (total (take n counts)) 16) _ second.1 in
    let there = leb-true m (cond present 16 0) third.1 in
    record {
      reads = leb-true r 16 first.0;
      chunks = leb-true n 4 second.0;
      segments = leb-true (total (take n counts)) 16 third.0;
      there = there;
      replies = few_in present m there;
    }

-- Those in words.
abbrev pub FewIn : List ℕ → Bool → Type 0
FewIn w present = Few (get_or w read_count_at 0) (get_or w write_chunks_at 0) (counts_in w) present (get_or w reply_count_at 0)

pub few_in_words : (w : List ℕ) (present : Bool) → limits_kept w present ≡ true → FewIn w present
few_in_words w present h = few_counts _ _ _ present _ h
