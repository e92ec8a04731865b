-- What chunks that stand have in common: where each lies, and how many places the base has.
-- Assumes nothing.
use mathlib.Core.Path.{◌≡◌, refl, subst}
use mathlib.Core.Bool.{true}
use mathlib.Core.List.{List, [], ◌∷◌, append-nil}
use Prim.Native.Nat.{ℕ, ◌+◌, ◌-◌, ◌≤◌}
use native.Mathlib.Omega.{arith}
use lib.ListN.{length, length-append}
use lib.Dec.{leb}
use borrow.Author.Tests.{leb-true}
use Rattle.answers.proofs.Checks.{both_hold}
use Rattle.layout.specs.Places.{from}
use Rattle.layout.specs.Layout.{rounded_up, rounded_total, stands, places, gaps, base_places, message_length}
use Rattle.layout.specs.declared.Run.{Run}
use Rattle.layout.proofs.Scatter.{length_from}
use Rattle.layout.proofs.Apart.{NotBelow, above_append, above_from}

-- What `stands` says, as facts: a chunk stands at or behind `end`, and at or before `most`, where the base would end if no chunk came any more.
unfoldable pub Placed : ℕ → ℕ → List Run → Type 0
Placed end most [] = Unit {0}
Placed end most (c ∷ cs) = (end ≤ c.at) × (c.at ≤ most) × Placed (c.at + rounded_up c.length) (most + rounded_up c.length) cs

pub stands_placed : (base end earlier : ℕ) (cs : List Run) → stands base end earlier cs ≡ true → Placed end (base + earlier) cs
unfolding stands Placed
stands_placed base end earlier [] e = tt
stands_placed base end earlier (c ∷ cs) e =
    let x = both_hold (leb end c.at) _ e in
    let y = both_hold (leb (c.at - earlier) base) _ x.1 in
    let rest = stands_placed base (c.at + rounded_up c.length) (earlier + rounded_up c.length) cs y.1 in
    let sum : base + (earlier + rounded_up c.length) ≡ base + earlier + rounded_up c.length = omega arith in
    (leb-true end c.at x.0, (let near = leb-true (c.at - earlier) base y.0 in omega arith), subst (λ (n : ℕ). Placed (c.at + rounded_up c.length) n cs) sum rest)

pub all_placed : (base : ℕ) (cs : List Run) → stands base 0 0 cs ≡ true → Placed 0 base cs
all_placed base cs e = let sum : base + 0 ≡ base = omega arith in subst (λ (n : ℕ). Placed 0 n cs) sum (stands_placed base 0 0 cs e)

-- The base fills places from where it starts on.
pub above_gaps : (n a m k : ℕ) (cs : List Run) → n ≤ a → Placed a k cs → NotBelow n (places (gaps a m cs))
unfolding places gaps Placed NotBelow
above_gaps n a m k [] h s = above_append n (from a (m - a)) [] (above_from n a (m - a) h) tt
above_gaps n a m k (c ∷ cs) h s = above_append n (from a (c.at - a)) _ (above_from n a (c.at - a) h) (above_gaps n (c.at + rounded_up c.length) m _ cs (omega arith) s.2)

-- How many places the base has.
length_gaps : (start most m : ℕ) (cs : List Run) → start ≤ most → Placed start most cs → m ≡ most + rounded_total cs → start + length (places (gaps start m cs)) ≡ most
unfolding Placed rounded_total places gaps
length_gaps start most m [] s p e = rw (append-nil, length_from) (omega arith)
length_gaps start most m (c ∷ cs) s p e =
    rw (length-append, length_from)
    (omega (arith, length_gaps (c.at + rounded_up c.length) (most + rounded_up c.length) m cs (omega arith) p.2 (omega arith)))

pub length_base : (base : ℕ) (cs : List Run) → stands base 0 0 cs ≡ true → length (base_places base cs) ≡ base
unfolding base_places
length_base base cs e = omega (arith, length_gaps 0 base (message_length base cs) cs (omega arith) (all_placed base cs e) refl)
