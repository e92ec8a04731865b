-- What a buffer holds once all bytes of a message are in: the message, and what stood behind it.
-- Assumes nothing.
use mathlib.Core.Path.{◌≡◌, sym, ap, ◌∙◌}
use mathlib.Core.List.{List, [], ◌∷◌, ◌++◌, append_assoc, append-nil}
use Prim.Native.Nat.{ℕ, ◌+◌, ◌-◌, ◌≤◌}
use native.Mathlib.Omega.{arith}
use lib.ListN.{length, take, drop, replicate, length-append, length-drop, length-replicate, replicate-append-replicate, take-append-drop}
use lib.Seq.{take_at, drop_at, drop-drop, length-take-le, sets-eq}
use Rattle.wire.specs.Wire.{stored}
use Rattle.layout.specs.Places.{from, scatter}
use Rattle.layout.specs.Layout.{rounded_up, rounded_total, places, gaps, paddings}
use Rattle.layout.specs.Internal.Walks.{total_length}
use Rattle.layout.specs.declared.Run.{Run}
use Rattle.layout.proofs.Scatter.{scatter_from, length_from, from_add, length_scatter}
use Rattle.layout.proofs.ChunksStand.{rounded_most}
use Rattle.layout.proofs.Placed.{Placed, above_gaps}
use Rattle.theorems.specs.Message.{message_from}
use Rattle.layout.proofs.Apart.{Apart, NotBelow, scatter_comm, apart_by, above_append, above_from, below_from, scatter_join}

scatter_run : (k : ℕ) (v out : List ℕ) → k + length v ≤ length out → scatter (from k (length v)) v out ≡ take k out ++ v ++ drop (k + length v) out
unfolding stored
scatter_run k v out h = scatter_from k v out ∙ sets-eq v out k h

pub above_places : (n a k : ℕ) (cs : List Run) → n ≤ a → Placed a k cs → NotBelow n (places cs)
unfolding places Placed NotBelow
above_places n a k [] h s = tt
above_places n a k (c ∷ cs) h s = above_append n (from c.at c.length) (places cs) (above_from n c.at c.length (omega arith)) (above_places n (c.at + rounded_up c.length) _ cs (omega arith) s.2)

pub above_pads : (n a k : ℕ) (cs : List Run) → n ≤ a → Placed a k cs → NotBelow n (places (paddings cs))
unfolding places paddings Placed NotBelow
above_pads n a k [] h s = tt
above_pads n a k (c ∷ cs) h s = above_append n (from (c.at + c.length) (rounded_up c.length - c.length)) _ (above_from n (c.at + c.length) (rounded_up c.length - c.length) (omega arith)) (above_pads n (c.at + rounded_up c.length) _ cs (omega arith) s.2)

-- the first parts of three writings, brought to the front and joined
shuffle : (G1 G C1 C P1 P b1 b2 d1 d2 z1 z2 b : List ℕ) → length b1 ≡ length G1 → length d1 ≡ length C1 → length z1 ≡ length P1 →
    Apart P1 G → Apart C1 P → Apart C1 G → Apart C1 P1 →
    scatter (C1 ++ C) (d1 ++ d2) (scatter (P1 ++ P) (z1 ++ z2) (scatter (G1 ++ G) (b1 ++ b2) b)) ≡ scatter C d2 (scatter P z2 (scatter G b2 (scatter (G1 ++ C1 ++ P1) (b1 ++ d1 ++ z1) b)))
shuffle G1 G C1 C P1 P b1 b2 d1 d2 z1 z2 b hb hd hz pg cp cg c1 =
    let e : length (b1 ++ d1) ≡ length (G1 ++ C1) = simp length-append (omega arith) in
    rw (← scatter_join C1 C d1 d2, ← scatter_join P1 P z1 z2, ← scatter_join G1 G b1 b2, ← scatter_comm P1 G z1 b2, ← scatter_comm C1 P d1 z2, ← scatter_comm C1 G d1 b2, ← scatter_comm C1 P1 d1 z1, scatter_join G1 C1 b1 d1, scatter_join (G1 ++ C1) P1 (b1 ++ d1) z1)

-- three runs that touch
runs_touch : (a g p l r : ℕ) → a + g ≡ p → from a g ++ from p l ++ from (p + l) r ≡ from a (g + l + r)
runs_touch a g p l r e = rw (← e) (sym (from_add a (g + l) r ∙ ap (λ (x : List ℕ). x ++ from (a + (g + l)) r) (from_add a g l) ∙ ap (λ (k : ℕ). from a g ++ from (a + g) l ++ from k r) (omega arith)))

-- a buffer whose first part, rounded up to place k, was written anew: its parts
take_front : (a k : ℕ) (x b : List ℕ) → a ≤ length b → a + length x ≡ k → take k (take a b ++ x ++ drop k b) ≡ take a b ++ x
take_front a k x b h e = take_at (take a b ++ x) (drop k b) k (length-append (take a b) x ∙ ap (λ (n : ℕ). n + length x) (length-take-le a b h) ∙ e)

drop_front : (a k m : ℕ) (x b : List ℕ) → a ≤ length b → a + length x ≡ k → k ≤ m → drop m (take a b ++ x ++ drop k b) ≡ drop m b
drop_front a k m x b h e km =
    let f : m ≡ k + (m - k) = omega arith in
    rw (f, ← drop-drop (m - k) k (take a b ++ x ++ drop k b), drop_at (take a b ++ x) (drop k b) k (length-append (take a b) x ∙ ap (λ (n : ℕ). n + length x) (length-take-le a b h) ∙ e)) (drop-drop (m - k) k b)

-- one chunk of u places, l of them pulled, behind the base bytes b1
message_step : (a p l u m : ℕ) (G C P b1 b2 d1 d2 z1 z2 w b : List ℕ) → a ≤ p → length b1 ≡ p - a → length d1 ≡ l → length z1 ≡ u - l → l ≤ u → p + u ≤ m → m ≤ length b →
    NotBelow (p + u) G → NotBelow (p + u) P →
    ((c : List ℕ) → length c ≡ length b → scatter C d2 (scatter P z2 (scatter G b2 c)) ≡ take (p + u) c ++ w ++ drop m c) →
    scatter (from p l ++ C) (d1 ++ d2) (scatter (from (p + l) (u - l) ++ P) (z1 ++ z2) (scatter (from a (p - a) ++ G) (b1 ++ b2) b)) ≡ take a b ++ (b1 ++ d1 ++ z1 ++ w) ++ drop m b
message_step a p l u m G C P b1 b2 d1 d2 z1 z2 w b le hb hd hz lu pm mb aG aP ih =
    shuffle (from a (p - a)) G (from p l) C (from (p + l) (u - l)) P b1 b2 d1 d2 z1 z2 b
    (rw length_from hb) (rw length_from hd) (rw length_from hz)
    (apart_by (p + u) _ G (below_from (p + u) (p + l) (u - l) (omega arith)) aG)
    (apart_by (p + u) _ P (below_from (p + u) p l (omega arith)) aP)
    (apart_by (p + u) _ G (below_from (p + u) p l (omega arith)) aG)
    (apart_by (p + l) _ _ (below_from (p + l) p l (omega arith)) (above_from (p + l) (p + l) (u - l) (omega arith)))
    ∙ ih _ (length_scatter _ _ b)
    ∙ rw (front, take_front a (p + u) x b (omega arith) ends, drop_front a (p + u) m x b (omega arith) ends pm) (simp append_assoc)
  where
    x : List ℕ
    x = b1 ++ d1 ++ z1

    lx : length x ≡ (p - a) + l + (u - l)
    lx = simp length-append (omega arith)

    ends : a + length x ≡ p + u
    ends = omega (arith, lx)

    front : scatter (from a (p - a) ++ from p l ++ from (p + l) (u - l)) x b ≡ take a b ++ x ++ drop (p + u) b
    front = rw (runs_touch a (p - a) p l (u - l) (omega arith), ← lx, ← ends) (scatter_run a x b (omega (arith, ends)))

-- b, from place a on rounded up to place m, is the bytes of the message
pub message_buffer : (a m t : ℕ) (cs : List Run) (base d b : List ℕ) → Placed a t cs → a + length base ≡ t → m ≡ t + rounded_total cs → m ≤ length b → length d ≡ total_length cs →
    scatter (places cs) d (scatter (places (paddings cs)) (replicate (length (places (paddings cs))) 0) (scatter (places (gaps a m cs)) base b)) ≡ take a b ++ message_from a base cs d ++ drop m b
unfolding places gaps paddings Placed rounded_total message_from scatter total_length
message_buffer a m t [] base d b s hb hm hl hd =
    let e : m - a ≡ length base = omega arith in
    let f : m ≡ a + length base = omega arith in
    rw (append-nil, e, f) (scatter_run a base b (omega arith))
message_buffer a m t (c ∷ cs) base d b s hb hm hl hd =
    let lu : c.length ≤ rounded_up c.length = (rounded_most c.length).0 in
    let step = message_step a c.at c.length (rounded_up c.length) m (places (gaps (c.at + rounded_up c.length) m cs)) (places cs) (places (paddings cs))
    (take (c.at - a) base) (drop (c.at - a) base) (take c.length d) (drop c.length d) (replicate (rounded_up c.length - c.length) 0) (replicate (length (places (paddings cs))) 0)
    (message_from (c.at + rounded_up c.length) (drop (c.at - a) base) cs (drop c.length d)) b
    s.0 (length-take-le (c.at - a) base (omega arith)) (length-take-le c.length d (omega arith)) (length-replicate (rounded_up c.length - c.length) 0) lu (omega arith) hl
    (above_gaps (c.at + rounded_up c.length) (c.at + rounded_up c.length) m _ cs (omega arith) s.2) (above_pads (c.at + rounded_up c.length) (c.at + rounded_up c.length) _ cs (omega arith) s.2)
    (λ q e. message_buffer (c.at + rounded_up c.length) m (t + rounded_up c.length) cs (drop (c.at - a) base) (drop c.length d) q s.2 (rw length-drop (omega arith)) (omega arith) (omega arith) (rw length-drop (omega arith))) in
    rw (length-append, length_from, ← replicate-append-replicate) (rw (take-append-drop c.length d, take-append-drop (c.at - a) base) at step)
