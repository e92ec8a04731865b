-- Laws about goes: they are the fewest runs; the goes of a piece, from those of its parts.
-- Assumes nothing.
use mathlib.Core.Path.{◌≡◌, refl, ap, subst, ◌∙◌}
use mathlib.Core.Bool.{Bool, true, false, cond}
use mathlib.Core.List.{List, [], ◌∷◌, ◌++◌, append_assoc, append-nil}
use Prim.Native.Nat.{ℕ, zero, suc, ◌+◌, ◌-◌, ◌≤◌, ◌<◌, min}
use native.Mathlib.Omega.{arith}
use lib.ListN.{length, take, drop, take-append-drop}
use lib.Seq.{take-add, take_at, drop_at}
use lib.Dec.{leb, eqb}
use borrow.Author.Tests.{leb-true, leb-false, eq-eqb, ne_eqb}
use Rattle.wire.specs.Wire.{joined}
use Rattle.layout.specs.Places.{from}
use Rattle.layout.specs.Layout.{rounded_up, places, gaps}
use Rattle.layout.specs.declared.Run.{Run}
use Rattle.layout.proofs.Scatter.{length_from, from_add}
use Rattle.layout.proofs.Apart.{Below, NotBelow, below_from}
use Rattle.layout.proofs.RunWalk.{GapRun}
use Rattle.wire.specs.Fits.{All}
use Rattle.placing.specs.Goes.{PulledByte, pulled_byte, of_segment, pulled_bytes, follows, RunBehind, IsRun, MadeUp, Fewest, begun_behind, goes}

-- A run more makes one go more at most.
begun_goes : (a : PulledByte) (v : List PulledByte) → begun_behind a v ≤ goes v
unfolding begun_behind goes
begun_goes a [] = omega arith
begun_goes a (b ∷ bs) = by (follows a b)
  where
    by : (x : Bool) → cond x 0 1 + begun_behind b bs ≤ suc (begun_behind b bs)
    by true = omega arith
    by false = omega arith

run_begun_behind : (a : PulledByte) (rest v : List PulledByte) → RunBehind a rest → begun_behind a (rest ++ v) ≤ goes v
unfolding begun_behind RunBehind
run_begun_behind a [] v r = begun_goes a v
run_begun_behind a (b ∷ bs) v r = rw r.0 (omega (arith, run_begun_behind b bs v r.1))

run_goes : (u v : List PulledByte) → IsRun u → goes (u ++ v) ≤ suc (goes v)
unfolding goes IsRun
run_goes [] v r = omega arith
run_goes (a ∷ rest) v r = omega (arith, run_begun_behind a rest v r)

no_fewer : (rs : List (List PulledByte)) → All IsRun rs → goes (joined (λ r. r) rs) ≤ length rs
unfolding joined All goes
no_fewer [] e = omega arith
no_fewer (r ∷ rs) e = omega (arith, run_goes r (joined (λ r. r) rs) e.0, no_fewer rs e.1)

least_of : (l : List PulledByte) (rs : List (List PulledByte)) → MadeUp l rs → goes l ≤ length rs
least_of l rs m = subst (λ (x : List PulledByte). goes x ≤ length rs) m.whole (no_fewer rs m.each)

-- So many runs there are.
record Parts (a : PulledByte) (rest : List PulledByte) : Type 0 where
  pub first : List PulledByte
  pub others : List (List PulledByte)
  pub run : RunBehind a first
  pub each : All IsRun others
  pub whole : first ++ joined (λ r. r) others ≡ rest
  pub many : length others ≡ begun_behind a rest

parts : (a : PulledByte) (rest : List PulledByte) → Parts a rest
unfolding begun_behind RunBehind IsRun All joined
parts a [] = record { first = []; others = []; run = tt; each = tt; whole = refl; many = refl }
parts a (b ∷ bs) = by (follows a b) refl (parts b bs)
  where
    by : (x : Bool) → follows a b ≡ x → Parts b bs → Parts a (b ∷ bs)
    by true e p = record { first = b ∷ p.first; others = p.others; run = (e, p.run); each = p.each; whole = ap (λ (l : List PulledByte). b ∷ l) p.whole; many = p.many ∙ rw e (omega arith) }
    by false e p = record { first = []; others = (b ∷ p.first) ∷ p.others; run = tt; each = (p.run, p.each); whole = ap (λ (l : List PulledByte). b ∷ l) p.whole; many = ap suc p.many ∙ rw e (omega arith) }

-- "the fewest such runs that make it up"
pub fewest : (l : List PulledByte) → Fewest l (goes l)
unfolding goes IsRun All joined
fewest [] = record { runs = []; made = record { each = tt; whole = refl }; many = refl; least = least_of [] }
fewest (a ∷ rest) =
    let p = parts a rest in
    record {
      runs = (a ∷ p.first) ∷ p.others;
      made = record { each = (p.run, p.each); whole = ap (λ (l : List PulledByte). a ∷ l) p.whole };
      many = ap suc p.many;
      least = least_of (a ∷ rest);
    }

-- There are no more goes than bytes.
begun_length : (a : PulledByte) (rest : List PulledByte) → begun_behind a rest ≤ length rest
unfolding begun_behind
begun_length a [] = omega arith
begun_length a (b ∷ bs) = by (follows a b) (begun_length b bs)
  where
    by : (x : Bool) → begun_behind b bs ≤ length bs → cond x 0 1 + begun_behind b bs ≤ suc (length bs)
    by true ih = omega arith
    by false ih = omega arith

pub goes_length : (l : List PulledByte) → goes l ≤ length l
unfolding goes
goes_length [] = omega arith
goes_length (a ∷ rest) = omega (arith, begun_length a rest)

-- "0 for an empty .. piece"
pub goes_none : goes [] ≡ 0
unfolding goes
goes_none = refl

-- A list of bytes in two parts.
begun_append : (a : PulledByte) (u v : List PulledByte) → (begun_behind a u ≤ begun_behind a (u ++ v)) × (begun_behind a (u ++ v) ≤ begun_behind a u + goes v) × (goes v ≤ suc (begun_behind a (u ++ v))) × (begun_behind a u + goes v ≤ suc (begun_behind a (u ++ v)))
unfolding begun_behind goes
begun_append a [] [] = (omega arith, omega arith, omega arith, omega arith)
begun_append a [] (b ∷ bs) = let one : cond (follows a b) 0 1 ≤ 1 = most (follows a b) in (omega arith, omega arith, omega arith, omega arith)
  where
    most : (x : Bool) → cond x 0 1 ≤ 1
    most true = omega arith
    most false = omega arith
begun_append a (b ∷ bs) v = let ih = begun_append b bs v in (omega (arith, ih.0), omega (arith, ih.1), omega (arith, ih.2), omega (arith, ih.3))

pub goes_append : (u v : List PulledByte) → goes (u ++ v) ≤ goes u + goes v
unfolding goes
goes_append [] v = omega arith
goes_append (a ∷ rest) v = omega (arith, (begun_append a rest v).1)

pub goes_left : (u v : List PulledByte) → goes u ≤ goes (u ++ v)
unfolding goes
goes_left [] v = omega arith
goes_left (a ∷ rest) v = omega (arith, (begun_append a rest v).0)

pub goes_right : (u v : List PulledByte) → goes v ≤ goes (u ++ v)
unfolding goes
goes_right [] v = omega arith
goes_right (a ∷ rest) v = (begun_append a rest v).2

pub goes_parts : (u v : List PulledByte) → goes u + goes v ≤ suc (goes (u ++ v))
unfolding goes
goes_parts [] v = omega arith
goes_parts (a ∷ rest) v = omega (arith, (begun_append a rest v).3)

-- A piece takes no more goes than all that it is part of.
pub goes_piece : (k n : ℕ) (l : List PulledByte) → goes (take n (drop k l)) ≤ goes l
goes_piece k n l =
    let behind : goes (drop k l) ≤ goes l = subst (λ (x : List PulledByte). goes (drop k l) ≤ goes x) (take-append-drop k l) (goes_right (take k l) (drop k l)) in
    let front : goes (take n (drop k l)) ≤ goes (drop k l) = subst (λ (x : List PulledByte). goes (take n (drop k l)) ≤ goes x) (take-append-drop n (drop k l)) (goes_left (take n (drop k l)) (drop n (drop k l))) in
    omega arith

-- The places of one segment: which one it is makes no difference.
pub bytes_append : (i : ℕ) (ps qs : List ℕ) → of_segment i (ps ++ qs) ≡ of_segment i ps ++ of_segment i qs
unfolding of_segment
bytes_append i [] qs = refl
bytes_append i (p ∷ ps) qs = ap (λ (l : List PulledByte). pulled_byte i p ∷ l) (bytes_append i ps qs)

pub length_bytes : (i : ℕ) (ps : List ℕ) → length (of_segment i ps) ≡ length ps
unfolding of_segment
length_bytes i [] = refl
length_bytes i (p ∷ ps) = ap suc (length_bytes i ps)

pub follows_on : (i p q : ℕ) → follows (pulled_byte i p) (pulled_byte i q) ≡ eqb (suc p) q
unfolding follows
follows_on i p q = rw (eq-eqb i i refl)

begun_any : (i j p : ℕ) (ps : List ℕ) → begun_behind (pulled_byte i p) (of_segment i ps) ≡ begun_behind (pulled_byte j p) (of_segment j ps)
unfolding begun_behind of_segment
begun_any i j p [] = refl
begun_any i j p (q ∷ ps) = rw (follows_on i p q, follows_on j p q, begun_any i j q ps)

pub goes_any : (i j : ℕ) (ps : List ℕ) → goes (of_segment i ps) ≡ goes (of_segment j ps)
unfolding goes of_segment
goes_any i j [] = refl
goes_any i j (p ∷ ps) = ap suc (begun_any i j p ps)

-- A run of places takes one go.
begun_from : (i k n : ℕ) → begun_behind (pulled_byte i k) (of_segment i (from (suc k) n)) ≡ 0
unfolding begun_behind of_segment from
begun_from i k zero = refl
begun_from i k (suc n) = rw (follows_on i k (suc k), eq-eqb (suc k) (suc k) refl) (omega (arith, begun_from i (suc k) n))

pub goes_from : (i k n : ℕ) → goes (of_segment i (from k n)) ≤ 1
unfolding goes of_segment from
goes_from i k zero = omega arith
goes_from i k (suc n) = omega (arith, begun_from i k n)

-- The base: a go for each gap.
pub goes_gaps : (i a m : ℕ) (cs : List Run) → goes (of_segment i (places (gaps a m cs))) ≤ suc (length cs)
unfolding places gaps
goes_gaps i a m [] = rw append-nil (goes_from i a (m - a))
goes_gaps i a m (c ∷ cs) =
    rw bytes_append (omega (arith, goes_append (of_segment i (from a (c.at - a))) (of_segment i (places (gaps (c.at + rounded_up c.length) m cs))), goes_from i a (c.at - a), goes_gaps i (c.at + rounded_up c.length) m cs))

-- No byte of u is followed by the first of v.
abbrev Begins : PulledByte → List PulledByte → Type 0
Begins a [] = Unit {0}
Begins a (b ∷ bs) = follows a b ≡ false

unfoldable Parted : List PulledByte → List PulledByte → Type 0
Parted [] v = Unit {0}
Parted (a ∷ u) v = Begins a v × Parted u v

begun_first : (a : PulledByte) (v : List PulledByte) → Begins a v → begun_behind a v ≡ goes v
unfolding begun_behind goes
begun_first a [] e = refl
begun_first a (b ∷ bs) e = rw e (omega arith)

begun_parted : (a : PulledByte) (u v : List PulledByte) → Begins a v → Parted u v → begun_behind a (u ++ v) ≡ begun_behind a u + goes v
unfolding begun_behind Parted
begun_parted a [] v e p = begun_first a v e ∙ omega arith
begun_parted a (b ∷ bs) v e p = omega (arith, begun_parted b bs v p.0 p.1)

-- Their goes add up.
goes_parted : (u v : List PulledByte) → Parted u v → goes (u ++ v) ≡ goes u + goes v
unfolding goes Parted
goes_parted [] v p = omega arith
goes_parted (a ∷ u) v p = omega (arith, begun_parted a u v p.0 p.1)

-- Bytes of segments from i on.
unfoldable pub SegmentsFrom : ℕ → List PulledByte → Type 0
SegmentsFrom i [] = Unit {0}
SegmentsFrom i (a ∷ rest) = (i ≤ a.segment) × SegmentsFrom i rest

pub segments_none : (i : ℕ) → SegmentsFrom i []
unfolding SegmentsFrom
segments_none i = tt

pub segments_take : (i n : ℕ) (l : List PulledByte) → SegmentsFrom i l → SegmentsFrom i (take n l)
unfolding SegmentsFrom
segments_take i zero l h = tt
segments_take i (suc n) [] h = tt
segments_take i (suc n) (a ∷ l) h = (h.0, segments_take i n l h.1)

segments_append : (i j : ℕ) (ps : List ℕ) (v : List PulledByte) → i ≤ j → SegmentsFrom i v → SegmentsFrom i (of_segment j ps ++ v)
unfolding SegmentsFrom of_segment
segments_append i j [] v h g = g
segments_append i j (p ∷ ps) v h g = (h, segments_append i j ps v h g)

pub segments_all : (i j : ℕ) (pss : List (List ℕ)) → i ≤ j → SegmentsFrom i (pulled_bytes j pss)
unfolding SegmentsFrom pulled_bytes
segments_all i j [] h = tt
segments_all i j (ps ∷ pss) h = segments_append i j ps (pulled_bytes (suc j) pss) h (segments_all i (suc j) pss (omega arith))

-- Bytes of different segments are never in one run.
begins_segment : (i p : ℕ) (v : List PulledByte) → SegmentsFrom (suc i) v → Begins (pulled_byte i p) v
unfolding SegmentsFrom follows
begins_segment i p [] h = tt
begins_segment i p (b ∷ bs) h = rw (ne_eqb i b.segment (omega (arith, h.0)))

parted_segment : (i : ℕ) (ps : List ℕ) (v : List PulledByte) → SegmentsFrom (suc i) v → Parted (of_segment i ps) v
unfolding Parted of_segment
parted_segment i [] v h = tt
parted_segment i (p ∷ ps) v h = (begins_segment i p v h, parted_segment i ps v h)

pub goes_segment : (i : ℕ) (ps : List ℕ) (v : List PulledByte) → SegmentsFrom (suc i) v → goes (of_segment i ps ++ v) ≡ goes (of_segment i ps) + goes v
goes_segment i ps v h = goes_parted (of_segment i ps) v (parted_segment i ps v h)

-- Nor are bytes of one segment on both sides of a place that is left out.
begins_far : (i p q : ℕ) (qs : List ℕ) → p < q → NotBelow (suc q) qs → Begins (pulled_byte i p) (of_segment i qs)
unfolding of_segment NotBelow
begins_far i p q [] h a = tt
begins_far i p q (r ∷ rs) h a = follows_on i p r ∙ ne_eqb (suc p) r (omega (arith, a.0))

parted_far : (i q : ℕ) (ps qs : List ℕ) → Below q ps → NotBelow (suc q) qs → Parted (of_segment i ps) (of_segment i qs)
unfolding Parted of_segment Below
parted_far i q [] qs b a = tt
parted_far i q (p ∷ ps) qs b a = (begins_far i p q qs b.0 a, parted_far i q ps qs b.1 a)

not_below_take : (q n : ℕ) (ps : List ℕ) → NotBelow q ps → NotBelow q (take n ps)
unfolding NotBelow
not_below_take q zero ps h = tt
not_below_take q (suc n) [] h = tt
not_below_take q (suc n) (p ∷ ps) h = (h.0, not_below_take q n ps h.1)

-- A run of places takes one go.
pub goes_one : (i k n : ℕ) → 0 < n → goes (of_segment i (from k n)) ≡ 1
unfolding goes of_segment from
goes_one i k zero h = absurd (omega arith)
goes_one i k (suc n) h = omega (arith, begun_from i k n)

take_from : (k n m : ℕ) (ps : List ℕ) → n ≤ m → take n (from k m ++ ps) ≡ from k n
take_from k n m ps h =
    let e : m ≡ n + (m - n) = omega arith in
    ap (λ (x : ℕ). take n (from k x ++ ps)) e ∙ rw (from_add k n (m - n), append_assoc) (take_at (from k n) _ n (length_from k n))

take_past : (k n m : ℕ) (ps : List ℕ) → m ≤ n → take n (from k m ++ ps) ≡ from k m ++ take (n - m) ps
take_past k n m ps h =
    let e : n ≡ m + (n - m) = omega arith in
    ap (λ (x : ℕ). take x (from k m ++ ps)) e
    ∙ take-add m (n - m) (from k m ++ ps)
    ∙ rw (take_at (from k m) ps m (length_from k m), drop_at (from k m) ps m (length_from k m))

-- Bytes of one segment that begin a run which a jump ends: m of it are one go, and then come those behind.
pub goes_gap : (i : ℕ) (all : List ℕ) (k n m : ℕ) (r : Run) → GapRun all k r → m ≡ min r.length n → 0 < m → goes (of_segment i (take n (drop k all))) ≡ 1 + goes (of_segment i (take (n - m) (drop (k + m) all)))
unfolding of_segment goes
goes_gap i all k n m r g e h = by (leb n r.length) refl
  where
    by : (b : Bool) → leb n r.length ≡ b → goes (of_segment i (take n (drop k all))) ≡ 1 + goes (of_segment i (take (n - m) (drop (k + m) all)))
    by true t =
        let le = leb-true n r.length t in
        let none : n - m ≡ 0 = omega arith in
        rw (g.seeks.here, none, take_from r.at n r.length (drop (k + r.length) all) le) (goes_one i r.at n (omega arith))
    by false t =
        let gt = leb-false n r.length t in
        let whole : m ≡ r.length = omega arith in
        rw (g.seeks.here, whole, take_past r.at n r.length (drop (k + r.length) all) (omega arith), bytes_append)
        (goes_parted _ _ (parted_far i (r.at + r.length) _ _ (below_from (r.at + r.length) r.at r.length (omega arith)) (not_below_take _ (n - r.length) _ g.jump))
        ∙ ap (λ (x : ℕ). x + goes (of_segment i (take (n - r.length) (drop (k + r.length) all)))) (goes_one i r.at r.length g.seeks.some))
