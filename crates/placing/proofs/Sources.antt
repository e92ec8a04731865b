-- Laws about the places of a message that passed its checks, and about bytes put there run by run.
-- Assumes nothing.
use mathlib.Core.Path.{◌≡◌, refl, sym, ap, ◌∙◌}
use mathlib.Core.Bool.{Bool, true, false, cond}
use mathlib.Core.List.{List, [], ◌∷◌, ◌++◌, append_assoc, append-nil}
use Prim.Native.Nat.{ℕ, zero, suc, ◌+◌, ◌-◌, ◌≤◌, ◌<◌, min}
use native.Mathlib.Omega.{arith}
use lib.ListN.{length, take, drop, replicate, length-append, length-take, length-drop, length-replicate, replicate-append-replicate}
use lib.Seq.{take-add, take-length, drop-drop, drop_at, length-take-le}
use lib.Dec.{ltb, eqb}
use borrow.Author.Tests.{ltb-true, ltb-false, eqb-true, eqb-false}
use Rattle.wire.specs.Wire.{stored}
use Rattle.wire.specs.declared.ReadSegment.{ReadSegment}
use Rattle.layout.specs.Places.{from, scatter}
use Rattle.layout.specs.Layout.{run, other_chunks, rounded_up, rounded_total, stands, places, gaps, paddings, padding_places, base_places, message_length}
use Rattle.layout.specs.Internal.Walks.{total_length, joined_run, ended_length}
use Rattle.layout.proofs.Remaining.{remaining, Seeks}
use Rattle.layout.specs.declared.Run.{Run}
use Rattle.layout.proofs.Scatter.{scatter_append, scatter_first, scatter_from, scatter_run, scatter_none, length_from, length_places}
use Rattle.layout.proofs.ChunkWalk.{Walk, headed, Step, joins, opens, ends, step, at_first, Last, nothing, itself, last}
use Rattle.layout.proofs.ChunksStand.{rounded_none}
use Rattle.layout.proofs.Apart.{Below, below_append, below_from}
use Rattle.layout.proofs.Placed.{Placed, all_placed, length_base}
use Rattle.layout.proofs.RunWalk.{GapRun, GapSought, gap_advance, gap_here, gap_next, gap_within}
use Rattle.placing.specs.Goes.{of_segment, goes}
use Rattle.placing.specs.Internal.Sources.{source_places}
use Rattle.placing.proofs.Goes.{goes_gap, goes_length, length_bytes}

within_gaps : (n start most : ℕ) (cs : List Run) → start ≤ most → Placed start most cs → most + rounded_total cs ≤ n → Below n (places (gaps start n cs))
unfolding Placed rounded_total places gaps Below
within_gaps n start most [] s p h = below_append n (from start (n - start)) [] (below_from n start (n - start) (omega arith)) tt
within_gaps n start most (c ∷ cs) s p h =
    below_append n (from start (c.at - start)) _ (below_from n start (c.at - start) (omega arith))
    (within_gaps n (c.at + rounded_up c.length) (most + rounded_up c.length) cs (omega arith) p.2 (omega arith))

pub within_base : (base : ℕ) (cs : List Run) → stands base 0 0 cs ≡ true → Below (message_length base cs) (base_places base cs)
unfolding base_places
within_base base cs e = within_gaps _ 0 base cs (omega arith) (all_placed base cs e) (omega arith)

-- How many places there are in all.
pub length_based : (base : ℕ) (cs : List Run) → stands base 0 0 cs ≡ true → length (source_places true base cs) ≡ base + total_length cs
length_based base cs e = rw (length-append, length_base base cs e, length_places cs)

-- The run that a byte begins lies in the buffer.
pub within_drop : (n k : ℕ) (ps : List ℕ) → Below n ps → Below n (drop k ps)
unfolding Below
within_drop n zero ps w = w
within_drop n (suc k) [] w = tt
within_drop n (suc k) (p ∷ ps) w = within_drop n k ps w.1

pub from_within : (n k l : ℕ) (ps : List ℕ) → 0 < l → Below n (from k l ++ ps) → k + l ≤ n
unfolding Below from
from_within n k zero ps h w = absurd (omega arith)
from_within n k (suc zero) ps h w = omega (arith, w.0)
from_within n k (suc (suc l)) ps h w = omega (arith, from_within n (suc k) (suc l) ps (omega arith) w.1)

pub seek_within : (n k : ℕ) (r : Run) (all : List ℕ) → Seeks all k r → Below n all → r.at + r.length ≤ n
seek_within n k r all s w = from_within n r.at r.length (drop (k + r.length) all) s.some (rw s.here at (within_drop n k all w))

-- m bytes more of a piece, stored from the first place of the run that they begin.
placed_more : (all : List ℕ) (count j m : ℕ) (r : Run) (piece before out after : List ℕ) → Seeks all (count + j) r → j + m ≤ length piece → m ≤ r.length →
    out ≡ scatter (drop count all) (take j piece) before → after ≡ stored out r.at (take m (drop j piece)) →
    after ≡ scatter (drop count all) (take (j + m) piece) before
placed_more all count j m r piece before out after s fits most now then =
    let long : length (take m (drop j piece)) ≡ m = length-take-le m (drop j piece) (omega (arith, length-drop j piece)) in
    let front : length (take j piece) ≡ j = length-take-le j piece (omega arith) in
    then ∙ rw (take-add j m piece, scatter_append, front, drop-drop, ← now, s.here) (sym (scatter_run r.at r.length _ (take m (drop j piece)) out (omega arith)))

-- The paddings of one chunk more.
paddings_next : (cs : List Run) (c : Run) → paddings (cs ++ (c ∷ [])) ≡ paddings cs ++ (run (c.at + c.length) (rounded_up c.length - c.length) ∷ [])
unfolding paddings
paddings_next [] c = refl
paddings_next (d ∷ cs) c = ap (λ (rs : List Run). run (d.at + d.length) (rounded_up d.length - d.length) ∷ rs) (paddings_next cs c)

places_next : (rs : List Run) (r : Run) → places (rs ++ (r ∷ [])) ≡ places rs ++ from r.at r.length
unfolding places
places_next [] r = rw append-nil
places_next (d ∷ rs) r = rw (places_next rs r) (sym (append_assoc (from d.at d.length) (places rs) (from r.at r.length)))

-- Zeros at places and then at a run.
zeros_next : (ps out : List ℕ) (k n : ℕ) → scatter (ps ++ from k n) (replicate (length (ps ++ from k n)) 0) out ≡ stored (scatter ps (replicate (length ps) 0) out) k (replicate n 0)
zeros_next ps out k n =
    let long : length (ps ++ from k n) ≡ length ps + n = rw (length-append, length_from) in
    rw (long, ← replicate-append-replicate {A = ℕ} (length ps) n 0, scatter_append, scatter_first ps (from k n) (replicate (length ps) 0) out (rw length-replicate (omega arith)), length-replicate, drop_at ps (from k n) (length ps) refl)
    (ap (λ (m : ℕ). scatter (from k m) (replicate n 0) (scatter ps (replicate (length ps) 0) out)) (sym (length-replicate n 0)) ∙ scatter_from k (replicate n 0) (scatter ps (replicate (length ps) 0) out))

-- A chunk among others ends within the message, its padding too.
placed_there : (end most : ℕ) (ds rs : List Run) (c : Run) → Placed end most (ds ++ (c ∷ rs)) → c.at + rounded_up c.length ≤ most + rounded_total (ds ++ (c ∷ rs))
unfolding Placed rounded_total
placed_there end most [] rs c p = omega arith
placed_there end most (d ∷ ds) rs c p = omega (arith, placed_there (d.at + rounded_up d.length) (most + rounded_up d.length) ds rs c p.2)

chunk_within : (base : ℕ) (cs ds rs : List Run) (c : Run) → stands base 0 0 cs ≡ true → cs ≡ ds ++ (c ∷ rs) → c.at + rounded_up c.length ≤ message_length base cs
chunk_within base cs ds rs c s e = rw e (placed_there 0 base ds rs c (rw e at (all_placed base cs s)))

-- In a walk over a read list: the chunks before the one at hand.
pub record Parted (cs : List Run) (w : Run) (xs : List ReadSegment) : Type 0 where
  pub past : List Run
  pub all : cs ≡ past ++ remaining w xs

abbrev ended_parted : (cs past : List Run) (c w : Run) (xs : List ReadSegment) → cs ≡ past ++ (c ∷ remaining w xs) → Parted cs w xs
ended_parted cs past c w xs e = record { past = past ++ (c ∷ []); all = e ∙ sym (append_assoc past (c ∷ []) (remaining w xs)) }

module _ (base : ℕ) (cs : List Run) (w : Run) (stand : stands base 0 0 cs ≡ true) where
  -- The chunk at hand stands within the message.
  hand_within : (xs : List ReadSegment) → Walk w xs → Parted cs w xs → w.at ≤ message_length base cs
  hand_within xs k p = by (eqb w.at 0) refl
    where
      by : (b : Bool) → eqb w.at 0 ≡ b → w.at ≤ message_length base cs
      by true e = let z = eqb-true w.at 0 e in omega arith
      by false e =
          let h = headed w xs (eqb-false w.at 0 e) k.rising in
          let most = chunk_within base cs p.past h.rest (run w.at h.size) stand (rw h.is at p.all) in
          omega arith

  -- So does a chunk that a segment ends, with its padding, and the last one.
  pub ended_within : (x : ReadSegment) (xs : List ReadSegment) → Walk w (x ∷ xs) → Parted cs w (x ∷ xs) → w.at + rounded_up (ended_length w x) ≤ message_length base cs
  ended_within x xs k p = by (step w x xs k)
    where
      hand : ended_length w x ≡ 0 → w.at + rounded_up (ended_length w x) ≤ message_length base cs
      hand z = rw (z, rounded_none) (omega (arith, hand_within (x ∷ xs) k p))

      by : Step w x xs → w.at + rounded_up (ended_length w x) ≤ message_length base cs
      by (joins here z is) = hand z
      by (opens first z is h) = hand z
      by (ends z is h) = rw z (chunk_within base cs p.past (remaining (joined_run w x) xs) w stand (rw is at p.all))

  pub last_within : Walk w [] → Parted cs w [] → w.at + rounded_up w.length ≤ message_length base cs
  last_within k p = by (last w k)
    where
      by : Last w → w.at + rounded_up w.length ≤ message_length base cs
      by (nothing z is) = rw (z, rounded_none) (omega (arith, hand_within [] k p))
      by (itself is) = chunk_within base cs p.past [] w stand (rw is at p.all)

-- The chunks before the one at hand have their padding.
pub record Padded (cs : List Run) (w : Run) (xs : List ReadSegment) (before out : List ℕ) : Type 0 where
  pub parts : Parted cs w xs
  pub filled : out ≡ scatter (padding_places parts.past) (replicate (length (padding_places parts.past)) 0) before

pub padded_start : (xs : List ReadSegment) (out : List ℕ) → Padded (other_chunks xs) (run 0 0) xs out out
unfolding padding_places paddings places scatter
padded_start xs out = record { parts = record { past = []; all = rw (at_first xs) }; filled = refl }

-- With the padding of one chunk more.
padded_more : (cs past : List Run) (c : Run) (w : Run) (xs : List ReadSegment) (n : ℕ) (before out after : List ℕ) → cs ≡ past ++ (c ∷ remaining w xs) → n ≡ rounded_up c.length - c.length →
    out ≡ scatter (padding_places past) (replicate (length (padding_places past)) 0) before → after ≡ stored out (c.at + c.length) (replicate n 0) → Padded cs w xs before after
unfolding padding_places
padded_more cs past c w xs n before out after all e now then =
    record {
      parts = ended_parted cs past c w xs all;
      filled = then ∙ rw (paddings_next past c, places_next, now, e) (sym (zeros_next (places (paddings past)) before (c.at + c.length) (rounded_up c.length - c.length)));
    }

module _ (cs : List Run) (w : Run) (before out : List ℕ) where
  pub padded_next : (x : ReadSegment) (xs : List ReadSegment) → Walk w (x ∷ xs) → Padded cs w (x ∷ xs) before out → (n : ℕ) (after : List ℕ) → n ≡ rounded_up (ended_length w x) - ended_length w x → after ≡ stored out (w.at + ended_length w x) (replicate n 0) → Padded cs (joined_run w x) xs before after
  unfolding stored
  padded_next x xs k p n after e then = by (step w x xs k)
    where
      same : ended_length w x ≡ 0 → remaining w (x ∷ xs) ≡ remaining (joined_run w x) xs → Padded cs (joined_run w x) xs before after
      same z is =
          let none : n ≡ 0 = (let r = ap rounded_up z ∙ rounded_none in omega arith) in
          let kept : after ≡ out = then ∙ rw none in
          record { parts = record { past = p.parts.past; all = rw is at p.parts.all }; filled = kept ∙ p.filled }

      by : Step w x xs → Padded cs (joined_run w x) xs before after
      by (joins here z is) = same z is
      by (opens first z is h) = same z is
      by (ends z is h) = padded_more cs p.parts.past w (joined_run w x) xs n before out after (rw is at p.parts.all) (rw z at e) p.filled (rw z at then)

  pub padded_last : Walk w [] → Padded cs w [] before out → (n : ℕ) (after : List ℕ) → n ≡ rounded_up w.length - w.length → after ≡ stored out (w.at + w.length) (replicate n 0) → after ≡ scatter (padding_places cs) (replicate (length (padding_places cs)) 0) before
  unfolding stored other_chunks
  padded_last k p n after e then = by (last w k)
    where
      by : Last w → after ≡ scatter (padding_places cs) (replicate (length (padding_places cs)) 0) before
      by (nothing z is) =
          let none : n ≡ 0 = (let r = ap rounded_up z ∙ rounded_none in omega arith) in
          let all : cs ≡ p.parts.past = (rw is at p.parts.all) ∙ append-nil p.parts.past in
          then ∙ rw (none, all) p.filled
      by (itself is) =
          let made = padded_more cs p.parts.past w (run 0 0) [] n before out after ((rw is at p.parts.all) ∙ ap (λ (rs : List Run). p.parts.past ++ (w ∷ rs)) (sym (at_first []))) e p.filled then in
          let all : cs ≡ made.parts.past = made.parts.all ∙ ap (λ (rs : List Run). made.parts.past ++ rs) (at_first []) ∙ append-nil made.parts.past in
          rw all made.filled

-- An empty piece changes nothing.
pub placed_empty : (ps piece out : List ℕ) → length piece ≡ 0 → out ≡ scatter ps piece out
placed_empty ps [] out e = sym (scatter_none ps out)
placed_empty ps (b ∷ piece) out e = absurd (omega arith)

-- An empty piece takes no go.
pub piece_none : (i : ℕ) (ps piece : List ℕ) → length piece ≡ 0 → 0 ≡ goes (of_segment i (take (length piece) ps))
unfolding goes of_segment
piece_none i ps piece e = rw e

-- A piece of a segment has no more goes than bytes.
pub piece_goes_lem : (i k n : ℕ) (ps : List ℕ) → goes (of_segment i (take n (drop k ps))) ≤ n
piece_goes_lem i k n ps = let most : min n (length (drop k ps)) ≤ n = omega arith in omega (arith, goes_length (of_segment i (take n (drop k ps))), length_bytes i (take n (drop k ps)), length-take n (drop k ps))

-- What a step of `place_base` makes: m bytes of a piece, behind its first j, come to their own places in one go or none; where the piece has more bytes, the next one is sought.
pub record GapStep (all : List ℕ) (count j m place : ℕ) (piece before out : List ℕ) (g whole : ℕ) (Next : Type 0) : Type 0 where
  pub placed : (after : List ℕ) → after ≡ stored out place (take m (drop j piece)) → after ≡ scatter (drop count all) (take (j + m) piece) before
  pub counted : g + cond (eqb m 0) 0 1 + goes (of_segment 0 (take (length piece - (j + m)) (drop (count + (j + m)) all))) ≡ whole
  pub finished : j + m ≡ length piece → g + cond (eqb m 0) 0 1 ≡ whole
  pub next : j + m < length piece → Next

-- A step of `place_base`: the bytes of a piece that go before a segment, m of them behind its first j.
module _ (base : ℕ) (cs : List Run) (w : Run) (earlier : ℕ) (x : ReadSegment) (xs : List ReadSegment) (walk : Walk w (x ∷ xs)) (count j : ℕ) (s : GapSought base cs (count + j) earlier w (x ∷ xs)) (size : ℕ) (e : size ≡ rounded_up (ended_length w x)) (piece : List ℕ) (more : j < length piece) (m : ℕ) (share : m ≡ min (x.position - (count + j + (earlier + size))) (length piece - j)) where
  -- They begin a run, or there are none.
  gap_run : 0 < m → GapRun (base_places base cs) (count + j) (run (count + j + (earlier + size)) (x.position - (count + j + (earlier + size))))
  gap_run some = gap_here base cs (count + j) earlier w x xs walk s size e (omega arith)

  pub step_within : stands base 0 0 cs ≡ true → count + length piece ≤ base → count + j + (earlier + size) + m ≤ message_length base cs
  step_within stand low = by (ltb (count + j + (earlier + size)) x.position) refl
    where
      by : (b : Bool) → ltb (count + j + (earlier + size)) x.position ≡ b → count + j + (earlier + size) + m ≤ message_length base cs
      by true t =
          let lt = ltb-true _ _ t in
          let ends_in = seek_within (message_length base cs) _ _ _ (gap_here base cs (count + j) earlier w x xs walk s size e lt).seeks (within_base base cs stand) in
          omega arith
      by false t =
          let past = ltb-false (count + j + (earlier + size)) x.position t in
          let low-enough = gap_within base cs (count + j) earlier w x xs walk s size e past (omega arith) in
          omega arith

  step_placed : (before out after : List ℕ) → out ≡ scatter (drop count (base_places base cs)) (take j piece) before →
      after ≡ stored out (count + j + (earlier + size)) (take m (drop j piece)) → after ≡ scatter (drop count (base_places base cs)) (take (j + m) piece) before
  unfolding stored
  step_placed before out after now then = by (eqb m 0) refl
    where
      by : (b : Bool) → eqb m 0 ≡ b → after ≡ scatter (drop count (base_places base cs)) (take (j + m) piece) before
      by true z =
          let none = eqb-true m 0 z in
          let same : j + m ≡ j = omega arith in
          then ∙ rw (same, none) now
      by false z = let n = eqb-false m 0 z in placed_more _ count j m _ piece before out after (gap_run (omega arith)).seeks (omega arith) (omega arith) now then

  step_counted : (g whole : ℕ) → g + goes (of_segment 0 (take (length piece - j) (drop (count + j) (base_places base cs)))) ≡ whole →
      g + cond (eqb m 0) 0 1 + goes (of_segment 0 (take (length piece - (j + m)) (drop (count + (j + m)) (base_places base cs)))) ≡ whole
  step_counted g whole now = by (eqb m 0) refl
    where
      rest : goes (of_segment 0 (take (length piece - j - m) (drop (count + j + m) (base_places base cs)))) ≡ goes (of_segment 0 (take (length piece - (j + m)) (drop (count + (j + m)) (base_places base cs))))
      rest =
          let a : length piece - j - m ≡ length piece - (j + m) = omega arith in
          let b : count + j + m ≡ count + (j + m) = omega arith in
          rw (a, b)

      by : (b : Bool) → eqb m 0 ≡ b → g + cond b 0 1 + goes (of_segment 0 (take (length piece - (j + m)) (drop (count + (j + m)) (base_places base cs)))) ≡ whole
      by true z =
          let none = eqb-true m 0 z in
          let same : j + m ≡ j = omega arith in
          rw same (omega arith)
      by false z =
          let n = eqb-false m 0 z in
          omega (arith, goes_gap 0 (base_places base cs) (count + j) (length piece - j) m _ (gap_run (omega arith)) share (omega arith), rest)

  step_finished : (g whole : ℕ) → g + goes (of_segment 0 (take (length piece - j) (drop (count + j) (base_places base cs)))) ≡ whole → j + m ≡ length piece → g + cond (eqb m 0) 0 1 ≡ whole
  unfolding goes of_segment
  step_finished g whole now all =
      let none : length piece - (j + m) ≡ 0 = omega arith in
      let counted : g + cond (eqb m 0) 0 1 + goes (of_segment 0 (take 0 (drop (count + (j + m)) (base_places base cs)))) ≡ whole = rw none at (step_counted g whole now) in
      omega arith

  step_next : j + m < length piece → GapSought base cs (count + (j + m)) (earlier + size) (joined_run w x) xs
  step_next further =
      let same : count + j + m ≡ count + (j + m) = omega arith in
      rw same at (gap_next base cs (count + j + m) earlier w x xs walk (gap_advance base cs (count + j) earlier m w (x ∷ xs) s) size e (omega arith))

  -- All of it together.
  pub gap_step : (before out : List ℕ) (g whole : ℕ) → out ≡ scatter (drop count (base_places base cs)) (take j piece) before →
      g + goes (of_segment 0 (take (length piece - j) (drop (count + j) (base_places base cs)))) ≡ whole →
      GapStep (base_places base cs) count j m (count + j + (earlier + size)) piece before out g whole (GapSought base cs (count + (j + m)) (earlier + size) (joined_run w x) xs)
  gap_step before out g whole now count-now = record { placed = λ after. step_placed before out after now; counted = step_counted g whole count-now; finished = step_finished g whole count-now; next = step_next }

-- The last bytes: behind all segments they are one run.
module _ (all : List ℕ) (count j : ℕ) (r : Run) (piece : List ℕ) (s : GapRun all (count + j) r) (more : j < length piece) (most : length piece - j ≤ r.length) where
  pub last_placed : (before out after : List ℕ) → out ≡ scatter (drop count all) (take j piece) before → after ≡ stored out r.at (take (length piece - j) (drop j piece)) → after ≡ scatter (drop count all) piece before
  last_placed before out after now then =
      let whole : j + (length piece - j) ≡ length piece = omega arith in
      placed_more all count j (length piece - j) r piece before out after s.seeks (omega arith) most now then ∙ rw (whole, take-length piece)

  pub last_counted : (g whole : ℕ) → g + goes (of_segment 0 (take (length piece - j) (drop (count + j) all))) ≡ whole → g + 1 ≡ whole
  unfolding of_segment goes
  last_counted g whole now =
      let none : length piece - j - (length piece - j) ≡ 0 = omega arith in
      let one : goes (of_segment 0 (take (length piece - j) (drop (count + j) all))) ≡ 1 = goes_gap 0 all (count + j) (length piece - j) (length piece - j) r s (omega arith) (omega arith) ∙ rw none in
      omega arith

-- What is left to say of numbers.
pub fits_in : (place message same room kept : ℕ) → place ≤ message → message ≡ same → same ≤ room → kept ≡ room → place ≤ kept
fits_in place message same room kept a b c d = omega arith

pub one_more : (g rest whole r m : ℕ) → g + rest ≡ whole → whole ≤ 1048576 → r ≡ cond (eqb m 0) 0 1 → g + r < 4294967296
one_more g rest whole r m a b e = rw e (by (eqb m 0))
  where
    by : (x : Bool) → g + cond x 0 1 < 4294967296
    by true = omega arith
    by false = omega arith

pub last_fits : (count j earlier size pieces base message same room kept : ℕ) → count + j + (earlier + size) + (base - (count + j)) ≤ message → count + pieces ≤ base → j < pieces → message ≡ same → same ≤ room → kept ≡ room → count + j + earlier + size + (pieces - j) ≤ kept
last_fits count j earlier size pieces base message same room kept a b c d e f = omega arith

pub not_all : (j m far size : ℕ) → m ≡ min far (size - j) → j < size → (j + m ≡ size → ⊥) → j + m < size
not_all j m far size e h n = omega arith
