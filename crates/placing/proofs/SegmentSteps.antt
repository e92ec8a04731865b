-- What `place` goes by: bytes of a piece, segment by segment.
-- Assumes nothing.
use mathlib.Core.Path.{◌≡◌, refl, sym, ap, subst, ◌∙◌}
use mathlib.Core.Bool.{Bool, true, false, cond}
use mathlib.Core.List.{List, [], ◌∷◌, ◌++◌}
use Prim.Native.Nat.{ℕ, suc, ◌+◌, ◌-◌, ◌*◌, ◌≤◌, ◌<◌, min}
use native.Mathlib.Nat.{add-zero, sub-zero}
use Rattle.std.proofs.lemmas.List.{take_all}
use native.Mathlib.Omega.{arith}
use lib.ListN.{length, take, drop, length-drop, take-append-drop}
use lib.Seq.{take-length, take-add, take_at, drop_at, drop-drop, length-take-le}
use lib.Dec.{leb, eqb}
use borrow.Author.Tests.{leb-true, leb-false, eqb-true, eqb-false, eq-eqb, ne_eqb}
use Rattle.wire.specs.declared.ReadSegment.{ReadSegment}
use Rattle.read_order.specs.ReadOrder.{never_falls, is_sorted}
use Rattle.read_order.proofs.Rising.{rises}
use Rattle.layout.specs.Places.{scatter}
use Rattle.layout.specs.Layout.{run, other_chunks, message_length}
use Rattle.layout.specs.Internal.Walks.{read_length}
use Rattle.layout.specs.declared.Run.{Run}
use Rattle.layout.proofs.Scatter.{scatter_append, scatter_first, scatter_none}
use Rattle.placing.specs.Segments.{dealt, position_length}
use Rattle.placing.specs.Goes.{PulledByte, of_segment, pulled_bytes, goes}
use Rattle.placing.specs.Internal.Sources.{read_places, part_places, PartWithin, LayoutChecked, BasePulled}
use Rattle.placing.proofs.Goes.{goes_any, goes_segment, length_bytes, SegmentsFrom, segments_none, segments_take}
use Rattle.placing.proofs.Segments.{read_append, part_within, length_of_part, part_places_lem, part_bytes, part_last}

-- The same, said of the whole list.
pub record PartAt (base : ℕ) (reads before : List ReadSegment) (i : ℕ) (x : ReadSegment) (left m : ℕ) : Type 0 where
  pub within : (room : ℕ) → message_length base (other_chunks reads) ≤ room → PartWithin base room x.position (position_length x.position before + left) m
  pub long : length (part_places base (other_chunks reads) x.position (position_length x.position before + left) m) ≡ m
  pub in_places : drop (read_length before + left) (read_places base reads) ≡ part_places base (other_chunks reads) x.position (position_length x.position before + left) m ++ drop (read_length before + left + m) (read_places base reads)
  pub of_bytes : drop (read_length before + left) (pulled_bytes 0 (dealt reads (read_places base reads))) ≡ of_segment i (part_places base (other_chunks reads) x.position (position_length x.position before + left) m) ++ drop (read_length before + left + m) (pulled_bytes 0 (dealt reads (read_places base reads)))
  pub last : left + m ≡ x.target.length → SegmentsFrom (suc i) (drop (read_length before + left + m) (pulled_bytes 0 (dealt reads (read_places base reads))))

part_among : (base : ℕ) (before : List ReadSegment) (x : ReadSegment) (behind : List ReadSegment) → LayoutChecked base (before ++ (x ∷ behind)) → BasePulled base (before ++ (x ∷ behind)) → (left m : ℕ) → 0 < m → left + m ≤ x.target.length → PartAt base (before ++ (x ∷ behind)) before (length before) x left m
part_among base before x behind c p left m some most =
    record {
      within = part_within base before x behind c p left m some most;
      long = length_of_part base before x behind c p left m some most;
      in_places = part_places_lem base before x behind c p left m some most;
      of_bytes = part_bytes base before x behind c p left m some most;
      last = part_last base before x behind c p left m some most;
    }

-- Segment i of a list is x.
pub record SegmentAt (reads : List ReadSegment) (i : ℕ) (x : ReadSegment) : Type 0 where
  pub is : reads ≡ take i reads ++ (x ∷ drop (i + 1) reads)
  pub here : length (take i reads) ≡ i
  pub next : take (i + 1) reads ≡ take i reads ++ (x ∷ [])

segment_at_lem : (reads : List ReadSegment) (i : ℕ) (x : ReadSegment) → i < length reads → drop i reads ≡ x ∷ drop (i + 1) reads → SegmentAt reads i x
segment_at_lem reads i x h e =
    record {
      is = sym (take-append-drop i reads) ∙ ap (λ (l : List ReadSegment). take i reads ++ l) e;
      here = length-take-le i reads (omega arith);
      next = take-add i 1 reads ∙ rw e;
    }

part_at : (base : ℕ) (reads : List ReadSegment) (i : ℕ) (x : ReadSegment) → LayoutChecked base reads → BasePulled base reads → SegmentAt reads i x → (left m : ℕ) → 0 < m → left + m ≤ x.target.length → PartAt base reads (take i reads) i x left m
part_at base reads i x c p a left m some most =
    subst (λ (l : List ReadSegment). PartAt base l (take i reads) i x left m) (sym a.is)
    (subst (λ (k : ℕ). PartAt base (take i reads ++ (x ∷ drop (i + 1) reads)) (take i reads) k x left m) a.here
    (part_among base (take i reads) x (drop (i + 1) reads) (subst (LayoutChecked base) a.is c) (subst (BasePulled base) a.is p) left m some most))

-- A step of `place`: m bytes of a piece, behind its first j, go to their places.
module _ (base : ℕ) (reads before : List ReadSegment) (i : ℕ) (x : ReadSegment) (left m : ℕ) (a : PartAt base reads before i x left m) (count j : ℕ) (here : count + j ≡ read_length before + left) (piece : List ℕ) (more : j < length piece) (some : 0 < m) (share : m ≡ min (x.target.length - left) (length piece - j)) where
  abbrev whole_bytes : List PulledByte
  whole_bytes = pulled_bytes 0 (dealt reads (read_places base reads))

  part_placed : (start out after : List ℕ) → out ≡ scatter (drop count (read_places base reads)) (take j piece) start → after ≡ scatter (part_places base (other_chunks reads) x.position (position_length x.position before + left) m) (take m (drop j piece)) out →
      after ≡ scatter (drop count (read_places base reads)) (take (j + m) piece) start
  part_placed start out after now then =
      let front : length (take j piece) ≡ j = length-take-le j piece (omega arith) in
      let fits : length (take m (drop j piece)) ≡ m = length-take-le m (drop j piece) (omega (arith, length-drop j piece)) in
      then ∙ rw (take-add j m piece, scatter_append, front, drop-drop, here, ← now, a.in_places) (sym (scatter_first _ _ (take m (drop j piece)) out (rw (fits, a.long) (omega arith))))

  part_counted : (g whole r : ℕ) → g + goes (take (length piece - j) (drop (count + j) whole_bytes)) ≡ whole → r ≡ goes (of_segment 0 (part_places base (other_chunks reads) x.position (position_length x.position before + left) m)) →
      g + r + goes (take (length piece - (j + m)) (drop (count + (j + m)) whole_bytes)) ≡ whole
  part_counted g whole r now told =
      let ps = part_places base (other_chunks reads) x.position (position_length x.position before + left) m in
      let rest = drop (read_length before + left + m) whole_bytes in
      let long : length (of_segment i ps) ≡ m = length_bytes i ps ∙ a.long in
      let sum : length piece - j ≡ m + (length piece - (j + m)) = omega arith in
      let on : count + (j + m) ≡ read_length before + left + m = omega (arith, here) in
      let cut : take (length piece - j) (drop (count + j) whole_bytes) ≡ of_segment i ps ++ take (length piece - (j + m)) rest =
      rw (here, a.of_bytes, sum, take-add m (length piece - (j + m)), take_at (of_segment i ps) rest m long, drop_at (of_segment i ps) rest m long) in
      let parts : goes (take (length piece - j) (drop (count + j) whole_bytes)) ≡ goes (of_segment i ps) + goes (take (length piece - (j + m)) rest) = ap goes cut ∙ goes_segment i ps _ others in
      rw on (omega (arith, parts, goes_any i 0 ps))
    where
      others : SegmentsFrom (suc i) (take (length piece - (j + m)) (drop (read_length before + left + m) whole_bytes))
      others = by (leb (length piece - j) (x.target.length - left)) refl
        where
          by : (b : Bool) → leb (length piece - j) (x.target.length - left) ≡ b → SegmentsFrom (suc i) (take (length piece - (j + m)) (drop (read_length before + left + m) whole_bytes))
          by true t =
              let le = leb-true (length piece - j) (x.target.length - left) t in
              let none : length piece - (j + m) ≡ 0 = omega arith in
              rw none (segments_none (suc i))
          by false t =
              let gt = leb-false (length piece - j) (x.target.length - left) t in
              segments_take (suc i) (length piece - (j + m)) _ (a.last (omega arith))

-- The chunk at hand before segment i: how many bytes its position has so far. Behind it there are none.
pub record Hand (reads : List ReadSegment) (i : ℕ) (w : Run) : Type 0 where
  pub size : w.length ≡ position_length w.at (take i reads)
  pub above : (q : ℕ) → w.at < q → position_length q (take i reads) ≡ 0
  pub rising : never_falls w.at (drop i reads) ≡ true

hand_start : (reads : List ReadSegment) → is_sorted reads ≡ true → Hand reads 0 (run 0 0)
unfolding position_length
hand_start reads e = record { size = refl; above = λ q h. refl; rising = e }

length_next : (p : ℕ) (xs : List ReadSegment) (x : ReadSegment) → position_length p (xs ++ (x ∷ [])) ≡ position_length p xs + cond (eqb x.position p) x.target.length 0
unfolding position_length
length_next p [] x = omega arith
length_next p (y ∷ ys) x = omega (arith, length_next p ys x)

module _ (reads : List ReadSegment) (i : ℕ) (w : Run) (x : ReadSegment) (rest : drop i reads ≡ x ∷ drop (i + 1) reads) (h : Hand reads i w) where
  up : w.at ≤ x.position
  up = leb-true w.at x.position (rises w.at x (drop (i + 1) reads) (rw rest at h.rising)).above

  hand_before : (b : ℕ) → b ≡ cond (eqb w.at x.position) w.length 0 → b ≡ position_length x.position (take i reads)
  hand_before b e = by (eqb w.at x.position) refl
    where
      by : (t : Bool) → eqb w.at x.position ≡ t → b ≡ position_length x.position (take i reads)
      by true t = e ∙ rw t (h.size ∙ ap (λ (p : ℕ). position_length p (take i reads)) (eqb-true w.at x.position t))
      by false t = let n = eqb-false w.at x.position t in let le = up in e ∙ rw t (sym (h.above x.position (omega arith)))

  hand_next : SegmentAt reads i x → (b : ℕ) → b ≡ position_length x.position (take i reads) → Hand reads (i + 1) (run x.position (b + x.target.length))
  hand_next a b e =
      record {
        size = rw (a.next, length_next x.position (take i reads) x, eq-eqb x.position x.position refl, e);
        above = λ q lt. (let le = up in rw (a.next, length_next q (take i reads) x, ne_eqb x.position q (omega arith)) (omega (arith, h.above q (omega arith))));
        rising = (rises w.at x (drop (i + 1) reads) (rw rest at h.rising)).onward;
      }

read_next : (reads : List ReadSegment) (i : ℕ) (x : ReadSegment) → SegmentAt reads i x → read_length (take (i + 1) reads) ≡ read_length (take i reads) + x.target.length
unfolding read_length
read_next reads i x a = rw (a.next, read_append) (omega arith)

start_sum : (reads : List ReadSegment) (count : ℕ) → count + 0 ≡ read_length (take 0 reads) + count
unfolding read_length
start_sum reads count = omega arith

-- What is left to say of numbers.
part_length : (j m : ℕ) (piece : List ℕ) → j + m ≤ length piece → (take (j + m - j) (drop j piece) ≡ take m (drop j piece)) × (length (take m (drop j piece)) ≡ m)
part_length j m piece h = let e : j + m - j ≡ m = omega arith in (rw e, length-take-le m (drop j piece) (omega (arith, length-drop j piece)))

finished : (g whole j : ℕ) (piece : List ℕ) (k : ℕ) (all : List PulledByte) → length piece ≤ j → g + goes (take (length piece - j) (drop k all)) ≡ whole → g ≡ whole
unfolding goes
finished g whole j piece k all h e =
    let none : length piece - j ≡ 0 = omega arith in
    let last : g + goes (take 0 (drop k all)) ≡ whole = rw none at e in
    omega arith

-- The bytes of all segments.
abbrev pub bytes_of : ℕ → List ReadSegment → List PulledByte
bytes_of base reads = pulled_bytes 0 (dealt reads (read_places base reads))

-- Before segment i, j bytes of a piece are at their places, and `left` are to be passed over from the segment on.
pub record Placing (base : ℕ) (reads : List ReadSegment) (count : ℕ) (piece start : List ℕ) (i j left : ℕ) (w : Run) (g : ℕ) (out : List ℕ) : Type 0 where
  pub more : j < length piece
  pub sum : count + j ≡ read_length (take i reads) + left
  pub hand : Hand reads i w
  pub near : w.length ≤ i * 4294967296
  pub placed : out ≡ scatter (drop count (read_places base reads)) (take j piece) start
  pub counted : g + goes (take (length piece - j) (drop (count + j) (bytes_of base reads))) ≡ goes (take (length piece) (drop count (bytes_of base reads)))

pub placing_start : (base : ℕ) (reads : List ReadSegment) (count : ℕ) (piece start : List ℕ) → is_sorted reads ≡ true → 0 < length piece → Placing base reads count piece start 0 0 count (run 0 0) 0 start
placing_start base reads count piece start e some =
    record { more = some; sum = start_sum reads count; hand = hand_start reads e; near = omega arith; placed = sym (scatter_none _ _); counted = rw (add-zero, sub-zero) (omega arith) }

-- An empty piece takes no go.
pub none_taken : (all : List PulledByte) (piece : List ℕ) → length piece ≡ 0 → 0 ≡ goes (take (length piece) all)
unfolding goes
none_taken all piece e = rw e

-- As long as bytes are left, there is a segment.
pub placing_ends : (base : ℕ) (reads : List ReadSegment) (count : ℕ) (piece start : List ℕ) (i j left : ℕ) (w : Run) (g : ℕ) (out : List ℕ) → Placing base reads count piece start i j left w g out →
    length reads ≤ i → count + length piece ≤ read_length reads → ⊥
placing_ends base reads count piece start i j left w g out k all fits =
    let whole : take i reads ≡ reads = take_all i reads all in
    let sum : count + j ≡ read_length reads + left = rw whole at k.sum in
    let more = k.more in
    omega arith

module _ (base : ℕ) (reads : List ReadSegment) (count : ℕ) (piece start : List ℕ) (i j left : ℕ) (w : Run) (g : ℕ) (out : List ℕ) (k : Placing base reads count piece start i j left w g out)
    (x : ReadSegment) (rest : drop i reads ≡ x ∷ drop (i + 1) reads) (b : ℕ) (e : b ≡ cond (eqb w.at x.position) w.length 0) where
  there : SegmentAt reads i x
  there = segment_at_lem reads i x (let all = length-drop i reads in let some : length (drop i reads) ≡ suc (length (drop (i + 1) reads)) = ap length rest in omega arith) rest

  before : b ≡ position_length x.position (take i reads)
  before = hand_before reads i w x rest k.hand b e

  pub before_near : b ≤ i * 4294967296
  before_near = rw e (by (eqb w.at x.position))
    where
      by : (t : Bool) → cond t w.length 0 ≤ i * 4294967296
      by true = k.near
      by false = omega arith

  abbrev onward : Run
  onward = run x.position (b + x.target.length)

  pub passed_over : x.target.length ≤ left → x.target.length < 4294967296 → Placing base reads count piece start (i + 1) j (left - x.target.length) onward g out
  passed_over le near =
      let next = read_next reads i x there in
      record { more = k.more; sum = omega (arith, k.sum); hand = hand_next reads i w x rest k.hand there b before; near = omega (arith, before_near); placed = k.placed; counted = k.counted }

  module _ (c : LayoutChecked base reads) (p : BasePulled base reads) (lt : left < x.target.length) (m : ℕ) (share : m ≡ min (x.target.length - left) (length piece - j)) where
    some : 0 < m
    some = let more = k.more in omega arith

    pub most : (left + m ≤ x.target.length) × (j + m ≤ length piece)
    most = let more = k.more in (omega arith, omega arith)

    part : PartAt base reads (take i reads) i x left m
    part = part_at base reads i x c p there left m some most.0

    cut : (take (j + m - j) (drop j piece) ≡ take m (drop j piece)) × (length (take m (drop j piece)) ≡ m)
    cut = part_length j m piece most.1

    pub part_asks : message_length base (other_chunks reads) ≤ length out → PartWithin base (length out) x.position (b + left) (length (take (j + m - j) (drop j piece))) × (0 < length (take (j + m - j) (drop j piece)))
    part_asks room = (rw (cut.0, cut.1, before) (part.within (length out) room), rw (cut.0, cut.1) some)

    -- What is there behind the part.
    module _ (r : ℕ) (after : List ℕ) (answer : r ≡ goes (of_segment 0 (part_places base (other_chunks reads) x.position (b + left) (length (take (j + m - j) (drop j piece))))))
        (buffer : after ≡ scatter (part_places base (other_chunks reads) x.position (b + left) (length (take (j + m - j) (drop j piece)))) (take (j + m - j) (drop j piece)) out) where
      put : after ≡ scatter (drop count (read_places base reads)) (take (j + m) piece) start
      put = part_placed base reads (take i reads) i x left m part count j k.sum piece k.more some share start out after k.placed (rw (cut.0, cut.1, before) at buffer)

      pub went : g + r + goes (take (length piece - (j + m)) (drop (count + (j + m)) (bytes_of base reads))) ≡ goes (take (length piece) (drop count (bytes_of base reads)))
      went = part_counted base reads (take i reads) i x left m part count j k.sum piece k.more some share g _ r k.counted (rw (cut.0, cut.1, before) at answer)

      pub all_placed : j + m ≡ length piece → (g + r ≡ goes (take (length piece) (drop count (bytes_of base reads)))) × (after ≡ scatter (drop count (read_places base reads)) piece start)
      all_placed all = (finished (g + r) _ (j + m) piece (count + (j + m)) (bytes_of base reads) (omega arith) went, put ∙ rw (all, take-length))

      pub placed_on : (j + m ≡ length piece → ⊥) → x.target.length < 4294967296 → Placing base reads count piece start (i + 1) (j + m) 0 onward (g + r) after
      placed_on other near =
          let fits = most in
          let all : left + m ≡ x.target.length = (let more = k.more in omega arith) in
          let next = read_next reads i x there in
          record { more = omega arith; sum = omega (arith, k.sum); hand = hand_next reads i w x rest k.hand there b before; near = omega (arith, before_near); placed = put; counted = went }
