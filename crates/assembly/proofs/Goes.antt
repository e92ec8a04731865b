-- The goes of a piece: the fewest runs that make it up, at most 31, none for an empty or a refused piece; and what they are counted over.
-- Assumes nothing.
use mathlib.Core.Path.{◌≡◌, refl, sym, ap, subst, ◌∙◌}
use mathlib.Core.Bool.{Bool, true, false, cond}
use mathlib.Core.List.{List, [], ◌∷◌, ◌++◌, map}
use Prim.Native.Nat.{ℕ, zero, suc, ◌+◌, ◌≤◌}
use native.Mathlib.Omega.{arith}
use lib.ListN.{length, take, drop, get_or, replicate, length-take, length-drop}
use lib.Seq.{length-take-le}
use lib.Dec.{eqb}
use borrow.Author.Tests.{eqb-true, ne_eqb}
use Rattle.answers.proofs.Checks.{both_hold, check_passed}
use Rattle.wire.specs.Wire.{joined}
use Rattle.wire.specs.declared.ReadSegment.{ReadSegment}
use Rattle.layout.specs.Places.{from}
use Rattle.layout.specs.Layout.{any_at_zero, other_chunks, base_places}
use Rattle.layout.specs.Internal.Walks.{read_length}
use Rattle.layout.proofs.Passed.{place_passed}
use Rattle.placing.specs.Segments.{dealt, segment_places, segment_numbers, position_length}
use Rattle.placing.specs.Goes.{PulledByte, of_segment, pulled_bytes, Fewest, goes}
use Rattle.placing.specs.Internal.Sources.{read_places, LayoutChecked, BasePulled}
use Rattle.placing.proofs.Goes.{fewest, goes_none}
use Rattle.placing.proofs.Segments.{pulled_read, base_pulled, read_length_lem, joined_dealt, dealt_at, own_run, own_base}
use Rattle.placing.proofs.Bounds.{most_goes}
use Rattle.assembly_state.specs.State.{State}
use Rattle.assembly.proofs.Arises.{arises}
use Rattle.assembly.specs.Assembly.{reads_of, chunks_of, pulled_of, can_arise, fits_state, piece_number, pulled_bytes_of, piece_goes}

-- What a state that can arise says of its list.
record Arisen (s : State) : Type 0 where
  pub few : length (reads_of s) ≤ 16
  pub checked : LayoutChecked s.base (reads_of s)
  pub pulled : BasePulled s.base (reads_of s)
  pub places : pulled_of s ≡ read_places s.base (reads_of s)

arisen : (s : State) → can_arise s ≡ true → Arisen s
arisen s e =
    let a = arises s e in
    let few = a.few in
    let p = place_passed s.kind (any_at_zero (reads_of s)) s.base (chunks_of s) s.buffer a.placed in
    let long = p.long in
    record {
      few = rw length-take (omega arith);
      checked = record { rise = a.in_order; stand = p.stand; small = omega arith };
      pulled = base_pulled s.kind s.base (reads_of s) p.fits a.based;
      places = pulled_read s.kind s.base (reads_of s) p.fits;
    }

accepted_arisen : (s : State) (room size : ℕ) → piece_number s room size ≡ 0 → Arisen s
unfolding piece_number
accepted_arisen s room size e = arisen s (both_hold _ _ (check_passed (fits_state s room) 17 _ (omega arith) e).0).0

-- "0 for .. a refused piece"
pub none_for_refused : (s : State) (room size : ℕ) → (piece_number s room size ≡ 0 → ⊥) → piece_goes s room size ≡ 0
unfolding piece_goes
none_for_refused s room size n = rw (ne_eqb _ _ n)

-- "the fewest such runs that make it up"
pub fewest_goes : (s : State) (room size : ℕ) → piece_number s room size ≡ 0 → Fewest (take size (drop s.taken (pulled_bytes_of s))) (piece_goes s room size)
unfolding piece_goes
fewest_goes s room size e = rw e (fewest (take size (drop s.taken (pulled_bytes_of s))))

-- "at most 31"
pub at_most_31 : (s : State) (room size : ℕ) → piece_goes s room size ≤ 31
unfolding piece_goes
at_most_31 s room size = by (eqb (piece_number s room size) 0) refl
  where
    by : (b : Bool) → eqb (piece_number s room size) 0 ≡ b → cond b (goes (take size (drop s.taken (pulled_bytes_of s)))) 0 ≤ 31
    by true e =
        let a = accepted_arisen s room size (eqb-true _ 0 e) in
        rw a.places (most_goes s.base (reads_of s) a.few a.checked a.pulled s.taken size)
    by false e = omega arith

-- "0 for an empty .. piece"
pub none_for_empty : (s : State) (room : ℕ) → piece_goes s room 0 ≡ 0
unfolding piece_goes
none_for_empty s room = by (eqb (piece_number s room 0) 0)
  where
    by : (b : Bool) → cond b (goes []) 0 ≡ 0
    by true = goes_none
    by false = refl

-- What they are counted over: the bytes of the segments, each at its place.
abbrev places_of : List PulledByte → List ℕ
places_of = map (λ b. b.place)

map_append : (f : PulledByte → ℕ) (u v : List PulledByte) → map f (u ++ v) ≡ map f u ++ map f v
map_append f [] v = refl
map_append f (a ∷ u) v = ap (λ (l : List ℕ). f a ∷ l) (map_append f u v)

places_segment : (i : ℕ) (ps : List ℕ) → places_of (of_segment i ps) ≡ ps
unfolding of_segment
places_segment i [] = refl
places_segment i (p ∷ ps) = ap (λ (l : List ℕ). p ∷ l) (places_segment i ps)

places_all : (i : ℕ) (pss : List (List ℕ)) → places_of (pulled_bytes i pss) ≡ joined (λ ps. ps) pss
unfolding pulled_bytes joined
places_all i [] = refl
places_all i (ps ∷ pss) = map_append (λ b. b.place) (of_segment i ps) (pulled_bytes (suc i) pss) ∙ rw (places_segment i ps, places_all (suc i) pss)

places_take : (n : ℕ) (l : List PulledByte) → places_of (take n l) ≡ take n (places_of l)
places_take zero l = refl
places_take (suc n) [] = refl
places_take (suc n) (a ∷ l) = ap (λ (r : List ℕ). a.place ∷ r) (places_take n l)

places_drop : (n : ℕ) (l : List PulledByte) → places_of (drop n l) ≡ drop n (places_of l)
places_drop zero l = refl
places_drop (suc n) [] = refl
places_drop (suc n) (a ∷ l) = places_drop n l

-- And each is of its segment.
segments_of : (i : ℕ) (ps : List ℕ) → map (λ b. b.segment) (of_segment i ps) ≡ replicate (length ps) i
unfolding of_segment
segments_of i [] = refl
segments_of i (p ∷ ps) = ap (λ (l : List ℕ). i ∷ l) (segments_of i ps)

segments_dealt : (i : ℕ) (xs : List ReadSegment) (ps : List ℕ) → length ps ≡ read_length xs → map (λ b. b.segment) (pulled_bytes i (dealt xs ps)) ≡ segment_numbers i xs
unfolding pulled_bytes dealt segment_numbers read_length
segments_dealt i [] ps e = refl
segments_dealt i (x ∷ xs) ps e =
    map_append (λ b. b.segment) (of_segment i (take x.target.length ps)) _
    ∙ rw (segments_of i (take x.target.length ps), length-take-le x.target.length ps (omega arith), segments_dealt (suc i) xs (drop x.target.length ps) (rw length-drop (omega arith)))

pub in_list_order : (s : State) → can_arise s ≡ true → map (λ b. b.segment) (pulled_bytes_of s) ≡ segment_numbers 0 (reads_of s)
in_list_order s e =
    let a = arisen s e in
    segments_dealt 0 (reads_of s) (pulled_of s) (ap length a.places ∙ read_length_lem s.base (reads_of s) a.checked.stand a.pulled)

-- The places of all segments joined are the pulled places.
pub joined_places : (s : State) → can_arise s ≡ true → joined (λ ps. ps) (segment_places s.kind s.base (reads_of s)) ≡ pulled_of s
joined_places s e =
    let a = arisen s e in
    joined_dealt (reads_of s) (pulled_of s) (ap length a.places ∙ read_length_lem s.base (reads_of s) a.checked.stand a.pulled)

-- So the bytes that are counted are those that are written, each at its place.
pub counted_there : (s : State) (room size : ℕ) → piece_number s room size ≡ 0 → map (λ b. b.place) (take size (drop s.taken (pulled_bytes_of s))) ≡ take size (drop s.taken (pulled_of s))
unfolding piece_number
counted_there s room size e =
    let there = (both_hold _ _ (check_passed (fits_state s room) 17 _ (omega arith) e).0).0 in
    places_take size (drop s.taken (pulled_bytes_of s))
    ∙ ap (take size) (places_drop s.taken (pulled_bytes_of s) ∙ ap (drop s.taken) (places_all 0 (segment_places s.kind s.base (reads_of s)) ∙ joined_places s there))

-- "its segments joined in list order": a segment elsewhere than at position 0 has a run behind those before it at its position; "those of the base in order": one at position 0 has its part of the base's places.
pub own_places : (s : State) (before : List ReadSegment) (x : ReadSegment) (behind : List ReadSegment) → can_arise s ≡ true → reads_of s ≡ before ++ (x ∷ behind) →
    ((x.position ≡ 0 → ⊥) → get_or (segment_places s.kind s.base (reads_of s)) (length before) [] ≡ from (x.position + position_length x.position before) x.target.length)
    × (x.position ≡ 0 → get_or (segment_places s.kind s.base (reads_of s)) (length before) [] ≡ take x.target.length (drop (position_length x.position before) (base_places s.base (chunks_of s))))
own_places s before x behind e is =
    let a = arisen s e in
    let checked = subst (LayoutChecked s.base) is a.checked in
    let pulled = subst (BasePulled s.base) is a.pulled in
    let own = ap (λ (ps : List ℕ). get_or (dealt (reads_of s) ps) (length before) []) a.places ∙ ap (λ (l : List ReadSegment). get_or (dealt l (read_places s.base l)) (length before) []) is ∙ dealt_at before x behind _ in
    ((λ n. own ∙ own_run s.base before x behind checked pulled n), (λ z. own ∙ own_base s.base before x behind checked pulled z ∙ ap (λ (l : List ReadSegment). take x.target.length (drop (position_length x.position before) (base_places s.base (other_chunks l)))) (sym is)))
