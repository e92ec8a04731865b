-- Laws about the lists of a header: what a step says of the list, and what a list that was read says of the bytes.
-- Assumes nothing.
use mathlib.Core.Path.{◌≡◌, refl, sym, ap, subst, ◌∙◌}
use mathlib.Core.Bool.{Bool, true, false, cond}
use mathlib.Core.List.{List, [], ◌∷◌}
use Prim.Native.Nat.{ℕ, zero, suc, ◌+◌, ◌-◌, ◌*◌, ◌%◌, ◌≤◌, ◌<◌}
use native.Mathlib.Omega.{arith}
use Rattle.std.specs.Prelude.{Option, Some, None, Result, Ok, Err}
use borrow.Author.Tests.{leb-true, eqb-true, eqb-false, eq-eqb, ne_eqb, le-leb, lt-leb}
use lib.ListN.{length, drop, length-drop}
use lib.Seq.{drop-drop}
use lib.Dec.{leb, eqb, eqb-suc-zero}
use Rattle.wire.specs.Wire.{word_at, word_of, segment_at, read_segment_at}
use Rattle.wire.specs.declared.Segment.{Segment}
use Rattle.wire.specs.declared.ReadSegment.{ReadSegment}
use Rattle.chunk_lists.specs.Parsed.{Parsed, refused, done, and_then, require, prepend, each}
use Rattle.chunk_lists.specs.Lists.{marker_word, marker_of, read_entry, read_list, segments, after_word, counted, write_list}
use Rattle.chunk_lists.specs.Internal.Steps.{marked, read_step, one_more, entries_in_front, count_step, chunk_step, behind_step, room_behind, list_check, chunks_at, ChunksFit}
use Rattle.chunk_lists.specs.declared.Chunks.{Chunks}
use Rattle.chunk_lists.specs.declared.ListEnd.{ListEnd}
use Rattle.chunk_lists.specs.declared.Marker.{Marker}
use Rattle.chunk_lists.specs.declared.Marker.TheVariants as marker
use Rattle.wire.proofs.Fields.{word_drop, read_segment_drop}
use Rattle.chunk_lists.proofs.Items.{length_each}

-- A refusal is no value.
pub never : {A : Type 0} {n : ℕ} {a : A} {t : List ℕ} → refused n ≡ done a t → ⊥
never e = let z : ◌≡◌ {A = ℕ} 0 1 = cc in omega arith

-- What was required of a value holds.
pub required : {A : Type 0} (b : Bool) (n : ℕ) (p : Parsed A) {a : A} {t : List ℕ} → require b n p ≡ done a t → (b ≡ true) × (p ≡ done a t)
required true n p e = (refl, e)
required false n p e = absurd (never e)

-- A value that was read in two steps.
pub record Both {A B : Type 0} (p : Parsed A) (next : A → List ℕ → Parsed B) (b : B) (u : List ℕ) : Type 0 where
  pub first : A
  pub behind : List ℕ
  pub is : p ≡ done first behind
  pub then : next first behind ≡ done b u

pub both : {A B : Type 0} (p : Parsed A) {next : A → List ℕ → Parsed B} {b : B} {u : List ℕ} → and_then p next ≡ done b u → Both p next b u
both (refused n) e = absurd (never e)
both (done a t) e = record { first = a; behind = t; is = refl; then = e }

-- A word that is there has its four bytes.
pub word_room : (s : List ℕ) (m : ℕ) → word_of s ≡ Ok m → 4 ≤ length s
unfolding word_of
word_room s m e = go (leb 4 (length s)) refl e
  where
    go : (b : Bool) → leb 4 (length s) ≡ b → cond {A = Result ℕ ℕ} b (Ok (word_at s 0)) (Err 5) ≡ Ok m → 4 ≤ length s
    go true h q = leb-true 4 (length s) h
    go false h q = absurd (let z : ◌≡◌ {A = ℕ} 0 1 = cc in omega arith)

pub word_is : (s : List ℕ) (m : ℕ) → word_of s ≡ Ok m → m ≡ word_at s 0
unfolding word_of
word_is s m e = go (leb 4 (length s)) e
  where
    go : (b : Bool) → cond {A = Result ℕ ℕ} b (Ok (word_at s 0)) (Err 5) ≡ Ok m → m ≡ word_at s 0
    go true q = cc
    go false q = absurd (let z : ◌≡◌ {A = ℕ} 0 1 = cc in omega arith)

-- A marker that is there has its four bytes.
pub marker_room : (s : List ℕ) → ((n : ℕ) → marker_of s ≡ Err n → ⊥) → 4 ≤ length s
unfolding marker_of
marker_room s there = go (word_of s) refl
  where
    go : (w : Result ℕ ℕ) → word_of s ≡ w → 4 ≤ length s
    go (Err n) e = absurd (there n (ap marker_word e))
    go (Ok m) e = word_room s m e

pub end_room : (s : List ℕ) → marker_of s ≡ Ok marker.End → 4 ≤ length s
end_room s e = marker_room s (λ n q. let z : ◌≡◌ {A = ℕ} 0 1 = cc in omega arith)

pub entry_room : (s : List ℕ) → marker_of s ≡ Ok marker.Entry → 4 ≤ length s
entry_room s e = marker_room s (λ n q. let z : ◌≡◌ {A = ℕ} 0 1 = cc in omega arith)

-- The same by a marker m that was read.
pub entry_there : (s : List ℕ) (m : Result Marker ℕ) → m ≡ marker_of s → m ≡ Ok marker.Entry → 4 ≤ length s
entry_there s m is e = entry_room s (sym is ∙ e)

-- What stands at the front of a list, by its marker m.
module _ {A : Type 0} (end : A) (entry : Result A ℕ) (room : ℕ) (s : List ℕ) (m : Result Marker ℕ) (is : m ≡ marker_of s) where
  pub marked_end : m ≡ Ok marker.End → Ok end ≡ marked end (marker_of s) room entry
  marked_end e = rw (← is, e)

  pub marked_fault : (n : ℕ) → m ≡ Err n → Err n ≡ marked end (marker_of s) room entry
  marked_fault n e = rw (← is, e)

  pub marked_full : m ≡ Ok marker.Entry → room ≡ 0 → Err 7 ≡ marked end (marker_of s) room entry
  marked_full e none_left = rw (← is, e, eq-eqb room 0 none_left)

  pub marked_entry : m ≡ Ok marker.Entry → (room ≡ 0 → ⊥) → entry ≡ marked end (marker_of s) room entry
  marked_entry e some_left = rw (← is, e, ne_eqb room 0 some_left)

-- An entry that was read has its 20 bytes.
pub record Entry (s : List ℕ) (x : ReadSegment) (u : List ℕ) : Type 0 where
  pub long : 20 ≤ length s
  pub is : x ≡ read_segment_at s 0
  pub behind : u ≡ drop 20 s
  pub aligned : word_at s 0 % 4 ≡ 0

pub entry_of : (s : List ℕ) (x : ReadSegment) (u : List ℕ) → read_entry s ≡ done x u → Entry s x u
unfolding read_entry
entry_of s x u e =
    let a = required (leb 20 (length s)) _ _ e in
    let b = required (eqb (word_at s 0 % 4) 0) _ _ a.1 in
    let d : done (read_segment_at s 0) (drop 20 s) ≡ done x u = b.1 in
    record { long = leb-true 20 (length s) a.0; is = cc; behind = cc; aligned = eqb-true (word_at s 0 % 4) 0 b.0 }

-- The numbers that a marker and an entry can give.
pub marker_number : (s : List ℕ) (n : ℕ) → marker_of s ≡ Err n → n ≤ 9
unfolding marker_of word_of
marker_number s n e = go (leb 4 (length s)) e
  where
    valued : (zeroth first : Bool) → cond zeroth (Ok marker.End) (cond first (Ok marker.Entry) (Err 6)) ≡ Err n → n ≤ 9
    valued true first q = absurd (let z : ◌≡◌ {A = ℕ} 0 1 = cc in omega arith)
    valued false true q = absurd (let z : ◌≡◌ {A = ℕ} 0 1 = cc in omega arith)
    valued false false q = let six : 6 ≡ n = cc in omega arith

    go : (b : Bool) → marker_word (cond {A = Result ℕ ℕ} b (Ok (word_at s 0)) (Err 5)) ≡ Err n → n ≤ 9
    go true q = valued (eqb (word_at s 0) 0) (eqb (word_at s 0) 1) q
    go false q = let five : 5 ≡ n = cc in omega arith

entry_number : (s : List ℕ) (n : ℕ) → read_entry s ≡ refused n → n ≤ 9
unfolding read_entry
entry_number s n e = go (leb 20 (length s)) (eqb (word_at s 0 % 4) 0) e
  where
    go : (a b : Bool) → require a 5 (require b 9 (done (read_segment_at s 0) (drop 20 s))) ≡ refused n → n ≤ 9
    go true true q = absurd (never (sym q))
    go true false q = let nine : 9 ≡ n = cc in omega arith
    go false b q = let five : 5 ≡ n = cc in omega arith

position_of : (x : ReadSegment) (s : List ℕ) → x ≡ read_segment_at s 0 → x.position ≡ word_at s 0
unfolding read_segment_at
position_of x s e = ap (λ (y : ReadSegment). y.position) e

-- The three things that can stand at the front of a read list.
pub data ReadFront (room : ℕ) (s : List ℕ) : Type 0 where
  ends : read_step room s ≡ Ok marker.End → 4 ≤ length s → read_list room s ≡ done [] (drop 4 s) → ReadFront room s
  faulty : (n : ℕ) → read_step room s ≡ Err n → n ≤ 9 → read_list room s ≡ refused n → ReadFront room s
  another : (x : ReadSegment) → read_step room s ≡ Ok marker.Entry → 0 < room → 24 ≤ length s → x ≡ read_segment_at s 4 →
      read_list room s ≡ prepend x (read_list (room - 1) (drop 24 s)) → x.position % 4 ≡ 0 → ReadFront room s

pub read_front : (room : ℕ) (s : List ℕ) → ReadFront room s
unfolding read_step read_list
read_front zero s = go (marker_of s) refl
  where
    go : (m : Result Marker ℕ) → marker_of s ≡ m → ReadFront zero s
    go (Err n) e = faulty n (rw e) (marker_number s n e) (rw e)
    go (Ok marker.End) e = ends (rw e) (end_room s e) (rw e)
    go (Ok marker.Entry) e = faulty 7 (rw e) (omega arith) (rw e)
read_front (suc room) s = go (marker_of s) refl
  where
    entered : marker_of s ≡ Ok marker.Entry → (p : Parsed ReadSegment) → read_entry (drop 4 s) ≡ p → ReadFront (suc room) s
    entered e (refused n) q = faulty n (rw (e, eqb-suc-zero room, q)) (entry_number (drop 4 s) n q) (rw (e, q))
    entered e (done x u) q =
        let h = entry_of (drop 4 s) x u q in
        let four = entry_room s e in
        let is : x ≡ read_segment_at s 4 = h.is ∙ read_segment_drop 4 0 s in
        let rest : u ≡ drop 24 s = h.behind ∙ drop-drop 20 4 s in
        let room-is : suc room - 1 ≡ room = omega arith in
        let at-four : x.position ≡ word_at (drop 4 s) 0 = position_of x (drop 4 s) h.is in
        another x (rw (e, eqb-suc-zero room, q)) (omega arith) (omega (arith, h.long, length-drop 4 s)) is (rw (e, q, rest, room-is)) (rw at-four h.aligned)

    go : (m : Result Marker ℕ) → marker_of s ≡ m → ReadFront (suc room) s
    go (Err n) e = faulty n (rw e) (marker_number s n e) (rw e)
    go (Ok marker.End) e = ends (rw e) (end_room s e) (rw e)
    go (Ok marker.Entry) e = entered e (read_entry (drop 4 s)) refl

-- A counted run that was read: its count word, and its segments behind it.
pub record Counted (left : ℕ) (s : List ℕ) (c : List Segment) (u : List ℕ) : Type 0 where
  pub long : 4 + word_at s 0 * 16 ≤ length s
  pub few : word_at s 0 ≤ left
  pub is : c ≡ each 16 (λ t. segment_at t 0) (word_at s 0) (drop 4 s)
  pub behind : u ≡ drop (4 + word_at s 0 * 16) s

pub counted_of : (left : ℕ) (s : List ℕ) (c : List Segment) (u : List ℕ) → counted left s ≡ done c u → Counted left s c u
unfolding counted segments
counted_of left s c u e = go (word_of s) refl e
  where
    go : (w : Result ℕ ℕ) → word_of s ≡ w → after_word w (λ n. require (leb n left) 7 (segments n (drop 4 s))) ≡ done c u → Counted left s c u
    go (Err n) h q = absurd (never q)
    go (Ok n) h q =
        let four = word_room s n h in
        let value = word_is s n h in
        let a = required (leb n left) _ _ q in
        let b = required (leb (n * 16) (length (drop 4 s))) _ _ a.1 in
        let few : n ≤ left = leb-true n left a.0 in
        let long : n * 16 ≤ length (drop 4 s) = leb-true (n * 16) (length (drop 4 s)) b.0 in
        let d : done (each 16 (λ t. segment_at t 0) n (drop 4 s)) (drop (n * 16) (drop 4 s)) ≡ done c u = b.1 in
        let is : c ≡ each 16 (λ t. segment_at t 0) n (drop 4 s) = cc in
        let behind : u ≡ drop (n * 16) (drop 4 s) = cc in
        record { long = omega (arith, length-drop 4 s); few = omega arith; is = is ∙ rw value; behind = behind ∙ rw (drop-drop (n * 16) 4 s, value) }

-- The numbers that a count can give.
pub count_number : (left : ℕ) (s : List ℕ) (n : ℕ) → counted left s ≡ refused n → n ≤ 9
unfolding counted segments word_of
count_number left s n e = go (leb 4 (length s)) e
  where
    counts : (a b : Bool) (c : List Segment) (t : List ℕ) → require a 7 (require b 5 (done c t)) ≡ refused n → n ≤ 9
    counts true true c t q = absurd (never (sym q))
    counts true false c t q = let five : 5 ≡ n = cc in omega arith
    counts false b c t q = let seven : 7 ≡ n = cc in omega arith

    go : (b : Bool) → after_word (cond {A = Result ℕ ℕ} b (Ok (word_at s 0)) (Err 5)) (λ k. require (leb k left) 7 (segments k (drop 4 s))) ≡ refused n → n ≤ 9
    go true q = counts (leb (word_at s 0) left) (leb (word_at s 0 * 16) (length (drop 4 s))) _ _ q
    go false q = let five : 5 ≡ n = cc in omega arith

-- What can stand at the front of a list of chunks.
pub data ChunkFront (room left : ℕ) (s : List ℕ) : Type 0 where
  ends : chunk_step room left s ≡ Ok None → marker_of s ≡ Ok marker.End → ChunkFront room left s
  unmarked : (n : ℕ) → chunk_step room left s ≡ Err n → marker_of s ≡ Err n → ChunkFront room left s
  full : chunk_step room left s ≡ Err 7 → marker_of s ≡ Ok marker.Entry → room ≡ 0 → ChunkFront room left s
  uncounted : (n : ℕ) → chunk_step room left s ≡ Err n → marker_of s ≡ Ok marker.Entry → 0 < room → counted left (drop 4 s) ≡ refused n → ChunkFront room left s
  another : (c : List Segment) (u : List ℕ) → chunk_step room left s ≡ Ok (Some (length c)) → marker_of s ≡ Ok marker.Entry → 0 < room → counted left (drop 4 s) ≡ done c u → ChunkFront room left s

pub chunk_front : (room left : ℕ) (s : List ℕ) → ChunkFront room left s
unfolding chunk_step
chunk_front room left s = go (marker_of s) refl
  where
    counting : marker_of s ≡ Ok marker.Entry → 0 < room → (p : Parsed (List Segment)) → counted left (drop 4 s) ≡ p → ChunkFront room left s
    counting e h (refused n) q = uncounted n (rw (e, ne_eqb room 0 (omega arith), q)) e h q
    counting e h (done c u) q = another c u (rw (e, ne_eqb room 0 (omega arith), q)) e h q

    entered : marker_of s ≡ Ok marker.Entry → (b : Bool) → eqb room 0 ≡ b → ChunkFront room left s
    entered e true q = full (rw (e, q)) e (eqb-true room 0 q)
    entered e false q =
        let ne = eqb-false room 0 q in
        counting e (omega arith) (counted left (drop 4 s)) refl

    go : (m : Result Marker ℕ) → marker_of s ≡ m → ChunkFront room left s
    go (Err n) e = unmarked n (rw e) e
    go (Ok marker.End) e = ends (rw e) e
    go (Ok marker.Entry) e = entered e (eqb room 0) refl

-- A chunk that was read: its count, and where it ends.
pub record Chunk (left : ℕ) (s : List ℕ) (c : List Segment) (u : List ℕ) : Type 0 where
  pub many : length c ≡ word_at s 4
  pub few : length c ≤ left
  pub long : 8 + length c * 16 ≤ length s
  pub is : c ≡ each 16 (λ t. segment_at t 0) (length c) (drop 8 s)
  pub behind : u ≡ drop (8 + length c * 16) s

pub chunk_of : (left : ℕ) (s : List ℕ) (c : List Segment) (u : List ℕ) → marker_of s ≡ Ok marker.Entry → counted left (drop 4 s) ≡ done c u → Chunk left s c u
chunk_of left s c u m e =
    let h = counted_of left (drop 4 s) c u e in
    let four = entry_room s m in
    let w : word_at (drop 4 s) 0 ≡ word_at s 4 = word_drop 4 0 s in
    let n : length c ≡ word_at (drop 4 s) 0 = ap length h.is ∙ length_each 16 (λ t. segment_at t 0) (word_at (drop 4 s) 0) (drop 4 (drop 4 s)) in
    let is : c ≡ each 16 (λ t. segment_at t 0) (length c) (drop 8 s) = h.is ∙ rw (← n, drop-drop 4 4 s) in
    let long : 4 + length c * 16 ≤ length (drop 4 s) = rw n h.long in
    let eight : 4 + (4 + length c * 16) ≡ 8 + length c * 16 = omega arith in
    record {
      many = n ∙ w;
      few = rw n h.few;
      long = omega (arith, length-drop 4 s);
      is = is;
      behind = h.behind ∙ rw (← n, drop-drop (4 + length c * 16) 4 s, eight);
    }

-- The list goes on behind an entry.
record Further (room : ℕ) (s : List ℕ) : Type 0 where
  first : ReadSegment
  room_left : 0 < room
  long : 24 ≤ length s
  is : read_list room s ≡ prepend first (read_list (room - 1) (drop 24 s))

module _ (room : ℕ) (s : List ℕ) (e : read_step room s ≡ Ok marker.Entry) where
  read_further : Further room s
  read_further = go (read_front room s)
    where
      go : ReadFront room s → Further room s
      go (ends f long is) = absurd (let z : ◌≡◌ {A = ℕ} 0 1 = cc in omega arith)
      go (faulty m f small is) = absurd (let z : ◌≡◌ {A = ℕ} 0 1 = cc in omega arith)
      go (another x f pos long at4 is aligned) = record { first = x; room_left = pos; long = long; is = is }

  pub read_room : 0 < room
  read_room = read_further.room_left

  pub read_long : 24 ≤ length s
  read_long = read_further.long

-- How many entries stand in front, by what stands there.
pub front_more : (room : ℕ) (s : List ℕ) → read_step room s ≡ Ok marker.Entry → entries_in_front (room - 1) (drop 24 s) + 1 ≡ entries_in_front room s
unfolding entries_in_front
front_more zero s e = absurd (omega (arith, read_room zero s e))
front_more (suc room) s e = let r : suc room - 1 ≡ room = omega arith in rw (e, r)

pub front_ended : (room : ℕ) (s : List ℕ) → read_step room s ≡ Ok marker.End → 0 ≡ entries_in_front room s
unfolding entries_in_front
front_ended zero s e = refl
front_ended (suc room) s e = rw e

pub front_refused : (room : ℕ) (s : List ℕ) (n : ℕ) → read_step room s ≡ Err n → 0 ≡ entries_in_front room s
unfolding entries_in_front
front_refused zero s n e = refl
front_refused (suc room) s n e = rw e

pub front_few : (room : ℕ) (s : List ℕ) → entries_in_front room s ≤ room
unfolding entries_in_front
front_few zero s = omega arith
front_few (suc room) s = go (read_step (suc room) s) (front_few room (drop 24 s))
  where
    go : (step : Result Marker ℕ) → entries_in_front room (drop 24 s) ≤ room → one_more step (entries_in_front room (drop 24 s)) ≤ suc room
    go (Err n) few = omega arith
    go (Ok marker.End) few = omega arith
    go (Ok marker.Entry) few = omega arith

-- A list with one more entry in front, checked.
prepend_refusal : {A : Type 0} (x : A) (p : Parsed (List A)) (n : ℕ) → Err n ≡ list_check 0 p → Err n ≡ list_check 0 (prepend x p)
unfolding list_check
prepend_refusal x (refused m) n e = e
prepend_refusal x (done l t) n e = absurd (let z : ◌≡◌ {A = ℕ} 0 1 = cc in omega arith)

prepend_checked : {A : Type 0} (x : A) (p : Parsed (List A)) (n left : ℕ) → Ok (record { entries = n; left = left }) ≡ list_check 0 p → Ok (record { entries = n + 1; left = left }) ≡ list_check 0 (prepend x p)
unfolding list_check
prepend_checked x (refused m) n left e = absurd (let z : ◌≡◌ {A = ℕ} 0 1 = cc in omega arith)
prepend_checked x (done l t) n left e = go _ e
  where
    go : (d : ListEnd) → ◌≡◌ {A = Result ListEnd ℕ} (Ok d) (Ok (record { entries = 0 + length l; left = length t })) →
        ◌≡◌ {A = Result ListEnd ℕ} (Ok (record { entries = d.entries + 1; left = d.left })) (Ok (record { entries = 0 + suc (length l); left = length t }))
    go d q = let same : ◌≡◌ {A = ListEnd} d (record { entries = 0 + length l; left = length t }) = cc in
        let more : 0 + length l + 1 ≡ 0 + suc (length l) = omega arith in
        rw (same, more)

-- What stands behind the n entries in front ends the list, or is its fault.
pub record Stops (room : ℕ) (s : List ℕ) (n : ℕ) : Type 0 where
  pub few : n ≤ room
  pub long : n * 24 ≤ length s
  pub faulty : (k : ℕ) → read_step (room - n) (drop (n * 24) s) ≡ Err k → Err k ≡ list_check 0 (read_list room s)
  pub ended : read_step (room - n) (drop (n * 24) s) ≡ Ok marker.End → (n * 24 + 4 ≤ length s) × (Ok (record { entries = n; left = length s - n * 24 - 4 }) ≡ list_check 0 (read_list room s))
  pub no_more : read_step (room - n) (drop (n * 24) s) ≡ Ok marker.Entry → ⊥

pub ended_by : (room : ℕ) (s : List ℕ) (n : ℕ) → Stops room s n → (m : Marker) → read_step (room - n) (drop (n * 24) s) ≡ Ok m →
    (n * 24 + 4 ≤ length s) × (Ok (record { entries = n; left = length s - n * 24 - 4 }) ≡ list_check 0 (read_list room s))
ended_by room s n p marker.End e = p.ended e
ended_by room s n p marker.Entry e = absurd (p.no_more e)

stops_here : (room : ℕ) (s : List ℕ) → (read_step room s ≡ Ok marker.Entry → ⊥) → Stops room s 0
unfolding list_check
stops_here room s none =
    let all : room - 0 ≡ room = omega arith in
    record {
      few = omega arith;
      long = omega arith;
      faulty = λ k e. fault (read_front room s) k (rw all at e);
      ended = λ e. end (read_front room s) (rw all at e);
      no_more = λ e. none (rw all at e);
    }
  where
    fault : ReadFront room s → (k : ℕ) → read_step room s ≡ Err k → Err k ≡ list_check 0 (read_list room s)
    fault (ends f long is) k e = absurd (let z : ◌≡◌ {A = ℕ} 0 1 = cc in omega arith)
    fault (faulty m f small is) k e = let same : k ≡ m = cc in rw (is, same)
    fault (another x f pos long at4 is aligned) k e = absurd (let z : ◌≡◌ {A = ℕ} 0 1 = cc in omega arith)

    end : ReadFront room s → read_step room s ≡ Ok marker.End → (0 * 24 + 4 ≤ length s) × (Ok (record { entries = 0; left = length s - 0 * 24 - 4 }) ≡ list_check 0 (read_list room s))
    end (ends f long is) e = (omega arith, let left : length s - 0 * 24 - 4 ≡ length s - 4 = omega arith in rw (is, left, length-drop 4 s))
    end (faulty m f small is) e = absurd (let z : ◌≡◌ {A = ℕ} 0 1 = cc in omega arith)
    end (another x f pos long at4 is aligned) e = absurd (let z : ◌≡◌ {A = ℕ} 0 1 = cc in omega arith)

stops_later : (room : ℕ) (s : List ℕ) (n : ℕ) → read_step room s ≡ Ok marker.Entry → Stops (room - 1) (drop 24 s) n → Stops room s (n + 1)
stops_later room s n e later =
    let f = read_further room s e in
    let pos = f.room_left in
    let long = f.long in
    let few = later.few in
    let size = length-drop 24 s in
    let rest : room - 1 - n ≡ room - (n + 1) = omega arith in
    let place : 24 + n * 24 ≡ (n + 1) * 24 = omega arith in
    let same : read_step (room - 1 - n) (drop (n * 24) (drop 24 s)) ≡ read_step (room - (n + 1)) (drop ((n + 1) * 24) s) = rw (rest, drop-drop (n * 24) 24 s, place) in
    record {
      few = omega arith;
      long = omega (arith, later.long);
      faulty = λ k q. rw f.is (prepend_refusal f.first (read_list (room - 1) (drop 24 s)) k (later.faulty k (same ∙ q)));
      ended = λ q. let d = later.ended (same ∙ q) in
          let left : length s - (n + 1) * 24 - 4 ≡ length (drop 24 s) - n * 24 - 4 = omega arith in
          (omega (arith, d.0), rw (f.is, left) (prepend_checked f.first (read_list (room - 1) (drop 24 s)) n _ d.1));
      no_more = λ q. later.no_more (same ∙ q);
    }

pub stops : (room : ℕ) (s : List ℕ) → Stops room s (entries_in_front room s)
unfolding entries_in_front
stops zero s = stops_here zero s (λ e. absurd (omega (arith, read_room zero s e)))
stops (suc room) s = go (read_step (suc room) s) refl (stops room (drop 24 s))
  where
    go : (step : Result Marker ℕ) → read_step (suc room) s ≡ step → Stops room (drop 24 s) (entries_in_front room (drop 24 s)) → Stops (suc room) s (one_more step (entries_in_front room (drop 24 s)))
    go (Err n) e again = stops_here (suc room) s (λ q. let z : ◌≡◌ {A = ℕ} 0 1 = cc in omega arith)
    go (Ok marker.End) e again = stops_here (suc room) s (λ q. let z : ◌≡◌ {A = ℕ} 0 1 = cc in omega arith)
    go (Ok marker.Entry) e again = let r : suc room - 1 ≡ room = omega arith in stops_later (suc room) s _ e (rw r again)

-- The write list, by what stands at its front.
module _ (left : ℕ) (s : List ℕ) where
  pub writes_end : (room : ℕ) → marker_of s ≡ Ok marker.End → write_list room left s ≡ done [] (drop 4 s)
  unfolding write_list
  writes_end zero e = rw e
  writes_end (suc room) e = rw e

  pub writes_unmarked : (room n : ℕ) → marker_of s ≡ Err n → write_list room left s ≡ refused n
  unfolding write_list
  writes_unmarked zero n e = rw e
  writes_unmarked (suc room) n e = rw e

  pub writes_full : (room : ℕ) → room ≡ 0 → marker_of s ≡ Ok marker.Entry → write_list room left s ≡ refused 7
  unfolding write_list
  writes_full zero z e = rw e
  writes_full (suc room) z e = absurd (omega arith)

  pub writes_uncounted : (room n : ℕ) → 0 < room → marker_of s ≡ Ok marker.Entry → counted left (drop 4 s) ≡ refused n → write_list room left s ≡ refused n
  unfolding write_list
  writes_uncounted zero n h e q = absurd (omega arith)
  writes_uncounted (suc room) n h e q = rw (e, q)

  pub writes_chunk : (room : ℕ) (c : List Segment) (u : List ℕ) → 0 < room → marker_of s ≡ Ok marker.Entry → counted left (drop 4 s) ≡ done c u →
      write_list room left s ≡ prepend c (write_list (room - 1) (left - length c) u)
  unfolding write_list
  writes_chunk zero c u h e q = absurd (omega arith)
  writes_chunk (suc room) c u h e q = let r : suc room - 1 ≡ room = omega arith in rw (e, q, r)

-- The list goes on behind a chunk of n segments.
record FurtherChunk (room left : ℕ) (s : List ℕ) (n : ℕ) : Type 0 where
  first : List Segment
  many : length first ≡ n
  room_left : 0 < room
  few : n ≤ left
  long : 8 + n * 16 ≤ length s
  is : write_list room left s ≡ prepend first (write_list (room - 1) (left - n) (drop (8 + n * 16) s))

-- A write list, by its step.
module _ (room left : ℕ) (s : List ℕ) (step : Result (Option ℕ) ℕ) (is-step : step ≡ chunk_step room left s) where
  -- At a chunk: there is room for it, and its bytes are there.
  module _ (n : ℕ) (e : step ≡ Ok (Some n)) where
    write_further : FurtherChunk room left s n
    write_further = go (chunk_front room left s)
      where
        go : ChunkFront room left s → FurtherChunk room left s n
        go (ends f m) = absurd (let z : ◌≡◌ {A = ℕ} 0 1 = cc in omega arith)
        go (unmarked k f m) = absurd (let z : ◌≡◌ {A = ℕ} 0 1 = cc in omega arith)
        go (full f m h) = absurd (let z : ◌≡◌ {A = ℕ} 0 1 = cc in omega arith)
        go (uncounted k f m h q) = absurd (let z : ◌≡◌ {A = ℕ} 0 1 = cc in omega arith)
        go (another c u f m h q) =
            let same : n ≡ length c = cc in
            let k = chunk_of left s c u m q in
            record {
              first = c;
              many = sym same;
              room_left = h;
              few = rw same k.few;
              long = rw same k.long;
              is = writes_chunk left s room c u h m q ∙ rw (same, k.behind);
            }

    pub write_room : 0 < room
    write_room = write_further.room_left

    pub write_few : n ≤ left
    write_few = write_further.few

    pub write_long : 8 + n * 16 ≤ length s
    write_long = write_further.long

-- What room is left behind the chunks in front, by what stands there.
pub room_ended : (room left : ℕ) (s : List ℕ) → chunk_step room left s ≡ Ok None → record { chunks = room; segments = left } ≡ room_behind room left s
unfolding room_behind
room_ended zero left s e = refl
room_ended (suc room) left s e = rw e

pub room_refused : (room left : ℕ) (s : List ℕ) (n : ℕ) → chunk_step room left s ≡ Err n → record { chunks = room; segments = left } ≡ room_behind room left s
unfolding room_behind
room_refused zero left s n e = refl
room_refused (suc room) left s n e = rw e

pub room_more : (room left : ℕ) (s : List ℕ) (n : ℕ) → chunk_step room left s ≡ Ok (Some n) → room_behind (room - 1) (left - n) (drop (8 + n * 16) s) ≡ room_behind room left s
unfolding room_behind
room_more zero left s n e = absurd (omega (arith, write_room zero left s _ refl n e))
room_more (suc room) left s n e = let r : suc room - 1 ≡ room = omega arith in rw (e, r)

-- The bytes of the chunks in front, of which room for so many is left.
abbrev pub bytes_before : ℕ → ℕ → Chunks → ℕ
bytes_before room left c = (room - c.chunks) * 8 + (left - c.segments) * 16

-- What stands behind the chunks in front ends the list, or is its fault.
pub record Closes (room left : ℕ) (s : List ℕ) (c : Chunks) : Type 0 where
  pub few : c.chunks ≤ room
  pub within : c.segments ≤ left
  pub long : bytes_before room left c ≤ length s
  pub faulty : (k : ℕ) → chunk_step c.chunks c.segments (drop (bytes_before room left c) s) ≡ Err k → Err k ≡ list_check 0 (write_list room left s)
  pub ended : chunk_step c.chunks c.segments (drop (bytes_before room left c) s) ≡ Ok None →
      (bytes_before room left c + 4 ≤ length s) × (Ok (record { entries = room - c.chunks; left = length s - bytes_before room left c - 4 }) ≡ list_check 0 (write_list room left s))
  pub no_more : (n : ℕ) → chunk_step c.chunks c.segments (drop (bytes_before room left c) s) ≡ Ok (Some n) → ⊥

pub closed_by : (room left : ℕ) (s : List ℕ) (c : Chunks) → Closes room left s c → (o : Option ℕ) → chunk_step c.chunks c.segments (drop (bytes_before room left c) s) ≡ Ok o →
    (bytes_before room left c + 4 ≤ length s) × (Ok (record { entries = room - c.chunks; left = length s - bytes_before room left c - 4 }) ≡ list_check 0 (write_list room left s))
closed_by room left s c p None e = p.ended e
closed_by room left s c p (Some n) e = absurd (p.no_more n e)

closes_here : (room left : ℕ) (s : List ℕ) → ((n : ℕ) → chunk_step room left s ≡ Ok (Some n) → ⊥) → Closes room left s (record { chunks = room; segments = left })
unfolding list_check
closes_here room left s none =
    let front : (room - room) * 8 + (left - left) * 16 ≡ 0 = omega arith in
    record {
      few = omega arith;
      within = omega arith;
      long = omega arith;
      faulty = λ k e. fault (chunk_front room left s) k (rw front at e);
      ended = λ e. end (chunk_front room left s) (rw front at e);
      no_more = λ n e. none n (rw front at e);
    }
  where
    fault : ChunkFront room left s → (k : ℕ) → chunk_step room left s ≡ Err k → Err k ≡ list_check 0 (write_list room left s)
    fault (ends f m) k e = absurd (let z : ◌≡◌ {A = ℕ} 0 1 = cc in omega arith)
    fault (unmarked n f m) k e = let same : k ≡ n = cc in rw (writes_unmarked left s room n m, same)
    fault (full f m h) k e = let same : k ≡ 7 = cc in rw (writes_full left s room h m, same)
    fault (uncounted n f m h q) k e = let same : k ≡ n = cc in rw (writes_uncounted left s room n h m q, same)
    fault (another c u f m h q) k e = absurd (let z : ◌≡◌ {A = ℕ} 0 1 = cc in omega arith)

    end : ChunkFront room left s → chunk_step room left s ≡ Ok None →
        ((room - room) * 8 + (left - left) * 16 + 4 ≤ length s) × (Ok (record { entries = room - room; left = length s - ((room - room) * 8 + (left - left) * 16) - 4 }) ≡ list_check 0 (write_list room left s))
    end (ends f m) e =
        let four = end_room s m in
        let none_there : room - room ≡ 0 = omega arith in
        let rest : length s - ((room - room) * 8 + (left - left) * 16) - 4 ≡ length s - 4 = omega arith in
        (omega arith, rw (writes_end left s room m, rest, none_there, length-drop 4 s))
    end (unmarked n f m) e = absurd (let z : ◌≡◌ {A = ℕ} 0 1 = cc in omega arith)
    end (full f m h) e = absurd (let z : ◌≡◌ {A = ℕ} 0 1 = cc in omega arith)
    end (uncounted n f m h q) e = absurd (let z : ◌≡◌ {A = ℕ} 0 1 = cc in omega arith)
    end (another c u f m h q) e = absurd (let z : ◌≡◌ {A = ℕ} 0 1 = cc in omega arith)

closes_later : (room left : ℕ) (s : List ℕ) (n : ℕ) (c : Chunks) → chunk_step room left s ≡ Ok (Some n) → Closes (room - 1) (left - n) (drop (8 + n * 16) s) c → Closes room left s c
closes_later room left s n c e later =
    let f = write_further room left s _ refl n e in
    let pos = f.room_left in
    let fit = f.few in
    let long = f.long in
    let few = later.few in
    let within = later.within in
    let size = length-drop (8 + n * 16) s in
    let place : 8 + n * 16 + ((room - 1 - c.chunks) * 8 + (left - n - c.segments) * 16) ≡ (room - c.chunks) * 8 + (left - c.segments) * 16 = omega arith in
    let same : chunk_step c.chunks c.segments (drop (bytes_before (room - 1) (left - n) c) (drop (8 + n * 16) s)) ≡ chunk_step c.chunks c.segments (drop (bytes_before room left c) s) =
    rw (drop-drop (bytes_before (room - 1) (left - n) c) (8 + n * 16) s, place) in
    record {
      few = omega arith;
      within = omega arith;
      long = omega (arith, later.long);
      faulty = λ k q. rw f.is (prepend_refusal f.first (write_list (room - 1) (left - n) (drop (8 + n * 16) s)) k (later.faulty k (same ∙ q)));
      ended = λ q. let d = later.ended (same ∙ q) in
          let rest : length s - bytes_before room left c - 4 ≡ length (drop (8 + n * 16) s) - bytes_before (room - 1) (left - n) c - 4 = omega arith in
          let more : room - c.chunks ≡ room - 1 - c.chunks + 1 = omega arith in
          (omega (arith, d.0), rw (f.is, rest, more) (prepend_checked f.first (write_list (room - 1) (left - n) (drop (8 + n * 16) s)) (room - 1 - c.chunks) _ d.1));
      no_more = λ k q. later.no_more k (same ∙ q);
    }

pub closes : (room left : ℕ) (s : List ℕ) → Closes room left s (room_behind room left s)
unfolding room_behind
closes zero left s = closes_here zero left s (λ n e. absurd (omega (arith, write_room zero left s _ refl n e)))
closes (suc room) left s = go (chunk_step (suc room) left s) refl (λ n. closes room (left - n) (drop (8 + n * 16) s))
  where
    go : (step : Result (Option ℕ) ℕ) → chunk_step (suc room) left s ≡ step → ((n : ℕ) → Closes room (left - n) (drop (8 + n * 16) s) (room_behind room (left - n) (drop (8 + n * 16) s))) →
        Closes (suc room) left s (behind_step step (record { chunks = suc room; segments = left }) (λ n. room_behind room (left - n) (drop (8 + n * 16) s)))
    go (Err n) e again = closes_here (suc room) left s (λ k q. let z : ◌≡◌ {A = ℕ} 0 1 = cc in omega arith)
    go (Ok None) e again = closes_here (suc room) left s (λ k q. let z : ◌≡◌ {A = ℕ} 0 1 = cc in omega arith)
    go (Ok (Some n)) e again = let r : suc room - 1 ≡ room = omega arith in closes_later (suc room) left s n _ e (rw r (again n))

-- What a count answers, by its word w.
module _ (left : ℕ) (s : List ℕ) (w : Result ℕ ℕ) (is : w ≡ word_of s) where
  pub count_unread : (k : ℕ) → w ≡ Err k → Err k ≡ count_step (counted left s)
  unfolding counted
  count_unread k e = rw (← is, e)

  module _ (n : ℕ) (e : w ≡ Ok n) where
    value : word_of s ≡ Ok n
    value = sym is ∙ e

    pub count_over : left < n → Err 7 ≡ count_step (counted left s)
    unfolding counted
    count_over h = rw (value, lt-leb n left h)

    pub count_short : n ≤ left → length s < 4 + n * 16 → Err 5 ≡ count_step (counted left s)
    unfolding counted segments
    count_short few h =
        let four = word_room s n value in
        let short : length (drop 4 s) < n * 16 = omega (arith, length-drop 4 s) in
        rw (value, le-leb n left few, lt-leb (n * 16) (length (drop 4 s)) short)

    pub count_chunk : n ≤ left → 4 + n * 16 ≤ length s → Ok n ≡ count_step (counted left s)
    unfolding counted segments
    count_chunk few h =
        let long : n * 16 ≤ length (drop 4 s) = omega (arith, length-drop 4 s) in
        rw (value, le-leb n left few, le-leb (n * 16) (length (drop 4 s)) long, length_each 16 (λ t. segment_at t 0) n (drop 4 s))

-- The first of n chunks, and the rest.
module _ (n : ℕ) (some_left : n ≡ 0 → ⊥) (s : List ℕ) where
  pub chunks_next : chunks_at n s ≡ each 16 (λ t. segment_at t 0) (word_at s 4) (drop 8 s) ∷ chunks_at (n - 1) (drop (8 + word_at s 4 * 16) s)
  unfolding chunks_at
  chunks_next = go n some_left
    where
      go : (m : ℕ) → (m ≡ 0 → ⊥) → chunks_at m s ≡ each 16 (λ t. segment_at t 0) (word_at s 4) (drop 8 s) ∷ chunks_at (m - 1) (drop (8 + word_at s 4 * 16) s)
      go zero h = absurd (h refl)
      go (suc m) h = let e : suc m - 1 ≡ m = omega arith in rw e

  pub fit_next : (left : ℕ) → ChunksFit n left s → (8 + word_at s 4 * 16 ≤ length s) × (word_at s 4 ≤ left) × ChunksFit (n - 1) (left - word_at s 4) (drop (8 + word_at s 4 * 16) s)
  unfolding ChunksFit
  fit_next left f = go n some_left f
    where
      go : (m : ℕ) → (m ≡ 0 → ⊥) → ChunksFit m left s → (8 + word_at s 4 * 16 ≤ length s) × (word_at s 4 ≤ left) × ChunksFit (m - 1) (left - word_at s 4) (drop (8 + word_at s 4 * 16) s)
      go zero h f = absurd (h refl)
      go (suc m) h f = let e : suc m - 1 ≡ m = omega arith in rw e f

-- A loop over the chunks of a write list that was checked: it has passed i of them with `used` segments and stands at byte `from`.
pub record Passing (s : List ℕ) (n from used i : ℕ) : Type 0 where
  pub within : i ≤ n
  pub few : used ≤ 16
  pub there : from ≤ length s
  pub fits : ChunksFit (n - i) (16 - used) (drop from s)

pub passing_starts : (s : List ℕ) (n : ℕ) → ChunksFit n 16 s → Passing s n 0 0 0
passing_starts s n fits =
    let all : n - 0 ≡ n = omega arith in
    record { within = omega arith; few = omega arith; there = omega arith; fits = rw all fits }

module _ (s : List ℕ) (n from used i : ℕ) (p : Passing s n from used i) (more : i < n) (d : ℕ) (is : d ≡ word_at s (from + 4)) where
  left : n - i ≡ 0 → ⊥
  left e = omega arith

  word_is_there : word_at (drop from s) 4 ≡ d
  word_is_there = word_drop from 4 s ∙ sym is

  next_fits : (8 + d * 16 ≤ length (drop from s)) × (d ≤ 16 - used) × ChunksFit (n - i - 1) (16 - used - d) (drop (8 + d * 16) (drop from s))
  next_fits = subst (λ (k : ℕ). (8 + k * 16 ≤ length (drop from s)) × (k ≤ 16 - used) × ChunksFit (n - i - 1) (16 - used - k) (drop (8 + k * 16) (drop from s))) word_is_there (fit_next (n - i) left (drop from s) (16 - used) p.fits)

  pub passing_fits : (from + (8 + d * 16) ≤ length s) × (used + d ≤ 16)
  passing_fits = let there = p.there in let few = p.few in (omega (arith, next_fits.0, length-drop from s), omega (arith, next_fits.1))

  pub passing_next : Passing s n (from + (8 + d * 16)) (used + d) (i + 1)
  passing_next =
      let fewer : n - i - 1 ≡ n - (i + 1) = omega arith in
      let room : 16 - used - d ≡ 16 - (used + d) = omega arith in
      record {
        within = omega arith;
        few = passing_fits.1;
        there = passing_fits.0;
        fits = rw (← fewer, ← room, ← (drop-drop (8 + d * 16) from s)) next_fits.2;
      }

  -- The chunk that it passes, and those behind.
  pub passing_chunk : chunks_at (n - i) (drop from s) ≡ each 16 (λ t. segment_at t 0) d (drop (from + 8) s) ∷ chunks_at (n - (i + 1)) (drop (from + (8 + d * 16)) s)
  passing_chunk =
      let fewer : n - i - 1 ≡ n - (i + 1) = omega arith in
      rw (← fewer, ← (drop-drop 8 from s), ← (drop-drop (8 + d * 16) from s))
      (subst (λ (k : ℕ). chunks_at (n - i) (drop from s) ≡ each 16 (λ t. segment_at t 0) k (drop 8 (drop from s)) ∷ chunks_at (n - i - 1) (drop (8 + k * 16) (drop from s))) word_is_there (chunks_next (n - i) left (drop from s)))
