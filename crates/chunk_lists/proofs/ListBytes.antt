-- What a list that was read says of the bytes it was read from: how long it is, where its entries stand, what is behind it.
-- Assumes nothing.
use mathlib.Core.Path.{◌≡◌, refl, sym, ap, subst, ◌∙◌}
use mathlib.Core.Bool.{true}
use mathlib.Core.List.{List, [], ◌∷◌}
use mathlib.Core.Option.{none, some}
use Prim.Native.Nat.{ℕ, zero, suc, ◌+◌, ◌-◌, ◌*◌, ◌≤◌}
use native.Mathlib.Omega.{arith}
use Rattle.std.specs.Prelude.{Some, None, Result, Ok, Err}
use Rattle.chunk_lists.specs.declared.ListEnd.{ListEnd}
use native.Mathlib.Nat.{suc-mul}
use lib.ListN.{length, drop, length-drop, length-append}
use lib.Seq.{drop-drop}
use borrow.Author.Tests.{eq-eqb}
use Rattle.wire.specs.Wire.{word_at, segment_at, read_segment_at, joined}
use Rattle.wire.specs.declared.Segment.{Segment}
use Rattle.wire.specs.declared.ReadSegment.{ReadSegment}
use Rattle.chunk_lists.specs.Parsed.{Parsed, refused, done, prepend, each}
use Rattle.chunk_lists.specs.Lists.{marker_of, read_list, all_aligned, counted, write_list, reply_chunk}
use Rattle.chunk_lists.specs.Internal.Steps.{chunk_step, list_check, marked_segment_at, chunks_at, ChunksFit}
use Rattle.chunk_lists.specs.declared.Marker.{Marker}
use Rattle.chunk_lists.specs.declared.Marker.TheVariants as marker
use Rattle.chunk_lists.proofs.ListSteps.{never, end_room, ReadFront, ends, faulty, another, read_front, ChunkFront, chunk_front, unmarked, full, uncounted, Chunk, chunk_of, writes_end, writes_unmarked, writes_full, writes_uncounted, writes_chunk, marker_number, count_number}
use Rattle.chunk_lists.proofs.ListSteps as laws

-- A list that has one more entry in front.
pub record Longer {A : Type 0} (x : A) (p : Parsed (List A)) (l : List A) (t : List ℕ) : Type 0 where
  pub rest : List A
  pub read : p ≡ done rest t
  pub is : l ≡ x ∷ rest

pub longer : {A : Type 0} (x : A) (p : Parsed (List A)) (l : List A) (t : List ℕ) → prepend x p ≡ done l t → Longer x p l t
longer x (refused n) l t e = absurd (never e)
longer x (done xs u) l t e = let same : xs ≡ xs = refl in record { rest = xs; read = cc; is = cc }

-- A list that was checked, by what the checking answered.
pub record Checked {A : Type 0} (before : ℕ) (p : Parsed (List A)) (n left : ℕ) : Type 0 where
  pub list : List A
  pub behind : List ℕ
  pub read : p ≡ done list behind
  pub many : before + length list ≡ n
  pub rest : length behind ≡ left

ends_same : {a b : ListEnd} → ◌≡◌ {A = Result ListEnd ℕ} (Ok a) (Ok b) → a ≡ b
ends_same e = cc

pub checked : {A : Type 0} (before : ℕ) (p : Parsed (List A)) (n left : ℕ) → Ok (record { entries = n; left = left }) ≡ list_check before p → Checked before p n left
unfolding list_check
checked before (refused k) n left e = absurd (let z : ◌≡◌ {A = ℕ} 0 1 = cc in omega arith)
checked before (done l t) n left e =
    record { list = l; behind = t; read = refl; many = ap (λ (d : ListEnd). d.entries) (sym (ends_same e)); rest = ap (λ (d : ListEnd). d.left) (sym (ends_same e)) }

pub unchecked : {A : Type 0} (before : ℕ) (p : Parsed (List A)) (n : ℕ) → Err n ≡ list_check before p → p ≡ refused n
unfolding list_check
unchecked before (refused k) n e = cc
unchecked before (done l t) n e = absurd (let z : ◌≡◌ {A = ℕ} 0 1 = cc in omega arith)

-- A read list that was read.
pub record ReadsAre (room : ℕ) (s : List ℕ) (l : List ReadSegment) (t : List ℕ) : Type 0 where
  pub few : length l ≤ room
  pub long : 4 + length l * 24 ≤ length s
  pub is : l ≡ each 24 marked_segment_at (length l) s
  pub behind : t ≡ drop (4 + length l * 24) s

reads_none : (room : ℕ) (s : List ℕ) (l : List ReadSegment) (t : List ℕ) → 4 ≤ length s → done [] (drop 4 s) ≡ done l t → ReadsAre room s l t
unfolding each
reads_none room s l t h e =
    let none_read : l ≡ [] = cc in
    let rest : t ≡ drop 4 s = cc in
    rw (none_read, rest) (record { few = omega arith; long = omega arith; is = refl; behind = refl })

reads_more : (room : ℕ) (s : List ℕ) (x : ReadSegment) (xs : List ReadSegment) (t : List ℕ) → 24 ≤ length s → x ≡ read_segment_at s 4 → ReadsAre room (drop 24 s) xs t → ReadsAre (suc room) s (x ∷ xs) t
unfolding each
reads_more room s x xs t h e r =
    let n : 24 + (4 + length xs * 24) ≡ 4 + suc (length xs) * 24 = omega (arith, suc-mul (length xs) 24) in
    record {
      few = omega (arith, r.few);
      long = omega (arith, r.long, length-drop 24 s, n);
      is = rw (← e) (ap (λ (l : List ReadSegment). x ∷ l) r.is);
      behind = r.behind ∙ rw (drop-drop (4 + length xs * 24) 24 s, n);
    }

pub reads_of : (room : ℕ) (s : List ℕ) (l : List ReadSegment) (t : List ℕ) → read_list room s ≡ done l t → ReadsAre room s l t
reads_of zero s l t e = go (read_front zero s)
  where
    go : ReadFront zero s → ReadsAre zero s l t
    go (ends f h is) = reads_none zero s l t h (sym is ∙ e)
    go (faulty n f small is) = absurd (never (sym is ∙ e))
    go (laws.ReadFront.another x f h long at4 is aligned) = absurd (omega arith)
reads_of (suc room) s l t e = go (read_front (suc room) s) (reads_of room)
  where
    go : ReadFront (suc room) s → ((s : List ℕ) (l : List ReadSegment) (t : List ℕ) → read_list room s ≡ done l t → ReadsAre room s l t) → ReadsAre (suc room) s l t
    go (ends f h is) again = reads_none (suc room) s l t h (sym is ∙ e)
    go (faulty n f small is) again = absurd (never (sym is ∙ e))
    go (laws.ReadFront.another x f h long at4 is aligned) again =
        let r : suc room - 1 ≡ room = omega arith in
        let q : prepend x (read_list room (drop 24 s)) ≡ done l t = rw (← r) (sym is ∙ e) in
        let m = longer x (read_list room (drop 24 s)) l t q in
        rw m.is (reads_more room s x m.rest t long at4 (again (drop 24 s) m.rest t m.read))

none_of : {l : List ReadSegment} {s t : List ℕ} → done [] s ≡ done l t → l ≡ []
none_of e = cc

-- The positions of a read list that was read are multiples of 4.
pub reads_aligned : (room : ℕ) (s : List ℕ) (l : List ReadSegment) (t : List ℕ) → read_list room s ≡ done l t → all_aligned l ≡ true
unfolding all_aligned
reads_aligned zero s l t e = go (read_front zero s)
  where
    go : ReadFront zero s → all_aligned l ≡ true
    go (ends f h is) = let none_read : l ≡ [] = none_of (sym is ∙ e) in rw none_read
    go (faulty n f small is) = absurd (never (sym is ∙ e))
    go (laws.ReadFront.another x f h long at4 is aligned) = absurd (omega arith)
reads_aligned (suc room) s l t e = go (read_front (suc room) s) (reads_aligned room)
  where
    go : ReadFront (suc room) s → ((s : List ℕ) (l : List ReadSegment) (t : List ℕ) → read_list room s ≡ done l t → all_aligned l ≡ true) → all_aligned l ≡ true
    go (ends f h is) again = let none_read : l ≡ [] = none_of (sym is ∙ e) in rw none_read
    go (faulty n f small is) again = absurd (never (sym is ∙ e))
    go (laws.ReadFront.another x f h long at4 is aligned) again =
        let r : suc room - 1 ≡ room = omega arith in
        let q : prepend x (read_list room (drop 24 s)) ≡ done l t = rw (← r) (sym is ∙ e) in
        let m = longer x (read_list room (drop 24 s)) l t q in
        rw (m.is, eq-eqb _ _ aligned) (again (drop 24 s) m.rest t m.read)

-- A fault behind an entry.
prepend_refused : {A : Type 0} (x : A) (p : Parsed (List A)) (n : ℕ) → prepend x p ≡ refused n → p ≡ refused n
prepend_refused x (refused m) n q = q
prepend_refused x (done l t) n q = absurd (never (sym q))

-- No fault of a read list has a number above 9.
pub read_number_lem : (room : ℕ) (s : List ℕ) (n : ℕ) → read_list room s ≡ refused n → n ≤ 9
read_number_lem zero s n e = go (read_front zero s)
  where
    go : ReadFront zero s → n ≤ 9
    go (ends f h is) = absurd (never (sym e ∙ is))
    go (faulty m f small is) = let same : refused m ≡ refused n = sym is ∙ e in let equal : m ≡ n = cc in omega arith
    go (laws.ReadFront.another x f h long at4 is aligned) = absurd (omega arith)
read_number_lem (suc room) s n e = go (read_front (suc room) s) (read_number_lem room)
  where
    go : ReadFront (suc room) s → ((s : List ℕ) (n : ℕ) → read_list room s ≡ refused n → n ≤ 9) → n ≤ 9
    go (ends f h is) again = absurd (never (sym e ∙ is))
    go (faulty m f small is) again = let same : refused m ≡ refused n = sym is ∙ e in let equal : m ≡ n = cc in omega arith
    go (laws.ReadFront.another x f h long at4 is aligned) again =
        let r : suc room - 1 ≡ room = omega arith in
        let q : prepend x (read_list room (drop 24 s)) ≡ refused n = rw (← r) (sym is ∙ e) in
        again (drop 24 s) n (prepend_refused x (read_list room (drop 24 s)) n q)

-- A read list that is refused has no number above 9.
pub entries_number_lem : (s : List ℕ) (n : ℕ) → Err n ≡ list_check 0 (read_list 16 s) → n ≤ 9
unfolding list_check
entries_number_lem s n e = go (read_list 16 s) refl e
  where
    go : (p : Parsed (List ReadSegment)) → read_list 16 s ≡ p → Err n ≡ list_check 0 p → n ≤ 9
    go (refused m) is same = let equal : m ≡ n = cc in omega (arith, read_number_lem 16 s m is)
    go (done l t) is same = absurd (let z : ◌≡◌ {A = ℕ} 0 1 = cc in omega arith)

-- A write list that was read.
pub record WritesAre (room left : ℕ) (s : List ℕ) (cs : List (List Segment)) (t : List ℕ) : Type 0 where
  pub few : length cs ≤ room
  pub within : length (joined (λ c. c) cs) ≤ left
  pub fits : ChunksFit (length cs) left s
  pub is : cs ≡ chunks_at (length cs) s
  pub short : length t ≤ length s
  pub sized : length t + (4 + length cs * 8 + length (joined (λ c. c) cs) * 16) ≡ length s
  pub behind : t ≡ drop (length s - length t) s

writes_none : (room left : ℕ) (s : List ℕ) (cs : List (List Segment)) (t : List ℕ) → 4 ≤ length s → done [] (drop 4 s) ≡ done cs t → WritesAre room left s cs t
unfolding chunks_at ChunksFit joined
writes_none room left s cs t h e =
    let none_read : cs ≡ [] = cc in
    let rest : t ≡ drop 4 s = cc in
    let four : length s - length (drop 4 s) ≡ 4 = omega (arith, length-drop 4 s) in
    rw (none_read, rest) (record { few = omega arith; within = omega arith; fits = tt; is = refl; short = omega (arith, length-drop 4 s); sized = omega (arith, length-drop 4 s); behind = rw four })

writes_more : (room left : ℕ) (s : List ℕ) (c : List Segment) (u : List ℕ) (cs : List (List Segment)) (t : List ℕ) → Chunk left s c u → WritesAre room (left - length c) u cs t → WritesAre (suc room) left s (c ∷ cs) t
unfolding chunks_at ChunksFit joined
writes_more room left s c u cs t k r =
    let few = k.few in
    let long = k.long in
    let size : length u ≡ length s - (8 + length c * 16) = ap length k.behind ∙ length-drop (8 + length c * 16) s in
    let shorter = r.short in
    let skip : 8 + length c * 16 + (length u - length t) ≡ length s - length t = omega arith in
    let item : c ≡ each 16 (λ v. segment_at v 0) (word_at s 4) (drop 8 s) = k.is ∙ ap (λ (n : ℕ). each 16 (λ v. segment_at v 0) n (drop 8 s)) k.many in
    let rest : u ≡ drop (8 + word_at s 4 * 16) s = k.behind ∙ ap (λ (n : ℕ). drop (8 + n * 16) s) k.many in
    let fits : ChunksFit (length cs) (left - word_at s 4) (drop (8 + word_at s 4 * 16) s) = subst (λ (v : List ℕ). ChunksFit (length cs) (left - word_at s 4) v) rest (subst (λ (n : ℕ). ChunksFit (length cs) (left - n) u) k.many r.fits) in
    let is : cs ≡ chunks_at (length cs) (drop (8 + word_at s 4 * 16) s) = r.is ∙ ap (chunks_at (length cs)) rest in
    record {
      few = omega (arith, r.few);
      within = omega (arith, r.within, length-append c (joined (λ d. d) cs));
      fits = (subst (λ (n : ℕ). 8 + n * 16 ≤ length s) k.many long, subst (λ (n : ℕ). n ≤ left) k.many few, fits);
      is = ap (λ (x : List Segment). x ∷ cs) item ∙ ap (λ (l : List (List Segment)). each 16 (λ v. segment_at v 0) (word_at s 4) (drop 8 s) ∷ l) is;
      short = omega arith;
      sized = omega (arith, r.sized, length-append c (joined (λ d. d) cs));
      behind = r.behind ∙ ap (drop (length u - length t)) k.behind ∙ drop-drop (length u - length t) (8 + length c * 16) s ∙ ap (λ (n : ℕ). drop n s) skip;
    }

pub writes_of : (room left : ℕ) (s : List ℕ) (cs : List (List Segment)) (t : List ℕ) → write_list room left s ≡ done cs t → WritesAre room left s cs t
writes_of zero left s cs t e = go (chunk_front zero left s)
  where
    go : ChunkFront zero left s → WritesAre zero left s cs t
    go (laws.ChunkFront.ends f m) = writes_none zero left s cs t (end_room s m) (sym (writes_end left s zero m) ∙ e)
    go (unmarked n f m) = absurd (never (sym (writes_unmarked left s zero n m) ∙ e))
    go (full f m h) = absurd (never (sym (writes_full left s zero h m) ∙ e))
    go (uncounted n f m h q) = absurd (omega arith)
    go (laws.ChunkFront.another c u f m h q) = absurd (omega arith)
writes_of (suc room) left s cs t e = go (chunk_front (suc room) left s) (writes_of room)
  where
    go : ChunkFront (suc room) left s → ((left : ℕ) (s : List ℕ) (cs : List (List Segment)) (t : List ℕ) → write_list room left s ≡ done cs t → WritesAre room left s cs t) → WritesAre (suc room) left s cs t
    go (laws.ChunkFront.ends f m) again = writes_none (suc room) left s cs t (end_room s m) (sym (writes_end left s (suc room) m) ∙ e)
    go (unmarked n f m) again = absurd (never (sym (writes_unmarked left s (suc room) n m) ∙ e))
    go (full f m h) again = absurd (never (sym (writes_full left s (suc room) h m) ∙ e))
    go (uncounted n f m h q) again = absurd (never (sym (writes_uncounted left s (suc room) n h m q) ∙ e))
    go (laws.ChunkFront.another c u f m h q) again =
        let r : suc room - 1 ≡ room = omega arith in
        let p : prepend c (write_list room (left - length c) u) ≡ done cs t = rw (← r) (sym (writes_chunk left s (suc room) c u h m q) ∙ e) in
        let x = longer c (write_list room (left - length c) u) cs t p in
        rw x.is (writes_more room left s c u x.rest t (chunk_of left s c u m q) (again (left - length c) u x.rest t x.read))

-- No fault of a write list has a number above 9.
pub write_number_lem : (room left : ℕ) (s : List ℕ) (n : ℕ) → write_list room left s ≡ refused n → n ≤ 9
write_number_lem zero left s n e = go (chunk_front zero left s)
  where
    go : ChunkFront zero left s → n ≤ 9
    go (laws.ChunkFront.ends f m) = absurd (never (sym e ∙ writes_end left s zero m))
    go (unmarked k f m) = let same : refused k ≡ refused n = sym (writes_unmarked left s zero k m) ∙ e in let equal : k ≡ n = cc in omega (arith, marker_number s k m)
    go (full f m h) = let same : refused 7 ≡ refused n = sym (writes_full left s zero h m) ∙ e in let equal : 7 ≡ n = cc in omega arith
    go (uncounted k f m h q) = absurd (omega arith)
    go (laws.ChunkFront.another c u f m h q) = absurd (omega arith)
write_number_lem (suc room) left s n e = go (chunk_front (suc room) left s) (write_number_lem room)
  where
    go : ChunkFront (suc room) left s → ((left : ℕ) (s : List ℕ) (n : ℕ) → write_list room left s ≡ refused n → n ≤ 9) → n ≤ 9
    go (laws.ChunkFront.ends f m) again = absurd (never (sym e ∙ writes_end left s (suc room) m))
    go (unmarked k f m) again = let same : refused k ≡ refused n = sym (writes_unmarked left s (suc room) k m) ∙ e in let equal : k ≡ n = cc in omega (arith, marker_number s k m)
    go (full f m h) again = absurd (omega arith)
    go (uncounted k f m h q) again = let same : refused k ≡ refused n = sym (writes_uncounted left s (suc room) k h m q) ∙ e in let equal : k ≡ n = cc in omega (arith, count_number left (drop 4 s) k q)
    go (laws.ChunkFront.another c u f m h q) again =
        let r : suc room - 1 ≡ room = omega arith in
        let p : prepend c (write_list room (left - length c) u) ≡ refused n = rw (← r) (sym (writes_chunk left s (suc room) c u h m q) ∙ e) in
        again (left - length c) u n (prepend_refused c (write_list room (left - length c) u) n p)

-- An empty list, by its marker.
module _ (s : List ℕ) (m : Result Marker ℕ) (is : m ≡ marker_of s) (ended : m ≡ Ok marker.End) where
  end_is : marker_of s ≡ Ok marker.End
  end_is = sym is ∙ ended

  -- Its marker is there, and nothing else is read.
  pub marker_there : 4 ≤ length s
  marker_there = end_room s end_is

  none_listed : {A : Type 0} (p : Parsed (List A)) → p ≡ done [] (drop 4 s) → Ok (record { entries = 0; left = (length s - 4) }) ≡ list_check 0 p
  unfolding list_check
  none_listed p e = rw (e, length-drop 4 s)

  pub no_entries : Ok (record { entries = 0; left = (length s - 4) }) ≡ list_check 0 (read_list 16 s)
  unfolding read_list
  no_entries = none_listed (read_list 16 s) (rw end_is)

  pub no_chunks : Ok (record { entries = 0; left = (length s - 4) }) ≡ list_check 0 (write_list 4 16 s)
  no_chunks = none_listed (write_list 4 16 s) (writes_end 16 s 4 end_is)

-- The reply chunk behind a marker 1.
pub reply_chunk_lem : (s : List ℕ) (c : List Segment) (u : List ℕ) → marker_of s ≡ Ok marker.Entry → counted 16 (drop 4 s) ≡ done c u → reply_chunk s ≡ done (some c) u
unfolding reply_chunk
reply_chunk_lem s c u m q = rw (m, q)

-- The reply chunk, by its step.
module _ (s : List ℕ) where
  pub reply_refused : (n : ℕ) → chunk_step 1 16 s ≡ Err n → reply_chunk s ≡ refused n
  unfolding reply_chunk
  reply_refused n e = go (chunk_front 1 16 s)
    where
      go : ChunkFront 1 16 s → reply_chunk s ≡ refused n
      go (laws.ChunkFront.ends f m) = absurd (let z : ◌≡◌ {A = ℕ} 0 1 = cc in omega arith)
      go (unmarked k f m) = let same : k ≡ n = cc in rw (m, same)
      go (full f m h) = absurd (omega arith)
      go (uncounted k f m h q) = let same : k ≡ n = cc in rw (m, q, same)
      go (laws.ChunkFront.another c u f m h q) = absurd (let z : ◌≡◌ {A = ℕ} 0 1 = cc in omega arith)

  pub reply_absent : chunk_step 1 16 s ≡ Ok None → (4 ≤ length s) × (reply_chunk s ≡ done none (drop 4 s))
  unfolding reply_chunk
  reply_absent e = go (chunk_front 1 16 s)
    where
      go : ChunkFront 1 16 s → (4 ≤ length s) × (reply_chunk s ≡ done none (drop 4 s))
      go (laws.ChunkFront.ends f m) = (end_room s m, rw m)
      go (unmarked k f m) = absurd (let z : ◌≡◌ {A = ℕ} 0 1 = cc in omega arith)
      go (full f m h) = absurd (omega arith)
      go (uncounted k f m h q) = absurd (let z : ◌≡◌ {A = ℕ} 0 1 = cc in omega arith)
      go (laws.ChunkFront.another c u f m h q) = absurd (let z : ◌≡◌ {A = ℕ} 0 1 = cc in omega arith)

  pub record ReplyIs (n : ℕ) : Type 0 where
    pub chunk : List Segment
    pub few : n ≤ 16
    pub long : 8 + n * 16 ≤ length s
    pub many : length chunk ≡ n
    pub read : reply_chunk s ≡ done (some chunk) (drop (8 + n * 16) s)
    pub is : chunk ≡ each 16 (λ v. segment_at v 0) n (drop 8 s)

  pub reply_present : (n : ℕ) → chunk_step 1 16 s ≡ Ok (Some n) → ReplyIs n
  reply_present n e = go (chunk_front 1 16 s)
    where
      go : ChunkFront 1 16 s → ReplyIs n
      go (laws.ChunkFront.ends f m) = absurd (let z : ◌≡◌ {A = ℕ} 0 1 = cc in omega arith)
      go (unmarked k f m) = absurd (let z : ◌≡◌ {A = ℕ} 0 1 = cc in omega arith)
      go (full f m h) = absurd (omega arith)
      go (uncounted k f m h q) = absurd (let z : ◌≡◌ {A = ℕ} 0 1 = cc in omega arith)
      go (laws.ChunkFront.another c u f m h q) =
          let same : length c ≡ n = cc in
          let k = chunk_of 16 s c u m q in
          record {
            chunk = c;
            few = rw same at k.few;
            long = rw same at k.long;
            many = same;
            read = reply_chunk_lem s c u m q ∙ rw (k.behind, same);
            is = k.is ∙ ap (λ (j : ℕ). each 16 (λ v. segment_at v 0) j (drop 8 s)) same;
          }
