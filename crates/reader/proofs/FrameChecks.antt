-- Laws about a frame that is checked from left to right: what each answer says of the frame.
-- Assumes nothing.
use mathlib.Core.Path.{◌≡◌, refl, sym, ap, ◌∙◌}
use mathlib.Core.Bool.{Bool, true, false, cond}
use mathlib.Core.List.{List}
use mathlib.Core.Option.{Option, none, some}
use Rattle.std.specs.Prelude.{Some, None, Result, Ok, Err}
use Rattle.std.specs.Prelude as prelude
use Rattle.chunk_lists.specs.declared.ListEnd.{ListEnd}
use Prim.Native.Nat.{ℕ, ◌+◌, ◌-◌, ◌*◌, ◌≤◌, ◌<◌}
use native.Mathlib.Omega.{arith}
use borrow.Author.Tests.{le-leb, lt-leb, leb-true, leb-false, eq-eqb, ne_eqb, eqb-true, eqb-false}
use lib.ListN.{length, take, drop, length-drop}
use lib.Seq.{drop-drop}
use lib.Dec.{leb, eqb}
use Rattle.wire.specs.Wire.{word_at, word_of}
use Rattle.wire.specs.declared.Segment.{Segment}
use Rattle.wire.specs.declared.ReadSegment.{ReadSegment}
use Rattle.wire.proofs.Fields.{part_from, word_drop}
use Rattle.chunk_lists.specs.Parsed.{Parsed, refused, done}
use Rattle.chunk_lists.specs.Lists.{read_list, write_list, reply_chunk}
use Rattle.chunk_lists.specs.Internal.Steps.{chunk_step, list_check}
use Rattle.chunk_lists.proofs.ListBytes.{checked, unchecked, reads_of, writes_of, reply_refused, reply_absent, reply_present}
use Rattle.header.specs.Content.{Content}
use Rattle.reader.specs.Frame.{three_parts, error_body, nothing_behind, by_procedure, read_frame}
use Rattle.reader.specs.Internal.Shape.{shape_of, error_shape, frame_check, ended_check}
use Rattle.header.specs.declared.Kind.{Kind}
use Rattle.header.specs.declared.Kind.TheVariants.{Msg, Nomsg}
use Rattle.header.specs.declared.ErrorKind.TheVariants.{Version, Chunk}

-- Of a suffix of s, the bytes behind are a suffix of s.
pub suffix : (s u t : List ℕ) (k : ℕ) → k ≤ length s → u ≡ drop k s → length t ≤ length u → t ≡ drop (length u - length t) u → t ≡ drop (length s - length t) s
suffix s u t k h e short q =
    let size : length u ≡ length s - k = ap length e ∙ length-drop k s in
    let n : k + (length u - length t) ≡ length s - length t = omega arith in
    q ∙ ap (drop (length u - length t)) e ∙ drop-drop (length u - length t) k s ∙ ap (λ (j : ℕ). drop j s) n

-- The read list behind the fixed words, by what its checking answered.
pub record ReadsFound (s : List ℕ) (n left : ℕ) : Type 0 where
  pub found : List ReadSegment
  pub many : length found ≡ n
  pub fits : left ≤ length s
  pub read : read_list 16 (drop 16 s) ≡ done found (drop (length s - left) s)

module _ (s : List ℕ) (r : Result ListEnd ℕ) (long : 16 ≤ length s) (is : r ≡ list_check 0 (read_list 16 (take (length s - 16) (drop 16 s)))) where
  here : r ≡ list_check 0 (read_list 16 (drop 16 s))
  here = is ∙ ap (λ (u : List ℕ). list_check 0 (read_list 16 u)) (part_from 16 s)

  pub reads_found : (n left : ℕ) → r ≡ Ok (record { entries = n; left = left }) → ReadsFound s n left
  reads_found n left e =
      let k = checked 0 (read_list 16 (drop 16 s)) n left (sym e ∙ here) in
      let a = reads_of 16 (drop 16 s) k.list k.behind k.read in
      let size : length k.behind ≡ length (drop 16 s) - (4 + length k.list * 24) = ap length a.behind ∙ length-drop _ (drop 16 s) in
      let rest : length k.behind ≡ left = k.rest in
      let front = length-drop 16 s in
      let enough = a.long in
      let p : 16 + (4 + length k.list * 24) ≡ length s - left = omega arith in
      record {
        found = k.list;
        many = omega (arith, k.many);
        fits = omega arith;
        read = k.read ∙ ap (done k.list) (a.behind ∙ drop-drop (4 + length k.list * 24) 16 s ∙ ap (λ (j : ℕ). drop j s) p);
      }

  pub reads_refused : (n : ℕ) → r ≡ Err n → read_list 16 (drop 16 s) ≡ refused n
  reads_refused n e = unchecked 0 (read_list 16 (drop 16 s)) n (sym e ∙ here)

-- The write list in the last bytes of s.
pub record WritesFound (s : List ℕ) (from m left : ℕ) : Type 0 where
  pub found : List (List Segment)
  pub many : length found ≡ m
  pub fits : left ≤ length s
  pub read : write_list 4 16 (drop from s) ≡ done found (drop (length s - left) s)

module _ (s : List ℕ) (r : Result ListEnd ℕ) (from : ℕ) (fits : from ≤ length s) (is : r ≡ list_check 0 (write_list 4 16 (take (length s - from) (drop from s)))) where
  there : r ≡ list_check 0 (write_list 4 16 (drop from s))
  there = is ∙ ap (λ (u : List ℕ). list_check 0 (write_list 4 16 u)) (part_from from s)

  pub writes_found : (m left : ℕ) → r ≡ Ok (record { entries = m; left = left }) → WritesFound s from m left
  writes_found m left e =
      let k = checked 0 (write_list 4 16 (drop from s)) m left (sym e ∙ there) in
      let a = writes_of 4 16 (drop from s) k.list k.behind k.read in
      let rest : length k.behind ≡ left = k.rest in
      let short = a.short in
      record {
        found = k.list;
        many = omega (arith, k.many);
        fits = omega (arith, length-drop from s);
        read = k.read ∙ ap (done k.list) (suffix s (drop from s) k.behind from fits refl short a.behind ∙ ap (λ (j : ℕ). drop (length s - j) s) rest);
      }

  pub writes_refused : (n : ℕ) → r ≡ Err n → write_list 4 16 (drop from s) ≡ refused n
  writes_refused n e = unchecked 0 (write_list 4 16 (drop from s)) n (sym e ∙ there)

-- The reply chunk in the bytes of s from p on.
module _ (s : List ℕ) (r : Result (prelude.Option ℕ) ℕ) (p : ℕ) (fits : p ≤ length s) (is : r ≡ chunk_step 1 16 (take (length s - p) (drop p s))) where
  step : r ≡ chunk_step 1 16 (drop p s)
  step = is ∙ ap (chunk_step 1 16) (part_from p s)

  pub no_reply : (n : ℕ) → r ≡ Err n → reply_chunk (drop p s) ≡ refused n
  no_reply n e = reply_refused (drop p s) n (sym step ∙ e)

  pub absent_reply : r ≡ Ok None → (p + 4 ≤ length s) × (reply_chunk (drop p s) ≡ done none (drop (p + 4) s))
  absent_reply e =
      let a = reply_absent (drop p s) (sym step ∙ e) in
      (omega (arith, a.0, length-drop p s), a.1 ∙ ap (done none) (drop-drop 4 p s))

  pub record Reply (m : ℕ) : Type 0 where
    pub chunk : List Segment
    pub many : length chunk ≡ m
    pub few : m ≤ 16
    pub long : p + 8 + m * 16 ≤ length s
    pub read : reply_chunk (drop p s) ≡ done (some chunk) (drop (p + 8 + m * 16) s)

  pub present_reply : (m : ℕ) → r ≡ Ok (Some m) → Reply m
  present_reply m e =
      let a = reply_present (drop p s) m (sym step ∙ e) in
      let n : p + (8 + m * 16) ≡ p + 8 + m * 16 = omega arith in
      record {
        chunk = a.chunk;
        many = a.many;
        few = a.few;
        long = omega (arith, a.long, length-drop p s);
        read = a.read ∙ ap (done (some a.chunk)) (drop-drop (8 + m * 16) p s ∙ ap (λ (j : ℕ). drop j s) n);
      }

-- The three parts of a frame, by how far their reading came.
module _ (kind : Kind) (xid credit : ℕ) (s f : List ℕ) where
  pub parts_reads : (n : ℕ) → read_list 16 f ≡ refused n → Err n ≡ frame_check (length s) (three_parts kind xid credit f)
  unfolding three_parts frame_check
  parts_reads n e = rw e

  module _ (reads : List ReadSegment) (t : List ℕ) (a : read_list 16 f ≡ done reads t) where
    pub parts_writes : (n : ℕ) → write_list 4 16 t ≡ refused n → Err n ≡ frame_check (length s) (three_parts kind xid credit f)
    unfolding three_parts frame_check
    parts_writes n e = rw (a, e)

    module _ (writes : List (List Segment)) (u : List ℕ) (b : write_list 4 16 t ≡ done writes u) where
      pub parts_reply : (n : ℕ) → reply_chunk u ≡ refused n → Err n ≡ frame_check (length s) (three_parts kind xid credit f)
      unfolding three_parts frame_check
      parts_reply n e = rw (a, b, e)

      pub parts_done : (reply : Option (List Segment)) (end : ℕ) → end ≤ length s → reply_chunk u ≡ done reply (drop end s) →
          Ok (shape_of (record { kind = kind; xid = xid; credit = credit; reads = reads; writes = writes; reply = reply }) end) ≡ frame_check (length s) (three_parts kind xid credit f)
      unfolding three_parts frame_check
      parts_done reply end h e =
          let n : length s - length (drop end s) ≡ end = omega (arith, length-drop end s) in
          rw (a, b, e, n)

-- A word that is there, and one that is not.
pub word_there : (s : List ℕ) → 4 ≤ length s → word_of s ≡ Ok (word_at s 0)
unfolding word_of
word_there s h = rw (le-leb 4 (length s) h)

pub word_missing : (s : List ℕ) → length s < 4 → word_of s ≡ Err 5
unfolding word_of
word_missing s h = rw (lt-leb 4 (length s) h)

-- An ERROR header behind its fixed words, by its code word.
module _ (xid credit : ℕ) (s : List ℕ) where
  pub error_uncoded : (n : ℕ) → word_of (drop 16 s) ≡ Err n → Err n ≡ frame_check (length s) (error_body xid credit (drop 16 s))
  unfolding error_body frame_check
  error_uncoded n e = rw e

  module _ (code : ℕ) (coded : word_of (drop 16 s) ≡ Ok code) where
    pub error_other : (code ≡ 1 → ⊥) → (code ≡ 2 → ⊥) → Err 10 ≡ frame_check (length s) (error_body xid credit (drop 16 s))
    unfolding error_body frame_check
    error_other a b = rw (coded, ne_eqb code 1 a, ne_eqb code 2 b)

    pub error_chunk : code ≡ 2 → 20 ≤ length s → Ok (error_shape Chunk 20) ≡ frame_check (length s) (error_body xid credit (drop 16 s))
    unfolding error_body frame_check
    error_chunk e h =
        let n : length s - length (drop 20 s) ≡ 20 = omega (arith, length-drop 20 s) in
        rw (coded, e, drop-drop 4 16 s, n)

    pub error_version : code ≡ 1 → 28 ≤ length s → Ok (error_shape (Version (word_at s 20) (word_at s 24)) 28) ≡ frame_check (length s) (error_body xid credit (drop 16 s))
    unfolding error_body frame_check
    error_version e h =
        let n : length s - length (drop 28 s) ≡ 28 = omega (arith, length-drop 28 s) in
        let low = word_there (drop 20 s) (omega (arith, length-drop 20 s)) in
        let high = word_there (drop 24 s) (omega (arith, length-drop 24 s)) in
        rw (coded, e, drop-drop 4 16 s, drop-drop 8 16 s, drop-drop 12 16 s, low, high, n, word_drop 20 0 s, word_drop 24 0 s)

    pub error_cut : code ≡ 1 → 20 ≤ length s → length s < 28 → Err 5 ≡ frame_check (length s) (error_body xid credit (drop 16 s))
    unfolding error_body frame_check
    error_cut e h cut = go (leb 24 (length s)) refl
      where
        go : (b : Bool) → leb 24 (length s) ≡ b → Err 5 ≡ frame_check (length s) (error_body xid credit (drop 16 s))
        go true q =
            let long : 24 ≤ length s = leb-true 24 (length s) q in
            let low = word_there (drop 20 s) (omega (arith, length-drop 20 s)) in
            let high = word_missing (drop 24 s) (omega (arith, length-drop 24 s)) in
            rw (coded, e, drop-drop 4 16 s, drop-drop 8 16 s, low, high)
        go false q =
            let short : length s < 24 = leb-false 24 (length s) q in
            let low = word_missing (drop 20 s) (omega (arith, length-drop 20 s)) in
            rw (coded, e, drop-drop 4 16 s, low)

-- Bytes behind a header are seen by where it ends.
pub nothing_behind_lem : (size : ℕ) (p : Parsed Content) → 0 < size → ended_check size (frame_check size p) ≡ frame_check size (nothing_behind p)
unfolding frame_check
nothing_behind_lem size (refused n) h = refl
nothing_behind_lem size (done c t) h = go (eqb (length t) 0) refl
  where
    go : (b : Bool) → eqb (length t) 0 ≡ b → ended_check size (frame_check size (done c t)) ≡ frame_check size (nothing_behind (done c t))
    go true q =
        let none_left = eqb-true (length t) 0 q in
        let same : size - length t ≡ size = omega arith in
        rw (q, eq-eqb (size - length t) size same)
    go false q =
        let some_left = eqb-false (length t) 0 q in
        rw (q, ne_eqb (size - length t) size (λ e. omega arith))

-- A frame that is long enough and has version 1, by its procedure.
module _ (s : List ℕ) (version procedure : ℕ) (long : 16 ≤ length s) (fourth : version ≡ word_at s 4) (one : version ≡ 1) (twelfth : procedure ≡ word_at s 12) where
  proceeds : read_frame s ≡ by_procedure procedure (word_at s 0) (word_at s 8) (drop 16 s)
  unfolding read_frame
  proceeds = rw (le-leb 16 (length s) long, ← fourth, eq-eqb version 1 one, ← twelfth)

  pub frame_msg : procedure ≡ 0 → read_frame s ≡ three_parts Msg (word_at s 0) (word_at s 8) (drop 16 s)
  unfolding by_procedure
  frame_msg e = proceeds ∙ rw (eq-eqb procedure 0 e)

  pub frame_nomsg : procedure ≡ 1 → read_frame s ≡ nothing_behind (three_parts Nomsg (word_at s 0) (word_at s 8) (drop 16 s))
  unfolding by_procedure
  frame_nomsg e = proceeds ∙ rw e

  pub frame_done : procedure ≡ 3 → read_frame s ≡ refused 4
  unfolding by_procedure
  frame_done e = proceeds ∙ rw e

  pub frame_error : procedure ≡ 4 → read_frame s ≡ nothing_behind (error_body (word_at s 0) (word_at s 8) (drop 16 s))
  unfolding by_procedure
  frame_error e = proceeds ∙ rw e

  pub frame_other : 1 < procedure → (procedure ≡ 3 → ⊥) → (procedure ≡ 4 → ⊥) → read_frame s ≡ refused 3
  unfolding by_procedure
  frame_other more a b =
      proceeds ∙ rw (ne_eqb procedure 0 (λ e. omega arith), ne_eqb procedure 1 (λ e. omega arith), ne_eqb procedure 3 a, ne_eqb procedure 4 b)

-- A fault in the lists is the frame's, of either kind that has lists.
pub lists_refused : (s : List ℕ) (version procedure n : ℕ) (kind : Kind) → 16 ≤ length s → version ≡ word_at s 4 → version ≡ 1 → procedure ≡ word_at s 12 → procedure ≤ 1 → kind ≡ cond (eqb procedure 0) Msg Nomsg →
    Err n ≡ frame_check (length s) (three_parts kind (word_at s 0) (word_at s 8) (drop 16 s)) → Err n ≡ frame_check (length s) (read_frame s)
lists_refused s version procedure n kind long fourth one twelfth lists is e = go (eqb procedure 0) refl
  where
    go : (b : Bool) → eqb procedure 0 ≡ b → Err n ≡ frame_check (length s) (read_frame s)
    go true q =
        let msg : procedure ≡ 0 = eqb-true procedure 0 q in
        rw (frame_msg s version procedure long fourth one twelfth msg) (e ∙ rw (is, q))
    go false q =
        let ne = eqb-false procedure 0 q in
        let nomsg : procedure ≡ 1 = omega arith in
        rw (frame_nomsg s version procedure long fourth one twelfth nomsg)
        (let w : Err n ≡ frame_check (length s) (three_parts Nomsg (word_at s 0) (word_at s 8) (drop 16 s)) = e ∙ rw (is, q) in
        ap (ended_check (length s)) w ∙ nothing_behind_lem (length s) _ (omega arith))
