-- A state and the words that hold it.
-- Assumes nothing.
use mathlib.Core.Path.{◌≡◌, refl, ap, ◌∙◌}
use mathlib.Core.List.{List, [], ◌++◌, append_assoc, append-nil}
use Prim.Native.Nat.{ℕ, zero, suc, ◌+◌, ◌-◌, ◌*◌, ◌/◌, ◌%◌, ◌≤◌, ◌<◌}
use native.Mathlib.Nat.{div-add-mod', suc-mul}
use native.Mathlib.Omega.{arith}
use borrow.Author.Tests.{ne_eqb}
use lib.ListN.{length, drop, get_or, set, replicate, length-append, length-set, length-replicate, replicate-append-replicate}
use lib.Seq.{sets-eq, take_at, drop-length, get_or-append-add, get_or-set_same, get_or-set_other, length-sets}
use Rattle.wire.specs.Wire.{stored, joined, zero_read_segment}
use Rattle.wire.specs.declared.ReadSegment.{ReadSegment}
use Rattle.wire.proofs.Fields.{stored_front, drop_replicate}
use Rattle.wire.proofs.Joining.{joined_append}
use Rattle.wire.specs.Words.{number_words, read_segment_words, segment_words}
use Rattle.chunk_lists.specs.Words.{reads_in, reads_words}
use Rattle.chunk_lists.proofs.Words.{length_reads_words, reads_back, reads_set}
use Rattle.header.specs.Content.{padded}
use Rattle.header.specs.declared.Kind.{Kind}
use Rattle.header.specs.declared.Kind.TheVariants.{Msg, Nomsg, Error}
use Rattle.header.specs.declared.ErrorKind.TheVariants.{Version, Chunk}
use Rattle.assembly_state.specs.State.{State, no_state}
use Rattle.header.specs.Words.{kind_number}
use Rattle.assembly_state.specs.Words.{state_kind, parts_in, parts_words, parts_of, state_in, state_words, with_taken}

-- Segments padded to 16.
pub padded_length : (l : List ReadSegment) → length l ≤ 16 → length (padded 16 zero_read_segment l) ≡ 16
padded_length l h = rw (length-append, length-replicate) (omega arith)

abbrev pub zeros : ℕ → List ℕ
zeros n = replicate n 0

zeros_append : (n m k : ℕ) → n + m ≡ k → zeros n ++ zeros m ≡ zeros k
zeros_append n m k e = replicate-append-replicate n m 0 ∙ ap zeros e

-- The words of empty places are zero.
zero_words : (n : ℕ) → reads_words (replicate n zero_read_segment) ≡ replicate (n * 6) 0
unfolding reads_words joined read_segment_words segment_words
zero_words zero = refl
zero_words (suc n) = rw (zero_words n, suc-mul) (zeros_append 6 (n * 6) (n * 6 + 6) (omega arith))

words_append : (a b : List ReadSegment) → reads_words (a ++ b) ≡ reads_words a ++ reads_words b
unfolding reads_words
words_append a b = joined_append read_segment_words a b

-- Segments stored in front of zeros.
pub words_padded : (l : List ReadSegment) → length l ≤ 16 → stored (replicate 104 0) 0 (reads_words l) ≡ reads_words (padded 16 zero_read_segment l) ++ replicate 8 0
words_padded l h =
    let k : length (reads_words l) ≡ length l * 6 = length_reads_words l in
    let short : length (reads_words l) ≤ length (zeros 104) = rw (length-replicate {A = ℕ} 104 0) (omega arith) in
    let rest : zeros ((16 - length l) * 6) ++ zeros 8 ≡ zeros (104 - length (reads_words l)) = zeros_append ((16 - length l) * 6) 8 (104 - length (reads_words l)) (omega arith) in
    stored_front (zeros 104) (reads_words l) short
    ∙ rw (drop_replicate {A = ℕ} (length (reads_words l)) 104 0 (omega arith), ← rest, words_append, zero_words, append_assoc)

-- What is stored over all that stands behind some words.
stored_over : (a b v : List ℕ) (k : ℕ) → length a ≡ k → length v ≡ length b → stored (a ++ b) k v ≡ a ++ v
unfolding stored
stored_over a b v k e f =
    let long : length (a ++ b) ≡ k + length v = rw (length-append, e, f) in
    let none : drop (k + length v) (a ++ b) ≡ [] = rw (← long) (drop-length (a ++ b)) in
    sets-eq v (a ++ b) k (omega arith) ∙ rw (take_at a b k e, none, append-nil)

-- The numbers behind the segments.
pub parts_stored : (s : State) → length s.reads.segments ≡ 16 → stored (reads_words s.reads.segments ++ replicate 8 0) 96 (parts_words (parts_of s)) ≡ state_words s
unfolding state_words
parts_stored s full = stored_over (reads_words s.reads.segments) (replicate 8 0) (parts_words (parts_of s)) 96 (rw (length_reads_words, full)) refl

-- Words of another count hold the state with that count.
module _ (w : List ℕ) (long : length w ≡ 104) (x : ℕ) where
  pub length_taken : length (with_taken w x) ≡ 104
  unfolding with_taken stored
  length_taken = length-sets w 100 (number_words x) ∙ long

  pub state_taken : state_in (with_taken w x) ≡ record { reads = (state_in w).reads; kind = (state_in w).kind; base = (state_in w).base; buffer = (state_in w).buffer; taken = x }
  unfolding with_taken stored parts_in
  state_taken =
      let a = x % 4294967296 in
      let b = x / 4294967296 in
      let v = set w 100 a in
      let other : (j : ℕ) → (j ≡ 100 → ⊥) → (j ≡ 101 → ⊥) → get_or (set v 101 b) j 0 ≡ get_or w j 0 = λ j p q. get_or-set_other v 101 j b 0 q ∙ get_or-set_other w 100 j a 0 p in
      let low : get_or (set v 101 b) 100 0 ≡ a = get_or-set_other v 101 100 b 0 (λ e. omega arith) ∙ get_or-set_same w 100 a 0 (omega arith) in
      let high : get_or (set v 101 b) 101 0 ≡ b = get_or-set_same v 101 b 0 (rw length-set (omega arith)) in
      let reads : reads_in (set v 101 b) ≡ reads_in w = reads_set v 101 b (omega arith) ∙ reads_set w 100 a (omega arith) in
      rw (reads, other 96 (λ e. omega arith) (λ e. omega arith), other 97 (λ e. omega arith) (λ e. omega arith), other 98 (λ e. omega arith) (λ e. omega arith), other 99 (λ e. omega arith) (λ e. omega arith), other 102 (λ e. omega arith) (λ e. omega arith), other 103 (λ e. omega arith) (λ e. omega arith), low, high, div-add-mod' x 4294967296)

-- A kind that a state has in words.
pub kind_back : (k : Kind) → (kind_number k < 2) → state_kind (kind_number k) ≡ k
unfolding state_kind
kind_back Msg h = refl
kind_back Nomsg h = refl
kind_back (Error (Version low high)) h = absurd (omega arith)
kind_back (Error Chunk) h = absurd (omega arith)

-- Any other number stands for no kind of a state.
pub other_kind : (n : ℕ) → 1 < n → state_kind n ≡ Error Chunk
unfolding state_kind
other_kind n h = rw (ne_eqb n 0 (λ e. omega arith), ne_eqb n 1 (λ e. omega arith))

-- The words of a state hold it.
pub state_back : (s : State) → length s.reads.segments ≡ 16 → kind_number s.kind < 2 → state_in (state_words s) ≡ s
unfolding state_words parts_in
state_back s full known =
    let a = reads_words s.reads.segments in
    let long : length a ≡ 96 = rw (length_reads_words, full) in
    let at-behind : (n : ℕ) → get_or (a ++ parts_words (parts_of s)) (96 + n) 0 ≡ get_or (parts_words (parts_of s)) n 0 = λ n. rw (← long) (get_or-append-add a (parts_words (parts_of s)) n 0) in
    rw (reads_back s.reads.segments (parts_words (parts_of s)) full, at-behind 0, at-behind 1, at-behind 2, at-behind 3, at-behind 4, at-behind 5, at-behind 6, at-behind 7, kind_back s.kind known, div-add-mod' s.base 4294967296, div-add-mod' s.buffer 4294967296, div-add-mod' s.taken 4294967296)

pub length_state : (s : State) → length s.reads.segments ≡ 16 → length (state_words s) ≡ 104
unfolding state_words
length_state s full = rw (length-append, length_reads_words, full)

-- "an all-zero state of kind MSG"
pub zero_state : replicate 104 0 ≡ state_words no_state
unfolding state_words reads_words joined read_segment_words segment_words
zero_state = refl
