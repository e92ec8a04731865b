-- Laws about the parts of a line: bytes taken one by one, in pairs, and one part behind another.
-- Assumes nothing.
use mathlib.Core.Path.{◌≡◌, refl, sym, ap, ◌∙◌}
use mathlib.Core.Bool.{Bool, true, false, cond, ◌&&◌}
use mathlib.Core.List.{List, [], ◌∷◌, ◌++◌}
use Prim.Native.Nat.{ℕ, zero, suc, ◌+◌, ◌-◌, ◌*◌, ◌/◌, ◌%◌, ◌≤◌, ◌<◌}
use native.Mathlib.Numerals.{add-one}
use native.Mathlib.Nat.{add-zero}
use native.Mathlib.Omega.{arith}
use borrow.Author.Tests.{lt-ltb, eqb-true, eq-eqb, ne_eqb}
use lib.ListN.{length, take, drop, get_or, set, length-take, length-drop, length-set, drop_of_length-le}
use lib.Seq.{take-add, drop-cons, drop-drop, take-suc}
use lib.Dec.{ltb, eqb}
use Rattle.answers.proofs.Checks.{both_hold}
use Rattle.wire.specs.Wire.{stored}
use Rattle.wire.proofs.Fields.{part_from}
use Rattle.copy.proofs.Blocks.{lent_back}
use Rattle.trace_line.specs.Line.{newline, max_digits, value_of, is_digit, all_digits, bytes_of, next_line, next_frame, with_digit}
use Rattle.trace_line.specs.Internal.Taking.{line_length, line_after, frame_after, Takes, Pairs}
use Rattle.trace_line.specs.declared.Line.{Line}
use Rattle.trace_line.specs.declared.Line.TheVariants.{Digits, Bad}
use Rattle.trace_line.specs.declared.Part.{Part}
use Rattle.trace_line.proofs.Digits.{no_newline, bytes_length, both_halves}

-- One part behind another.
pub line_append : (line : Line) (x y : List ℕ) → line_after line (x ++ y) ≡ line_after (line_after line x) y
unfolding line_after
line_append line [] y = refl
line_append line (b ∷ x) y = line_append (next_line line b) x y

pub frame_append : (line : Line) (frame x y : List ℕ) → frame_after line frame (x ++ y) ≡ frame_after (line_after line x) (frame_after line frame x) y
unfolding line_after frame_after
frame_append line frame [] y = refl
frame_append line frame (b ∷ x) y = frame_append (next_line line b) (next_frame line frame b) x y

-- The frame buffer keeps its length.
digit_length : (n value : ℕ) (frame : List ℕ) → length (with_digit n value frame) ≡ length frame
unfolding with_digit
digit_length n value frame = by_test (eqb (n % 2) 0)
  where
    by_test : (q : Bool) → length (cond q (set frame (n / 2) (value * 16)) (set frame (n / 2) (get_or frame (n / 2) 0 / 16 * 16 + value))) ≡ length frame
    by_test true = length-set frame (n / 2) (value * 16)
    by_test false = length-set frame (n / 2) (get_or frame (n / 2) 0 / 16 * 16 + value)

next_length : (line : Line) (frame : List ℕ) (b : ℕ) → length (next_frame line frame b) ≡ length frame
unfolding next_frame
next_length Bad frame b = refl
next_length (Digits n) frame b = by_test (is_digit b && ltb n max_digits)
  where
    by_test : (q : Bool) → length (cond q (with_digit n (value_of b) frame) frame) ≡ length frame
    by_test true = digit_length n (value_of b) frame
    by_test false = refl

pub frame_length : (line : Line) (frame s : List ℕ) → length (frame_after line frame s) ≡ length frame
unfolding frame_after
frame_length line frame [] = refl
frame_length line frame (b ∷ s) = frame_length (next_line line b) (next_frame line frame b) s ∙ next_length line frame b

-- Where the first newline stands.
pub line_stop : (s : List ℕ) (i : ℕ) → i < length s → get_or s i 0 ≡ newline → line_length (drop i s) ≡ 0
unfolding line_length
line_stop s i h e = rw (drop-cons s i 0 h, eq-eqb _ _ e)

pub line_on : (s : List ℕ) (i : ℕ) → i < length s → (get_or s i 0 ≡ newline → ⊥) → line_length (drop i s) ≡ suc (line_length (drop (i + 1) s))
unfolding line_length
line_on s i h e = rw (drop-cons s i 0 h, ne_eqb _ _ e, add-one i)

pub line_none : (s : List ℕ) (i : ℕ) → length s ≤ i → line_length (drop i s) ≡ 0
unfolding line_length
line_none s i h = rw (drop_of_length-le s {i = i} h)

pub line_most : (s : List ℕ) → line_length s ≤ length s
unfolding line_length
line_most [] = omega arith
line_most (b ∷ s) = by_test (eqb b newline) (line_most s)
  where
    by_test : (q : Bool) → line_length s ≤ length s → cond q 0 (suc (line_length s)) ≤ suc (length s)
    by_test true h = omega arith
    by_test false h = omega arith

pub line_ends : (s : List ℕ) → line_length s < length s → get_or s (line_length s) 0 ≡ newline
unfolding line_length
line_ends [] h = absurd (omega arith)
line_ends (b ∷ s) h = by_test (eqb b newline) refl h (λ g. line_ends s g)
  where
    by_test : (q : Bool) → eqb b newline ≡ q → cond q 0 (suc (line_length s)) < suc (length s) → (line_length s < length s → get_or s (line_length s) 0 ≡ newline) → get_or (b ∷ s) (cond q 0 (suc (line_length s))) 0 ≡ newline
    by_test true e g more = eqb-true b newline e
    by_test false e g more = more (omega arith)

-- Digits do not end a line.
digits_on : (n : ℕ) (s : List ℕ) → n ≤ length s → all_digits (take n s) ≡ true → line_length s ≡ n + line_length (drop n s)
unfolding line_length all_digits
digits_on zero s h e = omega arith
digits_on (suc n) [] h e = absurd (omega arith)
digits_on (suc n) (b ∷ s) h e =
    let z = both_hold (is_digit b) (all_digits (take n s)) e in
    let more = digits_on n s (omega arith) z.1 in
    rw (no_newline b z.0) (omega arith)

-- A digit for which there is room.
pub digit_line : (n b : ℕ) → is_digit b ≡ true → n < max_digits → next_line (Digits n) b ≡ Digits (n + 1)
unfolding next_line
digit_line n b d h = rw (d, lt-ltb n max_digits h)

digit_frame : (n b : ℕ) (frame : List ℕ) → is_digit b ≡ true → n < max_digits → next_frame (Digits n) frame b ≡ with_digit n (value_of b) frame
unfolding next_frame
digit_frame n b frame d h = rw (d, lt-ltb n max_digits h)

-- Pairs of digits.
pairs_line : (m n : ℕ) (text : List ℕ) → length text ≡ 2 * m → all_digits text ≡ true → n + 2 * m ≤ max_digits → line_after (Digits n) text ≡ Digits (n + 2 * m)
unfolding line_after all_digits
pairs_line zero n [] e d h = rw add-zero
pairs_line (suc m) n [] e d h = absurd (omega arith)
pairs_line m n (a ∷ []) e d h = absurd (omega arith)
pairs_line zero n (a ∷ b ∷ text) e d h = absurd (omega arith)
pairs_line (suc m) n (a ∷ b ∷ text) e d h =
    let x = both_hold (is_digit a) (is_digit b && all_digits text) d in
    let y = both_hold (is_digit b) (all_digits text) x.1 in
    let z : n + 2 * suc m ≡ n + 1 + 1 + 2 * m = omega arith in
    rw (digit_line n a x.0 (omega arith), digit_line (n + 1) b y.0 (omega arith), z)
    (pairs_line m (n + 1 + 1) text (omega arith) y.1 (omega arith))

pub pairs_frame : (m n k : ℕ) (text frame : List ℕ) → length text ≡ 2 * m → all_digits text ≡ true → n ≡ 2 * k → n + 2 * m ≤ max_digits → k + m ≤ length frame
    → frame_after (Digits n) frame text ≡ stored frame k (bytes_of text)
unfolding frame_after all_digits bytes_of stored
pairs_frame zero n k [] frame e d even h room = refl
pairs_frame (suc m) n k [] frame e d even h room = absurd (omega arith)
pairs_frame m n k (a ∷ []) frame e d even h room = absurd (omega arith)
pairs_frame zero n k (a ∷ b ∷ text) frame e d even h room = absurd (omega arith)
pairs_frame (suc m) n k (a ∷ b ∷ text) frame e d even h room =
    let x = both_hold (is_digit a) (is_digit b && all_digits text) d in
    let y = both_hold (is_digit b) (all_digits text) x.1 in
    rw (digit_line n a x.0 (omega arith), digit_line (n + 1) b y.0 (omega arith), digit_frame n a frame x.0 (omega arith), digit_frame (n + 1) b (with_digit n (value_of a) frame) y.0 (omega arith), both_halves n k (value_of a) (value_of b) frame even (omega arith))
    (pairs_frame m (n + 1 + 1) (suc k) text (set frame k (value_of a * 16 + value_of b)) (omega arith) y.1 (omega arith) (omega arith) (rw length-set (omega arith)))

-- No byte is taken.
pub takes_none : (line kept : Line) (text frame : List ℕ) → kept ≡ line → Takes line text frame (record { line = kept; used = 0 }) frame
unfolding line_after frame_after
takes_none line kept text frame e = record { there = omega arith; before_newline = omega arith; line_is = e; frame_is = refl }

-- One byte more is taken.
pub takes_next : (line begun next : Line) (text frame now after : List ℕ) (i : ℕ) → Takes line text frame (record { line = begun; used = i }) now → i < length text → (get_or text i 0 ≡ newline → ⊥)
    → next ≡ next_line begun (get_or text i 0) → after ≡ next_frame begun now (get_or text i 0) → Takes line text frame (record { line = next; used = i + 1 }) after
unfolding line_after frame_after
takes_next line begun next text frame now after i t h other e f =
    let b = t.before_newline in
    record {
      there = omega arith;
      before_newline = omega (arith, line_on text i h other);
      line_is = rw (add-one i, take-suc text i 0 h, line_append, ← t.line_is) e;
      frame_is = rw (add-one i, take-suc text i 0 h, frame_append, ← t.line_is, ← t.frame_is) f;
    }

-- All bytes before the newline are taken.
pub takes_all : {line begun : Line} {text frame after : List ℕ} {i : ℕ} → Takes line text frame (record { line = begun; used = i }) after → line_length (drop i text) ≡ 0 → i ≡ line_length text
takes_all t none_left = let b = t.before_newline in omega arith

-- Two parts of a text.
pub takes_then : (line : Line) (text frame frame₁ frame₂ : List ℕ) (p q : Part) → Takes line text frame p frame₁ → Takes p.line (drop p.used text) frame₁ q frame₂
    → Takes line text frame (record { line = q.line; used = p.used + q.used }) frame₂
takes_then line text frame frame₁ frame₂ p q t u =
    let a = t.there in
    let b = u.there in
    let c = t.before_newline in
    let d = u.before_newline in
    record {
      there = omega (arith, length-drop p.used text);
      before_newline = rw (← drop-drop q.used p.used text) (omega arith);
      line_is = rw (take-add, line_append, ← t.line_is) u.line_is;
      frame_is = rw (take-add, frame_append, ← t.line_is, ← t.frame_is) u.frame_is;
    }

-- Pairs that were decoded into a part of the frame buffer, which is put back.
pub takes_pairs : (n m : ℕ) (text frame after : List ℕ) → n % 2 ≡ 0 → n ≤ max_digits → length frame ≡ 4_096
    → Pairs text (take (4_096 - n / 2) (drop (n / 2) frame)) m after
    → Takes (Digits n) text frame (record { line = Digits (n + 2 * m); used = 2 * m }) (take (n / 2) frame ++ (after ++ drop (4_096 - n / 2) (drop (n / 2) frame)))
takes_pairs n m text frame after even few size p =
    let k : ℕ = n / 2 in
    let there = p.there in
    let room : k + m ≤ length frame = let r = p.room in let l : length (take (4_096 - k) (drop k frame)) ≡ 4_096 - k = simp (length-take, length-drop) (omega arith) in omega arith in
    let two : length (take (2 * m) text) ≡ 2 * m = simp length-take (omega arith) in
    let long : length (bytes_of (take (2 * m) text)) ≡ m = bytes_length m (take (2 * m) text) two in
    let twice : n ≡ 2 * k = omega arith in
    record {
      there = there;
      before_newline = digits_on (2 * m) text there p.digits;
      line_is = sym (pairs_line m n (take (2 * m) text) two p.digits (omega arith));
      frame_is =
          rw p.bytes (ap (λ (j : ℕ). take k frame ++ ((bytes_of (take (2 * m) text) ++ drop j (take (4_096 - k) (drop k frame))) ++ drop (4_096 - k) (drop k frame))) (sym long)
          ∙ rw size at (lent_back k frame (bytes_of (take (2 * m) text)) (omega arith))
          ∙ sym (pairs_frame m n k (take (2 * m) text) frame two p.digits twice (omega arith) room));
    }

-- Three parts of a text, the last up to the newline.
module _ (line : Line) (text frame frame₁ frame₂ frame₃ : List ℕ) (p q r : Part) (t : Takes line text frame p frame₁)
    (u : Takes p.line (take (length text - p.used) (drop p.used text)) frame₁ q frame₂)
    (v : Takes q.line (take (length text - (p.used + q.used)) (drop (p.used + q.used) text)) frame₂ r frame₃) where
  all_three : Takes line text frame (record { line = r.line; used = p.used + q.used + r.used }) frame₃
  all_three =
      takes_then line text frame frame₂ frame₃ (record { line = q.line; used = p.used + q.used }) r
      (takes_then line text frame frame₁ frame₂ p q t (rw part_from at u)) (rw part_from at v)

  pub takes_three : r.used ≡ line_length (take (length text - (p.used + q.used)) (drop (p.used + q.used) text))
      → (p.used + q.used + r.used ≡ line_length text) × ((r.line ≡ line_after line (take (line_length text) text)) × (frame₃ ≡ frame_after line frame (take (line_length text) text)))
  takes_three e =
      let a = all_three in
      let b = t.before_newline in
      let is : p.used + q.used + r.used ≡ line_length text =
      let c = u.before_newline in
      let d : r.used ≡ line_length (drop (p.used + q.used) text) = rw part_from at e in
      let f : line_length (drop p.used text) ≡ q.used + line_length (drop (p.used + q.used) text) = rw (part_from, drop-drop) at c in
      omega arith in
      (is, (rw (← is) a.line_is, rw (← is) a.frame_is))
