-- Setup data that was there, read and written again, gives its 8 bytes back; written and read again it gives its values.
-- Assumes nothing.
use mathlib.Core.Path.{◌≡◌, refl, sym, subst, ◌∙◌}
use mathlib.Core.Bool.{Bool, true, false, cond}
use mathlib.Core.List.{List, [], ◌∷◌, ◌++◌, append_assoc, append-nil}
use Prim.Native.Nat.{ℕ, zero, suc, ◌+◌, ◌*◌, ◌-◌, ◌/◌, ◌%◌, ◌≤◌, ◌<◌}
use native.Mathlib.Omega.{arith}
use borrow.Author.Tests.{le-leb, eq-eqb}
use lib.ListN.{length, take, drop, get_or}
use lib.Seq.{drop-cons, take-append_seam}
use lib.Dec.{leb, eqb}
use Rattle.wire.specs.Wire.{word_at, word_bytes}
use Rattle.answers.specs.Answers.{check}
use Rattle.answers.proofs.Checks.{check_passed}
use Rattle.setup.specs.Setup.{size_of, is_setup, setup_at, no_setup, read_setup, in_rule, setup_in_rule, size_byte, flags_of, setup_bytes, write_setup_number, write_setup_answer, write_setup_buffer, agreement}
use Rattle.setup.specs.declared.Size.{Size}
use Rattle.setup.specs.declared.Setup.{Setup}
use Rattle.setup.proofs.SetupBytes.{There, in_rule_lem, both_in_rule, setup_there}
use Rattle.wire.specs.Fits.{AllBytes}
use Rattle.wire.proofs.WordBytes.{word_front}

-- The size that a byte means is in rule, and its byte is that byte.
byte_in_rule : (n : ℕ) → n < 256 → in_rule (size_of n) ≡ true
unfolding in_rule
byte_in_rule n h = simp (le-leb 1024 ((n + 1) * 1024) (omega arith), le-leb ((n + 1) * 1024) 262144 (omega arith), eq-eqb ((n + 1) * 1024 % 1024) 0 (omega arith))

byte_back : (n : ℕ) → size_byte (size_of n) ≡ n
byte_back n = omega arith

-- The byte of a size in rule means that size.
size_back : (x : Size) → in_rule x ≡ true → size_of (size_byte x) ≡ x
size_back x h =
    let r = in_rule_lem x h in
    let e : (x.0 / 1024 - 1 + 1) * 1024 ≡ x.0 = omega (arith, r.smallest, r.multiple) in
    λ i. record { 0 = e i }

-- The lowest bit of a flags byte, where the others are 0, is the byte; and the flag that was sent is received.
flags_back : (f : ℕ) → f / 2 ≡ 0 → flags_of (eqb (f % 2) 1) ≡ f
flags_back zero h = refl
flags_back (suc zero) h = refl
flags_back (suc (suc f)) h = absurd (omega arith)

flag_back : (r : Bool) → eqb (flags_of r % 2) 1 ≡ r
flag_back true = refl
flag_back false = refl

-- The sizes that two bytes mean are in rule, and so is 1,024.
setup_fits : (s : List ℕ) → AllBytes s → setup_in_rule (setup_at s) ≡ true
unfolding setup_in_rule AllBytes
setup_fits s b = simp (byte_in_rule (get_or s 6 0) (b 6), byte_in_rule (get_or s 7 0) (b 7))

none_fits : setup_in_rule no_setup ≡ true
unfolding setup_in_rule in_rule
none_fits = refl

-- The checks of writing, as they stand.
number_is : (x : Setup) (room : ℕ) → write_setup_number x room ≡ 0 → check (setup_in_rule x) 20 (check (leb (length (setup_bytes x)) room) 16 0) ≡ 0
unfolding write_setup_number
number_is x room e = e

pub number_zero : (x : Setup) (room : ℕ) → (write_setup_answer x room).number ≡ 0 → write_setup_number x room ≡ 0
unfolding write_setup_answer
number_zero x room e = e

accepted : (x : Setup) (room : ℕ) → setup_in_rule x ≡ true → 8 ≤ room → write_setup_number x room ≡ 0
unfolding write_setup_number setup_bytes word_bytes
accepted x room ruled fits = simp (ruled, le-leb 8 room fits)

-- What is read where there is setup data, and where there is none.
there_read : (there : Bool) (s : List ℕ) → is_setup s ≡ there → read_setup s ≡ cond there (record { setup = setup_at s; present = true; number = 0 }) (record { setup = no_setup; present = false; number = 0 })
unfolding read_setup
there_read there s e = rw e

present_is : (s : List ℕ) → (read_setup s).present ≡ is_setup s
present_is s = by (is_setup s) refl
  where
    by : (there : Bool) → is_setup s ≡ there → (read_setup s).present ≡ is_setup s
    by true e = rw (there_read true s e, e)
    by false e = rw (there_read false s e, e)

-- "A size handed in": what was read may always be handed in.
pub read_in_rule : (s : List ℕ) → AllBytes s → setup_in_rule (read_setup s).setup ≡ true
read_in_rule s b = by (is_setup s) refl
  where
    by : (there : Bool) → is_setup s ≡ there → setup_in_rule (read_setup s).setup ≡ true
    by true e = rw (there_read true s e) (setup_fits s b)
    by false e = rw (there_read false s e) none_fits

-- Setup data that was written is read, whatever stands behind it.
setup_back : (x : Setup) (t : List ℕ) → setup_in_rule x ≡ true → read_setup (setup_bytes x ++ t) ≡ record { setup = x; present = true; number = 0 }
unfolding read_setup is_setup setup_bytes word_at word_bytes
setup_back x t h =
    let r = both_in_rule x h in
    simp (le-leb 8 (length (setup_bytes x ++ t)) (omega arith), flag_back x.remote_invalidation, size_back x.send r.0, size_back x.receive r.1)

-- Setup data whose ignored flags are 0 is the bytes of what is read, and what stands behind.
setup_front : (s : List ℕ) → AllBytes s → There s → get_or s 5 0 / 2 ≡ 0 → setup_bytes (setup_at s) ++ drop 8 s ≡ s
unfolding setup_bytes
setup_front s b there clear =
    let long = there.long in
    let identifier = word_front s 0 4 b refl (omega arith) in
    let bytes : drop 4 s ≡ get_or s 4 0 ∷ get_or s 5 0 ∷ get_or s 6 0 ∷ get_or s 7 0 ∷ drop 8 s = simp (drop-cons s 4 0 (omega arith), drop-cons s 5 0 (omega arith), drop-cons s 6 0 (omega arith), drop-cons s 7 0 (omega arith)) in
    simp (append_assoc, flags_back (get_or s 5 0) clear, byte_back (get_or s 6 0), byte_back (get_or s 7 0)) (simp (bytes, there.identifier, there.version) at identifier)

-- "Setup data that was there, read and written again, gives its 8 bytes back if the ignored flags were 0."
pub setup_read_written : (s out : List ℕ) → AllBytes s → (read_setup s).present ≡ true → get_or s 5 0 / 2 ≡ 0 → 8 ≤ length out →
    (write_setup_answer (read_setup s).setup (length out) ≡ record { number = 0; length = 8 })
    × (write_setup_buffer (read_setup s).setup out ≡ take 8 s ++ drop 8 out)
unfolding write_setup_buffer write_setup_answer setup_bytes word_bytes
setup_read_written s out b p clear room =
    let is = sym (present_is s) ∙ p in
    let front : take 8 s ≡ setup_bytes (setup_at s) = subst (λ (l : List ℕ). take 8 l ≡ setup_bytes (setup_at s)) (setup_front s b (setup_there s is) clear) (take-append_seam (setup_bytes (setup_at s)) (drop 8 s)) in
    simp (there_read true s is, accepted (setup_at s) (length out) (setup_fits s b) room, front) (refl, refl)

-- What was written and is read again gives the values, from the whole buffer and from the bytes written alone.
pub setup_written_read : (x : Setup) (out : List ℕ) → write_setup_number x (length out) ≡ 0 →
    (read_setup (write_setup_buffer x out) ≡ record { setup = x; present = true; number = 0 })
    × (read_setup (take (write_setup_answer x (length out)).length (write_setup_buffer x out)) ≡ record { setup = x; present = true; number = 0 })
unfolding write_setup_buffer write_setup_answer
setup_written_read x out e =
    let ruled = (check_passed (setup_in_rule x) 20 _ (omega arith) (number_is x (length out) e)).0 in
    let back = setup_back x [] ruled in
    simp (e, take-append_seam) (setup_back x _ ruled, simp append-nil at back)

-- So two sides that were read always agree.
pub read_agreed : (a b : List ℕ) → AllBytes a → AllBytes b → (agreement (read_setup a).setup (read_setup b).setup).number ≡ 0
unfolding agreement
read_agreed a b f g = simp (read_in_rule a f, read_in_rule b g)
