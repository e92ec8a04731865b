-- Setup data read and written through the exports: each undoes the other.
-- Assumes nothing.
use mathlib.Core.Path.{◌≡◌, sym, ap, ◌∙◌}
use mathlib.Core.Bool.{true}
use mathlib.Core.List.{List, ◌++◌}
use Prim.Native.Nat.{ℕ, ◌/◌, ◌≤◌}
use lib.ListN.{length, take, drop, get_or}
use Rattle.answers.specs.declared.WriteAnswer.{WriteAnswer}
use Rattle.setup.specs.Setup.{read_setup, write_setup_number}
use Rattle.setup.specs.declared.SetupAnswer.{SetupAnswer}
use Rattle.c_setup.specs.Words.{Stores, present_word, setup_words, setup_in, flag_fits, write_setup_words_answer, write_setup_words_buffer, agree_words_answer}
use Rattle.c_setup.proofs.SetupWords.{setup_back, setup_fits, words_back, lent_is, lent_fits, lent_held}
use Rattle.wire.specs.Fits.{AllBytes}
use Rattle.setup.proofs.RoundTrip.{setup_read_written, setup_written_read, number_zero, read_agreed}

reads : (w : List ℕ) → length w ≡ 3 → flag_fits w ≡ true → (a : SetupAnswer) → a ≡ record { setup = setup_in w; present = true; number = 0 } → Stores w a
reads w long fits a e = record {
  words = ap (λ (x : SetupAnswer). setup_words x.setup) e ∙ words_back w long fits;
  there = ap present_word e;
}

-- "Setup data that was there, read and written again, gives its 8 bytes back if the ignored flags were 0.": the words that `eos_read_setup` stored, lent to `eos_write_setup`.
pub export_read_written : (s out : List ℕ) → AllBytes s → (read_setup s).present ≡ true → get_or s 5 0 / 2 ≡ 0 → 8 ≤ length out →
    (write_setup_words_answer (setup_words (read_setup s).setup) (length out) ≡ record { number = 0; length = 8 })
    × (write_setup_words_buffer (setup_words (read_setup s).setup) out ≡ take 8 s ++ drop 8 out)
export_read_written s out b there clear room =
    let is = lent_is (read_setup s).setup (length out) out in
    let done = setup_read_written s out b there clear room in
    (is.0 ∙ done.0, is.1 ∙ done.1)

-- What `eos_write_setup` wrote is read by `eos_read_setup` into the same words, with the flag that there is setup data: from the whole buffer, and from the bytes that were written alone.
pub export_written_read : (w out : List ℕ) → length w ≡ 3 → (write_setup_words_answer w (length out)).number ≡ 0 →
    Stores w (read_setup (write_setup_words_buffer w out)) × Stores w (read_setup (take (write_setup_words_answer w (length out)).length (write_setup_words_buffer w out)))
export_written_read w out long ok =
    let fits = lent_fits w (length out) ok in
    let is = lent_held w (length out) out fits in
    let zero_number : write_setup_number (setup_in w) (length out) ≡ 0 = number_zero (setup_in w) (length out) (ap (λ (a : WriteAnswer). a.number) (sym is.0) ∙ ok) in
    let read = setup_written_read (setup_in w) out zero_number in
    rw (is.0, is.1) (reads w long fits _ read.0, reads w long fits _ read.1)

-- So two sides that were read always agree.
pub export_agreed : (a b : List ℕ) → AllBytes a → AllBytes b → (agree_words_answer (setup_words (read_setup a).setup) (setup_words (read_setup b).setup)).number ≡ 0
unfolding agree_words_answer
export_agreed a b f g = rw (setup_fits (read_setup a).setup, setup_fits (read_setup b).setup, setup_back (read_setup a).setup, setup_back (read_setup b).setup) (read_agreed a b f g)
