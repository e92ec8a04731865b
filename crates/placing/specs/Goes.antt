-- How many goes a piece takes (document 02, order 2).
use Rattle.std.specs.Prelude.{ℕ, suc, ◌+◌, ◌≤◌, ◌≡◌, Bool, true, cond, ◌&&◌, List, [], ◌∷◌, ◌++◌, length, eqb}
use Rattle.wire.specs.Wire.{joined}
use Rattle.wire.specs.Fits.{All}

-- A pulled byte: which segment of the list it is of, from 0, and its place in the message.
pub record PulledByte : Type 0 where
  pub segment : ℕ
  pub place : ℕ

abbrev pub pulled_byte : ℕ → ℕ → PulledByte
pulled_byte i p = record { segment = i; place = p }

-- The bytes of segment i at its places, and those of all segments from i on.
unfoldable pub of_segment : ℕ → List ℕ → List PulledByte
of_segment i [] = []
of_segment i (p ∷ ps) = pulled_byte i p ∷ of_segment i ps

unfoldable pub pulled_bytes : ℕ → List (List ℕ) → List PulledByte
pulled_bytes i [] = []
pulled_bytes i (ps ∷ pss) = of_segment i ps ++ pulled_bytes (suc i) pss

-- "one segment and no gap": b is of the segment of a, and its place is the next.
unfoldable pub follows : PulledByte → PulledByte → Bool
follows a b = eqb a.segment b.segment && eqb (suc a.place) b.place

-- "each run that has one segment and no gap": each byte follows the one before it. (A chunk of several segments is one run of places in the layout, and several here.)
unfoldable pub RunBehind : PulledByte → List PulledByte → Type 0
RunBehind a [] = Unit {0}
RunBehind a (b ∷ bs) = (follows a b ≡ true) × RunBehind b bs

unfoldable pub IsRun : List PulledByte → Type 0
IsRun [] = Unit {0}
IsRun (a ∷ rest) = RunBehind a rest

-- "such runs that make it up"
pub record MadeUp (piece : List PulledByte) (runs : List (List PulledByte)) : Type 0 where
  pub each : All IsRun runs
  pub whole : joined (λ r. r) runs ≡ piece

-- "the fewest such runs that make it up"
pub record Fewest (piece : List PulledByte) (n : ℕ) : Type 0 where
  pub runs : List (List PulledByte)
  pub made : MadeUp piece runs
  pub many : length runs ≡ n
  pub least : (others : List (List PulledByte)) → MadeUp piece others → n ≤ length others

-- Their number: the first byte begins a run, and so does each that does not follow the one before it.
unfoldable pub begun_behind : PulledByte → List PulledByte → ℕ
begun_behind a [] = 0
begun_behind a (b ∷ bs) = cond (follows a b) 0 1 + begun_behind b bs

unfoldable pub goes : List PulledByte → ℕ
goes [] = 0
goes (a ∷ rest) = suc (begun_behind a rest)
