-- What fits a field (document 01, "The header on the wire").
use Rattle.std.specs.Prelude.{ℕ, ◌<◌, List, [], ◌∷◌, get_or}
use Rattle.wire.specs.declared.Segment.{Segment}
use Rattle.wire.specs.declared.ReadSegment.{ReadSegment}

-- Every element of s is a byte.
unfoldable pub AllBytes : List ℕ → Type 0
AllBytes s = (k : ℕ) → get_or s k 0 < 256

-- "32-bit words"
abbrev pub Word32 : ℕ → Type 0
Word32 x = x < 4294967296

-- What P says holds of every element.
unfoldable pub All : {A : Type 0} → (A → Type 0) → List A → Type 0
All P [] = Unit {0}
All P (x ∷ l) = P x × All P l

-- Each of the words that a caller lends is one of 32 bits.
abbrev pub AllWords : List ℕ → Type 0
AllWords w = (i : ℕ) → Word32 (get_or w i 0)

-- A segment whose numbers fit their fields: "a segment's offset has 64 bits".
pub record SegmentFits (x : Segment) : Type 0 where
  pub handle_fits : Word32 x.handle
  pub length_fits : Word32 x.length
  pub offset_fits : x.offset < 18446744073709551616

-- A read segment whose numbers fit their fields.
pub record ReadSegmentFits (x : ReadSegment) : Type 0 where
  pub position : Word32 x.position
  pub target : SegmentFits x.target
