-- What is placed, and where.
use Rattle.std.specs.Prelude.{ℕ, ◌+◌, ◌≤◌, ◌≡◌, Bool, true, false, cond, List, ◌++◌, take, drop, eqb}
use Rattle.wire.specs.declared.ReadSegment.{ReadSegment}
use Rattle.read_order.specs.ReadOrder.{is_sorted}
use Rattle.layout.specs.Places.{from}
use Rattle.layout.specs.Layout.{any_at_zero, zero_length, other_chunks, stands, places, base_places}
use Rattle.layout.specs.declared.Run.{Run}

-- The places of the base, if it is pulled, and of the chunks.
abbrev pub source_places : Bool → ℕ → List Run → List ℕ
source_places true base cs = base_places base cs ++ places cs
source_places false base cs = places cs

-- Those of all segments of a read list: the base is pulled if a segment stands at position 0.
abbrev pub read_places : ℕ → List ReadSegment → List ℕ
read_places base reads = source_places (any_at_zero reads) base (other_chunks reads)

-- The places of `size` bytes of the segments at a position, behind the first k of these.
unfoldable pub part_places : ℕ → List Run → ℕ → ℕ → ℕ → List ℕ
part_places base cs position k size = cond (eqb position 0) (take size (drop k (base_places base cs))) (from (position + k) size)

-- They are there, and in a buffer of `room` bytes.
pub record PartWithin (base room position k size : ℕ) : Type 0 where
  pub based : position ≡ 0 → k + size ≤ base
  pub elsewhere : (position ≡ 0 → ⊥) → position + k + size ≤ room

-- A read list that has passed the checks of a start over a base.
pub record LayoutChecked (base : ℕ) (reads : List ReadSegment) : Type 0 where
  pub rise : is_sorted reads ≡ true
  pub stand : stands base 0 0 (other_chunks reads) ≡ true
  pub small : base ≤ 1048576

-- If the base is pulled, it is as long as the segments at position 0.
abbrev pub BasePulled : ℕ → List ReadSegment → Type 0
BasePulled base reads = any_at_zero reads ≡ true → zero_length reads ≡ base
