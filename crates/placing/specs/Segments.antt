-- The pulled places of each segment (document 02, orders 2 and 9).
use Rattle.std.specs.Prelude.{ℕ, suc, ◌+◌, cond, List, [], ◌∷◌, ◌++◌, take, drop, replicate, eqb}
use Rattle.wire.specs.declared.ReadSegment.{ReadSegment}
use Rattle.header.specs.declared.Kind.{Kind}
use Rattle.layout.specs.Layout.{other_chunks, pulled_places}

-- "a segment's pulled places are as many as its length, behind those of the segments before it": places, dealt out to segments.
unfoldable pub dealt : List ReadSegment → List ℕ → List (List ℕ)
dealt [] ps = []
dealt (x ∷ xs) ps = take x.target.length ps ∷ dealt xs (drop x.target.length ps)

-- Those of each segment of a read list.
abbrev pub segment_places : Kind → ℕ → List ReadSegment → List (List ℕ)
segment_places kind base reads = dealt reads (pulled_places kind base (other_chunks reads))

-- "Pulled bytes then come in list order", as mended by order 3 that of the sorted list: of which segment each is, from segment i on.
unfoldable pub segment_numbers : ℕ → List ReadSegment → List ℕ
segment_numbers i [] = []
segment_numbers i (x ∷ xs) = replicate x.target.length i ++ segment_numbers (suc i) xs

-- How many bytes the segments at a position have together.
unfoldable pub position_length : ℕ → List ReadSegment → ℕ
position_length position [] = 0
position_length position (x ∷ xs) = cond (eqb x.position position) x.target.length 0 + position_length position xs
