-- A part of a frame, for C.
use Rattle.std.specs.Prelude.{ℕ, ◌-◌, cond, List, length, eqb}
use Rattle.c_header.specs.declared.Part.{Part}

-- Where a part that ends with the frame lies in it; an empty part is at 0.
unfoldable pub part_of : List ℕ → List ℕ → Part
part_of frame part =
    cond (eqb (length part) 0) (record { offset = 0; length = 0 })
    (record { offset = length frame - length part; length = length part })
