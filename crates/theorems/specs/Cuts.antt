-- Cuts of a read list (document 01, "A cut puts .."; demand 3).
use Rattle.std.specs.Prelude.{ℕ, ◌+◌, ◌≤◌, ◌≡◌, List, [], ◌∷◌, ◌++◌, length, take, drop}
use Rattle.wire.specs.declared.ReadSegment.{ReadSegment}
use Rattle.header.specs.Content.{Content}
use Rattle.header.specs.Bytes.{read_list_bytes}
use Rattle.wire.specs.Fits.{All, ReadSegmentFits}
use Rattle.theorems.specs.Calls.{Call, Ending, start_then}

-- "A cut puts, where each read segment stood, one or more segments of its position whose lengths add up to its own": `last` the last of them, `more` one before a rest that is cut on.
pub data Cut : List ReadSegment → List ReadSegment → Type 0 where
  none : Cut [] []
  last : {x y : ReadSegment} {xs ys : List ReadSegment} → y.position ≡ x.position → y.target.length ≡ x.target.length → Cut xs ys → Cut (x ∷ xs) (y ∷ ys)
  more : {x y z : ReadSegment} {xs ys : List ReadSegment} → y.position ≡ x.position → z.position ≡ x.position → y.target.length + z.target.length ≡ x.target.length →
      Cut (z ∷ xs) ys → Cut (x ∷ xs) (y ∷ ys)

-- The same sentence to its end: "16 in all at most, with any handles and offsets".
pub record CutOf (reads cut : List ReadSegment) : Type 0 where
  pub cuts : Cut reads cut
  -- "16 in all at most"
  pub few : length cut ≤ 16
  -- "with any handles and offsets" that a frame can hold: "32-bit words, but a segment's offset has 64 bits"
  pub fits : All ReadSegmentFits cut

-- "the rest of the frame stays": the frame with another read list in the place of its own.
unfoldable pub cut_frame : List ℕ → List ReadSegment → List ReadSegment → List ℕ
cut_frame frame reads cut = take 16 frame ++ (read_list_bytes cut ++ drop (16 + length (read_list_bytes reads)) frame)

-- "the cut start .., over the same buffer. After it comes any list of these calls"
abbrev pub cut_then : List ℕ → List ℕ → Content → List ReadSegment → List Call → Ending
cut_then frame out c cut calls = start_then (cut_frame frame c.reads cut) out calls
