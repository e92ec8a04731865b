-- `chunk_lists::decode_segments` meets its contract.
use Prim.Native.Nat.{◌+◌}
use lib.ListN.{drop}
use Rattle.chunk_lists.specs.Parsed.{each}
use Rattle.chunk_lists.proofs.Items.{Storing}
use Rattle.chunk_lists.proofs.decode_segments.Given as goal

abbrev pub invariant-loop-k : goal.invariant-loop-k
invariant-loop-k g l = let item = g.T.Item in
    Storing item.item_words (each (item.MARKER_BYTES + item.BYTES) (λ t. item.item_at t item.MARKER_BYTES) l.n (drop l.from l.s)) l.n l.initial.words l.words l.to l.k
