-- The limits of a header (document 01, "The header on the wire").
use Rattle.std.specs.Prelude.{ℕ, ◌+◌, Bool, cond, ◌&&◌, List, [], ◌∷◌, take, leb}
use Rattle.chunk_lists.specs.Lists.{max_read_segments, max_write_chunks, max_write_segments, max_reply_segments}
use Rattle.header.specs.declared.Header.{Header}

-- A sum. Of the counts: the segments of all chunks together.
unfoldable pub total : List ℕ → ℕ
total [] = 0
total (n ∷ ns) = n + total ns

-- "7 (also segments in an absent reply chunk)": the limits of a header that is to be written, or compared.
unfoldable pub within_limits : ℕ → ℕ → List ℕ → Bool → ℕ → Bool
within_limits reads chunks counts present replies =
    leb reads max_read_segments && (leb chunks max_write_chunks && (leb (total (take chunks counts)) max_write_segments && leb replies (cond present max_reply_segments 0)))

abbrev pub keeps_limits : Header → Bool
keeps_limits h = within_limits h.reads.count h.writes.chunks h.writes.counts h.reply.present h.reply.count
