-- The counts in the words of a header.
use Rattle.std.specs.Prelude.{ℕ, Bool, List, get_or}
use Rattle.header.specs.Limits.{within_limits}
use Rattle.header.specs.Words.{read_count_at, write_chunks_at, reply_count_at, counts_in}

-- Whether they are within their limits.
abbrev pub limits_kept : List ℕ → Bool → Bool
limits_kept w present = within_limits (get_or w read_count_at 0) (get_or w write_chunks_at 0) (counts_in w) present (get_or w reply_count_at 0)
