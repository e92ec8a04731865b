-- Each call of itself has less room.
use Rattle.chunk_lists.proofs.+count_entries.Given as goal

abbrev pub decreases-count_entries : goal.decreases-count_entries
decreases-count_entries l = l.room
