-- Each call of itself has less room.
use Rattle.chunk_lists.proofs.+room_behind.Given as goal

abbrev pub decreases-room_behind : goal.decreases-room_behind
decreases-room_behind l = l.room
