-- Fewer plexes are left with each call.
use Rattle.std.proofs.Common.{length}
use Rattle.vx_lending.proofs.room.+pieces_beside.Given as goal

abbrev pub decreases-pieces_beside : goal.decreases-pieces_beside
decreases-pieces_beside g l = length l.plexes.now
