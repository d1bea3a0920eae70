use Rattle.std.proofs.Common.{length}
use Rattle.vx_store_rows.proofs.region.+maps_of.Given as goal

abbrev pub decreases-maps_of : goal.decreases-maps_of
decreases-maps_of g l = length l.plexes.now
