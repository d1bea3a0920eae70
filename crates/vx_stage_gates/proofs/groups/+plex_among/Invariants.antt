use Rattle.std.proofs.Common.{length}
use Rattle.vx_stage_gates.proofs.groups.+plex_among.Given as goal

abbrev pub decreases-plex_among : goal.decreases-plex_among
decreases-plex_among l = length l.plexes.now
