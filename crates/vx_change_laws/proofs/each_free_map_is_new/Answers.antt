-- A free map is that of no plex.
use Rattle.vx_change_laws.proofs.Failures.{free_map_new}
use Rattle.vx_change_laws.proofs.each_free_map_is_new.Goals as goal

pub returns : goal.returns
returns c = free_map_new
