use Rattle.vx_plex_pieces.proofs.OnePlex.{taken_runs}
use Rattle.vx_plex_pieces.proofs.laws.each_taken_region_is_a_run.Goals as goal

pub returns : goal.returns
returns c = taken_runs
