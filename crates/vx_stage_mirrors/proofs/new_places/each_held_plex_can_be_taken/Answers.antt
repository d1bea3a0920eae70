use Rattle.vx_stage_mirrors.proofs.Taken.{held_taken}
use Rattle.vx_stage_mirrors.proofs.new_places.each_held_plex_can_be_taken.Goals as goal

pub returns : goal.returns
returns c = held_taken
