use Rattle.vx_joined_volumes.proofs.PartEdits.{each_taken_out}
use Rattle.vx_joined_volumes.proofs.each_plex_is_taken_out.Goals as goal

pub returns : goal.returns
returns c = each_taken_out
