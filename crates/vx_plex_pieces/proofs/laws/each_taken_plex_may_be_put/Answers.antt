use Rattle.vx_plex_pieces.proofs.OnePlex.{taken_puts}
use Rattle.vx_plex_pieces.proofs.laws.each_taken_plex_may_be_put.Goals as goal

pub returns : goal.returns
returns c = taken_puts
