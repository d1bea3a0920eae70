use Rattle.vx_joined_volumes.proofs.Alone.{each_plex_alone}
use Rattle.vx_joined_volumes.proofs.each_lone_plex_is_alone.Goals as goal

pub returns : goal.returns
returns g c = each_plex_alone g.P.Piece.seen c.args.running.now
