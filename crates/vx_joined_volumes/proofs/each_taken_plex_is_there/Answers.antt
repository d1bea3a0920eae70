use Rattle.vx_joined_volumes.proofs.SwitchPlexes.{each_plex_known}
use Rattle.vx_joined_volumes.proofs.each_taken_plex_is_there.Goals as goal

pub returns : goal.returns
returns g c = each_plex_known g.P.Piece.seen c.args.running.now
