use Rattle.vx_joined_volumes.proofs.SwitchPlexes.{each_plex_left_out}
use Rattle.vx_joined_volumes.proofs.each_plex_left_out_is_off.Goals as goal

pub returns : goal.returns
returns g c = each_plex_left_out g.P.Piece.seen c.args.running.now
