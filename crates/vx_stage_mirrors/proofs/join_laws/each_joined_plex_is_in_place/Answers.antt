use Rattle.vx_stage_mirrors.proofs.Places.{each_place_joined}
use Rattle.vx_stage_mirrors.proofs.join_laws.each_joined_plex_is_in_place.Goals as goal

pub returns : goal.returns
returns g c = each_place_joined g.P.Piece.seen c.args.before.now c.args.after.now
