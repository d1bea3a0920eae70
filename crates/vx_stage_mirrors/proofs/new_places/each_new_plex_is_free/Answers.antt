use Rattle.vx_stage_mirrors.proofs.FreePlaces.{new_free}
use Rattle.vx_stage_mirrors.proofs.new_places.each_new_plex_is_free.Goals as goal

pub returns : goal.returns
returns g c = new_free g.P.Piece.seen c.args.group.now
