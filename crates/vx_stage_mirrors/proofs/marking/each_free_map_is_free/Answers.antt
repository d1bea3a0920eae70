use Rattle.vx_stage_mirrors.proofs.FreeMaps.{free_map_free}
use Rattle.vx_stage_mirrors.proofs.marking.each_free_map_is_free.Goals as goal

pub returns : goal.returns
returns g c = free_map_free g.P.Piece.seen c.args.running.now
