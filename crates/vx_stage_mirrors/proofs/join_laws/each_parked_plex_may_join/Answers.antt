use Rattle.vx_stage_mirrors.proofs.JoiningParking.{parked_may_join}
use Rattle.vx_stage_mirrors.proofs.join_laws.each_parked_plex_may_join.Goals as goal

pub returns : goal.returns
returns g c = parked_may_join g.P.Piece.seen c.each_taken_region_is_a_run.ensures c.each_taken_plex_may_be_put.ensures c.args.old.now c.args.new.now c.args.running.now
