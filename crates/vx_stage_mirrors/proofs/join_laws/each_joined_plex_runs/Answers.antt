use Rattle.vx_stage_mirrors.proofs.Runs.{each_run_joined}
use Rattle.vx_stage_mirrors.proofs.join_laws.each_joined_plex_runs.Goals as goal

pub returns : goal.returns
returns g c = each_run_joined g.P.Piece.seen c.args.before.now c.args.after.now c.each_joining_runs_on.ensures
