use Rattle.vx_volume.specs.Changing.{runs_seen}
use Rattle.vx_stage_dissociation.proofs.Takes.{takes_in}
use Rattle.vx_stage_dissociation.proofs.taking.take_out.Goals as goal

pub returns : goal.returns
returns g c =
    takes_in g.P.Piece.seen c.args.group.now c.args.name.now c.args.map (runs_seen g.P.Piece.seen c.take_running-runs.result.items) c.take_running-runs.new.running c.take_running-runs.ensures c.leave_runs.new.public
    c.leave_runs.ensures.running c.leave_runs.ensures.pool c.leave_runs.ensures.stuck c.leave_runs.ensures.still
