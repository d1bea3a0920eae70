use Rattle.vx_group_volumes.proofs.Stands.{stopped_clean, stopped_stands}
use Rattle.vx_group_volumes.proofs.each_stopped_volume_stands.Goals as goal

pub returns-clause-stands : goal.returns-clause-stands
returns-clause-stands g c = stopped_stands g.P.Piece.seen c.args.running.now c.each_left_volume_stands.ensures.stop c.each_record_changes_states.ensures.stopped

pub returns-clause-clean : goal.returns-clause-clean
returns-clause-clean g c = stopped_clean g.P.Piece.seen c.args.running.now c.each_record_changes_states.ensures.stopped
