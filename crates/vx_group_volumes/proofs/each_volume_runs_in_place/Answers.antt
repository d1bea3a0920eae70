use Rattle.vx_group_volumes.proofs.Places.{in_place_recorded, in_place_started}
use Rattle.vx_group_volumes.proofs.each_volume_runs_in_place.Goals as goal

pub returns-clause-started : goal.returns-clause-started
returns-clause-started g c config good v numbers of form_is started numbered = in_place_started c.args.running.now config good v numbers c.args.old.now c.args.new.now of form_is started numbered

pub returns-clause-recorded : goal.returns-clause-recorded
returns-clause-recorded g c = in_place_recorded c.args.running.now
