use Rattle.vx_healed_volumes.proofs.HealedVolumes.{healed_list, healed_stands}
use Rattle.vx_healed_volumes.proofs.WholeImages.{healed_whole}
use Rattle.vx_healed_volumes.proofs.each_healed_volume_stands.Goals as goal

pub returns-clause-stands : goal.returns-clause-stands
returns-clause-stands g c =
    healed_stands c.args.old.now c.args.new.now c.args.running.now c.args.after.now
    c.each_opening_runs.ensures c.each_running_forgets.ensures c.each_healing_runs_on.ensures c.each_left_volume_stands.ensures.leaving

pub returns-clause-list : goal.returns-clause-list
returns-clause-list g c =
    healed_list c.args.old.now c.args.new.now c.args.running.now c.args.after.now
    c.each_opening_runs.ensures c.each_running_forgets.ensures c.each_healing_runs_on.ensures c.each_left_volume_stands.ensures.stop c.each_healing_heals.ensures

pub returns-clause-whole : goal.returns-clause-whole
returns-clause-whole g c =
    healed_whole c.args.old.now c.args.new.now c.args.running.now c.args.after.now
    c.each_opening_runs.ensures c.each_running_forgets.ensures c.each_healing_runs_on.ensures c.each_healing_heals.ensures
