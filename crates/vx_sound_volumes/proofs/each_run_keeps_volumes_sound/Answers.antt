use Rattle.vx_sound_volumes.proofs.Steps.{each_run, each_run_leaves, each_run_left_off}
use Rattle.vx_sound_volumes.proofs.each_run_keeps_volumes_sound.Goals as goal

pub returns-clause-kept : goal.returns-clause-kept
returns-clause-kept c = each_run c.each_step_keeps_volumes_sound.ensures

pub returns-clause-left : goal.returns-clause-left
returns-clause-left c = each_run_leaves c.each_step_keeps_volumes_sound.ensures

pub returns-clause-left_off : goal.returns-clause-left_off
returns-clause-left_off c = each_run_left_off c.each_step_keeps_volumes_sound.ensures c.each_want_keeps_volumes_sound.ensures
