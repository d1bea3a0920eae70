use Rattle.vx_sound_imports.proofs.Runs.{each_run, each_run_left_off}
use Rattle.vx_sound_imports.proofs.each_run_keeps_all_devices_sound.Goals as goal

pub returns-clause-kept : goal.returns-clause-kept
returns-clause-kept c = each_run c.each_step_keeps_all_sound.ensures

pub returns-clause-left_off : goal.returns-clause-left_off
returns-clause-left_off c = each_run_left_off c.each_step_keeps_all_sound.ensures c.each_want_keeps_all_sound.ensures
