use Rattle.vx_sound_imports.proofs.Runs.{each_step}
use Rattle.vx_sound_imports.proofs.each_step_keeps_all_sound.Goals as goal

pub returns : goal.returns
returns c =
    each_step (record {
      start_restates = c.each_change_restates.ensures.start;
      stop_restates = c.each_change_restates.ensures.stop;
      recovery_restates = c.each_change_restates.ensures.recovery;
      recovered_restates = c.each_change_restates.ensures.ended;
      start_keeps = c.each_record_keeps.ensures.started;
      stop_keeps = c.each_record_keeps.ensures.stopped;
    }) c.each_step_keeps_volumes_sound.ensures
