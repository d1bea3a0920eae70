use Rattle.vx_loss_laws.proofs.Runs.{each_acknowledged_write_outlives_loss as proved}
use Rattle.vx_loss_laws.proofs.each_acknowledged_write_outlives_loss.Goals as goal

pub returns : goal.returns
returns c =
    proved (record {
      start_restates = c.each_change_restates.ensures.start;
      stop_restates = c.each_change_restates.ensures.stop;
      recovery_restates = c.each_change_restates.ensures.recovery;
      recovered_restates = c.each_change_restates.ensures.ended;
      start_keeps = c.each_record_keeps.ensures.started;
      stop_keeps = c.each_record_keeps.ensures.stopped;
    }) c.each_step_keeps_all_sound.ensures c.each_loss_leaves.ensures c.each_left_is_recovered.ensures
