use Rattle.vx_loss_laws.proofs.Left.{each_loss_leaves as proved}
use Rattle.vx_loss_laws.proofs.each_loss_leaves.Goals as goal

pub returns : goal.returns
returns c =
    proved (record {
      start_restates = c.each_change_restates.ensures.start;
      stop_restates = c.each_change_restates.ensures.stop;
      recovery_restates = c.each_change_restates.ensures.recovery;
      recovered_restates = c.each_change_restates.ensures.ended;
      start_keeps = c.each_record_keeps.ensures.started;
      stop_keeps = c.each_record_keeps.ensures.stopped;
    })
