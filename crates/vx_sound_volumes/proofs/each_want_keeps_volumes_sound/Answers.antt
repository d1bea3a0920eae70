use Rattle.vx_sound_volumes.proofs.Steps.{each_want}
use Rattle.vx_sound_volumes.proofs.each_want_keeps_volumes_sound.Goals as goal

pub returns : goal.returns
returns c = each_want (record {
  start_restates = c.each_change_restates.ensures.start;
  stop_restates = c.each_change_restates.ensures.stop;
  recovery_restates = c.each_change_restates.ensures.recovery;
  recovered_restates = c.each_change_restates.ensures.ended;
  start_keeps = c.each_record_keeps.ensures.started;
  stop_keeps = c.each_record_keeps.ensures.stopped;
})
