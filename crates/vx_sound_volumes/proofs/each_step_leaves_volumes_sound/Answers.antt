use Rattle.vx_sound_volumes.proofs.Lost.{each_step_leaves}
use Rattle.vx_sound_volumes.proofs.Stages.{StateLaws}
use Rattle.vx_sound_volumes.proofs.each_step_leaves_volumes_sound.Goals as goal

pub returns : goal.returns
returns c =
    let laws : StateLaws = record {
      start_restates = c.each_change_restates.ensures.start;
      stop_restates = c.each_change_restates.ensures.stop;
      recovery_restates = c.each_change_restates.ensures.recovery;
      recovered_restates = c.each_change_restates.ensures.ended;
      start_keeps = c.each_record_keeps.ensures.started;
      stop_keeps = c.each_record_keeps.ensures.stopped;
    } in
    each_step_leaves laws
