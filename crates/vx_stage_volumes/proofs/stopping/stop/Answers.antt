use Rattle.vx_stage_volumes.proofs.StopStage.{no_group, stop_goes}
use Rattle.vx_stage_volumes.proofs.stopping.stop.Goals as goal

pub returns-in-None : goal.returns-in-None
returns-in-None g c = record {
  goes = λ disks shelf ready held. rw c.refused.ensures (no_group c.args.house.now c.requires.alike
      (record {
        rest = c.each_rest_runs_on.ensures;
        settled = c.each_rest_is_settled.ensures;
        stands = c.each_left_volume_stands.ensures.stop;
        states = c.each_record_changes_states.ensures.stopped;
        restates = c.each_change_restates.ensures.stop;
        ends = c.each_piece_ends.ensures.ends;
        counts = c.each_piece_ends.ensures.counts;
      })
      c.args.vol.now disks shelf c.requires.keeps held c.in-None.is);
}

pub returns-in-Some : goal.returns-in-Some
returns-in-Some g c = record {
  goes = λ disks shelf ready held. stop_goes c.args.house.now c.requires.alike
      (record {
        rest = c.each_rest_runs_on.ensures;
        settled = c.each_rest_is_settled.ensures;
        stands = c.each_left_volume_stands.ensures.stop;
        states = c.each_record_changes_states.ensures.stopped;
        restates = c.each_change_restates.ensures.stop;
        ends = c.each_piece_ends.ensures.ends;
        counts = c.each_piece_ends.ensures.counts;
      })
      c.args.vol.now disks shelf c.requires.keeps held c.in-Some.group c.in-Some.is c.stop_in.result c.stop_in.new.group c.stop_in.ensures.ends;
}
