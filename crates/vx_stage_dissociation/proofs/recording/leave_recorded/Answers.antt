use Rattle.vx_stage_dissociation.proofs.Recordings.{recorded_leaves}
use Rattle.vx_stage_dissociation.proofs.recording.leave_recorded.Goals as goal

pub returns : goal.returns
returns g c =
    record {
      goes = recorded_leaves g.P.Piece.seen c.args.vol.now c.args.plex.now c.args.next c.args.group.now c.commit_next.new.group c.requires.planned c.commit_next.result c.commit_next.ensures.ends;
    }
