use Rattle.vx_stage_dissociation.proofs.AloneGoes.{removes_alone}
use Rattle.vx_stage_dissociation.proofs.recording.remove_alone.Goals as goal

pub returns : goal.returns
returns g c =
    record {
      goes = removes_alone g.P.Piece.seen c.args.plex.now c.args.next c.args.group.now c.commit_next.new.group c.requires.planned c.requires.alone c.commit_next.result c.commit_next.ensures.ends;
    }
