use Rattle.vx_stage_dissociation.proofs.YieldFacts.{log_runs, plex_recorded}
use Rattle.vx_stage_dissociation.proofs.YieldGoes.{log_goes}
use Rattle.vx_stage_dissociation.proofs.logging.leave_log.Goals as goal

pub leave_copy-requires-clause-runs : goal.leave_copy-requires-clause-runs
leave_copy-requires-clause-runs g c κs within = log_runs g.P.Piece.seen c.args.group.now c.args.vol.now c.args.plex.now c.args.next c.requires.planned

pub leave_copy-requires-clause-recorded : goal.leave_copy-requires-clause-recorded
leave_copy-requires-clause-recorded g c κs within = plex_recorded g.P.Piece.seen c.args.group.now c.args.vol.now c.args.plex.now c.args.next c.requires.planned

pub returns : goal.returns
returns g c =
    record {
      goes = log_goes c.requires.alike (record {
        gives = c.each_copy_given_up_runs_on.ensures.runs;
        leaving = c.each_left_volume_stands.ensures.leaving;
        stop = c.each_left_volume_stands.ensures.stop;
        ends = c.each_piece_ends.ensures.ends;
        counts = c.each_piece_ends.ensures.counts;
      }) c.args.vol.now c.args.plex.now c.args.next c.leave_copy.result c.args.group.now c.leave_copy.new.group c.leave_copy.ensures.ends;
    }
