use Rattle.vx_stage_dissociation.proofs.Asks.{askable, may_free, may_of, needed_so, spared_so, unasked, unprepared}
use Rattle.vx_stage_dissociation.proofs.asking.leave_asked.Goals as goal

pub returns-then-is_err : goal.returns-then-is_err
returns-then-is_err g c =
    record {
      goes = unprepared c.requires.alike c.each_piece_ends.ensures.ends c.each_piece_ends.ensures.counts c.args.vol.now c.args.plex.now c.args.next c.args.group.now c.prepare.new.group c.prepare.ensures.parts;
    }

pub ask_log-requires-clause-of : goal.ask_log-requires-clause-of
ask_log-requires-clause-of g c κs within =
    let may =
    askable g.P.Piece.seen c.args.vol.now c.args.plex.now c.args.next c.args.group.now c.prepare.new.group c.requires.kept c.requires.planned c.prepare.ensures.parts c.prepare.result c.prepare.ensures.ready c.is_err.result
    c.is_err.ensures.value c.if-is_err.false in
    may_of g.P.Piece.seen c.args.vol.now c.args.plex.now c.args.next c.args.group.now c.prepare.new.group may

pub ask_log-requires-clause-free : goal.ask_log-requires-clause-free
ask_log-requires-clause-free g c κs within =
    let may =
    askable g.P.Piece.seen c.args.vol.now c.args.plex.now c.args.next c.args.group.now c.prepare.new.group c.requires.kept c.requires.planned c.prepare.ensures.parts c.prepare.result c.prepare.ensures.ready c.is_err.result
    c.is_err.ensures.value c.if-is_err.false in
    may_free g.P.Piece.seen c.args.vol.now c.args.plex.now c.args.next c.args.group.now c.prepare.new.group may c.each_idle_volume_is_free.ensures

pub returns-in-Ok-true : goal.returns-in-Ok-true
returns-in-Ok-true g c =
    let may =
    askable g.P.Piece.seen c.args.vol.now c.args.plex.now c.args.next c.args.group.now c.prepare.new.group c.requires.kept c.requires.planned c.prepare.ensures.parts c.prepare.result c.prepare.ensures.ready c.is_err.result
    c.is_err.ensures.value c.if-is_err.false in
    record {
      goes = rw c.refused.ensures
          (needed_so c.requires.alike c.each_piece_ends.ensures.ends c.each_piece_ends.ensures.counts c.args.vol.now c.args.plex.now c.args.next c.args.group.now c.prepare.new.group may c.map_or_zero.result c.map_or_zero.ensures
          c.ask_log.new.group c.in-Ok-true.field-0 c.in-Ok-true.ensures.asks c.in-Ok-true.field-0-test);
    }

pub returns-in-Ok-false : goal.returns-in-Ok-false
returns-in-Ok-false g c =
    let may =
    askable g.P.Piece.seen c.args.vol.now c.args.plex.now c.args.next c.args.group.now c.prepare.new.group c.requires.kept c.requires.planned c.prepare.ensures.parts c.prepare.result c.prepare.ensures.ready c.is_err.result
    c.is_err.ensures.value c.if-is_err.false in
    record {
      goes = spared_so c.requires.alike c.each_piece_ends.ensures.ends c.each_piece_ends.ensures.counts c.args.vol.now c.args.plex.now c.args.next c.args.group.now c.prepare.new.group may c.map_or_zero.result c.map_or_zero.ensures
          c.ask_log.new.group c.in-Ok-false.field-0 c.in-Ok-false.ensures.asks c.in-Ok-false.field-0-test c.commit_next.result c.commit_next.new.group c.commit_next.ensures.ends;
    }

pub returns-in-Err : goal.returns-in-Err
returns-in-Err g c =
    let may =
    askable g.P.Piece.seen c.args.vol.now c.args.plex.now c.args.next c.args.group.now c.prepare.new.group c.requires.kept c.requires.planned c.prepare.ensures.parts c.prepare.result c.prepare.ensures.ready c.is_err.result
    c.is_err.ensures.value c.if-is_err.false in
    record {
      goes = rw c.unspared.ensures
          (unasked c.requires.alike c.each_piece_ends.ensures.ends c.each_piece_ends.ensures.counts c.args.vol.now c.args.plex.now c.args.next c.args.group.now c.prepare.new.group may c.ask_log.new.group c.in-Err.stop
          c.in-Err.ensures.unopened);
    }
