use Rattle.std.proofs.Common.{◌∙◌, sym, ap}
use Rattle.vx_stages.specs.Tests.{is_data}
use Rattle.vx_stages.specs.Leaving.{ByLog, ByRecord, FromLog, FromRest, way_of}
use Rattle.vx_stage_dissociation.specs.Ways.{as_way}
use Rattle.vx_stage_dissociation.proofs.Dissociates.{alone_ends, alone_planned, way_ends, way_planned}
use Rattle.vx_stage_dissociation.proofs.dissociating.dissociate_in.Goals as goal

pub remove_alone-requires-clause-planned : goal.remove_alone-requires-clause-planned
remove_alone-requires-clause-planned g c κs within =
    let x = c.in_ok-plex in
    alone_planned g.P.Piece.seen c.args.group.now c.args.name.now c.args.remove x.plex x.own x.ensures.found x.ensures.own x.ensures.passes c.in_ok-next.next c.in_ok-next.ensures.planned c.in-None.is

pub returns-in-None : goal.returns-in-None
returns-in-None g c =
    let x = c.in_ok-plex in
    record {
      ends = alone_ends g.P.Piece.seen c.args.group.now c.args.name.now c.args.remove x.plex x.own x.ensures.found x.ensures.own x.ensures.passes c.in_ok-next.next c.in_ok-next.ensures.planned c.in-None.is
          c.remove_alone.result c.remove_alone.new.group c.remove_alone.ensures.goes;
    }

pub leave_recorded-requires-clause-planned : goal.leave_recorded-requires-clause-planned
leave_recorded-requires-clause-planned g c κs within =
    let x = c.in_ok-plex in
    way_planned g.P.Piece.seen c.args.group.now c.args.name.now c.args.remove x.plex x.own x.ensures.found x.ensures.own x.ensures.passes c.in_ok-next.next c.in_ok-next.ensures.planned c.in-Some.vol c.in-Some.is ByRecord
    (sym (c.way_of.ensures ∙ ap (λ b. way_of (is_data x.plex.kind) b c.in-Some.vol) c.contains_key-runs.ensures) ∙ ap as_way c.in-ByRecord.is)

pub returns-in-ByRecord : goal.returns-in-ByRecord
returns-in-ByRecord g c =
    let x = c.in_ok-plex in
    record {
      ends = way_ends g.P.Piece.seen c.args.group.now c.args.name.now c.args.remove x.plex x.own x.ensures.found x.ensures.own x.ensures.passes c.in_ok-next.next c.in_ok-next.ensures.planned c.in-Some.vol c.in-Some.is ByRecord
          (sym (c.way_of.ensures ∙ ap (λ b. way_of (is_data x.plex.kind) b c.in-Some.vol) c.contains_key-runs.ensures) ∙ ap as_way c.in-ByRecord.is)
          c.leave_recorded.result c.leave_recorded.new.group c.leave_recorded.ensures.goes;
    }

pub leave_log-requires-clause-planned : goal.leave_log-requires-clause-planned
leave_log-requires-clause-planned g c κs within =
    let x = c.in_ok-plex in
    way_planned g.P.Piece.seen c.args.group.now c.args.name.now c.args.remove x.plex x.own x.ensures.found x.ensures.own x.ensures.passes c.in_ok-next.next c.in_ok-next.ensures.planned c.in-Some.vol c.in-Some.is FromLog
    (sym (c.way_of.ensures ∙ ap (λ b. way_of (is_data x.plex.kind) b c.in-Some.vol) c.contains_key-runs.ensures) ∙ ap as_way c.in-FromLog.is)

pub returns-in-FromLog : goal.returns-in-FromLog
returns-in-FromLog g c =
    let x = c.in_ok-plex in
    record {
      ends = way_ends g.P.Piece.seen c.args.group.now c.args.name.now c.args.remove x.plex x.own x.ensures.found x.ensures.own x.ensures.passes c.in_ok-next.next c.in_ok-next.ensures.planned c.in-Some.vol c.in-Some.is FromLog
          (sym (c.way_of.ensures ∙ ap (λ b. way_of (is_data x.plex.kind) b c.in-Some.vol) c.contains_key-runs.ensures) ∙ ap as_way c.in-FromLog.is)
          c.leave_log.result c.leave_log.new.group c.leave_log.ensures.goes;
    }

pub returns-in-FromRest : goal.returns-in-FromRest
returns-in-FromRest g c =
    let x = c.in_ok-plex in
    record {
      ends = way_ends g.P.Piece.seen c.args.group.now c.args.name.now c.args.remove x.plex x.own x.ensures.found x.ensures.own x.ensures.passes c.in_ok-next.next c.in_ok-next.ensures.planned c.in-Some.vol c.in-Some.is FromRest
          (sym (c.way_of.ensures ∙ ap (λ b. way_of (is_data x.plex.kind) b c.in-Some.vol) c.contains_key-runs.ensures) ∙ ap as_way c.in-FromRest.is)
          c.leave_rested.result c.leave_rested.new.group c.leave_rested.ensures.ends;
    }

pub leave_asked-requires-clause-planned : goal.leave_asked-requires-clause-planned
leave_asked-requires-clause-planned g c κs within =
    let x = c.in_ok-plex in
    way_planned g.P.Piece.seen c.args.group.now c.args.name.now c.args.remove x.plex x.own x.ensures.found x.ensures.own x.ensures.passes c.in_ok-next.next c.in_ok-next.ensures.planned c.in-Some.vol c.in-Some.is ByLog
    (sym (c.way_of.ensures ∙ ap (λ b. way_of (is_data x.plex.kind) b c.in-Some.vol) c.contains_key-runs.ensures) ∙ ap as_way c.in-ByLog.is)

pub returns-in-ByLog : goal.returns-in-ByLog
returns-in-ByLog g c =
    let x = c.in_ok-plex in
    record {
      ends = way_ends g.P.Piece.seen c.args.group.now c.args.name.now c.args.remove x.plex x.own x.ensures.found x.ensures.own x.ensures.passes c.in_ok-next.next c.in_ok-next.ensures.planned c.in-Some.vol c.in-Some.is ByLog
          (sym (c.way_of.ensures ∙ ap (λ b. way_of (is_data x.plex.kind) b c.in-Some.vol) c.contains_key-runs.ensures) ∙ ap as_way c.in-ByLog.is)
          c.leave_asked.result c.leave_asked.new.group c.leave_asked.ensures.goes;
    }
