use Rattle.std.proofs.Common.{◌∙◌, Ok, Err, inl, refl, sym}
use Rattle.std.proofs.lemmas.Result.{err_from_is_err_and}
use Rattle.vx_stage_volumes.proofs.Named.{found_of}
use Rattle.vx_stage_mirrors.specs.LogEnding.{FilledEnds}
use Rattle.vx_stage_mirrors.proofs.PlannedLogs.{alive_made, going_made, joins_here, left_there, logs_next, may_there, new_by, none_there, planned_here, planned_ready, prepared_filled, prepared_new, rests_here, runs_ready, unmade_here, unplanned_here, unrecorded_here}
use Rattle.vx_stage_mirrors.proofs.Requests.{logs_can_be_asked}
use Rattle.vx_stage_mirrors.proofs.preparing.prepare_in.Goals as goal
use Rattle.vx_stage_mirrors.proofs.preparing.prepare_in.Goals.{then-runs, else-runs}

pub planned_logs-requires : goal.planned_logs-requires
planned_logs-requires g c = record {
  recorded = found_of c.args.group.now.config c.args.new.now.vol c.in_ok-vol.vol c.in_ok-vol.ensures.found;
  request = logs_can_be_asked c.contains_key-runs.result c.args.group.now.config c.args.new.now c.in_ok-vol.vol c.in_ok-vol.ensures.found c.in_ok-vol.ensures.passes;
}

pub returns-in_err-next : goal.returns-in_err-next
returns-in_err-next g c =
    let see = g.P.Piece.seen in
    let old = c.args.group.now in
    let n = c.args.new.now in
    let p = err_from_is_err_and c.from_residual-in_err-next.result c.from_residual-in_err-next.ensures.1 in
    record {
      ends = rw (p.1, p.2)
          (inl (inl (refl, unplanned_here see old n c.contains_key-runs.result c.contains_key-runs.ensures c.in_ok-vol.vol c.in_ok-vol.ensures.found c.in_ok-vol.ensures.passes c.good.result c.good.ensures.just c.in_err-next.field-0.0 c.in_err-next.ensures.unplanned)));
    }

pub returns-then-eq : goal.returns-then-eq
returns-then-eq g c =
    let see = g.P.Piece.seen in
    let old = c.args.group.now in
    let n = c.args.new.now in
    let v = c.in_ok-vol.vol in
    let next = c.in_ok-next.next in
    let planned = planned_here see old n c.contains_key-runs.result c.contains_key-runs.ensures v c.in_ok-vol.ensures.found c.in_ok-vol.ensures.passes c.good.result c.good.ensures.just next c.in_ok-next.ensures.planned in
    let never = new_by v.state c.eq.result c.eq.ensures ∙ c.if-eq.true in
    record { ends = prepared_new see n v next old c.commit_next.new.group planned c.commit_next.result never c.commit_next.ensures.ends }

pub make-requires-clause-next : goal.make-requires-clause-next
make-requires-clause-next g c κs within =
    let see = g.P.Piece.seen in
    let old = c.args.group.now in
    let n = c.args.new.now in
    let v = c.in_ok-vol.vol in
    let next = c.in_ok-next.next in
    let planned = planned_here see old n c.contains_key-runs.result c.contains_key-runs.ensures v c.in_ok-vol.ensures.found c.in_ok-vol.ensures.passes c.good.result c.good.ensures.just next c.in_ok-next.ensures.planned in
    let filled = new_by v.state c.eq.result c.eq.ensures ∙ c.if-eq.false in
    logs_next see n v next c.prepare.new.group (planned_ready see old c.prepare.new.group c.prepare.ensures.parts n v next planned) filled

pub returns-in_err-logs : goal.returns-in_err-logs
returns-in_err-logs g c =
    let see = g.P.Piece.seen in
    let old = c.args.group.now in
    let ready = c.prepare.new.group in
    let n = c.args.new.now in
    let v = c.in_ok-vol.vol in
    let next = c.in_ok-next.next in
    let planned = planned_here see old n c.contains_key-runs.result c.contains_key-runs.ensures v c.in_ok-vol.ensures.found c.in_ok-vol.ensures.passes c.good.result c.good.ensures.just next c.in_ok-next.ensures.planned in
    let filled = new_by v.state c.eq.result c.eq.ensures ∙ c.if-eq.false in
    let now = planned_ready see old ready c.prepare.ensures.parts n v next planned in
    let stop = c.in_err-logs.field-0.0 in
    let p = err_from_is_err_and c.from_residual-in_err-logs.result c.from_residual-in_err-logs.ensures.1 in
    record {
      ends = rw (p.1, p.2)
          (prepared_filled see n v next old c.make.new.group planned (Err stop) filled (c.is_powered.ensures.powered c.if-not-is_powered.false) ready c.prepare.ensures.parts
          (unmade_here see n v next ready now stop c.make.new.group c.in_err-logs.ensures.ends));
    }

pub commit_next-requires-2-clause-alive : goal.commit_next-requires-2-clause-alive
commit_next-requires-2-clause-alive g c κs within =
    let see = g.P.Piece.seen in
    let old = c.args.group.now in
    let ready = c.prepare.new.group in
    let n = c.args.new.now in
    let v = c.in_ok-vol.vol in
    let next = c.in_ok-next.next in
    let planned = planned_here see old n c.contains_key-runs.result c.contains_key-runs.ensures v c.in_ok-vol.ensures.found c.in_ok-vol.ensures.passes c.good.result c.good.ensures.just next c.in_ok-next.ensures.planned in
    let now = planned_ready see old ready c.prepare.ensures.parts n v next planned in
    alive_made see n v next ready now c.in_ok-logs.logs.items c.make.new.group c.in_ok-logs.ensures.ends c.prepare.ensures.parts.kept.carries.alive

pub commit_next-requires-2-clause-going : goal.commit_next-requires-2-clause-going
commit_next-requires-2-clause-going g c κs within =
    let see = g.P.Piece.seen in
    let old = c.args.group.now in
    let ready = c.prepare.new.group in
    let n = c.args.new.now in
    let v = c.in_ok-vol.vol in
    let next = c.in_ok-next.next in
    let planned = planned_here see old n c.contains_key-runs.result c.contains_key-runs.ensures v c.in_ok-vol.ensures.found c.in_ok-vol.ensures.passes c.good.result c.good.ensures.just next c.in_ok-next.ensures.planned in
    let now = planned_ready see old ready c.prepare.ensures.parts n v next planned in
    going_made see n v next ready now c.in_ok-logs.logs.items c.make.new.group c.in_ok-logs.ensures.ends c.prepare.ensures.parts.kept.carries.lost

pub returns-in_err-commit_next : goal.returns-in_err-commit_next
returns-in_err-commit_next g c =
    let see = g.P.Piece.seen in
    let old = c.args.group.now in
    let ready = c.prepare.new.group in
    let n = c.args.new.now in
    let v = c.in_ok-vol.vol in
    let next = c.in_ok-next.next in
    let planned = planned_here see old n c.contains_key-runs.result c.contains_key-runs.ensures v c.in_ok-vol.ensures.found c.in_ok-vol.ensures.passes c.good.result c.good.ensures.just next c.in_ok-next.ensures.planned in
    let filled = new_by v.state c.eq.result c.eq.ensures ∙ c.if-eq.false in
    let now = planned_ready see old ready c.prepare.ensures.parts n v next planned in
    let stop = c.in_err-commit_next.field-0.0 in
    let p = err_from_is_err_and c.from_residual-in_err-commit_next.result c.from_residual-in_err-commit_next.ensures.1 in
    record {
      ends = rw (p.1, p.2)
          (prepared_filled see n v next old c.commit_next-2.new.group planned (Err stop) filled (c.is_powered.ensures.powered c.if-not-is_powered.false) ready c.prepare.ensures.parts
          (unrecorded_here see n v next ready now c.in_ok-logs.logs.items c.make.new.group c.in_ok-logs.ensures.ends stop c.commit_next-2.new.group c.in_err-commit_next.ensures.ends));
    }

pub join-requires-clause-left : goal.join-requires-clause-left
join-requires-clause-left g c κs within =
    let see = g.P.Piece.seen in
    let old = c.args.group.now in
    let ready = c.prepare.new.group in
    let n = c.args.new.now in
    let v = c.in_ok-vol.vol in
    let next = c.in_ok-next.next in
    let planned = planned_here see old n c.contains_key-runs.result c.contains_key-runs.ensures v c.in_ok-vol.ensures.found c.in_ok-vol.ensures.passes c.good.result c.good.ensures.just next c.in_ok-next.ensures.planned in
    let now = planned_ready see old ready c.prepare.ensures.parts n v next planned in
    left_there see n v next ready now c.in_ok-logs.logs.items c.make.new.group c.in_ok-logs.ensures.ends c.commit_next-2.new.group c.in_ok-commit_next.ensures.ends

pub join-requires-clause-none : goal.join-requires-clause-none
join-requires-clause-none g c κs within =
    let see = g.P.Piece.seen in
    let old = c.args.group.now in
    let ready = c.prepare.new.group in
    let n = c.args.new.now in
    let v = c.in_ok-vol.vol in
    let next = c.in_ok-next.next in
    let planned = planned_here see old n c.contains_key-runs.result c.contains_key-runs.ensures v c.in_ok-vol.ensures.found c.in_ok-vol.ensures.passes c.good.result c.good.ensures.just next c.in_ok-next.ensures.planned in
    let now = planned_ready see old ready c.prepare.ensures.parts n v next planned in
    none_there see n v next ready now c.in_ok-logs.logs.items c.make.new.group c.in_ok-logs.ensures.ends c.commit_next-2.new.group c.in_ok-commit_next.ensures.ends
    (runs_ready see old ready c.prepare.ensures.parts n.vol ∙ sym c.contains_key-runs.ensures ∙ c.if-runs.true) c.prepare.ensures.parts.kept

pub join-requires-clause-may : goal.join-requires-clause-may
join-requires-clause-may g c κs within =
    let see = g.P.Piece.seen in
    let old = c.args.group.now in
    let ready = c.prepare.new.group in
    let n = c.args.new.now in
    let v = c.in_ok-vol.vol in
    let next = c.in_ok-next.next in
    let planned = planned_here see old n c.contains_key-runs.result c.contains_key-runs.ensures v c.in_ok-vol.ensures.found c.in_ok-vol.ensures.passes c.good.result c.good.ensures.just next c.in_ok-next.ensures.planned in
    let now = planned_ready see old ready c.prepare.ensures.parts n v next planned in
    may_there see n v next ready now c.in_ok-logs.logs.items c.make.new.group c.in_ok-logs.ensures.ends c.commit_next-2.new.group c.in_ok-commit_next.ensures.ends
    (runs_ready see old ready c.prepare.ensures.parts n.vol ∙ sym c.contains_key-runs.ensures ∙ c.if-runs.true) c.prepare.ensures.parts.kept

pub returns : goal.returns
returns g c =
    let see = g.P.Piece.seen in
    let old = c.args.group.now in
    let ready = c.prepare.new.group in
    let n = c.args.new.now in
    let v = c.in_ok-vol.vol in
    let next = c.in_ok-next.next in
    let planned = planned_here see old n c.contains_key-runs.result c.contains_key-runs.ensures v c.in_ok-vol.ensures.found c.in_ok-vol.ensures.passes c.good.result c.good.ensures.just next c.in_ok-next.ensures.planned in
    let filled = new_by v.state c.eq.result c.eq.ensures ∙ c.if-eq.false in
    let now = planned_ready see old ready c.prepare.ensures.parts n v next planned in
    let runs_now = runs_ready see old ready c.prepare.ensures.parts n.vol ∙ sym c.contains_key-runs.ensures in
    let ends : FilledEnds see v next (Ok tt) ready c.if-runs.group = elim c.if-runs.branch [
      | then-runs w ↦ rw w.group-is (joins_here see n v next ready now c.in_ok-logs.logs.items c.make.new.group c.in_ok-logs.ensures.ends c.commit_next-2.new.group c.in_ok-commit_next.ensures.ends (runs_now ∙ w.if-runs.true) w.join.new.group w.join.ensures.joined)
      | else-runs w ↦ rw w.group-is (rests_here see n v next ready now c.in_ok-logs.logs.items c.make.new.group c.in_ok-logs.ensures.ends c.commit_next-2.new.group c.in_ok-commit_next.ensures.ends (runs_now ∙ w.if-runs.false))
    ] in
    record { ends = prepared_filled see n v next old c.if-runs.group planned (Ok tt) filled (c.is_powered.ensures.powered c.if-not-is_powered.false) ready c.prepare.ensures.parts ends }
