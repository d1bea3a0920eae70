use Rattle.std.proofs.Common.{Ok, sym, ◌∙◌}
use Rattle.std.proofs.lemmas.Result.{err_from_is_err_and}
use Rattle.vx_stage_volumes.proofs.Named.{found_of}
use Rattle.vx_stage_mirrors.specs.LogEnding.{UnprepareEnds}
use Rattle.vx_stage_mirrors.proofs.PlannedLogs.{kept_here, lost_at_rest, lost_running, may_part}
use Rattle.vx_stage_mirrors.proofs.unpreparing.unprepare_in.Goals as goal
use Rattle.vx_stage_mirrors.proofs.unpreparing.unprepare_in.Goals.{then-contains_key, else-contains_key}

pub planned_loss-requires : goal.planned_loss-requires
planned_loss-requires g c = record { recorded = found_of c.args.group.now.config c.args.name.now c.in_ok-vol.vol c.in_ok-vol.ensures.found }

pub returns-in_err-commit_next : goal.returns-in_err-commit_next
returns-in_err-commit_next g c =
    let p = err_from_is_err_and c.from_residual-in_err-commit_next.result c.from_residual-in_err-commit_next.ensures.1 in
    record {
      ends = rw (p.1, p.2)
          (kept_here g.P.Piece.seen c.args.group.now c.args.name.now c.in_ok-vol.vol c.in_ok-vol.ensures.found c.in_ok-vol.ensures.passes c.in_ok-vol.dco c.in_ok-vol.ensures.dco c.in_ok-next.next c.in_ok-next.ensures.planned
          (c.is_powered.ensures.powered c.if-not-is_powered.false) c.in_err-commit_next.field-0.0 c.commit_next.new.group c.in_err-commit_next.ensures.ends);
    }

pub part-requires-clause-may : goal.part-requires-clause-may
part-requires-clause-may g c κs within =
    may_part g.P.Piece.seen c.args.group.now c.args.name.now c.in_ok-vol.vol c.in_ok-vol.ensures.found c.in_ok-vol.ensures.passes c.in_ok-vol.dco c.in_ok-vol.ensures.dco c.in_ok-next.next c.in_ok-next.ensures.planned
    c.commit_next.new.group c.in_ok-commit_next.ensures.ends (sym c.contains_key.ensures ∙ c.if-contains_key.true) c.requires.kept

pub returns : goal.returns
returns g c =
    let see = g.P.Piece.seen in
    let old = c.args.group.now in
    let name = c.args.name.now in
    let v = c.in_ok-vol.vol in
    let recorded = c.commit_next.new.group in
    let power = c.is_powered.ensures.powered c.if-not-is_powered.false in
    let ends : UnprepareEnds see name (Ok tt) old c.if-contains_key.group = elim c.if-contains_key.branch [
      | then-contains_key w ↦ rw w.group-is
          (lost_running see old name v c.in_ok-vol.ensures.found c.in_ok-vol.ensures.passes c.in_ok-vol.dco c.in_ok-vol.ensures.dco c.in_ok-next.next c.in_ok-next.ensures.planned recorded c.in_ok-commit_next.ensures.ends
          (sym c.contains_key.ensures ∙ w.if-contains_key.true) power w.widen.new.left w.widen.ensures.items w.part.new.group w.part.ensures.parted)
      | else-contains_key w ↦ rw w.group-is
          (lost_at_rest see old name v c.in_ok-vol.ensures.found c.in_ok-vol.ensures.passes c.in_ok-vol.dco c.in_ok-vol.ensures.dco c.in_ok-next.next c.in_ok-next.ensures.planned recorded c.in_ok-commit_next.ensures.ends power
          (sym c.contains_key.ensures ∙ w.if-contains_key.false))
    ] in
    record { ends = ends }
