use Rattle.std.proofs.Common.{◌∙◌, Err, refl, sym, ap, subst}
use Rattle.vx_stage_mirrors.specs.Marking.{MarksIn, as_io}
use Rattle.vx_stage_volumes.specs.Resting.{HasFaultDisk}
use Rattle.vx_stage_mirrors.proofs.MarkingFacts.{mark_fault_disk}
use Rattle.vx_stage_mirrors.proofs.MarkedVolume.{SettingLaws}
use Rattle.vx_stage_mirrors.proofs.marking.mark_plex.Goals as goal

pub told-requires-after_bounds : goal.told-requires-after_bounds
told-requires-after_bounds g c κs within =
    let laws : SettingLaws = record {
      cut = c.each_setting_keeps_places.ensures.cut;
      places = c.each_setting_keeps_places.ensures.places;
      runs = c.each_setting_runs_on.ensures.runs;
      exact = c.each_setting_stays_exact.ensures;
      noted = c.each_failure_is_noted.ensures;
    } in
    let group = c.args.group.now in
    let new = record group { public = record group.public { running = c.mark_running.new.running } } in
    let marks : MarksIn g.P.Piece.seen c.args.name.now c.args.map c.mark_running.result group new = record { runs = c.mark_running.ensures; same = refl } in
    subst (HasFaultDisk g.P.Piece.seen c.disks.result.now) (sym c.as_io.ensures)
    (subst (λ ds. HasFaultDisk g.P.Piece.seen ds (as_io c.in-Err-Fault.fault)) (sym c.disks.ensures)
    (mark_fault_disk c.requires.alike laws group new c.args.name.now c.args.map c.mark_running.result c.requires.may marks c.in-Err-Fault.fault (c.in-Err-Fault.is ∙ ap Err c.in-Err-Fault.field-0-is) c.requires.kept.whole))

pub returns-in-Ok : goal.returns-in-Ok
returns-in-Ok g c = record { ends = record { runs = c.in-Ok.ensures; same = refl } }
