use Rattle.vx_stage_mirrors.proofs.MarkingFacts.{marking_rests}
use Rattle.vx_stage_mirrors.proofs.MarkedVolume.{SettingLaws}
use Rattle.vx_stage_mirrors.proofs.marking.each_marking_rests.Goals as goal

pub returns : goal.returns
returns g c =
    let laws : SettingLaws = record {
      cut = c.each_setting_keeps_places.ensures.cut;
      places = c.each_setting_keeps_places.ensures.places;
      runs = c.each_setting_runs_on.ensures.runs;
      exact = c.each_setting_stays_exact.ensures;
      noted = c.each_failure_is_noted.ensures;
    } in
    marking_rests laws c.args.house.now c.args.old.now c.args.new.now
