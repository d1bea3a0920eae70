use Rattle.std.proofs.Common.{◌∙◌, sym}
use Rattle.vx_group_volumes.proofs.NearerImages.{copy_narrows}
use Rattle.vx_healed_regions.proofs.Numbers.{copied_fits, dirty_fits}
use Rattle.vx_healed_regions.proofs.Spared.{healing_spares}
use Rattle.vx_healed_volumes.proofs.HealedVolumes.{healed_list, healed_stands}
use Rattle.vx_healed_volumes.proofs.HealingReasons.{healing_goes_on, healing_reason}
use Rattle.vx_healed_volumes.proofs.HealingRuns.{healing_runs_on}
use Rattle.vx_healed_volumes.proofs.WholeImages.{healed_whole}
use Rattle.vx_healed_volumes.specs.Laws.{EachHealingRunsOn}
use Rattle.vx_house.specs.View.{Keeps, at}
use Rattle.vx_stage_recovery.proofs.EndPrepared.{HaveEndLaws}
use Rattle.vx_stage_recovery.proofs.EndRuns.{HaveRunLaws}
use Rattle.vx_stage_recovery.proofs.EndStage.{finish_goes}
use Rattle.vx_stage_recovery.proofs.HealLaws.{HaveHealLaws, HavePieceLaws}
use Rattle.vx_stage_recovery.proofs.healing.heal_volume.Goals as goal

pub returns-in-Some : goal.returns-in-Some
returns-in-Some g c =
    let on : EachHealingRunsOn = healing_runs_on c.each_pass_runs_on.ensures.settled c.each_pass_runs_on.ensures.copied c.each_pass_runs_on.ensures.cleared in
    let pieces : HavePieceLaws _ = record { ends = c.each_piece_ends.ensures.ends; counts = c.each_piece_ends.ensures.counts; narrows = copy_narrows } in
    let laws : HaveHealLaws _ = record {
      goes = λ old new. healing_goes_on old new;
      reason = λ old new. healing_reason old new;
      stands = λ old new running after. healed_stands old new running after c.each_opening_runs.ensures c.each_running_forgets.ensures on c.each_left_volume_stands.ensures.leaving;
      list = λ old new running after. healed_list old new running after c.each_opening_runs.ensures c.each_running_forgets.ensures on c.each_left_volume_stands.ensures.stop c.each_healing_heals.ensures;
      whole = λ old new running after. healed_whole old new running after c.each_opening_runs.ensures c.each_running_forgets.ensures on c.each_healing_heals.ensures;
      spares = λ old new running after config good v numbers result is before behind around. healing_spares config good v numbers old new running after result is before behind around;
      dirty = λ old new running after config good v numbers healed is before behind around. dirty_fits config good v numbers old new running after healed is before behind around;
      copied = λ old new running after config good v numbers healed is before behind around sound owners failed fit told.
          copied_fits config good v numbers old new running after healed is before behind around sound owners failed fit told;
    } in
    let runs : HaveRunLaws = record {
      decided = c.each_image_is_sound_or_not.ensures;
      opening = c.each_opening_runs.ensures;
      forgets = c.each_running_forgets.ensures;
      heals = c.each_healing_heals.ensures;
      leaving = c.each_left_volume_stands.ensures.leaving;
    } in
    let edits : HaveEndLaws = record { restates = c.each_change_restates.ensures.ended; recorded = c.each_change_restates.ensures.recorded } in
    record {
      goes = λ shelf held.
          let keeps : Keeps g.P.Piece.seen (at shelf c.args.house.now) = record { devices = held; house = c.requires.keeps } in
          finish_goes c.requires.alike laws pieces runs edits c.args.name.now shelf c.args.house.now keeps c.in-Some.is (sym c.is_started.ensures ∙ c.if-is_started.false) c.heal_in.result c.heal_in.new.group c.heal_in.ensures.ends;
    }
