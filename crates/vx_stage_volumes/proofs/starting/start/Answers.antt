use Rattle.vx_house.specs.View.{Keeps, at}
use Rattle.vx_group_volumes.proofs.NearerImages.{copy_narrows}
use Rattle.vx_stage_volumes.proofs.RunningStage.{running_goes}
use Rattle.vx_stage_volumes.proofs.StartPrepared.{HaveEditLaws}
use Rattle.vx_stage_volumes.proofs.StartRun.{HaveLifeLaws}
use Rattle.vx_stage_volumes.proofs.StartStages.{start_goes}
use Rattle.vx_stage_volumes.proofs.UnopenedStage.{unopened_goes}
use Rattle.vx_stage_volumes.proofs.UnrecordedStage.{unrecorded_goes}
use Rattle.vx_stage_volumes.proofs.starting.start.Goals as goal

pub returns-in-Some : goal.returns-in-Some
returns-in-Some g c =
    let see = g.P.Piece.seen in
    let alike = c.requires.alike in
    let ends = c.each_piece_ends.ensures.ends in
    let counts = c.each_piece_ends.ensures.counts in
    let h = c.args.house.now in
    let edits : HaveEditLaws = record { restates = c.each_change_restates.ensures.start; recorded = c.each_change_restates.ensures.recorded } in
    let lives : HaveLifeLaws = record {
      decided = c.each_image_is_sound_or_not.ensures;
      opening = c.each_opening_runs.ensures;
      forgets = c.each_running_forgets.ensures;
      empty = c.each_empty_begins.ensures;
    } in
    record {
      goes = λ disks shelf ready held.
          let keeps : Keeps g.P.Piece.seen (at shelf c.args.house.now) = record { devices = held; house = c.requires.keeps } in
          start_goes see c.args.name disks shelf h keeps c.in-Some.group c.in-Some.is
          (λ g' stop is. unopened_goes see alike ends counts copy_narrows c.args.name disks shelf h keeps c.in-Some.group c.in-Some.is g' stop is)
          (λ g' stop is. unrecorded_goes alike edits (record { ends = ends; counts = counts; law = copy_narrows }) (record { lives = lives; leaving = c.each_left_volume_stands.ensures.leaving }) c.args.name disks shelf h keeps
          c.in-Some.group c.in-Some.is g' stop is)
          (λ g' stop is. running_goes alike edits (record { lives = lives; ends = ends; counts = counts }) c.each_pass_runs_on.ensures.copied c.each_fresh_region_is_missed.ensures c.args.name disks shelf h keeps c.in-Some.group c.in-Some.is ready g' stop is)
          c.start_in.new.group c.start_in.result c.start_in.ensures.ends;
    }
