use Rattle.vx_volume.proofs.Puttings.{putting_stands, putting_tells}
use Rattle.vx_change_laws.proofs.Failures.{failure_noted}
use Rattle.vx_change_laws.proofs.Joinings.{joining_runs}
use Rattle.vx_stage_mirrors.proofs.MarkingFacts.{marking_rests}
use Rattle.vx_stage_mirrors.proofs.CopyingFacts.{CopyLaws}
use Rattle.vx_stage_mirrors.proofs.CopyingGoes.{copying_goes_on}
use Rattle.vx_stage_mirrors.proofs.JoiningMoments.{join_goes}
use Rattle.vx_stage_mirrors.proofs.JoiningParking.{parking_parts}
use Rattle.vx_stage_mirrors.proofs.Stopped.{failed_join_stops}
use Rattle.vx_stage_mirrors.proofs.Sound.{marked_volume_sound}
use Rattle.vx_house.specs.View.{Keeps, at}
use Rattle.vx_stage_mirrors.proofs.GroupLaws.{group_laws, setting_laws}
use Rattle.vx_stage_mirrors.proofs.Staged.{as_stage}
use Rattle.vx_stage_mirrors.proofs.Stage.{mirror_goes}
use Rattle.vx_stage_mirrors.proofs.mirroring.mirror.Goals as goal

pub returns-in-Some : goal.returns-in-Some
returns-in-Some g c =
    let see = g.P.Piece.seen in
    let h = c.args.house.now in
    let copies : CopyLaws = record { runs = c.each_pass_runs_on.ensures.copied; noted = failure_noted } in
    record {
      goes = λ disks shelf ready held.
          let keeps : Keeps see (at shelf h) = record { devices = held; house = c.requires.keeps } in
          as_stage see c.args.new.now disks c.mirror_in.result (at shelf h) _ (mirror_goes c.requires.alike (record {
            have = record {
              parks = λ old new. parking_parts see old new;
              marks = λ h old new. marking_rests setting_laws h old new;
              joins = λ h old new. join_goes see c.each_piece_ends.ensures.ends c.each_piece_ends.ensures.counts (joining_runs putting_stands putting_tells) h old new;
              stops = λ h old new. failed_join_stops see h old new;
              copies = λ h old new shelf name mask stop alike has is keeps. copying_goes_on copies shelf h old new alike has name mask stop is keeps;
            };
            groups = group_laws _;
            sound = λ before after. marked_volume_sound see c.each_left_volume_stands.ensures.leaving before after;
            ends = c.each_piece_ends.ensures.ends;
            counts = c.each_piece_ends.ensures.counts;
          }) c.args.new.now.vol c.args.new.now.disks shelf h keeps c.in-Some.group c.in-Some.is c.mirror_in.result c.mirror_in.new.group c.mirror_in.ensures.ends);
    }
