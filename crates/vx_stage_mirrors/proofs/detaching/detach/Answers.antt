use Rattle.vx_house.specs.View.{Keeps, at}
use Rattle.vx_stage_mirrors.proofs.DetachGoes.{as_detach, detach_goes, no_group}
use Rattle.vx_stage_mirrors.proofs.SwitchMoments.{switch_goes}
use Rattle.vx_stage_mirrors.proofs.SwitchSound.{switch_sound}
use Rattle.vx_stage_mirrors.proofs.Unrecorded.{record_stops}
use Rattle.vx_stage_mirrors.proofs.detaching.detach.Goals as goal

pub returns-in-None : goal.returns-in-None
returns-in-None g c =
    let see = g.P.Piece.seen in
    let h = c.args.house.now in
    record {
      goes = λ disks shelf ready held.
          let keeps : Keeps see (at shelf h) = record { devices = held; house = c.requires.keeps } in
          rw c.refused.ensures
          (as_detach see c.args.plex.now disks _ (at shelf h) (at shelf h) (no_group c.requires.alike (record {
            firm = record { settling = c.each_pass_runs_on.ensures.settled; firming = c.each_firming_runs_on.ensures; settles = c.each_settling_settles.ensures };
            stops = λ h old new. record_stops see h old new;
            switches = λ h old new. switch_goes c.each_switch_runs_on.ensures.off c.each_switch_runs_on.ensures.on h old new;
            sound = λ r. switch_sound see c.each_left_volume_stands.ensures.leaving c.each_left_volume_stands.ensures.stop r;
            ends = c.each_piece_ends.ensures.ends;
            counts = c.each_piece_ends.ensures.counts;
          }) c.args.plex.now shelf h keeps c.in-None.is));
    }

pub returns-in-Some : goal.returns-in-Some
returns-in-Some g c =
    let see = g.P.Piece.seen in
    let h = c.args.house.now in
    record {
      goes = λ disks shelf ready held.
          let keeps : Keeps see (at shelf h) = record { devices = held; house = c.requires.keeps } in
          as_detach see c.args.plex.now disks c.detach_in.result (at shelf h) _ (detach_goes c.requires.alike (record {
            firm = record { settling = c.each_pass_runs_on.ensures.settled; firming = c.each_firming_runs_on.ensures; settles = c.each_settling_settles.ensures };
            stops = λ h old new. record_stops see h old new;
            switches = λ h old new. switch_goes c.each_switch_runs_on.ensures.off c.each_switch_runs_on.ensures.on h old new;
            sound = λ r. switch_sound see c.each_left_volume_stands.ensures.leaving c.each_left_volume_stands.ensures.stop r;
            ends = c.each_piece_ends.ensures.ends;
            counts = c.each_piece_ends.ensures.counts;
          }) c.args.plex.now shelf h keeps c.in-Some.group c.in-Some.is c.detach_in.result c.detach_in.new.group c.detach_in.ensures.ends);
    }
