use Rattle.vx_change_laws.proofs.Failures.{failure_noted}
use Rattle.vx_house.specs.View.{Keeps, at}
use Rattle.vx_stage_mirrors.proofs.AttachGoes.{as_attach, attach_ends}
use Rattle.vx_stage_mirrors.proofs.SwitchMoments.{switch_goes}
use Rattle.vx_stage_mirrors.proofs.SwitchSound.{switch_sound, switch_within}
use Rattle.vx_stage_mirrors.proofs.Unrecorded.{record_stops}
use Rattle.vx_stage_mirrors.proofs.attaching.attach.Goals as goal

pub returns-in-Some : goal.returns-in-Some
returns-in-Some g c =
    let see = g.P.Piece.seen in
    let h = c.args.house.now in
    record {
      goes = λ disks shelf ready held.
          let keeps : Keeps see (at shelf h) = record { devices = held; house = c.requires.keeps } in
          as_attach see c.args.vol.now c.args.plex.now disks c.attach_in.result (at shelf h) _ (attach_ends c.requires.alike (record {
            switches = λ h old new. switch_goes c.each_switch_runs_on.ensures.off c.each_switch_runs_on.ensures.on h old new;
            sound = λ r. switch_sound see c.each_left_volume_stands.ensures.leaving c.each_left_volume_stands.ensures.stop r;
            within = λ r. switch_within see c.each_left_volume_stands.ensures.leaving c.each_left_volume_stands.ensures.stop r;
            stops = λ h old new. record_stops see h old new;
            copies = record { runs = c.each_pass_runs_on.ensures.copied; noted = failure_noted };
            ends = c.each_piece_ends.ensures.ends;
            counts = c.each_piece_ends.ensures.counts;
          }) c.args.vol.now c.args.plex.now shelf h keeps c.in-Some.group c.in-Some.is c.attach_in.result c.attach_in.new.group c.attach_in.ensures.ends);
    }
