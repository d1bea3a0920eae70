use Rattle.vx_house.specs.View.{Keeps, at}
use Rattle.vx_stage_mirrors.proofs.Unrecorded.{record_stops}
use Rattle.vx_stage_dissociation.proofs.DissociateGoes.{as_dissociate, dissociate_goes, no_group}
use Rattle.vx_stage_dissociation.proofs.dissociating.dissociate.Goals as goal

pub returns-in-None : goal.returns-in-None
returns-in-None g c =
    let see = g.P.Piece.seen in
    let h = c.args.house.now in
    record {
      goes = λ disks shelf ready held.
          let keeps : Keeps see (at shelf h) = record { devices = held; house = c.requires.keeps } in
          as_dissociate see c.args.remove c.args.plex.now disks c.refused.result _ _
          (rw c.refused.ensures (no_group c.requires.alike (record {
            firm = record { settling = c.each_pass_runs_on.ensures.settled; firming = c.each_firming_runs_on.ensures; settles = c.each_settling_settles.ensures };
            stops = λ h old new. record_stops see h old new;
            parting = c.each_parting_runs_on.ensures;
            leaving = c.each_left_volume_stands.ensures.leaving;
            stop = c.each_left_volume_stands.ensures.stop;
            ends = c.each_piece_ends.ensures.ends;
            counts = c.each_piece_ends.ensures.counts;
          }) c.args.remove c.args.plex.now shelf h keeps c.in-None.is));
    }

pub returns-in-Some : goal.returns-in-Some
returns-in-Some g c =
    let see = g.P.Piece.seen in
    let h = c.args.house.now in
    record {
      goes = λ disks shelf ready held.
          let keeps : Keeps see (at shelf h) = record { devices = held; house = c.requires.keeps } in
          as_dissociate see c.args.remove c.args.plex.now disks c.dissociate_in.result _ _
          (dissociate_goes c.requires.alike (record {
            firm = record { settling = c.each_pass_runs_on.ensures.settled; firming = c.each_firming_runs_on.ensures; settles = c.each_settling_settles.ensures };
            stops = λ h old new. record_stops see h old new;
            parting = c.each_parting_runs_on.ensures;
            leaving = c.each_left_volume_stands.ensures.leaving;
            stop = c.each_left_volume_stands.ensures.stop;
            ends = c.each_piece_ends.ensures.ends;
            counts = c.each_piece_ends.ensures.counts;
          }) c.args.remove c.args.plex.now shelf h keeps c.in-Some.group c.in-Some.is c.dissociate_in.result c.dissociate_in.new.group c.dissociate_in.ensures.ends);
    }
