use Rattle.std.specs.Prelude.{IfSome}
use Rattle.std.proofs.Common.{subst}
use Rattle.vx_house.specs.View.{IsGroupKept, Keeps, at}
use Rattle.vx_stage_mirrors.proofs.LogFacts.{plan_facts}
use Rattle.vx_stage_mirrors.proofs.LogGoing.{as_prepare}
use Rattle.vx_stage_mirrors.proofs.LogMade.{log_made}
use Rattle.vx_stage_mirrors.proofs.LogUnmade.{log_unmade}
use Rattle.vx_stage_mirrors.proofs.PrepareGoes.{prepare_goes}
use Rattle.vx_stage_mirrors.proofs.Recorded.{record_goes}
use Rattle.vx_stage_mirrors.proofs.RelogMoments.{relog_goes}
use Rattle.vx_stage_mirrors.proofs.Unrecorded.{record_stops}
use Rattle.vx_stage_mirrors.proofs.preparing.prepare.Goals as goal

pub returns-in-Some : goal.returns-in-Some
returns-in-Some g c =
    let see = g.P.Piece.seen in
    let h = c.args.house.now in
    let kept : IsGroupKept see c.in-Some.group = subst (λ o. IfSome o (IsGroupKept see)) c.in-Some.is c.requires.keeps.group in
    record {
      goes = λ disks shelf ready held.
          let keeps : Keeps see (at shelf h) = record { devices = held; house = c.requires.keeps } in
          as_prepare see c.args.new.now disks c.prepare_in.result (at shelf h) _ (prepare_goes c.requires.alike (record {
            made = λ h old new. log_made c.each_piece_ends.ensures.ends c.each_piece_ends.ensures.counts h old new;
            unmade = λ h old new. log_unmade see c.each_piece_ends.ensures.ends c.each_piece_ends.ensures.counts h old new;
            records = λ h old new. record_goes see h old new;
            stops = λ h old new. record_stops see h old new;
          }) c.args.new.now shelf h keeps c.in-Some.group c.in-Some.is
          (λ v next planned. plan_facts c.requires.alike (λ h old new. relog_goes c.each_piece_ends.ensures.ends c.each_piece_ends.ensures.counts h old new) c.in-Some.group kept c.args.new.now v next planned)
          c.prepare_in.result c.prepare_in.new.group c.prepare_in.ensures.ends);
    }
