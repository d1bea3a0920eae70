use Rattle.std.specs.Prelude.{IfSome}
use Rattle.std.proofs.Common.{subst}
use Rattle.vx_house.specs.View.{IsGroupKept, Keeps, at}
use Rattle.vx_stage_volumes.proofs.Owned.{own_by}
use Rattle.vx_stage_mirrors.proofs.LogFacts.{loss_facts}
use Rattle.vx_stage_mirrors.proofs.LogGoing.{as_unprepare}
use Rattle.vx_stage_mirrors.proofs.Recorded.{record_goes}
use Rattle.vx_stage_mirrors.proofs.RelogMoments.{relog_goes}
use Rattle.vx_stage_mirrors.proofs.SlotNumbers.{numbers_for}
use Rattle.vx_stage_mirrors.proofs.UnprepareGoes.{unprepare_goes}
use Rattle.vx_stage_mirrors.proofs.Unrecorded.{record_stops}
use Rattle.vx_stage_mirrors.proofs.unpreparing.unprepare.Goals as goal

pub returns-in-Some : goal.returns-in-Some
returns-in-Some g c =
    let see = g.P.Piece.seen in
    let h = c.args.house.now in
    let kept : IsGroupKept see c.in-Some.group = subst (λ o. IfSome o (IsGroupKept see)) c.in-Some.is c.requires.keeps.group in
    let numbers = numbers_for see c.in-Some.group.base.disks.items (own_by see c.in-Some.group kept) 32 in
    record {
      goes = λ disks shelf ready held.
          let keeps : Keeps see (at shelf h) = record { devices = held; house = c.requires.keeps } in
          as_unprepare see c.args.name.now disks c.unprepare_in.result (at shelf h) _ (unprepare_goes (record {
            records = λ h old new. record_goes see h old new;
            stops = λ h old new. record_stops see h old new;
          }) c.args.name.now shelf h keeps c.in-Some.group c.in-Some.is
          (λ v next planned. loss_facts c.requires.alike (λ h old new. relog_goes c.each_piece_ends.ensures.ends c.each_piece_ends.ensures.counts h old new) c.in-Some.group kept numbers c.args.name.now v next planned)
          c.unprepare_in.result c.unprepare_in.new.group c.unprepare_in.ensures.ends);
    }
