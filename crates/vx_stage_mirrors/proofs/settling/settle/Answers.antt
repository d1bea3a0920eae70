use Rattle.std.proofs.Common.{refl, sym, subst}
use Rattle.vx_stage_volumes.specs.Resting.{HasFaultDisk, IsFaultTold}
use Rattle.vx_stage_mirrors.specs.Settling.{SettlesIn}
use Rattle.vx_stage_mirrors.proofs.SettlingFacts.{settle_fault_disk}
use Rattle.vx_stage_mirrors.proofs.settling.settle.Goals as goal

pub told-requires-after_bounds : goal.told-requires-after_bounds
told-requires-after_bounds g c κs within =
    let see = g.P.Piece.seen in
    let group = c.args.group.now in
    let new = record group { public = record group.public { running = c.settle_running.new.running } } in
    let settles : SettlesIn see c.args.name.now c.settle_running.result group new = record { runs = c.settle_running.ensures.settles; same = refl } in
    subst (λ ds. HasFaultDisk see ds c.in-Err.fault) (sym c.disks.ensures)
    (settle_fault_disk c.requires.alike group new c.args.name.now c.settle_running.result c.requires.may settles c.in-Err.fault c.in-Err.is c.requires.kept.whole)

pub returns-in-Ok : goal.returns-in-Ok
returns-in-Ok g c = record { ends = record { runs = c.in-Ok.ensures.settles; same = refl } }

pub returns-in-Err : goal.returns-in-Err
returns-in-Err g c =
    record {
      ends = record {
        fault = c.in-Err.fault;
        settles = record { runs = c.in-Err.ensures.settles; same = refl };
        told = subst (λ ds. IsFaultTold g.P.Piece.seen ds c.in-Err.fault c.told.result) c.disks.ensures c.told.ensures;
      };
    }
