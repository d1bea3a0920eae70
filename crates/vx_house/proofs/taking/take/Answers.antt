use Rattle.std.proofs.Common.{refl}
use Rattle.vx_house.proofs.Takes.{take_stage}
use Rattle.vx_house.proofs.taking.take.Goals as goal

pub returns : goal.returns
returns g c = record { goes = λ disks ready. take_stage g.S.P.Piece.seen _ _ disks (ready.empty refl) c.args.name.now c.take_one.result c.take_one.ensures.gives }
