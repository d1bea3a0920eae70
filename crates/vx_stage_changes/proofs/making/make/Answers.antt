use Rattle.vx_stage_changes.proofs.MakeStage.{make_goes}
use Rattle.vx_stage_changes.proofs.making.make.Goals as goal

pub returns-in-Some : goal.returns-in-Some
returns-in-Some g c = record { goes = λ disks shelf held. make_goes g.P.Piece.seen c.args.source.now disks shelf c.args.house.now c.requires.keeps held c.in-Some.group c.in-Some.is c.make_in.result c.make_in.new.group c.make_in.ensures.ends }
