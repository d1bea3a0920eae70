use Rattle.vx_stage_changes.proofs.ChangeStage.{change_goes}
use Rattle.vx_stage_changes.proofs.changing.change.Goals as goal

pub returns-in-Some : goal.returns-in-Some
returns-in-Some g c = record { goes = λ disks shelf ready held. change_goes g.P.Piece.seen c.args.change disks shelf c.args.house.now c.requires.keeps held c.in-Some.group c.in-Some.is ready c.change_in.result c.change_in.new.group c.change_in.ensures.ends }
