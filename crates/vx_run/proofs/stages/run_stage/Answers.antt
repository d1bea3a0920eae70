use Rattle.vx_house.specs.Scene.{shelved}
use Rattle.vx_run.proofs.StageChains.{stage_ends}
use Rattle.vx_run.proofs.stages.run_stage.Goals as goal

pub returns-in-LookBlank : goal.returns-in-LookBlank
returns-in-LookBlank g c = record { goes = rw c.in-LookBlank.is (stage_ends g.S.P.Piece.seen c.args.disks.now _ _ _ _ (c.look_blank.ensures.goes c.in-LookBlank.field-0 c.args.disks.now (shelved g.S.Shelf.free g.S.Shelf.held g.S.Shelf.counted g.S.Shelf.faults c.args.shelf.now) (rw c.in-LookBlank.is at c.requires.ready) c.requires.keeps.devices)) }

pub returns-in-LookDisks : goal.returns-in-LookDisks
returns-in-LookDisks g c = record { goes = rw c.in-LookDisks.is (stage_ends g.S.P.Piece.seen c.args.disks.now _ _ _ _ (c.look_disks.ensures.goes c.args.disks.now (shelved g.S.Shelf.free g.S.Shelf.held g.S.Shelf.counted g.S.Shelf.faults c.args.shelf.now) (rw c.in-LookDisks.is at c.requires.ready) c.requires.keeps.devices)) }

pub returns-in-LookHeaded : goal.returns-in-LookHeaded
returns-in-LookHeaded g c = record { goes = rw c.in-LookHeaded.is (stage_ends g.S.P.Piece.seen c.args.disks.now _ _ _ _ (c.look_headed.ensures.goes (shelved g.S.Shelf.free g.S.Shelf.held g.S.Shelf.counted g.S.Shelf.faults c.args.shelf.now) c.requires.keeps.devices)) }

pub returns-in-MakeImage : goal.returns-in-MakeImage
returns-in-MakeImage g c = record { goes = rw c.in-MakeImage.is (stage_ends g.S.P.Piece.seen c.args.disks.now _ _ _ _ (c.make_image.ensures.goes c.args.disks.now)) }

pub returns-in-Wipe : goal.returns-in-Wipe
returns-in-Wipe g c = record { goes = rw c.in-Wipe.is (stage_ends g.S.P.Piece.seen c.args.disks.now _ _ _ _ (c.wipe.ensures.goes (shelved g.S.Shelf.free g.S.Shelf.held g.S.Shelf.counted g.S.Shelf.faults c.args.shelf.now) c.requires.keeps.devices)) }

pub returns-in-StartBare : goal.returns-in-StartBare
returns-in-StartBare g c = record { goes = rw c.in-StartBare.is (stage_ends g.S.P.Piece.seen c.args.disks.now _ _ _ _ (c.start_bare.ensures.goes (shelved g.S.Shelf.free g.S.Shelf.held g.S.Shelf.counted g.S.Shelf.faults c.args.shelf.now) c.requires.keeps.devices)) }

pub returns-in-Change : goal.returns-in-Change
returns-in-Change g c = record { goes = rw c.in-Change.is (stage_ends g.S.P.Piece.seen c.args.disks.now _ _ _ _ (c.change_and_follow.ensures.goes c.args.disks.now (shelved g.S.Shelf.free g.S.Shelf.held g.S.Shelf.counted g.S.Shelf.faults c.args.shelf.now) (rw c.in-Change.is at c.requires.ready) c.requires.keeps.devices)) }

pub returns-in-Make : goal.returns-in-Make
returns-in-Make g c = record { goes = rw c.in-Make.is (stage_ends g.S.P.Piece.seen c.args.disks.now _ _ _ _ (c.make.ensures.goes c.args.disks.now (shelved g.S.Shelf.free g.S.Shelf.held g.S.Shelf.counted g.S.Shelf.faults c.args.shelf.now) c.requires.keeps.devices)) }

pub returns-in-Gate : goal.returns-in-Gate
returns-in-Gate g c = record { goes = rw c.in-Gate.is (stage_ends g.S.P.Piece.seen c.args.disks.now _ _ _ _ (c.pass.ensures.goes (shelved g.S.Shelf.free g.S.Shelf.held g.S.Shelf.counted g.S.Shelf.faults c.args.shelf.now) c.requires.keeps)) }

pub returns-in-LetGo : goal.returns-in-LetGo
returns-in-LetGo g c = record { goes = rw c.in-LetGo.is c.let_go.ensures.goes }

pub returns-in-Take : goal.returns-in-Take
returns-in-Take g c = record { goes = rw c.in-Take.is (stage_ends g.S.P.Piece.seen c.args.disks.now _ _ _ _ (c.take.ensures.goes c.args.disks.now (rw c.in-Take.is at c.requires.ready))) }

pub returns-in-Join : goal.returns-in-Join
returns-in-Join g c = record { goes = rw c.in-Join.is (stage_ends g.S.P.Piece.seen c.args.disks.now _ _ _ _ (c.join.ensures.goes (shelved g.S.Shelf.free g.S.Shelf.held g.S.Shelf.counted g.S.Shelf.faults c.args.shelf.now) c.requires.keeps.devices)) }

pub returns-in-Create : goal.returns-in-Create
returns-in-Create g c = record { goes = rw c.in-Create.is (stage_ends g.S.P.Piece.seen c.args.disks.now _ _ _ _ (c.create.ensures.goes (shelved g.S.Shelf.free g.S.Shelf.held g.S.Shelf.counted g.S.Shelf.faults c.args.shelf.now) c.requires.keeps.devices)) }

pub returns-in-TakeDisks : goal.returns-in-TakeDisks
returns-in-TakeDisks g c = record { goes = rw c.in-TakeDisks.is (stage_ends g.S.P.Piece.seen c.args.disks.now _ _ _ _ c.take_disks.ensures.goes) }

pub returns-in-Search : goal.returns-in-Search
returns-in-Search g c = record { goes = rw c.in-Search.is (stage_ends g.S.P.Piece.seen c.args.disks.now _ _ _ _ c.search.ensures.goes) }

pub returns-in-Import : goal.returns-in-Import
returns-in-Import g c = record { goes = rw c.in-Import.is (stage_ends g.S.P.Piece.seen c.args.disks.now _ _ _ _ c.import.ensures.goes) }

pub returns-in-Start : goal.returns-in-Start
returns-in-Start g c = record { goes = rw c.in-Start.is (stage_ends g.S.P.Piece.seen c.args.disks.now _ _ _ _ (c.start.ensures.goes c.args.disks.now (shelved g.S.Shelf.free g.S.Shelf.held g.S.Shelf.counted g.S.Shelf.faults c.args.shelf.now) (rw c.in-Start.is at c.requires.ready) c.requires.keeps.devices)) }

pub returns-in-Stop : goal.returns-in-Stop
returns-in-Stop g c = record { goes = rw c.in-Stop.is (stage_ends g.S.P.Piece.seen c.args.disks.now _ _ _ _ (c.stop.ensures.goes c.args.disks.now (shelved g.S.Shelf.free g.S.Shelf.held g.S.Shelf.counted g.S.Shelf.faults c.args.shelf.now) (rw c.in-Stop.is at c.requires.ready) c.requires.keeps.devices)) }

pub returns-in-Mirror : goal.returns-in-Mirror
returns-in-Mirror g c = record { goes = rw c.in-Mirror.is (stage_ends g.S.P.Piece.seen c.args.disks.now _ _ _ _ (c.mirror.ensures.goes c.args.disks.now (shelved g.S.Shelf.free g.S.Shelf.held g.S.Shelf.counted g.S.Shelf.faults c.args.shelf.now) (rw c.in-Mirror.is at c.requires.ready) c.requires.keeps.devices)) }

pub returns-in-Prepare : goal.returns-in-Prepare
returns-in-Prepare g c = record { goes = rw c.in-Prepare.is (stage_ends g.S.P.Piece.seen c.args.disks.now _ _ _ _ (c.prepare.ensures.goes c.args.disks.now (shelved g.S.Shelf.free g.S.Shelf.held g.S.Shelf.counted g.S.Shelf.faults c.args.shelf.now) (rw c.in-Prepare.is at c.requires.ready) c.requires.keeps.devices)) }

pub returns-in-Unprepare : goal.returns-in-Unprepare
returns-in-Unprepare g c = record { goes = rw c.in-Unprepare.is (stage_ends g.S.P.Piece.seen c.args.disks.now _ _ _ _ (c.unprepare.ensures.goes c.args.disks.now (shelved g.S.Shelf.free g.S.Shelf.held g.S.Shelf.counted g.S.Shelf.faults c.args.shelf.now) (rw c.in-Unprepare.is at c.requires.ready) c.requires.keeps.devices)) }

pub returns-in-Detach : goal.returns-in-Detach
returns-in-Detach g c = record { goes = rw c.in-Detach.is (stage_ends g.S.P.Piece.seen c.args.disks.now _ _ _ _ (c.detach.ensures.goes c.args.disks.now (shelved g.S.Shelf.free g.S.Shelf.held g.S.Shelf.counted g.S.Shelf.faults c.args.shelf.now) (rw c.in-Detach.is at c.requires.ready) c.requires.keeps.devices)) }

pub returns-in-Attach : goal.returns-in-Attach
returns-in-Attach g c = record { goes = rw c.in-Attach.is (stage_ends g.S.P.Piece.seen c.args.disks.now _ _ _ _ (c.attach.ensures.goes c.args.disks.now (shelved g.S.Shelf.free g.S.Shelf.held g.S.Shelf.counted g.S.Shelf.faults c.args.shelf.now) (rw c.in-Attach.is at c.requires.ready) c.requires.keeps.devices)) }

pub returns-in-Dissociate : goal.returns-in-Dissociate
returns-in-Dissociate g c = record { goes = rw c.in-Dissociate.is (stage_ends g.S.P.Piece.seen c.args.disks.now _ _ _ _ (c.dissociate.ensures.goes c.args.disks.now (shelved g.S.Shelf.free g.S.Shelf.held g.S.Shelf.counted g.S.Shelf.faults c.args.shelf.now) (rw c.in-Dissociate.is at c.requires.ready) c.requires.keeps.devices)) }
