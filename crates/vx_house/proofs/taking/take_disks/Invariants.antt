use Rattle.std.proofs.Common.{take}
use Rattle.vx_stages.specs.Records.{devices_of}
use Rattle.vx_house.specs.Scene.{shelved}
use Rattle.vx_house.specs.Takes.{Took}
use Rattle.vx_house.specs.View.{at}
use Rattle.vx_house.proofs.taking.take_disks.Given as goal

-- the devices so far are taken
abbrev pub invariant-loop-disk : goal.invariant-loop-disk
invariant-loop-disk g l = record {
  took : Took g.S.P.Piece.seen (devices_of (take l.disk-index l.disks)) (at (shelved g.S.Shelf.free g.S.Shelf.held g.S.Shelf.counted g.S.Shelf.faults l.fn.shelf) l.fn.house) (at (shelved g.S.Shelf.free g.S.Shelf.held g.S.Shelf.counted g.S.Shelf.faults l.shelf) l.house);
}
