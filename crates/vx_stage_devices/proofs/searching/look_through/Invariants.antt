use Rattle.std.proofs.Common.{take}
use Rattle.vx_house.specs.Scene.{shelved}
use Rattle.vx_stage_devices.specs.Seeks.{Seeks}
use Rattle.vx_stage_devices.proofs.searching.look_through.Given as goal

abbrev pub invariant-loop-name : goal.invariant-loop-name
invariant-loop-name g l = Seeks l.dg (take l.name-index l.names) (shelved g.S.Shelf.free g.S.Shelf.held g.S.Shelf.counted g.S.Shelf.faults l.fn.shelf) (shelved g.S.Shelf.free g.S.Shelf.held g.S.Shelf.counted g.S.Shelf.faults l.shelf)
