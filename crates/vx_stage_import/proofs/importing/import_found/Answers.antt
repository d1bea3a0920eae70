use Rattle.std.proofs.Common.{map}
use Rattle.vx_import.specs.Looks.{looked}
use Rattle.vx_house.specs.Holders.{holders}
use Rattle.vx_house.specs.Scene.{shelved}
use Rattle.vx_stage_import.proofs.Inspections.{held_inspected}
use Rattle.vx_stage_import.proofs.Refusals.{fault_back}
use Rattle.vx_stage_import.proofs.SearchLaws.{since_inspected}
use Rattle.vx_stage_import.proofs.importing.import_found.Goals as goal

pub import_given-requires-clause-held : goal.import_given-requires-clause-held
import_given-requires-clause-held g c κs within = held_inspected (g.S.Shelf.held c.args.shelf.now) (holders g.S.P.Piece.seen c.args.house.now) (map (looked g.S.P.Piece.seen) c.args.finds.items) (map (looked g.S.P.Piece.seen) c.look_into.new.finds.items) c.look_into.ensures.inspected c.requires.held

pub import_given-requires-clause-looks : goal.import_given-requires-clause-looks
import_given-requires-clause-looks g c κs within = c.look_into.ensures.looked c.args.dg c.requires.finds

pub import_given-requires-clause-given : goal.import_given-requires-clause-given
import_given-requires-clause-given g c κs within = c.in-Ok.ensures.answers c.args.dg c.requires.finds

pub give_finds-requires-clause-held : goal.give_finds-requires-clause-held
give_finds-requires-clause-held g c κs within = (holders g.S.P.Piece.seen c.args.house.now, held_inspected (g.S.Shelf.held c.args.shelf.now) (holders g.S.P.Piece.seen c.args.house.now) (map (looked g.S.P.Piece.seen) c.args.finds.items) (map (looked g.S.P.Piece.seen) c.look_into.new.finds.items) c.look_into.ensures.inspected c.requires.held)

pub returns-in-Ok : goal.returns-in-Ok
returns-in-Ok g c = record {
  goes = λ disks names first since.
      c.import_given.ensures.goes disks names first (since_inspected g.S.P.Piece.seen c.args.dg names first (shelved g.S.Shelf.free g.S.Shelf.held g.S.Shelf.counted g.S.Shelf.faults c.args.shelf.now) c.args.house.now _ c.args.finds.items c.look_into.new.finds.items since c.requires.finds c.look_into.ensures.inspected (c.look_into.ensures.looked c.args.dg c.requires.finds));
}

pub returns-in-Err : goal.returns-in-Err
returns-in-Err g c = rw c.stop_for.ensures.1 (record {
  goes = λ disks names first since.
      fault_back g.S.P.Piece.seen c.args.dg names disks first (shelved g.S.Shelf.free g.S.Shelf.held g.S.Shelf.counted g.S.Shelf.faults c.args.shelf.now) (shelved g.S.Shelf.free g.S.Shelf.held g.S.Shelf.counted g.S.Shelf.faults c.give_finds.new.shelf) c.args.house.now (map (looked g.S.P.Piece.seen) c.look_into.new.finds.items)
      (since_inspected g.S.P.Piece.seen c.args.dg names first (shelved g.S.Shelf.free g.S.Shelf.held g.S.Shelf.counted g.S.Shelf.faults c.args.shelf.now) c.args.house.now _ c.args.finds.items c.look_into.new.finds.items since c.requires.finds c.look_into.ensures.inspected (c.look_into.ensures.looked c.args.dg c.requires.finds))
      (c.give_finds.ensures.goes (holders g.S.P.Piece.seen c.args.house.now) (held_inspected (g.S.Shelf.held c.args.shelf.now) (holders g.S.P.Piece.seen c.args.house.now) (map (looked g.S.P.Piece.seen) c.args.finds.items) (map (looked g.S.P.Piece.seen) c.look_into.new.finds.items) c.look_into.ensures.inspected c.requires.held))
      c.in-Err.fault c.stop_for.ensures.0 c.stop_for.ensures.2 (c.in-Err.ensures.answers c.args.dg c.requires.finds);
})
