use Rattle.vx_house.specs.Holders.{holders}
use Rattle.vx_house.specs.Scene.{shelved}
use Rattle.vx_stage_import.proofs.Refusals.{searched_back}
use Rattle.vx_stage_import.proofs.SearchLaws.{since_found}
use Rattle.vx_stage_import.proofs.importing.import_from.Goals as goal

pub returns-in-Ok : goal.returns-in-Ok
returns-in-Ok g c = record {
  goes = λ disks first asked.
      c.import_found.ensures.goes disks c.args.names.now first (since_found g.S.P.Piece.seen c.args.dg.now c.args.names.now first (shelved g.S.Shelf.free g.S.Shelf.held g.S.Shelf.counted g.S.Shelf.faults c.args.shelf.now) (shelved g.S.Shelf.free g.S.Shelf.held g.S.Shelf.counted g.S.Shelf.faults c.search_names.new.shelf) c.args.house.now _ c.in-Ok.finds.items asked c.in-Ok.ensures.finds (c.in-Ok.ensures.found (holders g.S.P.Piece.seen c.args.house.now) c.requires.held));
}

pub returns-in-Err : goal.returns-in-Err
returns-in-Err g c = record {
  goes = λ disks first asked.
      let back = c.in-Err.ensures.back (holders g.S.P.Piece.seen c.args.house.now) c.requires.held in
      searched_back g.S.P.Piece.seen c.args.dg.now c.args.names.now disks first (shelved g.S.Shelf.free g.S.Shelf.held g.S.Shelf.counted g.S.Shelf.faults c.args.shelf.now) (shelved g.S.Shelf.free g.S.Shelf.held g.S.Shelf.counted g.S.Shelf.faults c.search_names.new.shelf) c.args.house.now asked back.0 c.in-Err.stop back.1;
}
