use Rattle.std.proofs.Common.{subst, Bool, Ok}
use Rattle.vx_mapfmt.specs.declared.shape.DcoShape.{DcoShape}
use Rattle.vx_pages.specs.Pages.{grid_seen}
use Rattle.vx_maps.specs.Cutness.{store_cut}
use Rattle.vx_maps.specs.Going.{ReadsPiece}
use Rattle.vx_maps.specs.Loading.{IsFoundFrom, IsPassedBy, IsTriedAs, header_of, rows_seen}
use Rattle.vx_maps.specs.Wholes.{store_copies, store_faults}
use Rattle.vx_maps.proofs.CopyLaws.{store_goes}
use Rattle.vx_maps.proofs.Finds.{found_on}
use Rattle.vx_maps.proofs.Growth.{faults_grow}
use Rattle.vx_maps.proofs.Steps.{reads_same, store_keeps}
use Rattle.vx_maps.proofs.reading.find_copy.Goals as goal

pub returns-in-Ok-false-clause-found : goal.returns-in-Ok-false-clause-found
returns-in-Ok-false-clause-found g c =
    let passed : IsPassedBy (header_of c.args.store.now.base.shape) (store_faults g.P.LocalPiece.seen c.args.store.now) (store_faults g.P.LocalPiece.seen c.try_copy.new.store) (store_copies g.P.LocalPiece.seen c.args.store.now) 0 =
    subst (λ (b : Bool). IsTriedAs 0 (header_of c.args.store.now.base.shape) c.args.store.now.base.shape.regions (store_faults g.P.LocalPiece.seen c.args.store.now) (store_faults g.P.LocalPiece.seen c.try_copy.new.store)
    (store_cut g.P.LocalPiece.seen c.try_copy.new.store) (store_copies g.P.LocalPiece.seen c.args.store.now) (rows_seen c.try_copy.new.images.items) (grid_seen g.P.LocalPiece.seen c.args.store.now.pages.items) (Ok b)) c.in-Ok-false.field-0-test c.in-Ok-false.ensures.tried in
    found_on (header_of c.args.store.now.base.shape) c.args.store.now.base.shape.regions (store_faults g.P.LocalPiece.seen c.args.store.now) (store_faults g.P.LocalPiece.seen c.try_copy.new.store) (store_faults g.P.LocalPiece.seen c.find_second.new.store)
    (store_copies g.P.LocalPiece.seen c.args.store.now) (store_copies g.P.LocalPiece.seen c.try_copy.new.store) (rows_seen c.find_second.new.images.items) (grid_seen g.P.LocalPiece.seen c.args.store.now.pages.items) (grid_seen g.P.LocalPiece.seen c.try_copy.new.store.pages.items)
    (faults_grow c.args.store.now c.try_copy.new.store (store_keeps _ _ c.try_copy.ensures.goes)) (faults_grow c.try_copy.new.store c.find_second.new.store (store_keeps _ _ c.find_second.ensures.goes))
    (store_goes ReadsPiece reads_same c.args.store.now c.try_copy.new.store c.try_copy.ensures.goes) c.try_copy.ensures.grid passed (store_cut g.P.LocalPiece.seen c.find_second.new.store) c.find_second.result
    (subst (λ (shape : DcoShape). IsFoundFrom 1 (header_of shape) shape.regions (store_faults g.P.LocalPiece.seen c.try_copy.new.store) (store_faults g.P.LocalPiece.seen c.find_second.new.store) (store_cut g.P.LocalPiece.seen c.find_second.new.store)
    (store_copies g.P.LocalPiece.seen c.try_copy.new.store) (rows_seen c.find_second.new.images.items) (grid_seen g.P.LocalPiece.seen c.try_copy.new.store.pages.items) c.find_second.result) c.try_copy.ensures.goes.shape c.find_second.ensures.found)
