use Rattle.std.proofs.Common.{◌≡◌, ◌/◌, arith, sym, subst, ℕ, Bool, Ok}
use Rattle.vx_pages.specs.Pages.{grid_seen}
use Rattle.vx_maps.specs.Cutness.{store_cut}
use Rattle.vx_maps.specs.Loading.{IsPassedBy, IsTriedAs, header_of, rows_seen}
use Rattle.vx_maps.specs.Sheets.{sheets_seen}
use Rattle.vx_maps.specs.Wholes.{store_copies, store_faults}
use Rattle.vx_maps.proofs.Finds.{whole_few}
use Rattle.vx_maps.proofs.reading.find_second.Goals as goal

pub returns-in-Ok-false-clause-found : goal.returns-in-Ok-false-clause-found
returns-in-Ok-false-clause-found g c m le lt =
    let passed : IsPassedBy (header_of c.args.store.now.base.shape) (store_faults g.P.LocalPiece.seen c.args.store.now) (store_faults g.P.LocalPiece.seen c.try_copy.new.store) (store_copies g.P.LocalPiece.seen c.args.store.now) 1 =
    subst (λ (b : Bool). IsTriedAs 1 (header_of c.args.store.now.base.shape) c.args.store.now.base.shape.regions (store_faults g.P.LocalPiece.seen c.args.store.now) (store_faults g.P.LocalPiece.seen c.try_copy.new.store)
    (store_cut g.P.LocalPiece.seen c.try_copy.new.store) (store_copies g.P.LocalPiece.seen c.args.store.now) (rows_seen c.try_copy.new.images.items) (grid_seen g.P.LocalPiece.seen c.args.store.now.pages.items) (Ok b)) c.in-Ok-false.field-0-test c.in-Ok-false.ensures.tried in
    let few = whole_few (c.args.store.now.base.shape.map_bytes / 512) (grid_seen g.P.LocalPiece.seen c.args.store.now.pages.items) (sheets_seen g.P.LocalPiece.seen c.args.store.now.base.sheets) in
    let e : m ≡ 1 = omega (arith, le, lt, few) in
    subst (λ (n : ℕ). IsPassedBy (header_of c.args.store.now.base.shape) (store_faults g.P.LocalPiece.seen c.args.store.now) (store_faults g.P.LocalPiece.seen c.try_copy.new.store) (store_copies g.P.LocalPiece.seen c.args.store.now) n) (sym e) passed
