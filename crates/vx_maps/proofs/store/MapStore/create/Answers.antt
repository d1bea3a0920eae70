use Rattle.std.proofs.Common.{arith, sym, ap, ◌∙◌, ◌≡◌, ◌<◌, ◌/◌, length, true, is_some}
use Rattle.std.proofs.lemmas.List.{length-map}
use Rattle.std.proofs.lemmas.Result.{IfOk-weaker, IfErr-weaker}
use Rattle.vx_marks.specs.Log.{LogSeen}
use Rattle.vx_mapfmt.proofs.SizeLemmas.{page_fits}
use Rattle.vx_pages.specs.Page.{sectors_seen}
use Rattle.vx_pages.specs.Pages.{grid_seen, page_seen}
use Rattle.vx_maps.specs.Sheets.{sheets_seen}
use Rattle.vx_maps.specs.Spares.{copies_seen}
use Rattle.vx_maps.specs.Slots.{row_at}
use Rattle.vx_maps.specs.Store.{pages_seen, pages_tell}
use Rattle.vx_maps.specs.Stores.{store_seen}
use Rattle.vx_maps.specs.Wholes.{store_copies, store_faults}
use Rattle.vx_maps.proofs.Blank.{claims_none, blank, pages_told, log_told}
use Rattle.vx_maps.proofs.Cells.{row_tells, sector_tells}
use Rattle.vx_maps.proofs.Growth.{faults_grow}
use Rattle.vx_maps.proofs.Refusals.{refused_for, runs_tell}
use Rattle.vx_maps.proofs.Rows.{laid_holed}
use Rattle.vx_maps.proofs.StoreChanges.{size_seen}
use Rattle.vx_pages.specs.Sector.{KeepsPiece}
use Rattle.vx_pages.specs.Stays.{piece_same}
use Rattle.vx_maps.proofs.CopyLaws.{store_goes}
use Rattle.vx_maps.proofs.CopyRuns.{only_cut}
use Rattle.vx_maps.proofs.store.MapStore.create.Goals as goal

pub returns-in-Ok-clause-claims : goal.returns-in-Ok-clause-claims
returns-in-Ok-clause-claims g c =
    IfOk-weaker c.create_in.result _ _ (λ store h region map. h region map ∙ claims_none c.args.shape.regions _ (grid_seen g.P.Piece.seen c.in-Ok.cut.store.pages.items) (pages_seen g.P.Piece.seen c.in-Ok.cut.store.pages.items) c.in-Ok.ensures.open region map) c.create_in.ensures.claims

pub returns-in-Ok-clause-told : goal.returns-in-Ok-clause-told
returns-in-Ok-clause-told g c =
    let of = c.in-Ok.ensures.open in
    let size = length-map c.in-Ok.cut.store.pages.items (λ page. sectors_seen g.P.Piece.seen page.sectors.items) in
    let count = size ∙ sym (size_seen (page_seen g.P.Piece.seen) c.in-Ok.cut.store.pages.items) ∙ c.in-Ok.cut.store.paged.count in
    let holed = laid_holed _ _ (grid_seen g.P.Piece.seen c.in-Ok.cut.store.pages.items) (sheets_seen g.P.Piece.seen c.in-Ok.cut.store.base.sheets) c.in-Ok.cut.store.base.laid of.rows count in
    IfOk-weaker c.create_in.result _ _
    (λ store firm tell.
    let all = runs_tell (copies_seen g.P.Piece.seen c.args.copies.items) (store_copies g.P.Piece.seen c.in-Ok.cut.store) c.in-Ok.ensures.same tell in
    let told : pages_tell (pages_seen g.P.Piece.seen c.in-Ok.cut.store.pages.items) ≡ true =
    pages_told (pages_seen g.P.Piece.seen c.in-Ok.cut.store.pages.items)
    (λ i lt.
    let logs = of.count in
    let inside : i < length (grid_seen g.P.Piece.seen c.in-Ok.cut.store.pages.items) = omega (arith, logs, lt) in
    let rows = of.rows i inside in
    ap (λ (log : LogSeen). is_some log.told) (of.each i inside)
    ∙ log_told i c.args.shape.regions (row_at (grid_seen g.P.Piece.seen c.in-Ok.cut.store.pages.items) i)
    (row_tells (row_at (grid_seen g.P.Piece.seen c.in-Ok.cut.store.pages.items) i)
    (λ m within. sector_tells (c.in-Ok.cut.store.base.shape.map_bytes / 512) (grid_seen g.P.Piece.seen c.in-Ok.cut.store.pages.items) (sheets_seen g.P.Piece.seen c.in-Ok.cut.store.base.sheets) i m holed (omega (arith, rows, within)) rows
    (page_fits c.in-Ok.cut.store.base.shape.regions c.in-Ok.cut.store.base.shape.map_bytes i c.in-Ok.cut.store.base.shape.map_sized (omega (arith, count, inside))) (of.pairs i inside m within) all))) in
    blank c.args.shape.regions _ (grid_seen g.P.Piece.seen c.in-Ok.cut.store.pages.items) (pages_seen g.P.Piece.seen c.in-Ok.cut.store.pages.items) of (store_seen g.P.Piece.seen store).told told firm)
    c.create_in.ensures.told

pub returns-in-Ok-clause-refused : goal.returns-in-Ok-clause-refused
returns-in-Ok-clause-refused g c =
    IfErr-weaker c.create_in.result _ _ (λ x h. refused_for x.fault (copies_seen g.P.Piece.seen c.args.copies.items) (store_faults g.P.Piece.seen c.in-Ok.cut.store) (copies_seen g.P.Piece.seen x.copies.items) c.in-Ok.ensures.faults h) c.create_in.ensures.refused

pub returns-in-Ok-clause-shape : goal.returns-in-Ok-clause-shape
returns-in-Ok-clause-shape g c = IfOk-weaker c.create_in.result _ _ (λ store same. same ∙ c.in-Ok.ensures.shape) c.create_in.ensures.shape

pub returns-in-Ok-clause-goes : goal.returns-in-Ok-clause-goes
returns-in-Ok-clause-goes g c =
    IfOk-weaker c.create_in.result _ _ (λ store go. record { cut = store_copies g.P.Piece.seen c.in-Ok.cut.store; same = c.in-Ok.ensures.same; goes = store_goes KeepsPiece piece_same c.in-Ok.cut.store store go }) c.create_in.ensures.goes

pub returns-in-Ok-clause-back : goal.returns-in-Ok-clause-back
returns-in-Ok-clause-back g c = IfErr-weaker c.create_in.result _ _ (λ x go. record { cut = store_copies g.P.Piece.seen c.in-Ok.cut.store; same = c.in-Ok.ensures.same; goes = go }) c.create_in.ensures.back

pub returns-in-Err-clause-back : goal.returns-in-Err-clause-back
returns-in-Err-clause-back g c = only_cut _ _ c.in-Err.ensures.kept

pub returns-in-Ok-clause-counts : goal.returns-in-Ok-clause-counts
returns-in-Ok-clause-counts g c =
    IfOk-weaker c.create_in.result _ _
    (λ store go copy device.
    let more = faults_grow c.in-Ok.cut.store store go copy device in
    let same = c.in-Ok.ensures.faults copy device in
    omega (arith, more, same))
    c.create_in.ensures.goes
