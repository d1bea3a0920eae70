use Rattle.std.proofs.Common.{◌∙◌, sym, subst}
use Rattle.std.proofs.lemmas.Result.{IfErr-weaker, IfOk-weaker}
use Rattle.vx_mapfmt.specs.declared.shape.DcoShape.{DcoShape}
use Rattle.std.specs.Prelude.{is_some}
use Rattle.vx_pages.specs.Pages.{grid_seen}
use Rattle.vx_pages.specs.Sector.{IsOpen, KeepsPiece}
use Rattle.vx_maps.specs.Sheets.{sheets_seen}
use Rattle.vx_maps.specs.Store.{AreLogsOf, pages_seen}
use Rattle.vx_maps.specs.Loading.{IsLoaded, IsNotLoaded, header_of}
use Rattle.vx_maps.specs.Narrowing.{AreNarrowed}
use Rattle.vx_maps.specs.Spares.{copies_seen}
use Rattle.vx_maps.specs.Stores.{store_seen}
use Rattle.vx_maps.specs.Wholes.{store_copies, store_faults}
use Rattle.vx_maps.proofs.Sources.{if_all, loaded, not_loaded}
use Rattle.vx_pages.specs.Stays.{piece_same}
use Rattle.vx_maps.proofs.CopyLaws.{store_goes}
use Rattle.vx_maps.proofs.CopyRuns.{none_cut, only_cut}
use Rattle.vx_maps.proofs.Narrowed.{narrowed_cut, narrowed_none}
use Rattle.vx_maps.proofs.Refusals.{runs_tell}
use Rattle.vx_maps.proofs.store.MapStore.load.Goals as goal

pub returns-in-Ok-cut_store-clause-loaded : goal.returns-in-Ok-cut_store-clause-loaded
returns-in-Ok-cut_store-clause-loaded g c =
    if_all c.load_in.result _ _ _ _
    (λ store filled go narrowed.
    subst (λ (shape : DcoShape). IsLoaded (header_of shape) shape.regions (copies_seen g.P.Piece.seen c.args.copies.items) (store_faults g.P.Piece.seen store) (store_copies g.P.Piece.seen store) (store_seen g.P.Piece.seen store)) c.in-Ok-cut_store.ensures.shape
    (loaded c.in-Ok-cut_store.cut.store (copies_seen g.P.Piece.seen c.args.copies.items) c.in-Ok-cut_store.ensures.same c.in-Ok-cut_store.ensures.faults store (header_of c.in-Ok-cut_store.cut.store.base.shape)
    (subst (λ (shape : DcoShape). AreLogsOf shape.regions (is_some (sheets_seen g.P.Piece.seen c.in-Ok-cut_store.cut.store.base.sheets).second) IsOpen (grid_seen g.P.Piece.seen c.in-Ok-cut_store.cut.store.pages.items) (pages_seen g.P.Piece.seen c.in-Ok-cut_store.cut.store.pages.items)) (sym c.in-Ok-cut_store.ensures.shape) c.in-Ok-cut_store.ensures.open)
    go filled narrowed))
    c.load_in.ensures.filled c.load_in.ensures.goes c.load_in.ensures.loaded

pub returns-in-Ok-cut_store-clause-refused : goal.returns-in-Ok-cut_store-clause-refused
returns-in-Ok-cut_store-clause-refused g c =
    IfErr-weaker c.load_in.result _ _
    (λ x h.
    subst (λ (shape : DcoShape). IsNotLoaded (header_of shape) x.fault (copies_seen g.P.Piece.seen c.args.copies.items) (copies_seen g.P.Piece.seen x.copies.items)) c.in-Ok-cut_store.ensures.shape
    (not_loaded c.in-Ok-cut_store.cut.store (copies_seen g.P.Piece.seen c.args.copies.items) c.in-Ok-cut_store.ensures.same c.in-Ok-cut_store.ensures.faults (header_of c.in-Ok-cut_store.cut.store.base.shape) x.fault (copies_seen g.P.Piece.seen x.copies.items) h))
    c.load_in.ensures.refused

pub returns-in-Ok-cut_store-clause-shape : goal.returns-in-Ok-cut_store-clause-shape
returns-in-Ok-cut_store-clause-shape g c = IfOk-weaker c.load_in.result _ _ (λ store go. go.shape ∙ c.in-Ok-cut_store.ensures.shape) c.load_in.ensures.goes

pub returns-in-Ok-cut_store-clause-goes : goal.returns-in-Ok-cut_store-clause-goes
returns-in-Ok-cut_store-clause-goes g c =
    IfOk-weaker c.load_in.result _ _ (λ store go. record { cut = store_copies g.P.Piece.seen c.in-Ok-cut_store.cut.store; same = c.in-Ok-cut_store.ensures.same; goes = store_goes KeepsPiece piece_same c.in-Ok-cut_store.cut.store store go }) c.load_in.ensures.goes

pub returns-in-Ok-cut_store-clause-back : goal.returns-in-Ok-cut_store-clause-back
returns-in-Ok-cut_store-clause-back g c =
    IfErr-weaker c.load_in.result _ _ (λ x go. record { cut = store_copies g.P.Piece.seen c.in-Ok-cut_store.cut.store; same = c.in-Ok-cut_store.ensures.same; goes = go }) c.load_in.ensures.back

pub returns-in-Err-clause-back : goal.returns-in-Err-clause-back
returns-in-Err-clause-back g c = only_cut _ _ c.in-Err.ensures.kept

pub returns-in_default-clause-back : goal.returns-in_default-clause-back
returns-in_default-clause-back g c = none_cut _

pub returns-in-Ok-cut_store-clause-narrowed : goal.returns-in-Ok-cut_store-clause-narrowed
returns-in-Ok-cut_store-clause-narrowed g c =
    IfErr-weaker c.load_in.result _ _
    (λ x narrowed tell.
    let cut = store_copies g.P.Piece.seen c.in-Ok-cut_store.cut.store in
    let old = copies_seen g.P.Piece.seen c.args.copies.items in
    let new = copies_seen g.P.Piece.seen x.copies.items in
    subst (λ (shape : DcoShape). AreNarrowed (header_of shape) shape.regions old new) c.in-Ok-cut_store.ensures.shape
    (narrowed_cut _ _ old cut new c.in-Ok-cut_store.ensures.same (narrowed (runs_tell old cut c.in-Ok-cut_store.ensures.same tell))))
    c.load_in.ensures.narrowed

pub returns-in-Err-clause-narrowed : goal.returns-in-Err-clause-narrowed
returns-in-Err-clause-narrowed g c = λ tell. narrowed_cut _ _ _ _ _ c.in-Err.ensures.kept (narrowed_none _ _ _)

pub returns-in_default-clause-narrowed : goal.returns-in_default-clause-narrowed
returns-in_default-clause-narrowed g c = λ tell. narrowed_none _ _ _
