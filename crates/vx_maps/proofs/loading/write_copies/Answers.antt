use Rattle.std.proofs.Common.{◌∙◌, sym, subst, Result, Err}
use Rattle.std.specs.Global.{Vec}
use Rattle.vx_mapfmt.specs.declared.shape.DcoShape.{DcoShape}
use Rattle.vx_marks.specs.declared.marker.MarkFault.{MarkFault}
use Rattle.vx_pages.specs.declared.page.Page.{Page}
use Rattle.vx_pages.specs.Pages.{grid_seen}
use Rattle.vx_pages.specs.Sector.{KeepsPiece}
use Rattle.vx_pages.specs.Stays.{piece_then}
use Rattle.vx_maps.specs.Cutness.{store_cut}
use Rattle.vx_maps.specs.Loading.{AreReadRows, GridMaySettle, GridSettled, IsSettledAs, header_of, rows_seen}
use Rattle.vx_maps.specs.Sheets.{sheets_seen}
use Rattle.vx_maps.specs.Wholes.{store_faults}
use Rattle.vx_maps.specs.Written.{AreWrittenFrom, MayHold, heads_of}
use Rattle.vx_maps.specs.declared.store.Base.{Base}
use Rattle.vx_maps.proofs.FirstSectors.{blank_header, heads_tell, not_zero}
use Rattle.vx_maps.proofs.Growth.{faults_grow}
use Rattle.vx_maps.proofs.Heads.{risen_after}
use Rattle.vx_maps.proofs.Steps.{store_then}
use Rattle.vx_maps.proofs.Writings.{written_all, written_none, written_part}
use Rattle.vx_maps.proofs.loading.write_copies.Goals as goal

pub settle_store-requires-clause-read : goal.settle_store-requires-clause-read
settle_store-requires-clause-read g c =
    subst (λ (shape : DcoShape). AreReadRows c.args.chosen shape.regions (rows_seen c.args.images.now.items) (grid_seen g.P.LocalPiece.seen c.blank_if.new.store.pages.items)) (sym c.blank_if.ensures.goes.shape)
    (subst (λ (pages : Vec (Page g.row.P.Denot g.P.LocalPiece)). AreReadRows c.args.chosen c.args.store.now.base.shape.regions (rows_seen c.args.images.now.items) (grid_seen g.P.LocalPiece.seen pages.items)) (sym c.blank_if.ensures.pages) c.requires.read)

pub returns-in-Err-settle_store-clause-cause : goal.returns-in-Err-settle_store-clause-cause
returns-in-Err-settle_store-clause-cause g c =
    risen_after (store_faults g.P.LocalPiece.seen c.args.store.now) (store_faults g.P.LocalPiece.seen c.blank_if.new.store) (store_faults g.P.LocalPiece.seen c.settle_store.new.store) (store_cut g.P.LocalPiece.seen c.settle_store.new.store) (Err c.in-Err-settle_store.fault)
    (faults_grow c.args.store.now c.blank_if.new.store c.blank_if.ensures.goes) c.in-Err-settle_store.ensures.cause

pub returns-clause-cause : goal.returns-clause-cause
returns-clause-cause g c =
    risen_after (store_faults g.P.LocalPiece.seen c.args.store.now) (store_faults g.P.LocalPiece.seen c.settle_store.new.store) (store_faults g.P.LocalPiece.seen c.mend_store.new.store) (store_cut g.P.LocalPiece.seen c.mend_store.new.store) c.mend_store.result
    (faults_grow c.args.store.now c.settle_store.new.store (store_then KeepsPiece KeepsPiece KeepsPiece piece_then c.args.store.now c.blank_if.new.store c.settle_store.new.store c.blank_if.ensures.goes c.settle_store.ensures.goes)) c.mend_store.ensures.cause

pub returns-clause-goes : goal.returns-clause-goes
returns-clause-goes g c =
    store_then KeepsPiece KeepsPiece KeepsPiece piece_then c.args.store.now c.settle_store.new.store c.mend_store.new.store
    (store_then KeepsPiece KeepsPiece KeepsPiece piece_then c.args.store.now c.blank_if.new.store c.settle_store.new.store c.blank_if.ensures.goes c.settle_store.ensures.goes) c.mend_store.ensures.goes

pub returns-in-Err-clause-written : goal.returns-in-Err-clause-written
returns-in-Err-clause-written g c =
    let heads = heads_of (sheets_seen g.P.LocalPiece.seen c.args.store.now.base.sheets) in
    let blanked = heads_of (sheets_seen g.P.LocalPiece.seen c.blank_if.new.store.base.sheets) in
    let header = header_of c.args.store.now.base.shape in
    let rows = rows_seen c.args.images.now.items in
    let grid = grid_seen g.P.LocalPiece.seen c.args.store.now.pages.items in
    subst (λ (pages : Vec (Page g.row.P.Denot g.P.LocalPiece)). AreWrittenFrom header c.args.chosen rows heads blanked grid (grid_seen g.P.LocalPiece.seen pages.items)) (sym c.blank_if.ensures.pages)
    (written_none header c.args.chosen rows _ heads blanked (blank_header _ _ _) (not_zero c.args.chosen) c.blank_if.ensures.firsts grid)

pub returns-in-Err-settle_store-clause-written : goal.returns-in-Err-settle_store-clause-written
returns-in-Err-settle_store-clause-written g c =
    let heads = heads_of (sheets_seen g.P.LocalPiece.seen c.args.store.now.base.sheets) in
    let blanked = heads_of (sheets_seen g.P.LocalPiece.seen c.blank_if.new.store.base.sheets) in
    let header = header_of c.args.store.now.base.shape in
    let rows = rows_seen c.args.images.now.items in
    let grid = grid_seen g.P.LocalPiece.seen c.args.store.now.pages.items in
    let grid' = grid_seen g.P.LocalPiece.seen c.settle_store.new.store.pages.items in
    subst (λ (base : Base g.row.P.Denot g.P.LocalPiece). AreWrittenFrom header c.args.chosen rows heads (heads_of (sheets_seen g.P.LocalPiece.seen base.sheets)) grid grid') (sym c.settle_store.ensures.base)
    (written_part header c.args.chosen rows _ heads blanked (blank_header _ _ _) (not_zero c.args.chosen) c.blank_if.ensures.firsts grid grid'
    (subst (λ (pages : Vec (Page g.row.P.Denot g.P.LocalPiece)). GridMaySettle rows (grid_seen g.P.LocalPiece.seen pages.items) grid') c.blank_if.ensures.pages c.in-Err-settle_store.ensures.settled))

pub returns-clause-written : goal.returns-clause-written
returns-clause-written g c =
    let heads = heads_of (sheets_seen g.P.LocalPiece.seen c.args.store.now.base.sheets) in
    let blanked = heads_of (sheets_seen g.P.LocalPiece.seen c.blank_if.new.store.base.sheets) in
    let mended = heads_of (sheets_seen g.P.LocalPiece.seen c.mend_store.new.store.base.sheets) in
    let header = header_of c.args.store.now.base.shape in
    let rows = rows_seen c.args.images.now.items in
    let grid = grid_seen g.P.LocalPiece.seen c.args.store.now.pages.items in
    let grid' = grid_seen g.P.LocalPiece.seen c.settle_store.new.store.pages.items in
    let settled : GridSettled rows (grid_seen g.P.LocalPiece.seen c.blank_if.new.store.pages.items) grid' =
    subst (λ (r : Result (Unit {0}) MarkFault). IsSettledAs rows (grid_seen g.P.LocalPiece.seen c.blank_if.new.store.pages.items) grid' r) c.in_default-settle_store.is c.settle_store.ensures.settled in
    let may : MayHold (header_of c.settle_store.new.store.base.shape) blanked mended =
    subst (λ (base : Base g.row.P.Denot g.P.LocalPiece). MayHold (header_of c.settle_store.new.store.base.shape) (heads_of (sheets_seen g.P.LocalPiece.seen base.sheets)) mended) c.settle_store.ensures.base c.mend_store.ensures.firsts in
    subst (λ (pages : Vec (Page g.row.P.Denot g.P.LocalPiece)). AreWrittenFrom header c.args.chosen rows heads mended grid (grid_seen g.P.LocalPiece.seen pages.items)) (sym c.mend_store.ensures.pages)
    (written_all header c.args.chosen rows _ heads blanked (blank_header _ _ _) (not_zero c.args.chosen) c.blank_if.ensures.firsts mended grid grid'
    (subst (λ (pages : Vec (Page g.row.P.Denot g.P.LocalPiece)). GridSettled rows (grid_seen g.P.LocalPiece.seen pages.items) grid') c.blank_if.ensures.pages settled)
    (subst (λ (shape : DcoShape). MayHold (header_of shape) blanked mended) (c.settle_store.ensures.goes.shape ∙ c.blank_if.ensures.goes.shape) may) (heads_tell _ _ c.blank_if.ensures.goes.sheets))
