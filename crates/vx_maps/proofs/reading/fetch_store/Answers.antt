use Rattle.std.proofs.Common.{arith}
use Rattle.vx_maps.specs.Going.{ReadsPiece}
use Rattle.vx_maps.specs.Sheets.{sheets_seen}
use Rattle.vx_maps.specs.Cutness.{sheets_cut}
use Rattle.vx_maps.specs.Store.{pages_faults, pages_seen}
use Rattle.vx_maps.specs.Wholes.{sheet_faults}
use Rattle.vx_maps.proofs.Beginnings.{cause_add, or_right}
use Rattle.vx_maps.proofs.PageRows.{copied_goes, pages_goes}
use Rattle.vx_maps.proofs.FetchRows.{copied_rows}
use Rattle.vx_maps.proofs.Refusals.{grid_pages}
use Rattle.vx_maps.proofs.Rows.{pairs_of}
use Rattle.vx_maps.proofs.Steps.{grid_reads}
use Rattle.vx_maps.proofs.reading.fetch_store.Goals as goal

pub fetch_pages-requires-clause-there : goal.fetch_pages-requires-clause-there
fetch_pages-requires-clause-there g c = copied_rows c.args.copy _ _ c.requires.there (pairs_of c.args.store.now.pages.items (sheets_seen g.P.LocalPiece.seen c.args.store.now.base.sheets) c.args.store.now.copied)

pub invariant_of-store : goal.invariant_of-store
invariant_of-store g c =
    record {
      paged = pages_goes _ c.args.store.now.pages.items c.fetch_pages.new.pages.items c.fetch_pages.ensures.places c.args.store.now.paged;
      copied = copied_goes ReadsPiece _ c.args.store.now.pages.items c.fetch_pages.new.pages.items c.fetch_pages.ensures.places (grid_reads _ _ c.fetch_pages.ensures.reads) c.args.store.now.copied;
    }

pub returns-clause-cause : goal.returns-clause-cause
returns-clause-cause g c =
    cause_add (pages_faults (pages_seen g.P.LocalPiece.seen c.args.store.now.pages.items)) (pages_faults (pages_seen g.P.LocalPiece.seen c.fetch_pages.new.pages.items)) (λ copy device. sheet_faults copy device (sheets_seen g.P.LocalPiece.seen c.args.store.now.base.sheets))
    _ _ _ _ c.fetch_pages.result
    (λ copy device. let e = grid_pages c.args.store.now.pages.items copy device in omega (arith, e))
    (λ copy device. let e = grid_pages c.fetch_pages.new.pages.items copy device in omega (arith, e))
    (λ h. or_right (sheets_cut (sheets_seen g.P.LocalPiece.seen c.args.store.now.base.sheets)) _ h) c.fetch_pages.ensures.cause
