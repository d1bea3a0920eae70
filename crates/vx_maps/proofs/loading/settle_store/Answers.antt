use Rattle.std.proofs.Common.{arith, refl}
use Rattle.vx_pages.specs.Sector.{KeepsPiece}
use Rattle.vx_maps.specs.Sheets.{sheets_seen}
use Rattle.vx_maps.specs.Cutness.{sheets_cut}
use Rattle.vx_maps.specs.Store.{pages_faults, pages_seen}
use Rattle.vx_maps.specs.Wholes.{sheet_faults}
use Rattle.vx_maps.proofs.Beginnings.{or_right}
use Rattle.vx_maps.proofs.Heads.{risen_add}
use Rattle.vx_maps.proofs.PageRows.{copied_goes, pages_goes}
use Rattle.vx_maps.proofs.Refusals.{grid_pages}
use Rattle.vx_maps.proofs.Steps.{settled_as, sheets_same}
use Rattle.vx_pages.specs.Stays.{piece_same}
use Rattle.vx_maps.proofs.loading.settle_store.Goals as goal

pub invariant_of-store : goal.invariant_of-store
invariant_of-store g c =
    record {
      paged = pages_goes _ c.args.store.now.pages.items c.settle_pages.new.pages.items c.settle_pages.ensures.places c.args.store.now.paged;
      copied = copied_goes KeepsPiece _ c.args.store.now.pages.items c.settle_pages.new.pages.items c.settle_pages.ensures.places (settled_as _ _ _ c.settle_pages.result c.settle_pages.ensures.settled) c.args.store.now.copied;
    }

pub returns-clause-cause : goal.returns-clause-cause
returns-clause-cause g c =
    risen_add (pages_faults (pages_seen g.P.LocalPiece.seen c.args.store.now.pages.items)) (pages_faults (pages_seen g.P.LocalPiece.seen c.settle_pages.new.pages.items)) (λ copy device. sheet_faults copy device (sheets_seen g.P.LocalPiece.seen c.args.store.now.base.sheets))
    _ _ _ _ c.settle_pages.result
    (λ copy device. let e = grid_pages c.args.store.now.pages.items copy device in omega (arith, e))
    (λ copy device. let e = grid_pages c.settle_pages.new.pages.items copy device in omega (arith, e))
    (λ h. or_right (sheets_cut (sheets_seen g.P.LocalPiece.seen c.args.store.now.base.sheets)) _ h) c.settle_pages.ensures.cause

pub returns-clause-goes : goal.returns-clause-goes
returns-clause-goes g c = record { shape = refl; places = c.settle_pages.ensures.places; sheets = sheets_same KeepsPiece piece_same _; grid = settled_as _ _ _ c.settle_pages.result c.settle_pages.ensures.settled }
