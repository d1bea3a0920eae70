use Rattle.std.proofs.Common.{subst, sym, Err}
use Rattle.vx_mapfmt.specs.declared.shape.DcoShape.{DcoShape}
use Rattle.vx_pages.specs.Pages.{grid_seen}
use Rattle.vx_pages.specs.Sector.{KeepsPiece}
use Rattle.vx_maps.specs.Creating.{AllBeginWith}
use Rattle.vx_maps.specs.Cutness.{store_cut}
use Rattle.vx_maps.specs.Going.{ReadsPiece}
use Rattle.vx_maps.specs.Loading.{AreReadRows, header_of, rows_seen}
use Rattle.vx_maps.specs.Wholes.{store_copies, store_faults}
use Rattle.vx_maps.proofs.Finds.{rows_on}
use Rattle.vx_maps.proofs.Growth.{faults_grow}
use Rattle.vx_maps.proofs.Heads.{risen_after}
use Rattle.vx_maps.proofs.Loads.{filled_failed, filled_none, found_later, settled_on, taken_of}
use Rattle.vx_maps.proofs.CopyLaws.{store_goes}
use Rattle.vx_maps.proofs.Narrowed.{narrowed_filled, narrowed_read}
use Rattle.vx_maps.proofs.Steps.{keeps_reads, reads_same, store_keeps, store_then}
use Rattle.vx_maps.proofs.loading.fill_store.Goals as goal

pub write_copies-requires-clause-read : goal.write_copies-requires-clause-read
write_copies-requires-clause-read g c =
    subst (λ (shape : DcoShape). AreReadRows c.in-Ok.chosen shape.regions (rows_seen c.find_copy.new.images.items) (grid_seen g.P.LocalPiece.seen c.find_copy.new.store.pages.items)) (sym c.find_copy.ensures.goes.shape)
    (rows_on c.in-Ok.chosen c.args.store.now.base.shape.regions (rows_seen c.find_copy.new.images.items) _ _ c.find_copy.ensures.grid c.in-Ok.ensures.found.gives)

pub returns-in-Ok-write_copies-clause-filled : goal.returns-in-Ok-write_copies-clause-filled
returns-in-Ok-write_copies-clause-filled g c = record {
  rows = rows_seen c.find_copy.new.images.items;
  copy = c.in-Ok.chosen;
  found = found_later c.in-Ok.chosen _ _ _ (store_faults g.P.LocalPiece.seen c.find_copy.new.store) (store_faults g.P.LocalPiece.seen c.write_copies.new.store) _ _ _ (faults_grow c.find_copy.new.store c.write_copies.new.store c.write_copies.ensures.goes) c.in-Ok.ensures.found;
  settled = settled_on (rows_seen c.find_copy.new.images.items) _ _ _ c.find_copy.ensures.grid c.in-Ok-write_copies.ensures.settled;
  heads = subst (λ (shape : DcoShape). AllBeginWith (header_of shape) (store_copies g.P.LocalPiece.seen c.write_copies.new.store)) c.find_copy.ensures.goes.shape c.in-Ok-write_copies.ensures.heads;
}

pub returns-in-Err-write_copies-clause-goes : goal.returns-in-Err-write_copies-clause-goes
returns-in-Err-write_copies-clause-goes g c = store_then ReadsPiece KeepsPiece KeepsPiece keeps_reads c.args.store.now c.find_copy.new.store c.write_copies.new.store c.find_copy.ensures.goes c.write_copies.ensures.goes

pub returns-in-Err-write_copies-clause-filled : goal.returns-in-Err-write_copies-clause-filled
returns-in-Err-write_copies-clause-filled g c =
    filled_failed (header_of c.args.store.now.base.shape) c.args.store.now.base.shape.regions (store_faults g.P.LocalPiece.seen c.args.store.now) (store_faults g.P.LocalPiece.seen c.write_copies.new.store) (store_cut g.P.LocalPiece.seen c.write_copies.new.store)
    (store_copies g.P.LocalPiece.seen c.args.store.now) (store_copies g.P.LocalPiece.seen c.write_copies.new.store) (grid_seen g.P.LocalPiece.seen c.args.store.now.pages.items) (grid_seen g.P.LocalPiece.seen c.write_copies.new.store.pages.items) c.in-Err-write_copies.fault c.fault_of.result c.fault_of.ensures
    (taken_of c.in-Ok.chosen _ c.args.store.now.base.shape.regions _ _ _ (rows_seen c.find_copy.new.images.items) (grid_seen g.P.LocalPiece.seen c.args.store.now.pages.items)
    (found_later c.in-Ok.chosen _ _ _ (store_faults g.P.LocalPiece.seen c.find_copy.new.store) (store_faults g.P.LocalPiece.seen c.write_copies.new.store) _ _ _ (faults_grow c.find_copy.new.store c.write_copies.new.store c.write_copies.ensures.goes) c.in-Ok.ensures.found))
    (risen_after _ (store_faults g.P.LocalPiece.seen c.find_copy.new.store) _ _ (Err c.in-Err-write_copies.fault) (faults_grow c.args.store.now c.find_copy.new.store (store_keeps _ _ c.find_copy.ensures.goes)) c.in-Err-write_copies.ensures.cause)

pub returns-in-Err-clause-filled : goal.returns-in-Err-clause-filled
returns-in-Err-clause-filled g c =
    filled_none (header_of c.args.store.now.base.shape) c.args.store.now.base.shape.regions (store_faults g.P.LocalPiece.seen c.args.store.now) (store_faults g.P.LocalPiece.seen c.find_copy.new.store) (store_cut g.P.LocalPiece.seen c.find_copy.new.store)
    (store_copies g.P.LocalPiece.seen c.args.store.now) (store_copies g.P.LocalPiece.seen c.find_copy.new.store) (grid_seen g.P.LocalPiece.seen c.args.store.now.pages.items) (grid_seen g.P.LocalPiece.seen c.find_copy.new.store.pages.items)
    (rows_seen c.find_copy.new.images.items) c.in-Err.fault c.in-Err.ensures.found

pub returns-in-Ok-write_copies-clause-narrowed : goal.returns-in-Ok-write_copies-clause-narrowed
returns-in-Ok-write_copies-clause-narrowed g c =
    narrowed_filled c.args.store.now c.find_copy.new.store c.write_copies.new.store c.find_copy.ensures.goes c.find_copy.ensures.grid c.write_copies.ensures.goes c.in-Ok.chosen (rows_seen c.find_copy.new.images.items) c.in-Ok.ensures.found.inside c.in-Ok.ensures.found.headed
    c.in-Ok.ensures.found.gives c.write_copies.ensures.written

pub returns-in-Err-write_copies-clause-narrowed : goal.returns-in-Err-write_copies-clause-narrowed
returns-in-Err-write_copies-clause-narrowed g c =
    narrowed_filled c.args.store.now c.find_copy.new.store c.write_copies.new.store c.find_copy.ensures.goes c.find_copy.ensures.grid c.write_copies.ensures.goes c.in-Ok.chosen (rows_seen c.find_copy.new.images.items) c.in-Ok.ensures.found.inside c.in-Ok.ensures.found.headed
    c.in-Ok.ensures.found.gives c.write_copies.ensures.written

pub returns-in-Err-clause-narrowed : goal.returns-in-Err-clause-narrowed
returns-in-Err-clause-narrowed g c = λ tell. narrowed_read _ _ _ _ (store_goes ReadsPiece reads_same c.args.store.now c.find_copy.new.store c.find_copy.ensures.goes)

pub returns-in-Ok-write_copies-clause-goes : goal.returns-in-Ok-write_copies-clause-goes
returns-in-Ok-write_copies-clause-goes g c = store_then ReadsPiece KeepsPiece KeepsPiece keeps_reads c.args.store.now c.find_copy.new.store c.write_copies.new.store c.find_copy.ensures.goes c.write_copies.ensures.goes
