use Rattle.std.proofs.Common.{refl, sym, subst, ◌/◌, ◌+◌, Bool, Result, Ok, Err, if◌then◌else◌}
use Rattle.std.specs.Prelude.{◌||◌}
use Rattle.vx_marks.specs.declared.marker.MarkFault.{MarkFault}
use Rattle.vx_pages.specs.Pages.{grid_seen}
use Rattle.vx_pages.specs.Reading.{Gives}
use Rattle.vx_pages.specs.Sector.{HasCause, copy_of, faults_at, is_cut}
use Rattle.vx_maps.specs.Going.{ReadsPiece}
use Rattle.vx_maps.specs.Sheets.{sheets_seen}
use Rattle.vx_maps.specs.Slots.{grid_faults}
use Rattle.vx_maps.specs.Store.{AreOnCopies, pages_cut, pages_seen}
use Rattle.vx_maps.specs.Wholes.{sheet_faults, store_faults}
use Rattle.vx_maps.specs.Cutness.{sheets_cut}
use Rattle.vx_maps.proofs.Beginnings.{cause_add, or_left}
use Rattle.vx_maps.proofs.HeadPlaces.{have_first, some_size}
use Rattle.vx_maps.proofs.Heads.{cause_as, changed_cause, got_begins, got_goes, head_as}
use Rattle.vx_maps.proofs.Steps.{grid_same, laid_goes, reads_same, second_goes}
use Rattle.vx_maps.proofs.reading.is_headed.Goals as goal

pub get_head-requires-clause-first : goal.get_head-requires-clause-first
get_head-requires-clause-first g c = have_first _ _ _ (some_size c.args.store.now.base.shape.regions c.args.store.now.base.shape.map_bytes c.args.store.now.base.shape.map_sized) c.args.store.now.base.laid

pub invariant_of-store : goal.invariant_of-store
invariant_of-store g c =
    let go = got_goes _ _ _ _ c.get_head.result c.get_head.ensures.got in (
      (laid_goes ReadsPiece (λ p q h. h.kept.kept.sectors) _ _ _ _ go c.args.store.now.base.laid, tt),
      (c.args.store.now.paged, (subst (λ (b : Bool). AreOnCopies (if b then 2 else 1) (pages_seen g.P.LocalPiece.seen c.args.store.now.pages.items)) (sym (second_goes ReadsPiece _ _ go.second)) c.args.store.now.copied, tt)),
    )

pub returns-in-Ok-clause-goes : goal.returns-in-Ok-clause-goes
returns-in-Ok-clause-goes g c = record {
  shape = refl;
  places = refl;
  sheets = got_goes _ _ _ _ c.get_head.result c.get_head.ensures.got;
  grid = grid_same ReadsPiece reads_same (grid_seen g.P.LocalPiece.seen c.args.store.now.pages.items);
}

pub returns-in-Err-clause-goes : goal.returns-in-Err-clause-goes
returns-in-Err-clause-goes g c = record {
  shape = refl;
  places = refl;
  sheets = got_goes _ _ _ _ c.get_head.result c.get_head.ensures.got;
  grid = grid_same ReadsPiece reads_same (grid_seen g.P.LocalPiece.seen c.args.store.now.pages.items);
}

pub returns-in-Ok-clause-head : goal.returns-in-Ok-clause-head
returns-in-Ok-clause-head g c =
    let p = c.get_head.ensures.got in
    head_as c.is_header.result c.args.copy _ c.get_head.new.into _ c.is_header.ensures
    (got_begins (c.args.store.now.base.shape.map_bytes / 512) c.args.copy (grid_seen g.P.LocalPiece.seen c.args.store.now.pages.items) c.get_head.new.into p.before _ p.between p.out c.requires
    (subst (λ (r : Result (Unit {0}) MarkFault). Gives c.get_head.new.into (copy_of p.before c.args.copy) r) c.in-Ok.is p.change.gives))

pub returns-in-Ok-clause-cause : goal.returns-in-Ok-clause-cause
returns-in-Ok-clause-cause g c =
    let p = c.get_head.ensures.got in
    cause_add (λ copy device. sheet_faults copy device (sheets_seen g.P.LocalPiece.seen c.args.store.now.base.sheets)) (λ copy device. sheet_faults copy device (sheets_seen g.P.LocalPiece.seen c.get_head.new.sheets))
    (λ copy device. grid_faults copy device (grid_seen g.P.LocalPiece.seen c.args.store.now.pages.items))
    (store_faults g.P.LocalPiece.seen c.args.store.now) (λ copy device. sheet_faults copy device (sheets_seen g.P.LocalPiece.seen c.get_head.new.sheets) + grid_faults copy device (grid_seen g.P.LocalPiece.seen c.args.store.now.pages.items))
    (sheets_cut (sheets_seen g.P.LocalPiece.seen c.get_head.new.sheets)) (sheets_cut (sheets_seen g.P.LocalPiece.seen c.get_head.new.sheets) || pages_cut (pages_seen g.P.LocalPiece.seen c.args.store.now.pages.items)) (Ok tt) (λ copy device. refl) (λ copy device. refl)
    (λ h. or_left _ (pages_cut (pages_seen g.P.LocalPiece.seen c.args.store.now.pages.items)) h)
    (changed_cause p.before p.after _ p.between _ (Ok tt) p.out p.back
    (subst (λ (r : Result (Unit {0}) MarkFault). HasCause (faults_at p.before) (faults_at p.after) (is_cut p.after) r) c.in-Ok.is p.change.cause))

pub returns-in-Err-clause-cause : goal.returns-in-Err-clause-cause
returns-in-Err-clause-cause g c =
    let p = c.get_head.ensures.got in
    cause_as (Unit {0}) Bool _ _ _ c.in-Err.fault
    (cause_add (λ copy device. sheet_faults copy device (sheets_seen g.P.LocalPiece.seen c.args.store.now.base.sheets)) (λ copy device. sheet_faults copy device (sheets_seen g.P.LocalPiece.seen c.get_head.new.sheets))
    (λ copy device. grid_faults copy device (grid_seen g.P.LocalPiece.seen c.args.store.now.pages.items))
    (store_faults g.P.LocalPiece.seen c.args.store.now) (λ copy device. sheet_faults copy device (sheets_seen g.P.LocalPiece.seen c.get_head.new.sheets) + grid_faults copy device (grid_seen g.P.LocalPiece.seen c.args.store.now.pages.items))
    (sheets_cut (sheets_seen g.P.LocalPiece.seen c.get_head.new.sheets)) (sheets_cut (sheets_seen g.P.LocalPiece.seen c.get_head.new.sheets) || pages_cut (pages_seen g.P.LocalPiece.seen c.args.store.now.pages.items)) (Err c.in-Err.fault) (λ copy device. refl) (λ copy device. refl)
    (λ h. or_left _ (pages_cut (pages_seen g.P.LocalPiece.seen c.args.store.now.pages.items)) h)
    (changed_cause p.before p.after _ p.between _ (Err c.in-Err.fault) p.out p.back
    (subst (λ (r : Result (Unit {0}) MarkFault). HasCause (faults_at p.before) (faults_at p.after) (is_cut p.after) r) c.in-Err.is p.change.cause)))
