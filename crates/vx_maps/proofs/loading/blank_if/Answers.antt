use Rattle.std.proofs.Common.{refl, sym, subst, Bool, if◌then◌else◌}
use Rattle.vx_sector.specs.Fields.{zeros}
use Rattle.vx_pages.specs.Pages.{grid_seen}
use Rattle.vx_pages.specs.Sector.{KeepsPiece}
use Rattle.vx_pages.specs.Stays.{piece_same}
use Rattle.vx_maps.specs.Sheets.{sheets_seen}
use Rattle.vx_maps.specs.Slots.{grid_faults}
use Rattle.vx_maps.specs.Store.{AreOnCopies, pages_cut, pages_seen}
use Rattle.vx_maps.specs.Wholes.{sheet_faults}
use Rattle.vx_maps.proofs.Beginnings.{or_left}
use Rattle.vx_maps.proofs.HeadPlaces.{have_first, some_size}
use Rattle.vx_maps.proofs.Heads.{changed_risen, first_risen, put_goes, risen_add}
use Rattle.vx_maps.proofs.Steps.{grid_same, laid_goes, second_goes, store_same}
use Rattle.vx_maps.proofs.FirstSectors.{blank_none, heads_blanked}
use Rattle.vx_maps.proofs.loading.blank_if.Goals as goal

pub put_head-requires-clause-first : goal.put_head-requires-clause-first
put_head-requires-clause-first g c = have_first _ _ _ (some_size c.args.store.now.base.shape.regions c.args.store.now.base.shape.map_bytes c.args.store.now.base.shape.map_sized) c.args.store.now.base.laid

pub invariant_of-store : goal.invariant_of-store
invariant_of-store g c =
    let go = put_goes _ _ _ c.put_head.result c.put_head.ensures in (
      (laid_goes KeepsPiece (λ p q h. h.kept.sectors) _ _ _ _ go c.args.store.now.base.laid, tt),
      (c.args.store.now.paged, (subst (λ (b : Bool). AreOnCopies (if b then 2 else 1) (pages_seen g.P.LocalPiece.seen c.args.store.now.pages.items)) (sym (second_goes KeepsPiece _ _ go.second)) c.args.store.now.copied, tt)),
    )

pub returns-then-asked-clause-goes : goal.returns-then-asked-clause-goes
returns-then-asked-clause-goes g c = record {
  shape = refl;
  places = refl;
  sheets = put_goes _ _ _ c.put_head.result c.put_head.ensures;
  grid = grid_same KeepsPiece piece_same (grid_seen g.P.LocalPiece.seen c.args.store.now.pages.items);
}

pub returns-then-asked-clause-cause : goal.returns-then-asked-clause-cause
returns-then-asked-clause-cause g c =
    let p = c.put_head.ensures in
    risen_add (λ copy device. sheet_faults copy device (sheets_seen g.P.LocalPiece.seen c.args.store.now.base.sheets)) (λ copy device. sheet_faults copy device (sheets_seen g.P.LocalPiece.seen c.put_head.new.sheets))
    (λ copy device. grid_faults copy device (grid_seen g.P.LocalPiece.seen c.args.store.now.pages.items)) _ _ _ _ c.put_head.result (λ copy device. refl) (λ copy device. refl)
    (λ h. or_left _ (pages_cut (pages_seen g.P.LocalPiece.seen c.args.store.now.pages.items)) h) (changed_risen p.before p.after _ p.between _ c.put_head.result p.out p.back (first_risen _ _ c.put_head.result p.change))

pub returns-else-asked-clause-goes : goal.returns-else-asked-clause-goes
returns-else-asked-clause-goes g c = store_same c.args.store.now

pub returns-then-asked-clause-firsts : goal.returns-then-asked-clause-firsts
unfolding zeros
returns-then-asked-clause-firsts g c = heads_blanked c.args.asked (zeros 512) _ _ c.put_head.result c.if-asked.true refl c.put_head.ensures

pub returns-else-asked-clause-firsts : goal.returns-else-asked-clause-firsts
returns-else-asked-clause-firsts g c = blank_none c.args.asked _
