use Rattle.std.proofs.Common.{refl, sym, subst, ◌/◌, Bool, if◌then◌else◌}
use Rattle.vx_pages.specs.Pages.{grid_seen}
use Rattle.vx_maps.specs.Sheets.{sheets_seen}
use Rattle.vx_maps.specs.Slots.{grid_faults}
use Rattle.vx_maps.specs.Store.{AreOnCopies, pages_cut, pages_seen}
use Rattle.vx_maps.specs.Wholes.{sheet_faults}
use Rattle.vx_maps.proofs.HeadPlaces.{have_first, some_size, laid_still, second_there, heads_cause}
use Rattle.vx_maps.proofs.Beginnings.{heads_begin, heads_cut, cause_add, or_left}
use Rattle.vx_pages.specs.Sector.{KeepsPiece}
use Rattle.vx_pages.specs.Stays.{piece_same}
use Rattle.vx_maps.proofs.Heads.{heads_goes}
use Rattle.vx_maps.proofs.Steps.{grid_same}
use Rattle.vx_maps.proofs.creating.write_heads.Goals as goal

pub put_heads-requires-clause-first : goal.put_heads-requires-clause-first
put_heads-requires-clause-first g c = have_first _ _ _ (some_size c.args.store.now.base.shape.regions c.args.store.now.base.shape.map_bytes c.args.store.now.base.shape.map_sized) c.args.store.now.base.laid

pub invariant_of-store : goal.invariant_of-store
invariant_of-store g c =
    let p = c.put_heads.ensures in
    let first = have_first _ _ _ (some_size c.args.store.now.base.shape.regions c.args.store.now.base.shape.map_bytes c.args.store.now.base.shape.map_sized) c.args.store.now.base.laid in (
      (laid_still _ _ _ _ _ _ p first c.args.store.now.base.laid, tt),
      (c.args.store.now.paged, (subst (λ (b : Bool). AreOnCopies (if b then 2 else 1) (pages_seen g.P.LocalPiece.seen c.args.store.now.pages.items)) (sym (second_there _ _ _ _ _ p.out.second p.back.second)) c.args.store.now.copied, tt)),
    )

pub returns-clause-heads : goal.returns-clause-heads
returns-clause-heads g c = heads_begin (c.args.store.now.base.shape.map_bytes / 512) (grid_seen g.P.LocalPiece.seen c.args.store.now.pages.items) _ _ _ c.put_heads.result c.put_heads.ensures

pub returns-clause-cause : goal.returns-clause-cause
returns-clause-cause g c =
    let p = c.put_heads.ensures in
    cause_add (λ copy device. sheet_faults copy device (sheets_seen g.P.LocalPiece.seen c.args.store.now.base.sheets)) (λ copy device. sheet_faults copy device (sheets_seen g.P.LocalPiece.seen c.put_heads.new.sheets))
    (λ copy device. grid_faults copy device (grid_seen g.P.LocalPiece.seen c.args.store.now.pages.items)) _ _ _ _ c.put_heads.result (λ copy device. refl) (λ copy device. refl)
    (λ h. or_left _ (pages_cut (pages_seen g.P.LocalPiece.seen c.args.store.now.pages.items)) (heads_cut p.after _ _ p.back h)) (heads_cause _ _ _ _ c.put_heads.result p p.put.cause)

pub returns-clause-goes : goal.returns-clause-goes
returns-clause-goes g c = record {
  shape = refl;
  places = refl;
  sheets = heads_goes _ _ _ c.put_heads.result c.put_heads.ensures;
  grid = grid_same KeepsPiece piece_same (grid_seen g.P.LocalPiece.seen c.args.store.now.pages.items);
}
