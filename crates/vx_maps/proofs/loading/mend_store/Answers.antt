use Rattle.std.proofs.Common.{refl, sym, subst, ◌/◌, ℕ, List, Bool, if◌then◌else◌}
use Rattle.std.specs.Prelude.{OnOk}
use Rattle.vx_pages.specs.Pages.{grid_seen}
use Rattle.vx_pages.specs.Sector.{KeepsPiece}
use Rattle.vx_pages.specs.Stays.{piece_same}
use Rattle.vx_maps.specs.Creating.{AllBeginWith}
use Rattle.vx_maps.specs.Sheets.{sheets_seen}
use Rattle.vx_maps.specs.Slots.{grid_faults}
use Rattle.vx_maps.specs.Store.{AreOnCopies, pages_cut, pages_seen}
use Rattle.vx_maps.specs.Wholes.{sheet_faults, whole_copies}
use Rattle.vx_maps.specs.Written.{MayHold, heads_of}
use Rattle.vx_maps.proofs.Beginnings.{or_left}
use Rattle.vx_maps.proofs.FirstSectors.{heads_mended}
use Rattle.vx_maps.proofs.HeadPlaces.{have_first, some_size}
use Rattle.vx_maps.proofs.Heads.{changed_risen, mended_goes, mended_heads, risen_add}
use Rattle.vx_maps.proofs.Steps.{grid_same, laid_goes, second_goes}
use Rattle.vx_maps.proofs.loading.mend_store.Goals as goal

pub mend_heads-requires-clause-first : goal.mend_heads-requires-clause-first
mend_heads-requires-clause-first g c = have_first _ _ _ (some_size c.args.store.now.base.shape.regions c.args.store.now.base.shape.map_bytes c.args.store.now.base.shape.map_sized) c.args.store.now.base.laid

pub invariant_of-store : goal.invariant_of-store
invariant_of-store g c =
    let go = mended_goes _ _ _ c.mend_heads.result c.mend_heads.ensures in (
      (laid_goes KeepsPiece (λ p q h. h.kept.sectors) _ _ _ _ go c.args.store.now.base.laid, tt),
      (c.args.store.now.paged, (subst (λ (b : Bool). AreOnCopies (if b then 2 else 1) (pages_seen g.P.LocalPiece.seen c.args.store.now.pages.items)) (sym (second_goes KeepsPiece _ _ go.second)) c.args.store.now.copied, tt)),
    )

pub returns-clause-goes : goal.returns-clause-goes
returns-clause-goes g c = record {
  shape = refl;
  places = refl;
  sheets = mended_goes _ _ _ c.mend_heads.result c.mend_heads.ensures;
  grid = grid_same KeepsPiece piece_same (grid_seen g.P.LocalPiece.seen c.args.store.now.pages.items);
}

pub returns-clause-heads : goal.returns-clause-heads
returns-clause-heads g c =
    subst (λ (bytes : List ℕ). OnOk c.mend_heads.result (AllBeginWith bytes (whole_copies (c.args.store.now.base.shape.map_bytes / 512) (grid_seen g.P.LocalPiece.seen c.args.store.now.pages.items) (sheets_seen g.P.LocalPiece.seen c.mend_heads.new.sheets)))) c.put_header.ensures
    (mended_heads (c.args.store.now.base.shape.map_bytes / 512) (grid_seen g.P.LocalPiece.seen c.args.store.now.pages.items) _ _ _ c.mend_heads.result c.mend_heads.ensures)

pub returns-clause-cause : goal.returns-clause-cause
returns-clause-cause g c =
    let p = c.mend_heads.ensures in
    risen_add (λ copy device. sheet_faults copy device (sheets_seen g.P.LocalPiece.seen c.args.store.now.base.sheets)) (λ copy device. sheet_faults copy device (sheets_seen g.P.LocalPiece.seen c.mend_heads.new.sheets))
    (λ copy device. grid_faults copy device (grid_seen g.P.LocalPiece.seen c.args.store.now.pages.items)) _ _ _ _ c.mend_heads.result (λ copy device. refl) (λ copy device. refl)
    (λ h. or_left _ (pages_cut (pages_seen g.P.LocalPiece.seen c.args.store.now.pages.items)) h) (changed_risen p.before p.after _ p.between _ c.mend_heads.result p.out p.back p.change.cause)

pub returns-clause-firsts : goal.returns-clause-firsts
returns-clause-firsts g c =
    subst (λ (bytes : List ℕ). MayHold bytes (heads_of (sheets_seen g.P.LocalPiece.seen c.args.store.now.base.sheets)) (heads_of (sheets_seen g.P.LocalPiece.seen c.mend_heads.new.sheets))) c.put_header.ensures
    (heads_mended _ _ _ c.mend_heads.result c.mend_heads.ensures)
