use Rattle.vx_pages.specs.Pages.{grid_seen}
use Rattle.vx_maps.specs.Cutness.{store_cut}
use Rattle.vx_maps.specs.Loading.{header_of}
use Rattle.vx_maps.specs.Spares.{copies_seen}
use Rattle.vx_maps.specs.Wholes.{store_copies, store_faults}
use Rattle.vx_maps.proofs.Loads.{refused_from, unfilled}
use Rattle.std.proofs.Common.{sym, subst, List}
use Rattle.vx_piece.specs.Seen.{Seen}
use Rattle.vx_pages.specs.Sector.{KeepsPiece}
use Rattle.vx_pages.specs.Stays.{piece_same}
use Rattle.vx_maps.specs.Creating.{AllTell}
use Rattle.vx_maps.specs.Going.{CopiesGo}
use Rattle.vx_maps.specs.Narrowing.{AreNarrowed}
use Rattle.vx_maps.proofs.CopyLaws.{store_goes}
use Rattle.vx_maps.proofs.loading.load_in.Goals as goal

pub returns-clause-refused : goal.returns-clause-refused
returns-clause-refused g c =
    let header = header_of c.args.cut.store.base.shape in
    let regions = c.args.cut.store.base.shape.regions in
    let old = store_faults g.P.LocalPiece.seen c.args.cut.store in
    let new = store_faults g.P.LocalPiece.seen c.fill_store.new.store in
    let cut = store_cut g.P.LocalPiece.seen c.fill_store.new.store in
    let copies = store_copies g.P.LocalPiece.seen c.args.cut.store in
    let now = store_copies g.P.LocalPiece.seen c.fill_store.new.store in
    let back = copies_seen g.P.LocalPiece.seen c.into_copies_in.result.items in
    let grid = grid_seen g.P.LocalPiece.seen c.args.cut.store.pages.items in
    let grid' = grid_seen g.P.LocalPiece.seen c.fill_store.new.store.pages.items in
    unfilled header regions old new cut copies back grid grid' c.in-Err.fault c.into_copies_in.ensures.faults c.into_copies_in.ensures.cut (refused_from header regions old new cut copies now back grid grid' grid' c.in-Err.fault c.in-Err.ensures.filled)

pub returns-clause-back : goal.returns-clause-back
returns-clause-back g c =
    subst (CopiesGo KeepsPiece (store_copies g.P.LocalPiece.seen c.args.cut.store)) (sym c.into_copies_in.ensures.copies) (store_goes KeepsPiece piece_same c.args.cut.store c.fill_store.new.store c.fill_store.ensures.goes)

pub returns-clause-narrowed : goal.returns-clause-narrowed
returns-clause-narrowed g c =
    subst (λ (copies : List (List Seen)). AllTell (store_copies g.P.LocalPiece.seen c.args.cut.store) → AreNarrowed (header_of c.args.cut.store.base.shape) c.args.cut.store.base.shape.regions (store_copies g.P.LocalPiece.seen c.args.cut.store) copies)
    (sym c.into_copies_in.ensures.copies) c.fill_store.ensures.narrowed
