use Rattle.std.proofs.Common.{arith, refl, sym, ap, subst, ◌∙◌, ◌-◌, ◌<◌, ◌≤◌, ◌/◌, ◌∷◌, [], Bool, List, length, vec_capacity}
use Rattle.std.specs.Option.{option_map}
use Rattle.std.proofs.lemmas.List.{length-map}
use Rattle.vx_mapfmt.specs.Sizes.{page_count}
use Rattle.vx_mapfmt.proofs.SizeLemmas.{page_fits}
use Rattle.vx_piece.specs.Seen.{Seen}
use Rattle.vx_pages.specs.Page.{sectors_seen}
use Rattle.vx_pages.specs.Pages.{grid_seen, page_seen}
use Rattle.vx_pages.specs.Sector.{SectorSeen}
use Rattle.vx_maps.specs.Parting.{slots_on}
use Rattle.vx_maps.specs.Sheets.{sheets_seen}
use Rattle.vx_maps.specs.Slots.{ArePairedRows, IsHoled, IsLaidOn, filled, slots_seen}
use Rattle.vx_maps.specs.Store.{pages_seen}
use Rattle.vx_maps.proofs.OnlyCopies.{claims_only, cut_only, faults_gone, faults_only, one_copy, told_only}
use Rattle.vx_maps.proofs.OnlyPieces.{all_out, copy_is, filled_now, holed_on, laid_alone, laid_on, room_for, room_kept, two_second}
use Rattle.vx_maps.proofs.PageRows.{pages_goes, same_size, seen_size}
use Rattle.vx_maps.proofs.Rows.{laid_holed, pairs_of, rows_of}
use Rattle.vx_maps.proofs.StoreChanges.{size_seen}
use Rattle.vx_maps.proofs.Together.{full_of}
use Rattle.vx_maps.proofs.store.MapStore.give_up.Goals as goal

pub part_pages-requires-clause-pairs : goal.part_pages-requires-clause-pairs
part_pages-requires-clause-pairs g c =
    let two = two_second (pages_seen g.P.LocalPiece.seen c.args.self.pages.items) (sheets_seen g.P.LocalPiece.seen c.args.self.base.sheets) c.args.self.copied c.requires.two in
    subst (λ (b : Bool). ArePairedRows b (grid_seen g.P.LocalPiece.seen c.args.self.pages.items)) two.0 (pairs_of c.args.self.pages.items (sheets_seen g.P.LocalPiece.seen c.args.self.base.sheets) c.args.self.copied)

pub part_pages-requires-clause-holed : goal.part_pages-requires-clause-holed
part_pages-requires-clause-holed g c =
    let two = two_second (pages_seen g.P.LocalPiece.seen c.args.self.pages.items) (sheets_seen g.P.LocalPiece.seen c.args.self.base.sheets) c.args.self.copied c.requires.two in
    let size = length-map c.args.self.pages.items (λ page. sectors_seen g.P.LocalPiece.seen page.sectors.items) in
    subst (IsHoled (c.args.self.base.shape.map_bytes / 512) (grid_seen g.P.LocalPiece.seen c.args.self.pages.items)) (sym c.split_sheets-first.ensures.gone)
    (holed_on (c.args.self.base.shape.map_bytes / 512) (grid_seen g.P.LocalPiece.seen c.args.self.pages.items) (sheets_seen g.P.LocalPiece.seen c.args.self.base.sheets) c.args.copy two.0
    (laid_holed _ _ _ (sheets_seen g.P.LocalPiece.seen c.args.self.base.sheets) c.args.self.base.laid (λ i lt. rows_of c.args.self.pages.items i (omega (arith, size, lt)))
    (size ∙ sym (size_seen (page_seen g.P.LocalPiece.seen) c.args.self.pages.items) ∙ c.args.self.paged.count)))

pub part_pages-requires-clause-room : goal.part_pages-requires-clause-room
part_pages-requires-clause-room g c =
    let two = two_second (pages_seen g.P.LocalPiece.seen c.args.self.pages.items) (sheets_seen g.P.LocalPiece.seen c.args.self.base.sheets) c.args.self.copied c.requires.two in
    let size = length-map c.args.self.pages.items (λ page. sectors_seen g.P.LocalPiece.seen page.sectors.items) in
    let holed =
    holed_on (c.args.self.base.shape.map_bytes / 512) (grid_seen g.P.LocalPiece.seen c.args.self.pages.items) (sheets_seen g.P.LocalPiece.seen c.args.self.base.sheets) c.args.copy two.0
    (laid_holed (c.args.self.base.shape.map_bytes / 512) (page_count c.args.self.base.shape.regions) (grid_seen g.P.LocalPiece.seen c.args.self.pages.items) (sheets_seen g.P.LocalPiece.seen c.args.self.base.sheets) c.args.self.base.laid
    (λ i lt. rows_of c.args.self.pages.items i (omega (arith, size, lt))) (size ∙ sym (size_seen (page_seen g.P.LocalPiece.seen) c.args.self.pages.items) ∙ c.args.self.paged.count)) in
    let some : 0 < page_count c.args.self.base.shape.regions = let n = c.args.self.paged.count in let m = two.1 in omega (arith, n, m) in
    let is =
    copy_is (c.args.self.base.shape.map_bytes / 512) (grid_seen g.P.LocalPiece.seen c.args.self.pages.items) (sheets_seen g.P.LocalPiece.seen c.args.self.base.sheets) c.args.copy c.requires.some two.0 in
    room_for (c.args.self.base.shape.map_bytes / 512) c.args.copy (grid_seen g.P.LocalPiece.seen c.args.self.pages.items) (slots_on (sheets_seen g.P.LocalPiece.seen c.args.self.base.sheets) c.args.copy) (vec_capacity c.args.room) holed
    (let f = page_fits c.args.self.base.shape.regions c.args.self.base.shape.map_bytes 0 c.args.self.base.shape.map_sized some in omega (arith, f))
    (subst (λ (ps : List Seen). length ps ≤ vec_capacity c.args.room) is c.requires.room.1)

pub invariant_of-base : goal.invariant_of-base
invariant_of-base g c =
    let two = two_second (pages_seen g.P.LocalPiece.seen c.args.self.pages.items) (sheets_seen g.P.LocalPiece.seen c.args.self.base.sheets) c.args.self.copied c.requires.two in
    record {
      laid =
          laid_alone (c.args.self.base.shape.map_bytes / 512) (page_count c.args.self.base.shape.regions) (slots_seen g.P.LocalPiece.seen c.split_sheets-first.result.0.items)
          (subst (IsLaidOn (c.args.self.base.shape.map_bytes / 512) (page_count c.args.self.base.shape.regions)) (sym c.split_sheets-first.ensures.kept)
          (laid_on _ _ (sheets_seen g.P.LocalPiece.seen c.args.self.base.sheets) (1 - c.args.copy) two.0 c.args.self.base.laid));
    }

pub invariant_of-store : goal.invariant_of-store
invariant_of-store g c =
    record {
      paged = pages_goes _ c.args.self.pages.items c.part_pages.new.pages.items c.part_pages.ensures.places c.args.self.paged;
      copied = one_copy (1 - c.args.copy) c.args.self.pages.items c.part_pages.new.pages.items c.part_pages.ensures.places c.part_pages.ensures.left;
    }

pub take_out-requires-clause-full : goal.take_out-requires-clause-full
take_out-requires-clause-full g c = full_of (c.args.self.base.shape.map_bytes / 512) c.args.copy _ (slots_seen g.P.LocalPiece.seen c.part_pages.new.slots.items) c.part_pages.ensures.cut

pub take_out-requires-clause-room : goal.take_out-requires-clause-room
take_out-requires-clause-room g c =
    let two = two_second (pages_seen g.P.LocalPiece.seen c.args.self.pages.items) (sheets_seen g.P.LocalPiece.seen c.args.self.base.sheets) c.args.self.copied c.requires.two in
    let is =
    copy_is (c.args.self.base.shape.map_bytes / 512) (grid_seen g.P.LocalPiece.seen c.args.self.pages.items) (sheets_seen g.P.LocalPiece.seen c.args.self.base.sheets) c.args.copy c.requires.some two.0
    ∙ ap (filled (c.args.self.base.shape.map_bytes / 512) c.args.copy (grid_seen g.P.LocalPiece.seen c.args.self.pages.items) 0) (sym c.split_sheets-first.ensures.gone) in
    let e =
    room_kept (c.args.self.base.shape.map_bytes / 512) c.args.copy (grid_seen g.P.LocalPiece.seen c.args.self.pages.items) (slots_seen g.P.LocalPiece.seen c.split_sheets-first.result.1.items)
    (slots_seen g.P.LocalPiece.seen c.part_pages.new.slots.items) (vec_capacity c.args.room) c.part_pages.ensures.cut (subst (λ (ps : List Seen). length ps ≤ vec_capacity c.args.room) is c.requires.room.1) in
    let size = length-map c.part_pages.new.slots.items (option_map g.P.LocalPiece.seen) in
    omega (arith, e, size, c.part_pages.ensures.capacity, c.part_pages.new.slots.ok.0)

pub returns-clause-gives : goal.returns-clause-gives
returns-clause-gives g c =
    let two = two_second (pages_seen g.P.LocalPiece.seen c.args.self.pages.items) (sheets_seen g.P.LocalPiece.seen c.args.self.base.sheets) c.args.self.copied c.requires.two in
    let some : 0 < length (pages_seen g.P.LocalPiece.seen c.part_pages.new.pages.items) =
    let a = seen_size c.args.self.pages.items in let b = seen_size c.part_pages.new.pages.items in let e = same_size c.args.self.pages.items c.part_pages.new.pages.items c.part_pages.ensures.places in let m = two.1 in omega (arith, a, b, e, m) in
    record {
      there = refl;
      has_region = refl;
      maps = refl;
      lent = refl;
      two = c.requires.two;
      copies = one_copy (1 - c.args.copy) c.args.self.pages.items c.part_pages.new.pages.items c.part_pages.ensures.places c.part_pages.ensures.left 0 some;
      claims = claims_only (1 - c.args.copy) c.args.self.pages.items c.part_pages.new.pages.items c.part_pages.ensures.places c.part_pages.ensures.left c.args.self.base.shape.regions;
      told = told_only (1 - c.args.copy) c.args.self.pages.items c.part_pages.new.pages.items c.part_pages.ensures.places c.part_pages.ensures.left c.args.self.base.shape.regions;
      faults =
          faults_only (1 - c.args.copy) c.args.self.pages.items c.part_pages.new.pages.items c.part_pages.ensures.left (omega arith)
          (subst (λ (b : Bool). ArePairedRows b (grid_seen g.P.LocalPiece.seen c.args.self.pages.items)) two.0 (pairs_of c.args.self.pages.items (sheets_seen g.P.LocalPiece.seen c.args.self.base.sheets) c.args.self.copied));
      gone = faults_gone (1 - c.args.copy) c.args.self.pages.items c.part_pages.new.pages.items c.part_pages.ensures.left;
      cut = cut_only (1 - c.args.copy) c.args.self.pages.items c.part_pages.new.pages.items c.part_pages.ensures.left;
    }

pub returns-clause-gone : goal.returns-clause-gone
returns-clause-gone g c =
    let two = two_second (pages_seen g.P.LocalPiece.seen c.args.self.pages.items) (sheets_seen g.P.LocalPiece.seen c.args.self.base.sheets) c.args.self.copied c.requires.two in
    c.take_out.ensures
    ∙ all_out (c.args.self.base.shape.map_bytes / 512) c.args.copy (grid_seen g.P.LocalPiece.seen c.args.self.pages.items) (slots_seen g.P.LocalPiece.seen c.split_sheets-first.result.1.items) (slots_seen g.P.LocalPiece.seen c.part_pages.new.slots.items)
    c.part_pages.ensures.cut
    ∙ ap (filled (c.args.self.base.shape.map_bytes / 512) c.args.copy (grid_seen g.P.LocalPiece.seen c.args.self.pages.items) 0) c.split_sheets-first.ensures.gone
    ∙ sym (copy_is (c.args.self.base.shape.map_bytes / 512) (grid_seen g.P.LocalPiece.seen c.args.self.pages.items) (sheets_seen g.P.LocalPiece.seen c.args.self.base.sheets) c.args.copy c.requires.some two.0)

pub returns-clause-left : goal.returns-clause-left
returns-clause-left g c =
    let two = two_second (pages_seen g.P.LocalPiece.seen c.args.self.pages.items) (sheets_seen g.P.LocalPiece.seen c.args.self.base.sheets) c.args.self.copied c.requires.two in
    ap (λ (grid : List (List SectorSeen)). filled (c.args.self.base.shape.map_bytes / 512) 0 grid 0 (slots_seen g.P.LocalPiece.seen c.split_sheets-first.result.0.items) ∷ []) c.part_pages.ensures.left
    ∙ ap (λ (ps : List Seen). ps ∷ [])
    (filled_now (1 - c.args.copy) (c.args.self.base.shape.map_bytes / 512) (grid_seen g.P.LocalPiece.seen c.args.self.pages.items) 0 (slots_seen g.P.LocalPiece.seen c.split_sheets-first.result.0.items)
    ∙ ap (filled (c.args.self.base.shape.map_bytes / 512) (1 - c.args.copy) (grid_seen g.P.LocalPiece.seen c.args.self.pages.items) 0) c.split_sheets-first.ensures.kept
    ∙ sym (copy_is (c.args.self.base.shape.map_bytes / 512) (grid_seen g.P.LocalPiece.seen c.args.self.pages.items) (sheets_seen g.P.LocalPiece.seen c.args.self.base.sheets) (1 - c.args.copy) (omega arith) two.0))
