-- A volume lies where its form says, from its opening on.
use Rattle.std.proofs.Common.{◌≡◌, ℕ, zero, suc, ◌+◌, ◌-◌, ◌*◌, ◌<◌, Bool, min, List, [], ◌∷◌, length, map, refl, sym, ap, ◌∙◌, subst, arith}
use Rattle.std.specs.Prelude.{slice_index_or}
use Rattle.std.proofs.lemmas.List.{length-map}
use Rattle.vx_piece.specs.Seen.{Seen}
use Rattle.vx_runs.specs.Run.{EachPiece, run_sectors}
use Rattle.vx_marks.specs.Log.{LogSeen}
use Rattle.vx_core.specs.declared.stage.Stage.{Stage}
use Rattle.vx_pages.specs.Sector.{KeepsPiece}
use Rattle.vx_maps.specs.Copies.{SameRuns}
use Rattle.vx_maps.specs.Going.{CopiesGo}
use Rattle.vx_maps.specs.Loading.{copy_at}
use Rattle.vx_maps.proofs.Claims.{same_at, same_count}
use Rattle.vx_maps.proofs.CopyLaws.{copies_count, copy_goes}
use Rattle.vx_layout.specs.declared.layout.Layout.{Layout}
use Rattle.vx_layout.specs.declared.run.Run.{Run}
use Rattle.vx_layout.specs.declared.strip.Strip.{Strip}
use Rattle.vx_carve.specs.Carved.{AreCut, ArePieces}
use Rattle.vx_cell.specs.Changes.{CellSeen}
use Rattle.vx_cell.specs.Plexes.{PlexSeen}
use Rattle.vx_volume.specs.declared.volume.VolumeShape.{VolumeShape}
use Rattle.vx_core.specs.Follow.{SameMasks}
use Rattle.vx_volume.specs.Opening.{count_of}
use Rattle.vx_volume.specs.Volume.{cell_at}
use Rattle.vx_lending.specs.RegionPieces.{own_pieces}
use Rattle.vx_lending.specs.RegionsTaken.{IsTakenRegion, own_map}
use Rattle.vx_lending.specs.Left.{region_plexes}
use Rattle.vx_lending.specs.Taken.{log_sectors}
use Rattle.vx_volume_laws.proofs.OpenedImages.{same_item, some_of}
use Rattle.vx_volume_laws.specs.Places.{IsSamePlace, LieOnLogs, spot_at}
use Rattle.vx_volume_laws.specs.Lying.{HasMasksOf, IsLogOver}
use Rattle.vx_volume_laws.specs.Calls.{EachKeptVolumeLies, EachOpenedVolumeLies, StayPlexes}
use Rattle.vx_volume_laws.proofs.Plexes.{plexes_at}
use Rattle.vx_volume_laws.proofs.Stays.{copies_weaker, place_kept, run_long, stay_cover, stay_differ, stay_holds}
use Rattle.vx_volume_laws.proofs.Spots.{cut_lies, cut_long, kept_lies, same_lies}

-- ---- kept plexes

pieces_kept : (numbers : List ℕ) (runs : List Run) (ps qs : List Seen) → EachPiece IsSamePlace ps qs → ArePieces numbers runs ps → ArePieces numbers runs qs
pieces_kept numbers [] [] [] kept are = tt
pieces_kept numbers [] [] (q ∷ qs) kept are = absurd kept
pieces_kept numbers [] (p ∷ ps) qs kept are = absurd are
pieces_kept numbers (run ∷ runs) [] qs kept are = absurd are
pieces_kept numbers (run ∷ runs) (p ∷ ps) [] kept are = absurd kept
pieces_kept numbers (run ∷ runs) (p ∷ ps) (q ∷ qs) kept are = (
  record { device_is = kept.0.device ∙ are.0.device_is; start_is = kept.0.start ∙ are.0.start_is; count_is = kept.0.sectors ∙ are.0.count_is },
  pieces_kept numbers runs ps qs kept.1 are.1,
)

cut_kept : (numbers : List ℕ) (unit : ℕ) (columns : List (List Strip)) (start end : ℕ) (ps qs : List Seen) → EachPiece IsSamePlace ps qs → AreCut numbers unit columns start end ps → AreCut numbers unit columns start end qs
cut_kept numbers unit columns start end ps qs kept cut = record { runs = cut.runs; are_runs = cut.are_runs; pieces = pieces_kept numbers cut.runs ps qs kept cut.pieces }

maps_kept : (ps qs : List PlexSeen) → StayPlexes ps qs → map own_map qs ≡ map own_map ps
maps_kept [] [] kept = refl
maps_kept [] (q ∷ qs) kept = absurd kept
maps_kept (p ∷ ps) [] kept = absurd kept
maps_kept (p ∷ ps) (q ∷ qs) kept = ap (λ (m : ℕ). m ∷ map own_map qs) kept.0.same_map ∙ ap (λ ms. p.map ∷ ms) (maps_kept ps qs kept.1)

own_kept : (ps qs : List PlexSeen) (k : ℕ) → StayPlexes ps qs → EachPiece IsSamePlace (slice_index_or (map own_pieces ps) k []) (slice_index_or (map own_pieces qs) k [])
own_kept [] [] k kept = tt
own_kept [] (q ∷ qs) k kept = absurd kept
own_kept (p ∷ ps) [] k kept = absurd kept
own_kept (p ∷ ps) (q ∷ qs) zero kept = kept.0.pieces
own_kept (p ∷ ps) (q ∷ qs) (suc k) kept = own_kept ps qs k kept.1

region_kept : (numbers maps : List ℕ) (layouts : List Layout) (start count : ℕ) (ps qs : List PlexSeen) → StayPlexes ps qs → IsTakenRegion numbers maps layouts start count ps → IsTakenRegion numbers maps layouts start count qs
region_kept numbers maps layouts start count ps qs kept taken =
    record {
      maps_are = maps_kept ps qs kept ∙ taken.maps_are;
      cut = λ k d lt. cut_kept numbers (slice_index_or layouts k d).unit (slice_index_or layouts k d).columns start (start + count) (slice_index_or (map own_pieces ps) k []) (slice_index_or (map own_pieces qs) k []) (own_kept ps qs k kept) (taken.cut k d lt);
      cover = stay_cover count ps qs kept taken.cover;
      held = λ k. stay_holds ps qs kept k ∙ taken.held k;
      differ = stay_differ ps qs kept taken.differ;
    }

-- ---- copies

copy_goes_at : (xs ys : List (List Seen)) (n : ℕ) → CopiesGo IsSamePlace xs ys → EachPiece IsSamePlace (slice_index_or xs n []) (slice_index_or ys n [])
copy_goes_at xs ys n goes =
    subst (λ (x : List Seen). EachPiece IsSamePlace x (slice_index_or ys n [])) (same_item [] xs n) (subst (λ (y : List Seen). EachPiece IsSamePlace (copy_at xs n) y) (same_item [] ys n) (copy_goes IsSamePlace xs ys n goes))

logs_kept : (numbers : List ℕ) (layouts : List Layout) (count : ℕ) (xs ys : List (List Seen)) → CopiesGo IsSamePlace xs ys → LieOnLogs numbers layouts count xs → LieOnLogs numbers layouts count ys
logs_kept numbers layouts count xs ys goes on =
    record {
      long = copies_count IsSamePlace xs ys goes ∙ on.long;
      sectors = λ k lt. run_long (slice_index_or xs k []) (slice_index_or ys k []) (copy_goes_at xs ys k goes) ∙ on.sectors k lt;
      each = λ k d lt i low. kept_lies (slice_index_or xs k []) (slice_index_or ys k []) (copy_goes_at xs ys k goes) i ∙ on.each k d lt i low;
    }

logs_same : (numbers : List ℕ) (layouts : List Layout) (count : ℕ) (xs ys : List (List Seen)) → SameRuns xs ys → LieOnLogs numbers layouts count xs → LieOnLogs numbers layouts count ys
logs_same numbers layouts count xs ys same on =
    record {
      long = same_count xs ys same ∙ on.long;
      sectors = λ k lt. ap run_sectors (sym (same_item [] ys k)) ∙ (same_at xs ys k same).sectors ∙ ap run_sectors (same_item [] xs k) ∙ on.sectors k lt;
      each = λ k d lt i low.
          ap (λ (x : List Seen). spot_at x i) (sym (same_item [] ys k)) ∙ same_lies (copy_at xs k) (copy_at ys k) (same_at xs ys k same) i ∙ ap (λ (x : List Seen). spot_at x i) (same_item [] xs k) ∙ on.each k d lt i low;
    }

-- ---- the volume

masks_kept : (shape : VolumeShape) (logged logged' : Bool) (s t : Stage) → SameMasks s t → logged' ≡ logged → HasMasksOf shape logged s → HasMasksOf shape logged' t
masks_kept shape logged logged' s t same there has = record { on = same.0 ∙ has.on; off = same.1 ∙ has.off; snaps = same.2 ∙ has.snaps; logged_is = same.3 ∙ has.logged_is ∙ sym there }

cells_long : (cells : List CellSeen) → length (region_plexes cells) ≡ length cells
cells_long cells = length-map cells (λ (cell : CellSeen). cell.plexes)

pub kept_volume_lies : EachKeptVolumeLies
kept_volume_lies numbers form old new copies copies' lies kept goes log =
    record {
      length_is = kept.length_is ∙ lies.length_is;
      region_is = kept.region_is ∙ lies.region_is;
      regions = λ r lt.
          let a = cells_long new.cells in
          let b = cells_long old.cells in
          let count = kept.count in
          let size = form.shape.geometry.region in
          let blocks = form.shape.geometry.length in
          let was : r < length old.cells = omega (arith, lt, a, count) in
          let plexes : StayPlexes (slice_index_or (region_plexes old.cells) r []) (slice_index_or (region_plexes new.cells) r []) =
          subst (λ (x : List PlexSeen). StayPlexes x (slice_index_or (region_plexes new.cells) r [])) (sym (plexes_at old.cells r)) (subst (λ (x : List PlexSeen). StayPlexes (cell_at old r).plexes x) (sym (plexes_at new.cells r)) (kept.plexes r was)) in
          region_kept numbers form.maps.items form.layouts.items (r * size) (min size (blocks - r * size)) (slice_index_or (region_plexes old.cells) r []) (slice_index_or (region_plexes new.cells) r []) plexes (lies.regions r (omega (arith, was, b)));
      masks = λ r lt.
          let count = kept.count in
          let was : r < length old.cells = omega (arith, lt, count) in
          masks_kept form.shape old.log.there new.log.there (cell_at old r).stage (cell_at new r).stage (kept.masks r was) kept.there (lies.masks r was);
      logs = logs_kept numbers form.logs.items _ copies copies' goes lies.logs;
      log = log;
    }

pub opened_volume_lies : EachOpenedVolumeLies
opened_volume_lies numbers form regions long taken_regions taken copies taken_copies cut log over v opened =
    record {
      length_is = opened.length_is;
      region_is = opened.region_is;
      regions = λ r lt.
          let a = cells_long v.cells in
          let count = opened.cells.count in
          let inside : r < length regions = omega (arith, lt, a, count) in
          let same : slice_index_or (region_plexes v.cells) r [] ≡ slice_index_or regions r [] =
          plexes_at v.cells r ∙ ap (λ (cell : CellSeen). cell.plexes) (opened.cells.each r inside).is ∙ same_item [] regions r in
          subst (λ (ps : List PlexSeen). IsTakenRegion numbers form.maps.items form.layouts.items (r * form.shape.geometry.region) (min form.shape.geometry.region (form.shape.geometry.length - r * form.shape.geometry.region)) ps) (sym same) (taken_regions r inside);
      masks = λ r lt.
          let count = opened.cells.count in
          let cell = (opened.cells.each r (omega (arith, lt, count))).is in
          let there = ap (λ (l : LogSeen). l.there) opened.log_is in
          record {
            on = ap (λ (x : CellSeen). x.stage.on) cell;
            off = ap (λ (x : CellSeen). x.stage.off) cell;
            snaps = ap (λ (x : CellSeen). x.stage.snaps) cell;
            logged_is = ap (λ (x : CellSeen). x.stage.logged) cell ∙ sym there;
          };
      logs = logs_kept numbers form.logs.items (log_sectors form.shape.geometry) cut.cut copies (copies_weaker KeepsPiece IsSamePlace (λ p q h. place_kept p q h.kept) cut.cut copies cut.goes)
          (logs_same numbers form.logs.items (log_sectors form.shape.geometry) taken cut.cut cut.same
          (record { long = taken_copies.long; sectors = λ k lt. let d = some_of form.logs.items k lt in let long = cut_long numbers (slice_index_or form.logs.items k d).unit (slice_index_or form.logs.items k d).columns 0 (log_sectors form.shape.geometry) (slice_index_or taken k []) (taken_copies.cut k d lt) in omega (arith, long); each = λ k d lt. cut_lies numbers (slice_index_or form.logs.items k d).unit (slice_index_or form.logs.items k d).columns 0 _ (slice_index_or taken k []) (taken_copies.cut k d lt) }));
      log = subst (λ (l : LogSeen). IsLogOver l (count_of form.shape) copies) (sym opened.log_is) over;
    }
