-- The regions of a volume that a plex has left: each has the others as they were taken, and the volume lies where its new form says.
use Rattle.std.proofs.Common.{◌≡◌, ℕ, zero, suc, ◌+◌, ◌-◌, ◌*◌, ◌<◌, min, Bool, true, false, List, [], ◌∷◌, length, map, refl, sym, ◌∙◌, ap, subst, arith}
use Rattle.std.specs.Prelude.{◌==◌, if◌then◌else◌, slice_index_or}
use Rattle.std.proofs.lemmas.List.{length-map}
use Rattle.vx_block.specs.declared.geometry.Geometry.{Geometry}
use Rattle.vx_mask.specs.Mask.{only, without}
use Rattle.vx_mask.proofs.Tests.{or_neither, or_none}
use Rattle.vx_core.specs.declared.stage.Stage.{Stage}
use Rattle.vx_core.specs.Plexes.{take_out}
use Rattle.vx_piece.specs.Seen.{Seen}
use Rattle.vx_layout.specs.declared.layout.Layout.{Layout}
use Rattle.vx_carve.specs.Carved.{AreCut}
use Rattle.vx_cell.specs.Changes.{CellSeen}
use Rattle.vx_cell.specs.Parting.{without_plex}
use Rattle.vx_cell.specs.Plexes.{AllCover, MapsDiffer, PlexSeen, holds}
use Rattle.vx_volume.specs.declared.volume.VolumeShape.{VolumeShape}
use Rattle.vx_volume.specs.Opening.{count_of}
use Rattle.vx_volume.specs.Parting.{LosesPlexes, shape_without}
use Rattle.vx_volume.specs.Volume.{VolumeSeen, cell_at}
use Rattle.vx_lending.specs.RegionPieces.{own_pieces}
use Rattle.vx_lending.specs.RegionsTaken.{AreTakenRegions, IsTakenRegion, is_among, own_map}
use Rattle.vx_lending.specs.declared.form.VolumeForm.{VolumeForm}
use Rattle.vx_lending.specs.Left.{region_plexes}
use Rattle.vx_lending.specs.Taken.{log_sectors}
use Rattle.vx_volume_laws.specs.Lying.{HasMasksOf, IsLogOver, LiesAs}
use Rattle.vx_volume_laws.specs.Places.{LieOnLogs}
use Rattle.vx_volume_laws.proofs.Plexes.{plexes_at}
use Rattle.vx_joined_volumes.specs.Parted.{IsFormParted, without_map}
use Rattle.vx_joined_volumes.proofs.Regions.{holds_among}

-- ---- the plexes of a region

-- what is seen of the plexes, without that of the map
seen_without : {B : Type 0} (m : ℕ) (f : PlexSeen → B) (ps : List PlexSeen) → map f (without_plex m ps) ≡ without_map m (map own_map ps) (map f ps)
seen_without m f [] = refl
seen_without m f (p ∷ ps) = by (p.map == m) (seen_without m f ps)
  where
    by : (b : Bool) → map f (without_plex m ps) ≡ without_map m (map own_map ps) (map f ps) → map f (if b then ps else p ∷ without_plex m ps) ≡ (if b then map f ps else f p ∷ without_map m (map own_map ps) (map f ps))
    by true e = refl
    by false e = ap (λ ys. f p ∷ ys) e

cover_without : (m size : ℕ) (ps : List PlexSeen) → AllCover size ps → AllCover size (without_plex m ps)
cover_without m size [] all = all
cover_without m size (p ∷ ps) all = by (p.map == m) (cover_without m size ps all.1)
  where
    by : (b : Bool) → AllCover size (without_plex m ps) → AllCover size (if b then ps else p ∷ without_plex m ps)
    by true rest = all.1
    by false rest = (all.0, rest)

none_without : (m k : ℕ) (ps : List PlexSeen) → holds ps k ≡ false → holds (without_plex m ps) k ≡ false
none_without m k [] none = none
none_without m k (p ∷ ps) none = let parts = or_neither (p.map == k) (holds ps k) none in by parts.0 parts.1 (p.map == m) (none_without m k ps parts.1)
  where
    by : (p.map == k) ≡ false → holds ps k ≡ false → (b : Bool) → holds (without_plex m ps) k ≡ false → holds (if b then ps else p ∷ without_plex m ps) k ≡ false
    by first later true rest = later
    by first later false rest = or_none (p.map == k) (holds (without_plex m ps) k) first rest

differ_without : (m : ℕ) (ps : List PlexSeen) → MapsDiffer ps → MapsDiffer (without_plex m ps)
differ_without m [] differ = differ
differ_without m (p ∷ ps) differ = by (p.map == m) (differ_without m ps differ.1)
  where
    by : (b : Bool) → MapsDiffer (without_plex m ps) → MapsDiffer (if b then ps else p ∷ without_plex m ps)
    by true rest = differ.1
    by false rest = (none_without m p.map ps differ.0, rest)

-- what goes together place by place does so without what goes with the map
each_without : {A B : Type 0} (R : A → B → Type 0) (e : B) (m : ℕ) (ks : List ℕ) (xs : List A) (ys : List B) → length ks ≡ length xs → length ys ≡ length xs →
    ((k : ℕ) (d : A) → k < length xs → R (slice_index_or xs k d) (slice_index_or ys k e)) → (k : ℕ) (d : A) → k < length (without_map m ks xs) → R (slice_index_or (without_map m ks xs) k d) (slice_index_or (without_map m ks ys) k e)
each_without R e m [] xs ys many long each k d lt = each k d lt
each_without R e m (n ∷ ks) [] ys many long each k d lt = absurd (omega (arith, many))
each_without R e m (n ∷ ks) (x ∷ xs) [] many long each k d lt = absurd (omega (arith, long))
each_without R e m (n ∷ ks) (x ∷ xs) (y ∷ ys) many long each k d lt =
    by (n == m) (λ j less. each_without R e m ks xs ys (omega (arith, many)) (omega (arith, long)) (λ i f at. each (suc i) f (omega (arith, at))) j d less) k lt
  where
    by : (b : Bool) → ((j : ℕ) → j < length (without_map m ks xs) → R (slice_index_or (without_map m ks xs) j d) (slice_index_or (without_map m ks ys) j e)) → (k : ℕ) → k < length (if b then xs else x ∷ without_map m ks xs) →
        R (slice_index_or (if b then xs else x ∷ without_map m ks xs) k d) (slice_index_or (if b then ys else y ∷ without_map m ks ys) k e)
    by true rest k less = each (suc k) d (omega (arith, less))
    by false rest zero less = each zero d (omega arith)
    by false rest (suc k) less = rest k (omega (arith, less))

module _ (numbers maps : List ℕ) (layouts : List Layout) (m start count : ℕ) (ps : List PlexSeen) (long : length maps ≡ length layouts) (was : IsTakenRegion numbers maps layouts start count ps) where
  maps_left : map own_map (without_plex m ps) ≡ without_map m maps maps
  maps_left = seen_without m own_map ps ∙ ap (λ ks. without_map m ks ks) was.maps_are

  pieces_left : map own_pieces (without_plex m ps) ≡ without_map m maps (map own_pieces ps)
  pieces_left = seen_without m own_pieces ps ∙ ap (λ ks. without_map m ks (map own_pieces ps)) was.maps_are

  as_many : length (map own_pieces ps) ≡ length layouts
  as_many = let own = length-map ps own_pieces in let maps_long = length-map ps own_map in let many = ap length was.maps_are in omega (arith, own, maps_long, many, long)

  abbrev IsCutAt : Layout → List Seen → Type 0
  IsCutAt l run = AreCut numbers l.unit l.columns start (start + count) run

  cut_left : (k : ℕ) (d : Layout) → k < length (without_map m maps layouts) → IsCutAt (slice_index_or (without_map m maps layouts) k d) (slice_index_or (map own_pieces (without_plex m ps)) k [])
  cut_left k d lt =
      subst (λ (runs : List (List Seen)). IsCutAt (slice_index_or (without_map m maps layouts) k d) (slice_index_or runs k [])) (sym pieces_left)
      (each_without IsCutAt [] m maps layouts (map own_pieces ps) long as_many (λ j e at. was.cut j e at) k d lt)

  taken_without : IsTakenRegion numbers (without_map m maps maps) (without_map m maps layouts) start count (without_plex m ps)
  taken_without = record {
    maps_are = maps_left;
    cut = cut_left;
    cover = cover_without m count ps was.cover;
    held = λ k. holds_among (without_plex m ps) k ∙ ap (λ ks. is_among k ks) maps_left;
    differ = differ_without m ps was.differ;
  }

-- ---- the volume

masks_without : (shape : VolumeShape) (logged : Bool) (s : Stage) (m : ℕ) → HasMasksOf shape logged s → HasMasksOf (shape_without shape m) logged (take_out s m)
masks_without shape logged s m had = record { on = ap (λ n. without n (only m)) had.on; off = ap (λ n. without n (only m)) had.off; snaps = had.snaps; logged_is = had.logged_is }

module _ (numbers : List ℕ) (form form' : VolumeForm) (m : ℕ) (is : IsFormParted m form form') (old new : VolumeSeen) (copies : List (List Seen)) (lies : LiesAs numbers form old copies) (loses : LosesPlexes m old new)
    (long : length form.maps.items ≡ length form.layouts.items) where
  geometry_same : form'.shape.geometry ≡ form.shape.geometry
  geometry_same = ap (λ (s : VolumeShape). s.geometry) is.shape

  inside : (r : ℕ) → r < length new.cells → r < length old.cells
  inside r lt = subst (λ (n : ℕ). r < n) loses.cells.size lt

  plexes_left : (r : ℕ) → r < length old.cells → slice_index_or (region_plexes new.cells) r [] ≡ without_plex m (slice_index_or (region_plexes old.cells) r [])
  plexes_left r lt = plexes_at new.cells r ∙ ap (λ (x : CellSeen). x.plexes) (loses.cells.each r lt) ∙ ap (λ ps. without_plex m ps) (sym (plexes_at old.cells r))

  regions_left : AreTakenRegions numbers (without_map m form.maps.items form.maps.items) (without_map m form.maps.items form.layouts.items) form.shape.geometry.length form.shape.geometry.region (region_plexes new.cells)
  regions_left r lt =
      let start = r * form.shape.geometry.region in
      let size = min form.shape.geometry.region (form.shape.geometry.length - r * form.shape.geometry.region) in
      let a = length-map new.cells (λ (cell : CellSeen). cell.plexes) in
      let b = length-map old.cells (λ (cell : CellSeen). cell.plexes) in
      let same = loses.cells.size in
      let at : r < length old.cells = omega (arith, lt, a, same) in
      subst (λ (ps : List PlexSeen). IsTakenRegion numbers (without_map m form.maps.items form.maps.items) (without_map m form.maps.items form.layouts.items) (r * form.shape.geometry.region) (min form.shape.geometry.region (form.shape.geometry.length - r * form.shape.geometry.region)) ps)
      (sym (plexes_left r at)) (taken_without numbers form.maps.items form.layouts.items m start size (slice_index_or (region_plexes old.cells) r []) long (lies.regions r (omega (arith, at, b))))

  masks_left : (r : ℕ) → r < length new.cells → HasMasksOf form'.shape new.log.there (cell_at new r).stage
  masks_left r lt =
      let at = inside r lt in
      let logged : new.log.there ≡ old.log.there = ap (λ (w : VolumeSeen). w.log.there) loses.same in
      subst (λ (s : VolumeShape). HasMasksOf s new.log.there (cell_at new r).stage) (sym is.shape)
      (subst (λ (b : Bool). HasMasksOf (shape_without form.shape m) b (cell_at new r).stage) (sym logged)
      (subst (λ (x : CellSeen). HasMasksOf (shape_without form.shape m) old.log.there x.stage) (sym (loses.cells.each r at))
      (masks_without form.shape old.log.there (cell_at old r).stage m (lies.masks r at))))

  pub lies_parted : LiesAs numbers form' new copies
  lies_parted = record {
    length_is = ap (λ (w : VolumeSeen). w.length) loses.same ∙ lies.length_is ∙ sym (ap (λ (g : Geometry). g.length) geometry_same);
    region_is = ap (λ (w : VolumeSeen). w.region) loses.same ∙ lies.region_is ∙ sym (ap (λ (g : Geometry). g.region) geometry_same);
    regions = subst (λ (ms : List ℕ). AreTakenRegions numbers ms form'.layouts.items form'.shape.geometry.length form'.shape.geometry.region (region_plexes new.cells)) (sym is.maps)
        (subst (λ (ls : List Layout). AreTakenRegions numbers (without_map m form.maps.items form.maps.items) ls form'.shape.geometry.length form'.shape.geometry.region (region_plexes new.cells)) (sym is.layouts)
        (subst (λ (g : Geometry). AreTakenRegions numbers (without_map m form.maps.items form.maps.items) (without_map m form.maps.items form.layouts.items) g.length g.region (region_plexes new.cells)) (sym geometry_same) regions_left));
    masks = masks_left;
    logs = subst (λ (ls : List Layout). LieOnLogs numbers ls (log_sectors form'.shape.geometry) copies) (sym is.logs) (subst (λ (g : Geometry). LieOnLogs numbers form.logs.items (log_sectors g) copies) (sym geometry_same) lies.logs);
    log = subst (λ (w : VolumeSeen). IsLogOver w.log (count_of form'.shape) copies) (sym loses.same)
        (subst (λ (g : Geometry). IsLogOver old.log (count_of (record form'.shape { geometry = g })) copies) (sym geometry_same) lies.log);
  }
