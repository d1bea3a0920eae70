-- A plex that was put into each region of a volume lies there beside those that were taken: the volume lies where its new form says.
use Rattle.std.proofs.Common.{◌≡◌, ℕ, zero, suc, ◌+◌, ◌-◌, ◌*◌, ◌<◌, min, false, List, [], ◌∷◌, ◌++◌, length, map, inl, inr, refl, sym, ap, ◌∙◌, subst, arith}
use Rattle.std.specs.Prelude.{◌||◌, ◌==◌, slice_index_or}
use Rattle.std.proofs.lemmas.Bool.{cases_lt, eq-eqb, eqb-true, false≢true, false_from_ne_true}
use Rattle.std.proofs.lemmas.List.{length-map, map-append}
use Rattle.vx_block.specs.declared.geometry.Geometry.{Geometry}
use Rattle.vx_mask.specs.Mask.{only, union}
use Rattle.vx_mask.proofs.Tests.{or_neither, or_none}
use Rattle.vx_piece.specs.Seen.{Seen}
use Rattle.vx_layout.specs.declared.layout.Layout.{Layout}
use Rattle.vx_carve.specs.Carved.{AreCut}
use Rattle.vx_cell.specs.Changes.{CellSeen}
use Rattle.vx_cell.specs.Plexes.{AllCover, MapsDiffer, PlexSeen, holds}
use Rattle.vx_pages.specs.Items.{item_at}
use Rattle.vx_volume.specs.Changing.{PutsPlex}
use Rattle.vx_volume.specs.Volume.{VolumeSeen, cell_at}
use Rattle.vx_volume.specs.declared.volume.VolumeShape.{VolumeShape}
use Rattle.vx_volume.specs.Opening.{count_of}
use Rattle.vx_lending.specs.RegionPieces.{own_pieces}
use Rattle.vx_lending.specs.RegionsTaken.{AreTakenRegions, IsTakenRegion, is_among, own_map}
use Rattle.vx_lending.specs.declared.form.VolumeForm.{VolumeForm}
use Rattle.vx_lending.specs.Left.{region_plexes}
use Rattle.vx_lending.specs.Taken.{log_sectors}
use Rattle.vx_volume_laws.specs.Lying.{HasMasksOf, IsLogOver, LiesAs}
use Rattle.vx_volume_laws.specs.Places.{LieOnLogs}
use Rattle.vx_volume_laws.proofs.Plexes.{plexes_at}
use Rattle.vx_joined_volumes.specs.Joined.{IsFormJoined, plex_of_run}

-- ---- lists

at_front : {A : Type 0} (xs ys : List A) (k : ℕ) (d : A) → k < length xs → slice_index_or (xs ++ ys) k d ≡ slice_index_or xs k d
at_front [] ys k d lt = absurd (omega (arith, lt))
at_front (x ∷ xs) ys zero d lt = refl
at_front (x ∷ xs) ys (suc k) d lt = at_front xs ys k d (omega (arith, lt))

at_end : {A : Type 0} (xs : List A) (y : A) (k : ℕ) (d : A) → k ≡ length xs → slice_index_or (xs ++ y ∷ []) k d ≡ y
at_end [] y zero d e = refl
at_end [] y (suc k) d e = absurd (omega (arith, e))
at_end (x ∷ xs) y zero d e = absurd (omega (arith, e))
at_end (x ∷ xs) y (suc k) d e = at_end xs y k d (omega (arith, e))

length_one_more : {A : Type 0} (xs : List A) (y : A) → length (xs ++ y ∷ []) ≡ length xs + 1
length_one_more [] y = refl
length_one_more (x ∷ xs) y = let rest = length_one_more xs y in omega (arith, rest)

run_at : (m : ℕ) (runs : List (List Seen)) (r : ℕ) → r < length runs → slice_index_or (map (plex_of_run m) runs) r [] ≡ plex_of_run m (item_at [] runs r)
run_at m [] r lt = absurd (omega (arith, lt))
run_at m (run ∷ runs) zero lt = refl
run_at m (run ∷ runs) (suc r) lt = run_at m runs r (omega (arith, lt))

-- ---- the plexes of a region

pub holds_among : (ps : List PlexSeen) (k : ℕ) → holds ps k ≡ is_among k (map own_map ps)
holds_among [] k = refl
holds_among (p ∷ ps) k = ap (λ b. (p.map == k) || b) (holds_among ps k)

cover_more : (size : ℕ) (ps : List PlexSeen) (x : PlexSeen) → AllCover size ps → AllCover size (x ∷ []) → AllCover size (ps ++ x ∷ [])
cover_more size [] x all one = one
cover_more size (p ∷ ps) x all one = (all.0, cover_more size ps x all.1 one)

-- none of these has the map of one more
none_has : (ps : List PlexSeen) (x : PlexSeen) (k : ℕ) → holds ps k ≡ false → (x.map == k) ≡ false → holds (ps ++ x ∷ []) k ≡ false
none_has [] x k none other = or_none _ _ other refl
none_has (p ∷ ps) x k none other = let parts = or_neither (p.map == k) (holds ps k) none in or_none _ _ parts.0 (none_has ps x k parts.1 other)

turned_about : (m k : ℕ) → (m == k) ≡ false → (k == m) ≡ false
turned_about m k other = false_from_ne_true _ (λ same. false≢true (sym other ∙ eq-eqb m k (sym (eqb-true k m same))))

differ_more : (ps : List PlexSeen) (x : PlexSeen) → MapsDiffer ps → holds ps x.map ≡ false → MapsDiffer (ps ++ x ∷ [])
differ_more [] x differ none = (refl, tt)
differ_more (p ∷ ps) x differ none =
    let parts = or_neither (p.map == x.map) (holds ps x.map) none in
    (none_has ps x p.map differ.0 (turned_about p.map x.map parts.0), differ_more ps x differ.1 parts.1)

module _ (numbers maps : List ℕ) (layouts : List Layout) (m : ℕ) (l : Layout) (start count : ℕ) (ps : List PlexSeen) (run : List Seen) (long : length maps ≡ length layouts) (none : is_among m maps ≡ false)
    (was : IsTakenRegion numbers maps layouts start count ps) (one : IsTakenRegion numbers (m ∷ []) (l ∷ []) start count (plex_of_run m run)) where
  abbrev x : PlexSeen
  x = record { map = m; pieces = run }

  maps_more : map own_map (ps ++ x ∷ []) ≡ maps ++ m ∷ []
  maps_more = map-append own_map ps (x ∷ []) ∙ ap (λ ms. ms ++ m ∷ []) was.maps_are

  as_many : length ps ≡ length layouts
  as_many = let own = length-map ps own_map in let many = ap length was.maps_are in omega (arith, own, many, long)

  cut_more : (k : ℕ) (d : Layout) → k < length (layouts ++ l ∷ []) →
      AreCut numbers (slice_index_or (layouts ++ l ∷ []) k d).unit (slice_index_or (layouts ++ l ∷ []) k d).columns start (start + count) (slice_index_or (map own_pieces (ps ++ x ∷ [])) k [])
  cut_more k d lt = elim (cases_lt k (length layouts)) [
    | inl less ↦
        let own = length-map ps own_pieces in
        let many = as_many in
        let pieces : slice_index_or (map own_pieces (ps ++ x ∷ [])) k [] ≡ slice_index_or (map own_pieces ps) k [] =
        ap (λ rs. slice_index_or rs k []) (map-append own_pieces ps (x ∷ [])) ∙ at_front (map own_pieces ps) (run ∷ []) k [] (omega (arith, own, many, less)) in
        subst (λ (y : Layout). AreCut numbers y.unit y.columns start (start + count) (slice_index_or (map own_pieces (ps ++ x ∷ [])) k [])) (sym (at_front layouts (l ∷ []) k d less))
        (subst (λ rs. AreCut numbers (slice_index_or layouts k d).unit (slice_index_or layouts k d).columns start (start + count) rs) (sym pieces) (was.cut k d less))
    | inr ge ↦
        let more = length_one_more layouts l in
        let own = length-map ps own_pieces in
        let many = as_many in
        let at : k ≡ length layouts = omega (arith, lt, ge, more) in
        let pieces : slice_index_or (map own_pieces (ps ++ x ∷ [])) k [] ≡ run =
        ap (λ rs. slice_index_or rs k []) (map-append own_pieces ps (x ∷ [])) ∙ at_end (map own_pieces ps) run k [] (omega (arith, own, many, at)) in
        subst (λ (y : Layout). AreCut numbers y.unit y.columns start (start + count) (slice_index_or (map own_pieces (ps ++ x ∷ [])) k [])) (sym (at_end layouts l k d at))
        (subst (λ rs. AreCut numbers l.unit l.columns start (start + count) rs) (sym pieces) (one.cut 0 l (omega arith)))
  ]

  taken_more : IsTakenRegion numbers (maps ++ m ∷ []) (layouts ++ l ∷ []) start count (ps ++ x ∷ [])
  taken_more = record {
    maps_are = maps_more;
    cut = cut_more;
    cover = cover_more count ps x was.cover one.cover;
    held = λ k. holds_among (ps ++ x ∷ []) k ∙ ap (λ ms. is_among k ms) maps_more;
    differ = differ_more ps x was.differ (was.held m ∙ none);
  }

-- ---- the volume

module _ (numbers : List ℕ) (form form' : VolumeForm) (m : ℕ) (l : Layout) (joined : IsFormJoined m l form form') (old new : VolumeSeen) (copies : List (List Seen)) (lies : LiesAs numbers form old copies)
    (runs : List (List Seen)) (puts : PutsPlex m runs old new) (count : length runs ≡ length old.cells) (long : length form.maps.items ≡ length form.layouts.items) (none : is_among m form.maps.items ≡ false)
    (taken : AreTakenRegions numbers (m ∷ []) (l ∷ []) form.shape.geometry.length form.shape.geometry.region (map (plex_of_run m) runs)) where
  pub geometry_same : form'.shape.geometry ≡ form.shape.geometry
  geometry_same = ap (λ (s : VolumeShape). s.geometry) joined.shape

  -- the plexes of a region, and the new one
  plexes_more : (r : ℕ) → r < length old.cells → slice_index_or (region_plexes new.cells) r [] ≡ slice_index_or (region_plexes old.cells) r [] ++ plex_of_run m (item_at [] runs r)
  plexes_more r lt =
      plexes_at new.cells r ∙ ap (λ (x : CellSeen). x.plexes) (puts.cells.each r lt)
      ∙ ap (λ ps. ps ++ plex_of_run m (item_at [] runs r)) (sym (plexes_at old.cells r))

  regions_more : AreTakenRegions numbers (form.maps.items ++ m ∷ []) (form.layouts.items ++ l ∷ []) form.shape.geometry.length form.shape.geometry.region (region_plexes new.cells)
  regions_more r lt =
      let start = r * form.shape.geometry.region in
      let size = min form.shape.geometry.region (form.shape.geometry.length - r * form.shape.geometry.region) in
      let n = length-map new.cells (λ (cell : CellSeen). cell.plexes) in
      let o = length-map old.cells (λ (cell : CellSeen). cell.plexes) in
      let p = length-map runs (plex_of_run m) in
      let same = puts.cells.size in
      let inside : r < length old.cells = omega (arith, lt, n, same) in
      let among : r < length runs = omega (arith, inside, count) in
      let one : IsTakenRegion numbers (m ∷ []) (l ∷ []) start size (plex_of_run m (item_at [] runs r)) =
      subst (λ ps. IsTakenRegion numbers (m ∷ []) (l ∷ []) (r * form.shape.geometry.region) (min form.shape.geometry.region (form.shape.geometry.length - r * form.shape.geometry.region)) ps) (run_at m runs r among) (taken r (omega (arith, among, p))) in
      subst (λ ps. IsTakenRegion numbers (form.maps.items ++ m ∷ []) (form.layouts.items ++ l ∷ []) (r * form.shape.geometry.region) (min form.shape.geometry.region (form.shape.geometry.length - r * form.shape.geometry.region)) ps) (sym (plexes_more r inside))
      (taken_more numbers form.maps.items form.layouts.items m l start size (slice_index_or (region_plexes old.cells) r []) (item_at [] runs r) long none (lies.regions r (omega (arith, inside, o))) one)

  masks_more : (r : ℕ) → r < length new.cells → HasMasksOf form'.shape new.log.there (cell_at new r).stage
  masks_more r lt =
      let same = puts.cells.size in
      let is = puts.cells.each r (omega (arith, lt, same)) in
      let had = lies.masks r (omega (arith, lt, same)) in
      record {
        on = ap (λ (x : CellSeen). x.stage.on) is ∙ ap (λ n. union n (only m)) had.on ∙ sym (ap (λ (s : VolumeShape). s.on) joined.shape);
        off = ap (λ (x : CellSeen). x.stage.off) is ∙ had.off ∙ sym (ap (λ (s : VolumeShape). s.off) joined.shape);
        snaps = ap (λ (x : CellSeen). x.stage.snaps) is ∙ had.snaps ∙ sym (ap (λ (s : VolumeShape). s.snaps) joined.shape);
        logged_is = ap (λ (x : CellSeen). x.stage.logged) is ∙ had.logged_is ∙ sym (ap (λ (w : VolumeSeen). w.log.there) puts.same);
      }

  pub lies_joined : LiesAs numbers form' new copies
  lies_joined = record {
    length_is = ap (λ (w : VolumeSeen). w.length) puts.same ∙ lies.length_is ∙ sym (ap (λ (g : Geometry). g.length) geometry_same);
    region_is = ap (λ (w : VolumeSeen). w.region) puts.same ∙ lies.region_is ∙ sym (ap (λ (g : Geometry). g.region) geometry_same);
    regions = subst (λ ms. AreTakenRegions numbers ms form'.layouts.items form'.shape.geometry.length form'.shape.geometry.region (region_plexes new.cells)) (sym joined.maps)
        (subst (λ ls. AreTakenRegions numbers (form.maps.items ++ m ∷ []) ls form'.shape.geometry.length form'.shape.geometry.region (region_plexes new.cells)) (sym joined.layouts)
        (subst (λ (g : Geometry). AreTakenRegions numbers (form.maps.items ++ m ∷ []) (form.layouts.items ++ l ∷ []) g.length g.region (region_plexes new.cells)) (sym geometry_same) regions_more));
    masks = masks_more;
    logs = subst (λ ls. LieOnLogs numbers ls (log_sectors form'.shape.geometry) copies) (sym joined.logs) (subst (λ (g : Geometry). LieOnLogs numbers form.logs.items (log_sectors g) copies) (sym geometry_same) lies.logs);
    log = subst (λ (w : VolumeSeen). IsLogOver w.log (count_of form'.shape) copies) (sym puts.same) (subst (λ (s : VolumeShape). IsLogOver old.log (count_of s) copies) (sym joined.shape) lies.log);
  }
