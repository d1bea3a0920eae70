-- A volume of one plex that was given another log runs in its place by the new configuration.
use Rattle.std.proofs.Common.{◌≡◌, inr, ℕ, ◌-◌, ◌*◌, ◌<◌, min, true, false, List, [], ◌∷◌, length, map, refl, sym, ◌∙◌, ap, subst, arith}
use Rattle.std.specs.Prelude.{is_some, nat_lt, slice_index_or}
use Rattle.std.proofs.lemmas.List.{length-map}
use Rattle.vx_block.specs.Regions.{region_count}
use Rattle.vx_block.specs.declared.geometry.Geometry.{Geometry}
use Rattle.vx_mask.specs.Mask.{has, only}
use Rattle.vx_mask.proofs.Sets.{in_union}
use Rattle.vx_piece.specs.Seen.{Seen}
use Rattle.vx_runs.specs.Run.{run_sectors}
use Rattle.vx_layout.specs.declared.layout.Layout.{Layout}
use Rattle.vx_pages.specs.declared.local_piece.LocalPiece.{Ghosts}
use Rattle.vx_pages.specs.Sector.{KeepsPiece}
use Rattle.vx_maps.specs.Going.{CutCopiesGo}
use Rattle.vx_maps.specs.Loading.{copy_at}
use Rattle.vx_maps.proofs.Claims.{same_at}
use Rattle.vx_maps.proofs.CopyLaws.{copy_goes}
use Rattle.vx_config_parts.specs.declared.plex.Plex.{Plex}
use Rattle.vx_config_parts.specs.declared.vol.Vol.{Vol}
use Rattle.vx_objects.specs.declared.config.Config.{Config}
use Rattle.vx_image.specs.Bytes.{map_or_zero}
use Rattle.vx_image.specs.Image.{IsFilled}
use Rattle.vx_image.specs.UsedPlexes.{used_logs}
use Rattle.vx_cell.specs.Changes.{CellSeen}
use Rattle.vx_volume.specs.declared.volume.VolumeShape.{VolumeShape}
use Rattle.vx_volume.specs.Log.{log_seen}
use Rattle.vx_volume.specs.Opening.{count_of}
use Rattle.vx_volume.specs.Volume.{VolumeSeen, cell_at, log_of, shape_of, volume_seen}
use Rattle.vx_lending.specs.RegionsTaken.{AreTakenRegions, IsTakenRegion}
use Rattle.vx_lending.specs.declared.form.VolumeForm.{VolumeForm}
use Rattle.vx_lending.specs.Form.{AreLayouts}
use Rattle.vx_lending.specs.FormLaws.{AreNumbered}
use Rattle.vx_lending.specs.Left.{region_plexes}
use Rattle.vx_lending.specs.Logs.{log_copies}
use Rattle.vx_lending.specs.Taken.{AreTakenCopies, log_sectors}
use Rattle.vx_lending.specs.declared.public.Running.{Running}
use Rattle.vx_volume_laws.specs.Lying.{HasMasksOf, IsLogFor, IsLogOver, LiesAs, LiesIn}
use Rattle.vx_volume_laws.specs.Places.{IsSamePlace, LieOnLogs}
use Rattle.vx_volume_laws.proofs.OpenedImages.{same_item, some_of}
use Rattle.vx_volume_laws.proofs.Plexes.{plexes_at}
use Rattle.vx_volume_laws.proofs.Spots.{cut_long}
use Rattle.vx_volume_laws.proofs.Stays.{copies_weaker, place_kept, run_long}
use Rattle.vx_change_laws.specs.Laws.{IsCutIfDead}
use Rattle.vx_group_volumes.specs.Places.{RunsInPlace, disks_at}
use Rattle.vx_group_volumes.proofs.NearerCopies.{later_lie, taken_lie}
use Rattle.vx_group_volumes.proofs.Places.{places_stay}
use Rattle.vx_group_edits.specs.Dcos.{ChangesDco}
use Rattle.vx_cell.specs.Changes.{first_as_zero}
use Rattle.vx_volume.specs.Logging.{ChangesLog, IsAlone}
use Rattle.vx_joined_volumes.specs.Joined.{good_joined, mask_of_slots, opening_joined, plex_of_run}
use Rattle.vx_joined_volumes.specs.Relogged.{HasRelogged, IsFormRelogged}
use Rattle.vx_joined_volumes.specs.RelogLaws.{EachReloggedVolumeRunsInPlace}
use Rattle.vx_joined_volumes.proofs.Alone.{alone_in, lone_maps}
use Rattle.vx_joined_volumes.proofs.RelogForms.{form_relogged}
use Rattle.vx_joined_volumes.proofs.Runs.{kept_by}

-- ---- the copies of its log

-- copies that were taken lie on the layouts, also where they were cut and have gone on since
copies_lie : (numbers : List ℕ) (logs : List Layout) (count : ℕ) (copies later : List (List Seen)) → AreTakenCopies numbers logs count copies → CutCopiesGo KeepsPiece copies later → LieOnLogs numbers logs count later
copies_lie numbers logs count copies later taken goes =
    let lie = later_lie copies later goes numbers logs count (taken_lie numbers logs count copies taken) in
    record {
      long = lie.long;
      sectors = λ k lt.
          let places = copy_goes IsSamePlace goes.cut later k (copies_weaker KeepsPiece IsSamePlace (λ p q h. place_kept p q h.kept) goes.cut later goes.goes) in
          let d = some_of logs k lt in
          let long = cut_long numbers (slice_index_or logs k d).unit (slice_index_or logs k d).columns 0 count (slice_index_or copies k []) (taken.cut k d lt) in
          let all : run_sectors (slice_index_or copies k []) ≡ count = omega (arith, long) in
          ap run_sectors (sym (same_item [] later k)) ∙ run_long (copy_at goes.cut k) (copy_at later k) places ∙ (same_at copies goes.cut k goes.same).sectors ∙ ap run_sectors (same_item [] copies k) ∙ all;
      each = lie.each;
    }

-- ---- its regions

-- the one plex of a region lies where it lay, with number 0
taken_as_zero : (numbers : List ℕ) (m : ℕ) (layouts : List Layout) (start count : ℕ) (pieces : List Seen) → IsTakenRegion numbers (m ∷ []) layouts start count (plex_of_run m pieces) → IsTakenRegion numbers (0 ∷ []) layouts start count (plex_of_run 0 pieces)
taken_as_zero numbers m layouts start count pieces was = record { maps_are = refl; cut = was.cut; cover = was.cover; held = λ k. refl; differ = (refl, tt) }

module _ (numbers : List ℕ) (form form' : VolumeForm) (logs : List Layout) (is : IsFormRelogged logs form form') (m : ℕ) (one : form.maps.items ≡ m ∷ []) (old new : VolumeSeen) (alone : IsAlone m old)
    (copies : List (List Seen)) (lies : LiesAs numbers form old copies) (changes : ChangesLog new.log old new)
    (copies' : List (List Seen)) (lie : LieOnLogs numbers logs (log_sectors form.shape.geometry) copies') (over : IsLogOver new.log (count_of form.shape) copies') where
  geometry_same : form'.shape.geometry ≡ form.shape.geometry
  geometry_same = ap (λ (s : VolumeShape). s.geometry) is.shape

  maps_now : form'.maps.items ≡ 0 ∷ []
  maps_now = is.maps ∙ ap (λ ms. map (λ (k : ℕ). 0) ms) one

  regions_now : AreTakenRegions numbers (0 ∷ []) form.layouts.items form.shape.geometry.length form.shape.geometry.region (region_plexes new.cells)
  regions_now r lt =
      let start = r * form.shape.geometry.region in
      let count = min form.shape.geometry.region (form.shape.geometry.length - r * form.shape.geometry.region) in
      let a = length-map new.cells (λ (cell : CellSeen). cell.plexes) in
      let b = length-map old.cells (λ (cell : CellSeen). cell.plexes) in
      let same = changes.cells.size in
      let inside : r < length old.cells = omega (arith, lt, a, same) in
      let plex = alone r inside in
      let was : IsTakenRegion numbers (m ∷ []) form.layouts.items start count (plex_of_run m plex.pieces) =
      subst (λ ps. IsTakenRegion numbers (m ∷ []) form.layouts.items start count ps) (plexes_at old.cells r ∙ plex.plexes)
      (subst (λ ms. IsTakenRegion numbers ms form.layouts.items start count (slice_index_or (region_plexes old.cells) r [])) one (lies.regions r (omega (arith, inside, b)))) in
      let now : slice_index_or (region_plexes new.cells) r [] ≡ plex_of_run 0 plex.pieces =
      plexes_at new.cells r ∙ ap (λ (x : CellSeen). x.plexes) (changes.cells.each r inside) ∙ ap first_as_zero plex.plexes in
      subst (λ ps. IsTakenRegion numbers (0 ∷ []) form.layouts.items start count ps) (sym now) (taken_as_zero numbers m form.layouts.items start count plex.pieces was)

  masks_now : (r : ℕ) → r < length new.cells → HasMasksOf form'.shape new.log.there (cell_at new r).stage
  masks_now r lt =
      let same = changes.cells.size in
      let cell = changes.cells.each r (omega (arith, lt, same)) in
      record {
        on = ap (λ (x : CellSeen). x.stage.on) cell ∙ sym (ap (λ (s : VolumeShape). s.on) is.shape);
        off = ap (λ (x : CellSeen). x.stage.off) cell ∙ sym (ap (λ (s : VolumeShape). s.off) is.shape);
        snaps = ap (λ (x : CellSeen). x.stage.snaps) cell ∙ sym (ap (λ (s : VolumeShape). s.snaps) is.shape);
        logged_is = ap (λ (x : CellSeen). x.stage.logged) cell;
      }

  lies_relogged : LiesAs numbers form' new copies'
  lies_relogged = record {
    length_is = ap (λ (w : VolumeSeen). w.length) changes.same ∙ lies.length_is ∙ sym (ap (λ (g : Geometry). g.length) geometry_same);
    region_is = ap (λ (w : VolumeSeen). w.region) changes.same ∙ lies.region_is ∙ sym (ap (λ (g : Geometry). g.region) geometry_same);
    regions = subst (λ ms. AreTakenRegions numbers ms form'.layouts.items form'.shape.geometry.length form'.shape.geometry.region (region_plexes new.cells)) (sym maps_now)
        (subst (λ ls. AreTakenRegions numbers (0 ∷ []) ls form'.shape.geometry.length form'.shape.geometry.region (region_plexes new.cells)) (sym is.layouts)
        (subst (λ (g : Geometry). AreTakenRegions numbers (0 ∷ []) form.layouts.items g.length g.region (region_plexes new.cells)) (sym geometry_same) regions_now));
    masks = masks_now;
    logs = subst (λ ls. LieOnLogs numbers ls (log_sectors form'.shape.geometry) copies') (sym is.logs_are) (subst (λ (g : Geometry). LieOnLogs numbers logs (log_sectors g) copies') (sym geometry_same) lie);
    log = subst (λ (g : Geometry). IsLogOver new.log (region_count g.length g.region) copies') (sym geometry_same) over;
  }

-- ---- the volume

module _ {P : Type 0} {ghosts : Ghosts P} (see : P → Seen) (running later : Running P ghosts) (c : Config) (good : ℕ) (numbers : List ℕ) (v : Vol) (placed : RunsInPlace see c good numbers v running)
    (c' : Config) (v' : Vol) (p p' : Plex) (changes : ChangesDco c v c' v' p p') (region : v'.region ≡ v.region)
    (logs : List Layout) (lay : AreLayouts c' (used_logs v'.dco c' (good_joined placed.runs.opening good) false v.name) logs) (logged : nat_lt 0 (length logs) ≡ is_some v'.dco)
    (is : IsFormRelogged logs running.form later.form) (has_log : HasRelogged see numbers logs running.volume later.volume)
    (cut : (r : ℕ) → r < length (volume_seen see later.volume).cells → IsCutIfDead (volume_seen see later.volume) r) where
  shape_is : shape_of later.volume ≡ later.form.shape
  shape_is = has_log.shape ∙ ap (λ (s : VolumeShape). record s { on = only 0; off = 0; snaps = 0 }) placed.runs.shape ∙ sym is.shape

  geometry_was : (shape_of running.volume).geometry ≡ running.form.shape.geometry
  geometry_was = ap (λ (s : VolumeShape). s.geometry) placed.runs.shape

  lie_now : LieOnLogs numbers logs (log_sectors running.form.shape.geometry) (log_copies see (log_of later.volume))
  lie_now =
      subst (λ (g : Geometry). LieOnLogs numbers logs (log_sectors g) (log_copies see (log_of later.volume))) geometry_was
      (copies_lie numbers logs (log_sectors (shape_of running.volume).geometry) has_log.copies (log_copies see (log_of later.volume)) has_log.taken has_log.cut)

  over_now : IsLogOver (log_seen see (log_of later.volume)) (count_of running.form.shape) (log_copies see (log_of later.volume))
  over_now = subst (λ (g : Geometry). IsLogOver (log_seen see (log_of later.volume)) (region_count g.length g.region) (log_copies see (log_of later.volume))) geometry_was has_log.over

  lies_as : LiesAs numbers later.form (volume_seen see later.volume) (log_copies see (log_of later.volume))
  lies_as =
      lies_relogged numbers running.form later.form logs is (map_or_zero p.map) (lone_maps see running c good numbers v placed p changes.was) (volume_seen see running.volume) (volume_seen see later.volume)
      (alone_in see running c good numbers v placed p changes.was changes.alone) (log_copies see (log_of running.volume)) placed.runs.lies.lies has_log.changes (log_copies see (log_of later.volume)) lie_now over_now

  lies_now : LiesIn see numbers later.form later.volume
  lies_now = record {
    some = subst (λ (s : VolumeShape). 0 < count_of s) (sym is.shape) placed.runs.lies.some;
    log_for = subst (λ (g : Geometry). IsLogFor g (log_of later.volume)) (geometry_was ∙ sym (ap (λ (s : VolumeShape). s.geometry) is.shape)) has_log.log_for;
    lies = lies_as;
  }

  pub runs_relogged : AreNumbered numbers (good_joined placed.runs.opening good) c'.disks → (good' : ℕ) → ((slot : ℕ) → has good' slot ≡ true → has good slot ≡ true) →
      (now : RunsInPlace see c' good' numbers v' later) × (now.runs.opening ≡ opening_joined placed.runs.opening c' good v')
  runs_relogged numbered good' fewer =
      let more : (slot : ℕ) → has good' slot ≡ true → has (good_joined placed.runs.opening good) slot ≡ true = λ slot here. in_union (mask_of_slots (disks_at placed.runs.opening)) good slot (inr (fewer slot here)) in (
        record {
          runs = record {
            recorded = changes.recorded;
            filled = subst IsFilled (sym (ap (λ (x : Vol). x.state) changes.volume)) placed.runs.filled;
            opening = opening_joined placed.runs.opening c' good v';
            of = changes.recorded;
            form = form_relogged see running c good numbers v placed c' v' p p' changes region logs lay later.form is;
            keeps = kept_by c' (good_joined placed.runs.opening good) good' v' more;
            logged = ap (λ ls. nat_lt 0 (length ls)) is.logs_are ∙ logged;
            whole = has_log.whole;
            shape = shape_is;
            lies = lies_now;
            cut = cut;
          };
          places = places_stay c' v'.name;
          numbered = numbered;
          were_good = λ at own now. more at.disk now;
        },
        refl,
      )

pub each_volume_relogged : {P : Type 0} {ghosts : Ghosts P} (see : P → Seen) (running later : Running P ghosts) → EachReloggedVolumeRunsInPlace see running later
each_volume_relogged see running later c good numbers v placed c' v' p p' changes region logs lay logged is has_log cut =
    runs_relogged see running later c good numbers v placed c' v' p p' changes region logs lay logged is has_log cut
