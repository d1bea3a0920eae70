-- A volume that was started.
use Rattle.std.proofs.Common.{◌≡◌, ◌∙◌, ℕ, zero, suc, ◌+◌, ◌*◌, ◌/◌, ◌<◌, ◌≤◌, Bool, true, false, List, [], length, Option, Some, None, refl, sym, ap, subst, arith}
use Rattle.std.specs.Prelude.{◌&&◌, nat_lt, is_some, Contains}
use Rattle.std.specs.List.{All}
use Rattle.std.proofs.lemmas.Bool.{and_parts, false≢true, ltb-true}
use Rattle.vx_base.specs.Blocks.{Contents}
use Rattle.vx_base.specs.Named.{Word}
use Rattle.vx_block.specs.Geometry.{is_region_size}
use Rattle.vx_block.specs.Regions.{region_count}
use Rattle.vx_piece.specs.Seen.{Seen}
use Rattle.vx_carve.specs.Together.{Holds}
use Rattle.vx_cell.specs.Region.{Tells}
use Rattle.vx_pages.specs.declared.local_piece.LocalPiece.{Ghosts}
use Rattle.vx_config_parts.specs.declared.vol.Vol.{Vol}
use Rattle.vx_objects.specs.declared.config.Config.{Config}
use Rattle.vx_volume.specs.declared.log.VolumeLog.{VolumeLog}
use Rattle.vx_volume.specs.declared.volume.VolumeShape.{VolumeShape}
use Rattle.vx_volume.specs.Opening.{count_of}
use Rattle.vx_volume.specs.Volume.{log_of, volume_seen}
use Rattle.vx_image.specs.UsedPlexes.{IsVolOf}
use Rattle.vx_lending.specs.Form.{IsFormOf}
use Rattle.vx_lending.proofs.Rules.{vol_geometry}
use Rattle.vx_config_parts.specs.declared.state.VolState.{VolState}
use Rattle.vx_config_parts.specs.declared.state.VolState.TheVariants as vol
use Rattle.vx_image.specs.Image.{IsFilled, LogCopy}
use Rattle.vx_image.specs.Bytes.{Sectors, image_of}
use Rattle.vx_image.specs.Soundness.{IsSoundImage}
use Rattle.vx_mask.specs.Marks.{Marks}
use Rattle.vx_maps.specs.Loading.{AreClaims}
use Rattle.vx_volume.specs.declared.log.VolumeLog.TheVariants.{Absent, Maps}
use Rattle.vx_volume.specs.Log.{log_seen}
use Rattle.vx_lending.specs.declared.form.VolumeForm.{VolumeForm}
use Rattle.vx_lending.specs.Logs.{IsLoadedLog}
use Rattle.vx_lending.specs.Taken.{log_sectors}
use Rattle.vx_volume_laws.specs.Contents.{AreSectorsOf, ShowsCopy}
use Rattle.vx_volume_laws.specs.Exact.{IsExactVolume}
use Rattle.vx_volume_laws.specs.LoadedLogs.{AreTakenCopies}
use Rattle.vx_volume_laws.specs.Opened.{IsOpenedBy}
use Rattle.vx_volume_laws.proofs.ExactLogs.{opening_exact}
use Rattle.vx_volume_laws.proofs.Loaded.{absent_shows, all_tell, loaded_shows}
use Rattle.vx_volume_laws.proofs.OpenedImages.{well_formed}
use Rattle.vx_moments.specs.Volumes.{volume_read}
use Rattle.vx_moments.proofs.VolumesRead.{each_volume_read_stands}
use Rattle.vx_volume_laws.specs.Running.{RunsAsVolume}
use Rattle.vx_volume_laws.specs.Starting.{EachOpeningRuns}
use Rattle.vx_mapfmt.specs.Sizes.{map_bytes_of, parts_of, plex_bytes_of}
use Rattle.vx_volume_laws.proofs.LeftOpenings.{opened_is_over}
use Rattle.vx_lending.specs.Public.{still_pieces}
use Rattle.vx_lending.specs.declared.public.Public.{Public}
use Rattle.vx_lending.specs.declared.public.Running.{Running}
use Rattle.vx_group_start.specs.Fresh.{is_fresh, maps_to_copy}
use Rattle.vx_group_start.specs.Logs.{IsLogOf}
use Rattle.vx_group_start.specs.Started.{IsStarted}
use Rattle.vx_group_calls.proofs.Failures.{opened_alive}
use Rattle.vx_volume_laws.specs.Calls.{IsOpenedOn}
use Rattle.vx_volume_laws.specs.Keeping.{ChangesStates}
use Rattle.vx_volume_laws.specs.Lying.{IsLogFor}
use Rattle.vx_volume_laws.proofs.Lasting.{lies_opened}
use Rattle.vx_volume_laws.proofs.LeftLogs.{fresh_for, loaded_for}
use Rattle.vx_volume_laws.proofs.Restated.{restated_kept}
use Rattle.vx_group_volumes.specs.Runs.{RunsIn}

-- ---- it has regions

some_regions : (length region : ℕ) → 0 < length → 0 < region → 0 < region_count length region
some_regions length region some some' = grind arith

some_size : (n : ℕ) → is_region_size n ≡ true → 0 < n
some_size zero h = absurd (false≢true h)
some_size (suc n) h = omega arith

pub some_count : (c : Config) (good : ℕ) (v : Vol) (fresh : Bool) (form : VolumeForm) → IsVolOf c v → IsFormOf c good v fresh form → 0 < count_of form.shape
some_count c good v fresh form of is =
    let first = and_parts (is_region_size v.region && nat_lt 0 v.len) _ (vol_geometry c v of) in
    let both = and_parts (is_region_size v.region) (nat_lt 0 v.len) first.0 in
    let size = some_size v.region both.0 in
    let blocks = ltb-true 0 v.len both.1 in
    let e = is.shape_is.length_is in
    let f = is.shape_is.region_is in
    some_regions form.shape.geometry.length form.shape.geometry.region (omega (arith, e, blocks)) (omega (arith, f, size))

-- ---- its log is one for it

log_fits : (regions : ℕ) → plex_bytes_of 32 (map_bytes_of regions) ≤ 512 * (35 * (map_bytes_of regions / 512))
log_fits regions = by (parts_of 8192 (512 + parts_of 8 regions))
  where
    by : (units : ℕ) → (3 + 32) * (units * 8192) ≤ 512 * (35 * (units * 8192 / 512))
    by units = omega arith

log_for : {P : Type 0} {ghosts : Ghosts P} (fresh : Bool) (shape : VolumeShape) (copies : List (List Seen)) (log : VolumeLog P ghosts) → IsLogOf ghosts.seen fresh shape copies log → IsLogFor shape.geometry log
log_for true shape copies log is = fresh_for shape.geometry (maps_to_copy shape) copies log is
log_for false shape copies log is = loaded_for shape.geometry copies log is

claims_tell : (copies : ℕ) (claims : ℕ → ℕ → Bool) (told : Option (ℕ → Marks)) → AreClaims copies claims told → Tells told
claims_tell copies claims None are = are
claims_tell copies claims (Some marks) are = tt

-- a volume has a DCO or a log
no_dco : {X : Type 0} (o : Option X) → false ≡ is_some o → o ≡ None
no_dco None is = refl
no_dco (Some x) is = absurd (false≢true is)

-- ---- it runs

module _ {P : Type 0} {ghosts : Ghosts P} (c : Config) (good : ℕ) (v : Vol) (numbers : List ℕ) (old new : Public P ghosts) (running : Running P ghosts) (of : IsVolOf c v)
    (form_is : IsFormOf c good v (is_fresh v.state) running.form) (started : IsStarted ghosts.seen v numbers old new running) where
  pub opened_on : IsOpenedOn ghosts.seen numbers running.form started.regions started.log.copies running.volume
  opened_on = record {
    some = some_count c good v (is_fresh v.state) running.form of form_is;
    long = started.long;
    regions_taken = started.taken;
    copies_taken = started.log.are.taken;
    cut = started.log.cut;
    log_for = log_for (is_fresh v.state) running.form.shape started.log.copies (log_of running.volume) started.log.log_is;
    opened = started.opened;
  }

  -- it has a log just where it has a DCO
  pub has_log : nat_lt 0 (length running.form.logs.items) ≡ is_some v.dco
  has_log =
      let l = lies_opened numbers running.form started.regions started.log.copies running.volume opened_on in
      ap (λ n. nat_lt 0 n) (sym l.lies.logs.long) ∙ sym l.lies.log.there ∙ started.log.fits.there

  unfoldable pub started_runs : (c' : Config) (good' : ℕ) (v' : Vol) → IsVolOf c' v' → IsFilled v'.state → ChangesStates c good v (is_fresh v.state) c' good' v' → RunsIn ghosts.seen c' good' numbers v' running
  started_runs c' good' v' of' filled changes = record {
    recorded = of';
    filled = filled;
    opening = record { config = c; good = good; vol = v; fresh = is_fresh v.state };
    of = of;
    form = form_is;
    keeps = restated_kept c good v (is_fresh v.state) c' good' v' changes;
    whole = started.whole;
    shape = started.shape;
    logged = has_log ∙ ap is_some (sym (ap (λ (x : Vol). x.dco) changes.vol));
    lies = lies_opened numbers running.form started.regions started.log.copies running.volume opened_on;
    cut = opened_alive running.form.shape _ started.regions _ started.opened;
  }

-- ---- its log was loaded, and tells

module _ {P : Type 0} {ghosts : Ghosts P} (c : Config) (good : ℕ) (v : Vol) (numbers : List ℕ) (old new : Public P ghosts) (running : Running P ghosts) (of : IsVolOf c v) (filled : IsFilled v.state)
    (form_is : IsFormOf c good v false running.form) (started : IsStarted ghosts.seen v numbers old new running)
    (contents : ℕ → Contents) (hold : All (Holds contents) (still_pieces ghosts.seen old)) (bytes : Sectors) (sectors : AreSectorsOf good numbers contents bytes) where
  not_fresh : is_fresh v.state ≡ false
  not_fresh = by v.state filled
    where
      by : (s : VolState) → IsFilled s → is_fresh s ≡ false
      by vol.Empty filled = absurd filled
      by vol.Clean filled = refl
      by vol.Active filled = refl
      by vol.NeedSync filled = refl
      by vol.Sync filled = refl

  copies_hold : All (λ copy. All (Holds contents) copy) started.log.copies
  copies_hold = started.log.are.hold contents hold

  is_loaded : IsLoadedLog ghosts.seen running.form.shape.geometry started.log.copies (log_of running.volume)
  is_loaded = subst (λ b. IsLogOf ghosts.seen b running.form.shape started.log.copies (log_of running.volume)) not_fresh started.log.log_is

  taken : AreTakenCopies numbers running.form.logs.items (log_sectors running.form.shape.geometry) started.log.copies
  taken = record { long = started.log.are.taken.long; cut = started.log.are.taken.cut }

  -- what the log shows of a copy of the image, with that it tells
  record Shown : Type 0 where
    pub copy : LogCopy
    pub one : Contains (image_of c good bytes v).copies copy
    pub shows : ShowsCopy (log_seen ghosts.seen (log_of running.volume)) copy (count_of running.form.shape)
    pub told : Tells (log_seen ghosts.seen (log_of running.volume)).told

  shown_by : (log : VolumeLog P ghosts) → IsLoadedLog ghosts.seen running.form.shape.geometry started.log.copies log → (log_of running.volume ≡ log) → Shown
  shown_by Absent is same =
      let none : v.dco ≡ None = no_dco v.dco (ap (λ l. (log_seen ghosts.seen l).there) (sym same) ∙ started.log.fits.there) in
      let x = absent_shows c good bytes v none (count_of running.form.shape) in
      record { copy = x.0; one = x.1; shows = subst (λ l. ShowsCopy (log_seen ghosts.seen l) x.0 (count_of running.form.shape)) (sym same) x.2; told = subst (λ l. Tells (log_seen ghosts.seen l).told) (sym same) tt }
  shown_by (Maps store) is same =
      let x = loaded_shows c good bytes v running.form form_is numbers contents sectors (log_sectors running.form.shape.geometry) started.log.copies (log_fits (count_of running.form.shape)) taken copies_hold _ _ _ is.1 in
      record { copy = x.0; one = x.1; shows = subst (λ l. ShowsCopy (log_seen ghosts.seen l) x.0 (count_of running.form.shape)) (sym same) x.2; told = subst (λ l. Tells (log_seen ghosts.seen l).told) (sym same) (claims_tell _ _ _ (is.1.told (all_tell contents started.log.copies copies_hold))) }

  shown : Shown
  shown = shown_by (log_of running.volume) is_loaded refl

  opened_by : IsOpenedBy c good bytes v running.form shown.copy (volume_seen ghosts.seen running.volume)
  opened_by = record {
    of = of;
    fresh = false;
    form_is = form_is;
    numbers = numbers;
    contents = contents;
    sectors = sectors;
    regions = started.regions;
    long = started.long;
    taken = started.taken;
    hold = (started.hold contents hold).0;
    log = log_seen ghosts.seen (log_of running.volume);
    shows = shown.shows;
    opened = started.opened;
    whole = started.whole;
  }

  pub loaded_runs : EachOpeningRuns → IsSoundImage (image_of c good bytes v) → (plexes : List Word) → RunsAsVolume (image_of c good bytes v).plexes (volume_seen ghosts.seen running.volume) (volume_read plexes (image_of c good bytes v))
  loaded_runs law sound plexes =
      law (image_of c good bytes v) (volume_seen ghosts.seen running.volume) (volume_read plexes (image_of c good bytes v)) started.whole
      (opened_is_over c good bytes v running.form shown.copy (volume_seen ghosts.seen running.volume) opened_by shown.one shown.told (volume_read plexes (image_of c good bytes v)))
      (each_volume_read_stands plexes (image_of c good bytes v) sound)
      (record { length_is = refl; region_is = refl; life = refl; began = refl })
      filled
      (well_formed c good bytes v of)

  pub loaded_exact : IsExactVolume (volume_seen ghosts.seen running.volume)
  loaded_exact =
      opening_exact (image_of c good bytes v) (volume_seen ghosts.seen running.volume) (volume_read [] (image_of c good bytes v)) started.whole
      (opened_is_over c good bytes v running.form shown.copy (volume_seen ghosts.seen running.volume) opened_by shown.one shown.told (volume_read [] (image_of c good bytes v)))
