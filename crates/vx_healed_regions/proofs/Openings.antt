-- A volume that is recovered was opened over its image, by what one copy of its log marks.
use Rattle.std.proofs.Common.{◌≡◌, ◌∙◌, ℕ, ◌*◌, ◌/◌, ◌+◌, ◌≤◌, Bool, true, false, List, Option, Some, None, refl, sym, ap, subst, arith}
use Rattle.std.specs.Prelude.{is_some, Contains}
use Rattle.std.specs.List.{All}
use Rattle.std.proofs.lemmas.Bool.{false≢true}
use Rattle.vx_base.specs.Blocks.{Contents}
use Rattle.vx_mapfmt.specs.Sizes.{map_bytes_of, parts_of, plex_bytes_of}
use Rattle.vx_mask.specs.Marks.{Marks}
use Rattle.vx_carve.specs.Together.{Holds}
use Rattle.vx_cell.specs.Region.{Tells}
use Rattle.vx_maps.specs.Loading.{AreClaims}
use Rattle.vx_pages.specs.declared.local_piece.LocalPiece.{Ghosts}
use Rattle.vx_config_parts.specs.declared.state.VolState.{VolState}
use Rattle.vx_config_parts.specs.declared.state.VolState.TheVariants as vol
use Rattle.vx_config_parts.specs.declared.vol.Vol.{Vol}
use Rattle.vx_objects.specs.declared.config.Config.{Config}
use Rattle.vx_image.specs.Bytes.{Sectors, image_of}
use Rattle.vx_image.specs.Image.{IsFilled, LogCopy}
use Rattle.vx_image.specs.UsedPlexes.{IsVolOf}
use Rattle.vx_volume.specs.declared.log.VolumeLog.{VolumeLog}
use Rattle.vx_volume.specs.declared.log.VolumeLog.TheVariants.{Absent, Maps}
use Rattle.vx_volume.specs.Log.{log_seen}
use Rattle.vx_volume.specs.Opening.{count_of}
use Rattle.vx_volume.specs.Volume.{log_of, volume_seen}
use Rattle.vx_lending.specs.declared.public.Public.{Public}
use Rattle.vx_lending.specs.declared.public.Running.{Running}
use Rattle.vx_lending.specs.Form.{IsFormOf}
use Rattle.vx_lending.specs.Logs.{IsLoadedLog}
use Rattle.vx_lending.specs.Public.{still_pieces}
use Rattle.vx_lending.specs.Taken.{log_sectors}
use Rattle.vx_volume_laws.specs.Contents.{AreSectorsOf, ShowsCopy}
use Rattle.vx_volume_laws.specs.LoadedLogs.{AreTakenCopies}
use Rattle.vx_volume_laws.specs.Lying.{LiesIn}
use Rattle.vx_volume_laws.specs.Calls.{IsOpenedOn}
use Rattle.vx_volume_laws.specs.Opened.{IsOpenedBy}
use Rattle.vx_volume_laws.proofs.Lasting.{lies_opened}
use Rattle.vx_volume_laws.proofs.LeftLogs.{loaded_for}
use Rattle.vx_volume_laws.proofs.Loaded.{absent_shows, all_tell, loaded_shows}
use Rattle.vx_group_start.specs.Fresh.{is_fresh}
use Rattle.vx_group_start.specs.Logs.{IsLogOf}
use Rattle.vx_group_start.specs.Started.{IsStarted}
use Rattle.vx_group_volumes.proofs.Starts.{some_count}
use Rattle.vx_recovery.specs.Recovering.{is_recovered}

-- a volume that is recovered is not empty, ..
pub recovered_filled : (s : VolState) → is_recovered s ≡ true → IsFilled s
recovered_filled vol.Empty is = absurd (false≢true is)
recovered_filled vol.Clean is = tt
recovered_filled vol.Active is = tt
recovered_filled vol.NeedSync is = tt
recovered_filled vol.Sync is = tt

-- .. and was started before
pub recovered_old : (s : VolState) → is_recovered s ≡ true → is_fresh s ≡ false
recovered_old vol.Empty is = absurd (false≢true is)
recovered_old vol.Clean is = refl
recovered_old vol.Active is = refl
recovered_old vol.NeedSync is = refl
recovered_old vol.Sync is = refl

log_fits : (regions : ℕ) → plex_bytes_of 32 (map_bytes_of regions) ≤ 512 * (35 * (map_bytes_of regions / 512))
log_fits regions = by (parts_of 8192 (512 + parts_of 8 regions))
  where
    by : (units : ℕ) → (3 + 32) * (units * 8192) ≤ 512 * (35 * (units * 8192 / 512))
    by units = omega arith

claims_tell : (copies : ℕ) (claims : ℕ → ℕ → Bool) (told : Option (ℕ → Marks)) → AreClaims copies claims told → Tells told
claims_tell copies claims None are = are
claims_tell copies claims (Some marks) are = tt

-- a volume has a DCO or a log
no_dco : {X : Type 0} (o : Option X) → false ≡ is_some o → o ≡ None
no_dco None is = refl
no_dco (Some x) is = absurd (false≢true is)

module _ {P : Type 0} {ghosts : Ghosts P} (c : Config) (good : ℕ) (v : Vol) (numbers : List ℕ) (old new : Public P ghosts) (running : Running P ghosts) (of : IsVolOf c v) (state : is_recovered v.state ≡ true)
    (form_is : IsFormOf c good v false running.form) (started : IsStarted ghosts.seen v numbers old new running) where
  log_loaded : IsLoadedLog ghosts.seen running.form.shape.geometry started.log.copies (log_of running.volume)
  log_loaded = subst (λ b. IsLogOf ghosts.seen b running.form.shape started.log.copies (log_of running.volume)) (recovered_old v.state state) started.log.log_is

  opened_on : IsOpenedOn ghosts.seen numbers running.form started.regions started.log.copies running.volume
  opened_on = record {
    some = some_count c good v false running.form of form_is;
    long = started.long;
    regions_taken = started.taken;
    copies_taken = started.log.are.taken;
    cut = started.log.cut;
    log_for = loaded_for running.form.shape.geometry started.log.copies (log_of running.volume) log_loaded;
    opened = started.opened;
  }

  -- it lies where its form says
  pub lies : LiesIn ghosts.seen numbers running.form running.volume
  lies = lies_opened numbers running.form started.regions started.log.copies running.volume opened_on

  module _ (contents : ℕ → Contents) (hold : All (Holds contents) (still_pieces ghosts.seen old)) (bytes : Sectors) (sectors : AreSectorsOf good numbers contents bytes) where
    copies_hold : All (λ copy. All (Holds contents) copy) started.log.copies
    copies_hold = started.log.are.hold contents hold

    taken : AreTakenCopies numbers running.form.logs.items (log_sectors running.form.shape.geometry) started.log.copies
    taken = record { long = started.log.are.taken.long; cut = started.log.are.taken.cut }

    -- what the log shows of a copy of the image, with that it tells
    pub record Shown : Type 0 where
      pub copy : LogCopy
      pub one : Contains (image_of c good bytes v).copies copy
      pub shows : ShowsCopy (log_seen ghosts.seen (log_of running.volume)) copy (count_of running.form.shape)
      pub told : Tells (log_seen ghosts.seen (log_of running.volume)).told

    shown_by : (log : VolumeLog P ghosts) → IsLoadedLog ghosts.seen running.form.shape.geometry started.log.copies log → (log_of running.volume ≡ log) → Shown
    shown_by Absent is same =
        let none : v.dco ≡ None = no_dco v.dco (ap (λ l. (log_seen ghosts.seen l).there) (sym same) ∙ started.log.fits.there) in
        let x = absent_shows c good bytes v none (count_of running.form.shape) in
        record { copy = x.0; one = x.1; shows = subst (λ l. ShowsCopy (log_seen ghosts.seen l) x.0 (count_of running.form.shape)) (sym same) x.2; told = subst (λ l. Tells (log_seen ghosts.seen l).told) (sym same) tt }
    shown_by (Maps store) is same =
        let x = loaded_shows c good bytes v running.form form_is numbers contents sectors (log_sectors running.form.shape.geometry) started.log.copies (log_fits (count_of running.form.shape)) taken copies_hold _ _ _ is.1 in
        record { copy = x.0; one = x.1; shows = subst (λ l. ShowsCopy (log_seen ghosts.seen l) x.0 (count_of running.form.shape)) (sym same) x.2; told = subst (λ l. Tells (log_seen ghosts.seen l).told) (sym same) (claims_tell _ _ _ (is.1.told (all_tell contents started.log.copies copies_hold))) }

    pub shown : Shown
    shown = shown_by (log_of running.volume) log_loaded refl

    -- it was opened by that copy
    pub opened_by : IsOpenedBy c good bytes v running.form shown.copy (volume_seen ghosts.seen running.volume)
    opened_by = record {
      of = of;
      fresh = false;
      form_is = form_is;
      numbers = numbers;
      contents = contents;
      sectors = sectors;
      regions = started.regions;
      long = started.long;
      taken = started.taken;
      hold = (started.hold contents hold).0;
      log = log_seen ghosts.seen (log_of running.volume);
      shows = shown.shows;
      opened = started.opened;
      whole = started.whole;
    }
