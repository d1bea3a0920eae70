-- A volume that was opened by its log: a copy of the image as it was marks what the log claims, and each copy of the image as it is then does.
use Rattle.std.proofs.Common.{◌≡◌, ◌∙◌, ◌⊎◌, ℕ, ◌+◌, ◌*◌, ◌/◌, ◌<◌, ◌≤◌, Bool, true, false, List, ◌++◌, Option, Some, None, refl, sym, ap, subst, inl, inr, arith}
use Rattle.std.specs.Prelude.{Contains, is_some}
use Rattle.std.specs.List.{All}
use Rattle.std.proofs.lemmas.Bool.{false≢true}
use Rattle.vx_base.specs.Blocks.{Contents}
use Rattle.vx_block.specs.Regions.{region_count}
use Rattle.vx_mask.specs.Marks.{Marks}
use Rattle.vx_mapfmt.specs.Sizes.{map_bytes_of, parts_of, plex_bytes_of}
use Rattle.vx_pages.specs.declared.local_piece.LocalPiece.{Ghosts}
use Rattle.vx_maps.specs.Loading.{AreClaims}
use Rattle.vx_carve.specs.Together.{Holds}
use Rattle.vx_cell.specs.Region.{Tells}
use Rattle.vx_config_parts.specs.declared.vol.Vol.{Vol}
use Rattle.vx_objects.specs.declared.config.Config.{Config}
use Rattle.vx_image.specs.Bytes.{Sectors, image_of}
use Rattle.vx_image.specs.Image.{LogCopy}
use Rattle.vx_image.specs.UsedPlexes.{IsVolOf}
use Rattle.vx_image.proofs.PlexMembers.{IsIn}
use Rattle.vx_volume.specs.declared.log.VolumeLog.{VolumeLog}
use Rattle.vx_volume.specs.declared.log.VolumeLog.TheVariants.{Absent, Maps}
use Rattle.vx_volume.specs.Log.{log_seen}
use Rattle.vx_volume.specs.Opening.{count_of}
use Rattle.vx_volume.specs.Volume.{log_of, volume_seen}
use Rattle.vx_lending.specs.Form.{IsFormOf}
use Rattle.vx_lending.specs.Left.{region_plexes}
use Rattle.vx_lending.specs.Logs.{IsLoadedLog, log_copies}
use Rattle.vx_lending.specs.Pieces.{copy_pieces}
use Rattle.vx_lending.specs.RegionPieces.{all_pieces}
use Rattle.vx_lending.specs.Taken.{log_sectors}
use Rattle.vx_lending.specs.Public.{still_pieces}
use Rattle.vx_lending.specs.declared.public.Public.{Public}
use Rattle.vx_lending.specs.declared.public.Running.{Running}
use Rattle.vx_group_start.specs.Fresh.{is_fresh}
use Rattle.vx_group_start.specs.Logs.{IsLogOf}
use Rattle.vx_group_start.specs.Started.{IsStarted}
use Rattle.vx_volume_laws.specs.Contents.{AreSectorsOf, ShowsCopy}
use Rattle.vx_volume_laws.specs.LoadedLogs.{AreTakenCopies}
use Rattle.vx_volume_laws.specs.Lying.{IsLogOver, LiesIn}
use Rattle.vx_volume_laws.proofs.Configurations.{volume_kept}
use Rattle.vx_volume_laws.proofs.Lasting.{lies_opened}
use Rattle.vx_volume_laws.proofs.LeftCopies.{MarksAsCopy, MarksNothing, copy_now}
use Rattle.vx_volume_laws.proofs.LeftLogs.{log_over}
use Rattle.vx_volume_laws.proofs.Loaded.{absent_shows, all_tell, loaded_shows}
use Rattle.vx_volume_laws.proofs.Spots.{all_right}
use Rattle.vx_group_volumes.proofs.Starts.{opened_on}

-- a copy of a log has room for the change maps
log_fits : (regions : ℕ) → plex_bytes_of 32 (map_bytes_of regions) ≤ 512 * (35 * (map_bytes_of regions / 512))
log_fits regions = by (parts_of 8192 (512 + parts_of 8 regions))
  where
    by : (units : ℕ) → (3 + 32) * (units * 8192) ≤ 512 * (35 * (units * 8192 / 512))
    by units = omega arith

no_dco : {X : Type 0} (o : Option X) → false ≡ is_some o → o ≡ None
no_dco None is = refl
no_dco (Some x) is = absurd (false≢true is)

claims_tell : (copies : ℕ) (claims : ℕ → ℕ → Bool) (told : Option (ℕ → Marks)) → AreClaims copies claims told → Tells told
claims_tell copies claims None are = are
claims_tell copies claims (Some marks) are = tt

module _ {P : Type 0} {ghosts : Ghosts P} (c : Config) (good : ℕ) (v : Vol) (numbers : List ℕ) (old new : Public P ghosts) (running : Running P ghosts) (of : IsVolOf c v) (not_fresh : is_fresh v.state ≡ false)
    (form_is : IsFormOf c good v false running.form) (started : IsStarted ghosts.seen v numbers old new running)
    (contents : ℕ → Contents) (hold : All (Holds contents) (still_pieces ghosts.seen old)) (bytes : Sectors) (sectors : AreSectorsOf good numbers contents bytes) where
  -- what the log shows of a copy of the image as it was, with that it tells
  pub record IsShown : Type 0 where
    pub copy : LogCopy
    pub one : Contains (image_of c good bytes v).copies copy
    pub shows : ShowsCopy (log_seen ghosts.seen (log_of running.volume)) copy (count_of running.form.shape)
    pub told : Tells (log_seen ghosts.seen (log_of running.volume)).told

  copies_hold : All (λ copy. All (Holds contents) copy) started.log.copies
  copies_hold = started.log.are.hold contents hold

  is_loaded : IsLoadedLog ghosts.seen running.form.shape.geometry started.log.copies (log_of running.volume)
  is_loaded = subst (λ b. IsLogOf ghosts.seen b running.form.shape started.log.copies (log_of running.volume)) not_fresh started.log.log_is

  taken : AreTakenCopies numbers running.form.logs.items (log_sectors running.form.shape.geometry) started.log.copies
  taken = record { long = started.log.are.taken.long; cut = started.log.are.taken.cut }

  shown_by : (log : VolumeLog P ghosts) → IsLoadedLog ghosts.seen running.form.shape.geometry started.log.copies log → (log_of running.volume ≡ log) → IsShown
  shown_by Absent is same =
      let none : v.dco ≡ None = no_dco v.dco (ap (λ l. (log_seen ghosts.seen l).there) (sym same) ∙ started.log.fits.there) in
      let x = absent_shows c good bytes v none (count_of running.form.shape) in
      record { copy = x.0; one = x.1; shows = subst (λ l. ShowsCopy (log_seen ghosts.seen l) x.0 (count_of running.form.shape)) (sym same) x.2; told = subst (λ l. Tells (log_seen ghosts.seen l).told) (sym same) tt }
  shown_by (Maps store) is same =
      let x = loaded_shows c good bytes v running.form form_is numbers contents sectors (log_sectors running.form.shape.geometry) started.log.copies (log_fits (count_of running.form.shape)) taken copies_hold _ _ _ is.1 in
      record { copy = x.0; one = x.1; shows = subst (λ l. ShowsCopy (log_seen ghosts.seen l) x.0 (count_of running.form.shape)) (sym same) x.2; told = subst (λ l. Tells (log_seen ghosts.seen l).told) (sym same) (claims_tell _ _ _ (is.1.told (all_tell contents started.log.copies copies_hold))) }

  pub is_shown : IsShown
  is_shown = shown_by (log_of running.volume) is_loaded refl

  -- ---- the image as it is then

  module _ (form_too : IsFormOf c good v (is_fresh v.state) running.form) (later : ℕ → Contents) (hold' : All (Holds later) (all_pieces (region_plexes (volume_seen ghosts.seen running.volume).cells) ++ copy_pieces (log_copies ghosts.seen (log_of running.volume))))
      (bytes' : Sectors) (sectors' : AreSectorsOf good numbers later bytes') where
    lies : LiesIn ghosts.seen numbers running.form running.volume
    lies = lies_opened numbers running.form started.regions started.log.copies running.volume (opened_on c good v numbers old new running of form_too started)

    over : IsLogOver (log_seen ghosts.seen (log_of running.volume)) (count_of running.form.shape) (log_copies ghosts.seen (log_of running.volume))
    over = log_over running.form.shape.geometry (log_of running.volume) lies.log_for lies.some

    own : All (Holds later) (copy_pieces (log_copies ghosts.seen (log_of running.volume)))
    own = all_right (Holds later) (all_pieces (region_plexes (volume_seen ghosts.seen running.volume).cells)) (copy_pieces (log_copies ghosts.seen (log_of running.volume))) hold'

    same_count : count_of running.form.shape ≡ region_count v.len v.region
    same_count =
        ap (λ n. region_count n running.form.shape.geometry.region) form_is.shape_is.length_is
        ∙ ap (λ n. region_count v.len n) form_is.shape_is.region_is

    -- what a copy marks then is claimed
    pub is_claimed : (x : LogCopy) → IsIn (image_of c good bytes' v).copies x → (r k : ℕ) → r < region_count v.len v.region → x r k ≡ true → (log_seen ghosts.seen (log_of running.volume)).claims r k ≡ true
    is_claimed x there r k lt set = by (copy_now c good v false running.form form_is numbers (log_copies ghosts.seen (log_of running.volume)) lies.lies.logs later own c good v (volume_kept c good v) bytes' sectors' x there)
      where
        inside : r < count_of running.form.shape
        inside = let same = same_count in omega (arith, lt, same)

        by : MarksNothing c good v false running.form form_is numbers (log_copies ghosts.seen (log_of running.volume)) lies.lies.logs later own c good v (volume_kept c good v) bytes' sectors' x
            ⊎ MarksAsCopy c good v false running.form form_is numbers (log_copies ghosts.seen (log_of running.volume)) lies.lies.logs later own c good v (volume_kept c good v) bytes' sectors' x →
            (log_seen ghosts.seen (log_of running.volume)).claims r k ≡ true
        by (inl nothing) = absurd (false≢true (sym (nothing.clear r k) ∙ set))
        by (inr it) =
            let s = is_shown.shows in
            let few : it.copy < (log_seen ghosts.seen (log_of running.volume)).copies = let count = over.count in let low = it.inside in omega (arith, count, low) in
            s.claims r k inside ∙ sym (s.shows r it.copy k inside few) ∙ over.shows is_shown.told it.copy r k it.inside ∙ sym (it.marks_are r k) ∙ set
