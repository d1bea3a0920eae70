-- What the log of a volume that was to be started shows: one that was loaded what a copy of the image marks, and a new one the lowest plex
-- unmarked.
use Rattle.std.proofs.Common.{◌≡◌, ◌∙◌, ℕ, ◌+◌, ◌*◌, ◌/◌, ◌<◌, ◌≤◌, true, false, List, Option, Some, None, refl, sym, ap, subst, arith}
use Rattle.std.specs.Prelude.{nat_lt, is_some, Contains}
use Rattle.std.specs.List.{All}
use Rattle.std.proofs.lemmas.Bool.{and_parts, false≢true}
use Rattle.vx_base.specs.Blocks.{Contents}
use Rattle.vx_block.specs.Regions.{region_count}
use Rattle.vx_block.specs.declared.geometry.Geometry.{Geometry}
use Rattle.vx_piece.specs.Seen.{Seen}
use Rattle.vx_mask.specs.Mask.{above_lowest, has, lowest, only}
use Rattle.vx_mask.proofs.MaskLemmas.{has-lt, has-only_same}
use Rattle.vx_mask.proofs.Sets.{out_of}
use Rattle.vx_carve.specs.Together.{Holds}
use Rattle.vx_pages.specs.declared.local_piece.LocalPiece.{Ghosts}
use Rattle.vx_config_parts.specs.declared.vol.Vol.{Vol}
use Rattle.vx_objects.specs.declared.config.Config.{Config}
use Rattle.vx_image.specs.Image.{LogCopy}
use Rattle.vx_image.specs.Bytes.{Sectors, image_of}
use Rattle.vx_image.specs.UsedPlexes.{IsVolOf}
use Rattle.vx_mapfmt.specs.Sizes.{map_bytes_of, parts_of, plex_bytes_of}
use Rattle.vx_volume.specs.declared.log.VolumeLog.{VolumeLog}
use Rattle.vx_volume.specs.declared.log.VolumeLog.TheVariants.{Absent, Maps}
use Rattle.vx_volume.specs.Log.{log_seen}
use Rattle.vx_volume.specs.Opening.{IsFirstUnread, count_of}
use Rattle.vx_lending.specs.Form.{IsFormOf}
use Rattle.vx_lending.specs.declared.form.VolumeForm.{VolumeForm}
use Rattle.vx_lending.specs.Logs.{IsFreshLog, IsLoadedLog}
use Rattle.vx_lending.specs.Taken.{log_sectors}
use Rattle.vx_volume_laws.specs.Contents.{AreSectorsOf, ShowsCopy}
use Rattle.vx_volume_laws.specs.LoadedLogs.{AreTakenCopies}
use Rattle.vx_volume_laws.proofs.Loaded.{absent_shows, loaded_shows}
use Rattle.vx_group_start.specs.Fresh.{all_maps, is_fresh, maps_to_copy}
use Rattle.vx_group_start.specs.Logs.{IsLogOf, IsStartLog}
use Rattle.vx_stages.specs.Starting.{IsFirstMissed}
use Rattle.vx_stage_volumes.specs.Early.{has_current}
use Rattle.vx_stage_volumes.proofs.FirstMissed.{first_missed}

-- a copy of a log has room for the change maps
log_fits : (regions : ℕ) → plex_bytes_of 32 (map_bytes_of regions) ≤ 512 * (35 * (map_bytes_of regions / 512))
log_fits regions = by (parts_of 8192 (512 + parts_of 8 regions))
  where
    by : (units : ℕ) → (3 + 32) * (units * 8192) ≤ 512 * (35 * (units * 8192 / 512))
    by units = omega arith

no_dco : {X : Type 0} (o : Option X) → false ≡ is_some o → o ≡ None
no_dco None is = refl
no_dco (Some x) is = absurd (false≢true is)

module _ {P : Type 0} {ghosts : Ghosts P} (see : P → Seen) (c : Config) (good : ℕ) (v : Vol) (numbers : List ℕ) (form : VolumeForm) (before : List Seen) (of : IsVolOf c v) (log : VolumeLog P ghosts) (start : IsStartLog see v numbers form before log) where
  -- ---- one that was loaded

  module _ (form_is : IsFormOf c good v false form) (old : is_fresh v.state ≡ false) (contents : ℕ → Contents) (hold : All (Holds contents) before) (bytes : Sectors) (sectors : AreSectorsOf good numbers contents bytes) where
    taken : AreTakenCopies numbers form.logs.items (log_sectors form.shape.geometry) start.copies
    taken = record { long = start.are.taken.long; cut = start.are.taken.cut }

    is_loaded : IsLoadedLog see form.shape.geometry start.copies log
    is_loaded = subst (λ b. IsLogOf see b form.shape start.copies log) old start.log_is

    shown_by : (l : VolumeLog P ghosts) → IsLoadedLog see form.shape.geometry start.copies l → (log_seen see l).there ≡ is_some v.dco →
        (copy : LogCopy) × Contains (image_of c good bytes v).copies copy × ShowsCopy (log_seen see l) copy (count_of form.shape)
    shown_by Absent is there = absent_shows c good bytes v (no_dco v.dco there) (count_of form.shape)
    shown_by (Maps store) is there =
        loaded_shows c good bytes v form form_is numbers contents sectors (log_sectors form.shape.geometry) start.copies
        (log_fits (count_of form.shape)) taken (start.are.hold contents hold) _ _ _ is.1

    -- the first region without a current plex is missed in the image
    pub unread_missed : (r : ℕ) → IsFirstUnread form.shape (log_seen see log) r → IsFirstMissed (image_of c good bytes v) r
    unread_missed r first =
        let s = shown_by log is_loaded start.fits.there in
        first_missed c good bytes v false form of form_is (log_seen see log) s.0 s.1 s.2.claims r first

  -- ---- a new one

  module _ (form_is : IsFormOf c good v (is_fresh v.state) form) (new : is_fresh v.state ≡ true) (on : has_current true form.shape ≡ true) where
    is_new_log : IsFreshLog see form.shape.geometry (maps_to_copy form.shape) start.copies log
    is_new_log = subst (λ b. IsLogOf see b form.shape start.copies log) new start.log_is

    claimed : (geometry : Geometry) (mask r k : ℕ) (l : VolumeLog P ghosts) → IsFreshLog see geometry mask start.copies l → (log_seen see l).has_region r ≡ true → (log_seen see l).claims r k ≡ true → has mask k ≡ true
    claimed geometry mask r k Absent is region claims = absurd (false≢true claims)
    claimed geometry mask r k (Maps store) is region claims = (and_parts (nat_lt k 32) (has mask k) (sym (is.claims r k region) ∙ claims)).1

    same_count : count_of form.shape ≡ region_count v.len v.region
    same_count =
        ap (λ n. region_count n form.shape.geometry.region) form_is.shape_is.length_is
        ∙ ap (λ n. region_count v.len n) form_is.shape_is.region_is

    -- so some plex is current in each region
    pub none_unread : (r : ℕ) → IsFirstUnread form.shape (log_seen see log) r → ⊥
    none_unread r first = by (lowest (all_maps form.shape)) refl
      where
        by : (k : ℕ) → k ≡ lowest (all_maps form.shape) → ⊥
        by k is =
            let has_low : has form.shape.on k ≡ true = subst (λ n. has form.shape.on n ≡ true) (sym is) on in
            let small : k < 64 = has-lt form.shape.on k form_is.shape_is.on.fits has_low in
            let inside : r < region_count v.len v.region = subst (λ n. r < n) same_count first.inside in
            let all = all_maps form.shape in
            let marked : has (maps_to_copy form.shape) k ≡ true =
            claimed form.shape.geometry (maps_to_copy form.shape) r k log is_new_log (start.fits.regions r inside) (first.none k has_low) in
            let clear : has (above_lowest all) k ≡ false =
            out_of all (only (lowest all)) k (subst (λ n. has (only n) k ≡ true) is (has-only_same k small)) in
            false≢true (sym clear ∙ marked)
