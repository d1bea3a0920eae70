-- What the form of a volume is good for as it is started.
use Rattle.std.proofs.Common.{◌≡◌, ◌≢◌, ℕ, ◌*◌, ◌/◌, ◌<◌, ◌≤◌, ◌^◌, Bool, true, false, List, length, Option, Some, None, refl, sym, ap, ◌∙◌, arith}
use Rattle.std.specs.Prelude.{is_some, nat_lt, slice_index_or}
use Rattle.std.proofs.lemmas.Bool.{false≢true}
use Rattle.std.proofs.lemmas.Bool.Decides.{nat_tests}
use Rattle.vx_block.specs.Regions.{region_count}
use Rattle.vx_mapfmt.specs.Sizes.{map_bytes_of, plex_bytes_of}
use Rattle.vx_mask.specs.Mask.{lowest}
use Rattle.vx_mask.proofs.MaskLemmas.{lowest_there}
use Rattle.vx_marks.specs.Log.{LogSeen}
use Rattle.vx_cell.specs.Plexes.{PlexSeen}
use Rattle.vx_layout.specs.Columns.{capacity}
use Rattle.vx_layout.specs.declared.layout.Layout.{Layout}
use Rattle.vx_config_parts.specs.declared.vol.Vol.{Vol}
use Rattle.vx_objects.specs.declared.config.Config.{Config}
use Rattle.vx_volume.specs.declared.volume.VolumeShape.{VolumeShape}
use Rattle.vx_volume.specs.Opening.{AreOpenable, count_of}
use Rattle.vx_lending.specs.declared.form.VolumeForm.{VolumeForm}
use Rattle.vx_lending.specs.Form.{IsFormOf}
use Rattle.vx_lending.specs.FormLaws.{HasLogs, HasOn, IsLogFor}
use Rattle.vx_image.specs.UsedPlexes.{IsVolOf}
use Rattle.vx_lending.proofs.Bits.{maps, masks}
use Rattle.vx_lending.specs.RegionsTaken.{AreTakenRegions}
use Rattle.vx_lending.proofs.Openable.{regions_open}
use Rattle.vx_lending.specs.Taken.{HaveBlocks, log_sectors}

-- ---- room for the log

room_at : (m cap : ℕ) → plex_bytes_of 32 m ≤ 512 * cap → 35 * (m / 512) ≤ cap
room_at m cap le = omega (arith, le)

pub roomy : (v : Vol) (form : VolumeForm) → HasLogs v form → HaveBlocks (log_sectors form.shape.geometry) form.logs.items
roomy v form has k d lt = room_at (map_bytes_of (region_count form.shape.geometry.length form.shape.geometry.region)) (capacity (slice_index_or form.logs.items k d).columns) (has.room k d lt)

-- ---- its masks

pub some_on : (shape : VolumeShape) → shape.on < 2 ^ 64 → shape.on ≢ 0 → HasOn shape
some_on shape fits some = (lowest shape.on, (lowest_there shape.on some fits).0)

there_on : (v : Vol) (form : VolumeForm) (log : LogSeen) → IsLogFor v log → form.shape.on < 2 ^ 64 → (is_some v.dco ≡ false → form.shape.on ≢ 0) → log.there ≡ false → HasOn form.shape
there_on v form log for fits some none = some_on form.shape fits (some (sym for.there ∙ none))

pub openable : (c : Config) (good : ℕ) (v : Vol) (fresh : Bool) (form : VolumeForm) → IsVolOf c v → IsFormOf c good v fresh form → (is_some v.dco ≡ false → form.shape.on ≢ 0) → (numbers : List ℕ) (log : LogSeen) (regions : List (List PlexSeen)) → IsLogFor v log → length regions ≡ count_of form.shape →
    AreTakenRegions numbers form.maps.items form.layouts.items form.shape.geometry.length form.shape.geometry.region regions → AreOpenable form.shape log regions
openable c good v fresh form of is some numbers log regions for long taken =
    regions_open form.shape log numbers form.maps.items form.layouts.items regions (masks c good v of form.shape is.shape_is log for (there_on v form log for is.shape_is.on.fits some)) (maps c good v of form.shape is.shape_is form.maps.items is.maps) long taken

-- ---- whether there are logs

pub logged : (dco : Bool) (n : ℕ) → (dco ≡ true → 0 < n) → (dco ≡ false → n ≡ 0) → dco ≡ nat_lt 0 n
logged true n some none = let lt = some refl in grind (arith, nat_tests)
logged false n some none = let e = none refl in grind (arith, nat_tests)

without : {A : Type 0} (o : Option A) → is_some o ≡ false → o ≡ None
without None e = refl
without (Some x) e = absurd (false≢true (sym e))

pub no_logs : (v : Vol) (form : VolumeForm) → HasLogs v form → is_some v.dco ≡ false → length form.logs.items ≡ 0
no_logs v form has none = ap (λ (ls : List Layout). length ls) (has.none (without v.dco none))
