-- A log that was loaded shows what a copy of the image marks.
use Rattle.std.specs.Prelude.{◌≡◌, ℕ, ◌*◌, ◌≤◌, ◌<◌, false, List, [], length, slice_index_or, None, Contains}
use Rattle.std.specs.List.{All}
use Rattle.vx_base.specs.Blocks.{Contents}
use Rattle.vx_mapfmt.specs.Header.{maps_header}
use Rattle.vx_mapfmt.specs.Sizes.{map_bytes_of, plex_bytes_of}
use Rattle.vx_piece.specs.Seen.{Seen}
use Rattle.vx_marks.specs.Log.{LogSeen}
use Rattle.vx_layout.specs.declared.layout.Layout.{Layout}
use Rattle.vx_carve.specs.Carved.{AreCut}
use Rattle.vx_carve.specs.Together.{Holds}
use Rattle.vx_maps.specs.Loading.{IsLoaded}
use Rattle.vx_config_parts.specs.declared.vol.Vol.{Vol}
use Rattle.vx_objects.specs.declared.config.Config.{Config}
use Rattle.vx_image.specs.Image.{LogCopy}
use Rattle.vx_image.specs.Bytes.{Sectors, image_of}
use Rattle.vx_volume.specs.Log.{absent_log}
use Rattle.vx_volume.specs.Opening.{count_of}
use Rattle.vx_lending.specs.declared.form.VolumeForm.{VolumeForm}
use Rattle.vx_lending.specs.Form.{IsFormOf}
use Rattle.vx_volume_laws.specs.Contents.{AreSectorsOf, ShowsCopy}

-- Of each layout the pieces of its first so many sectors were taken, in block order.
pub record AreTakenCopies (numbers : List ℕ) (layouts : List Layout) (count : ℕ) (copies : List (List Seen)) : Type 0 where
  pub long : length copies ≡ length layouts
  pub cut : (k : ℕ) (d : Layout) → k < length layouts → AreCut numbers (slice_index_or layouts k d).unit (slice_index_or layouts k d).columns 0 count (slice_index_or copies k [])

-- Where the copies of the log of a volume that is not EMPTY were taken, at least the sectors of its change maps, and a log was
-- loaded from them, it shows what a copy of the volume's image marks.
abbrev pub EachLoadedLogShowsACopy : Type 0
EachLoadedLogShowsACopy =
    (c : Config) (good : ℕ) (bytes : Sectors) (v : Vol) (form : VolumeForm) → IsFormOf c good v false form →
    (numbers : List ℕ) (contents : ℕ → Contents) → AreSectorsOf good numbers contents bytes →
    (count : ℕ) (copies : List (List Seen)) → plex_bytes_of 32 (map_bytes_of (count_of form.shape)) ≤ 512 * count → AreTakenCopies numbers form.logs.items count copies → All (λ copy. All (Holds contents) copy) copies →
    (counts : ℕ → ℕ → ℕ) (new : List (List Seen)) (log : LogSeen) → IsLoaded (maps_header form.shape.geometry.length form.shape.geometry.region 32) (count_of form.shape) copies counts new log →
    (copy : LogCopy) × Contains (image_of c good bytes v).copies copy × ShowsCopy log copy (count_of form.shape)

-- Without a DCO the absent log shows the one copy of the image, which marks nothing.
abbrev pub EachAbsentLogShowsACopy : Type 0
EachAbsentLogShowsACopy =
    (c : Config) (good : ℕ) (bytes : Sectors) (v : Vol) → v.dco ≡ None → (regions : ℕ) →
    (copy : LogCopy) × Contains (image_of c good bytes v).copies copy × ShowsCopy absent_log copy regions
