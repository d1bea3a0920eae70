-- The start of a volume that was EMPTY: its log was made new, and then it is recorded.
use Rattle.std.specs.Prelude.{◌≡◌, ℕ, ◌<◌, Bool, true, false, not, nat_le, None, List, [], length, slice_index_or, Contains}
use Rattle.std.specs.List.{All, AllZip, list_all}
use Rattle.vx_base.specs.Blocks.{Contents}
use Rattle.vx_block.specs.Regions.{region_count}
use Rattle.vx_block.specs.declared.geometry.Geometry.{Geometry}
use Rattle.vx_mask.specs.Mask.{has}
use Rattle.vx_piece.specs.Seen.{Seen}
use Rattle.vx_runs.specs.Run.{run_contents}
use Rattle.vx_maps.specs.Creating.{AllTell}
use Rattle.vx_marks.specs.Log.{LogSeen}
use Rattle.vx_cell.specs.Region.{Tells, marks_or}
use Rattle.vx_carve.specs.Together.{Holds}
use Rattle.vx_config_parts.specs.declared.plex.Plex.{Plex}
use Rattle.vx_config_parts.specs.declared.state.VolState.TheVariants as vol
use Rattle.vx_config_parts.specs.declared.vol.Vol.{Vol}
use Rattle.vx_objects.specs.declared.config.Config.{Config}
use Rattle.vx_image.specs.Image.{IsFilled, LogCopy}
use Rattle.vx_image.specs.Bytes.{Sectors, image_of, is_held, map_or_zero, plex_contents, relation_maps}
use Rattle.vx_volume.specs.Log.{absent_log}
use Rattle.vx_volume.specs.Opening.{count_of}
use Rattle.vx_volume_laws.specs.Start.{IsStartOf}
use Rattle.vx_lending.specs.declared.form.VolumeForm.{VolumeForm}
use Rattle.vx_image.specs.UsedPlexes.{IsVolOf, used_logs}
use Rattle.vx_lending.specs.Form.{IsFormOf}
use Rattle.vx_lending.specs.FormLaws.{HasOn}
use Rattle.vx_lending.specs.Logs.{log_header, marked_maps}
use Rattle.vx_lending.specs.Pieces.{copy_pieces}
use Rattle.vx_lending.specs.Taken.{log_sectors}
use Rattle.vx_volume_laws.specs.Contents.{AreSectorsOf, ShowsCopy}
use Rattle.vx_volume_laws.specs.Keeping.{KeepsVolume, data_plexes}
use Rattle.vx_volume_laws.specs.Lying.{IsLogOver}
use Rattle.vx_volume_laws.specs.Places.{LieOnLogs}

-- ---- the log

-- no plex of these has a lower map
abbrev pub is_lowest : List Plex → Plex → Bool
is_lowest ps p = list_all (λ (q : Plex). nat_le (map_or_zero p.map) (map_or_zero q.map)) ps

-- of the maps of these plexes the mask has all but the lowest
abbrev pub HasOthers : ℕ → List Plex → Type 0
HasOthers mask ps = (p : Plex) → Contains ps p → has mask (map_or_zero p.map) ≡ not (is_lowest ps p)

-- The log was made new: of each region just the maps of the mask are claimed and shown, and nothing is loose; and each copy begins
-- with the header.
pub record IsNewLog (geometry : Geometry) (mask : ℕ) (log : LogSeen) (copies : List (List Seen)) : Type 0 where
  pub claims : (r k : ℕ) → r < region_count geometry.length geometry.region → log.claims r k ≡ marked_maps mask k
  pub shows : (r n k : ℕ) → r < region_count geometry.length geometry.region → (marks_or log.told r).shows n k ≡ marked_maps mask k
  pub tight : (r k : ℕ) → r < region_count geometry.length geometry.region → (marks_or log.told r).loose k ≡ false
  pub tells : Tells log.told
  pub heads : AllTell copies → (n : ℕ) → n < length copies → run_contents (slice_index_or copies n []) 0 ≡ log_header geometry

-- ---- the configurations

-- the plex has its map, all its disks are good just where they were, and each of its blocks is as it was
pub record IsSameBy (c0 : Config) (bytes0 : Sectors) (c : Config) (bytes : Sectors) (good : ℕ) (p q : Plex) : Type 0 where
  pub map : map_or_zero q.map ≡ map_or_zero p.map
  pub held : is_held c good q ≡ is_held c0 good p
  pub values : (b : ℕ) → plex_contents c bytes q b ≡ plex_contents c0 bytes0 p b

-- The volume was EMPTY and is recorded otherwise, by a configuration that keeps it. It has no relations, and its data plexes hold
-- what they held.
pub record RecordsStart (c0 : Config) (good0 : ℕ) (v0 : Vol) (bytes0 : Sectors) (c : Config) (good : ℕ) (v : Vol) (bytes : Sectors) : Type 0 where
  pub keeps : KeepsVolume c0 good0 v0 true c good v
  pub empty_is : v0.state ≡ vol.Empty
  pub filled : IsFilled v.state
  pub alone : relation_maps c.snaps v.name ≡ []
  pub plexes : AllZip (IsSameBy c0 bytes0 c bytes good) (data_plexes c0 v0.name) (data_plexes c v.name)

-- ---- laws

-- Where the log was made new over the copies that the form has, with the mask of all maps but the lowest, and one of its plexes
-- counts now: the image is the start of the one that was EMPTY, and the log shows what a copy of it marks.
abbrev pub EachStartIsRecorded : Type 0
EachStartIsRecorded =
    (c0 : Config) (good0 : ℕ) (v0 : Vol) (form : VolumeForm) → IsVolOf c0 v0 → IsFormOf c0 good0 v0 true form → HasOn form.shape →
    (numbers : List ℕ) (copies : List (List Seen)) → LieOnLogs numbers form.logs.items (log_sectors form.shape.geometry) copies →
    (mask : ℕ) → HasOthers mask (data_plexes c0 v0.name) →
    (log : LogSeen) → IsLogOver log (count_of form.shape) copies → IsNewLog form.shape.geometry mask log copies →
    (contents : ℕ → Contents) → All (Holds contents) (copy_pieces copies) →
    (bytes0 : Sectors) (c : Config) (good : ℕ) (v : Vol) (bytes : Sectors) → AreSectorsOf good numbers contents bytes → RecordsStart c0 good0 v0 bytes0 c good v bytes →
    (q : Plex) → Contains (used_logs v.dco c good false v.name) q →
    IsStartOf (image_of c0 good bytes0 v0) (image_of c good bytes v)
    × (copy : LogCopy) × Contains (image_of c good bytes v).copies copy × ShowsCopy log copy (count_of form.shape)

-- So it is without a DCO, where the one data plex is not marked.
abbrev pub EachPlainStartIsRecorded : Type 0
EachPlainStartIsRecorded =
    (c0 : Config) (good0 : ℕ) (v0 : Vol) (form : VolumeForm) → IsVolOf c0 v0 → IsFormOf c0 good0 v0 true form → HasOn form.shape → v0.dco ≡ None →
    (bytes0 : Sectors) (c : Config) (good : ℕ) (v : Vol) (bytes : Sectors) → RecordsStart c0 good0 v0 bytes0 c good v bytes →
    IsStartOf (image_of c0 good bytes0 v0) (image_of c good bytes v)
    × (copy : LogCopy) × Contains (image_of c good bytes v).copies copy × ShowsCopy absent_log copy (count_of form.shape)
