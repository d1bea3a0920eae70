-- When a volume of the code lies where its form says.
use Rattle.std.specs.Prelude.{◌≡◌, ℕ, ◌<◌, nat_lt, Bool, List, [], ◌++◌, length, slice_index_or}
use Rattle.vx_block.specs.declared.geometry.Geometry.{Geometry}
use Rattle.vx_mapfmt.specs.Bits.{marks}
use Rattle.vx_piece.specs.Seen.{Seen}
use Rattle.vx_runs.specs.Run.{run_contents}
use Rattle.vx_core.specs.declared.stage.Stage.{Stage}
use Rattle.vx_marks.specs.Log.{LogSeen}
use Rattle.vx_cell.specs.Region.{Tells, marks_or}
use Rattle.vx_pages.specs.declared.local_piece.LocalPiece.{Ghosts}
use Rattle.vx_maps.specs.Stores.{shape_of}
use Rattle.vx_volume.specs.declared.log.VolumeLog.{VolumeLog}
use Rattle.vx_volume.specs.declared.log.VolumeLog.TheVariants.{Absent, Maps}
use Rattle.vx_volume.specs.declared.volume.VolumeShape.{VolumeShape}
use Rattle.vx_volume.specs.Opening.{count_of}
use Rattle.vx_volume.specs.declared.volume.Volume.{Volume}
use Rattle.vx_volume.specs.Volume.{VolumeSeen, cell_at, log_of, volume_seen}
use Rattle.vx_lending.specs.RegionPieces.{all_pieces}
use Rattle.vx_lending.specs.RegionsTaken.{AreTakenRegions}
use Rattle.vx_lending.specs.declared.form.VolumeForm.{VolumeForm}
use Rattle.vx_lending.specs.Left.{region_plexes}
use Rattle.vx_lending.specs.Logs.{log_copies}
use Rattle.vx_lending.specs.Pieces.{copy_pieces}
use Rattle.vx_lending.specs.Taken.{log_sectors}
use Rattle.vx_volume_laws.specs.Places.{LieOnLogs}

-- the plexes and relations of a stage are those of the shape, and it is logged or not
pub record HasMasksOf (shape : VolumeShape) (logged : Bool) (s : Stage) : Type 0 where
  pub on : s.on ≡ shape.on
  pub off : s.off ≡ shape.off
  pub snaps : s.snaps ≡ shape.snaps
  pub logged_is : s.logged ≡ logged

-- The log has these copies, and is there where there are some: of each region each copy shows what its bytes mark.
pub record IsLogOver (log : LogSeen) (regions : ℕ) (copies : List (List Seen)) : Type 0 where
  pub there : log.there ≡ nat_lt 0 (length copies)
  pub count : log.copies ≡ length copies
  pub shows : Tells log.told → (n r k : ℕ) → n < length copies → (marks_or log.told r).shows n k ≡ marks regions (run_contents (slice_index_or copies n [])) k r

-- The volume lies where its form says: each region has the plexes that were taken with the form's maps and layouts, and each copy
-- of its log lies where the first blocks of its layout do. It has the form's blocks, regions, plexes and relations.
pub record LiesAs (numbers : List ℕ) (form : VolumeForm) (v : VolumeSeen) (copies : List (List Seen)) : Type 0 where
  pub length_is : v.length ≡ form.shape.geometry.length
  pub region_is : v.region ≡ form.shape.geometry.region
  pub regions : AreTakenRegions numbers form.maps.items form.layouts.items form.shape.geometry.length form.shape.geometry.region (region_plexes v.cells)
  pub masks : (r : ℕ) → r < length v.cells → HasMasksOf form.shape v.log.there (cell_at v r).stage
  pub logs : LieOnLogs numbers form.logs.items (log_sectors form.shape.geometry) copies
  pub log : IsLogOver v.log (count_of form.shape) copies

-- the pieces of its regions, and of the copies of its log
abbrev pub pieces_in : VolumeSeen → List (List Seen) → List Seen
pieces_in v copies = all_pieces (region_plexes v.cells) ++ copy_pieces copies

-- ---- the log of the code

-- the store of a log is one for a volume of these blocks and regions
abbrev pub IsLogFor : {P : Type 0} {ghosts : Ghosts P} → Geometry → VolumeLog P ghosts → Type 0
IsLogFor geometry Absent = Unit {0}
IsLogFor geometry (Maps store) = (shape_of store).geometry ≡ geometry

-- A volume of the code lies where its form says, with regions of its own and a log for them.
pub record LiesIn {P : Type 0} {ghosts : Ghosts P} (seen : P → Seen) (numbers : List ℕ) (form : VolumeForm) (volume : Volume P ghosts) : Type 0 where
  pub some : 0 < count_of form.shape
  pub log_for : IsLogFor form.shape.geometry (log_of volume)
  pub lies : LiesAs numbers form (volume_seen seen volume) (log_copies seen (log_of volume))
