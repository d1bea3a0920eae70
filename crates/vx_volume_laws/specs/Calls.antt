-- That a volume goes on lying where its form says.
use Rattle.std.specs.Prelude.{◌≡◌, ℕ, ◌<◌, List, [], ◌∷◌, length, Result}
use Rattle.vx_piece.specs.Seen.{Seen}
use Rattle.vx_runs.specs.Run.{EachPiece}
use Rattle.vx_core.specs.Follow.{SameMasks}
use Rattle.vx_marks.specs.Log.{LogSeen}
use Rattle.vx_pages.specs.declared.local_piece.LocalPiece.{Ghosts}
use Rattle.vx_pages.specs.Sector.{KeepsPiece}
use Rattle.vx_maps.specs.Going.{CopiesGo, CutCopiesGo}
use Rattle.vx_cell.specs.Plexes.{PlexSeen}
use Rattle.vx_volume.specs.declared.fault.IoFault.{IoFault}
use Rattle.vx_volume.specs.declared.receipt.Receipt.{Receipt}
use Rattle.vx_volume.specs.Calls.{ReadEnds, WriteEndsAll}
use Rattle.vx_volume.specs.Opening.{IsOpened, count_of}
use Rattle.vx_volume.specs.Passes.{Clears, CopyEnds, PassEnds, Settles}
use Rattle.vx_volume.specs.declared.volume.Volume.{Volume}
use Rattle.vx_volume.specs.Log.{log_seen}
use Rattle.vx_volume.specs.Volume.{VolumeSeen, cell_at, log_of, volume_seen}
use Rattle.vx_lending.specs.declared.form.VolumeForm.{VolumeForm}
use Rattle.vx_lending.specs.RegionsTaken.{AreTakenRegions}
use Rattle.vx_lending.specs.Logs.{log_copies}
use Rattle.vx_lending.specs.Taken.{AreTakenCopies, log_sectors}
use Rattle.vx_volume_laws.specs.Lying.{IsLogFor, IsLogOver, LiesAs}
use Rattle.vx_volume_laws.specs.Places.{IsSamePlace}

-- ---- as it is opened

-- A volume that is opened with its form over regions that were taken with the form's maps and layouts, by a log over the copies that
-- were taken with its logs, however they were cut and called since, lies where the form says.
abbrev pub EachOpenedVolumeLies : Type 0
EachOpenedVolumeLies =
    (numbers : List ℕ) (form : VolumeForm) (regions : List (List PlexSeen)) → length regions ≡ count_of form.shape →
    AreTakenRegions numbers form.maps.items form.layouts.items form.shape.geometry.length form.shape.geometry.region regions →
    (taken copies : List (List Seen)) → AreTakenCopies numbers form.logs.items (log_sectors form.shape.geometry) taken → CutCopiesGo KeepsPiece taken copies →
    (log : LogSeen) → IsLogOver log (count_of form.shape) copies →
    (v : VolumeSeen) → IsOpened form.shape log regions v → LiesAs numbers form v copies

-- ---- as it is called

-- the plex has its map, and its pieces have the sectors that they had
pub record StaysPlex (old new : PlexSeen) : Type 0 where
  pub same_map : new.map ≡ old.map
  pub pieces : EachPiece IsSamePlace old.pieces new.pieces

abbrev pub StayPlexes : List PlexSeen → List PlexSeen → Type 0
StayPlexes [] [] = Unit {0}
StayPlexes (p ∷ ps) (q ∷ qs) = StaysPlex p q × StayPlexes ps qs
StayPlexes _ _ = ⊥

-- what keeps a volume where it lies: its regions are those, with their pieces, plexes and relations, and it has a log or none
pub record KeepsPlaces (old new : VolumeSeen) : Type 0 where
  pub length_is : new.length ≡ old.length
  pub region_is : new.region ≡ old.region
  pub count : length new.cells ≡ length old.cells
  pub plexes : (r : ℕ) → r < length old.cells → StayPlexes (cell_at old r).plexes (cell_at new r).plexes
  pub masks : (r : ℕ) → r < length old.cells → SameMasks (cell_at old r).stage (cell_at new r).stage
  pub there : new.log.there ≡ old.log.there

-- So it goes on lying there, where each piece of its log has the sectors that it had.
abbrev pub EachKeptVolumeLies : Type 0
EachKeptVolumeLies =
    (numbers : List ℕ) (form : VolumeForm) (old new : VolumeSeen) (copies copies' : List (List Seen)) → LiesAs numbers form old copies →
    KeepsPlaces old new → CopiesGo IsSamePlace copies copies' → IsLogOver new.log (count_of form.shape) copies' → LiesAs numbers form new copies'

-- One thing that keeps it after another keeps it.
abbrev pub EachKeepingKeeps : Type 0
EachKeepingKeeps = (old mid new : VolumeSeen) → KeepsPlaces old mid → KeepsPlaces mid new → KeepsPlaces old new

-- A read keeps it, ..
abbrev pub EachReadKeeps : Type 0
EachReadKeeps = (start : ℕ) (old new : VolumeSeen) (result : Result (Unit {0}) IoFault) (before after : Receipt) → ReadEnds start old new result before after → KeepsPlaces old new

-- .. and a write, ..
abbrev pub EachWriteKeeps : Type 0
EachWriteKeeps = (start : ℕ) (from : List ℕ) (old new : VolumeSeen) (result : Result (Unit {0}) IoFault) (before after : Receipt) → WriteEndsAll start from old new result before after → KeepsPlaces old new

-- .. and each pass.
abbrev pub EachSettlingKeeps : Type 0
EachSettlingKeeps = (old new : VolumeSeen) (result : Result (Unit {0}) IoFault) → PassEnds Settles old new result → KeepsPlaces old new

abbrev pub EachClearingKeeps : Type 0
EachClearingKeeps = (old new : VolumeSeen) (result : Result (Unit {0}) IoFault) → PassEnds Clears old new result → KeepsPlaces old new

abbrev pub EachCopyKeeps : Type 0
EachCopyKeeps = (map : ℕ) (old new : VolumeSeen) (result : Result ℕ IoFault) → CopyEnds map old new result → KeepsPlaces old new

-- ---- a volume of the code

-- What is known of a volume as it was opened with its form over the regions and the copies that were taken.
pub record IsOpenedOn {P : Type 0} {ghosts : Ghosts P} (seen : P → Seen) (numbers : List ℕ) (form : VolumeForm) (regions : List (List PlexSeen)) (taken : List (List Seen)) (volume : Volume P ghosts) : Type 0 where
  pub some : 0 < count_of form.shape
  pub long : length regions ≡ count_of form.shape
  pub regions_taken : AreTakenRegions numbers form.maps.items form.layouts.items form.shape.geometry.length form.shape.geometry.region regions
  pub copies_taken : AreTakenCopies numbers form.logs.items (log_sectors form.shape.geometry) taken
  pub cut : CutCopiesGo KeepsPiece taken (log_copies seen (log_of volume))
  pub log_for : IsLogFor form.shape.geometry (log_of volume)
  pub opened : IsOpened form.shape (log_seen seen (log_of volume)) regions (volume_seen seen volume)
