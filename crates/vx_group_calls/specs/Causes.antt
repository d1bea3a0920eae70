-- Why a call of a running volume was not done.
use Rattle.std.specs.Prelude.{◌≡◌, ◌⊎◌, ℕ, ◌<◌, true, false, List, length}
use Rattle.vx_base.specs.Counts.{Rose}
use Rattle.vx_life.specs.declared.Part.{Part}
use Rattle.vx_mask.specs.Mask.{has}
use Rattle.vx_core.specs.declared.stage.Phase.TheVariants.{Dead}
use Rattle.vx_carve.specs.Together.{faults_on}
use Rattle.vx_piece.specs.Seen.{Seen}
use Rattle.vx_runs.specs.Run.{SomeCut}
use Rattle.vx_pages.specs.declared.local_piece.LocalPiece.{Ghosts}
use Rattle.vx_cell.specs.Plexes.{PlexRose, RoseAt}
use Rattle.vx_cell.specs.Region.{IsCut}
use Rattle.vx_volume.specs.Volume.{VolumeSeen, cell_at, log_of, region_at, volume_seen}
use Rattle.vx_volume.specs.declared.volume.Volume.{Volume}
use Rattle.vx_lending.specs.Left.{held_pieces}
use Rattle.vx_lending.specs.Logs.{log_pieces}
use Rattle.vx_stages.specs.GroupCalls.{IsLastPart}
use Rattle.vx_group_calls.specs.declared.served.Served.{Served}
use Rattle.vx_group_calls.specs.declared.served.Served.TheVariants.{Done, Fault, Lost}

-- a region is dead only where a piece of it or of the log is cut
abbrev pub AreCutWhereDead : VolumeSeen → Type 0
AreCutWhereDead v = (r : ℕ) → r < length v.cells → (cell_at v r).stage.phase ≡ Dead → IsCut (region_at v r)

-- the log has failed: the count of a device rose among its pieces, and so among all of the volume
pub record LogPiecesRose {P : Type 0} {ghosts : Ghosts P} (see : P → Seen) (old new : Volume P ghosts) : Type 0 where
  pub device : ℕ
  pub log : Rose (faults_on device (log_pieces see (log_of old))) (faults_on device (log_pieces see (log_of new)))
  pub held : Rose (faults_on device (held_pieces see old)) (faults_on device (held_pieces see new))

-- the log has failed, or each plex has in this region that was on and unmarked there
abbrev pub CurrentFailed : {P : Type 0} {ghosts : Ghosts P} → (P → Seen) → Volume P ghosts → Volume P ghosts → ℕ → Type 0
CurrentFailed see old new region =
    LogPiecesRose see old new ⊎
    ((map : ℕ) → has (cell_at (volume_seen see old) region).stage.on map ≡ true → has (cell_at (volume_seen see old) region).stage.bits map ≡ false →
    PlexRose map (cell_at (volume_seen see old) region).plexes (cell_at (volume_seen see new) region).plexes)

-- so it was in the region of the last part, which is one of the volume's
abbrev pub LastFailed : {P : Type 0} {ghosts : Ghosts P} → (P → Seen) → Volume P ghosts → Volume P ghosts → List Part → Type 0
LastFailed see old new parts = (last : Part) → IsLastPart parts last → (last.region < length (volume_seen see old).cells) × CurrentFailed see old new last.region

-- A fault names a device on which the count of the volume's pieces rose, and its last part is of the region that failed. All was lost only where one of its pieces is cut, if that was
-- so of each region that was dead before.
abbrev pub ServedHasCause : {P : Type 0} {ghosts : Ghosts P} → (P → Seen) → Served → Volume P ghosts → Volume P ghosts → Type 0
ServedHasCause see (Done parts blocks) old new = Unit {0}
ServedHasCause see (Fault device parts) old new = Rose (faults_on device (held_pieces see old)) (faults_on device (held_pieces see new)) × LastFailed see old new parts
ServedHasCause see (Lost parts) old new = AreCutWhereDead (volume_seen see old) → SomeCut (held_pieces see new)

-- Where the count of a piece of a plex rose in some region, that of its device did among all pieces of the volume.
abbrev pub FailuresAreCounted : {P : Type 0} {ghosts : Ghosts P} → (P → Seen) → Volume P ghosts → Volume P ghosts → Type 0
FailuresAreCounted see old new =
    (r map piece device : ℕ) → r < length (volume_seen see old).cells → RoseAt map piece device (cell_at (volume_seen see old) r).plexes (cell_at (volume_seen see new) r).plexes →
    Rose (faults_on device (held_pieces see old)) (faults_on device (held_pieces see new))
