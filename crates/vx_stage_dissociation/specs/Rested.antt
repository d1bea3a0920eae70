-- How a data plex leaves a running volume, which comes to rest before, on the imported group.
use Rattle.std.specs.Prelude.{◌⊎◌, ℕ, Ok, Err, Result}
use Rattle.vx_base.specs.Named.{Word}
use Rattle.vx_piece.specs.Seen.{Seen}
use Rattle.vx_pages.specs.declared.local_piece.LocalPiece.{Ghosts}
use Rattle.vx_config_parts.specs.declared.plex.Plex.{Plex}
use Rattle.vx_image.specs.Bytes.{map_or_zero}
use Rattle.vx_volume.specs.Switching.{CanSpare}
use Rattle.vx_volume.specs.Volume.{volume_seen}
use Rattle.vx_lending.specs.declared.public.Running.{Running}
use Rattle.vx_house.specs.declared.house.Imported.{Imported}
use Rattle.vx_house.specs.declared.stop.Stop.{Stop}
use Rattle.vx_stage_changes.specs.declared.planning.NextConfig.{NextConfig}
use Rattle.vx_stage_mirrors.specs.Detaching.{EndsNeeded, EndsUnrested}
use Rattle.vx_stage_mirrors.specs.Relogging.{IsRecordedIn, RecordEnds}
use Rattle.vx_stage_mirrors.specs.Settling.{SettlesIn}
use Rattle.vx_stage_dissociation.specs.Taking.{TakesIn}

-- ---- once the volume is at rest

-- the configuration without the plex is committed, and the volume goes on without it
pub record LeavesIn {P : Type 0} {ghosts : Ghosts P} (see : P → Seen) (vol : Word) (map : ℕ) (next : NextConfig) (old new : Imported P ghosts) : Type 0 where
  pub recorded : Imported P ghosts
  pub records : IsRecordedIn see next old recorded
  pub takes : TakesIn see vol map recorded new

-- so it is, or the commit was not done, and nothing else has changed
abbrev pub LeaveEnds : {P : Type 0} {ghosts : Ghosts P} → (P → Seen) → (vol : Word) (map : ℕ) → NextConfig → Result (Unit {0}) Stop → Imported P ghosts → Imported P ghosts → Type 0
LeaveEnds see vol map next (Ok u) old new = LeavesIn see vol map next old new
LeaveEnds see vol map next (Err stop) old new = RecordEnds see next (Err stop) old new

-- each region can spare the plex
pub record EndsSpared {P : Type 0} {ghosts : Ghosts P} (see : P → Seen) (vol : Word) (map : ℕ) (next : NextConfig) (result : Result (Unit {0}) Stop) (r : Running P ghosts) (old new : Imported P ghosts) : Type 0 where
  pub spare : CanSpare map (volume_seen see r.volume)
  pub ends : LeaveEnds see vol map next result old new

-- it has come to rest, and goes on so
pub record EndsRested {P : Type 0} {ghosts : Ghosts P} (see : P → Seen) (vol : Word) (p : Plex) (next : NextConfig) (result : Result (Unit {0}) Stop) (old new : Imported P ghosts) : Type 0 where
  pub mid : Imported P ghosts
  pub settles : SettlesIn see vol (Ok tt) old mid
  pub ends : EndsNeeded see p.name (map_or_zero p.map) result settles.runs.after mid new ⊎ EndsSpared see vol (map_or_zero p.map) next result settles.runs.after mid new

-- ---- the whole

-- a fault ended it before, or it has come to rest
abbrev pub RestedEnds : {P : Type 0} {ghosts : Ghosts P} → (P → Seen) → (vol : Word) → Plex → NextConfig → Result (Unit {0}) Stop → Imported P ghosts → Imported P ghosts → Type 0
RestedEnds see vol p next result old new = EndsUnrested see vol result old new ⊎ EndsRested see vol p next result old new
