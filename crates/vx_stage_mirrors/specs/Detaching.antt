-- How a data plex of a running volume goes out of use, on the imported group.
use Rattle.std.specs.Prelude.{◌≡◌, ◌⊎◌, ℕ, true, false, None, Some, Ok, Err, Result}
use Rattle.vx_base.specs.Named.{Word}
use Rattle.vx_piece.specs.Seen.{Seen}
use Rattle.vx_pages.specs.declared.local_piece.LocalPiece.{Ghosts}
use Rattle.vx_config_parts.specs.declared.plex.Plex.{Plex}
use Rattle.vx_config_parts.specs.declared.state.PlexState.TheVariants as plex_state
use Rattle.vx_answers.specs.declared.refusal.Refusal.TheVariants as refusal
use Rattle.vx_image.specs.Bytes.{map_or_zero}
use Rattle.vx_volume.specs.Switching.{CanSpare, HasPlex, Needs}
use Rattle.vx_volume.specs.Volume.{IsVolume, volume_seen}
use Rattle.vx_lending.specs.RegionsTaken.{is_among}
use Rattle.vx_lending.specs.declared.public.Running.{Running}
use Rattle.vx_joined_volumes.specs.Switched.{HasSwitched, IsFormSwitched}
use Rattle.vx_house.specs.declared.house.Imported.{Imported}
use Rattle.vx_house.specs.declared.stop.Stop.{Stop}
use Rattle.vx_house.specs.declared.stop.Stop.TheVariants as stops
use Rattle.vx_stages.specs.Ends.{refused}
use Rattle.vx_stages.specs.Plexes.{IsDetachRefused, detach_refusal, plex_in, state_edits}
use Rattle.vx_stage_changes.specs.Planning.{IsPlanned}
use Rattle.vx_stage_changes.specs.declared.planning.NextConfig.{NextConfig}
use Rattle.vx_stage_mirrors.specs.Ending.{seen_group}
use Rattle.vx_stage_mirrors.specs.LogEnding.{is_running}
use Rattle.vx_stage_mirrors.specs.Planned.{EndsAs}
use Rattle.vx_stage_mirrors.specs.Settling.{EndsUnsettled, SettlesIn}
use Rattle.vx_stage_mirrors.specs.Switching.{SwitchEnds}

-- ---- the running volume

-- Each region can spare the plex. Where the volume was opened with it the regions have it, and else it is as one that is off.
pub record MayGoOff {P : Type 0} {ghosts : Ghosts P} (see : P → Seen) (map : ℕ) (r : Running P ghosts) : Type 0 where
  pub whole : IsVolume (volume_seen see r.volume)
  pub spare : CanSpare map (volume_seen see r.volume)
  pub taken : is_among map r.form.maps.items ≡ true → HasPlex map (volume_seen see r.volume)
  pub left : is_among map r.form.maps.items ≡ false → IsFormSwitched map false r.form r.form × HasSwitched see map false r.volume r.volume

-- ---- before anything is touched

-- no test refuses that the plex of the name goes out of use, it is this one of this volume, and it is planned so
pub record IsPlannedDetach {P : Type 0} {ghosts : Ghosts P} (name vol : Word) (p : Plex) (next : NextConfig) (g : Imported P ghosts) : Type 0 where
  pub found : plex_in name g.config.plexes ≡ Some p
  pub own : p.vol ≡ Some vol
  pub fits : detach_refusal (is_running g) g.config name ≡ None
  pub next_is : IsPlanned (state_edits vol p plex_state.Stale) g.config next

-- it was refused, or memory was wanting, before anything was touched
abbrev pub IsDetachStopped : {P : Type 0} {ghosts : Ghosts P} → (P → Seen) → Word → Result (Unit {0}) Stop → Imported P ghosts → Imported P ghosts → Type 0
IsDetachStopped see name (Ok u) old new = ⊥
IsDetachStopped see name (Err stop) old new = (new ≡ old) × EndsAs (IsDetachRefused (is_running old) (seen_group see old) name) stop

-- ---- once the volume is at rest

-- some region needs the plex, and nothing more is done
pub record EndsNeeded {P : Type 0} {ghosts : Ghosts P} (see : P → Seen) (name : Word) (map : ℕ) (result : Result (Unit {0}) Stop) (r : Running P ghosts) (old new : Imported P ghosts) : Type 0 where
  pub needs : Needs map (volume_seen see r.volume)
  pub result_is : result ≡ Err (stops.Ended (refused (refusal.OnlyPlex name)))
  pub same : new ≡ old

-- each can spare it, and its state is committed or not
pub record EndsSpared {P : Type 0} {ghosts : Ghosts P} (see : P → Seen) (vol : Word) (map : ℕ) (next : NextConfig) (result : Result (Unit {0}) Stop) (r : Running P ghosts) (old new : Imported P ghosts) : Type 0 where
  pub spare : CanSpare map (volume_seen see r.volume)
  pub ends : SwitchEnds see vol map false next result old new

-- it has come to rest, and goes on so
pub record EndsRested {P : Type 0} {ghosts : Ghosts P} (see : P → Seen) (name vol : Word) (p : Plex) (next : NextConfig) (result : Result (Unit {0}) Stop) (old new : Imported P ghosts) : Type 0 where
  pub mid : Imported P ghosts
  pub settles : SettlesIn see vol (Ok tt) old mid
  pub ends : EndsNeeded see name (map_or_zero p.map) result settles.runs.after mid new ⊎ EndsSpared see vol (map_or_zero p.map) next result settles.runs.after mid new

-- a fault ended it before
pub record EndsUnrested {P : Type 0} {ghosts : Ghosts P} (see : P → Seen) (vol : Word) (result : Result (Unit {0}) Stop) (old new : Imported P ghosts) : Type 0 where
  pub stop : Stop
  pub result_is : result ≡ Err stop
  pub ends : EndsUnsettled see vol stop old new

-- ---- the whole

-- it is planned, and ends so
pub record EndsDetached {P : Type 0} {ghosts : Ghosts P} (see : P → Seen) (name : Word) (result : Result (Unit {0}) Stop) (old new : Imported P ghosts) : Type 0 where
  pub vol : Word
  pub plex : Plex
  pub next : NextConfig
  pub planned : IsPlannedDetach name vol plex next old
  pub ends : EndsUnrested see vol result old new ⊎ EndsRested see name vol plex next result old new

-- how it ends
abbrev pub DetachEnds : {P : Type 0} {ghosts : Ghosts P} → (P → Seen) → Word → Result (Unit {0}) Stop → Imported P ghosts → Imported P ghosts → Type 0
DetachEnds see name result old new = IsDetachStopped see name result old new ⊎ EndsDetached see name result old new
