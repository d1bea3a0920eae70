-- A data plex of a running volume goes on or off, in the moments of a house; and when the volume is sound by its bytes as that is recorded.
use Rattle.std.specs.Prelude.{◌≡◌, ℕ, Bool, true, false, is_some, List, Some}
use Rattle.vx_base.specs.Blocks.{Contents}
use Rattle.vx_base.specs.Named.{Word}
use Rattle.vx_piece.specs.Seen.{Seen}
use Rattle.vx_pages.specs.declared.local_piece.LocalPiece.{Ghosts}
use Rattle.vx_config_parts.specs.declared.plex.Plex.{Plex}
use Rattle.vx_config_parts.specs.declared.state.PlexState.{PlexState}
use Rattle.vx_config_parts.specs.declared.vol.Vol.{Vol}
use Rattle.vx_copies.specs.Disks.{DiskSeen}
use Rattle.vx_objects.specs.declared.config.Config.{Config}
use Rattle.vx_image.specs.Bytes.{map_or_zero}
use Rattle.vx_image.specs.Image.{is_available_state}
use Rattle.vx_image.specs.UsedPlexes.{IsVolOf}
use Rattle.vx_volume.specs.Switching.{CanSpare, IsSettled, IsTight}
use Rattle.vx_volume.specs.Volume.{volume_seen}
use Rattle.vx_lending.specs.Public.{running_at}
use Rattle.vx_lending.specs.declared.public.Running.{Running}
use Rattle.vx_joined_volumes.specs.Switched.{SetsState, WasTaken}
use Rattle.vx_moments.specs.Commit.{IsCommitted, Writing}
use Rattle.vx_moments.specs.Moment.{AreLater, Moment}
use Rattle.vx_moments.specs.World.{Group, Volume, World}
use Rattle.vx_stages.specs.Attached.{GoesOn, IsReadWithin}
use Rattle.vx_stages.specs.Ends.{IsChange}
use Rattle.vx_stages.specs.Plexes.{state_edits}
use Rattle.vx_stages.specs.Recorded.{IsSoundAs}
use Rattle.vx_house.specs.Runs.{IsRunOf}
use Rattle.vx_house.specs.Scene.{Shelved}
use Rattle.vx_house.specs.View.{IsMoment, Keeps, at}
use Rattle.vx_house.specs.declared.house.House.{House}
use Rattle.vx_house.specs.declared.house.Imported.{Imported}
use Rattle.vx_house_calls.specs.Passes.{with_group}
use Rattle.vx_stage_changes.specs.Planning.{IsShortText}
use Rattle.vx_stage_changes.specs.declared.planning.NextConfig.{NextConfig}
use Rattle.vx_stage_mirrors.specs.LogMoments.{RecordGoes}
use Rattle.vx_stage_mirrors.specs.MarkedLaws.{HoldsOnDevices}
use Rattle.vx_stage_mirrors.specs.Switching.{SwitchesIn}

-- ---- a plan

-- The next configuration records another state of a data plex of the volume, by which the plex is available or not.
pub record IsSwitchPlanned {P : Type 0} {ghosts : Ghosts P} (g : Imported P ghosts) (name : Word) (v : Vol) (p : Plex) (state : PlexState) (on : Bool) (next : NextConfig) : Type 0 where
  pub of : IsVolOf g.config v
  pub named : v.name ≡ name
  pub sets : SetsState g.config v p state next.config
  pub printed : IsShortText next.config next.text.items
  pub available : is_available_state state ≡ on

-- Before a plex goes off, its volume is settled, nothing is loose on its log, and in each region another plex is current; before one goes on
-- the volume was opened with it.
abbrev pub IsReadyToSwitch : {P : Type 0} {ghosts : Ghosts P} → (P → Seen) → Plex → Bool → Running P ghosts → Type 0
IsReadyToSwitch see p false r = IsSettled (volume_seen see r.volume) × (IsTight (volume_seen see r.volume) × CanSpare (map_or_zero p.map) (volume_seen see r.volume))
IsReadyToSwitch see p true r = WasTaken r.form p

-- ---- the world

-- a plex that goes off leaves the volume of the world as it is
abbrev pub IsSwitchedFrom : Bool → (name plex : Word) → Moment → Moment → Type 0
IsSwitchedFrom false name plex old new = new ≡ old
IsSwitchedFrom true name plex old new = GoesOn name plex old new

-- The moment behind it: the state is committed, and then the volume runs with the plex on or off.
pub record IsSwitchedAt {P : Type 0} {ghosts : Ghosts P} (see : P → Seen) (shelf : Shelved) (h : House P ghosts) (v : Vol) (p : Plex) (state : PlexState) (on : Bool) (config : Config) (m : Moment) : Type 0 where
  pub recorded : Moment
  pub writing : Writing
  pub config_is : writing.config ≡ config
  pub change : IsChange (state_edits v.name p state) m.world writing
  pub committed : IsCommitted writing m recorded
  pub rest : AreLater m.counts recorded.counts
  pub then : Moment
  pub is : IsMoment see (at shelf h) then
  pub goes : IsSwitchedFrom on v.name p.name recorded then

-- A running volume of which a plex goes on or off once that is recorded runs on so, and all others do.
abbrev pub EachSwitchGoes : {P : Type 0} {ghosts : Ghosts P} → (P → Seen) → House P ghosts → Imported P ghosts → Imported P ghosts → Type 0
EachSwitchGoes {P = P} {ghosts = ghosts} see h old new =
    (shelf : Shelved) (name : Word) (v : Vol) (p : Plex) (state : PlexState) (on : Bool) (next : NextConfig) → ((p q : P) → is_some (see p).told ≡ is_some (see q).told) →
    h.group ≡ Some old → Keeps see (at shelf h) → IsSwitchPlanned old name v p state on next →
    (before : Running P ghosts) → running_at old.public name ≡ Some before → IsReadyToSwitch see p on before →
    SwitchesIn see name (map_or_zero p.map) on next old new →
    RecordGoes see shelf h new (IsSwitchedAt see shelf (with_group h new) v p state on next.config)

-- ---- the bytes

-- A running volume whose bytes were sound as it began is sound by what the devices hold also as the next configuration records it, with a plex
-- of another state: one that goes off is ready for that, and one that goes on may be of any state before.
abbrev pub EachSwitchIsSound : {P : Type 0} {ghosts : Ghosts P} → (P → Seen) → Running P ghosts → Type 0
EachSwitchIsSound see running =
    (hs : List DiskSeen) (g : Group) (name : Word) (w : Volume) → IsRunOf see hs g name running w → w.sound ≡ true →
    (world : World) (held : ℕ → Contents) → HoldsOnDevices see hs world.devices held running →
    (v : Vol) → IsVolOf g.config v → v.name ≡ name → (p : Plex) (state : PlexState) (on : Bool) (next : Config) → SetsState g.config v p state next → is_available_state state ≡ on →
    IsReadyToSwitch see p on running → IsSoundAs g next name world

-- What is read of such a volume then, with a plex that goes on, lies within its candidates. Disks of plexes that it was opened with may have failed
-- since: what they hold is read no more.
abbrev pub EachSwitchIsWithin : {P : Type 0} {ghosts : Ghosts P} → (P → Seen) → Running P ghosts → Type 0
EachSwitchIsWithin see running =
    (hs : List DiskSeen) (g : Group) (name : Word) (w : Volume) → IsRunOf see hs g name running w → w.sound ≡ true →
    (world : World) (held : ℕ → Contents) → HoldsOnDevices see hs world.devices held running →
    (v : Vol) → IsVolOf g.config v → v.name ≡ name → (p : Plex) (state : PlexState) (next : Config) → SetsState g.config v p state next → is_available_state state ≡ true →
    IsReadyToSwitch see p true running → IsReadWithin g next name world w.life.candidates
