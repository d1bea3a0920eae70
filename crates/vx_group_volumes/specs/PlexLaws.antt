-- The plexes and devices of a running volume are those that the configuration says it has.
use Rattle.std.specs.Prelude.{◌≡◌, ℕ, ◌<◌, true, List, length, Contains, Some}
use Rattle.std.specs.List.{All, list_any}
use Rattle.vx_base.specs.Counts.{Rose}
use Rattle.vx_base.specs.Named.{Word}
use Rattle.vx_piece.specs.Seen.{Seen, Keeps}
use Rattle.vx_runs.specs.Run.{EachPiece, SomeCut}
use Rattle.vx_carve.specs.Together.{HasSome, cut_on, faults_on}
use Rattle.vx_fronts.specs.Rests.{is_of}
use Rattle.vx_pages.specs.declared.local_piece.LocalPiece.{Ghosts}
use Rattle.vx_cell.specs.Plexes.{PlexRose}
use Rattle.vx_config_parts.specs.declared.disk.Disk.{Disk}
use Rattle.vx_config_parts.specs.declared.plex.Plex.{Plex}
use Rattle.vx_config_parts.specs.declared.vol.Vol.{Vol}
use Rattle.vx_objects.specs.declared.config.Config.{Config}
use Rattle.vx_image.specs.Image.{PlexImage}
use Rattle.vx_moments.specs.World.{Group}
use Rattle.vx_moments.specs.Owners.{IsDeviceOfVolume, device_at, devices_on, owners_of}
use Rattle.vx_volume.specs.declared.volume.Volume.{Volume}
use Rattle.vx_volume.specs.Log.{LogGoes}
use Rattle.vx_volume.specs.Volume.{cell_at, log_of, volume_seen}
use Rattle.vx_volume_laws.specs.RunLaws.{OwnersFit}
use Rattle.vx_lending.specs.Left.{held_pieces}
use Rattle.vx_lending.specs.declared.public.Running.{Running}
use Rattle.vx_group_calls.specs.Causes.{FailuresAreCounted, LogPiecesRose}
use Rattle.vx_group_volumes.specs.Places.{RunsInPlace, disks_at}
use Rattle.vx_group_volumes.specs.Opened.{WereThere, opened_plexes}
use Rattle.vx_group_volumes.specs.Devices.{DataHasFailed, IsOwnDevice, LiesOnDevice, LogHasFailed}

-- The data plexes of a volume that runs in its place, as their tracks see them in the group, fit its regions.
abbrev pub PlexesFit : {P : Type 0} {ghosts : Ghosts P} → (P → Seen) → Running P ghosts → Type 0
PlexesFit see running =
    (g : Group) (numbers : List ℕ) (v : Vol) (placed : RunsInPlace see g.config g.good numbers v running) →
    (plexes : List PlexImage) → WereThere placed.runs.opening plexes →
    OwnersFit plexes (volume_seen see running.volume) (owners_of g v.name (opened_plexes placed.runs.opening))

-- ---- devices

-- Where no piece of it is empty, the device of each is one that a plex of the volume lies on, ..
abbrev pub EachHeldDeviceIsOwn : {P : Type 0} {ghosts : Ghosts P} → (P → Seen) → Running P ghosts → Type 0
EachHeldDeviceIsOwn see running =
    (c : Config) (good : ℕ) (numbers : List ℕ) (v : Vol) (placed : RunsInPlace see c good numbers v running) → All HasSome (held_pieces see running.volume) →
    (device : ℕ) → list_any (is_of device) (held_pieces see running.volume) ≡ true → IsOwnDevice c v.name (disks_at placed.runs.opening) numbers device

-- .. and so is each that has failed once calls were made on its pieces, ..
abbrev pub EachFailedDeviceIsOwn : {P : Type 0} {ghosts : Ghosts P} → (P → Seen) → Running P ghosts → Type 0
EachFailedDeviceIsOwn see running =
    (c : Config) (good : ℕ) (numbers : List ℕ) (v : Vol) (placed : RunsInPlace see c good numbers v running) → All HasSome (held_pieces see running.volume) →
    (held' : List Seen) → EachPiece Keeps (held_pieces see running.volume) held' →
    (device : ℕ) → Rose (faults_on device (held_pieces see running.volume)) (faults_on device held') → IsOwnDevice c v.name (disks_at placed.runs.opening) numbers device

-- .. and one of which the power is gone, where some piece is cut.
abbrev pub EachCutDeviceIsOwn : {P : Type 0} {ghosts : Ghosts P} → (P → Seen) → Running P ghosts → Type 0
EachCutDeviceIsOwn see running =
    (c : Config) (good : ℕ) (numbers : List ℕ) (v : Vol) (placed : RunsInPlace see c good numbers v running) → All HasSome (held_pieces see running.volume) →
    (held' : List Seen) → EachPiece Keeps (held_pieces see running.volume) held' → SomeCut held' →
    (device : ℕ) × IsOwnDevice c v.name (disks_at placed.runs.opening) numbers device × (cut_on device held' ≡ 1)

-- Where the member of each slot of these disks has a device, the device of a plex by its number is one of the plex by its name, ..
abbrev pub EachDeviceIsNamed : Type 0
EachDeviceIsNamed =
    (g : Group) (disks : List Disk) (numbers : List ℕ) (p : Plex) (device : ℕ) (lies : LiesOnDevice g.config disks numbers p device) →
    (name : Word) → device_at g.members lies.slot ≡ Some name → Contains (devices_on g p) name

-- .. and so is that of a volume.
abbrev pub EachOwnDeviceIsNamed : Type 0
EachOwnDeviceIsNamed =
    (g : Group) (vol : Word) (disks : List Disk) (numbers : List ℕ) (device : ℕ) (own : IsOwnDevice g.config vol disks numbers device) →
    (name : Word) → device_at g.members own.lies.slot ≡ Some name → IsDeviceOfVolume g vol name

-- ---- failures

-- Where a plex failed in some region, a device of the data plex of its name has failed, ..
abbrev pub DataFailuresAreOwn : {P : Type 0} {ghosts : Ghosts P} → (P → Seen) → Running P ghosts → Volume P ghosts → Type 0
DataFailuresAreOwn see running new =
    (c : Config) (good : ℕ) (numbers : List ℕ) (v : Vol) (placed : RunsInPlace see c good numbers v running) → FailuresAreCounted see running.volume new →
    (plexes : List PlexImage) → WereThere placed.runs.opening plexes → (p : PlexImage) → Contains plexes p →
    (r : ℕ) → r < length (volume_seen see running.volume).cells → PlexRose p.map (cell_at (volume_seen see running.volume) r).plexes (cell_at (volume_seen see new) r).plexes →
    DataHasFailed c v.name (disks_at placed.runs.opening) numbers (held_pieces see running.volume) (held_pieces see new) p.name

-- .. and where the log failed, one of a log plex has.
abbrev pub LogFailuresAreOwn : {P : Type 0} {ghosts : Ghosts P} → (P → Seen) → Running P ghosts → Volume P ghosts → Type 0
LogFailuresAreOwn see running new =
    (c : Config) (good : ℕ) (numbers : List ℕ) (v : Vol) (placed : RunsInPlace see c good numbers v running) → All HasSome (held_pieces see running.volume) →
    LogGoes see (log_of running.volume) (log_of new) → LogPiecesRose see running.volume new →
    LogHasFailed c v.name (disks_at placed.runs.opening) numbers (held_pieces see running.volume) (held_pieces see new)
