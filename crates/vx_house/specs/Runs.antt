-- The running volumes of the imported group, as the world has them.
use Rattle.std.specs.Prelude.{◌≡◌, ℕ, true, List, [], slice_index, Option, Some, None}
use Rattle.vx_pages.specs.declared.local_piece.LocalPiece.{Ghosts}
use Rattle.vx_base.specs.Named.{Word}
use Rattle.vx_piece.specs.Seen.{Seen}
use Rattle.vx_config_parts.specs.declared.vol.Vol.{Vol}
use Rattle.vx_objects.specs.declared.config.Config.{Config}
use Rattle.vx_copies.specs.Disks.{DiskSeen, good_mask}
use Rattle.vx_copies.specs.Lists.{AllOf, AnyOf}
use Rattle.vx_mask.specs.Mask.{has}
use Rattle.vx_layout.specs.declared.place.Place.{Place}
use Rattle.vx_image.specs.Own.{IsOfVolume}
use Rattle.vx_confdb.specs.Groups.{members}
use Rattle.vx_image.specs.Bytes.{Sectors, image_of}
use Rattle.vx_image.specs.Image.{PlexImage, WasStarted}
use Rattle.vx_moments.specs.Owners.{device_at}
use Rattle.vx_moments.specs.Leaving.{grouped}
use Rattle.vx_moments.specs.World.{Member, Volume, Group, OnPlexes}
use Rattle.vx_volume.specs.Volume.{volume_seen}
use Rattle.vx_stages.specs.Logs.{LogIsSpared}
use Rattle.vx_volume_laws.specs.Exact.{IsExactVolume}
use Rattle.vx_volume_laws.specs.Leaving.{AreNamedIn}
use Rattle.vx_volume_laws.specs.Running.{IsSureOfOthers, RunsAsVolume}
use Rattle.vx_lending.specs.declared.public.Running.{Running}
use Rattle.vx_lending.specs.Public.{running_at}
use Rattle.vx_carve.specs.Carved.{HaveNumbers}
use Rattle.vx_group_volumes.specs.Places.{IsSlotOf, RunsInPlace, disks_at}
use Rattle.vx_group_volumes.specs.Opened.{opened_plexes}
use Rattle.vx_house.specs.declared.house.Imported.{Imported}

-- ---- in the house

-- one of these disks has the slot, and the number that is given of the slot is that of its device
pub record IsOnDisk (numbers : List ℕ) (hs : List DiskSeen) (slot : ℕ) : Type 0 where
  pub disk : DiskSeen
  pub there : AnyOf (λ h. h ≡ disk) hs
  pub slot_is : disk.slot ≡ slot
  pub number_is : slice_index numbers slot ≡ disk.seen.device

-- The running volume of the name is in its place, whatever the world is: the configuration records it as started, and its plexes lie where
-- they lay as it was opened. The disks that were good then are among these, by the numbers of their devices, and so are the good ones that
-- its plexes lie on.
pub record IsInPlace {P : Type 0} {ghosts : Ghosts P} (see : P → Seen) (hs : List DiskSeen) (config : Config) (good : ℕ) (name : Word) (r : Running P ghosts) : Type 0 where
  pub of : Vol
  pub named : of.name ≡ name
  pub started : WasStarted of.state
  pub numbers : List ℕ
  pub own : HaveNumbers numbers
  pub placed : RunsInPlace see config good numbers of r
  pub opened : (slot : ℕ) → IsSlotOf (disks_at placed.runs.opening) slot → IsOnDisk numbers hs slot
  pub numbered : (place : Place) → IsOfVolume config of.name place → has good place.disk ≡ true → IsOnDisk numbers hs place.disk

-- so is each of these, under its name
abbrev pub AllInPlace : {P : Type 0} {ghosts : Ghosts P} → (P → Seen) → List DiskSeen → Config → ℕ → List (Word × Running P ghosts) → Type 0
AllInPlace {P = P} {ghosts = ghosts} see hs config good es = AllOf (λ (e : Word × Running P ghosts). IsInPlace see hs config good e.0 e.1) es

-- so is each running volume of the group
abbrev pub AreInPlace : {P : Type 0} {ghosts : Ghosts P} → (P → Seen) → Imported P ghosts → Type 0
AreInPlace see g = AllInPlace see (members see g.base) g.config (good_mask (members see g.base)) g.public.running.entries

-- ---- in the world

-- the member of a slot is one of these disks, and the number that is given of the slot is that of its device
pub record IsNumbered (numbers : List ℕ) (hs : List DiskSeen) (members : List Member) (slot : ℕ) : Type 0 where
  pub disk : DiskSeen
  pub there : AnyOf (λ h. h ≡ disk) hs
  pub device : device_at members slot ≡ Some disk.device
  pub number : slice_index numbers slot ≡ disk.seen.device

-- The volume of the name runs: the group records it as started, its plexes lie where they lay as it was opened, and it lies on those that it
-- was opened with. The disks that were good then are the group's, by the numbers of their devices, and so are the good ones that its plexes
-- lie on. Where its bytes were sound as it began, it runs as the one of the world, and nothing is sure of plexes that are written to; and
-- where no device of its log has failed in its life, its log is exact.
pub record IsRunOf {P : Type 0} {ghosts : Ghosts P} (see : P → Seen) (hs : List DiskSeen) (g : Group) (name : Word) (r : Running P ghosts) (w : Volume) : Type 0 where
  pub of : Vol
  pub named : of.name ≡ name
  pub started : WasStarted of.state
  pub numbers : List ℕ
  pub own : HaveNumbers numbers
  pub placed : RunsInPlace see g.config g.good numbers of r
  pub opened : (slot : ℕ) → IsSlotOf (disks_at placed.runs.opening) slot → IsNumbered numbers hs g.members slot
  pub numbered : (place : Place) → IsOfVolume g.config of.name place → has g.good place.disk ≡ true → IsNumbered numbers hs g.members place.disk
  pub lies : w.lies ≡ OnPlexes (opened_plexes placed.runs.opening)
  pub length_is : w.length ≡ of.len
  pub region_is : w.region ≡ of.region
  pub plexes : List PlexImage
  pub plexes_of : (bytes : Sectors) → AreNamedIn (image_of g.config g.good bytes of).plexes plexes
  pub plexes_then : (bytes : Sectors) → AreNamedIn plexes (image_of placed.runs.opening.config placed.runs.opening.good bytes placed.runs.opening.vol).plexes
  pub runs_as : w.sound ≡ true → RunsAsVolume plexes (volume_seen see r.volume) w
  pub sure : w.sound ≡ true → IsSureOfOthers plexes (volume_seen see r.volume) w
  pub exact : w.sound ≡ true → LogIsSpared g name w.failed → IsExactVolume (volume_seen see r.volume)

-- no volume of the name runs, neither here nor there; or this one of an imported group does
abbrev pub IsAtRun : {P : Type 0} {ghosts : Ghosts P} → (P → Seen) → List DiskSeen → Option Group → Word → Option (Running P ghosts) → Option Volume → Type 0
IsAtRun see hs g name None None = Unit {0}
IsAtRun see hs g name None (Some w) = ⊥
IsAtRun see hs g name (Some r) None = ⊥
IsAtRun see hs None name (Some r) (Some w) = ⊥
IsAtRun see hs (Some g) name (Some r) (Some w) = IsRunOf see hs g name r w

-- the running volume of a name, of the group
abbrev pub run_in : {P : Type 0} {ghosts : Ghosts P} → Option (Imported P ghosts) → Word → Option (Running P ghosts)
run_in None name = None
run_in (Some g) name = running_at g.public name

-- the fronts of the group's disks
abbrev pub fronts_in : {P : Type 0} {ghosts : Ghosts P} → (P → Seen) → Option (Imported P ghosts) → List DiskSeen
fronts_in see None = []
fronts_in see (Some g) = members see g.base

-- the running volumes of the group are those of the world that lie on its plexes
abbrev pub AreRuns : {P : Type 0} {ghosts : Ghosts P} → (P → Seen) → Option (Imported P ghosts) → Option Group → (Word → Option Volume) → Type 0
AreRuns see o g volumes = (name : Word) → IsAtRun see (fronts_in see o) g name (run_in o name) (grouped (volumes name))
