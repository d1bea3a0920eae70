-- What copying to plexes of a running volume does in the world.
use Rattle.std.specs.Prelude.{◌≡◌, ◌⊎◌, ℕ, ◌<◌, Bool, true, List, length, is_some, Some, Ok, Err, Contains}
use Rattle.vx_base.specs.Named.{Word}
use Rattle.vx_mask.specs.Mask.{has}
use Rattle.vx_piece.specs.Seen.{Seen}
use Rattle.vx_pages.specs.declared.local_piece.LocalPiece.{Ghosts}
use Rattle.vx_config_parts.specs.declared.plex.Plex.{Plex}
use Rattle.vx_config_parts.specs.Objects.{is_data_plex_of}
use Rattle.vx_objects.specs.declared.config.Config.{Config}
use Rattle.vx_image.specs.Bytes.{map_or_zero}
use Rattle.vx_volume.specs.declared.fault.IoFault.{IoFault}
use Rattle.vx_volume.specs.Volume.{VolumeSeen, cell_at}
use Rattle.vx_lending.specs.declared.public.Running.{Running}
use Rattle.vx_group_start.specs.Copying.{missed_regions}
use Rattle.vx_moments.specs.Lives.{volume_copied}
use Rattle.vx_moments.specs.Owners.{owners_of}
use Rattle.vx_moments.specs.Tracks.{volume_failed}
use Rattle.vx_answers.specs.declared.answer.End.{End}
use Rattle.vx_moments.specs.Moment.{AreLater, HasFailed, Moment}
use Rattle.vx_moments.specs.World.{Group, OnPlexes, Volume}
use Rattle.vx_stages.specs.Logs.{LogIsSpared}
use Rattle.vx_stages.specs.Stopping.{RestStops}
use Rattle.vx_stages.specs.Touching.{VolumeGoes}
use Rattle.vx_house.specs.Scene.{FaultsGoOn, IsBlamed, Shelved}
use Rattle.vx_house.specs.View.{IsMoment, Keeps, at, scene}
use Rattle.vx_house.specs.declared.house.House.{House}
use Rattle.vx_house.specs.declared.house.Imported.{Imported}
use Rattle.vx_house.specs.declared.stop.Stop.{Stop}
use Rattle.vx_house.specs.declared.stop.Stop.TheVariants as stops
use Rattle.vx_house_calls.specs.Passes.{with_group}
use Rattle.vx_stage_mirrors.specs.Copying.{CopiesIn}

-- ---- which plexes

-- the plex is one to copy to: its map is in the mask, and on in the form of the volume
pub record IsToCopy {P : Type 0} {ghosts : Ghosts P} (mask : ℕ) (r : Running P ghosts) (q : Plex) : Type 0 where
  pub low : map_or_zero q.map < 64
  pub in_mask : has mask (map_or_zero q.map) ≡ true
  pub on : has r.form.shape.on (map_or_zero q.map) ≡ true

-- so is each data plex of these names
abbrev pub AreToCopy : {P : Type 0} {ghosts : Ghosts P} → Config → Word → ℕ → Running P ghosts → (Word → Bool) → Type 0
AreToCopy c vol mask r copied = (q : Plex) → Contains c.plexes q → is_data_plex_of vol q ≡ true → copied q.name ≡ true → IsToCopy mask r q

-- some map is in the mask, and on in the form of a volume with a log
pub record HasPlexToCopy {P : Type 0} {ghosts : Ghosts P} (mask : ℕ) (r : Running P ghosts) : Type 0 where
  pub map : ℕ
  pub low : map < 64
  pub in_mask : has mask map ≡ true
  pub on : has r.form.shape.on map ≡ true
  pub logged : 0 < length r.form.logs.items

-- ---- the world

-- the volume of the world as the devices that have failed leave it
abbrev pub left_by : Group → Word → List Word → (Word → Bool) → Volume → Volume
left_by g name plexes failed w = volume_failed (owners_of g name plexes) failed w

-- Copying is done: nothing is missing on the plexes of these names, unless a device of the log has failed in the volume's life.
pub record HasCopied (name : Word) (copied : Word → Bool) (old new : Moment) : Type 0 where
  pub group : Group
  pub here : old.world.group ≡ Some group
  pub plexes : List Word
  pub volume : Volume
  pub there : old.world.volumes name ≡ Some volume
  pub lies : volume.lies ≡ OnPlexes plexes
  pub failed : Word → Bool
  pub have_failed : (device : Word) → failed device ≡ true → HasFailed old.counts new.counts device
  pub after : AreLater old.counts new.counts
  pub later : Volume
  pub becomes : (later ≡ volume_copied copied (left_by group name plexes failed volume))
      ⊎ ((LogIsSpared group name (left_by group name plexes failed volume).failed → ⊥) × (later ≡ left_by group name plexes failed volume))
  pub goes : VolumeGoes group name later old new

-- What copying does to a house: it is kept, no count of faults falls, and it has ended the command. Each moment that it was goes to one at
-- which the volume was copied to; or a fault is told that has its cause, and the volume has come to rest so far as its devices let it.
pub record CopyingGoes {P : Type 0} {ghosts : Ghosts P} (see : P → Seen) (shelf : Shelved) (h : House P ghosts) (name : Word) (mask : ℕ) (stop : Stop) (old new : Imported P ghosts) (copies : CopiesIn see name mask stop old new) : Type 0 where
  pub keeps : Keeps see (at shelf (with_group h new))
  pub faults : FaultsGoOn (scene see (at shelf h)) (scene see (at shelf (with_group h new)))
  pub blamed : (end : End) → stop ≡ stops.Ended end → IsBlamed end (scene see (at shelf h)) (scene see (at shelf (with_group h new)))
  pub ended : (fault : IoFault) → copies.result ≡ Err fault → (end : End) → stop ≡ stops.Ended end →
      (m : Moment) → IsMoment see (at shelf h) m → (n : Moment) × IsMoment see (at shelf (with_group h new)) n × RestStops name m end n
  pub done : (n : ℕ) → copies.result ≡ Ok n → HasPlexToCopy mask copies.one.before → (copied : Word → Bool) → AreToCopy old.config name mask copies.one.before copied →
      (m : Moment) → IsMoment see (at shelf h) m → (then : Moment) × IsMoment see (at shelf (with_group h new)) then × HasCopied name copied m then

-- Copying to plexes of a running volume of the group does so.
abbrev pub EachCopyingGoes : {P : Type 0} {ghosts : Ghosts P} → (P → Seen) → House P ghosts → Imported P ghosts → Imported P ghosts → Type 0
EachCopyingGoes {P = P} see h old new =
    (shelf : Shelved) (name : Word) (mask : ℕ) (stop : Stop) → ((p q : P) → is_some (see p).told ≡ is_some (see q).told) →
    h.group ≡ Some old → (copies : CopiesIn see name mask stop old new) → Keeps see (at shelf h) →
    CopyingGoes see shelf h name mask stop old new copies

-- ---- regions

-- A plex of the mask that is on and marked in each region misses them all.
abbrev pub EachMarkedRegionIsMissed : Type 0
EachMarkedRegionIsMissed =
    (mask map : ℕ) (v : VolumeSeen) → map < 64 → has mask map ≡ true →
    ((r : ℕ) → r < length v.cells → has (cell_at v r).stage.on map ≡ true) → ((r : ℕ) → r < length v.cells → has (cell_at v r).stage.bits map ≡ true) →
    missed_regions mask v ≡ length v.cells
