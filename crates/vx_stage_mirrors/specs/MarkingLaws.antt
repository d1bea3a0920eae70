-- What the marking of a running volume does in the world.
use Rattle.std.specs.Prelude.{◌≡◌, ◌≢◌, ℕ, ◌<◌, true, is_some, List, Some, Err, Result, Contains}
use Rattle.vx_base.specs.Named.{Word}
use Rattle.vx_piece.specs.Seen.{Seen}
use Rattle.vx_pages.specs.declared.local_piece.LocalPiece.{Ghosts}
use Rattle.vx_lending.specs.declared.public.Running.{Running}
use Rattle.vx_lending.specs.Public.{running_at}
use Rattle.vx_marks.specs.declared.marker.MarkFault.{MarkFault}
use Rattle.vx_config_parts.specs.declared.plex.Plex.{Plex}
use Rattle.vx_config_parts.specs.declared.vol.Vol.{Vol}
use Rattle.vx_objects.specs.declared.config.Config.{Config}
use Rattle.vx_image.specs.Bytes.{map_or_zero, relation_maps}
use Rattle.vx_volume.specs.Changing.{IsFreeIn}
use Rattle.vx_volume_laws.specs.Keeping.{data_plexes}
use Rattle.vx_group_volumes.specs.Runs.{RunsIn}
use Rattle.vx_volume.specs.Volume.{volume_seen}
use Rattle.vx_volume_laws.specs.Exact.{LogIsWell}
use Rattle.vx_answers.specs.declared.answer.End.{End}
use Rattle.vx_copies.specs.Disks.{DiskSeen}
use Rattle.vx_confdb.specs.Groups.{members}
use Rattle.vx_moments.specs.Moment.{AreLater, Moment}
use Rattle.vx_stages.specs.Logs.{LogIsSpared}
use Rattle.vx_stages.specs.Stopping.{ComesToRest, RestStops, rested_volume}
use Rattle.vx_house.specs.Runs.{IsRunOf}
use Rattle.vx_house.specs.Scene.{FaultsGoOn, IsBlamed, Shelved}
use Rattle.vx_house.specs.View.{IsMoment, Keeps, at, scene}
use Rattle.vx_house.specs.declared.house.House.{House}
use Rattle.vx_house.specs.declared.house.Imported.{Imported}
use Rattle.vx_house.specs.declared.stop.Stop.TheVariants as stops
use Rattle.vx_house_calls.specs.Passes.{with_group}
use Rattle.vx_stage_volumes.specs.Resting.{IsFaultTold}
use Rattle.vx_stage_mirrors.specs.Marking.{MarksIn, MayMark, as_io}
use Rattle.vx_stage_mirrors.specs.declared.marking.Unmarked.{Unmarked}
use Rattle.vx_stage_mirrors.specs.declared.marking.Unmarked.TheVariants.{Fault}

-- The moment then: the volume has come to rest, so far as its devices let it, and this one of the house runs as it does. Where no device
-- of its log has failed in its life, no count of the log rose.
pub record IsMarkedAt {P : Type 0} {ghosts : Ghosts P} (see : P → Seen) (shelf : Shelved) (h : House P ghosts) (hs : List DiskSeen) (name : Word) (before after : Running P ghosts) (m : Moment) : Type 0 where
  pub then : Moment
  pub is : IsMoment see (at shelf h) then
  pub later : AreLater m.counts then.counts
  pub rest : ComesToRest name m then
  pub group : then.world.group ≡ Some rest.group
  pub there : then.world.volumes name ≡ Some (rested_volume rest)
  pub run : IsRunOf see hs rest.group name after (rested_volume rest)
  pub well : LogIsSpared rest.group name (rested_volume rest).failed → LogIsWell (volume_seen see before.volume) (volume_seen see after.volume)

-- What it does to a house: it is kept, no count of faults falls, and each moment that it was goes to one at which the volume has come to
-- rest. Where a fault is told, that has its cause.
pub record RestsMarked {P : Type 0} {ghosts : Ghosts P} (see : P → Seen) (shelf : Shelved) (h : House P ghosts) (name : Word) (map : ℕ) (result : Result (Unit {0}) Unmarked) (old new : Imported P ghosts) (marks : MarksIn see name map result old new) : Type 0 where
  pub keeps : Keeps see (at shelf (with_group h new))
  pub faults : FaultsGoOn (scene see (at shelf h)) (scene see (at shelf (with_group h new)))
  pub moments : (m : Moment) → IsMoment see (at shelf h) m → IsMarkedAt see shelf (with_group h new) (members see old.base) name marks.runs.before marks.runs.after m
  pub ended : (fault : MarkFault) → result ≡ Err (Fault fault) → (end : End) → IsFaultTold see old.base.disks.items (as_io fault) (stops.Ended end) →
      (m : Moment) → IsMoment see (at shelf h) m → (n : Moment) × IsMoment see (at shelf (with_group h new)) n × RestStops name m end n
  pub blamed : (fault : MarkFault) → result ≡ Err (Fault fault) → (end : End) → IsFaultTold see old.base.disks.items (as_io fault) (stops.Ended end) →
      IsBlamed end (scene see (at shelf h)) (scene see (at shelf (with_group h new)))

-- The marking of a free map of a running volume of the group does so.
abbrev pub EachMarkingRests : {P : Type 0} {ghosts : Ghosts P} → (P → Seen) → House P ghosts → Imported P ghosts → Imported P ghosts → Type 0
EachMarkingRests {P = P} see h old new =
    (shelf : Shelved) (name : Word) (map : ℕ) (result : Result (Unit {0}) Unmarked) → ((p q : P) → is_some (see p).told ≡ is_some (see q).told) →
    h.group ≡ Some old → MayMark see map (running_at old.public name) → (marks : MarksIn see name map result old new) → Keeps see (at shelf h) →
    RestsMarked see shelf h name map result old new marks

-- A map below 30 that no data plex and no relation of a prepared volume has, by the configuration that it runs by, is free in its regions.
abbrev pub EachFreeMapIsFree : {P : Type 0} {ghosts : Ghosts P} → (P → Seen) → Running P ghosts → Type 0
EachFreeMapIsFree see running =
    (c : Config) (good : ℕ) (numbers : List ℕ) (v : Vol) → RunsIn see c good numbers v running → is_some v.dco ≡ true →
    (map : ℕ) → map < 30 → ((p : Plex) → Contains (data_plexes c v.name) p → map_or_zero p.map ≢ map) → (Contains (relation_maps c.snaps v.name) map → ⊥) →
    IsFreeIn map (volume_seen see running.volume)
