-- What a stop of a running volume of the imported group does: it comes to rest, its new states are committed, and it leaves the world.
use Rattle.std.specs.Prelude.{◌≡◌, ◌⊎◌, ◌<◌, ◌&&◌, ℕ, Bool, true, false, is_some, if◌then◌else◌, Option, Some, None, List, Contains}
use Rattle.vx_base.specs.Blocks.{Contents}
use Rattle.vx_base.specs.Named.{Word, put}
use Rattle.vx_block.specs.Regions.{region_count}
use Rattle.vx_config_parts.specs.Objects.{is_data_plex_of}
use Rattle.vx_config_parts.specs.declared.plex.Plex.{Plex}
use Rattle.vx_config_parts.specs.declared.state.VolState.{VolState}
use Rattle.vx_config_parts.specs.declared.state.VolState.TheVariants as vol
use Rattle.vx_config_parts.specs.declared.vol.Vol.{Vol}
use Rattle.vx_objects.specs.declared.config.Config.{Config}
use Rattle.vx_objects.specs.declared.edit.Edit.{Edit}
use Rattle.vx_objects.specs.Applied.{IsEdited}
use Rattle.vx_image.specs.Image.{regions_of}
use Rattle.vx_image.specs.Meaning.{ReadsOneList, dirty_read}
use Rattle.vx_answers.specs.declared.answer.End.{End}
use Rattle.vx_answers.specs.declared.answer.End.TheVariants as ends
use Rattle.vx_answers.specs.declared.refusal.Refusal.{Refusal}
use Rattle.vx_answers.specs.declared.refusal.Refusal.TheVariants as refusal
use Rattle.vx_moments.specs.Commit.{Writing, IsCommitted, IsStopped}
use Rattle.vx_moments.specs.Leaving.{grouped}
use Rattle.vx_moments.specs.Moment.{Moment, AreLater, HasFailed, Rests}
use Rattle.vx_moments.specs.World.{Group, OnPlexes, Volume, World}
use Rattle.vx_moments.specs.Group.{image_on}
use Rattle.vx_moments.specs.Owners.{owners_of}
use Rattle.vx_moments.specs.Tracks.{volume_failed}
use Rattle.vx_moments.specs.Volumes.{StandsForVolume}
use Rattle.vx_stages.specs.Ends.{IsChange, RefusedAsLong}
use Rattle.vx_stages.specs.Logs.{LogIsSpared}
use Rattle.vx_stages.specs.Recorded.{IsSoundAs}
use Rattle.vx_stages.specs.Tests.{recorded}
use Rattle.vx_stages.specs.Touching.{PassHasCause, VolumeGoes}
use Rattle.vx_state_edits.specs.Edits.{is_marked, stop_edits}
use Rattle.vx_state_texts.specs.Texts.{all_maps}

-- ---- the tests

-- the state is the one that a stop goes from
abbrev pub is_active : VolState → Bool
is_active vol.Active = true
is_active other = false

-- why a volume, as it is recorded, is not stopped; it runs or not
abbrev pub refusal_by : Word → Option Vol → Bool → Option Refusal
refusal_by name None runs = Some (refusal.NoObject name)
refusal_by name (Some v) runs = if runs && is_active v.state then None else Some (refusal.VolState v.state)

-- the first test that refuses the stop: no group is imported, no volume of it has the name, or that is not started
abbrev pub stop_refusal : Word → Option Group → Bool → Option Refusal
stop_refusal name None runs = Some (refusal.NoGroup None)
stop_refusal name (Some g) runs = refusal_by name (recorded name (Some g)) runs

-- the volume runs on plexes of the group
abbrev pub runs_on_plexes : World → Word → Bool
runs_on_plexes w name = is_some (grouped (w.volumes name))

-- the text is too long in which each plex that the stop records misses something, which is the longest that it can have
abbrev pub StopIsLong : Word → Group → End → Type 0
StopIsLong name g end = (v : Vol) × (recorded name (Some g) ≡ Some v) × ((next : Config) × IsEdited (stop_edits g.config v all_maps) g.config next × RefusedAsLong next end)

-- a test refuses the stop, or else its text would be too long; nothing was done
abbrev pub StopIsRefused : Word → Moment → End → Moment → Type 0
StopIsRefused name old end new =
    (((r : Refusal) × (stop_refusal name old.world.group (runs_on_plexes old.world name) ≡ Some r) × (end ≡ ends.Refused r))
    ⊎ ((g : Group) × (old.world.group ≡ Some g) × (stop_refusal name (Some g) (runs_on_plexes old.world name) ≡ None) × StopIsLong name g end))
    × Rests old new

-- ---- coming to rest

-- The volume is brought to rest, so far as its devices let it: no call of it is told, and only its own sectors have changed. Its tracks
-- are what the devices that failed make of them.
pub record ComesToRest (name : Word) (old new : Moment) : Type 0 where
  pub group : Group
  pub here : old.world.group ≡ Some group
  pub plexes : List Word
  pub volume : Volume
  pub there : old.world.volumes name ≡ Some volume
  pub lies : volume.lies ≡ OnPlexes plexes
  pub failed : Word → Bool
  pub have_failed : (device : Word) → failed device ≡ true → HasFailed old.counts new.counts device
  pub later : AreLater old.counts new.counts
  pub goes : VolumeGoes group name (volume_failed (owners_of group name plexes) failed volume) old new

-- the volume as it has come to rest
abbrev pub rested_volume : {name : Word} {old new : Moment} → ComesToRest name old new → Volume
rested_volume {name = name} rest = volume_failed (owners_of rest.group name rest.plexes) rest.failed rest.volume

-- the stop ends as the volume could not be brought to rest
pub record RestStops (name : Word) (old : Moment) (end : End) (new : Moment) : Type 0 where
  pub rest : ComesToRest name old new
  pub cause : PassHasCause rest.group name old.counts new.counts end

-- ---- what is recorded

-- Of the volume's data plexes the marks have each that surely misses something, and each that they have may miss something.
pub record AreMarksOf (g : Group) (name : Word) (run : Volume) (marks : ℕ) : Type 0 where
  pub sure : (p : Plex) → Contains g.config.plexes p → is_data_plex_of name p ≡ true → (r : ℕ) → r < region_count run.length run.region → (run.tracks p.name).sure r ≡ true → is_marked marks p.map ≡ true
  pub possible : (p : Plex) → Contains g.config.plexes p → is_data_plex_of name p ≡ true → is_marked marks p.map ≡ true → (r : ℕ) × (r < region_count run.length run.region) × ((run.tracks p.name).possible r ≡ true)

-- The volume has come to rest, and these are the states that are to be recorded of it and its plexes: where its bytes were sound as it
-- began, a plex is recorded as failed by its marks.
pub record IsToRecord (name : Word) (old mid : Moment) (edits : List Edit) : Type 0 where
  pub rest : ComesToRest name old mid
  pub of : Vol
  pub recorded_is : recorded name old.world.group ≡ Some of
  pub active : is_active of.state ≡ true
  pub marks : ℕ
  pub edits_are : edits ≡ stop_edits rest.group.config of marks
  pub marked : rest.volume.sound ≡ true → AreMarksOf rest.group name (rested_volume rest) marks

-- the same world without the volume
abbrev pub without_volume : Word → Moment → Moment
without_volume name m = record m { world = record m.world { volumes = put name None m.world.volumes } }

-- The bytes of the volume that was stopped stand for it as it came to rest, by the configuration that was written, and one list is read
-- from them. Where no device of its log has failed in its life, no region is dirty.
pub record StandsStopped (name : Word) (run : Volume) (w : World) : Type 0 where
  pub group : Group
  pub here : w.group ≡ Some group
  pub of : Vol
  pub recorded_is : recorded name (Some group) ≡ Some of
  pub clean : of.state ≡ vol.Clean
  pub stands : StandsForVolume (image_on w.devices group of) run
  pub list : Contents
  pub reads : ReadsOneList (image_on w.devices group of) run.life.candidates list
  pub clear : LogIsSpared group name run.failed → (r : ℕ) → r < regions_of (image_on w.devices group of) → dirty_read (image_on w.devices group of) r ≡ false

-- ---- the stage

-- The volume comes to rest and leaves the world, and its new states are committed. Where its bytes were sound as it began, they stand for it.
pub record IsStopDone (name : Word) (old new : Moment) : Type 0 where
  pub mid : Moment
  pub edits : List Edit
  pub record_is : IsToRecord name old mid edits
  pub writing : Writing
  pub change : IsChange edits (without_volume name mid).world writing
  pub committed : IsCommitted writing (without_volume name mid) new
  pub after : AreLater mid.counts new.counts
  pub stands : record_is.rest.volume.sound ≡ true → StandsStopped name (rested_volume record_is.rest) new.world

-- The volume has come to rest, and the commit of its new states is stopped: it runs still.
pub record IsStopBroken (name : Word) (old : Moment) (end : End) (new : Moment) : Type 0 where
  pub mid : Moment
  pub edits : List Edit
  pub record_is : IsToRecord name old mid edits
  pub writing : Writing
  pub change : IsChange edits mid.world writing
  pub stopped : IsStopped writing mid end new
  pub after : AreLater mid.counts new.counts
  -- as the stop records it the volume is sound by its bytes, if they were as it began
  pub sound : record_is.rest.volume.sound ≡ true → IsSoundAs record_is.rest.group writing.config name mid.world

-- how a stop may end the command: a test refuses it, the volume cannot be brought to rest, or the commit is stopped
abbrev pub StopStops : Word → Moment → End → Moment → Type 0
StopStops name old end new = StopIsRefused name old end new ⊎ (RestStops name old end new ⊎ IsStopBroken name old end new)

-- what want of memory leaves of it: the world as it was, or the volume at rest, which runs still
abbrev pub StopWants : Word → Moment → Moment → Type 0
StopWants name old new = (new.world ≡ old.world) ⊎ ComesToRest name old new
