-- How a volume of a group begins to run over its bytes, and how it is left.
use Rattle.std.specs.Prelude.{◌≡◌, Bool, true, false, if◌then◌else◌, Some, None, MatchOption, List, Contains}
use Rattle.std.specs.List.{list_any}
use Rattle.vx_base.specs.Named.{Word, put}
use Rattle.vx_config_parts.specs.declared.vol.Vol.{Vol}
use Rattle.vx_config_parts.specs.declared.state.VolState.{VolState}
use Rattle.vx_config_parts.specs.declared.state.VolState.TheVariants as vol
use Rattle.vx_image.specs.Image.{Image}
use Rattle.vx_image.specs.Meaning.{lowest_of}
use Rattle.vx_image.specs.Soundness.{IsSoundImage}
use Rattle.vx_moments.specs.World.{Track, Volume, Group, World}
use Rattle.vx_moments.specs.Leaving.{grouped}
use Rattle.vx_moments.specs.Group.{ChangesOnly, HaveOwnDevices, AreVolumesSound, image_on}
use Rattle.vx_moments.specs.Owners.{owners_of}
use Rattle.vx_moments.specs.Tracks.{unsure}
use Rattle.vx_moments.specs.Volumes.{StandsForVolume, is_named, volume_read}

-- ---- a life begins

abbrev pub no_track : Track
no_track = record { sure = λ r. false; possible = λ r. false }

abbrev pub whole_track : Track
whole_track = record { sure = λ r. true; possible = λ r. true }

-- The volume of the first life over an empty volume: it has the bytes of its lowest plex, every other plex differs everywhere
-- until it is copied, and nothing is dirty.
abbrev pub volume_first : List Word → Image → Volume
volume_first plexes v = record (volume_read plexes v) {
  dirty = λ r. false;
  dirty_began = λ r. false;
  tracks = λ name. if list_any (is_named name) (lowest_of v.plexes) then no_track else whole_track;
}

-- by the kept state of the volume
abbrev pub volume_by : VolState → List Word → Image → Volume
volume_by vol.Empty plexes v = volume_first plexes v
volume_by vol.Clean plexes v = volume_read plexes v
volume_by vol.Active plexes v = volume_read plexes v
volume_by vol.NeedSync plexes v = volume_read plexes v
volume_by vol.Sync plexes v = volume_read plexes v

-- The volume as a life begins, on these plexes: nothing is sure of those that are written to, as of a volume that runs. Such a plex may
-- have marks all the same, where it failed in an earlier life or is not copied yet.
abbrev pub volume_begun : Group → Vol → List Word → Image → Volume
volume_begun g v plexes image = unsure (owners_of g v.name plexes) (volume_by v.state plexes image)

-- the volume with nothing missing on these plexes
abbrev pub volume_copied : (Word → Bool) → Volume → Volume
volume_copied copied w = record w { tracks = λ name. if copied name then no_track else w.tracks name }

-- A volume is started on these plexes, of data and of its log: a life begins over what its bytes say, of which nothing more is known
-- where they are not sound. Only sectors of the volume have changed, such as those of its log.
pub record BeginsToRun (g : Group) (v : Vol) (plexes : List Word) (old new : World) : Type 0 where
  pub sound : Bool
  pub if_sound : IsSoundImage (image_on old.devices g v) → sound ≡ true
  pub changes : ChangesOnly g v.name old.devices new.devices
  pub volumes : new.volumes ≡ put v.name (Some (record (volume_begun g v plexes (image_on old.devices g v)) { sound = sound })) old.volumes

-- ---- a life ends

-- a volume that ran is left: its bytes stand for it, where they were sound as it began, and nothing else has changed
pub record IsLeftInPlace (g : Group) (v : Vol) (run : Volume) (old new : World) : Type 0 where
  pub changes : ChangesOnly g v.name old.devices new.devices
  pub stands : run.sound ≡ true → StandsForVolume (image_on new.devices g v) run
  pub volumes : new.volumes ≡ put v.name None old.volumes

-- ---- the group leaves

-- the group records a volume of the name, whose bytes stand for the one that ran, where they were sound as that began
pub record StandsFor (w : World) (g : Group) (name : Word) (run : Volume) : Type 0 where
  pub of : Vol
  pub recorded : Contains g.config.volumes of
  pub named : of.name ≡ name
  pub stands : run.sound ≡ true → StandsForVolume (image_on w.devices g of) run

-- so it is with each volume that runs on the group's plexes
abbrev pub StandForEach : World → Group → Type 0
StandForEach w g = (name : Word) (run : Volume) → grouped (w.volumes name) ≡ Some run → StandsFor w g name run

-- where a group is imported, its bytes stand for the volumes that run
abbrev pub GroupStands : World → Type 0
GroupStands w = MatchOption w.group (Unit {0}) (StandForEach w)

-- ---- laws

-- Where a volume begins to run, the others stay sound, ..
abbrev pub EachStartLeavesSound : Type 0
EachStartLeavesSound =
    (g : Group) (v : Vol) (plexes : List Word) (old new : World) → HaveOwnDevices g.members →
    BeginsToRun g v plexes old new → AreVolumesSound old g → AreVolumesSound new g

-- .. and where one is left whose bytes were sound as it began all are. No two volumes of a group have one name.
abbrev pub EachLeavingLeavesSound : Type 0
EachLeavingLeavesSound =
    (g : Group) (v : Vol) (run : Volume) (old new : World) → HaveOwnDevices g.members → Contains g.config.volumes v → run.sound ≡ true →
    IsLeftInPlace g v run old new → AreVolumesSound old g → AreVolumesSound new g
