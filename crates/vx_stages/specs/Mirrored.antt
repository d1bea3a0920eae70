-- How a mirror of a running volume goes in the world and ends its command: its map is marked, its records are committed, the plex joins the
-- volume, and is copied to.
use Rattle.std.specs.Prelude.{◌≡◌, ◌⊎◌, ℕ, Bool, true, false, if◌then◌else◌, Some, None, MatchOption, List, [], ◌∷◌, ◌++◌}
use Rattle.std.specs.Str.{bytes_eq}
use Rattle.vx_base.specs.Named.{Word, put}
use Rattle.vx_block.specs.Regions.{region_count}
use Rattle.vx_config_parts.specs.declared.object.Object.{Object}
use Rattle.vx_config_parts.specs.declared.object.Object.TheVariants.{PlexRecord}
use Rattle.vx_config_parts.specs.declared.plex.Plex.{Plex}
use Rattle.vx_config_parts.specs.declared.vol.Vol.{Vol}
use Rattle.vx_objects.specs.declared.edit.Edit.TheVariants.{Make}
use Rattle.vx_answers.specs.declared.answer.End.{End}
use Rattle.vx_answers.specs.declared.answer.End.TheVariants as ends
use Rattle.vx_answers.specs.declared.refusal.Refusal.TheVariants as refusal
use Rattle.vx_moments.specs.Commit.{Writing, IsCommitted}
use Rattle.vx_moments.specs.Moment.{AreLater, Counts, HasFailed, Moment, Rests}
use Rattle.vx_moments.specs.World.{Group, OnPlexes, Track, Volume}
use Rattle.vx_moments.specs.Lives.{volume_copied}
use Rattle.vx_moments.specs.Owners.{owners_of}
use Rattle.vx_moments.specs.Tracks.{volume_failed}
use Rattle.vx_stages.specs.Ends.{EndsIn, IsChange, StopsBy}
use Rattle.vx_stages.specs.GroupCalls.{LogHasFailed}
use Rattle.vx_stages.specs.Logs.{LogIsSpared}
use Rattle.vx_stages.specs.Mirroring.{IsMirrorLaid, IsMirrorRefused, mirror_refusal}
use Rattle.vx_stages.specs.Recorded.{IsMarkedEverywhere, IsSoundAs}
use Rattle.vx_stages.specs.Stopping.{ComesToRest, RestStops, runs_on_plexes}
use Rattle.vx_stages.specs.Tests.{volume_in}
use Rattle.vx_stages.specs.Touching.{PassHasCause, VolumeGoes}

-- ---- what is added

-- The volume of the name may get a mirror on these disks: these records, the first of which is the plex, with this map.
pub record IsMirror (g : Group) (name : Word) (disks : List Word) (v : Vol) (m : ℕ) (p : Plex) (added : List Object) : Type 0 where
  pub found : volume_in name g.config.volumes ≡ Some v
  pub fits : mirror_refusal true g.config name disks ≡ None
  pub laid : IsMirrorLaid g.config g.good v disks m added
  pub rest : List Object
  pub first : added ≡ PlexRecord p ∷ rest

-- a mirror is planned, and the volume has come to rest with its map marked, so far as its devices let it
pub record IsMarkedFor (g : Group) (name : Word) (disks : List Word) (old mid : Moment) : Type 0 where
  pub volume : Vol
  pub map : ℕ
  pub plex : Plex
  pub added : List Object
  pub mirror : IsMirror g name disks volume map plex added
  pub rest : ComesToRest name old mid

-- ---- the plex joins

-- the track of a plex that has joined: it may differ everywhere, and nothing is sure
abbrev pub joined_track : Track
joined_track = record { sure = λ r. false; possible = λ r. true }

-- the volume once a plex of this name has joined it; it lies on these plexes then
abbrev pub volume_joined : (plexes : List Word) → Word → Volume → Volume
volume_joined plexes name w =
    record w {
      lies = OnPlexes plexes;
      tracks = λ other. if bytes_eq name other then joined_track else w.tracks other;
    }

-- the name stands among the plexes, and all others are those that were there, in their order
pub record IsOneMore (name : Word) (plexes later : List Word) : Type 0 where
  pub before : List Word
  pub behind : List Word
  pub were : plexes ≡ before ++ behind
  pub are : later ≡ before ++ name ∷ behind

-- the running volume of the name is the one that the plex has joined, and all else is the same
pub record JoinsIn (name plex : Word) (old new : Moment) : Type 0 where
  pub volume : Volume
  pub was : old.world.volumes name ≡ Some volume
  pub plexes : List Word
  pub lies : volume.lies ≡ OnPlexes plexes
  pub later : List Word
  pub more : IsOneMore plex plexes later
  pub world : new.world ≡ record old.world { volumes = put name (Some (volume_joined later plex volume)) old.world.volumes }
  pub counts : new.counts ≡ old.counts

-- Its map is marked, its records are committed, and it joins the volume.
pub record IsMirroredBy (g : Group) (name : Word) (disks : List Word) (old new : Moment) : Type 0 where
  pub marked : Moment
  pub mark : IsMarkedFor g name disks old marked
  pub writing : Writing
  pub change : IsChange (Make mark.added ∷ []) marked.world writing
  pub recorded : Moment
  pub committed : IsCommitted writing marked recorded
  pub rest : AreLater marked.counts recorded.counts
  pub joins : JoinsIn name mark.plex.name recorded new

-- ---- copying

-- what copying to the plex has made of the volume, by how it ended: nothing is missing on it, unless the log has failed in the volume's life
abbrev pub MirrorCopiesTo : Group → Word → Word → List Word → (Word → Bool) → Counts → Counts → End → Volume → Volume → Type 0
MirrorCopiesTo now name plex plexes failed old new (ends.Done copied parts blocks) w later =
    (later ≡ volume_copied (bytes_eq plex) (volume_failed (owners_of now name plexes) failed w))
    ⊎ ((LogHasFailed now name old new ⊎ (LogIsSpared now name w.failed → ⊥)) × (later ≡ volume_failed (owners_of now name plexes) failed w))
MirrorCopiesTo now name plex plexes failed old new other w later = later ≡ volume_failed (owners_of now name plexes) failed w

-- the answer of a mirror that is done tells that all regions were copied; of one that is not there is a cause
abbrev pub MirrorEnds : Group → Vol → Counts → Counts → End → Type 0
MirrorEnds now v old new (ends.Done copied parts blocks) = (copied ≡ Some (region_count v.len v.region)) × (parts ≡ []) × (blocks ≡ [])
MirrorEnds now v old new other = PassHasCause now v.name old new other

-- the plex of the running volume is copied to
pub record IsMirrorCopied (v : Vol) (plex : Word) (old : Moment) (end : End) (new : Moment) : Type 0 where
  pub group : Group
  pub here : old.world.group ≡ Some group
  pub volume : Volume
  pub was : old.world.volumes v.name ≡ Some volume
  pub plexes : List Word
  pub lies : volume.lies ≡ OnPlexes plexes
  pub later : Volume
  pub failed : Word → Bool
  pub have_failed : (device : Word) → failed device ≡ true → HasFailed old.counts new.counts device
  pub becomes : MirrorCopiesTo group v.name plex plexes failed old.counts new.counts end volume later
  pub goes : VolumeGoes group v.name later old new
  pub ends : MirrorEnds group v old.counts new.counts end

-- ---- the whole

-- a test refuses it, and nothing was called
abbrev pub MirrorIsRefused : Group → Bool → Word → List Word → Moment → End → Moment → Type 0
MirrorIsRefused g runs name disks old end new = IsMirrorRefused runs g name disks end × Rests old new

-- a mirror is planned, and its map could not be marked
pub record StopsUnmarked (g : Group) (name : Word) (disks : List Word) (old : Moment) (end : End) (new : Moment) : Type 0 where
  pub volume : Vol
  pub map : ℕ
  pub plex : Plex
  pub added : List Object
  pub mirror : IsMirror g name disks volume map plex added
  pub stops : RestStops name old end new

-- its map is marked, and the commit of its records is stopped: the volume runs still, without the plex
pub record StopsUncommitted (g : Group) (name : Word) (disks : List Word) (old : Moment) (end : End) (new : Moment) : Type 0 where
  pub marked : Moment
  pub mark : IsMarkedFor g name disks old marked
  pub rest : AreLater marked.counts new.counts
  pub stops : StopsBy (IsChange (Make mark.added ∷ []) marked.world) marked end new
  -- with the plex the volume is sound by its bytes, if they were as it began
  pub sound : mark.rest.volume.sound ≡ true → IsSoundAs mark.rest.group stops.0.config name marked.world
  -- and each copy of its log marks the plex everywhere
  pub shown : mark.rest.volume.sound ≡ true → IsMarkedEverywhere mark.rest.group name mark.map marked.world

-- it has joined, and copying ends the command
pub record StopsMirrored (g : Group) (name : Word) (disks : List Word) (old : Moment) (end : End) (new : Moment) : Type 0 where
  pub joined : Moment
  pub mirrored : IsMirroredBy g name disks old joined
  pub rest : AreLater joined.counts new.counts
  pub copied : IsMirrorCopied mirrored.mark.volume mirrored.mark.plex.name joined end new

-- how a mirror of the volume of the name, on these disks, ends its command in a group
abbrev pub MirrorStopsIn : Group → Word → List Word → Moment → End → Moment → Type 0
MirrorStopsIn g name disks old end new =
    MirrorIsRefused g (runs_on_plexes old.world name) name disks old end new
    ⊎ (StopsUnmarked g name disks old end new ⊎ (StopsUncommitted g name disks old end new ⊎ StopsMirrored g name disks old end new))

abbrev pub MirrorStops : Word → List Word → Moment → End → Moment → Type 0
MirrorStops name disks old end new = MatchOption old.world.group (EndsIn (refusal.NoGroup None) old end new) (λ g. MirrorStopsIn g name disks old end new)

-- what want of memory leaves of it: the world as it was, or the volume at rest, which runs still
abbrev pub MirrorWants : Word → Moment → Moment → Type 0
MirrorWants name old new = (new.world ≡ old.world) ⊎ ComesToRest name old new
