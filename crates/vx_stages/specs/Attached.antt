-- How `vxplex att` goes in the world and ends its command: the plex is recorded as in use by a commit, the running volume writes to it, and
-- what it misses is copied to it.
use Rattle.std.specs.Prelude.{◌≡◌, ◌⊎◌, ℕ, Bool, true, false, if◌then◌else◌, None, Some, MatchOption, Contains, List, []}
use Rattle.std.specs.Str.{bytes_eq}
use Rattle.vx_base.specs.Named.{Word, put}
use Rattle.vx_block.specs.Regions.{region_count}
use Rattle.vx_life.specs.Candidates.{Candidates}
use Rattle.vx_config_parts.specs.declared.plex.Plex.{Plex}
use Rattle.vx_config_parts.specs.declared.state.PlexState.TheVariants as plex_state
use Rattle.vx_config_parts.specs.declared.vol.Vol.{Vol}
use Rattle.vx_objects.specs.declared.config.Config.{Config}
use Rattle.vx_image.specs.Counts.{IsSizeBetween}
use Rattle.vx_image.specs.Meaning.{StandsForCandidates}
use Rattle.vx_answers.specs.declared.answer.End.{End}
use Rattle.vx_answers.specs.declared.answer.End.TheVariants as ends
use Rattle.vx_answers.specs.declared.refusal.Refusal.TheVariants as refusal
use Rattle.vx_moments.specs.Commit.{IsCommitted, Writing}
use Rattle.vx_moments.specs.Group.{image_on}
use Rattle.vx_moments.specs.Lives.{volume_copied}
use Rattle.vx_moments.specs.Moment.{AreLater, Counts, HasFailed, Moment, Rests}
use Rattle.vx_moments.specs.Owners.{owners_of}
use Rattle.vx_moments.specs.Tracks.{volume_failed}
use Rattle.vx_moments.specs.World.{Group, OnPlexes, Track, Volume, World}
use Rattle.vx_stages.specs.Ends.{EndsIn, IsChange, StopsBy}
use Rattle.vx_stages.specs.GroupCalls.{LogHasFailed}
use Rattle.vx_stages.specs.Logs.{LogIsSpared}
use Rattle.vx_stages.specs.Plexes.{IsAttachRefused, MayAttach, state_edits}
use Rattle.vx_stages.specs.Recorded.{IsSoundAs}
use Rattle.vx_stages.specs.Stopping.{runs_on_plexes}
use Rattle.vx_stages.specs.Touching.{PassHasCause, VolumeGoes}

-- ---- the plex goes on

-- nothing is sure of the plex of this name
abbrev pub unsure : Word → (Word → Track) → Word → Track
unsure name tracks other = if bytes_eq name other then record (tracks other) { sure = λ r. false } else tracks other

-- the volume once it writes to the plex of this name
abbrev pub volume_unsure : Word → Volume → Volume
volume_unsure name w = record w { tracks = unsure name w.tracks }

-- the running volume of the name writes to the plex, and all else is the same
pub record GoesOn (name plex : Word) (old new : Moment) : Type 0 where
  pub volume : Volume
  pub was : old.world.volumes name ≡ Some volume
  pub plexes : List Word
  pub lies : volume.lies ≡ OnPlexes plexes
  pub world : new.world ≡ record old.world { volumes = put name (Some (volume_unsure plex volume)) old.world.volumes }
  pub counts : new.counts ≡ old.counts

-- No test refuses it, the plex is recorded as in use, and the running volume writes to it.
pub record IsAttachedBy (g : Group) (vol name : Word) (old new : Moment) : Type 0 where
  pub volume : Vol
  pub plex : Plex
  pub may : MayAttach (runs_on_plexes old.world vol) g.config g.good vol name volume plex
  pub writing : Writing
  pub change : IsChange (state_edits volume.name plex plex_state.Active) old.world writing
  pub recorded : Moment
  pub committed : IsCommitted writing old recorded
  pub rest : AreLater old.counts recorded.counts
  pub goes : GoesOn vol name recorded new

-- ---- copying

-- What copying to the plex has made of the volume, by how it ended: nothing is missing on it, unless the log has failed in the volume's life. A
-- volume without a DCO has no tracks.
abbrev pub AttachCopiesTo : Group → Vol → Word → List Word → (Word → Bool) → Counts → Counts → End → Volume → Volume → Type 0
AttachCopiesTo now v plex plexes failed old new (ends.Done copied parts blocks) w later =
    (later ≡ volume_copied (bytes_eq plex) (volume_failed (owners_of now v.name plexes) failed w))
    ⊎ (((LogHasFailed now v.name old new ⊎ (LogIsSpared now v.name w.failed → ⊥)) ⊎ (v.dco ≡ None)) × (later ≡ volume_failed (owners_of now v.name plexes) failed w))
AttachCopiesTo now v plex plexes failed old new other w later = later ≡ volume_failed (owners_of now v.name plexes) failed w

-- the number of regions that were copied: all that the plex surely missed as the command began, and no other than those it may have missed
abbrev pub IsCopyCount : Volume → Word → ℕ → Type 0
IsCopyCount before plex count = before.sound ≡ true → IsSizeBetween count (region_count before.length before.region) (before.tracks plex).sure (before.tracks plex).possible

-- the answer of one that is done tells how many regions were copied; of one that is not there is a cause
abbrev pub AttachEnds : Group → Word → Volume → Word → Counts → Counts → End → Type 0
AttachEnds now vol before plex old new (ends.Done copied parts blocks) = ((count : ℕ) × (copied ≡ Some count) × IsCopyCount before plex count) × (parts ≡ []) × (blocks ≡ [])
AttachEnds now vol before plex old new other = PassHasCause now vol old new other

-- The plex of the running volume is copied to; the other volume is the one that ran before the plex went on.
pub record IsAttachCopied (v : Vol) (plex : Word) (before : Volume) (old : Moment) (end : End) (new : Moment) : Type 0 where
  pub group : Group
  pub here : old.world.group ≡ Some group
  pub volume : Volume
  pub was : old.world.volumes v.name ≡ Some volume
  pub plexes : List Word
  pub lies : volume.lies ≡ OnPlexes plexes
  pub later : Volume
  pub failed : Word → Bool
  pub have_failed : (device : Word) → failed device ≡ true → HasFailed old.counts new.counts device
  pub becomes : AttachCopiesTo group v plex plexes failed old.counts new.counts end volume later
  pub goes : VolumeGoes group v.name later old new
  pub ends : AttachEnds group v.name before plex old.counts new.counts end

-- ---- the whole

-- As this configuration records it, what is read of the volume of the name lies within these candidates, by what the devices hold and over the
-- good disks of the group.
abbrev pub IsReadWithin : Group → Config → Word → World → Candidates → Type 0
IsReadWithin g next name w candidates = (v : Vol) → Contains next.volumes v → v.name ≡ name → StandsForCandidates (image_on w.devices (record g { config = next }) v) candidates

-- the commit is stopped: the volume runs on as it ran
pub record StopsUnattached (g : Group) (vol name : Word) (old : Moment) (end : End) (new : Moment) : Type 0 where
  pub volume : Vol
  pub plex : Plex
  pub may : MayAttach (runs_on_plexes old.world vol) g.config g.good vol name volume plex
  pub running : Volume
  pub runs : old.world.volumes vol ≡ Some running
  pub rest : AreLater old.counts new.counts
  pub stops : StopsBy (IsChange (state_edits volume.name plex plex_state.Active) old.world) old end new
  -- with the plex in use the volume is sound by its bytes, if they were as it began
  pub sound : running.sound ≡ true → IsSoundAs g stops.0.config vol old.world
  -- and what is read of it then lies within what is known of the volume that runs
  pub within : running.sound ≡ true → IsReadWithin g stops.0.config vol old.world running.life.candidates

-- it is in use, and copying ends the command
pub record StopsAttached (g : Group) (vol name : Word) (old : Moment) (end : End) (new : Moment) : Type 0 where
  pub attached : Moment
  pub is : IsAttachedBy g vol name old attached
  pub rest : AreLater attached.counts new.counts
  pub copied : IsAttachCopied is.volume name is.goes.volume attached end new

-- how it ends its command in a group
abbrev pub AttachStopsIn : Group → (vol name : Word) → Moment → End → Moment → Type 0
AttachStopsIn g vol name old end new =
    (IsAttachRefused (runs_on_plexes old.world vol) g vol name end × Rests old new) ⊎ (StopsUnattached g vol name old end new ⊎ StopsAttached g vol name old end new)

abbrev pub AttachStops : (vol name : Word) → Moment → End → Moment → Type 0
AttachStops vol name old end new = MatchOption old.world.group (EndsIn (refusal.NoGroup None) old end new) (λ g. AttachStopsIn g vol name old end new)
