-- How a start of a volume of the imported group ends its command: it is refused at once, or its log is made or loaded, it is opened, what
-- a start records is committed, it runs, and its plexes are copied to.
use Rattle.std.specs.Prelude.{◌≡◌, ◌⊎◌, ℕ, ◌<◌, ◌&&◌, ◌||◌, ◌==◌, not, nat_le, Bool, true, false, is_some, if◌then◌else◌, Option, Some, None, MatchOption, MatchBool, List, [], ◌++◌, length, map, Contains}
use Rattle.std.specs.List.{list_all, list_any, filter}
use Rattle.std.specs.Str.{bytes_eq}
use Rattle.vx_base.specs.Named.{Word, put}
use Rattle.vx_block.specs.Regions.{region_count}
use Rattle.vx_config_parts.specs.declared.plex.Plex.{Plex}
use Rattle.vx_config_parts.specs.declared.state.VolState.{VolState}
use Rattle.vx_config_parts.specs.declared.state.VolState.TheVariants as vol
use Rattle.vx_config_parts.specs.declared.vol.Vol.{Vol}
use Rattle.vx_config_parts.specs.Objects.{is_data_plex_of}
use Rattle.vx_objects.specs.declared.config.Config.{Config}
use Rattle.vx_objects.specs.Applied.{IsEdited}
use Rattle.vx_state_edits.specs.Edits.{is_new, start_edits}
use Rattle.vx_answers.specs.declared.answer.End.{End}
use Rattle.vx_answers.specs.declared.answer.End.TheVariants as ends
use Rattle.vx_answers.specs.declared.refusal.Refusal.{Refusal}
use Rattle.vx_answers.specs.declared.refusal.Refusal.TheVariants as refusal
use Rattle.vx_moments.specs.World.{Group, Volume}
use Rattle.vx_moments.specs.Moment.{AreLater, Counts, HasFailed, Moment, Rests}
use Rattle.vx_moments.specs.Commit.{Writing, IsCommitted}
use Rattle.vx_image.specs.Bytes.{is_log_copy, map_or_zero}
use Rattle.vx_image.specs.Image.{Image, PlexImage, IsFilled, is_available, regions_of}
use Rattle.vx_image.specs.Meaning.{possible_read, sure_read}
use Rattle.vx_image.specs.Soundness.{IsSoundImage}
use Rattle.vx_image.specs.UsedPlexes.{held_plexes, is_on, on_plexes, used_logs}
use Rattle.vx_moments.specs.Group.{image_on, sectors_of}
use Rattle.vx_moments.specs.Lives.{volume_begun, volume_copied}
use Rattle.vx_moments.specs.Owners.{owners_of}
use Rattle.vx_moments.specs.Tracks.{volume_failed}
use Rattle.vx_stages.specs.Ends.{EndsIn, IsChange, RefusedAsLong, StopsBy, lost, refused}
use Rattle.vx_stages.specs.GroupCalls.{LogHasFailed, PlexHasFailed}
use Rattle.vx_stages.specs.Recorded.{IsSoundAs}
use Rattle.vx_stages.specs.Tests.{volume_in, where_}
use Rattle.vx_stages.specs.Touching.{FailsOn, IsCutOff, IsTouched, Narrows, PassHasCause, VolumeGoes}

-- ---- tests

-- a volume in this state is started
abbrev pub may_start : VolState → Bool
may_start vol.Empty = true
may_start vol.Clean = true
may_start vol.Active = false
may_start vol.NeedSync = false
may_start vol.Sync = false

-- the volume has a DCO, and no log of it that is used is on good disks
abbrev pub log_refusal : Group → Vol → Option Refusal
log_refusal g v = where_ (is_some v.dco && length (used_logs v.dco g.config g.good (is_new v.state) v.name) == 0) (refusal.NoLog v.name)

-- the data plex has no higher map than another of the volume
abbrev pub is_lowest : Config → Word → Plex → Bool
is_lowest c vol p = list_all (λ (q : Plex). nat_le (map_or_zero p.map) (map_or_zero q.map)) (filter (is_data_plex_of vol) c.plexes)

-- an available plex may be current before anything is copied: where the volume was never started, the lowest alone
abbrev pub is_first_read : Group → Vol → Plex → Bool
is_first_read g v p = not (is_new v.state) || is_lowest g.config v.name p

-- No plex can be current: none is available, or of a volume that was never started the lowest is not. Of one with a log that was started
-- before this is found by the log.
abbrev pub current_refusal : Group → Vol → Option Refusal
current_refusal g v =
    where_ ((is_new v.state || not (is_some v.dco)) && not (list_any (is_first_read g v) (on_plexes g.config g.good v.name))) (refusal.NoCurrent 0)

-- the first of two refusals
abbrev pub first_of : Option Refusal → Option Refusal → Option Refusal
first_of None r = r
first_of (Some r) other = Some r

-- what the configuration and the good disks say, in the order of the tests
abbrev pub refusal_at_once : Group → Vol → Option Refusal
refusal_at_once g v = first_of (log_refusal g v) (current_refusal g v)

-- Nothing was called: a test refuses the start, or else what it records would be too long.
abbrev pub IsRefusedAtOnce : Group → Vol → Moment → End → Moment → Type 0
IsRefusedAtOnce g v old end new =
    (((r : Refusal) × (refusal_at_once g v ≡ Some r) × (end ≡ refused r))
    ⊎ ((refusal_at_once g v ≡ None) × (next : Config) × IsEdited (start_edits g.config v) g.config next × RefusedAsLong next end))
    × Rests old new

-- ---- why it is not opened

-- no copy of the log could be read: each that counts has failed
abbrev pub HasNoReadCopy : Group → Vol → Moment → Moment → Type 0
HasNoReadCopy g v old new =
    (p : Plex) → Contains g.config.plexes p → is_log_copy g.config g.good (sectors_of old.world.devices g.members) v p ≡ true → PlexHasFailed g old.counts new.counts p

-- the plex may be marked in the region
abbrev pub MayMiss : Image → ℕ → PlexImage → Type 0
MayMiss v r p = is_available p ≡ true → possible_read v p.map r ≡ true

-- The region is the first in which no plex is current: there each available plex may be marked, and in each before it one is not surely.
pub record IsFirstMissed (v : Image) (r : ℕ) : Type 0 where
  pub inside : r < regions_of v
  pub here : (p : PlexImage) → Contains v.plexes p → MayMiss v r p
  pub before : (q : ℕ) → q < r → (p : PlexImage) × Contains v.plexes p × (is_available p ≡ true) × (sure_read v p.map q ≡ false)

-- no copy of the log could be read, or a region has no current plex, or a device has failed, or the power is gone
abbrev pub UnopenedBy : Group → Vol → Moment → End → Moment → Type 0
UnopenedBy g v old end new =
    ((end ≡ refused (refusal.NoLog v.name)) × IsFilled v.state × (is_some v.dco ≡ true) × HasNoReadCopy g v old new)
    ⊎ (((r : ℕ) × (end ≡ refused (refusal.NoCurrent r)) × IsFilled v.state × IsFirstMissed (image_on old.world.devices g v) r)
    ⊎ (((told : Word) × (device : Word) × (end ≡ ends.Fault told device []) × FailsOn g v.name old.counts new.counts told device)
    ⊎ ((end ≡ lost) × IsCutOff g v.name new.counts)))

-- nothing refuses the start at once; its log was called, and the volume was not opened
pub record StopsUnopened (g : Group) (v : Vol) (old : Moment) (end : End) (new : Moment) : Type 0 where
  pub untested : refusal_at_once g v ≡ None
  pub touched : IsTouched g v.name old new
  pub narrows : Narrows g v old new
  pub cause : UnopenedBy g v old end new

-- ---- the volume that runs

-- the plexes that it lies on: its data plexes on good disks, and then its logs that are used
abbrev pub plexes_started : Group → Vol → List Word
plexes_started g v = map (λ (p : Plex). p.name) (held_plexes g.config g.good v.name) ++ map (λ (p : Plex). p.name) (used_logs v.dco g.config g.good (is_new v.state) v.name)

-- a life begins over what its bytes say, with nothing sure of plexes that are written to
abbrev pub volume_started : Group → Vol → Image → Bool → Volume
volume_started g v image sound = record (volume_begun g v (plexes_started g v) image) { sound = sound }

-- The volume begins to run: the moment is the other one with it. Where its bytes are not sound nothing is known of it; a volume that was
-- never started has no bytes that are not.
pub record BeginsIn (g : Group) (v : Vol) (image : Image) (old new : Moment) : Type 0 where
  pub sound : Bool
  pub if_sound : IsSoundImage image → sound ≡ true
  pub if_new : is_new v.state ≡ true → sound ≡ true
  pub world : new.world ≡ record old.world { volumes = put v.name (Some (volume_started g v image sound)) old.world.volumes }
  pub counts : new.counts ≡ old.counts

-- Nothing refuses the start at once, and nothing of the name runs. Its log is made or loaded, what a start records is committed, and it runs.
pub record IsStartedBy (g : Group) (v : Vol) (old new : Moment) : Type 0 where
  pub untested : refusal_at_once g v ≡ None
  pub free : old.world.volumes v.name ≡ None
  pub opened : Moment
  pub touched : IsTouched g v.name old opened
  pub first : AreLater old.counts opened.counts
  pub writing : Writing
  pub change : IsChange (start_edits g.config v) opened.world writing
  pub recorded : Moment
  pub committed : IsCommitted writing opened recorded
  pub rest : AreLater opened.counts recorded.counts
  pub begins : BeginsIn g v (image_on old.world.devices g v) recorded new

-- ---- copying

-- a volume that was never started has its lowest plex alone: each other available one is copied to
abbrev pub is_copied_plex : Group → Vol → Plex → Bool
is_copied_plex g v p = is_new v.state && (is_on g.config g.good p && (is_data_plex_of v.name p && not (is_lowest g.config v.name p)))

abbrev pub is_copied : Group → Vol → Word → Bool
is_copied g v name = list_any (λ (p : Plex). bytes_eq p.name name && is_copied_plex g v p) g.config.plexes

-- so many regions are copied: all, where there is such a plex
abbrev pub regions_copied : Group → Vol → ℕ
regions_copied g v = if list_any (is_copied_plex g v) g.config.plexes then region_count v.len v.region else 0

-- Once it is done nothing is missing on the plexes that were copied to, unless the log has failed meanwhile: then they may differ still.
abbrev pub IsCopiedTo : Group → Group → Vol → (Word → Bool) → Counts → Counts → Volume → Volume → Type 0
IsCopiedTo g now v failed old new w later =
    (later ≡ volume_copied (is_copied g v) (volume_failed (owners_of now v.name (plexes_started g v)) failed w))
    ⊎ (LogHasFailed now v.name old new × (later ≡ volume_failed (owners_of now v.name (plexes_started g v)) failed w))

-- what copying has made of the volume, by how it ended
abbrev pub CopiesTo : Group → Group → Vol → (Word → Bool) → Counts → Counts → End → Volume → Volume → Type 0
CopiesTo g now v failed old new (ends.Done copied parts blocks) w later = IsCopiedTo g now v failed old new w later
CopiesTo g now v failed old new other w later = later ≡ volume_failed (owners_of now v.name (plexes_started g v)) failed w

-- where its bytes were not sound as it began, nothing more is known of it
abbrev pub BecomesBy : Bool → Group → Group → Vol → (Word → Bool) → Counts → Counts → End → Volume → Volume → Type 0
BecomesBy true g now v failed old new end w later = CopiesTo g now v failed old new end w later
BecomesBy false g now v failed old new end w later = later ≡ w

-- the answer of a start that is done tells how many regions were copied; of one that is not there is a cause
abbrev pub CopyEnds : Group → Group → Vol → Counts → Counts → End → Type 0
CopyEnds g now v old new (ends.Done copied parts blocks) = (copied ≡ Some (regions_copied g v)) × (parts ≡ []) × (blocks ≡ [])
CopyEnds g now v old new other = PassHasCause now v.name old new other

-- The volume that runs is copied to. The first group is that before the start, which says what is copied.
pub record IsCopied (g : Group) (v : Vol) (old : Moment) (end : End) (new : Moment) : Type 0 where
  pub group : Group
  pub here : old.world.group ≡ Some group
  pub volume : Volume
  pub was : old.world.volumes v.name ≡ Some volume
  pub later : Volume
  pub failed : Word → Bool
  pub have_failed : (device : Word) → failed device ≡ true → HasFailed old.counts new.counts device
  pub becomes : BecomesBy volume.sound g group v failed old.counts new.counts end volume later
  pub goes : VolumeGoes group v.name later old new
  pub ends : CopyEnds g group v old.counts new.counts end

-- ---- the whole

-- nothing refuses the start at once; its log was made or loaded, and the commit is stopped
pub record StopsAtCommit (g : Group) (v : Vol) (old : Moment) (end : End) (new : Moment) : Type 0 where
  pub untested : refusal_at_once g v ≡ None
  pub opened : Moment
  pub touched : IsTouched g v.name old opened
  pub narrows : Narrows g v old opened
  pub first : AreLater old.counts opened.counts
  pub rest : AreLater opened.counts new.counts
  pub stops : StopsBy (IsChange (start_edits g.config v) opened.world) opened end new
  -- as the start records it the volume is sound by the bytes that its devices then have, if it was as the start began; so is one that was never started
  pub recorded : (is_new v.state ≡ false → IsSoundImage (image_on old.world.devices g v)) → IsSoundAs g stops.0.config v.name opened.world

-- it runs, and copying ends the command
pub record StopsAfter (g : Group) (v : Vol) (old : Moment) (end : End) (new : Moment) : Type 0 where
  pub begun : Moment
  pub started : IsStartedBy g v old begun
  pub rest : AreLater begun.counts new.counts
  pub copied : IsCopied g v begun end new

-- how the start of this volume of the group ends the command
abbrev pub StopsOf : Group → Vol → Moment → End → Moment → Type 0
StopsOf g v old end new = IsRefusedAtOnce g v old end new ⊎ (StopsUnopened g v old end new ⊎ (StopsAtCommit g v old end new ⊎ StopsAfter g v old end new))

abbrev pub StopsIn : Group → Word → Moment → End → Moment → Type 0
StopsIn g name old end new =
    MatchOption (volume_in name g.config.volumes)
    (EndsIn (refusal.NoObject name) old end new)
    (λ v. MatchBool (may_start v.state) (StopsOf g v old end new) (EndsIn (refusal.VolState v.state) old end new))

-- How a start ends the command, in each case.
abbrev pub StartStops : Word → Moment → End → Moment → Type 0
StartStops name old end new = MatchOption old.world.group (EndsIn (refusal.NoGroup None) old end new) (λ g. StopsIn g name old end new)

-- What want of memory leaves of it: the world as before, or with the log of the volume made or loaded, which does not run.
abbrev pub StartWants : Word → Moment → Moment → Type 0
StartWants name old new =
    (new.world ≡ old.world) ⊎ ((g : Group) × (v : Vol) × (old.world.group ≡ Some g) × (volume_in name g.config.volumes ≡ Some v) × (may_start v.state ≡ true) × IsTouched g name old new × Narrows g v old new)
