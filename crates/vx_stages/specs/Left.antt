-- How `vxplex dis` goes in the world and ends its command: where the plex is one of data the volume comes to rest, or its log is asked, then
-- the configuration without it is committed. A running volume goes on without the plex in the same life.
use Rattle.std.specs.Prelude.{◌≡◌, ◌≢◌, ◌⊎◌, ℕ, ◌<◌, ◌&&◌, ◌||◌, Bool, true, false, not, Option, None, Some, MatchOption, Contains, List, []}
use Rattle.std.specs.List.{filter, list_any}
use Rattle.std.specs.Str.{bytes_eq}
use Rattle.vx_base.specs.Named.{Word, put}
use Rattle.vx_config_parts.specs.declared.plex.Plex.{Plex}
use Rattle.vx_config_parts.specs.declared.vol.Vol.{Vol}
use Rattle.vx_config_parts.specs.Objects.{is_log_plex_of}
use Rattle.vx_objects.specs.declared.config.Config.{Config}
use Rattle.vx_state_edits.specs.Edits.{is_new}
use Rattle.vx_image.specs.Image.{Image, PlexImage, is_available, regions_of}
use Rattle.vx_image.specs.Meaning.{possible_read, sure_read}
use Rattle.vx_answers.specs.declared.answer.End.{End}
use Rattle.vx_answers.specs.declared.answer.End.TheVariants as ends
use Rattle.vx_answers.specs.declared.refusal.Refusal.TheVariants as refusal
use Rattle.vx_moments.specs.Commit.{IsCommitted, Writing}
use Rattle.vx_moments.specs.Group.{image_on}
use Rattle.vx_moments.specs.Holding.{is_among}
use Rattle.vx_moments.specs.Leaving.{grouped}
use Rattle.vx_moments.specs.Moment.{AreLater, Moment, Rests}
use Rattle.vx_moments.specs.Owners.{devices_on}
use Rattle.vx_moments.specs.World.{Group, OnPlexes, Volume, World}
use Rattle.vx_stages.specs.Attached.{IsReadWithin}
use Rattle.vx_stages.specs.Detached.{CanBeSpared, IsNeeded}
use Rattle.vx_stages.specs.Ends.{CommitsBy, EndsIn, IsChange, StopsBy, lost, refused}
use Rattle.vx_stages.specs.Leaving.{ByLog, ByRecord, FromLog, FromRest, IsLeavingRefused, MayLeave, Way, leaving_edits, way_of}
use Rattle.vx_stages.specs.Recorded.{IsSoundAs}
use Rattle.vx_stages.specs.Starting.{HasNoReadCopy}
use Rattle.vx_stages.specs.Stopping.{ComesToRest, RestStops, rested_volume, runs_on_plexes}
use Rattle.vx_stages.specs.Tests.{is_data, volume_in}
use Rattle.vx_stages.specs.Touching.{FailsOn, IsCutOff, IsTouched, Narrows}

-- ---- the plexes beside it, as bytes are

-- another plex of the image that is available
pub record IsOtherPlex (v : Image) (p : Plex) (q : PlexImage) : Type 0 where
  pub there : Contains v.plexes q
  pub other : q.name ≢ p.name
  pub available : is_available q ≡ true

-- in some region each of these may be marked
pub record IsNeededIn (v : Image) (p : Plex) : Type 0 where
  pub region : ℕ
  pub inside : region < regions_of v
  pub missed : (q : PlexImage) → IsOtherPlex v p q → possible_read v q.map region ≡ true

-- in each region one of these is not surely marked
abbrev pub IsSparedIn : Image → Plex → Type 0
IsSparedIn v p = (r : ℕ) → r < regions_of v → (q : PlexImage) × IsOtherPlex v p q × (sure_read v q.map r ≡ false)

-- ---- what is done before

-- the log of a volume that does not run is read: its copies come nearer to one another, and nothing else changes
pub record IsAsked (g : Group) (v : Vol) (old mid : Moment) : Type 0 where
  pub touched : IsTouched g v.name old mid
  pub narrows : Narrows g v old mid
  pub later : AreLater old.counts mid.counts

-- what the way asks for is done
abbrev pub IsReadied : Way → Group → Vol → Moment → Moment → Type 0
IsReadied ByRecord g v old mid = mid ≡ old
IsReadied FromLog g v old mid = mid ≡ old
IsReadied FromRest g v old mid = ComesToRest v.name old mid
IsReadied ByLog g v old mid = IsAsked g v old mid

-- .. and then the plex can be spared: where the bytes of a running volume were sound as it began
abbrev pub CanLeave : (way : Way) (g : Group) (v : Vol) → Plex → (old mid : Moment) → IsReadied way g v old mid → Type 0
CanLeave ByRecord g v p old mid readied = Unit {0}
CanLeave FromLog g v p old mid readied = Unit {0}
CanLeave FromRest g v p old mid readied = readied.volume.sound ≡ true → CanBeSpared readied.group v.name readied.plexes p (rested_volume readied)
CanLeave ByLog g v p old mid readied = IsSparedIn (image_on old.world.devices g v) p

-- the running volume of the name lies on this log plex, and on no other of its log plexes
pub record IsOnlyLog (g : Group) (vol : Word) (p : Plex) (old : Moment) : Type 0 where
  pub volume : Volume
  pub was : old.world.volumes vol ≡ Some volume
  pub plexes : List Word
  pub lies : volume.lies ≡ OnPlexes plexes
  pub on : is_among p.name plexes ≡ true
  pub only : (q : Plex) → Contains g.config.plexes q → is_log_plex_of vol q ≡ true → is_among q.name plexes ≡ true → q.name ≡ p.name

-- .. or it cannot
abbrev pub MustStay : (way : Way) (g : Group) (v : Vol) → Plex → (old mid : Moment) → IsReadied way g v old mid → Type 0
MustStay ByRecord g v p old mid readied = ⊥
MustStay FromLog g v p old mid readied = IsOnlyLog g v.name p old
MustStay FromRest g v p old mid readied = readied.volume.sound ≡ true → IsNeeded readied.group v.name readied.plexes p (rested_volume readied)
MustStay ByLog g v p old mid readied = IsNeededIn (image_on old.world.devices g v) p

-- what becomes of the command where no copy of the log can be read, a device fails, or the power goes as the log is read
abbrev pub UnaskedBy : Group → Vol → Moment → End → Moment → Type 0
UnaskedBy g v old end new =
    ((end ≡ refused (refusal.NoLog v.name)) × HasNoReadCopy g v old new)
    ⊎ (((told : Word) × (device : Word) × (end ≡ ends.Fault told device []) × FailsOn g v.name old.counts new.counts told device)
    ⊎ ((end ≡ lost) × IsCutOff g v.name new.counts))

-- what the way asks for could not be done
abbrev pub StopsUnreadied : Way → Group → Vol → Moment → End → Moment → Type 0
StopsUnreadied ByRecord g v old end new = ⊥
StopsUnreadied FromLog g v old end new = ⊥
StopsUnreadied FromRest g v old end new = RestStops v.name old end new
StopsUnreadied ByLog g v old end new = IsTouched g v.name old new × Narrows g v old new × UnaskedBy g v old end new

-- ---- the volume that goes on

-- these plexes but for the one of the name
abbrev pub besides : Word → List Word → List Word
besides name plexes = filter (λ other. not (bytes_eq other name)) plexes

-- a log plex of the volume lies on the device
abbrev pub is_log_device : Group → Word → Word → Bool
is_log_device g vol device = list_any (λ (q : Plex). is_log_plex_of vol q && is_among device (devices_on g q)) g.config.plexes

-- The devices that count as failed once a plex has left: where one of a copy of the log has, what it left open may stand on the others.
abbrev pub failed_without : Group → Word → Plex → (Word → Bool) → Word → Bool
failed_without g vol p failed device = failed device || (not (is_data p.kind) && (list_any failed (devices_on g p) && is_log_device g vol device))

-- The volume once a plex has left it: it lies on the others. Its life, its dirty regions and its tracks are as they were.
abbrev pub volume_left : Group → Word → Plex → (plexes : List Word) → Volume → Volume
volume_left g vol p plexes w = record w { lies = OnPlexes (besides p.name plexes); failed = failed_without g vol p w.failed }

-- the running volume of the name goes on without the plex, and all else is the same
pub record GoesOnWithout (g : Group) (vol : Word) (p : Plex) (old new : Moment) : Type 0 where
  pub volume : Volume
  pub was : old.world.volumes vol ≡ Some volume
  pub plexes : List Word
  pub lies : volume.lies ≡ OnPlexes plexes
  pub world : new.world ≡ record old.world { volumes = put vol (Some (volume_left g vol p plexes volume)) old.world.volumes }
  pub counts : new.counts ≡ old.counts

-- so it goes on where the plex was taken out of it, else nothing changes
abbrev pub GoesOnBy : Way → Group → Word → Plex → Moment → Moment → Type 0
GoesOnBy ByRecord g vol p old new = new ≡ old
GoesOnBy FromLog g vol p old new = GoesOnWithout g vol p old new
GoesOnBy FromRest g vol p old new = GoesOnWithout g vol p old new
GoesOnBy ByLog g vol p old new = new ≡ old

-- ---- it is done

-- As this configuration records it a running volume is sound by its bytes, and what is read of them lies within what is known of it.
pub record StaysKnown (g : Group) (vol : Word) (next : Config) (w : World) (run : Volume) : Type 0 where
  pub sound : IsSoundAs g next vol w
  pub within : IsReadWithin g next vol w run.life.candidates

-- As this configuration records it the volume is as sound by its bytes as it was; where it runs, it was sound as it began. Of one that was never
-- started nothing is said: its log is made new.
abbrev pub StaysSound : World → Group → Vol → Config → World → Type 0
StaysSound w g v next mid =
    MatchOption (grouped (w.volumes v.name)) (is_new v.state ≡ false → IsSoundAs g g.config v.name w → IsSoundAs g next v.name mid) (λ run. run.sound ≡ true → StaysKnown g v.name next mid run)

-- A plex leaves the volume: what its way asks for is done, it can be spared, the configuration without it is committed, and where the volume runs
-- it goes on.
pub record LeavesVolume (remove : Bool) (g : Group) (v : Vol) (p : Plex) (old new : Moment) : Type 0 where
  pub mid : Moment
  pub readied : IsReadied (way_of (is_data p.kind) (runs_on_plexes old.world v.name) v) g v old mid
  pub spared : CanLeave (way_of (is_data p.kind) (runs_on_plexes old.world v.name) v) g v p old mid readied
  pub writing : Writing
  pub change : IsChange (leaving_edits remove p) mid.world writing
  pub sound : StaysSound old.world g v writing.config mid.world
  pub recorded : Moment
  pub committed : IsCommitted writing mid recorded
  pub rest : AreLater mid.counts recorded.counts
  pub goes : GoesOnBy (way_of (is_data p.kind) (runs_on_plexes old.world v.name) v) g v.name p recorded new

-- a plex without a volume is removed by a commit alone
pub record IsRemovedAlone (remove : Bool) (p : Plex) (old new : Moment) : Type 0 where
  pub commits : CommitsBy (IsChange (leaving_edits remove p) old.world) old new
  pub rest : AreLater old.counts new.counts

-- .. and one that has a volume leaves that
abbrev pub Leaves : (remove : Bool) → Group → Plex → Option Word → Moment → Moment → Type 0
Leaves remove g p None old new = IsRemovedAlone remove p old new
Leaves remove g p (Some vol) old new = (v : Vol) × (volume_in vol g.config.volumes ≡ Some v) × LeavesVolume remove g v p old new

-- The plex of the name has left its volume, or it is gone.
pub record IsDissociated (remove : Bool) (name : Word) (old new : Moment) : Type 0 where
  pub group : Group
  pub here : old.world.group ≡ Some group
  pub plex : Plex
  pub may : MayLeave (runs_on_plexes old.world) group remove name plex
  pub leaves : Leaves remove group plex plex.vol old new

-- ---- how it ends its command

-- what the way asks for is done, and the plex cannot be spared
pub record StopsKept (g : Group) (v : Vol) (p : Plex) (old : Moment) (end : End) (new : Moment) : Type 0 where
  pub readied : IsReadied (way_of (is_data p.kind) (runs_on_plexes old.world v.name) v) g v old new
  pub stays : MustStay (way_of (is_data p.kind) (runs_on_plexes old.world v.name) v) g v p old new readied
  pub end_is : end ≡ refused (refusal.OnlyPlex p.name)

-- it can, and the commit is stopped: a running volume runs on with it
pub record StopsInVolume (remove : Bool) (g : Group) (v : Vol) (p : Plex) (old : Moment) (end : End) (new : Moment) : Type 0 where
  pub mid : Moment
  pub readied : IsReadied (way_of (is_data p.kind) (runs_on_plexes old.world v.name) v) g v old mid
  pub rest : AreLater mid.counts new.counts
  pub stops : StopsBy (IsChange (leaving_edits remove p) mid.world) mid end new
  pub sound : StaysSound old.world g v stops.0.config mid.world

abbrev pub VolumeStops : (remove : Bool) → Group → Vol → Plex → Moment → End → Moment → Type 0
VolumeStops remove g v p old end new =
    StopsUnreadied (way_of (is_data p.kind) (runs_on_plexes old.world v.name) v) g v old end new
    ⊎ (StopsKept g v p old end new ⊎ StopsInVolume remove g v p old end new)

abbrev pub LeavingStopsOf : (remove : Bool) → Group → Plex → Option Word → Moment → End → Moment → Type 0
LeavingStopsOf remove g p None old end new = StopsBy (IsChange (leaving_edits remove p) old.world) old end new
LeavingStopsOf remove g p (Some vol) old end new = (v : Vol) × (volume_in vol g.config.volumes ≡ Some v) × VolumeStops remove g v p old end new

-- how it ends its command in a group
abbrev pub LeavingStopsIn : Group → (remove : Bool) → Word → Moment → End → Moment → Type 0
LeavingStopsIn g remove name old end new =
    (IsLeavingRefused (runs_on_plexes old.world) g remove name end × Rests old new)
    ⊎ ((p : Plex) × MayLeave (runs_on_plexes old.world) g remove name p × LeavingStopsOf remove g p p.vol old end new)

abbrev pub LeavingStops : (remove : Bool) → Word → Moment → End → Moment → Type 0
LeavingStops remove name old end new = MatchOption old.world.group (EndsIn (refusal.NoGroup None) old end new) (λ g. LeavingStopsIn g remove name old end new)

-- The plex of the name, which may leave this volume by the tests.
pub record LeavesFrom (remove : Bool) (name : Word) (w : World) : Type 0 where
  pub group : Group
  pub here : w.group ≡ Some group
  pub plex : Plex
  pub may : MayLeave (runs_on_plexes w) group remove name plex
  pub vol : Word
  pub own : plex.vol ≡ Some vol
  pub volume : Vol
  pub there : volume_in vol group.config.volumes ≡ Some volume

-- what has to be done before
abbrev pub way_in : {remove : Bool} {name : Word} {w : World} → LeavesFrom remove name w → Way
way_in {w = w} from = way_of (is_data from.plex.kind) (runs_on_plexes w from.volume.name) from.volume

-- It is refused behind the tests: its log cannot be read, or it cannot be spared.
pub record StopsLate (remove : Bool) (name : Word) (old : Moment) (end : End) (new : Moment) : Type 0 where
  pub from : LeavesFrom remove name old.world
  pub stops : StopsUnreadied (way_in from) from.group from.volume old end new ⊎ StopsKept from.group from.volume from.plex old end new

-- what want of memory leaves of it: the world as it was, or what is done before it was done
abbrev pub LeavingWants : (remove : Bool) → Word → Moment → Moment → Type 0
LeavingWants remove name old new = (new.world ≡ old.world) ⊎ ((from : LeavesFrom remove name old.world) × IsReadied (way_in from) from.group from.volume old new)
