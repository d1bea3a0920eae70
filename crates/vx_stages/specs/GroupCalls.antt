-- `read` and `write` of a volume on plexes of the imported group: a part is a device call on each plex that it takes, and marks
-- go to the log before it.
use Rattle.std.specs.Prelude.{◌≡◌, ◌≢◌, ◌⊎◌, ℕ, ◌==◌, ◌&&◌, ◌||◌, not, nat_le, nat_lt, Bool, true, false, Some, None, List, [], ◌∷◌, ◌++◌, map, Contains}
use Rattle.std.specs.List.{list_all}
use Rattle.vx_base.specs.Named.{Word, put}
use Rattle.vx_life.specs.declared.Part.{Part}
use Rattle.vx_life.specs.Entry.{Entry}
use Rattle.vx_life.specs.Life.{Life, GoesOn}
use Rattle.vx_config_parts.specs.declared.plex.Plex.{Plex}
use Rattle.vx_config_parts.specs.Objects.{is_data_plex_of, is_log_plex_of}
use Rattle.vx_script_forms.specs.declared.call.Call.{Call}
use Rattle.vx_answers.specs.declared.answer.End.{End}
use Rattle.vx_answers.specs.declared.answer.End.TheVariants as ends
use Rattle.vx_moments.specs.World.{Volume, Member, Group}
use Rattle.vx_moments.specs.Moment.{Moment, Counts, HasFailed}
use Rattle.vx_moments.specs.Group.{ChangesOnly}
use Rattle.vx_moments.specs.Owners.{IsDeviceOfVolume, devices_on, owner_of, owners_of}
use Rattle.vx_moments.specs.Tracks.{volume_lived}
use Rattle.vx_stages.specs.Calls.{AreOf, AreParts, IsDoneBy, count_of, failed_kind, start_of, values_of, volume_of}

-- ---- what is known of the volume

-- the command at this place, outside blocks, comes behind all that the life has of such commands
abbrev pub comes_next : ℕ → Life → Bool
comes_next place life = list_all (λ (e : Entry). nat_le e.part.epoch life.epoch && (not (e.session == 0) || nat_lt e.place place)) life.entries

-- what the volume reads is known: its bytes were sound as it began, and commands came in order
abbrev pub is_known : ℕ → Volume → Bool
is_known place v = v.sound && comes_next place v.life

-- ---- what the answer tells

-- the answer tells of these entries: where it is done of all parts of the call, and else of those that were begun; after a fault
-- there are some
abbrev pub TellsParts : ℕ → Call → ℕ → End → List Entry → Type 0
TellsParts place call size (ends.Done copied parts blocks) es = (copied ≡ None) × (map (λ (e : Entry). e.part) es ≡ parts) × IsDoneBy place call size blocks es
TellsParts place call size (ends.Fault told device parts) es = (map (λ (e : Entry). e.part) es ≡ parts) × AreOf place (failed_kind call) (values_of call []) es × (es ≢ [])
TellsParts place call size (ends.Lost parts) es = (map (λ (e : Entry). e.part) es ≡ parts) × AreOf place (failed_kind call) (values_of call []) es
TellsParts place call size (ends.Refused refusal) es = ⊥
TellsParts place call size ends.ShelfFailed es = ⊥
TellsParts place call size ends.GroupLost es = ⊥

-- The answer tells of entries of the call's first parts, and by these the volume's life goes on. Its tracks and dirty regions are what
-- these entries, and the devices that have failed, make of them.
pub record LivesOnPlexes (place : ℕ) (call : Call) (g : Group) (plexes : List Word) (v : Volume) (old new : Counts) (end : End) (later : Volume) : Type 0 where
  pub entries : List Entry
  pub life : Life
  pub parts : AreParts v.region (start_of call) (count_of call) 0 entries
  pub told : TellsParts place call v.region end entries
  pub goes_on : GoesOn v.life entries life
  pub failed : Word → Bool
  pub have_failed : (device : Word) → failed device ≡ true → HasFailed old new device
  pub is : later ≡ volume_lived (owners_of g (volume_of call) plexes) failed entries life v

-- the volume afterwards: where nothing was known of it, nothing is
abbrev pub BecomesBy : Bool → ℕ → Call → Group → List Word → Volume → Counts → Counts → End → Volume → Type 0
BecomesBy true place call g plexes v old new end later = LivesOnPlexes place call g plexes v old new end later
BecomesBy false place call g plexes v old new end later = later ≡ record v { sound = false }

-- ---- why it ended so

-- a device of the plex has failed
abbrev pub PlexHasFailed : Group → Counts → Counts → Plex → Type 0
PlexHasFailed g old new p = (device : Word) × Contains (devices_on g p) device × HasFailed old new device

-- some plex of the volume's log has failed
abbrev pub LogHasFailed : Group → Word → Counts → Counts → Type 0
LogHasFailed g vol old new = (p : Plex) × Contains g.config.plexes p × (is_log_plex_of vol p ≡ true) × PlexHasFailed g old new p

-- each plex that is written to, and does not differ in the region so far as is known, has failed
abbrev pub CurrentHaveFailed : Group → Word → List Word → Volume → ℕ → Counts → Counts → Type 0
CurrentHaveFailed g vol plexes v region old new =
    (p : Plex) → Contains g.config.plexes p → is_data_plex_of vol p ≡ true → (owner_of g plexes p).available ≡ true → (v.tracks p.name).possible region ≡ false → PlexHasFailed g old new p

-- the part is the last one of these
abbrev pub IsLastPart : List Part → Part → Type 0
IsLastPart parts part = (before : List Part) × (parts ≡ before ++ part ∷ [])

-- A fault is told of a device of the volume that has failed, and of the disk on it; where the volume is known, the log has failed, or each
-- plex that was current in the region of the last part.
pub record FaultHasCause (known : Bool) (vol : Word) (g : Group) (plexes : List Word) (v : Volume) (old new : Counts) (told device : Word) (parts : List Part) : Type 0 where
  pub member : Member
  pub there : Contains g.members member
  pub device_is : member.device ≡ device
  pub disk_is : member.disk ≡ told
  pub own : IsDeviceOfVolume g vol device
  pub failed : HasFailed old new device
  pub excused : known ≡ true → (last : Part) → IsLastPart parts last → LogHasFailed g vol old new ⊎ CurrentHaveFailed g vol plexes v last.region old new

-- all is lost only where the power of a device of the volume is gone
abbrev pub EndHasCause : Bool → Word → Group → List Word → Volume → Counts → Counts → End → Type 0
EndHasCause known vol g plexes v old new (ends.Done copied parts blocks) = Unit {0}
EndHasCause known vol g plexes v old new (ends.Fault told device parts) = FaultHasCause known vol g plexes v old new told device parts
EndHasCause known vol g plexes v old new (ends.Lost parts) = (device : Word) × IsDeviceOfVolume g vol device × (new.cut device ≡ true)
EndHasCause known vol g plexes v old new (ends.Refused refusal) = ⊥
EndHasCause known vol g plexes v old new ends.ShelfFailed = ⊥
EndHasCause known vol g plexes v old new ends.GroupLost = ⊥

-- no device was called but those of the volume
pub record CallsOnly (g : Group) (vol : Word) (old new : Counts) : Type 0 where
  pub reads : (name : Word) → (IsDeviceOfVolume g vol name → ⊥) → new.reads name ≡ old.reads name
  pub writes : (name : Word) → (IsDeviceOfVolume g vol name → ⊥) → new.writes name ≡ old.writes name
  pub faults : (name : Word) → (IsDeviceOfVolume g vol name → ⊥) → new.faults name ≡ old.faults name
  pub shelf : new.shelf ≡ old.shelf

-- ---- the call

-- The call is served: the devices change in sectors of the volume alone, and it has lived on as the answer tells.
pub record IsServedOnPlexes (place : ℕ) (call : Call) (plexes : List Word) (v : Volume) (old : Moment) (end : End) (new : Moment) : Type 0 where
  pub group : Group
  pub here : old.world.group ≡ Some group
  pub later : Volume
  pub becomes : BecomesBy (is_known place v) place call group plexes v old.counts new.counts end later
  pub world : new.world ≡ record old.world { devices = new.world.devices; volumes = put (volume_of call) (Some later) old.world.volumes }
  pub changes : ChangesOnly group (volume_of call) old.world.devices new.world.devices
  pub cause : EndHasCause (is_known place v) (volume_of call) group plexes v old.counts new.counts end
  pub calls : CallsOnly group (volume_of call) old.counts new.counts
