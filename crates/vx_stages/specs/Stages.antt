-- The stages of commands: what each does where it is done, and how it may end the command. The disks are those that the
-- command names.
use Rattle.std.specs.Prelude.{◌≡◌, ◌⊎◌, ℕ, ◌+◌, ◌<◌, ◌≤◌, true, false, replicate, Option, Some, None, IsSome, List, [], ◌∷◌, ◌++◌}
use Rattle.std.specs.Str.{bytes_eq}
use Rattle.vx_base.specs.Blocks.{Contents, written, IsTorn}
use Rattle.vx_base.specs.Counts.{later_count}
use Rattle.vx_base.specs.Named.{Word, put}
use Rattle.vx_header.specs.Named.{header_of}
use Rattle.vx_life.specs.Life.{begun}
use Rattle.vx_copies.specs.Image.{names_group}
use Rattle.vx_config_parts.specs.declared.object.Object.{Object}
use Rattle.vx_config_parts.specs.declared.vol.Vol.{Vol}
use Rattle.vx_rules.specs.Rules.{first_broken}
use Rattle.vx_objects.specs.declared.config.Config.{Config}
use Rattle.vx_objects.specs.declared.edit.Edit.{Edit}
use Rattle.vx_objects.specs.declared.edit.Edit.TheVariants.{AddDisk, Make, SetVol, RemoveVol}
use Rattle.vx_objects.specs.Applied.{IsEdited}
use Rattle.vx_objects.specs.Config.{objects_of}
use Rattle.vx_objects.specs.Edits.{refusal_of}
use Rattle.vx_script_words.specs.declared.value.DiskAt.{DiskAt}
use Rattle.vx_answers.specs.declared.answer.End.{End}
use Rattle.vx_answers.specs.declared.answer.End.TheVariants as ends
use Rattle.vx_answers.specs.declared.refusal.Refusal.{Refusal}
use Rattle.vx_answers.specs.declared.refusal.Refusal.TheVariants as refusal
use Rattle.vx_moments.specs.World.{World, Device, Volume, Group, OnDevice}
use Rattle.vx_moments.specs.Moment.{Moment, Counts, AreLater, Rests, HasFailed, ShelfHasFailed, HasFailedOrShelf, IsQuiet, WritesNone, CallsNone}
use Rattle.vx_moments.specs.Holding.{IsHeld, is_among}
use Rattle.vx_moments.specs.Leaving.{group_gone}
use Rattle.vx_moments.specs.Commit.{Writing}
use Rattle.vx_stages.specs.Attached.{AttachStops}
use Rattle.vx_stages.specs.Detached.{DetachStops, DetachWants, IsDetached}
use Rattle.vx_stages.specs.Ends.{fault_of, lost, refused, IsChange, RefusedAsGrown, RefusedAsLong, CommitsBy, EndsIn, StopsBy}
use Rattle.vx_stages.specs.Finding.{Found, Finds, group_found, import_records, import_sectors}
use Rattle.vx_stages.specs.Making.{adding_refusal, is_started}
use Rattle.vx_stages.specs.Left.{IsDissociated, LeavingStops, LeavingWants}
use Rattle.vx_stages.specs.Logged.{IsPrepared, IsUnprepared, PrepareStops, PrepareWants, UnprepareStops}
use Rattle.vx_stages.specs.Mirrored.{MirrorStops, MirrorWants}
use Rattle.vx_stages.specs.Records.{devices_of, sectors_at, disk_record, member_at, next_slot, new_records, new_members}
use Rattle.vx_stages.specs.Refusals.{refusal_from}
use Rattle.vx_stages.specs.Sources.{AddsFrom, Denies, growth}
use Rattle.vx_stages.specs.Starting.{StartStops, StartWants}
use Rattle.vx_stages.specs.Stopping.{IsStopDone, StopStops, StopWants}
use Rattle.vx_stages.specs.Tests.{fails, is_volume, recorded}
use Rattle.vx_stages.specs.declared.stage.Change.{Change}
use Rattle.vx_stages.specs.declared.stage.Change.TheVariants as changes
use Rattle.vx_stages.specs.declared.stage.Source.{Source}
use Rattle.vx_stages.specs.declared.stage.Stage.{Stage}
use Rattle.vx_stages.specs.declared.stage.Stage.TheVariants as stage

-- the name is that of a device that nobody holds, and that is not among those taken
abbrev pub IsFree : World → List Word → Word → Type 0
IsFree w taken name = IsSome (w.devices name) × ((IsHeld w name → ⊥) × (is_among name taken ≡ false))

-- the device's contents pass the test
abbrev pub OfDevice : World → Word → (Device → Type 0) → Type 0
OfDevice w name Passes = (d : Device) × (w.devices name ≡ Some d) × Passes d

abbrev pub HasHeader : World → Word → Type 0
HasHeader w name = OfDevice w name (λ d. IsSome (header_of (d.contents 0)))

abbrev pub HasNoHeader : World → Word → Type 0
HasNoHeader w name = OfDevice w name (λ d. header_of (d.contents 0) ≡ None)

-- the device cannot be taken: it is held, or none has the name
abbrev pub IsAway : World → List Word → Word → Refusal → Type 0
IsAway w taken name r = (((is_among name taken ≡ true) ⊎ IsHeld w name) × (r ≡ refusal.Held name)) ⊎ ((w.devices name ≡ None) × (r ≡ refusal.NoDisk name))

-- a header names the group
abbrev pub NamesGroup : Word → World → Word → Type 0
NamesGroup dg w name = OfDevice w name (λ d. names_group dg (header_of (d.contents 0)) ≡ true)

-- so many sectors of each of these devices were read, and nothing else was called; none failed
pub record ReadsEach (names : List Word) (old new : Counts) : Type 0 where
  pub these : (name : Word) → is_among name names ≡ true → new.reads name ≡ later_count (old.reads name) 1
  pub others : (name : Word) → is_among name names ≡ false → new.reads name ≡ old.reads name
  pub writes : WritesNone old new
  pub quiet : IsQuiet old new

-- one sector of the device was written, and nothing else was called; none failed
pub record WritesOne (name : Word) (old new : Counts) : Type 0 where
  pub this : new.writes name ≡ later_count (old.writes name) 1
  pub others : (other : Word) → bytes_eq name other ≡ false → new.writes other ≡ old.writes other
  pub reads : (other : Word) → new.reads other ≡ old.reads other
  pub quiet : IsQuiet old new

-- one sector of the device was written at most, and nothing else was called
pub record WritesAtMost (name : Word) (old new : Counts) : Type 0 where
  pub this : new.writes name ≤ old.writes name + 1
  pub others : (other : Word) → bytes_eq name other ≡ false → new.writes other ≡ old.writes other
  pub reads : (other : Word) → new.reads other ≡ old.reads other

-- one sector of each of these devices was read at most, and nothing else was called
pub record ReadsAtMost (names : List Word) (old new : Counts) : Type 0 where
  pub these : (name : Word) → is_among name names ≡ true → new.reads name ≤ old.reads name + 1
  pub others : (name : Word) → is_among name names ≡ false → new.reads name ≡ old.reads name
  pub writes : WritesNone old new

-- the device of the name has these contents, and all else is as before
pub record HasContents (name : Word) (R : Contents → Contents → Type 0) (old new : World) : Type 0 where
  pub device : Device
  pub contents : Contents
  pub was : old.devices name ≡ Some device
  pub goes : R device.contents contents
  pub is : new ≡ record old { devices = put name (Some (record { sectors = device.sectors; contents = contents })) old.devices }

-- a device of so many sectors of zeros stands under the name
pub record IsImageMade (name : Word) (sectors : ℕ) (old new : World) : Type 0 where
  pub contents : Contents
  pub zeros : (k : ℕ) → k < sectors → contents k ≡ replicate 512 0
  pub is : new ≡ record old { devices = put name (Some (record { sectors = sectors; contents = contents })) old.devices }

-- the volume of a device's blocks, as it is started
abbrev pub bare_volume : Word → Device → Volume
bare_volume name device = record {
  lies = OnDevice name;
  length = device.sectors;
  region = 128;
  life = begun device.contents;
  dirty = λ r. false;
  dirty_began = λ r. false;
  tracks = λ plex. record { sure = λ r. false; possible = λ r. false };
  failed = λ device. false;
  sound = true;
}

pub record IsBare (vol name : Word) (old new : World) : Type 0 where
  pub device : Device
  pub was : old.devices name ≡ Some device
  pub is : new ≡ record old { volumes = put vol (Some (bare_volume name device)) old.volumes }

-- each free device that is not taken was read once, and no other
pub record SearchCalls (taken : List Word) (w : World) (old new : Counts) : Type 0 where
  pub these : (name : Word) → IsFree w taken name → new.reads name ≡ later_count (old.reads name) 1
  pub others : (name : Word) → (IsFree w taken name → ⊥) → new.reads name ≡ old.reads name
  pub writes : WritesNone old new
  pub quiet : IsQuiet old new

-- one sector of each free device that is not taken was read at most, and nothing else was called
pub record SearchesAtMost (taken : List Word) (w : World) (old new : Counts) : Type 0 where
  pub these : (name : Word) → IsFree w taken name → new.reads name ≤ old.reads name + 1
  pub others : (name : Word) → (IsFree w taken name → ⊥) → new.reads name ≡ old.reads name
  pub writes : WritesNone old new

-- no more of any free device was read than an import reads of it, and nothing else was called
pub record ImportReads (dg : Word) (w : World) (old new : Counts) : Type 0 where
  pub these : (name : Word) (d : Device) → w.devices name ≡ Some d → IsFree w [] name → new.reads name ≤ old.reads name + import_sectors dg d
  pub others : (name : Word) → (IsFree w [] name → ⊥) → new.reads name ≡ old.reads name
  pub writes : WritesNone old new

-- the volume's edit, where it is recorded
abbrev pub policy_edit : Option Vol → (Vol → Edit) → List Edit
policy_edit None edit = []
policy_edit (Some v) edit = edit v ∷ []

-- the edits of a change
abbrev pub edits_of : Change → Option Group → List Edit
edits_of (changes.Policy vol policy) g = policy_edit (recorded vol g) (λ v. SetVol vol v.state policy)
edits_of (changes.Remove vol) g = RemoveVol vol ∷ []

-- the edits break a rule, or their text is too long
abbrev pub EditsRefused : List Edit → Group → End → Type 0
EditsRefused edits g end =
    ((r : Refusal) × (refusal_from (refusal_of edits (objects_of g.config)) ≡ Some r) × (end ≡ refused r))
    ⊎ ((config : Config) × IsEdited edits g.config config × RefusedAsLong config end)

-- the imported group, and what is to be written to it once the records of the source are added, which no test refuses
pub record IsMaking (from : Source) (w : World) (x : Writing) : Type 0 where
  pub added : List Object
  pub adds : AddsFrom from (is_started w) x.group added
  pub fine : adding_refusal (is_started w) (objects_of x.group.config) added ≡ None
  pub change : IsChange (Make added ∷ []) w x

-- the records break a rule, or their text would be too long as the command ends
abbrev pub AddingRefused : ℕ → List Object → Group → End → Type 0
AddingRefused more added g end =
    ((r : Refusal) × (refusal_from (refusal_of (Make added ∷ []) (objects_of g.config)) ≡ Some r) × (end ≡ refused r))
    ⊎ ((config : Config) × IsEdited (Make added ∷ []) g.config config × RefusedAsGrown more config end)

-- the records of the source are refused: there are none, or a test refuses them, or their text would be too long
abbrev pub MakingRefused : Source → World → Group → End → Type 0
MakingRefused from w g end =
    ((r : Refusal) × Denies from (is_started w) g r × (end ≡ refused r))
    ⊎ ((added : List Object) × AddsFrom from (is_started w) g added × (
    ((r : Refusal) × (adding_refusal (is_started w) (objects_of g.config) added ≡ Some r) × (end ≡ refused r))
    ⊎ ((adding_refusal (is_started w) (objects_of g.config) added ≡ None) × AddingRefused (growth from added) added g end)))

-- the edit by which a disk joins
abbrev pub joining_edit : DiskAt → World → Group → Edit
joining_edit p w g = AddDisk (disk_record p (next_slot g.config) (sectors_at w p.device))

-- the new disk does not carry the commit alone
pub record IsJoining (p : DiskAt) (w : World) (x : Writing) : Type 0 where
  pub group : w.group ≡ Some x.group
  pub edited : IsEdited (joining_edit p w x.group ∷ []) x.group.config x.config
  pub joiner : x.joiners ≡ member_at p (next_slot x.group.config) ∷ []
  pub carriers : x.carriers ≡ x.group.members

-- all disks join a group that has none
pub record IsCreating (dg : Word) (pairs : List DiskAt) (w : World) (x : Writing) : Type 0 where
  pub records : objects_of x.config ≡ new_records dg w pairs
  pub group : x.group ≡ record { config = x.config; good = 0; members = []; sequence = 0 }
  pub joiners : x.joiners ≡ new_members 0 pairs
  pub carriers : x.carriers ≡ x.joiners

-- what was found is written
pub record IsImporting (dg : Word) (w : World) (x : Writing) (old new : Counts) : Type 0 where
  pub found : Found dg w old new
  pub finds : Finds dg w found.unread found.counted (λ r. ⊥) (λ o config. (x.group ≡ group_found o found.counted config) × (objects_of x.config ≡ import_records config))
  pub carriers : x.carriers ≡ x.group.members
  pub joiners : x.joiners ≡ []

-- what was found is refused
pub record ImportRefused (dg : Word) (w : World) (end : End) (old new : Counts) : Type 0 where
  pub found : Found dg w old new
  pub why : Refusal
  pub end_is : end ≡ refused why
  pub finds : Finds dg w found.unread found.counted (λ r. r ≡ why) (λ o config. (refusal_from (first_broken (import_records config)) ≡ Some why) ⊎ ((after : Config) × (objects_of after ≡ import_records config) × RefusedAsLong after end))

-- a moment between, to which the devices of a group were read
pub record IsBetween (dg : Word) (old mid new : Moment) : Type 0 where
  pub world : mid.world ≡ old.world
  pub reads : ImportReads dg old.world old.counts mid.counts
  pub first : AreLater old.counts mid.counts
  pub rest : AreLater mid.counts new.counts

-- a disk is the only one of the list
abbrev pub OnlyDisk : List DiskAt → (DiskAt → Type 0) → Type 0
OnlyDisk [] Holds = ⊥
OnlyDisk (p ∷ []) Holds = Holds p
OnlyDisk (p ∷ q ∷ ps) Holds = ⊥

-- the devices are free, one after the other
abbrev pub AreFree : World → List Word → List Word → Type 0
AreFree w taken [] = Unit {0}
AreFree w taken (name ∷ names) = IsFree w taken name × AreFree w (taken ++ name ∷ []) names

-- the devices have no header
abbrev pub AreBlank : World → List Word → Type 0
AreBlank w [] = Unit {0}
AreBlank w (name ∷ names) = HasNoHeader w name × AreBlank w names

-- what a stage does; a start, a mirror and a plex that goes into use end their command themselves
abbrev pub IsDone : Stage → List DiskAt → Moment → Moment → Type 0
IsDone (stage.Gate test) disks old new = (fails test disks old.world ≡ None) × (new ≡ old)
IsDone (stage.Take name) disks old new = IsFree old.world [] name × Rests old new
IsDone stage.TakeDisks disks old new = AreFree old.world [] (devices_of disks) × Rests old new
IsDone (stage.LookBlank name) disks old new = HasNoHeader old.world name × (new.world ≡ old.world) × ReadsEach (name ∷ []) old.counts new.counts
IsDone stage.LookDisks disks old new = AreBlank old.world (devices_of disks) × (new.world ≡ old.world) × ReadsEach (devices_of disks) old.counts new.counts
IsDone (stage.LookHeaded name) disks old new = HasHeader old.world name × (new.world ≡ old.world) × ReadsEach (name ∷ []) old.counts new.counts
IsDone (stage.Search dg) disks old new = ((name : Word) → IsFree old.world (devices_of disks) name → NamesGroup dg old.world name → ⊥) × (new.world ≡ old.world) × SearchCalls (devices_of disks) old.world old.counts new.counts
IsDone (stage.MakeImage name sectors) disks old new = (old.world.devices name ≡ None) × IsImageMade name sectors old.world new.world × CallsNone old.counts new.counts × IsQuiet old.counts new.counts
IsDone (stage.Wipe name) disks old new = HasContents name (λ c d. (k : ℕ) → d k ≡ written 0 (replicate 512 0) c k) old.world new.world × WritesOne name old.counts new.counts
IsDone (stage.StartBare vol name) disks old new = (is_volume vol old.world ≡ false) × IsBare vol name old.world new.world × (new.counts ≡ old.counts)
IsDone (stage.Change change) disks old new = CommitsBy (λ x. IsChange (edits_of change old.world.group) old.world x) old new
IsDone (stage.Make from) disks old new = CommitsBy (λ x. IsMaking from old.world x) old new
IsDone stage.Join disks old new = OnlyDisk disks (λ p. CommitsBy (λ x. IsJoining p old.world x) old new)
IsDone (stage.Create dg) disks old new = (old.world.group ≡ None) × CommitsBy (λ x. IsCreating dg disks old.world x) old new
IsDone (stage.Import dg) disks old new = (old.world.group ≡ None) × (mid : Moment) × IsBetween dg old mid new × CommitsBy (λ x. IsImporting dg old.world x old.counts mid.counts) mid new
IsDone stage.LetGo disks old new = (new.world ≡ group_gone old.world) × (new.counts ≡ old.counts)
IsDone (stage.Start vol) disks old new = ⊥
IsDone (stage.Mirror mirror) disks old new = ⊥
IsDone (stage.Prepare logs) disks old new = IsPrepared logs old new
IsDone (stage.Unprepare vol) disks old new = IsUnprepared vol old new
IsDone (stage.Detach plex) disks old new = IsDetached plex old new
IsDone (stage.Attach vol plex) disks old new = ⊥
IsDone (stage.Dissociate plex remove) disks old new = IsDissociated remove plex old new
IsDone (stage.Stop vol) disks old new = IsStopDone vol old new

-- a device in hand ends the command: it has failed, or its power is gone
abbrev pub DeviceEnds : Word → Moment → End → Moment → Type 0
DeviceEnds name old end new = ((end ≡ fault_of name) × HasFailed old.counts new.counts name) ⊎ ((end ≡ lost) × (new.counts.cut name ≡ true))

-- a device that is taken and read ends the command: it or the shelf has failed, or its power is gone
abbrev pub FailsAt : Word → Moment → End → Moment → Type 0
FailsAt name old end new = ((end ≡ fault_of name) × HasFailedOrShelf old.counts new.counts name) ⊎ ((end ≡ lost) × (new.counts.cut name ≡ true))

-- the world is as before, and these calls were made
abbrev pub OnlyReads : (Counts → Counts → Type 0) → Moment → Moment → Type 0
OnlyReads Calls old new = (new.world ≡ old.world) × Calls old.counts new.counts

-- the shelf has failed as it was to hand a device over, or to make one
abbrev pub ShelfFailsAt : Word → Moment → End → Moment → Type 0
ShelfFailsAt name old end new = (new.world ≡ old.world) × CallsNone old.counts new.counts × (end ≡ fault_of name) × ShelfHasFailed old.counts new.counts

-- the shelf could not tell its devices
abbrev pub ShelfEnds : Moment → End → Moment → Type 0
ShelfEnds old end new = (end ≡ ends.ShelfFailed) × ShelfHasFailed old.counts new.counts

-- the first of the devices that cannot be taken ends the command
abbrev pub TakingStops : List Word → List Word → Moment → End → Moment → Type 0
TakingStops taken [] old end new = ⊥
TakingStops taken (name ∷ names) old end new =
    (((r : Refusal) × IsAway old.world taken name r × EndsIn r old end new) ⊎ ShelfFailsAt name old end new)
    ⊎ (IsFree old.world taken name × TakingStops (taken ++ name ∷ []) names old end new)

-- the first of the devices that has a header, or whose header cannot be read, ends the command
abbrev pub LookingStops : List Word → Moment → End → Moment → Type 0
LookingStops [] old end new = ⊥
LookingStops (name ∷ names) old end new =
    ((HasHeader old.world name × (end ≡ refused (refusal.InUse name))) ⊎ DeviceEnds name old end new)
    ⊎ (HasNoHeader old.world name × LookingStops names old end new)

-- no group is imported, or the edits of the one that is are refused, or their commit is stopped
abbrev pub EditsStop : (Group → List Edit) → (Writing → Type 0) → Moment → End → Moment → Type 0
EditsStop edits IsWriting old end new =
    ((old.world.group ≡ None) × EndsIn (refusal.NoGroup None) old end new)
    ⊎ ((((g : Group) × (old.world.group ≡ Some g) × EditsRefused (edits g) g end) × Rests old new) ⊎ StopsBy IsWriting old end new)

-- a group is imported already
abbrev pub GroupStops : Moment → End → Moment → Type 0
GroupStops old end new = (g : Group) × (old.world.group ≡ Some g) × EndsIn (refusal.InUse g.config.group) old end new

-- how a stage may end the command
abbrev pub Stops : Stage → List DiskAt → Moment → End → Moment → Type 0
Stops (stage.Gate test) disks old end new = (r : Refusal) × (fails test disks old.world ≡ Some r) × (end ≡ refused r) × (new ≡ old)
Stops (stage.Take name) disks old end new = TakingStops [] (name ∷ []) old end new
Stops stage.TakeDisks disks old end new = TakingStops [] (devices_of disks) old end new
Stops (stage.LookBlank name) disks old end new = OnlyReads (ReadsAtMost (name ∷ [])) old new × LookingStops (name ∷ []) old end new
Stops stage.LookDisks disks old end new = OnlyReads (ReadsAtMost (devices_of disks)) old new × LookingStops (devices_of disks) old end new
Stops (stage.LookHeaded name) disks old end new = OnlyReads (ReadsAtMost (name ∷ [])) old new × ((HasNoHeader old.world name × (end ≡ refused (refusal.NotInitialised name))) ⊎ DeviceEnds name old end new)
Stops (stage.Search dg) disks old end new =
    OnlyReads (SearchesAtMost (devices_of disks) old.world) old new
    × (((name : Word) × IsFree old.world (devices_of disks) name × ((NamesGroup dg old.world name × (end ≡ refused (refusal.Exists dg))) ⊎ FailsAt name old end new))
    ⊎ ShelfEnds old end new)
Stops (stage.MakeImage name sectors) disks old end new = (IsSome (old.world.devices name) × EndsIn (refusal.Exists name) old end new) ⊎ ShelfFailsAt name old end new
Stops (stage.Wipe name) disks old end new = HasContents name (IsTorn 0 (replicate 512 0)) old.world new.world × WritesAtMost name old.counts new.counts × DeviceEnds name old end new
Stops (stage.StartBare vol name) disks old end new = (is_volume vol old.world ≡ true) × EndsIn (refusal.Exists vol) old end new
Stops (stage.Change change) disks old end new = EditsStop (λ g. edits_of change (Some g)) (λ x. IsChange (edits_of change old.world.group) old.world x) old end new
Stops (stage.Make from) disks old end new =
    ((old.world.group ≡ None) × EndsIn (refusal.NoGroup None) old end new)
    ⊎ ((((g : Group) × (old.world.group ≡ Some g) × MakingRefused from old.world g end) × Rests old new) ⊎ StopsBy (λ x. IsMaking from old.world x) old end new)
Stops stage.Join disks old end new = OnlyDisk disks (λ p. EditsStop (λ g. joining_edit p old.world g ∷ []) (λ x. IsJoining p old.world x) old end new)
Stops (stage.Create dg) disks old end new = GroupStops old end new ⊎ StopsBy (λ x. IsCreating dg disks old.world x) old end new
Stops (stage.Import dg) disks old end new =
    GroupStops old end new
    ⊎ ((OnlyReads (ImportReads dg old.world) old new × (ImportRefused dg old.world end old.counts new.counts ⊎ (ShelfEnds old end new ⊎ ((end ≡ lost) × ((name : Word) × (new.counts.cut name ≡ true))))))
    ⊎ ((mid : Moment) × IsBetween dg old mid new × StopsBy (λ x. IsImporting dg old.world x old.counts mid.counts) mid end new))
Stops stage.LetGo disks old end new = ⊥
Stops (stage.Start vol) disks old end new = StartStops vol old end new
Stops (stage.Mirror mirror) disks old end new = MirrorStops mirror.vol mirror.disks old end new
Stops (stage.Prepare logs) disks old end new = PrepareStops logs old end new
Stops (stage.Unprepare vol) disks old end new = UnprepareStops vol old end new
Stops (stage.Detach plex) disks old end new = DetachStops plex old end new
Stops (stage.Attach vol plex) disks old end new = AttachStops vol plex old end new
Stops (stage.Dissociate plex remove) disks old end new = LeavingStops remove plex old end new
Stops (stage.Stop vol) disks old end new = StopStops vol old end new

-- what want of memory leaves of a stage: the world as it was, but where devices of a volume were called before
abbrev pub Wants : Stage → Moment → Moment → Type 0
Wants (stage.Start vol) old new = StartWants vol old new
Wants (stage.Mirror mirror) old new = MirrorWants mirror.vol old new
Wants (stage.Prepare logs) old new = PrepareWants logs old new
Wants (stage.Detach plex) old new = DetachWants plex old new
Wants (stage.Dissociate plex remove) old new = LeavingWants remove plex old new
Wants (stage.Stop vol) old new = StopWants vol old new
Wants other old new = new.world ≡ old.world
