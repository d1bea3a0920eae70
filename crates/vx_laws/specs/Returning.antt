-- A group that was let go, or that was left as the power went, comes back by an import.
use Rattle.std.specs.Prelude.{◌≡◌, ◌≢◌, ◌⊎◌, ℕ, ◌+◌, ◌<◌, ◌≤◌, ◌^◌, Bool, true, false, Some, None, List, [], ◌∷◌}
use Rattle.std.specs.List.{filter}
use Rattle.std.specs.List.Sorted.{IsPermutation}
use Rattle.vx_base.specs.Named.{Word}
use Rattle.vx_mask.specs.Mask.{has}
use Rattle.vx_header.specs.Named.{header_of}
use Rattle.vx_copies.specs.Lists.{AllOf, AnyOf}
use Rattle.vx_copies.specs.Image.{Offer, offer_in}
use Rattle.vx_objects.specs.declared.config.Config.{Config}
use Rattle.vx_objects.specs.Config.{objects_of}
use Rattle.vx_script_words.specs.declared.value.DiskAt.{DiskAt}
use Rattle.vx_script_forms.specs.declared.form.Form.{Form}
use Rattle.vx_script_forms.specs.declared.form.Form.TheVariants.{DgInit, DgAddDisk, DgImport, DgDeport}
use Rattle.vx_script.specs.declared.command.Command.{Command}
use Rattle.vx_answers.specs.declared.answer.Answer.{Answer}
use Rattle.vx_answers.specs.declared.answer.Answer.TheVariants.{One}
use Rattle.vx_moments.specs.World.{World, Device, Member, Group}
use Rattle.vx_moments.specs.Moment.{Moment}
use Rattle.vx_moments.specs.Holding.{IsHeld, IsLent}
use Rattle.vx_moments.specs.Leaving.{group_gone, PowerGoes}
use Rattle.vx_moments.specs.Copies.{IsTextOf, label_of, IsCurrent}
use Rattle.vx_moments.specs.Commit.{DeviceGoes, IsNoDeviceOf}
use Rattle.vx_stages.specs.Finding.{Candidate, IsCandidate, is_recorded}
use Rattle.vx_stages.specs.Records.{next_slot}
use Rattle.vx_plans.specs.Steps.{Step, IsTranscript, done}
use Rattle.vx_plans.specs.Laws.{WentWell}

-- their slots rise
abbrev pub SlotsRise : List Member → Type 0
SlotsRise [] = Unit {0}
SlotsRise (m ∷ ms) = AllOf (λ n. m.slot < n.slot) ms × SlotsRise ms

-- the configuration has disks, and no other records behind the group's
pub record HasJustDisks (config : Config) : Type 0 where
  pub subdisks : config.subdisks ≡ []
  pub plexes : config.plexes ≡ []
  pub volumes : config.volumes ≡ []
  pub dcos : config.dcos ≡ []
  pub snaps : config.snaps ≡ []

-- The group is kept on the member's device: nobody holds the device, its header is the member's, the configuration
-- records the disk, and it offers the text under the group's sequence and mask.
pub record IsKeptOn (g : Group) (text : List ℕ) (w : World) (m : Member) : Type 0 where
  pub device : Device
  pub device_is : w.devices m.device ≡ Some device
  pub free : IsHeld w m.device → ⊥
  pub header : header_of (device.contents 0) ≡ Some (label_of g.config.group m device)
  pub recorded : is_recorded g.config (label_of g.config.group m device) ≡ true
  pub current : IsCurrent g.sequence g.good text device.contents

-- the members that are good
abbrev pub good_members : Group → List Member
good_members g = filter (λ m. has g.good m.slot) g.members

-- every device can be taken and read
abbrev pub nobody : Word → Bool
nobody name = false

-- one of the members lies on the device
abbrev pub IsDeviceOf : List Member → Word → Type 0
IsDeviceOf members name = AnyOf (λ m. m.device ≡ name) members

-- the device's slot is not good, and it offers nothing as new as the group
pub record IsOutdated (g : Group) (c : Candidate) : Type 0 where
  pub slot : has g.good c.label.slot ≡ false
  pub older : (o : Offer) → offer_in g.config.group c.device.contents ≡ Some o → o.sequence < g.sequence

-- The group is left on the devices of these members: there are some, their slots rise, and are all that are good; it has
-- disks alone; and it is kept on each. Another free device whose header names the group is outdated.
pub record IsLeftOn (g : Group) (members : List Member) (w : World) : Type 0 where
  pub no_group : w.group ≡ None
  pub some : members ≢ []
  pub rising : SlotsRise members
  pub placed : (slot : ℕ) → has g.good slot ≡ true → AnyOf (λ m. m.slot ≡ slot) members
  pub just_disks : HasJustDisks g.config
  pub text : List ℕ
  pub text_is : IsTextOf g.config text
  pub kept : AllOf (IsKeptOn g text w) members
  pub others : (c : Candidate) → IsCandidate g.config.group nobody w c → IsDeviceOf members c.name ⊎ IsOutdated g c

-- the group is left on the devices of its good members
abbrev pub IsLeftBehind : Group → World → Type 0
IsLeftBehind g w = IsLeftOn g (good_members g) w

-- every member is good, their slots are below the one that the next disk gets, and no other free device has a header that
-- names the group
pub record IsFull (g : Group) (w : World) : Type 0 where
  pub all_good : AllOf (λ m. has g.good m.slot ≡ true) g.members
  pub packed : AllOf (λ m. m.slot < next_slot g.config) g.members
  pub alone : (c : Candidate) → IsCandidate g.config.group nobody w c → IsDeviceOf g.members c.name

-- The group is imported; once it is let go, it is left on its devices, and full.
pub record IsWhole (g : Group) (w : World) : Type 0 where
  pub here : w.group ≡ Some g
  pub left : IsLeftBehind g (group_gone w)
  pub full : IsFull g (group_gone w)

-- the public sectors are as they were
abbrev pub HasSamePublic : Device → Device → Type 0
HasSamePublic old new = (k : ℕ) → 2048 ≤ k → new.contents k ≡ old.contents k

-- The group is imported: its configuration has the records that were left, and the same text; its good slots are those
-- that were good, and its members the good ones, in their order, whose devices have the same public sectors. All other
-- devices and all volumes are as they were. It is left behind again once it is let go, and whole where it was full.
pub record IsReturned (g : Group) (old new : World) : Type 0 where
  pub now : Group
  pub here : new.group ≡ Some now
  pub named : now.config.group ≡ g.config.group
  pub records : IsPermutation (objects_of g.config) (objects_of now.config)
  pub text : (text : List ℕ) → IsTextOf g.config text → IsTextOf now.config text
  pub good : (slot : ℕ) → has now.good slot ≡ has g.good slot
  pub members : now.members ≡ good_members g
  pub sequence : now.sequence ≡ g.sequence + 1
  pub public : AllOf (λ m. DeviceGoes HasSamePublic m.device old new) now.members
  pub others : (name : Word) → IsNoDeviceOf now.members name → new.devices name ≡ old.devices name
  pub volumes : new.volumes ≡ old.volumes
  pub left : IsLeftBehind now (group_gone new)
  pub whole : IsFull g old → IsWhole now new

-- the command has this form, and no word `cut=N`
pub record IsOf (form : Form) (c : Command) : Type 0 where
  pub form_is : c.form ≡ form
  pub uncut : c.cut ≡ None

-- all was done, and nothing is shown
abbrev pub is_done : Answer
is_done = One [] done

-- Where a group is left on its devices and nothing fails, an import gives it back.
abbrev pub EachGroupReturns : Type 0
EachGroupReturns = (place : ℕ) (c : Command) (g : Group) (old new : Moment) (answer : Answer) → IsOf (DgImport g.config.group) c → IsLeftBehind g old.world → g.sequence ≤ 2 ^ 63 → Step place c old answer new → WentWell old new → (answer ≡ is_done) × IsReturned g old.world new.world

-- A group of some disks that is made, nothing failing, is whole.
abbrev pub EachMadeGroupIsWhole : Type 0
EachMadeGroupIsWhole = (place : ℕ) (c : Command) (dg : Word) (pair : DiskAt) (pairs : List DiskAt) (old new : Moment) → IsOf (DgInit dg (pair ∷ pairs)) c → Step place c old is_done new → WentWell old new → (g : Group) × (g.config.group ≡ dg) × (g.sequence ≡ 1) × IsWhole g new.world

-- A whole group that a disk joins, nothing failing, is whole.
abbrev pub EachJoinedGroupIsWhole : Type 0
EachJoinedGroupIsWhole = (place : ℕ) (c : Command) (g : Group) (pair : DiskAt) (old new : Moment) → IsOf (DgAddDisk g.config.group pair) c → IsWhole g old.world → Step place c old is_done new → WentWell old new → (now : Group) × (now.config.group ≡ g.config.group) × (now.sequence ≡ g.sequence + 1) × IsWhole now new.world

-- A whole group that is let go and imported, nothing failing, comes back, and is whole again.
abbrev pub EachWholeGroupComesBack : Type 0
EachWholeGroupComesBack = (place : ℕ) (out back : Command) (g : Group) (old new : Moment) (told answer : Answer) → IsOf (DgDeport g.config.group) out → IsOf (DgImport g.config.group) back → IsWhole g old.world → g.sequence ≤ 2 ^ 63 → IsTranscript place old (out ∷ back ∷ []) (told ∷ answer ∷ []) new → WentWell old new → (told ≡ is_done) × (answer ≡ is_done) × (returned : IsReturned g (group_gone old.world) new.world) × IsWhole returned.now new.world

-- A group that is left on its devices once it is let go is left on them where the power goes, if no started volume had a
-- device whose header then names the group.
abbrev pub EachGroupOutlivesPower : Type 0
EachGroupOutlivesPower = (g : Group) (old new : World) → IsLeftBehind g (group_gone old) → PowerGoes old new → ((c : Candidate) → IsCandidate g.config.group nobody new c → IsLent old c.name → ⊥) → IsLeftBehind g new × (IsFull g (group_gone old) → IsFull g new)
