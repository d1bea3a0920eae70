-- A commit: a text is written to the good disks of a group, of which some may join by it.
use Rattle.std.specs.Prelude.{◌≡◌, ◌⊎◌, ℕ, ◌+◌, ◌*◌, ◌-◌, ◌<◌, ◌≤◌, ◌||◌, ◌==◌, Bool, true, false, List, [], ◌++◌, length, Some, MatchOption}
use Rattle.std.specs.List.{list_any}
use Rattle.vx_base.specs.Counts.{later_count}
use Rattle.vx_base.specs.Named.{Word}
use Rattle.vx_mask.specs.Mask.{has}
use Rattle.vx_header.specs.Named.{header_of}
use Rattle.vx_copies.specs.Lists.{AllOf, AnyOf}
use Rattle.vx_copies.specs.Chain.{IsInOrder}
use Rattle.vx_copies.specs.Image.{Offer, offer_in, sectors_for}
use Rattle.vx_objects.specs.declared.config.Config.{Config}
use Rattle.vx_answers.specs.declared.answer.End.{End}
use Rattle.vx_answers.specs.declared.answer.End.TheVariants.{GroupLost, Lost}
use Rattle.vx_moments.specs.World.{World, Device, Member, Group}
use Rattle.vx_moments.specs.Moment.{Moment, Counts, HasFailed}
use Rattle.vx_moments.specs.Copies.{IsTextOf, label_of, IsStruck, IsEntered, IsCurrent}

-- a group that is to be written, and the members that join by it
pub record Writing : Type 0 where
  pub group : Group
  pub joiners : List Member
  -- the configuration that is written
  pub config : Config
  pub text : List ℕ
  -- the members that may carry the commit: where none of them is good any more, the group is lost
  pub carriers : List Member

-- all that the group has once the commit is done
abbrev pub parties : Writing → List Member
parties x = x.group.members ++ x.joiners

abbrev pub is_slot_of : List Member → ℕ → Bool
is_slot_of members slot = list_any (λ m. m.slot == slot) members

-- the slots that are written: those that are good, and those that join
abbrev pub is_written_slot : Writing → ℕ → Bool
is_written_slot x slot = has x.group.good slot || is_slot_of x.joiners slot

-- a mask of slots that are written; the device of each that it lacks has failed
pub record IsMaskOf (x : Writing) (old new : Counts) (mask : ℕ) : Type 0 where
  pub few : (slot : ℕ) → has mask slot ≡ true → is_written_slot x slot ≡ true
  pub lacks : AllOf (λ m. is_written_slot x m.slot ≡ true → has mask m.slot ≡ false → HasFailed old new m.device) (parties x)

-- the device is there before and after, with its sectors, and so its contents go
pub record DeviceGoes (R : Device → Device → Type 0) (name : Word) (old new : World) : Type 0 where
  pub before : Device
  pub after : Device
  pub was : old.devices name ≡ Some before
  pub is : new.devices name ≡ Some after
  pub sectors : after.sectors ≡ before.sectors
  pub goes : R before after

-- a member that is good is written, another is let alone
pub record MemberGoes (x : Writing) (last : ℕ) (old new : Moment) (m : Member) : Type 0 where
  pub good : has x.group.good m.slot ≡ true → DeviceGoes (λ d e. IsStruck (x.group.sequence + 1) last (IsMaskOf x old.counts new.counts) x.text d.contents e.contents) m.device old.world new.world
  pub idle : has x.group.good m.slot ≡ false → new.world.devices m.device ≡ old.world.devices m.device

-- a member that joins
abbrev pub JoinerGoes : Writing → ℕ → Moment → Moment → Member → Type 0
JoinerGoes x last old new m = DeviceGoes (λ d e. IsEntered (label_of x.config.group m d) (x.group.sequence + 1) last (IsMaskOf x old.counts new.counts) x.text d.contents e.contents) m.device old.world new.world

-- the device is none of these members'
abbrev pub IsNoDeviceOf : List Member → Word → Type 0
IsNoDeviceOf members name = AnyOf (λ m. m.device ≡ name) members → ⊥

-- the sectors that one attempt hands to a disk: those of the text, and the toggle
abbrev pub sectors_of : List ℕ → ℕ
sectors_of text = sectors_for (length text) + 1

-- no device has failed
abbrev pub NoneFailed : Counts → Counts → Type 0
NoneFailed old new = (name : Word) → HasFailed old new name → ⊥

-- what the device of a member offers of the group, where it is newer than what the group had
pub record OffersSince (x : Writing) (w : World) (m : Member) (o : Offer) : Type 0 where
  pub device : Device
  pub is : w.devices m.device ≡ Some device
  pub offers : offer_in x.config.group device.contents ≡ Some o
  pub newer : x.group.sequence < o.sequence

-- any two offers that the commit leaves are in order
abbrev pub AreInOrder : Writing → World → Type 0
AreInOrder x w = AllOf (λ a. AllOf (λ b. (o p : Offer) → OffersSince x w a o → OffersSince x w b p → IsInOrder o p b.slot) (parties x)) (parties x)

-- one of the members offers something that is newer than what the group had
abbrev pub OneOffersSince : Writing → World → List Member → Type 0
OneOffersSince x w members = AnyOf (λ m. (o : Offer) × OffersSince x w m o) members

-- What a commit leaves, at whichever device call it ends, with the number of its last attempt.
pub record IsCommitting (x : Writing) (last : ℕ) (old new : Moment) : Type 0 where
  pub text_is : IsTextOf x.config x.text
  pub short : length x.text ≤ 522240
  pub from : x.group.sequence ≤ last
  pub up_to : last ≤ x.group.sequence + 32
  -- a second attempt follows a failure alone
  pub once : NoneFailed old.counts new.counts → last ≤ x.group.sequence + 1
  pub members : AllOf (MemberGoes x last old new) x.group.members
  pub joiners : AllOf (JoinerGoes x last old new) x.joiners
  pub order : AreInOrder x new.world
  -- where one of them offers something of the commit, one that carries it does: a disk that joins is written behind these
  pub lead : OneOffersSince x new.world (parties x) → OneOffersSince x new.world x.carriers
  pub others : (name : Word) → IsNoDeviceOf (parties x) name → new.world.devices name ≡ old.world.devices name
  pub volumes : new.world.volumes ≡ old.world.volumes
  pub reads : (name : Word) → new.counts.reads name ≡ old.counts.reads name
  pub idle : (name : Word) → IsNoDeviceOf (parties x) name → (new.counts.writes name ≡ old.counts.writes name) × (new.counts.faults name ≡ old.counts.faults name)
  pub shelf : new.counts.shelf ≡ old.counts.shelf
  -- each attempt writes a disk once; one that joins gets a zero toggle and its header besides
  pub written : AllOf (λ m. new.counts.writes m.device ≤ old.counts.writes m.device + (last - x.group.sequence) * sectors_of x.text) x.group.members
  pub entered : AllOf (λ m. new.counts.writes m.device ≤ old.counts.writes m.device + ((last - x.group.sequence) * sectors_of x.text + 2)) x.joiners

-- a good disk offers the text under this number and mask
abbrev pub IsCarrying : Writing → ℕ → ℕ → World → Member → Type 0
IsCarrying x last good w m = has good m.slot ≡ true → MatchOption (w.devices m.device) ⊥ (λ d. IsCurrent last good x.text d.contents)

-- a disk that has joined, and is good, has its header
abbrev pub IsHeaded : Writing → ℕ → World → Member → Type 0
IsHeaded x good w m = has good m.slot ≡ true → MatchOption (w.devices m.device) ⊥ (λ d. header_of (d.contents 0) ≡ Some (label_of x.config.group m d))

-- a good disk was handed so many sectors
abbrev pub WritesOnce : ℕ → ℕ → Counts → Counts → Member → Type 0
WritesOnce sectors good old new m = has good m.slot ≡ true → new.writes m.device ≡ later_count (old.writes m.device) sectors

-- The commit is done: the group goes on with the new configuration and those that are good still.
pub record IsCommitted (x : Writing) (old new : Moment) : Type 0 where
  pub last : ℕ
  pub good : ℕ
  pub committing : IsCommitting x last old new
  pub rose : x.group.sequence < last
  pub group : new.world.group ≡ Some (record { config = x.config; good = good; members = parties x; sequence = last })
  pub mask : IsMaskOf x old.counts new.counts good
  -- one of the carriers is good
  pub some : AnyOf (λ m. has good m.slot ≡ true) x.carriers
  pub carrying : AllOf (IsCarrying x last good new.world) (parties x)
  pub headed : AllOf (IsHeaded x good new.world) x.joiners
  pub exact : NoneFailed old.counts new.counts → AllOf (WritesOnce (sectors_of x.text) good old.counts new.counts) x.group.members × AllOf (WritesOnce (sectors_of x.text + 2) good old.counts new.counts) x.joiners

-- each carrier that was written has failed
abbrev pub CarriersFailed : Writing → Counts → Counts → Type 0
CarriersFailed x old new = AllOf (λ m. is_written_slot x m.slot ≡ true → HasFailed old new m.device) x.carriers

-- The commit is stopped: no carrier can be written, or the power is gone. The group is as it was.
pub record IsStopped (x : Writing) (old : Moment) (end : End) (new : Moment) : Type 0 where
  pub last : ℕ
  pub committing : IsCommitting x last old new
  pub group : new.world.group ≡ old.world.group
  pub ends : ((end ≡ GroupLost) × CarriersFailed x old.counts new.counts) ⊎ ((end ≡ Lost []) × AnyOf (λ m. new.counts.cut m.device ≡ true) (parties x))
