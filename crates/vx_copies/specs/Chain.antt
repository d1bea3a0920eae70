-- The copies of a group's configuration on all its devices, and what they keep, so that no import takes an older one.
use Rattle.std.specs.Prelude.{◌≡◌, ◌⊎◌, ℕ, ◌<◌, ◌≤◌, true, IsTrue, List, ◌++◌, map, take, Option, Some, None, MatchOption}
use Rattle.vx_base.specs.Named.{Word}
use Rattle.vx_mask.specs.Mask.{has}
use Rattle.vx_copies.specs.Lists.{AllOf, AnyOf}
use Rattle.vx_copies.specs.Image.{Offer, offer_told}
use Rattle.vx_copies.specs.Disks.{DiskSeen, IsMember}

-- a device of the group, by its slot, and what it offers
pub record Copy : Type 0 where
  pub slot : ℕ
  pub offer : Option Offer

abbrev pub copy_of : Word → DiskSeen → Copy
copy_of group h = record { slot = h.slot; offer = offer_told group h.seen.told }

-- no offer has a higher sequence
abbrev pub AllUpTo : ℕ → List Copy → Type 0
AllUpTo n copies = AllOf (λ c. MatchOption c.offer (Unit {0}) (λ o. o.sequence ≤ n)) copies

-- the offer names the slot of a device whose offer is newer
abbrev pub NamesNewer : Offer → List Copy → Type 0
NamesNewer o copies = AnyOf (λ c. (has o.good c.slot ≡ true) × MatchOption c.offer ⊥ (λ p. o.sequence < p.sequence)) copies

-- the offer names a slot of this mask, whose disk is missing
abbrev pub NamesMissing : ℕ → Offer → Type 0
NamesMissing missing o = (slot : ℕ) × (has missing slot ≡ true) × (has o.good slot ≡ true)

-- each offer is one of the newest, or names a device with a newer one, or a disk that is missing
abbrev pub IsChained : ℕ → List Copy → Type 0
IsChained missing copies = AllOf (λ c. MatchOption c.offer (Unit {0}) (λ o. AllUpTo o.sequence copies ⊎ (NamesNewer o copies ⊎ NamesMissing missing o))) copies

-- two offers of one sequence have one mask and one text
abbrev pub AgreeIn : Option Offer → Option Offer → Type 0
AgreeIn None b = Unit {0}
AgreeIn (Some o) None = Unit {0}
AgreeIn (Some o) (Some p) = o.sequence ≡ p.sequence → (o.good ≡ p.good) × (o.text ≡ p.text)

abbrev pub AllAgree : List Copy → Type 0
AllAgree copies = AllOf (λ c. AllOf (λ d. AgreeIn c.offer d.offer) copies) copies

-- the offer names each good disk
abbrev pub NamesGood : Offer → List DiskSeen → Type 0
NamesGood o disks = AllOf (λ h. IsTrue h.good → has o.good h.slot ≡ true) disks

-- where it is good, the disk is a member of the group
abbrev pub IsGoodMember : Word → DiskSeen → Type 0
IsGoodMember group h = IsTrue h.good → IsMember group h.seen.told

-- The members of the group and its other devices, up to a sequence, where the disks of a mask are missing: their copies are
-- chained and agree, and the newest name each good one of the first `carriers` members.
pub record IsSound (group : Word) (missing : ℕ) (others : List Copy) (last carriers : ℕ) (disks : List DiskSeen) : Type 0 where
  pub members : AllOf (IsGoodMember group) disks
  pub chained : IsChained missing (others ++ map (copy_of group) disks)
  pub agree : AllAgree (others ++ map (copy_of group) disks)
  pub newest : AllOf (λ c. MatchOption c.offer (Unit {0}) (λ o. AllUpTo o.sequence (others ++ map (copy_of group) disks) → NamesGood o (take carriers disks))) (others ++ map (copy_of group) disks)
  pub up_to : AllUpTo last (others ++ map (copy_of group) disks)

-- what a disk offers of the group, where it is newer than this
pub record OffersSince (group : Word) (before : ℕ) (h : DiskSeen) (o : Offer) : Type 0 where
  pub is : offer_told group h.seen.told ≡ Some o
  pub newer : before < o.sequence

-- an offer that is older than another, or of the same attempt, names its slot; those of one attempt have one mask
pub record IsInOrder (o p : Offer) (slot : ℕ) : Type 0 where
  pub names : o.sequence ≤ p.sequence → has o.good slot ≡ true
  pub one : o.sequence ≡ p.sequence → o.good ≡ p.good

-- so are any two offers of the disks that are newer than this
abbrev pub AreInOrder : Word → ℕ → List DiskSeen → Type 0
AreInOrder group before disks = AllOf (λ a. AllOf (λ b. (o p : Offer) → OffersSince group before a o → OffersSince group before b p → IsInOrder o p b.slot) disks) disks

-- one of the disks offers something that is newer than this
abbrev pub OneOffersSince : Word → ℕ → List DiskSeen → Type 0
OneOffersSince group before disks = AnyOf (λ h. (o : Offer) × OffersSince group before h o) disks

-- where one of the disks offers something that is newer than this, one of the first `carriers` does
abbrev pub IsLed : Word → ℕ → ℕ → List DiskSeen → Type 0
IsLed group before carriers disks = OneOffersSince group before disks → OneOffersSince group before (take carriers disks)

-- beside a disk the offer goes on: it names the disk where it is good, and is in order with what the disk offers
pub record GoesOnBeside (group : Word) (before : ℕ) (o : Offer) (h : DiskSeen) : Type 0 where
  pub names : IsTrue h.good → has o.good h.slot ≡ true
  pub order : (p : Offer) → OffersSince group before h p → IsInOrder o p h.slot

-- what a commit keeps from one attempt to the next: the newer offers are of the attempts so far, and each goes on beside each disk
pub record IsOrdered (group : Word) (before last : ℕ) (disks : List DiskSeen) : Type 0 where
  pub up_to : AllOf (λ h. (o : Offer) → OffersSince group before h o → o.sequence ≤ last) disks
  pub beside : AllOf (λ a. AllOf (λ b. (o : Offer) → OffersSince group before a o → GoesOnBeside group before o b) disks) disks
