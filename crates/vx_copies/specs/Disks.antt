-- The disks of a group, and what a commit may do to each of them.
use Rattle.std.specs.Prelude.{◌≡◌, ◌⊎◌, ℕ, ◌+◌, ◌-◌, ◌<◌, ◌≤◌, ◌==◌, ◌&&◌, ◌||◌, Bool, true, false, IsTrue, if◌then◌else◌, List, [], ◌∷◌, length, Option, Some, None, MatchOption}
use Rattle.vx_base.specs.Blocks.{Contents}
use Rattle.vx_base.specs.Counts.{Rose}
use Rattle.vx_base.specs.Named.{Word}
use Rattle.vx_header.specs.Named.{header_of}
use Rattle.vx_mask.specs.Mask.{only, union}
use Rattle.vx_piece.specs.Seen.{Seen, Keeps}
use Rattle.vx_copies.specs.Image.{Offer, toggle_at, half_start, offer_of, offer_told, names_group, text_in}
use Rattle.vx_copies.specs.declared.disk.Disk.{Disk}

-- a disk with what is seen of its piece
pub record DiskSeen : Type 0 where
  pub name : Word
  -- the device that it lies on
  pub device : Word
  pub slot : ℕ
  pub sectors : ℕ
  pub good : Bool
  pub half : ℕ
  pub seen : Seen

abbrev pub disk_seen : {P : Type 0} → (P → Seen) → Disk P → DiskSeen
disk_seen see d = record { name = d.name; device = d.device; slot = d.slot; sectors = d.sectors; good = d.good; half = d.half; seen = see d.piece }

-- the power is gone
abbrev pub IsCut : DiskSeen → Type 0
IsCut h = IsTrue h.seen.cut

-- how many disks are good
abbrev pub good_count : List DiskSeen → ℕ
good_count [] = 0
good_count (h ∷ hs) = (if h.good then 1 else 0) + good_count hs

-- a good disk has the slot
abbrev pub is_good_slot : ℕ → List DiskSeen → Bool
is_good_slot slot [] = false
is_good_slot slot (h ∷ hs) = (h.good && h.slot == slot) || is_good_slot slot hs

-- the slots of the good disks, as a mask
abbrev pub good_mask : List DiskSeen → ℕ
good_mask [] = 0
good_mask (h ∷ hs) = if h.good then union (good_mask hs) (only h.slot) else good_mask hs

-- the toggle names this half, where there is one
abbrev pub NamesHalf : ℕ → Option Contents → Type 0
NamesHalf half None = Unit {0}
NamesHalf half (Some contents) = MatchOption (toggle_at contents) (Unit {0}) (λ t. t.half ≡ half)

-- the slot of a disk is one of a mask's
abbrev pub HasSlot : DiskSeen → Type 0
HasSlot h = h.slot < 32

-- a good disk's half is the one that its toggle names; the piece has a private region
pub record IsReady (h : DiskSeen) : Type 0 where
  pub slot : h.slot < 32
  pub half : h.half < 2
  pub sectors : 2048 ≤ h.seen.sectors
  pub names : IsTrue h.good → NamesHalf h.half h.seen.told

abbrev pub HasText : ℕ → List ℕ → Option Contents → Type 0
HasText half text None = Unit {0}
HasText half text (Some contents) = text_in half (length text) contents ≡ text

-- the spare half of a good disk holds the text
abbrev pub HasSpare : List ℕ → DiskSeen → Type 0
HasSpare text h = IsTrue h.good → HasText (1 - h.half) text h.seen.told

-- the half that the toggle names stays
abbrev pub KeepsNamed : Contents → Contents → Type 0
KeepsNamed old new = MatchOption (toggle_at old) (Unit {0}) (λ t. (k : ℕ) → half_start t.half ≤ k → k < half_start t.half + 1020 → new k ≡ old k)

-- the sector of the toggle, the offer, and the half that the toggle names stay
abbrev pub SameOffer : Contents → Contents → Type 0
SameOffer old new = (new 1 ≡ old 1) × (offer_of new ≡ offer_of old) × KeepsNamed old new

-- the sectors behind the halves stay
abbrev pub RestStays : Contents → Contents → Type 0
RestStays old new = (k : ℕ) → 2042 ≤ k → new k ≡ old k

-- the disk offers the text under a sequence of this commit
abbrev pub IsNew : ℕ → ℕ → List ℕ → Option Offer → Type 0
IsNew first last text None = ⊥
IsNew first last text (Some o) = (first ≤ o.sequence) × (o.sequence ≤ last) × (o.text ≡ text)

-- the header and what is behind the halves stay, and the disk offers what it did, or the new text
abbrev pub Offers : ℕ → ℕ → List ℕ → Option Contents → Option Contents → Type 0
Offers first last text None None = Unit {0}
Offers first last text None (Some new) = ⊥
Offers first last text (Some old) None = ⊥
Offers first last text (Some old) (Some new) = (new 0 ≡ old 0) × (SameOffer old new ⊎ IsNew first last text (offer_of new)) × RestStays old new

-- the header and what is behind the halves stay, and the disk offers what it did, or it was good and offers just this
abbrev pub OffersJust : ℕ → ℕ → List ℕ → Bool → Option Contents → Option Contents → Type 0
OffersJust sequence mask text good None None = Unit {0}
OffersJust sequence mask text good None (Some new) = ⊥
OffersJust sequence mask text good (Some old) None = ⊥
OffersJust sequence mask text good (Some old) (Some new) =
    (new 0 ≡ old 0) × (SameOffer old new ⊎ (IsTrue good × (offer_of new ≡ Some (record { sequence = sequence; good = mask; text = text })))) × RestStays old new

-- good stays, or is dropped by a fault
abbrev pub Drops : Bool → Bool → Seen → Seen → Type 0
Drops old true before now = IsTrue old
Drops false false before now = Unit {0}
Drops true false before now = Rose before.faults now.faults

-- what a commit does to a disk at every device call
pub record CommitGoes (first last : ℕ) (text : List ℕ) (old new : DiskSeen) : Type 0 where
  pub slot : new.slot ≡ old.slot
  pub name : new.name ≡ old.name
  pub device : new.device ≡ old.device
  pub size : new.sectors ≡ old.sectors
  pub kept : Keeps old.seen new.seen
  pub good : Drops old.good new.good old.seen new.seen
  pub offers : Offers first last text old.seen.told new.seen.told
  -- one that is not good is let alone
  pub idle : old.good ≡ false → new.seen ≡ old.seen

-- what the writing of a toggle does to a disk
pub record Stamps (sequence mask : ℕ) (text : List ℕ) (old new : DiskSeen) : Type 0 where
  pub slot : new.slot ≡ old.slot
  pub name : new.name ≡ old.name
  pub device : new.device ≡ old.device
  pub size : new.sectors ≡ old.sectors
  pub kept : Keeps old.seen new.seen
  pub good : Drops old.good new.good old.seen new.seen
  pub offers : OffersJust sequence mask text old.good old.seen.told new.seen.told
  -- one that is not good is let alone
  pub idle : old.good ≡ false → new.seen ≡ old.seen

-- the header, the toggle, what it offers and what is behind the halves stay
abbrev pub StaysTold : Option Contents → Option Contents → Type 0
StaysTold None None = Unit {0}
StaysTold None (Some new) = ⊥
StaysTold (Some old) None = ⊥
StaysTold (Some old) (Some new) = (new 0 ≡ old 0) × SameOffer old new × RestStays old new

-- what the writing of a spare half does to a disk
pub record Stays (old new : DiskSeen) : Type 0 where
  pub slot : new.slot ≡ old.slot
  pub name : new.name ≡ old.name
  pub device : new.device ≡ old.device
  pub size : new.sectors ≡ old.sectors
  pub half : new.half ≡ old.half
  pub kept : Keeps old.seen new.seen
  pub good : Drops old.good new.good old.seen new.seen
  pub told : StaysTold old.seen.told new.seen.told
  pub idle : old.good ≡ false → new.seen ≡ old.seen

-- where it is good, the disk offers just this
abbrev pub IsOffer : ℕ → ℕ → List ℕ → DiskSeen → Type 0
IsOffer sequence mask text h = IsTrue h.good → MatchOption h.seen.told (Unit {0}) (λ contents. offer_of contents ≡ Some (record { sequence = sequence; good = mask; text = text }))

-- its offer has a sequence up to this one
abbrev pub IsBelow : Word → ℕ → DiskSeen → Type 0
IsBelow group last h = MatchOption (offer_told group h.seen.told) (Unit {0}) (λ o. o.sequence ≤ last)

-- the disk tells what it holds, and its header names the group
abbrev pub IsMember : Word → Option Contents → Type 0
IsMember group None = ⊥
IsMember group (Some contents) = names_group group (header_of (contents 0)) ≡ true
