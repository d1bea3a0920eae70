-- What holds of a group that is to be written, so that its copies stay chained.
use Rattle.std.proofs.Common.{◌≡◌, ◌⊎◌, ℕ, ◌≤◌, true, false, Some, None}
use Rattle.vx_base.specs.Named.{Word}
use Rattle.vx_mask.specs.Mask.{has}
use Rattle.vx_header.specs.Named.{header_of}
use Rattle.vx_copies.specs.Image.{Offer}
use Rattle.vx_copies.specs.Lists.{AllOf}
use Rattle.vx_moments.specs.World.{World, Device, Member}
use Rattle.vx_moments.specs.Commit.{Writing, parties, is_slot_of, is_written_slot}
use Rattle.vx_moments.specs.Holding.{IsLent}
use Rattle.vx_sound.specs.Offers.{IsHeaded, Offers}
use Rattle.vx_sound.specs.Sound.{IsNewest}
use Rattle.vx_sound.specs.Standing.{IsOwn}
use Rattle.vx_sound.proofs.Configs.{Records}

-- the member has a header of the group, under its own slot
abbrev pub IsHeadedAs : Word → World → Member → Type 0
IsHeadedAs dg w m = (d : Device) × IsHeaded dg w m.device m.slot d

-- no started volume lies on the device, and it has no header
pub record IsBlank (w : World) (m : Member) : Type 0 where
  pub apart : IsLent w m.device → ⊥
  pub blank : (d : Device) → w.devices m.device ≡ Some d → header_of (d.contents 0) ≡ None

-- no device of the group has the slot, and no offer names it
pub record IsVacant (dg : Word) (w : World) (slot : ℕ) : Type 0 where
  pub none : (name : Word) (d : Device) → IsHeaded dg w name slot d → ⊥
  pub unnamed : (name : Word) (place : ℕ) (o : Offer) → Offers dg w name place o → has o.good slot ≡ true → ⊥

-- no device has a header of the group
abbrev pub IsNew : Word → World → Type 0
IsNew dg w = (name : Word) (slot : ℕ) (d : Device) → IsHeaded dg w name slot d → ⊥

-- The group has the newest configuration of all its devices, what is written records them all, and those that join are new to it.
pub record IsReady (x : Writing) (w : World) : Type 0 where
  pub own : AllOf (IsOwn x.config.group w) x.group.members
  pub good : AllOf (λ m. has x.group.good m.slot ≡ true → IsHeadedAs x.config.group w m) x.group.members
  pub blank : AllOf (IsBlank w) x.joiners
  pub newest : (name : Word) (slot : ℕ) (o : Offer) → Offers x.config.group w name slot o → o.sequence ≤ x.group.sequence
  -- an offer that is the newest has the group's sequence and mask
  pub taken : (name : Word) (slot : ℕ) (o : Offer) → Offers x.config.group w name slot o → IsNewest x.config.group w o → (o.sequence ≡ x.group.sequence) × (o.good ≡ x.group.good)
  pub recorded : AllOf (λ m. Records x.config m.slot) (parties x)
  pub written : (slot : ℕ) → is_written_slot x slot ≡ true → Records x.config slot
  pub offering : (name : Word) (slot : ℕ) (o : Offer) → Offers x.config.group w name slot o → Records x.config slot
  pub named : (name : Word) (slot : ℕ) (o : Offer) → Offers x.config.group w name slot o → (n : ℕ) → has o.good n ≡ true → Records x.config n
  pub vacant : (slot : ℕ) → is_slot_of x.joiners slot ≡ true → IsVacant x.config.group w slot
  pub apart : AllOf (λ m. is_slot_of x.joiners m.slot ≡ false) x.group.members
  pub single : AllOf (λ m. AllOf (λ n. m.slot ≡ n.slot → m.device ≡ n.device) x.joiners) x.joiners
  pub carriers : (x.carriers ≡ x.group.members) ⊎ ((x.carriers ≡ x.joiners) × IsNew x.config.group w)
