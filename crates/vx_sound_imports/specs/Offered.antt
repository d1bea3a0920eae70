-- Groups that lie on devices, and the bytes of their volumes.
use Rattle.std.specs.Prelude.{◌≡◌, ℕ, true, Some, Contains}
use Rattle.vx_base.specs.Named.{Word}
use Rattle.vx_mask.specs.Mask.{has}
use Rattle.vx_copies.specs.Image.{Offer}
use Rattle.vx_moments.specs.World.{Device, Group, Member, World}
use Rattle.vx_sound.specs.Offers.{IsHeaded, Offers}
use Rattle.vx_sound.specs.Sound.{IsConfigOf, IsNewest}
use Rattle.vx_sound.specs.Standing.{IsStanding}
use Rattle.vx_sound_volumes.specs.Volumes.{AreSoundOn, IsSoundBefore}

-- each good slot of the group is that of a member
abbrev pub IsWholeGroup : Group → Type 0
IsWholeGroup g = (slot : ℕ) → has g.good slot ≡ true → (m : Member) × Contains g.members m × (m.slot ≡ slot)

-- The group is read from devices, by what one of them offers: its configuration is that of the text and its good slots those of the mask; its
-- members are devices with its header in good slots, and there is one for each.
pub record IsReadAs (dg : Word) (w : World) (o : Offer) (g : Group) : Type 0 where
  pub config : IsConfigOf o.text g.config
  pub good : g.good ≡ o.good
  pub named : (m : Member) → Contains g.members m → has g.good m.slot ≡ true
  pub headed : (m : Member) → Contains g.members m → (d : Device) × IsHeaded dg w m.device m.slot d
  pub whole : IsWholeGroup g

-- The volumes of the newest configuration that devices offer of the group are sound, where none of its good disks is missing.
abbrev pub HasSoundOffer : Word → World → Type 0
HasSoundOffer dg w = (name : Word) (slot : ℕ) (o : Offer) (g : Group) → Offers dg w name slot o → IsNewest dg w o → IsReadAs dg w o g → AreSoundOn w.devices g

-- the group is not the imported one
abbrev pub IsElsewhere : Word → World → Type 0
IsElsewhere dg w = (g : Group) → w.group ≡ Some g → g.config.group ≡ dg → ⊥

-- so it is with each group that is not imported
abbrev pub HaveSoundOffers : World → Type 0
HaveSoundOffers w = (dg : Word) → IsElsewhere dg w → HasSoundOffer dg w

-- What is known before the command at this place of the script: the copies of configurations are sound, the volumes of the imported group are,
-- which has a member in each good slot, and so are those of each other group.
pub record AreAllSound (place : ℕ) (w : World) : Type 0 where
  pub standing : IsStanding w
  pub volumes : IsSoundBefore place w
  pub offers : HaveSoundOffers w
  pub whole : (g : Group) → w.group ≡ Some g → IsWholeGroup g
