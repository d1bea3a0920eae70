-- The images of a group's volumes, out of the devices of the world.
use Rattle.std.specs.Prelude.{◌≡◌, ℕ, ◌+◌, ◌==◌, if◌then◌else◌, Option, Some, None, List, [], ◌∷◌, Contains}
use Rattle.vx_base.specs.Blocks.{Contents}
use Rattle.vx_base.specs.Named.{Word}
use Rattle.vx_config_parts.specs.declared.vol.Vol.{Vol}
use Rattle.vx_config_parts.specs.declared.snap.Snap.{Snap}
use Rattle.vx_image.specs.Bytes.{Sectors, image_of}
use Rattle.vx_image.specs.Image.{Image}
use Rattle.vx_image.specs.Own.{IsOfVolume}
use Rattle.vx_image.specs.Soundness.{IsSoundImage, IsSoundPair}
use Rattle.vx_moments.specs.World.{Device, Member, Group, World}

-- the sectors of a device's public region, which begins behind its private one
abbrev pub public_of : Option Device → Contents
public_of None k = []
public_of (Some d) k = d.contents (2048 + k)

-- the sectors of the public regions of these disks, by their slots
abbrev pub sectors_of : (Word → Option Device) → List Member → Sectors
sectors_of devices [] slot = λ k. []
sectors_of devices (m ∷ ms) slot = if m.slot == slot then public_of (devices m.device) else sectors_of devices ms slot

-- a volume of the group as these devices have it
abbrev pub image_on : (Word → Option Device) → Group → Vol → Image
image_on devices g v = image_of g.config g.good (sectors_of devices g.members) v

-- two disks of a group have two slots and two devices
abbrev pub AreOfOneSlot : Member → Member → Type 0
AreOfOneSlot m n = m.device ≡ n.device → m.slot ≡ n.slot

-- no device has disks of two slots
abbrev pub HaveOwnDevices : List Member → Type 0
HaveOwnDevices members = (m n : Member) → Contains members m → Contains members n → AreOfOneSlot m n

-- the sector of the device is one of the volume's
pub record IsSectorOf (g : Group) (vol : Word) (device : Word) (k : ℕ) : Type 0 where
  pub member : Member
  pub there : Contains g.members member
  pub device_is : member.device ≡ device
  pub sector : ℕ
  pub place_is : k ≡ 2048 + sector
  pub of : IsOfVolume g.config vol (record { disk = member.slot; sector = sector })

-- the device is there as before, but for sectors of the volume
abbrev pub DeviceStaysBut : (ℕ → Type 0) → Option Device → Option Device → Type 0
DeviceStaysBut Q None None = Unit {0}
DeviceStaysBut Q None (Some e) = ⊥
DeviceStaysBut Q (Some d) None = ⊥
DeviceStaysBut Q (Some d) (Some e) = (e.sectors ≡ d.sectors) × ((k : ℕ) → (Q k → ⊥) → e.contents k ≡ d.contents k)

-- the devices change in the sectors of one volume alone
abbrev pub ChangesOnly : Group → Word → (Word → Option Device) → (Word → Option Device) → Type 0
ChangesOnly g vol old new = (name : Word) → DeviceStaysBut (IsSectorOf g vol name) (old name) (new name)

-- ---- soundness

-- each volume that is not started is sound as its bytes are
abbrev pub AreVolumesSound : World → Group → Type 0
AreVolumesSound w g = (v : Vol) → Contains g.config.volumes v → w.volumes v.name ≡ None → IsSoundImage (image_on w.devices g v)

-- two volumes of the group that are in a relation, and not started
pub record AreRelated (w : World) (g : Group) (s : Snap) (v o : Vol) : Type 0 where
  pub relation : Contains g.config.snaps s
  pub snapshot : Contains g.config.volumes v
  pub original : Contains g.config.volumes o
  pub snapshot_is : v.name ≡ s.vol
  pub original_is : o.name ≡ s.of
  pub stopped : w.volumes v.name ≡ None
  pub idle : w.volumes o.name ≡ None

-- .. and so are two that are in a relation
abbrev pub ArePairsSound : World → Group → Type 0
ArePairsSound w g = (s : Snap) (v o : Vol) → AreRelated w g s v o → IsSoundPair (image_on w.devices g v) s.map (image_on w.devices g o) s.ofmap

-- the bytes of the group's volumes are sound
pub record AreImagesSound (w : World) (g : Group) : Type 0 where
  pub volumes : AreVolumesSound w g
  pub pairs : ArePairsSound w g
