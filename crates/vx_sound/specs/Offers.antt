-- What devices offer as the configuration of a group.
use Rattle.std.specs.Prelude.{◌≡◌, ℕ, Some}
use Rattle.vx_base.specs.Named.{Word}
use Rattle.vx_header.specs.Named.{Label, header_of}
use Rattle.vx_copies.specs.Image.{Offer, offer_of}
use Rattle.vx_moments.specs.World.{World, Device}
use Rattle.vx_moments.specs.Holding.{IsLent}

-- no started volume lies on the device, and its header names the group, this slot and the device's own size
pub record IsHeaded (dg : Word) (w : World) (name : Word) (slot : ℕ) (d : Device) : Type 0 where
  pub device : w.devices name ≡ Some d
  pub apart : IsLent w name → ⊥
  pub label : Label
  pub header : header_of (d.contents 0) ≡ Some label
  pub group : label.group ≡ dg
  pub slot_is : label.slot ≡ slot
  pub size : label.sectors ≡ d.sectors

-- the device of the name offers this for the group, in this slot
pub record Offers (dg : Word) (w : World) (name : Word) (slot : ℕ) (o : Offer) : Type 0 where
  pub device : Device
  pub headed : IsHeaded dg w name slot device
  pub offer : offer_of device.contents ≡ Some o
