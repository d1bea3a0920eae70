-- Who holds a device, and which volumes are recorded.
use Rattle.std.specs.Prelude.{◌≡◌, ◌⊎◌, Bool, false, Option, Some, None, List}
use Rattle.std.specs.List.{list_any}
use Rattle.std.specs.Str.{bytes_eq}
use Rattle.vx_base.specs.Named.{Word}
use Rattle.vx_copies.specs.Lists.{AnyOf}
use Rattle.vx_moments.specs.World.{World, Volume, Group, Lies, OnDevice, OnPlexes}

-- the volume has the whole device
abbrev pub HasDevice : Lies → Word → Type 0
HasDevice (OnDevice device) name = device ≡ name
HasDevice (OnPlexes plexes) name = ⊥

-- a started volume has the whole device
abbrev pub IsLent : World → Word → Type 0
IsLent w name = (vol : Word) × (v : Volume) × (w.volumes vol ≡ Some v) × HasDevice v.lies name

-- a disk of the group lies on the device
abbrev pub IsMemberDevice : Option Group → Word → Type 0
IsMemberDevice None name = ⊥
IsMemberDevice (Some g) name = AnyOf (λ m. m.device ≡ name) g.members

-- a started volume or the group holds the device
abbrev pub IsHeld : World → Word → Type 0
IsHeld w name = IsLent w name ⊎ IsMemberDevice w.group name

-- the group records a volume of the name
abbrev pub has_volume : Option Group → Word → Bool
has_volume None name = false
has_volume (Some g) name = list_any (λ v. bytes_eq v.name name) g.config.volumes

-- the name is among these
abbrev pub is_among : Word → List Word → Bool
is_among name names = list_any (λ n. bytes_eq n name) names
