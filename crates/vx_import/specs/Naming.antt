-- Which slots have no device that can be read, and which devices are damaged.
use Rattle.std.specs.Prelude.{◌≡◌, ℕ, ◌<◌, ◌==◌, ◌&&◌, ◌||◌, Bool, true, false, if◌then◌else◌, List, [], ◌∷◌, take, Option, Some, None}
use Rattle.vx_mask.specs.Mask.{has}
use Rattle.vx_copies.specs.Lists.{AllOf}
use Rattle.vx_import.specs.Looks.{Looked}
use Rattle.vx_import.specs.Choice.{At}
use Rattle.vx_import.specs.declared.device.Reading.{Reading}
use Rattle.vx_import.specs.declared.device.Reading.TheVariants.{Blank, Says, Damaged}
use Rattle.vx_import.specs.declared.naming.Damage.{Damage}

-- a device of the slot can be read
abbrev pub is_readable_slot : ℕ → List Looked → Bool
is_readable_slot slot [] = false
is_readable_slot slot (f ∷ fs) = (f.readable && f.label.slot == slot) || is_readable_slot slot fs

-- each slot below a bound that the mask names has a device that can be read
abbrev pub AllThere : ℕ → ℕ → List Looked → Type 0
AllThere bound mask fs = (slot : ℕ) → slot < bound → has mask slot ≡ true → is_readable_slot slot fs ≡ true

-- the mask names the slot, and no device of it can be read; of such slots it is the lowest
pub record IsGone (slot mask : ℕ) (fs : List Looked) : Type 0 where
  pub below : slot < 32
  pub named : has mask slot ≡ true
  pub gone : is_readable_slot slot fs ≡ false
  pub lowest : AllThere slot mask fs

-- the lowest slot of those that the mask names and that no readable device has, if any
abbrev pub MissingIs : Option ℕ → ℕ → List Looked → Type 0
MissingIs None mask fs = AllThere 32 mask fs
MissingIs (Some slot) mask fs = IsGone slot mask fs

-- the byte at which a toggle is none
abbrev pub damage_in : Reading → Option ℕ
damage_in Blank = None
damage_in (Says t) = None
damage_in (Damaged byte) = Some byte

-- the byte at which the toggle of a readable device is none
abbrev pub damage_read : Looked → Option ℕ
damage_read f = if f.readable then damage_in f.reading else None

-- all slots are meant, or those that a mask names
abbrev pub is_meant : Option ℕ → ℕ → Bool
is_meant None slot = true
is_meant (Some mask) slot = has mask slot

-- it is not meant, or it is not damaged
abbrev pub IsWhole : Option ℕ → Looked → Type 0
IsWhole meant f = is_meant meant f.label.slot ≡ true → damage_read f ≡ None

-- the device is meant, and it is damaged at this byte
pub record IsHurt (meant : Option ℕ) (d : Damage) (f : Looked) : Type 0 where
  pub named : is_meant meant f.label.slot ≡ true
  pub disk_is : f.label.disk ≡ d.disk
  pub byte_is : damage_read f ≡ Some d.byte

abbrev pub HurtIs : Option Damage → Option ℕ → Looked → Type 0
HurtIs None meant f = IsWhole meant f
HurtIs (Some d) meant f = IsHurt meant d f

-- the first of the devices that are meant and damaged, if any
abbrev pub DamageIs : Option Damage → Option ℕ → List Looked → Type 0
DamageIs None meant fs = AllOf (IsWhole meant) fs
DamageIs (Some d) meant fs = (i : ℕ) × At i (IsHurt meant d) fs × AllOf (IsWhole meant) (take i fs)
