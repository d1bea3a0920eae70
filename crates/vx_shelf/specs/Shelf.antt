-- What stands on a shelf.
use Rattle.std.specs.Prelude.{◌≡◌, ◌<◌, ◌⊎◌, ℕ, false, if◌then◌else◌, replicate, Option, Some, None, IsSome, IfSome}
use Rattle.std.specs.Str.{bytes_eq}
use Rattle.vx_base.specs.Named.{Word, put, SameUnder}
use Rattle.vx_piece.specs.Seen.{Seen}

-- a device that was taken: its number, and its sectors
pub record Held : Type 0 where
  pub device : ℕ
  pub sectors : ℕ

abbrev pub held_as : Seen → Held
held_as seen = record { device = seen.device; sectors = seen.sectors }

-- two devices that were taken have two numbers
abbrev pub AreNumbered : (Word → Option Held) → Type 0
AreNumbered held = (a b : Word) (x y : Held) → held a ≡ Some x → held b ≡ Some y → x.device ≡ y.device → a ≡ b

-- the run is a whole device
abbrev pub IsWhole : Seen → Type 0
IsWhole seen = seen.start ≡ 0

-- this device was taken, and no other
abbrev pub IsOut : Option Held → Seen → Type 0
IsOut held seen = held ≡ Some (held_as seen)

-- no device has the name
pub record IsNowhere (name : Word) (free : Word → Option Seen) (held : Word → Option Held) : Type 0 where
  pub not_free : free name ≡ None
  pub not_held : held name ≡ None

-- the whole device is held now, with a sector at least, and nobody held it before
pub record IsTaken (name : Word) (seen : Seen) (old new : Word → Option Held) : Type 0 where
  pub whole : IsWhole seen
  pub some : 0 < seen.sectors
  pub before : old name ≡ None
  pub after : SameUnder (put name (Some (held_as seen)) old) new

-- it is the device that was told, which is no longer there; a shelf that tells nothing goes on so
abbrev pub LeavesShelf : Word → Seen → Option (Word → Option Seen) → Option (Word → Option Seen) → Type 0
LeavesShelf name seen None None = Unit {0}
LeavesShelf name seen None (Some new) = ⊥
LeavesShelf name seen (Some old) None = ⊥
LeavesShelf name seen (Some old) (Some new) = (old name ≡ Some seen) × SameUnder (put name None old) new

-- nobody holds a device of the name now
abbrev pub IsGiven : Word → (Word → Option Held) → (Word → Option Held) → Type 0
IsGiven name old new = SameUnder (put name None old) new

-- the device is told again, as it is now
abbrev pub ComesToShelf : Word → Seen → Option (Word → Option Seen) → Option (Word → Option Seen) → Type 0
ComesToShelf name seen None None = Unit {0}
ComesToShelf name seen None (Some new) = ⊥
ComesToShelf name seen (Some old) None = ⊥
ComesToShelf name seen (Some old) (Some new) = SameUnder (put name (Some seen) old) new

-- a device has the name, whether it is held or not
abbrev pub IsUsed : Word → (Word → Option Seen) → (Word → Option Held) → Type 0
IsUsed name free held = IsSome (free name) ⊎ IsSome (held name)

-- a whole device of so many sectors of zeros, which no call has met
pub record IsBlank (count : ℕ) (seen : Seen) : Type 0 where
  pub whole : IsWhole seen
  pub sectors : seen.sectors ≡ count
  pub told : IsSome seen.told
  pub zeros : IfSome seen.told (λ contents. (k : ℕ) → k < count → contents k ≡ replicate 512 0)
  pub faults : seen.faults ≡ 0
  pub writes : seen.writes ≡ 0
  pub reads : seen.reads ≡ 0
  pub cut : seen.cut ≡ false
  pub stop : seen.stop ≡ None

-- no device has the number, whether it is held or not
pub record IsFresh (number : ℕ) (free : Word → Option Seen) (held : Word → Option Held) : Type 0 where
  pub not_free : (name : Word) → IfSome (free name) (λ seen. seen.device ≡ number → ⊥)
  pub not_held : (name : Word) → IfSome (held name) (λ held. held.device ≡ number → ⊥)

-- a blank device, whose number no other has, joins those that nobody holds
pub record Joins (name : Word) (count : ℕ) (held : Word → Option Held) (old new : Word → Option Seen) : Type 0 where
  pub device : Seen
  pub blank : IsBlank count device
  pub fresh : IsFresh device.device old held
  pub after : SameUnder (put name (Some device) old) new

-- so it is for a shelf that tells its devices; one that tells nothing goes on so
abbrev pub IsMade : Word → ℕ → (Word → Option Held) → Option (Word → Option Seen) → Option (Word → Option Seen) → Type 0
IsMade name count held None None = Unit {0}
IsMade name count held None (Some new) = ⊥
IsMade name count held (Some old) None = ⊥
IsMade name count held (Some old) (Some new) = Joins name count held old new

-- the count of each name is as it was
abbrev pub SameCounts : (Word → ℕ) → (Word → ℕ) → Type 0
SameCounts old new = (name : Word) → new name ≡ old name

-- the same counts, but for the one of this name
abbrev pub put_count : Word → ℕ → (Word → ℕ) → Word → ℕ
put_count name count old other = if bytes_eq name other then count else old other

-- a device that nobody holds has the count of its name, where the shelf tells its devices
abbrev pub AreCounted : Option (Word → Option Seen) → (Word → ℕ) → Type 0
AreCounted free counted = IfSome free (λ devices. (name : Word) → IfSome (devices name) (λ seen. seen.faults ≡ counted name))
