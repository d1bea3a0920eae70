-- What becomes of devices as they get their power back.
use Rattle.std.specs.Prelude.{◌≡◌, ◌≤◌, Bool, true, false, IsTrue, Option, Some, None}
use Rattle.vx_base.specs.Named.{Word}
use Rattle.vx_piece.specs.Seen.{Seen}

-- the same device, which had no power; of its reads and writes some may not be counted
pub record HasPower (old new : Seen) : Type 0 where
  pub device : new.device ≡ old.device
  pub start : new.start ≡ old.start
  pub sectors : new.sectors ≡ old.sectors
  pub told : new.told ≡ old.told
  pub faults : new.faults ≡ old.faults
  pub stop : new.stop ≡ old.stop
  pub writes : new.writes ≤ old.writes
  pub reads : new.reads ≤ old.reads
  pub cut : IsTrue old.cut

-- a device that was gone is there with its power, and any other is as it was
abbrev pub IsReturned : Bool → Option Seen → Option Seen → Type 0
IsReturned false old new = new ≡ old
IsReturned true None new = ⊥
IsReturned true (Some old) None = ⊥
IsReturned true (Some old) (Some new) = HasPower old new

-- so it is of each name, where the shelf tells its devices; one that tells nothing goes on so
abbrev pub AreReturned : (Word → Bool) → Option (Word → Option Seen) → Option (Word → Option Seen) → Type 0
AreReturned gone None None = Unit {0}
AreReturned gone None (Some new) = ⊥
AreReturned gone (Some old) None = ⊥
AreReturned gone (Some old) (Some new) = (name : Word) → IsReturned (gone name) (old name) (new name)
