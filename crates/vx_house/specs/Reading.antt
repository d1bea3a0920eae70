-- Devices that were read at most, and may have been taken and given back.
use Rattle.std.specs.Prelude.{◌≡◌, Option, Some, None, IsSome}
use Rattle.vx_base.specs.Named.{Word}
use Rattle.vx_piece.specs.Seen.{Seen, Keeps, IsRead}
use Rattle.vx_shelf.specs.Shelf.{IsGiven, ComesToShelf, SameCounts, put_count}
use Rattle.vx_house.specs.Holders.{AreHeld}
use Rattle.vx_house.specs.Scene.{Shelved, Scene, seen_at, FaultsGoOn}

-- the device is still there, only read
abbrev pub Stays : Option Seen → Option Seen → Type 0
Stays None None = Unit {0}
Stays None (Some new) = ⊥
Stays (Some old) None = ⊥
Stays (Some old) (Some new) = Keeps old new × IsRead old new

-- Devices were taken, read and given back: where the shelf tells its devices, each is still there.
pub record OnlyRead (old new : Scene) : Type 0 where
  pub told : IsSome old.shelf.free → IsSome new.shelf.free
  pub seen : IsSome old.shelf.free → (name : Word) → Stays (seen_at old name) (seen_at new name)
  pub faults : FaultsGoOn old new

-- the same, and these are all devices that are taken
pub record AreRead (old new : Scene) : Type 0 where
  pub held : AreHeld new.shelf.held new.taken
  pub reads : OnlyRead old new

-- the device is back on the shelf, as it is now
pub record IsReturned (name : Word) (seen : Seen) (old new : Shelved) : Type 0 where
  pub given : IsGiven name old.held new.held
  pub back : ComesToShelf name seen old.free new.free
  pub quiet : new.faults ≡ old.faults
  pub counts : SameCounts (put_count name seen.faults old.counted) new.counted
