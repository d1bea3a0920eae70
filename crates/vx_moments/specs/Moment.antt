-- A moment of a run: the world, and the counts of the device calls up to it.
use Rattle.std.specs.Prelude.{◌≡◌, ◌⊎◌, ℕ, ◌≤◌, Bool, IsTrue}
use Rattle.vx_base.specs.Counts.{Rose}
use Rattle.vx_base.specs.Named.{Word}
use Rattle.vx_moments.specs.World.{World}

-- counts of each device, by its name, and the shelf's
pub record Counts : Type 0 where
  -- calls that failed
  pub faults : Word → ℕ
  -- sectors that were handed to reads while there was power
  pub reads : Word → ℕ
  -- sectors that were handed to writes while there was power
  pub writes : Word → ℕ
  -- the power of the device is gone
  pub cut : Word → Bool
  -- calls of the shelf itself that failed
  pub shelf : ℕ

pub record Moment : Type 0 where
  pub world : World
  pub counts : Counts

-- no count of faults falls, and the power does not come back
pub record AreLater (old new : Counts) : Type 0 where
  pub faults : (name : Word) → old.faults name ≤ new.faults name
  pub cut : (name : Word) → IsTrue (old.cut name) → IsTrue (new.cut name)
  pub shelf : old.shelf ≤ new.shelf

-- a call of the device has failed
abbrev pub HasFailed : Counts → Counts → Word → Type 0
HasFailed old new name = Rose (old.faults name) (new.faults name)

-- a call of the shelf has failed
abbrev pub ShelfHasFailed : Counts → Counts → Type 0
ShelfHasFailed old new = Rose old.shelf new.shelf

-- the device or the shelf has failed
abbrev pub HasFailedOrShelf : Counts → Counts → Word → Type 0
HasFailedOrShelf old new name = HasFailed old new name ⊎ ShelfHasFailed old new

-- no call has failed
pub record IsQuiet (old new : Counts) : Type 0 where
  pub devices : (name : Word) → new.faults name ≡ old.faults name
  pub shelf : new.shelf ≡ old.shelf

-- nothing was written
abbrev pub WritesNone : Counts → Counts → Type 0
WritesNone old new = (name : Word) → new.writes name ≡ old.writes name

-- no device was called
pub record CallsNone (old new : Counts) : Type 0 where
  pub reads : (name : Word) → new.reads name ≡ old.reads name
  pub writes : WritesNone old new

-- the world is as it was, and no count has fallen
pub record Stays (old new : Moment) : Type 0 where
  pub world : new.world ≡ old.world
  pub later : AreLater old.counts new.counts

-- nothing has changed, and nothing was called
pub record Rests (old new : Moment) : Type 0 where
  pub stays : Stays old new
  pub calls : CallsNone old.counts new.counts
  pub quiet : IsQuiet old.counts new.counts
