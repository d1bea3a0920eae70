-- What the two writes of an attempt do to a disk: that of the spare half, and that of the toggle.
use Rattle.std.specs.Prelude.{◌≡◌, ◌⊎◌, ℕ, ◌+◌, ◌-◌, ◌≤◌, IsTrue, List, length, Some, MatchOption}
use Rattle.vx_base.specs.Blocks.{Contents}
use Rattle.vx_base.specs.Counts.{later_count}
use Rattle.vx_copies.specs.Image.{sectors_for, toggle_at}
use Rattle.vx_copies.specs.Disks.{DiskSeen}
use Rattle.vx_copies.specs.Written.{BothTell, Holds, HalfStays, OldOrText}

-- the toggle and the half that it names stay, and other sectors are as they were or the text's
pub record HalfLeaves (half : ℕ) (text : List ℕ) (c d : Contents) : Type 0 where
  pub toggle : d 1 ≡ c 1
  pub named : HalfStays half c d
  pub only : OldOrText text c d

-- the spare half was written, or not, or in part
pub record HalfPut (text : List ℕ) (old new : DiskSeen) : Type 0 where
  pub half : new.half ≡ old.half
  pub told : BothTell (HalfLeaves old.half text) old.seen.told new.seen.told
  pub reads : new.seen.reads ≡ old.seen.reads
  pub writes : new.seen.writes ≤ old.seen.writes + sectors_for (length text)

-- where the disk is good its spare half holds the text, and was written once
pub record HalfDone (text : List ℕ) (old new : DiskSeen) : Type 0 where
  pub put : HalfPut text old new
  pub good : new.good ≡ old.good
  pub holds : IsTrue old.good → MatchOption new.seen.told (Unit {0}) (Holds text (1 - old.half))
  pub writes : IsTrue old.good → new.seen.writes ≡ later_count old.seen.writes (sectors_for (length text))

-- the toggle says just this
abbrev pub Says : ℕ → ℕ → List ℕ → ℕ → Contents → Type 0
Says sequence mask text half contents = toggle_at contents ≡ Some (record { sequence = sequence; half = half; length = length text; good = mask })

-- the toggle is as it was, or the disk was good and its toggle names the half that was spare; other sectors stay
pub record ToggleLeaves (sequence mask : ℕ) (text : List ℕ) (old new : DiskSeen) (c d : Contents) : Type 0 where
  pub toggle : ((d 1 ≡ c 1) × (IsTrue new.good → new.half ≡ old.half)) ⊎ (IsTrue old.good × Says sequence mask text (1 - old.half) d)
  pub others : (k : ℕ) → (k ≡ 1 → ⊥) → d k ≡ c k

-- the toggle was written, or not
pub record TogglePut (sequence mask : ℕ) (text : List ℕ) (old new : DiskSeen) : Type 0 where
  pub told : BothTell (ToggleLeaves sequence mask text old new) old.seen.told new.seen.told
  pub reads : new.seen.reads ≡ old.seen.reads
  pub writes : new.seen.writes ≤ old.seen.writes + 1

-- where the disk is good its toggle names the half that was spare, and was written once
pub record ToggleDone (sequence mask : ℕ) (text : List ℕ) (old new : DiskSeen) : Type 0 where
  pub put : TogglePut sequence mask text old new
  pub good : new.good ≡ old.good
  pub half : IsTrue old.good → new.half ≡ 1 - old.half
  pub says : IsTrue old.good → MatchOption new.seen.told (Unit {0}) (Says sequence mask text (1 - old.half))
  pub writes : IsTrue old.good → new.seen.writes ≡ later_count old.seen.writes 1
