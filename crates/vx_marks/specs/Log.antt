-- What contracts see of a log of marks, and what a call on one region may do to it.
use Rattle.std.specs.Prelude.{◌≡◌, ◌≢◌, ℕ, ◌<◌, ◌≤◌, ◌&&◌, ◌||◌, not, Bool, IsTrue, true, false, ◌⊎◌, Option, Some, None, Result, Ok, Err}
use Rattle.vx_base.specs.Counts.{Rose}
use Rattle.vx_mask.specs.Mask.{has}
use Rattle.vx_mask.specs.Marks.{Marks, AllGain, AllLose, MayGain, MayLose, MayTidy}
use Rattle.vx_marks.specs.declared.marker.MarkFault.{MarkFault}
use Rattle.vx_marks.specs.declared.marker.MarkFault.TheVariants.{Failed, PowerLost, Busy}

pub record LogSeen : Type 0 where
  -- whether there is a log at all
  pub there : Bool
  -- the regions that it has marks of
  pub has_region : ℕ → Bool
  -- it has the maps below this number
  pub maps : ℕ
  pub copies : ℕ
  -- pages of it may be out, in the hands of others
  pub lent : Bool
  -- whether it says of a region that every copy shows a map's mark
  pub claims : ℕ → ℕ → Bool
  -- the marks of each region, where the copies tell what they hold
  pub told : Option (ℕ → Marks)
  -- how often a call on a piece has failed, by the copy and the piece's device
  pub faults : ℕ → ℕ → ℕ
  -- the power is gone
  pub cut : Bool

-- the log has each map of the mask
abbrev pub HasMaps : LogSeen → ℕ → Type 0
HasMaps log mask = (k : ℕ) → has mask k ≡ true → k < log.maps

-- a mark or an unmark can be asked for: the log has the region and the maps, and there is some map
pub record IsAskable (log : LogSeen) (region bits : ℕ) : Type 0 where
  pub known : log.has_region region ≡ true
  pub maps : HasMaps log bits
  pub some : bits ≢ 0

-- what each call keeps; the counts of faults never fall, and the power does not come back
pub record KeepsLog (old new : LogSeen) : Type 0 where
  pub there : new.there ≡ old.there
  pub has_region : new.has_region ≡ old.has_region
  pub maps : new.maps ≡ old.maps
  pub copies : new.copies ≡ old.copies
  pub lent : new.lent ≡ old.lent
  pub faults : (copy device : ℕ) → old.faults copy device ≤ new.faults copy device
  pub cut : IsTrue old.cut → IsTrue new.cut

-- a fact on the marks before and after, where they are told; what tells goes on telling
abbrev pub OnMarks : ((ℕ → Marks) → (ℕ → Marks) → Type 0) → Option (ℕ → Marks) → Option (ℕ → Marks) → Type 0
OnMarks fact None new = Unit {0}
OnMarks fact (Some old) None = ⊥
OnMarks fact (Some old) (Some new) = fact old new

-- the region's marks change in this way, and those of the others are at most tidied
pub record ChangesAt (region : ℕ) (effect : Marks → Marks → Type 0) (old new : ℕ → Marks) : Type 0 where
  pub here : effect (old region) (new region)
  pub elsewhere : (other : ℕ) → other ≢ region → MayTidy (old other) (new other)

-- how a mark changes the region's marks, by its answer
abbrev pub IsMarkedAs : {T : Type 0} → ℕ → Result T MarkFault → Marks → Marks → Type 0
IsMarkedAs bits (Ok u) old new = AllGain bits old new
IsMarkedAs bits (Err (Failed copy device)) old new = MayGain bits old new
IsMarkedAs bits (Err PowerLost) old new = MayGain bits old new
IsMarkedAs bits (Err Busy) old new = new ≡ old

-- how an unmark changes them
abbrev pub IsUnmarkedAs : {T : Type 0} → ℕ → Result T MarkFault → Marks → Marks → Type 0
IsUnmarkedAs bits (Ok u) old new = AllLose bits old new
IsUnmarkedAs bits (Err (Failed copy device)) old new = MayLose bits old new
IsUnmarkedAs bits (Err PowerLost) old new = MayLose bits old new
IsUnmarkedAs bits (Err Busy) old new = new ≡ old

-- some of these bits are perhaps no longer claimed, and nothing else changes
pub record MayUnclaim (bits : ℕ) (old new : ℕ → Bool) : Type 0 where
  pub others : (k : ℕ) → has bits k ≡ false → new k ≡ old k
  pub fewer : (k : ℕ) → new k ≡ true → old k ≡ true

-- what is claimed of the region after a mark: the bits too, if it was answered Ok, and where it failed perhaps none of them
abbrev pub IsClaimedAs : {T : Type 0} → ℕ → Result T MarkFault → (ℕ → Bool) → (ℕ → Bool) → Type 0
IsClaimedAs bits (Ok u) old new = (k : ℕ) → new k ≡ (old k || has bits k)
IsClaimedAs bits (Err (Failed copy device)) old new = MayUnclaim bits old new
IsClaimedAs bits (Err PowerLost) old new = MayUnclaim bits old new
IsClaimedAs bits (Err Busy) old new = (k : ℕ) → new k ≡ old k

-- what is claimed after an unmark: not the bits, also where it failed
abbrev pub IsUnclaimedAs : {T : Type 0} → ℕ → Result T MarkFault → (ℕ → Bool) → (ℕ → Bool) → Type 0
IsUnclaimedAs bits (Ok u) old new = (k : ℕ) → new k ≡ (old k && not (has bits k))
IsUnclaimedAs bits (Err (Failed copy device)) old new = (k : ℕ) → new k ≡ (old k && not (has bits k))
IsUnclaimedAs bits (Err PowerLost) old new = (k : ℕ) → new k ≡ (old k && not (has bits k))
IsUnclaimedAs bits (Err Busy) old new = (k : ℕ) → new k ≡ old k

-- what is claimed of the region changes so, and what is claimed of the others stays
pub record ClaimsAt (region : ℕ) (change : (ℕ → Bool) → (ℕ → Bool) → Type 0) (old new : ℕ → ℕ → Bool) : Type 0 where
  pub here : change (old region) (new region)
  pub elsewhere : (other k : ℕ) → other ≢ region → new other k ≡ old other k

-- the mask has the maps that are claimed
abbrev pub AreClaimed : (ℕ → Bool) → ℕ → Type 0
AreClaimed claims mask = (k : ℕ) → has mask k ≡ claims k

-- what is claimed of a region is on every copy and not loose, and what a copy shows beside is loose
pub record IsHonest (copies : ℕ) (claims : ℕ → Bool) (marks : Marks) : Type 0 where
  pub shown : (n k : ℕ) → n < copies → claims k ≡ true → marks.shows n k ≡ true
  pub bounded : (n k : ℕ) → n < copies → marks.shows n k ≡ true → (claims k ≡ true) ⊎ (marks.loose k ≡ true)
  pub apart : (k : ℕ) → marks.loose k ≡ true → claims k ≡ false

-- the piece is not the one that failed
abbrev pub IsOther : (copy device copy' device' : ℕ) → Type 0
IsOther copy device copy' device' = (copy' ≡ copy → device' ≢ device)

-- Only the pieces of that copy on that device have counted a fault.
pub record FailedAt (copy device : ℕ) (old new : LogSeen) : Type 0 where
  pub rose : Rose (old.faults copy device) (new.faults copy device)
  pub others : (copy' device' : ℕ) → IsOther copy device copy' device' → new.faults copy' device' ≡ old.faults copy' device'

-- Why a call answers so: `Failed` comes only where that count rose, and no other did; `PowerLost` only where a copy is cut.
-- `Busy` comes only where pages may be out, and nothing has changed then; at Ok no count has risen.
abbrev pub MarkHasCause : {T : Type 0} → LogSeen → LogSeen → Result T MarkFault → Type 0
MarkHasCause old new (Ok u) = (copy device : ℕ) → new.faults copy device ≡ old.faults copy device
MarkHasCause old new (Err (Failed copy device)) = FailedAt copy device old new
MarkHasCause old new (Err PowerLost) = IsTrue new.cut
MarkHasCause old new (Err Busy) = (new ≡ old) × (old.lent ≡ true)
