-- How an attempt and a commit end.
use Rattle.std.specs.Prelude.{◌≡◌, ℕ, ◌<◌, IsTrue, List, take, Result, Ok, Err}
use Rattle.vx_base.specs.Counts.{Rose}
use Rattle.vx_mask.specs.Mask.{has}
use Rattle.vx_copies.specs.Lists.{Each, AllOf, AnyOf}
use Rattle.vx_copies.specs.Disks.{DiskSeen, IsCut, IsReady, IsOffer, good_count, is_good_slot, good_mask}
use Rattle.vx_copies.specs.declared.disk.Pass.{Pass}
use Rattle.vx_copies.specs.declared.disk.Pass.TheVariants.{Done, Dropped, Cut}
use Rattle.vx_copies.specs.declared.writing.Lost.{Lost}
use Rattle.vx_copies.specs.declared.writing.Lost.TheVariants.{GroupLost, PowerLost}

-- every good disk offers the text, under this sequence and one mask of the good slots
pub record AllOffer (sequence : ℕ) (text : List ℕ) (disks : List DiskSeen) : Type 0 where
  pub mask : ℕ
  pub names : (slot : ℕ) → has mask slot ≡ is_good_slot slot disks
  pub just : mask ≡ good_mask disks
  pub each : AllOf (IsOffer sequence mask text) disks

abbrev pub AttemptEnds : Pass → ℕ → List ℕ → List DiskSeen → List DiskSeen → Type 0
AttemptEnds Done sequence text old new = AllOf IsReady new × AllOffer sequence text new × Each (λ a b. b.good ≡ a.good) old new
AttemptEnds Dropped sequence text old new = AllOf IsReady new × (good_count new < good_count old)
AttemptEnds Cut sequence text old new = AnyOf IsCut new

-- where it was good, its count of faults has risen
abbrev pub HasRisen : DiskSeen → DiskSeen → Type 0
HasRisen old new = IsTrue old.good → Rose old.seen.faults new.seen.faults

-- all good disks offer the text, and one of the carriers is among them; or the count of each carrier that was good has risen; or a disk is cut
abbrev pub CommitEnds : {T : Type 0} → Result T Lost → ℕ → ℕ → List ℕ → List DiskSeen → List DiskSeen → Type 0
CommitEnds (Ok u) carriers sequence text old new = AllOf IsReady new × AllOffer sequence text new × (0 < good_count (take carriers new))
CommitEnds (Err GroupLost) carriers sequence text old new = Each HasRisen (take carriers old) (take carriers new)
CommitEnds (Err PowerLost) carriers sequence text old new = AnyOf IsCut new
