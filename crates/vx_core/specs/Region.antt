-- The state of one region, and what may become of it by each event.
use Rattle.std.specs.Prelude.{◌≡◌, ◌≢◌, ℕ, Bool, IsTrue, true, List, ◌∷◌, ◌⊎◌}
use Rattle.vx_core.specs.declared.stage.Job.{Job}
use Rattle.vx_core.specs.declared.stage.Event.{Event}
use Rattle.vx_core.specs.declared.stage.Act.{Act}
use Rattle.vx_core.specs.declared.stage.Phase.{Phase}
use Rattle.vx_core.specs.declared.stage.Stage.{Stage}
use Rattle.vx_core.specs.declared.stage.Job.TheVariants.{Read as ReadJob, Write as WriteJob, Copy as CopyJob, Settle, Clear}
use Rattle.vx_core.specs.declared.stage.Event.TheVariants.{Begin, Marked, MarkFailed, Unmarked, UnmarkFailed, Wrote, WriteFailed, Got, ReadFailed, Cut}
use Rattle.vx_core.specs.declared.stage.Act.TheVariants.{Mark, Unmark, WriteCall, WriteRegion, ReadCall, ReadRegion, Done, Skipped, Fault, Lost}
use Rattle.vx_core.specs.declared.stage.Phase.TheVariants.{Settled, Unsettled, Dead, Busy}
use Rattle.vx_base.specs.Blocks.{Contents, is_in}
use Rattle.vx_life.specs.declared.EntryKind.TheVariants.{Read as ReadKind, Write as WriteKind}
use Rattle.vx_life.specs.Candidates.{Candidates}
use Rattle.vx_life.specs.Entry.{Entry}
use Rattle.vx_mask.specs.Mask.{has}
use Rattle.vx_mask.specs.Marks.{Marks, AllGain, AllLose, MayGain, MayLose}
use Rattle.vx_core.specs.Table.{act_at}
use Rattle.vx_core.specs.History.{Pending, NoCall, Reads, Writes, entry_of, with_pending, overlaid, MayBegin, number_after}

-- what the devices hold of the region: the blocks of each plex, as the volume counts them, and the marks on the copies of the log
pub record Disks : Type 0 where
  pub blocks : ℕ → Contents
  pub marks : Marks

-- what no event changes
pub record Fixed : Type 0 where
  -- the plexes that are held
  pub held : ℕ → Bool
  -- the number of log copies
  pub copies : ℕ
  -- the region's blocks at the break-off of each relation map
  pub base : ℕ → Contents
  -- the candidates as the history begins
  pub first : Candidates
  -- the region's index in its volume
  pub region : ℕ
  -- the number that was drawn last before the history begins
  pub from : ℕ

-- all that stands round the stage of a region
pub record Around : Type 0 where
  pub disks : Disks
  pub fixed : Fixed
  -- the entries of the calls that have ended, the newest first
  pub entries : List Entry
  pub pending : Pending
  -- the number that was drawn last
  pub last : ℕ

pub record RegionState : Type 0 where
  pub stage : Stage
  pub around : Around

-- the entries, with the pending call as if it ended now
abbrev pub told : Around → List Entry
told a = with_pending a.pending a.entries

-- ---- what may become of the devices

-- plex k gets these blocks, and the others stay
pub record Gets (k : ℕ) (new : Contents) (old now : ℕ → Contents) : Type 0 where
  pub gets : (i : ℕ) → now k i ≡ new i
  pub others : (j i : ℕ) → j ≢ k → now j i ≡ old j i

-- each block of plex k is old or new, and the others stay
pub record MayGet (k : ℕ) (new : Contents) (old now : ℕ → Contents) : Type 0 where
  pub either : (i : ℕ) → (now k i ≡ old k i) ⊎ (now k i ≡ new i)
  pub others : (j i : ℕ) → j ≢ k → now j i ≡ old j i

abbrev pub SameMarks : Disks → Disks → Type 0
SameMarks old now = now.marks ≡ old.marks

abbrev pub SameBlocks : Disks → Disks → Type 0
SameBlocks old now = now.blocks ≡ old.blocks

abbrev pub SameDisks : Disks → Disks → Type 0
SameDisks old now = now ≡ old

-- What may become of the devices where an act is answered well, ..
abbrev pub GoesWell : Pending → (source : ℕ) → Act → Disks → Disks → Type 0
GoesWell call source (Mark b) old now = SameBlocks old now × AllGain b old.marks now.marks
GoesWell call source (Unmark b) old now = SameBlocks old now × AllLose b old.marks now.marks
GoesWell call source (WriteCall k) old now = Gets k (overlaid call (old.blocks k)) old.blocks now.blocks × SameMarks old now
GoesWell call source (WriteRegion k) old now = Gets k (old.blocks source) old.blocks now.blocks × SameMarks old now
GoesWell call source _ old now = SameDisks old now

-- .. and where it fails or is cut
abbrev pub GoesWrong : Pending → (source : ℕ) → Act → Disks → Disks → Type 0
GoesWrong call source (Mark b) old now = SameBlocks old now × MayGain b old.marks now.marks
GoesWrong call source (Unmark b) old now = SameBlocks old now × MayLose b old.marks now.marks
GoesWrong call source (WriteCall k) old now = MayGet k (overlaid call (old.blocks k)) old.blocks now.blocks × SameMarks old now
GoesWrong call source (WriteRegion k) old now = MayGet k (old.blocks source) old.blocks now.blocks × SameMarks old now
GoesWrong call source _ old now = SameDisks old now

-- the plex whose failure the event names is one that was asked
abbrev pub Asked : Act → ℕ → Type 0
Asked (ReadCall offered) k = has offered k ≡ true
Asked (ReadRegion j) k = k ≡ j
Asked _ k = ⊥

-- the event may answer the act; a cut may come in place of each answer of a device
abbrev pub MayAnswer : Act → Event → Type 0
MayAnswer (Mark b) Marked = Unit {0}
MayAnswer (Mark b) MarkFailed = Unit {0}
MayAnswer (Unmark b) Unmarked = Unit {0}
MayAnswer (Unmark b) UnmarkFailed = Unit {0}
MayAnswer (WriteCall k) Wrote = Unit {0}
MayAnswer (WriteCall k) WriteFailed = Unit {0}
MayAnswer (WriteRegion k) Wrote = Unit {0}
MayAnswer (WriteRegion k) WriteFailed = Unit {0}
MayAnswer (ReadCall offered) Got = Unit {0}
MayAnswer (ReadRegion k) Got = Unit {0}
MayAnswer act (ReadFailed k) = Asked act k
MayAnswer (Mark b) Cut = Unit {0}
MayAnswer (Unmark b) Cut = Unit {0}
MayAnswer (WriteCall k) Cut = Unit {0}
MayAnswer (WriteRegion k) Cut = Unit {0}
MayAnswer (ReadCall offered) Cut = Unit {0}
MayAnswer (ReadRegion k) Cut = Unit {0}
MayAnswer act _ = ⊥

-- what may become of the devices by this answer
abbrev pub Becomes : Event → Pending → (source : ℕ) → Act → Disks → Disks → Type 0
Becomes (Begin job) call source act old now = ⊥
Becomes Marked call source act old now = GoesWell call source act old now
Becomes MarkFailed call source act old now = GoesWrong call source act old now
Becomes Unmarked call source act old now = GoesWell call source act old now
Becomes UnmarkFailed call source act old now = GoesWrong call source act old now
Becomes Wrote call source act old now = GoesWell call source act old now
Becomes WriteFailed call source act old now = GoesWrong call source act old now
Becomes Got call source act old now = GoesWell call source act old now
Becomes (ReadFailed k) call source act old now = GoesWrong call source act old now
Becomes Cut call source act old now = GoesWrong call source act old now

-- the event answers the act, and this becomes of the devices
abbrev pub Answers : Pending → (source : ℕ) → Act → Event → Disks → Disks → Type 0
Answers call source act event old now = MayAnswer act event × Becomes event call source act old now

-- ---- what may happen

-- the calls that a job may have
abbrev pub CallOf : Job → Pending → Type 0
CallOf ReadJob (Reads call) = Unit {0}
CallOf WriteJob (Writes call values) = Unit {0}
CallOf (CopyJob k) NoCall = Unit {0}
CallOf Settle NoCall = Unit {0}
CallOf Clear NoCall = Unit {0}
CallOf _ _ = ⊥

-- the values at the blocks of the call are those of plex k
abbrev pub AreOf : Pending → Contents → Contents → Type 0
AreOf (Reads call) blocks values = (i : ℕ) → IsTrue (is_in call.start call.count i) → values i ≡ blocks i
AreOf NoCall blocks values = ⊥
AreOf (Writes call new) blocks values = ⊥

-- what a read gives: the values of a plex that was offered
abbrev pub ReadGives : Around → Act → Event → Contents → Type 0
ReadGives a (ReadCall offered) Got values = (k : ℕ) × (has offered k ≡ true) × AreOf a.pending (a.disks.blocks k) values
ReadGives a _ _ values = Unit {0}

-- The event fits: it answers the last act, or it begins a job where none is under way, or it cuts. `now` is what becomes
-- of the devices, `call` the call that begins, and `values` what a read gives.
abbrev pub FitsIn : Stage → Phase → Around → Event → Disks → Pending → Contents → Type 0
FitsIn s (Busy w) a event now call values =
    Answers a.pending w.source (act_at s w w.step) event a.disks now × ReadGives a (act_at s w w.step) event values
FitsIn s Dead a (Begin job) now call values = SameDisks a.disks now × (call ≡ NoCall)
FitsIn s Settled a (Begin job) now call values = SameDisks a.disks now × CallOf job call × MayBegin a.fixed.region a.last a.entries call
FitsIn s Unsettled a (Begin job) now call values = SameDisks a.disks now × CallOf job call × MayBegin a.fixed.region a.last a.entries call
FitsIn s _ a Cut now call values = SameDisks a.disks now
FitsIn s _ a _ now call values = ⊥

-- the call that is pending once the event has come, and the number that was drawn last
abbrev pub pending_at : Pending → Event → Pending → Pending
pending_at before (Begin job) call = call
pending_at before _ call = before

abbrev pub last_at : ℕ → Event → Pending → ℕ
last_at last (Begin job) call = number_after call last
last_at last _ call = last

-- how an act ends the pending call
abbrev pub entries_after : Act → Pending → Contents → List Entry → List Entry
entries_after Done (Reads call) values entries = entry_of ReadKind call values ∷ entries
entries_after Done (Writes call new) values entries = entry_of WriteKind call new ∷ entries
entries_after Fault call values entries = with_pending call entries
entries_after Lost call values entries = with_pending call entries
entries_after _ _ values entries = entries

abbrev pub pending_after : Act → Pending → Pending
pending_after Done call = NoCall
pending_after Skipped call = NoCall
pending_after Fault call = NoCall
pending_after Lost call = NoCall
pending_after _ call = call

-- what stands round the stage after an event that was followed by this act
abbrev pub around_after : Around → Act → Event → Disks → Pending → Contents → Around
around_after a act event now call values =
    record {
      disks = now;
      fixed = a.fixed;
      entries = entries_after act (pending_at a.pending event call) values a.entries;
      pending = pending_after act (pending_at a.pending event call);
      last = last_at a.last event call;
    }
