-- What each event keeps: soundness, and what a job under way knows beside.
use Rattle.std.specs.Prelude.{◌≡◌, ◌≢◌, ℕ, true, false, ◌⊎◌}
use Rattle.vx_core.specs.declared.stage.Event.{Event}
use Rattle.vx_core.specs.declared.stage.Act.{Act}
use Rattle.vx_core.specs.declared.stage.Step.{Step}
use Rattle.vx_core.specs.declared.stage.Work.{Work}
use Rattle.vx_core.specs.declared.stage.Phase.{Phase}
use Rattle.vx_core.specs.declared.stage.Stage.{Stage}
use Rattle.vx_core.specs.declared.stage.Step.TheVariants.{Write as AtWrite, MarkFailed as AtMarkFailed, Equal as AtEqual}
use Rattle.vx_core.specs.declared.stage.Phase.TheVariants.{Busy}
use Rattle.vx_base.specs.Blocks.{Contents}
use Rattle.vx_mask.specs.Mask.{has}
use Rattle.vx_core.specs.Table.{current}
use Rattle.vx_core.specs.History.{Pending, NoCall, overlaid, IsRecord}
use Rattle.vx_core.specs.Region.{Around, Disks, CallOf, FitsIn, around_after, told}
use Rattle.vx_core.specs.Soundness.{IsSound}
use Rattle.vx_core.specs.Form.{IsFormed}

-- a write has reached the good plexes, not yet those that are left, and perhaps a part of those that have failed
pub record HasReached (left good failed : ℕ) (call : Pending) (blocks : ℕ → Contents) : Type 0 where
  pub old : Contents
  pub before : (k i : ℕ) → has left k ≡ true → blocks k i ≡ old i
  pub after : (k i : ℕ) → has good k ≡ true → blocks k i ≡ overlaid call old i
  pub torn : (k i : ℕ) → has failed k ≡ true → (blocks k i ≡ old i) ⊎ (blocks k i ≡ overlaid call old i)

-- each current plex that is not left and has not failed holds what the source holds
abbrev pub AreLevel : (all source left failed : ℕ) (blocks : ℕ → Contents) → Type 0
AreLevel all source left failed blocks =
    (k i : ℕ) → has all k ≡ true → has left k ≡ false → has failed k ≡ false → blocks k i ≡ blocks source i

-- what a step knows of the blocks
abbrev pub ContentsAt : (all : ℕ) → Work → Step → Pending → (ℕ → Contents) → Type 0
ContentsAt all w AtWrite call blocks = HasReached w.left w.good w.failed call blocks
ContentsAt all w AtMarkFailed call blocks =
    (w.good ≡ 0 → AreLevel all w.source 0 w.failed blocks) × (w.good ≢ 0 → HasReached 0 w.good w.failed call blocks)
ContentsAt all w AtEqual call blocks = AreLevel all w.source w.left w.failed blocks
ContentsAt all w _ call blocks = Unit {0}

abbrev pub ContentsIn : Stage → Phase → Pending → (ℕ → Contents) → Type 0
ContentsIn s (Busy w) call blocks = ContentsAt (current s) w w.step call blocks
ContentsIn s _ call blocks = Unit {0}

-- no call is pending outside a job, and a job's call is of its kind
abbrev pub CallIn : Phase → Pending → Type 0
CallIn (Busy w) call = CallOf w.job call
CallIn _ call = call ≡ NoCall

pub record IsKept (s : Stage) (phase : Phase) (a : Around) : Type 0 where
  pub form : IsFormed s phase a.fixed.held
  -- a mark is not loose while it is claimed to be on every copy
  pub apart : (k : ℕ) → a.disks.marks.loose k ≡ true → has s.bits k ≡ false
  pub sound : IsSound s phase a
  pub call : CallIn phase a.pending
  pub contents : ContentsIn s phase a.pending a.disks.blocks
  -- the entries, with that of the pending call, are a legal history in order
  pub history : IsRecord a.fixed.region a.fixed.from a.fixed.first (told a) a.last

-- whatever stands round the stage, and whatever becomes of the devices: what was kept is kept
abbrev pub Keeps : Stage → Event → Stage × Act → Type 0
Keeps s event result =
    (a : Around) (now : Disks) (call : Pending) (values : Contents) →
    IsKept s s.phase a →
    FitsIn s s.phase a event now call values →
    IsKept result.0 result.0.phase (around_after a result.1 event now call values)
