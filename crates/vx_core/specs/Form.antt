-- What a stage keeps whatever its plexes hold: its masks, and what each step of a job knows of them.
use Rattle.std.specs.Prelude.{◌≡◌, ◌≢◌, ℕ, ◌<◌, ◌^◌, ◌&&◌, ◌||◌, Bool, true, false, ◌⊎◌}
use Rattle.vx_core.specs.declared.stage.Job.{Job}
use Rattle.vx_core.specs.declared.stage.Event.{Event}
use Rattle.vx_core.specs.declared.stage.Step.{Step}
use Rattle.vx_core.specs.declared.stage.Work.{Work}
use Rattle.vx_core.specs.declared.stage.Phase.{Phase}
use Rattle.vx_core.specs.declared.stage.Stage.{Stage}
use Rattle.vx_core.specs.declared.stage.Job.TheVariants.{Read as ReadJob, Write as WriteJob, Copy as CopyJob, Clear}
use Rattle.vx_core.specs.declared.stage.Event.TheVariants.{Begin, Cut}
use Rattle.vx_core.specs.declared.stage.Step.TheVariants.{Mark as AtMark, Write as AtWrite, MarkFailed as AtMarkFailed, Find as AtFind, Equal as AtEqual, Copy as AtCopy, Unmark as AtUnmark, Read as AtRead}
use Rattle.vx_core.specs.declared.stage.Phase.TheVariants.{Settled, Unsettled, Dead, Busy}
use Rattle.vx_mask.specs.Mask.{has}
use Rattle.vx_core.specs.Table.{current, need, act_at}
use Rattle.vx_core.specs.Region.{MayAnswer}
use Rattle.vx_core.specs.Soundness.{freeing, IsDataIn, IsMarkedForWrite, MarkedIn}

-- the masks of a region: the plexes that are on are held, a plex that is held is on or off, and a map is one thing
pub record AreMasks (on off snaps bits : ℕ) (logged : Bool) (held : ℕ → Bool) : Type 0 where
  pub on_fits : on < 2 ^ 64
  pub off_fits : off < 2 ^ 64
  pub snaps_fit : snaps < 2 ^ 64
  pub bits_fit : bits < 2 ^ 64
  pub off_apart : (k : ℕ) → has on k ≡ true → has off k ≡ false
  pub snaps_apart : (k : ℕ) → has on k ≡ true → has snaps k ≡ false
  pub off_snaps : (k : ℕ) → has off k ≡ true → has snaps k ≡ false
  pub dirty_apart : (has on 30 ≡ false) × (has off 30 ≡ false) × (has snaps 30 ≡ false)
  pub held_on : (k : ℕ) → has on k ≡ true → held k ≡ true
  pub plexes : (k : ℕ) → held k ≡ true → IsDataIn on off k
  -- without a log there is one plex, and nothing is marked
  pub alone : logged ≡ false → (j k : ℕ) → has on j ≡ true → has on k ≡ true → j ≡ k
  pub unlogged : logged ≡ false → (k : ℕ) → (has off k ≡ false) × (has snaps k ≡ false) × (has bits k ≡ false)

abbrev pub IsStage : Stage → (ℕ → Bool) → Type 0
IsStage s held = AreMasks s.on s.off s.snaps s.bits s.logged held

-- of the current plexes some are left, some are good and some have failed, and each is one of these
pub record IsParted (all left good failed : ℕ) : Type 0 where
  pub each : (k : ℕ) → has all k ≡ (has left k || (has good k || has failed k))
  pub left_good : (k : ℕ) → (has left k && has good k) ≡ false
  pub left_failed : (k : ℕ) → (has left k && has failed k) ≡ false
  pub good_failed : (k : ℕ) → (has good k && has failed k) ≡ false

-- a settling has read its source; of the other current plexes some are left, and some have failed
pub record IsLevel (all source left failed : ℕ) : Type 0 where
  pub source_current : has all source ≡ true
  pub source_kept : (has left source ≡ false) × (has failed source ≡ false)
  pub left_current : (k : ℕ) → has left k ≡ true → has all k ≡ true
  pub failed_current : (k : ℕ) → has failed k ≡ true → has all k ≡ true

-- a region is read: one current plex is asked, and those left are current
pub record IsFinding (all source left : ℕ) : Type 0 where
  pub source_current : has all source ≡ true
  pub left_current : (k : ℕ) → has left k ≡ true → has all k ≡ true

-- what a step knows of its masks, by its job; a job is at no other step
abbrev pub FormAt : Stage → Work → Step → Job → Type 0
FormAt s w AtMark WriteJob = need s ≢ 0
FormAt s w AtWrite WriteJob = IsParted (current s) w.left w.good w.failed × (w.left ≢ 0)
-- the failed plexes of a settling, which has written to none before the job, or of a write
FormAt s w AtMarkFailed job =
    (IsLevel (current s) w.source 0 w.failed × (w.good ≡ 0) × (w.failed ≢ 0))
    ⊎ (IsParted (current s) 0 w.good w.failed × IsMarkedForWrite s × (w.good ≢ 0) × (w.failed ≢ 0) × (job ≡ WriteJob))
FormAt s w AtFind job = IsFinding (current s) w.source w.left × (w.good ≡ 0) × (w.failed ≡ 0)
FormAt s w AtEqual job = IsLevel (current s) w.source w.left w.failed × (w.good ≡ 0) × (w.left ≢ 0)
FormAt s w AtRead ReadJob = ((k : ℕ) → has w.left k ≡ true → has (current s) k ≡ true) × (w.left ≢ 0)
FormAt s w AtRead (CopyJob k) = IsFinding (current s) w.source w.left × (has s.on k ≡ true) × (has s.bits k ≡ true)
FormAt s w AtCopy (CopyJob k) = (has (current s) w.source ≡ true) × (has s.on k ≡ true) × (has s.bits k ≡ true)
FormAt s w AtUnmark (CopyJob k) = (has s.on k ≡ true) × (has s.bits k ≡ false) × (s.logged ≡ true)
FormAt s w AtUnmark Clear = (has s.bits 30 ≡ false) × (s.logged ≡ true)
FormAt s w _ _ = ⊥

abbrev pub FormIn : Stage → Phase → Type 0
FormIn s (Busy w) = (w.left < 2 ^ 64) × (w.good < 2 ^ 64) × (w.failed < 2 ^ 64) × FormAt s w w.step w.job
FormIn s _ = Unit {0}

-- A stage is well formed, with these plexes held.
pub record IsFormed (s : Stage) (phase : Phase) (held : ℕ → Bool) : Type 0 where
  pub stage : IsStage s held
  -- some plex that is on is unmarked, also while a mark is taken away
  pub readable : (k : ℕ) × (has s.on k ≡ true) × (has s.bits k ≡ false) × (freeing phase k ≡ false)
  pub step : FormIn s phase
  pub marked : MarkedIn s phase

-- the event may come in this phase
abbrev pub MayCome : Stage → Phase → Event → Type 0
MayCome s (Busy w) event = MayAnswer (act_at s w w.step) event
MayCome s Settled (Begin job) = Unit {0}
MayCome s Unsettled (Begin job) = Unit {0}
MayCome s Settled Cut = Unit {0}
MayCome s Unsettled Cut = Unit {0}
MayCome s Dead Cut = Unit {0}
MayCome s _ _ = ⊥
