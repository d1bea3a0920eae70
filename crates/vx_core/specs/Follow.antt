-- How a job goes on: it stays the job that it is, writes a region only once that region was read, and ends as its kind may end.
use Rattle.std.specs.Prelude.{◌≡◌, ◌≢◌, ℕ, ◌<◌, ◌^◌, Bool, true, false, ◌⊎◌}
use Rattle.vx_core.specs.declared.stage.Job.{Job}
use Rattle.vx_core.specs.declared.stage.Event.{Event}
use Rattle.vx_core.specs.declared.stage.Act.{Act}
use Rattle.vx_core.specs.declared.stage.Step.{Step}
use Rattle.vx_core.specs.declared.stage.Phase.{Phase}
use Rattle.vx_core.specs.declared.stage.Stage.{Stage}
use Rattle.vx_core.specs.declared.stage.Job.TheVariants.{Read as ReadJob, Write as WriteJob, Copy as CopyJob, Clear}
use Rattle.vx_core.specs.declared.stage.Event.TheVariants.{Begin, MarkFailed, UnmarkFailed, WriteFailed, Got, ReadFailed, Cut}
use Rattle.vx_core.specs.declared.stage.Act.TheVariants.{Mark, Unmark, WriteCall, WriteRegion, ReadCall, ReadRegion, Done, Skipped, Fault, Lost}
use Rattle.vx_core.specs.declared.stage.Step.TheVariants.{Mark as AtMark, Find as AtFind, Equal as AtEqual, Copy as AtCopy, Read as AtRead}
use Rattle.vx_core.specs.declared.stage.Phase.TheVariants.{Settled, Unsettled, Dead, Busy}
use Rattle.vx_mask.specs.Mask.{has}
use Rattle.vx_core.specs.Table.{current, act_at}
use Rattle.vx_core.specs.Region.{MayAnswer}
use Rattle.vx_core.specs.Soundness.{IsData}
use Rattle.vx_core.specs.Form.{IsFormed, MayCome}

-- ---- what a job under way may ask for

-- the maps of a region: that of the dirty bit, those of its plexes and those of its relations
abbrev pub IsMapOf : Stage → ℕ → Type 0
IsMapOf s k = (k ≡ 30) ⊎ ((has s.snaps k ≡ true) ⊎ IsData s k)

abbrev pub AreMapsOf : Stage → ℕ → Type 0
AreMapsOf s mask = (k : ℕ) → has mask k ≡ true → IsMapOf s k

-- The act can be carried out: marks are of maps of the region and need a log, and plexes that are written or read are held.
abbrev pub IsPossible : Stage → (ℕ → Bool) → Job → ℕ → Act → Type 0
IsPossible s held job source (Mark b) = (s.logged ≡ true) × (b ≢ 0) × AreMapsOf s b
IsPossible s held job source (Unmark b) = (s.logged ≡ true) × (b ≢ 0) × AreMapsOf s b
IsPossible s held job source (WriteCall k) = (held k ≡ true) × (job ≡ WriteJob)
IsPossible s held job source (WriteRegion k) = (held k ≡ true) × (k ≢ source)
IsPossible s held job source (ReadCall offered) = (job ≡ ReadJob) × (offered ≢ 0) × (offered < 2 ^ 64) × ((k : ℕ) → has offered k ≡ true → has (current s) k ≡ true)
IsPossible s held job source (ReadRegion k) = (held k ≡ true) × (k ≡ source)
IsPossible s held job source Done = ⊥
IsPossible s held job source Skipped = ⊥
IsPossible s held job source Fault = ⊥
IsPossible s held job source Lost = ⊥

abbrev pub PossibleIn : Stage → (ℕ → Bool) → Phase → Act → Type 0
PossibleIn s held (Busy w) act = IsPossible s held w.job w.source act
PossibleIn s held Settled act = Unit {0}
PossibleIn s held Unsettled act = Unit {0}
PossibleIn s held Dead act = Unit {0}

-- what a job asks for after the event can be done
abbrev pub AsksPossible : Stage → Event → Stage × Act → Type 0
AsksPossible s event x = (held : ℕ → Bool) → IsFormed s s.phase held → MayCome s s.phase event → PossibleIn x.0 held x.0.phase x.1

-- ---- how it goes on

-- the step writes a region that was read before
abbrev pub Rewrites : Step → Type 0
Rewrites AtEqual = Unit {0}
Rewrites AtCopy = Unit {0}
Rewrites _ = ⊥

-- once this event has answered the step, the region of the source was read
abbrev pub HasRead : Job → Step → Event → Type 0
HasRead job AtFind Got = Unit {0}
HasRead (CopyJob k) AtRead Got = Unit {0}
HasRead job AtEqual event = Unit {0}
HasRead job AtCopy event = Unit {0}
HasRead _ _ _ = ⊥

-- the step is one of a settling, before its failures are marked
abbrev pub settles : Step → Bool
settles AtFind = true
settles AtEqual = true
settles _ = false

-- the job and source before, and those after
pub record IsFollowing (job : Job) (was : Step) (event : Event) (source : ℕ) (job' : Job) (step' : Step) (source' : ℕ) : Type 0 where
  pub same_job : job' ≡ job
  pub same_source : Rewrites step' → HasRead job was event × (source' ≡ source)
  pub stays_quiet : settles was ≡ false → settles step' ≡ false

-- how a job may end
abbrev pub EndsSettled : Job → Act → Type 0
EndsSettled job Done = Unit {0}
EndsSettled job Fault = Unit {0}
EndsSettled (CopyJob k) Skipped = Unit {0}
EndsSettled Clear Skipped = Unit {0}
EndsSettled _ _ = ⊥

abbrev pub FollowsIn : Job → Step → Event → ℕ → Act → Phase → Type 0
FollowsIn job was event source act (Busy w) = IsFollowing job was event source w.job w.step w.source
FollowsIn job was event source act Settled = EndsSettled job act
FollowsIn job was event source act Unsettled = act ≡ Fault
FollowsIn job was event source act Dead = (act ≡ Lost) × (event ≡ Cut)

-- the same plexes and maps
abbrev pub SameMasks : Stage → Stage → Type 0
SameMasks old new = (new.on ≡ old.on) × (new.off ≡ old.off) × (new.snaps ≡ old.snaps) × (new.logged ≡ old.logged)

abbrev pub Follows : Stage → Job → Step → Event → ℕ → Stage × Act → Type 0
Follows s job was event source x = FollowsIn job was event source x.1 x.0.phase × SameMasks s x.0

-- a job begins, or its last act was answered
abbrev pub FollowsFrom : Stage → Phase → Event → Stage × Act → Type 0
FollowsFrom s (Busy w) event x = (held : ℕ → Bool) → IsFormed s (Busy w) held → MayAnswer (act_at s w w.step) event → Follows s w.job w.step event w.source x
FollowsFrom s Settled (Begin job) x = Follows s job AtMark (Begin job) 0 x
FollowsFrom s Unsettled (Begin job) x = Follows s job AtFind (Begin job) 0 x
FollowsFrom s Dead (Begin job) x = (x.0 ≡ s) × (x.1 ≡ Lost)
FollowsFrom s _ _ x = Unit {0}

-- ---- when a job fails

-- the event tells that a device failed
abbrev pub IsFailure : Event → Type 0
IsFailure MarkFailed = Unit {0}
IsFailure UnmarkFailed = Unit {0}
IsFailure WriteFailed = Unit {0}
IsFailure (ReadFailed k) = Unit {0}
IsFailure _ = ⊥

-- a job answers Fault only as a device fails
abbrev pub FailsFrom : Stage → Event → Stage × Act → Type 0
FailsFrom s event x = (held : ℕ → Bool) → IsFormed s s.phase held → MayCome s s.phase event → x.1 ≡ Fault → IsFailure event

-- ---- when a read is done

-- a read is done once it has got its blocks from a plex that was offered, and the marks stay
pub record IsReadDone (was : Step) (event : Event) (old new : ℕ) : Type 0 where
  pub step : was ≡ AtRead
  pub answered : event ≡ Got
  pub bits : new ≡ old

abbrev pub ReadsFrom : Stage → Phase → Event → Stage × Act → Type 0
ReadsFrom s (Busy w) event x =
    (held : ℕ → Bool) → IsFormed s (Busy w) held → MayAnswer (act_at s w w.step) event → w.job ≡ ReadJob → x.1 ≡ Done → IsReadDone w.step event s.bits x.0.bits
ReadsFrom s Settled (Begin ReadJob) x = x.1 ≡ Done → ⊥
ReadsFrom s Unsettled (Begin ReadJob) x = x.1 ≡ Done → ⊥
ReadsFrom s _ _ x = Unit {0}
