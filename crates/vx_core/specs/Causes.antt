-- Which devices have failed since a call began, and that a call answers Fault for no other cause.
use Rattle.std.specs.Prelude.{◌≡◌, ℕ, Bool, true, ◌⊎◌}
use Rattle.vx_core.specs.declared.stage.Job.{Job}
use Rattle.vx_core.specs.declared.stage.Event.{Event}
use Rattle.vx_core.specs.declared.stage.Act.{Act}
use Rattle.vx_core.specs.declared.stage.Step.{Step}
use Rattle.vx_core.specs.declared.stage.Work.{Work}
use Rattle.vx_core.specs.declared.stage.Phase.{Phase}
use Rattle.vx_core.specs.declared.stage.Stage.{Stage}
use Rattle.vx_core.specs.declared.stage.Job.TheVariants.{Read as ReadJob, Write as WriteJob, Copy as CopyJob, Settle, Clear}
use Rattle.vx_core.specs.declared.stage.Event.TheVariants.{Begin, MarkFailed, WriteFailed, ReadFailed}
use Rattle.vx_core.specs.declared.stage.Act.TheVariants.{Mark, WriteCall, WriteRegion, Fault}
use Rattle.vx_core.specs.declared.stage.Step.TheVariants.{Write as AtWrite, MarkFailed as AtMarkFailed, Find as AtFind, Equal as AtEqual, Read as AtRead}
use Rattle.vx_core.specs.declared.stage.Phase.TheVariants.{Settled, Unsettled, Dead, Busy}
use Rattle.vx_mask.specs.Mask.{has}
use Rattle.vx_core.specs.Table.{current, act_at}
use Rattle.vx_core.specs.Region.{MayAnswer}
use Rattle.vx_core.specs.Form.{IsFormed}

-- whether a count of plex k, or one of the log, rose since the call began
pub record Faults : Type 0 where
  pub plex : ℕ → Bool
  pub log : Bool

-- the failure that the event tells
abbrev pub Tells : Act → Event → Faults → Type 0
Tells (WriteCall k) WriteFailed f = f.plex k ≡ true
Tells (WriteRegion k) WriteFailed f = f.plex k ≡ true
Tells (Mark b) MarkFailed f = f.log ≡ true
Tells act (ReadFailed k) f = f.plex k ≡ true
Tells act _ f = Unit {0}

-- what had failed has failed, and so has what the event tells
pub record HasFailed (act : Act) (event : Event) (old now : Faults) : Type 0 where
  pub plex : (k : ℕ) → old.plex k ≡ true → now.plex k ≡ true
  pub log : old.log ≡ true → now.log ≡ true
  pub told : Tells act event now

-- the log failed, or each plex that was current as the call began
abbrev pub HasCause : ℕ → Faults → Type 0
HasCause began f = (f.log ≡ true) ⊎ ((k : ℕ) → has began k ≡ true → f.plex k ≡ true)

abbrev pub FaultHasCause : Act → ℕ → Faults → Type 0
FaultHasCause Fault began f = HasCause began f
FaultHasCause _ began f = Unit {0}

-- what a step knows of the failures
abbrev pub AtFaults : Stage → Work → Step → Faults → Type 0
AtFaults s w AtFind f = (k : ℕ) → has (current s) k ≡ true → (has w.left k ≡ true) ⊎ ((k ≡ w.source) ⊎ (f.plex k ≡ true))
AtFaults s w AtEqual f = (k : ℕ) → has w.failed k ≡ true → f.plex k ≡ true
AtFaults s w AtMarkFailed f = (k : ℕ) → has w.failed k ≡ true → f.plex k ≡ true
AtFaults s w AtWrite f = (k : ℕ) → has w.failed k ≡ true → f.plex k ≡ true
AtFaults s w AtRead f = (k : ℕ) → has (current s) k ≡ true → (has w.left k ≡ true) ⊎ (f.plex k ≡ true)
AtFaults s w _ f = Unit {0}

-- each plex that was current as the call began is so still, or has failed
abbrev pub StillOrFailed : Stage → ℕ → Faults → Type 0
StillOrFailed s began f = (k : ℕ) → has began k ≡ true → (has (current s) k ≡ true) ⊎ (f.plex k ≡ true)

-- a read, a write or a settling
abbrev pub IsPlain : Job → Type 0
IsPlain ReadJob = Unit {0}
IsPlain WriteJob = Unit {0}
IsPlain Settle = Unit {0}
IsPlain (CopyJob k) = ⊥
IsPlain Clear = ⊥

abbrev pub KnowsFaults : Stage → Phase → ℕ → Faults → Type 0
KnowsFaults s (Busy w) began f = IsPlain w.job × StillOrFailed s began f × AtFaults s w w.step f
KnowsFaults s Settled began f = Unit {0}
KnowsFaults s Unsettled began f = Unit {0}
KnowsFaults s Dead began f = Unit {0}

abbrev pub Blames : Stage × Act → ℕ → Faults → Type 0
Blames x began f = KnowsFaults x.0 x.0.phase began f × FaultHasCause x.1 began f

-- whatever failed before: what is known of the failures stays known, and an answer Fault has its cause
abbrev pub CausesFrom : Stage → Phase → Event → Stage × Act → Type 0
CausesFrom s (Busy w) event x =
    (held : ℕ → Bool) (began : ℕ) (f g : Faults) →
    IsFormed s (Busy w) held →
    MayAnswer (act_at s w w.step) event →
    KnowsFaults s (Busy w) began f →
    HasFailed (act_at s w w.step) event f g →
    Blames x began g
CausesFrom s Settled (Begin job) x = (f : Faults) → IsPlain job → Blames x (current s) f
CausesFrom s Unsettled (Begin job) x = (f : Faults) → IsPlain job → Blames x (current s) f
CausesFrom s _ _ x = Unit {0}
