-- Laws of soundness of volumes.
use Rattle.std.specs.Prelude.{◌≡◌, ℕ, ◌+◌, Some, None, List, [], ◌∷◌}
use Rattle.vx_base.specs.Named.{Word}
use Rattle.vx_script.specs.declared.command.Command.{Command}
use Rattle.vx_answers.specs.declared.answer.Answer.{Answer}
use Rattle.vx_moments.specs.Leaving.{PowerGoes}
use Rattle.vx_moments.specs.Moment.{Moment}
use Rattle.vx_moments.specs.World.{Group, World}
use Rattle.vx_moments.specs.Lives.{GroupStands}
use Rattle.vx_plans.specs.Steps.{IsTranscript, LeavesOff, Step}
use Rattle.vx_sound_volumes.specs.Volumes.{AreSoundOn, BringsSound, GroupLeaves, HadGroup, HasSoundVolumes, IsSoundBefore}

-- Each command keeps volumes sound, however it ends, if the group that it imports has sound ones.
abbrev pub EachStepKeepsVolumesSound : Type 0
EachStepKeepsVolumesSound =
    (place : ℕ) (c : Command) (old : Moment) (answer : Answer) (new : Moment)
    → IsSoundBefore place old.world → BringsSound c.form old.world new.world → Step place c old answer new → IsSoundBefore (place + 1) new.world

-- So does what want of memory leaves of a command.
abbrev pub EachWantKeepsVolumesSound : Type 0
EachWantKeepsVolumesSound = (place : ℕ) (c : Command) (old new : Moment) → IsSoundBefore place old.world → LeavesOff c old new → IsSoundBefore place new.world

-- As the group leaves, each of its volumes that was started before is sound by what the devices then hold.
abbrev pub EachLeavingLeavesVolumesSound : Type 0
EachLeavingLeavesVolumesSound = (place : ℕ) (w left : World) (g : Group) → IsSoundBefore place w → w.group ≡ Some g → GroupLeaves w left → AreSoundOn left.devices g

-- So it is by what a command leaves, by which the group has left: it let the group go, or was over as that was lost, or the power.
abbrev pub EachStepLeavesVolumesSound : Type 0
EachStepLeavesVolumesSound =
    (place : ℕ) (c : Command) (old : Moment) (answer : Answer) (new : Moment) (step : Step place c old answer new) (g : Group)
    → IsSoundBefore place old.world → HadGroup c.form old.world step.over.world g → new.world.group ≡ None → AreSoundOn new.world.devices g

-- ---- runs

-- no group is imported, and no volume is started
pub record IsIdle (w : World) : Type 0 where
  pub group : w.group ≡ None
  pub volumes : (vol : Word) → w.volumes vol ≡ None

-- each import of the run brings sound volumes
abbrev pub EachBringsSound : (place : ℕ) (old : Moment) (commands : List Command) (answers : List Answer) (last : Moment) → IsTranscript place old commands answers last → Type 0
EachBringsSound place old [] answers last is = Unit {0}
EachBringsSound place old (c ∷ cs) [] last is = Unit {0}
EachBringsSound place old (c ∷ cs) (a ∷ rest) last (mid, step, more) = BringsSound c.form old.world mid.world × EachBringsSound (place + 1) mid cs rest last more

-- A run of which each import brings sound volumes has sound volumes at its last moment, ..
abbrev pub EachRunKeepsVolumesSound : Type 0
EachRunKeepsVolumesSound =
    (place : ℕ) (old : Moment) (commands : List Command) (answers : List Answer) (last : Moment) (is : IsTranscript place old commands answers last)
    → IsIdle old.world → EachBringsSound place old commands answers last is → HasSoundVolumes last.world

-- .. and as the power goes at its end, the volumes of the imported group are sound by what is left, if its bytes stand for those that run, ..
abbrev pub EachRunLeavesVolumesSound : Type 0
EachRunLeavesVolumesSound =
    (place : ℕ) (old : Moment) (commands : List Command) (answers : List Answer) (last : Moment) (is : IsTranscript place old commands answers last) (g : Group) (left : World)
    → IsIdle old.world → EachBringsSound place old commands answers last is → last.world.group ≡ Some g → GroupStands last.world → PowerGoes last.world left → AreSoundOn left.devices g

-- .. also where it is left off in a command, as memory is wanting.
abbrev pub EachRunLeftOffLeavesVolumesSound : Type 0
EachRunLeftOffLeavesVolumesSound =
    (place : ℕ) (old : Moment) (commands : List Command) (answers : List Answer) (last : Moment) (is : IsTranscript place old commands answers last) (c : Command) (off : Moment) (g : Group) (left : World)
    → IsIdle old.world → EachBringsSound place old commands answers last is → LeavesOff c last off → off.world.group ≡ Some g → GroupStands off.world → PowerGoes off.world left → AreSoundOn left.devices g
