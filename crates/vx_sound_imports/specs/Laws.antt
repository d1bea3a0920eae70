-- Laws of soundness from what devices hold at first to what they hold at last.
use Rattle.std.specs.Prelude.{ℕ, ◌+◌, List}
use Rattle.vx_script.specs.declared.command.Command.{Command}
use Rattle.vx_answers.specs.declared.answer.Answer.{Answer}
use Rattle.vx_moments.specs.Leaving.{PowerGoes}
use Rattle.vx_moments.specs.Moment.{Moment}
use Rattle.vx_moments.specs.World.{World}
use Rattle.vx_moments.specs.Lives.{GroupStands}
use Rattle.vx_plans.specs.Steps.{IsTranscript, LeavesOff, Step}
use Rattle.vx_sound.specs.Laws.{FormWritesNoHeader, IsIdle, WriteNoHeader}
use Rattle.vx_sound.specs.Sound.{AreSound}
use Rattle.vx_sound_volumes.specs.Volumes.{BringsSound}
use Rattle.vx_sound_imports.specs.Offered.{AreAllSound, HaveSoundOffers}

-- Where all is sound, an import brings sound volumes.
abbrev pub EachImportBringsSound : Type 0
EachImportBringsSound = (place : ℕ) (c : Command) (old : Moment) (answer : Answer) (new : Moment) → AreAllSound place old.world → Step place c old answer new → BringsSound c.form old.world new.world

-- Each command keeps all sound, however it ends.
abbrev pub EachStepKeepsAllSound : Type 0
EachStepKeepsAllSound =
    (place : ℕ) (c : Command) (old : Moment) (answer : Answer) (new : Moment)
    → FormWritesNoHeader c.form → AreAllSound place old.world → Step place c old answer new → AreAllSound (place + 1) new.world

-- So does what want of memory leaves of a command.
abbrev pub EachWantKeepsAllSound : Type 0
EachWantKeepsAllSound = (place : ℕ) (c : Command) (old new : Moment) → AreAllSound place old.world → LeavesOff c old new → AreAllSound place new.world

-- devices alone: their copies of configurations are sound, and so are the volumes of each group
pub record AreDevicesSound (w : World) : Type 0 where
  pub copies : AreSound w
  pub offers : HaveSoundOffers w

-- A run that finds sound devices leaves sound devices as the power goes, if the bytes of the imported group then stand for its volumes.
abbrev pub EachRunKeepsDevicesSound : Type 0
EachRunKeepsDevicesSound =
    (place : ℕ) (old : Moment) (commands : List Command) (answers : List Answer) (last : Moment) (left : World)
    → WriteNoHeader commands → IsIdle old.world → AreDevicesSound old.world → IsTranscript place old commands answers last
    → GroupStands last.world → PowerGoes last.world left → AreDevicesSound left

-- So does one that is left off in its last command, as memory is wanting.
abbrev pub EachRunLeftOffKeepsDevicesSound : Type 0
EachRunLeftOffKeepsDevicesSound =
    (place : ℕ) (old : Moment) (commands : List Command) (answers : List Answer) (last : Moment) (c : Command) (off : Moment) (left : World)
    → WriteNoHeader commands → IsIdle old.world → AreDevicesSound old.world → IsTranscript place old commands answers last → LeavesOff c last off
    → GroupStands off.world → PowerGoes off.world left → AreDevicesSound left
