-- Laws of soundness.
use Rattle.std.specs.Prelude.{◌≡◌, ℕ, List, None}
use Rattle.vx_base.specs.Blocks.{block_at}
use Rattle.vx_base.specs.Named.{Word}
use Rattle.vx_header.specs.Named.{header_of}
use Rattle.vx_copies.specs.Image.{Offer}
use Rattle.vx_copies.specs.Lists.{AllOf}
use Rattle.vx_objects.specs.declared.config.Config.{Config}
use Rattle.vx_script_forms.specs.declared.call.Call.{Call}
use Rattle.vx_script_forms.specs.declared.call.Call.TheVariants as calls
use Rattle.vx_script_forms.specs.declared.form.Form.{Form}
use Rattle.vx_script_forms.specs.declared.form.Form.TheVariants as forms
use Rattle.vx_script.specs.declared.command.Command.{Command}
use Rattle.vx_answers.specs.declared.answer.Answer.{Answer}
use Rattle.vx_moments.specs.World.{World}
use Rattle.vx_moments.specs.Moment.{Moment, Counts}
use Rattle.vx_moments.specs.Leaving.{PowerGoes}
use Rattle.vx_stages.specs.Finding.{Found, Finds}
use Rattle.vx_plans.specs.Steps.{Step, IsTranscript, LeavesOff}
use Rattle.vx_sound.specs.Sound.{IsNewest, IsChained, AreSound}
use Rattle.vx_sound.specs.Standing.{IsStanding}

-- the call puts no header at the front of a volume; equal bytes are none
abbrev pub CallWritesNoHeader : Call → Type 0
CallWritesNoHeader (calls.Read vol start count) = Unit {0}
CallWritesNoHeader (calls.Fill vol start count byte) = Unit {0}
CallWritesNoHeader (calls.Data vol start blocks) = start ≡ 0 → header_of (block_at blocks 0) ≡ None

abbrev pub FormWritesNoHeader : Form → Type 0
FormWritesNoHeader (forms.Calling call) = CallWritesNoHeader call
FormWritesNoHeader other = Unit {0}

-- none of the commands does
abbrev pub WriteNoHeader : List Command → Type 0
WriteNoHeader commands = AllOf (λ c. FormWritesNoHeader c.form) commands

-- where the copies of a group are chained, what an import takes is the newest of all its devices, also of those that cannot be read
abbrev pub EachImportTakesTheNewest : Type 0
EachImportTakesTheNewest =
    (dg : Word) (w : World) (old new : Counts) (found : Found dg w old new) (o : Offer) (config : Config)
    → w.group ≡ None → IsChained dg w
    → Finds dg w found.unread found.counted (λ r. ⊥) (λ p c. (p ≡ o) × (c ≡ config))
    → IsNewest dg w o

-- each command keeps the world sound, however it ends
abbrev pub EachStepKeepsTheWorldSound : Type 0
EachStepKeepsTheWorldSound =
    (place : ℕ) (c : Command) (old : Moment) (answer : Answer) (new : Moment)
    → FormWritesNoHeader c.form → IsStanding old.world → Step place c old answer new → IsStanding new.world

-- a run from sound devices leaves sound devices as the power goes
abbrev pub EachRunLeavesSoundDevices : Type 0
EachRunLeavesSoundDevices =
    (place : ℕ) (old : Moment) (commands : List Command) (answers : List Answer) (last : Moment) (left : World)
    → WriteNoHeader commands → IsStanding old.world → IsTranscript place old commands answers last → PowerGoes last.world left → IsStanding left

-- no group is imported, and no volume is started
pub record IsIdle (w : World) : Type 0 where
  pub group : w.group ≡ None
  pub volumes : (vol : Word) → w.volumes vol ≡ None

-- so a run that begins with sound devices alone leaves sound devices
abbrev pub EachRunKeepsDevicesSound : Type 0
EachRunKeepsDevicesSound =
    (place : ℕ) (old : Moment) (commands : List Command) (answers : List Answer) (last : Moment) (left : World)
    → WriteNoHeader commands → IsIdle old.world → AreSound old.world → IsTranscript place old commands answers last → PowerGoes last.world left → AreSound left

-- what want of memory leaves of a command is sound too
abbrev pub EachWantKeepsTheWorldSound : Type 0
EachWantKeepsTheWorldSound = (c : Command) (old new : Moment) → IsStanding old.world → LeavesOff c old new → IsStanding new.world

-- so a run leaves sound devices that is left off in its last command, as memory is wanting
abbrev pub EachRunLeftOffKeepsDevicesSound : Type 0
EachRunLeftOffKeepsDevicesSound =
    (place : ℕ) (old : Moment) (commands : List Command) (answers : List Answer) (last : Moment) (c : Command) (off : Moment) (left : World)
    → WriteNoHeader commands → IsIdle old.world → AreSound old.world → IsTranscript place old commands answers last → LeavesOff c last off → PowerGoes off.world left → AreSound left
