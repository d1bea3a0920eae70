-- What a command that is refused, or left off for want of memory, leaves of the world.
use Rattle.std.specs.Prelude.{◌≡◌, ◌⊎◌, ℕ, true, Option, Some, List, []}
use Rattle.vx_base.specs.Named.{Word}
use Rattle.vx_config_parts.specs.declared.vol.Vol.{Vol}
use Rattle.vx_new_volumes.specs.declared.volume.NewVolume.{NewVolume}
use Rattle.vx_script_forms.specs.declared.act.Act.TheVariants as act
use Rattle.vx_script_forms.specs.declared.form.Form.{Form}
use Rattle.vx_script_forms.specs.declared.form.Form.TheVariants as form
use Rattle.vx_script.specs.declared.command.Command.{Command}
use Rattle.vx_answers.specs.declared.answer.Answer.TheVariants.{One}
use Rattle.vx_answers.specs.declared.answer.View.{View}
use Rattle.vx_answers.specs.declared.refusal.Refusal.{Refusal}
use Rattle.vx_moments.specs.Moment.{Moment}
use Rattle.vx_moments.specs.World.{Group}
use Rattle.vx_stages.specs.Detached.{DetachWants, StopsNeeded}
use Rattle.vx_stages.specs.Ends.{refused}
use Rattle.vx_stages.specs.Left.{LeavingWants, StopsLate}
use Rattle.vx_stages.specs.Stages.{IsDone}
use Rattle.vx_stages.specs.Starting.{StartWants, may_start, refusal_at_once}
use Rattle.vx_stages.specs.Logged.{PrepareWants}
use Rattle.vx_stages.specs.Mirrored.{MirrorWants}
use Rattle.vx_stages.specs.Stopping.{StopWants}
use Rattle.vx_stages.specs.declared.stage.Source.TheVariants as source
use Rattle.vx_stages.specs.declared.stage.Stage.TheVariants as stage
use Rattle.vx_recovery.specs.Going.{RecoversShort}
use Rattle.vx_recovery.specs.Healing.{IsHealed}
use Rattle.vx_recovery.specs.Recovering.{IsRecoveryBegun}
use Rattle.vx_plans.specs.Plans.{new_logs, new_volume}
use Rattle.vx_plans.specs.Recoveries.{HasComeTo}
use Rattle.vx_plans.specs.Steps.{CountsAfter, LeavesOff, Step}
use Rattle.vx_stages.specs.Touching.{IsTouched}
use Rattle.vx_plan_laws.specs.Refusing.{OfGroup, OfVolume, OpeningRefuses, StartRefuses}

-- The volume cannot be opened. Its log was called: the devices have changed in sectors of the volume alone, and nothing else of the world
-- has changed.
abbrev pub IsLeftUnopened : Word → Moment → Refusal → Moment → Type 0
IsLeftUnopened name old r new = OfGroup old.world (λ g. OfVolume name g (λ v. (may_start v.state ≡ true) × IsTouched g v.name old new × OpeningRefuses g v old r new))

-- The start of the new volume is refused. Its records were added, and the world is as it then was.
abbrev pub IsLeftAdded : NewVolume → Moment → Refusal → Moment → Type 0
IsLeftAdded n old r new =
    (mid : Moment) × IsDone (stage.Make (source.Volume n)) [] old mid × OfGroup mid.world (λ g. OfVolume n.vol g (λ v. StartRefuses g v mid r new)) × (new.world ≡ mid.world)

-- a volume cannot be opened, of which the log was called: the devices have changed in its sectors alone
abbrev pub IsUnopened : Group → Vol → Moment → Refusal → Moment → Type 0
IsUnopened g v old r new = IsTouched g v.name old new × OpeningRefuses g v old r new

-- The recovery of the volume is recorded as begun, and is refused then: at once, or as the volume cannot be opened, before it is healed or behind
-- that.
abbrev pub IsLeftBegun : Word → Moment → Refusal → Moment → Type 0
IsLeftBegun name old r new =
    (g : Group) × (v : Vol) × (begun : Moment) × IsRecoveryBegun name old g v begun
    × (((refusal_at_once g v ≡ Some r) × (new.world ≡ begun.world))
    ⊎ (IsUnopened g v begun r new
    ⊎ ((dirty copied marks : ℕ) × (healed : Moment) × IsHealed g v dirty copied marks begun healed × IsUnopened g v healed r new)))

-- The start of the volume is refused: the world is as it then was, or its log was called, where it cannot be opened.
abbrev pub IsLeftUnstarted : Word → Moment → Refusal → Moment → Type 0
IsLeftUnstarted name old r new = OfGroup old.world (λ g. OfVolume name g (λ v. StartRefuses g v old r new)) × ((new.world ≡ old.world) ⊎ IsLeftUnopened name old r new)

-- A recovery has come to a volume whose start or recovery is refused: the volumes before it were seen to.
abbrev pub IsLeftRecovering : Option Word → Moment → Refusal → Moment → Type 0
IsLeftRecovering vol old r new = (name : Word) × (mid : Moment) × HasComeTo vol old name mid × (IsLeftUnstarted name mid r new ⊎ IsLeftBegun name mid r new)

-- What a refused command of this form leaves: the world as it began. A start may have called the log of its volume, where it cannot be opened;
-- where a new volume cannot be started its records stay; where a plex does not go out of use, as some region has no other, its volume has come to
-- rest; where one does not leave behind the tests, its volume has come to rest or its log was read; and where a recovery is refused for a volume, those before it were seen to, and its own recovery may be recorded as begun.
abbrev pub RefusedLeaves : Form → Moment → Refusal → Moment → Type 0
RefusedLeaves (form.Start vol) old r new = (new.world ≡ old.world) ⊎ IsLeftUnopened vol old r new
RefusedLeaves (form.AssistMake vol length attrs disks) old r new = (new.world ≡ old.world) ⊎ IsLeftAdded (new_volume vol length attrs disks) old r new
RefusedLeaves (form.Recover vol) old r new = (new.world ≡ old.world) ⊎ IsLeftRecovering vol old r new
RefusedLeaves (form.Acting (act.PlexDet plex)) old r new = (new.world ≡ old.world) ⊎ StopsNeeded plex old (refused r) new
RefusedLeaves (form.PlexDis plex rm) old r new = (new.world ≡ old.world) ⊎ StopsLate rm plex old (refused r) new
RefusedLeaves other old r new = new.world ≡ old.world

-- each command that is refused leaves so much of the world, at the moment at which it was over; behind it nothing changes but counts, and those
-- only where a switch has taken power that is back then
abbrev pub EachRefusalKeepsTheWorld : Type 0
EachRefusalKeepsTheWorld =
    (place : ℕ) (c : Command) (old : Moment) (views : List View) (r : Refusal) (new : Moment)
    → Step place c old (One views (refused r)) new → (over : Moment) × (new.world ≡ over.world) × CountsAfter c.cut over.counts new.counts × RefusedLeaves c.form old r over

-- the records of the new volume were added, and the start left so much of that world
abbrev pub AddedWants : NewVolume → Moment → Moment → Type 0
AddedWants n old new = (mid : Moment) × IsDone (stage.Make (source.Volume n)) [] old mid × StartWants n.vol mid new

-- What want of memory leaves of a command of this form: the world as the command found it. A start may have called the log of its volume,
-- also of a new one whose records were added, a mirror, a stop and a plex that goes out of use or leaves may have let their volume come to rest,
-- or have read its log, where a volume was to get logs these may have been written, and a recovery may have seen to some volumes, and begun
-- with one.
abbrev pub WantLeaves : Form → Moment → Moment → Type 0
WantLeaves (form.Start vol) old new = StartWants vol old new
WantLeaves (form.Mirror vol disks) old new = MirrorWants vol old new
WantLeaves (form.Prepare vol ndcomirs region) old new = PrepareWants (new_logs vol ndcomirs region) old new
WantLeaves (form.Stop vol) old new = StopWants vol old new
WantLeaves (form.AssistMake vol length attrs disks) old new = (new.world ≡ old.world) ⊎ AddedWants (new_volume vol length attrs disks) old new
WantLeaves (form.Recover vol) old new = RecoversShort vol old new
WantLeaves (form.Acting (act.PlexDet plex)) old new = DetachWants plex old new
WantLeaves (form.PlexDis plex rm) old new = LeavingWants rm plex old new
WantLeaves other old new = new.world ≡ old.world

-- want of memory leaves so much of the world
abbrev pub EachWantKeepsTheWorld : Type 0
EachWantKeepsTheWorld = (c : Command) (old new : Moment) → LeavesOff c old new → WantLeaves c.form old new
