-- A command from one moment to the next, and a run of commands.
use Rattle.std.specs.Prelude.{◌≡◌, ◌⊎◌, ℕ, ◌+◌, ◌≤◌, false, Option, Some, None, List, [], ◌∷◌, MatchOption}
use Rattle.vx_base.specs.Named.{Word}
use Rattle.vx_objects.specs.Config.{objects_of}
use Rattle.vx_print.specs.Shown.{IsPrinted}
use Rattle.vx_script_forms.specs.declared.call.Call.{Call}
use Rattle.vx_script_forms.specs.declared.form.Form.{Form}
use Rattle.vx_script_forms.specs.declared.form.Form.TheVariants as form
use Rattle.vx_script.specs.declared.command.Command.{Command}
use Rattle.vx_answers.specs.declared.answer.Answer.{Answer}
use Rattle.vx_answers.specs.declared.answer.Answer.TheVariants.{One}
use Rattle.vx_answers.specs.declared.answer.End.{End}
use Rattle.vx_answers.specs.declared.answer.End.TheVariants as ends
use Rattle.vx_answers.specs.declared.answer.View.{View}
use Rattle.vx_answers.specs.declared.answer.View.TheVariants.{Text}
use Rattle.vx_answers.specs.declared.refusal.Refusal.TheVariants.{NotBuilt}
use Rattle.vx_moments.specs.World.{World}
use Rattle.vx_moments.specs.Moment.{Moment, AreLater, Counts}
use Rattle.vx_moments.specs.Leaving.{PowerGoes, group_gone}
use Rattle.vx_moments.specs.Lives.{GroupStands}
use Rattle.vx_hierarchy.specs.Hierarchy.{IsHierarchy}
use Rattle.vx_plans.specs.Serving.{CallRuns}
use Rattle.vx_plans.specs.Showing.{is_held_in, is_running}
use Rattle.vx_plans.specs.Plans.{plan_of, disks_of}
use Rattle.vx_stages.specs.Stages.{IsDone, Stops, Wants}
use Rattle.vx_plans.specs.declared.stages.Finish.{Finish}
use Rattle.vx_plans.specs.declared.stages.Finish.TheVariants.{Hierarchy, Nothing, Records}
use Rattle.vx_plans.specs.declared.stages.Plan.{Plan}
use Rattle.vx_stages.specs.declared.stage.Stage.{Stage}
use Rattle.vx_script_words.specs.declared.value.DiskAt.{DiskAt}
use Rattle.vx_recovery.specs.Going.{Recovers, RecoversShort}

-- all was done, and nothing is told beside
abbrev pub done : End
done = ends.Done None [] []

-- what is shown at the end
abbrev pub Shows : Finish → World → List View → Type 0
Shows Nothing w views = views ≡ []
Shows (Records vol) w views = MatchOption w.group ⊥ (λ g. (text : List ℕ) × (views ≡ Text text ∷ []) × IsPrinted vol (objects_of g.config) [] text)
Shows (Hierarchy vol) w views = MatchOption w.group ⊥ (λ g. (text : List ℕ) × (views ≡ Text text ∷ []) × IsHierarchy g.config (is_held_in w g) (is_running w) vol [] text)

-- The stages are done one after the other, and the rest of the command follows; or one of them ends it.
abbrev pub Runs : List DiskAt → List Stage → Finish → Moment → List View → End → Moment → Type 0
Runs disks [] finish old views end new = Shows finish old.world views × (end ≡ done) × (new ≡ old)
Runs disks (s ∷ ss) finish old views end new =
    ((mid : Moment) × AreLater old.counts mid.counts × IsDone s disks old mid × Runs disks ss finish mid views end new)
    ⊎ ((views ≡ []) × AreLater old.counts new.counts × Stops s disks old end new)

-- Memory was wanting in one of the stages, behind those that were done.
abbrev pub RunsShort : List DiskAt → List Stage → Moment → Moment → Type 0
RunsShort disks [] old new = ⊥
RunsShort disks (s ∷ ss) old new = ((mid : Moment) × AreLater old.counts mid.counts × IsDone s disks old mid × RunsShort disks ss mid new) ⊎ Wants s old new

-- A command that is over: where the group or the power was lost they go. The bytes that then are left of the group's volumes stand for
-- those that ran.
abbrev pub Leaves : End → World → World → Type 0
Leaves (ends.Done copied parts blocks) w left = left ≡ w
Leaves (ends.Refused refusal) w left = left ≡ w
Leaves (ends.Fault told device parts) w left = left ≡ w
Leaves ends.ShelfFailed w left = left ≡ w
Leaves ends.GroupLost w left = GroupStands w × (left ≡ group_gone w)
Leaves (ends.Lost parts) w left = GroupStands w × PowerGoes w left

-- the counts are as they were
abbrev pub AreAsBefore : Counts → Counts → Type 0
AreAsBefore over new = new ≡ over

-- from one moment to the next, by what the command does, what is left then, and what becomes of the counts
pub record Serves (Does : Moment → List View → End → Moment → Type 0) (After : Counts → Counts → Type 0) (old : Moment) (answer : Answer) (new : Moment) : Type 0 where
  pub views : List View
  pub end : End
  pub told : answer ≡ One views end
  pub over : Moment
  pub does : Does old views end over
  pub leaves : Leaves end over.world new.world
  pub counts : After over.counts new.counts

-- a command that is not built is refused before all else
abbrev pub IsNotBuilt : Moment → List View → End → Moment → Type 0
IsNotBuilt old views end new = (views ≡ []) × (end ≡ ends.Refused NotBuilt) × (new ≡ old)

abbrev pub DoesPlan : List DiskAt → Option Plan → Moment → List View → End → Moment → Type 0
DoesPlan disks None old views end new = IsNotBuilt old views end new
DoesPlan disks (Some plan) old views end new = Runs disks plan.stages plan.finish old views end new

-- what a call does
abbrev pub DoesCall : ℕ → Call → Moment → List View → End → Moment → Type 0
DoesCall place call old views end new = (views ≡ []) × AreLater old.counts new.counts × CallRuns place call old end new

-- what a recovery of volumes does
abbrev pub DoesRecover : Option Word → Option Word → Moment → List View → End → Moment → Type 0
DoesRecover dg vol old views end new = AreLater old.counts new.counts × Recovers dg vol old views end new

-- what a form does
abbrev pub DoesForm : ℕ → Option Word → Form → Moment → List View → End → Moment → Type 0
DoesForm place dg (form.Calling call) old views end new = DoesCall place call old views end new
DoesForm place dg (form.Recover vol) old views end new = DoesRecover dg vol old views end new
DoesForm place dg other old views end new = DoesPlan (disks_of other) (plan_of dg other) old views end new

-- what a command does, also one with a word `cut=N`: by that the power may go, as it may by itself
abbrev pub Does : ℕ → Command → Moment → List View → End → Moment → Type 0
Does place c old views end new = DoesForm place c.group c.form old views end new

-- what want of memory leaves of a plan: the world as it began, or one of its stages was left
abbrev pub WantsPlan : List DiskAt → Option Plan → Moment → Moment → Type 0
WantsPlan disks None old new = new.world ≡ old.world
WantsPlan disks (Some plan) old new = (new.world ≡ old.world) ⊎ RunsShort disks plan.stages old new

abbrev pub WantsForm : Option Word → Form → Moment → Moment → Type 0
WantsForm dg (form.Calling call) old new = new.world ≡ old.world
WantsForm dg (form.Recover vol) old new = RecoversShort vol old new
WantsForm dg other old new = WantsPlan (disks_of other) (plan_of dg other) old new

-- what want of memory leaves of a command
abbrev pub LeavesOff : Command → Moment → Moment → Type 0
LeavesOff c old new = WantsForm c.group c.form old new

-- The power is back that a switch has taken from devices. No count of faults has changed. A device that had its power has the counts that it
-- had, and of one that had not no more is counted.
pub record PowerReturns (over new : Counts) : Type 0 where
  pub faults : (name : Word) → new.faults name ≡ over.faults name
  pub shelf : new.shelf ≡ over.shelf
  pub cut : (name : Word) → over.cut name ≡ false → new.cut name ≡ false
  pub reads : (name : Word) → (new.reads name ≤ over.reads name) × (over.cut name ≡ false → new.reads name ≡ over.reads name)
  pub writes : (name : Word) → (new.writes name ≤ over.writes name) × (over.cut name ≡ false → new.writes name ≡ over.writes name)

-- the counts once the command is over: as they were, but that behind one with a word `cut=N` the power is back
abbrev pub CountsAfter : Option ℕ → Counts → Counts → Type 0
CountsAfter None over new = new ≡ over
CountsAfter (Some n) over new = PowerReturns over new

-- the command at this place of the script may have this answer
abbrev pub Step : ℕ → Command → Moment → Answer → Moment → Type 0
Step place c old answer new = Serves (Does place c) (CountsAfter c.cut) old answer new

-- the commands from this place on may have these answers, one after the other
abbrev pub IsTranscript : ℕ → Moment → List Command → List Answer → Moment → Type 0
IsTranscript place old [] [] new = new ≡ old
IsTranscript place old (c ∷ cs) (a ∷ rest) new = (mid : Moment) × Step place c old a mid × IsTranscript (place + 1) mid cs rest new
IsTranscript place old [] (a ∷ rest) new = ⊥
IsTranscript place old (c ∷ cs) [] new = ⊥
