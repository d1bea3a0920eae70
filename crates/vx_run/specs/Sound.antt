-- What is asked of a plan.
use Rattle.std.specs.Prelude.{◌≤◌, ◌^◌, Option, Some, None, []}
use Rattle.vx_copies.specs.Lists.{AllOf}
use Rattle.vx_script_forms.specs.declared.form.Form.{Form}
use Rattle.vx_script_forms.specs.declared.form.Form.TheVariants as form
use Rattle.vx_plans.specs.declared.stages.Plan.{Plan}
use Rattle.vx_run.specs.Fed.{AreFed, HasSize, KeepToShow, ShowsAfter, recent}

-- Its stages find what they need, what is shown is there, and a plan that shows it changes nothing of the world.
pub record IsSound (plan : Plan) : Type 0 where
  pub fed : AreFed [] plan.stages
  pub kept : KeepToShow plan.stages plan.finish
  pub sized : AllOf HasSize plan.stages
  pub shows : ShowsAfter (recent plan.stages) plan.finish

abbrev pub IsSoundIfAny : Option Plan → Type 0
IsSoundIfAny None = Unit {0}
IsSoundIfAny (Some plan) = IsSound plan

-- a device that a command is to make has a size that the shelf takes
abbrev pub HasFormSize : Form → Type 0
HasFormSize (form.MkImage device length) = (1 ≤ length) × (length ≤ 2 ^ 40)
HasFormSize other = Unit {0}
