-- How far a job still is from its end.
use Rattle.std.specs.Prelude.{ℕ, ◌+◌, ◌*◌, ◌^◌, ◌<◌, ◌==◌, Bool, if◌then◌else◌}
use Rattle.vx_core.specs.declared.stage.Event.{Event}
use Rattle.vx_core.specs.declared.stage.Act.{Act}
use Rattle.vx_core.specs.declared.stage.Step.{Step}
use Rattle.vx_core.specs.declared.stage.Work.{Work}
use Rattle.vx_core.specs.declared.stage.Phase.{Phase}
use Rattle.vx_core.specs.declared.stage.Stage.{Stage}
use Rattle.vx_core.specs.declared.stage.Step.TheVariants.{Mark as AtMark, Write as AtWrite, MarkFailed as AtMarkFailed, Find as AtFind, Equal as AtEqual, Copy as AtCopy, Unmark as AtUnmark, Read as AtRead}
use Rattle.vx_core.specs.declared.stage.Phase.TheVariants.{Settled, Unsettled, Dead, Busy}
use Rattle.vx_core.specs.Form.{IsFormed, MayCome}

-- the place of a step in a job, counted from the end; the failed plexes of a settling are marked before the job goes on
abbrev pub rank : Step → ℕ → ℕ
rank AtFind good = 9
rank AtEqual good = 8
rank AtMarkFailed good = if good == 0 then 7 else 4
rank AtMark good = 6
rank AtWrite good = 5
rank AtRead good = 3
rank AtCopy good = 2
rank AtUnmark good = 1

abbrev pub steps_left : Work → ℕ
steps_left w = rank w.step w.good * 2 ^ 64 + w.left

-- the job has ended, or has fewer steps left than n
abbrev pub FallsBelow : Phase → ℕ → Type 0
FallsBelow (Busy w) n = steps_left w < n
FallsBelow Settled n = Unit {0}
FallsBelow Unsettled n = Unit {0}
FallsBelow Dead n = Unit {0}

-- after an answer a job under way has fewer steps left
abbrev pub ProgressFrom : Phase → Phase → Type 0
ProgressFrom (Busy w) after = FallsBelow after (steps_left w)
ProgressFrom Settled after = Unit {0}
ProgressFrom Unsettled after = Unit {0}
ProgressFrom Dead after = Unit {0}

-- whatever the plexes hold, a well formed stage stays so, and a job under way comes nearer to its end
abbrev pub KeepsForm : Stage → Event → Stage × Act → Type 0
KeepsForm s event result =
    (held : ℕ → Bool) → IsFormed s s.phase held → MayCome s s.phase event → IsFormed result.0 result.0.phase held × ProgressFrom s.phase result.0.phase
