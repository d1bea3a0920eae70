-- What regions stand for after a call.
use Rattle.std.proofs.Common.{◌≢◌, ℕ, refl, subst, [], ◌∷◌, Option, Some, None}
use Rattle.vx_mask.specs.Marks.{Marks, MayTidy}
use Rattle.vx_core.specs.declared.stage.Phase.{Phase}
use Rattle.vx_core.specs.declared.stage.Stage.{Stage}
use Rattle.vx_core.specs.declared.stage.Event.TheVariants.{Cut}
use Rattle.vx_core.specs.declared.stage.Phase.TheVariants.{Settled, Unsettled, Dead, Busy}
use Rattle.vx_core.specs.History.{NoCall}
use Rattle.vx_core.specs.Schedule.{IsIdle, Comes}
use Rattle.vx_core.specs.Region.{Around, FitsIn, RegionState}
use Rattle.vx_core.proofs.ScheduleLaws.{kept_elsewhere}
use Rattle.vx_core_laws.specs.Course.{IsKeptState}
use Rattle.vx_core_laws.proofs.Courses.{course_keeps}
use Rattle.vx_marks.specs.Log.{OnMarks}
use Rattle.vx_cell.specs.Region.{Tells, TidiesOthers, disks_of, marks_or, state_of}
use Rattle.vx_cell.specs.Running.{call_of, start_last, start_call}
use Rattle.vx_cell.specs.Laws.{EachCallStands, EachKillStands, EachOtherStands}

pub call_stands : (T : Type 0) → EachCallStands T
call_stands T job io io' old new result ended told who fixed entries allows kept =
    let g = ended.goes told who in
    subst (λ (r : RegionState). IsKeptState r) (g.1.ends fixed entries)
    (course_keeps (state_of old fixed entries (start_call old.stage.phase (call_of job io old who)) (start_last old.stage.phase job old.number)) g.0 kept (g.1.fits fixed entries allows))

tidied : (region n : ℕ) (a b : Option (ℕ → Marks)) → n ≢ region → Tells a → OnMarks (TidiesOthers region) a b → MayTidy (marks_or a n) (marks_or b n)
tidied region n None b apart tells h = absurd tells
tidied region n (Some a) None apart tells h = absurd h
tidied region n (Some a) (Some b) apart tells h = h n apart

pub other_stands : EachOtherStands
other_stands region other log fixed entries call apart tells others stood =
    kept_elsewhere other.stage other.stage.phase (state_of other fixed entries call other.number).around (marks_or log.told other.region) stood (tidied region other.region other.log.told log.told apart tells others)

cut_fits : (s : Stage) (phase : Phase) (a : Around) → IsIdle phase → FitsIn s phase a Cut a.disks NoCall (λ i. [])
cut_fits s Settled a idle = refl
cut_fits s Unsettled a idle = refl
cut_fits s Dead a idle = refl
cut_fits s (Busy w) a idle = absurd idle

pub kill_stands : EachKillStands
kill_stands r fixed entries idle stood =
    course_keeps (state_of r fixed entries NoCall r.number) (Comes Cut (disks_of r) NoCall (λ i. []) ∷ []) stood (cut_fits r.stage r.stage.phase (state_of r fixed entries NoCall r.number).around idle, tt)
