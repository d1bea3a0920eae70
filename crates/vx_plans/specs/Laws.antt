-- Laws of plans.
use Rattle.std.specs.Prelude.{◌≡◌, ◌≢◌, ◌⊎◌, ◌≤◌, ◌<◌, ℕ, true, false, Option, Some, List, [], MatchOption}
use Rattle.vx_base.specs.Named.{Word}
use Rattle.vx_mask.specs.Mask.{has}
use Rattle.vx_copies.specs.Image.{Offer, offer_in}
use Rattle.vx_copies.specs.Lists.{AnyOf}
use Rattle.vx_script_forms.specs.declared.form.Form.{Form}
use Rattle.vx_script_forms.specs.declared.form.Form.TheVariants as form
use Rattle.vx_answers.specs.declared.answer.End.{End}
use Rattle.vx_answers.specs.declared.answer.End.TheVariants as ends
use Rattle.vx_answers.specs.declared.answer.View.{View}
use Rattle.vx_answers.specs.declared.refusal.Refusal.{Refusal}
use Rattle.vx_moments.specs.World.{World, Device}
use Rattle.vx_moments.specs.Moment.{Moment, IsQuiet}
use Rattle.vx_plans.specs.Plans.{plan_of, disks_of}
use Rattle.vx_plans.specs.Steps.{Runs}
use Rattle.vx_plans.specs.declared.stages.Plan.{Plan}

-- nothing failed, and the power stayed; no count stands at its type's end
pub record WentWell (old new : Moment) : Type 0 where
  pub quiet : IsQuiet old.counts new.counts
  pub powered : (name : Word) → new.counts.cut name ≡ false
  pub room : (name : Word) → new.counts.faults name ≤ 18446744073709551614
  pub shelf_room : new.counts.shelf ≤ 18446744073709551614

-- all was done, or a test has refused the command
abbrev pub IsDoneOrRefused : End → Type 0
IsDoneOrRefused end = ((copied : Option ℕ) × (end ≡ ends.Done copied [] [])) ⊎ ((r : Refusal) × (end ≡ ends.Refused r))

-- a group is made of some disks
abbrev pub NamesSome : Form → Type 0
NamesSome (form.DgInit dg disks) = disks ≢ []
NamesSome other = Unit {0}

-- There is a disk to be written: the imported group has a good one, the command names some, and no configuration that a
-- device offers names none.
pub record HasCarriers (f : Form) (w : World) : Type 0 where
  pub group : MatchOption w.group (Unit {0}) (λ g. AnyOf (λ m. has g.good m.slot ≡ true) g.members)
  pub named : NamesSome f
  pub masks : (dg name : Word) (d : Device) (o : Offer) → w.devices name ≡ Some d → offer_in dg d.contents ≡ Some o → (slot : ℕ) × (slot < 32) × (has o.good slot ≡ true)

-- where nothing failed and the power stayed, all is done that the tests let through
abbrev pub EachPlanIsComplete : Type 0
EachPlanIsComplete =
    (dg : Option Word) (f : Form) (plan : Plan) (old : Moment) (views : List View) (end : End) (new : Moment)
    → plan_of dg f ≡ Some plan → Runs (disks_of f) plan.stages plan.finish old views end new
    → WentWell old new → HasCarriers f old.world → IsDoneOrRefused end
