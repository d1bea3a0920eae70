-- What a command leaves by which the group has left is sound.
use Rattle.std.proofs.Common.{◌≡◌, ◌∙◌, ℕ, ◌+◌, List, [], Option, Some, None, sym, ap, subst, inl, inr}
use Rattle.vx_base.specs.Named.{Word}
use Rattle.vx_script_forms.specs.declared.form.Form.{Form}
use Rattle.vx_script_forms.specs.declared.form.Form.TheVariants as form
use Rattle.vx_answers.specs.declared.answer.End.{End}
use Rattle.vx_answers.specs.declared.answer.End.TheVariants as ends
use Rattle.vx_answers.specs.declared.answer.View.{View}
use Rattle.vx_answers.specs.declared.refusal.Refusal.{Refusal}
use Rattle.vx_moments.specs.Leaving.{group_gone}
use Rattle.vx_moments.specs.Moment.{Moment}
use Rattle.vx_moments.specs.World.{Group, World}
use Rattle.vx_plans.specs.Plans.{plan_deport, plan_of}
use Rattle.vx_plans.specs.Steps.{DoesForm, Leaves, Runs}
use Rattle.vx_stages.specs.Tests.{fails}
use Rattle.vx_plans.specs.declared.stages.Finish.TheVariants.{Nothing}
use Rattle.vx_stages.specs.declared.test.Test.TheVariants as tests
use Rattle.vx_sound_volumes.specs.Laws.{EachStepLeavesVolumesSound}
use Rattle.vx_sound_volumes.specs.Volumes.{AreSoundOn, HadGroup, IsSoundBefore}
use Rattle.vx_sound_volumes.proofs.Leavings.{each_leaving}
use Rattle.vx_sound_volumes.proofs.Parts.{all_kept, keeps_all, not_none}
use Rattle.vx_sound_volumes.proofs.Stages.{StateLaws}
use Rattle.vx_sound_volumes.proofs.Steps.{form_kept}

-- a world that has the group is none that lacks it
never : {A : Type 0} (w left : World) (g : Group) → w.group ≡ Some g → left ≡ w → left.group ≡ None → A
never w left g here is none = not_none g (sym none ∙ ap (λ (x : World). x.group) is ∙ here)

-- the group, or the power, was lost as the command was over
lost_sound : (place : ℕ) (end : End) (over left : World) (g : Group) → IsSoundBefore place over → over.group ≡ Some g → left.group ≡ None → Leaves end over left → AreSoundOn left.devices g
lost_sound place ends.GroupLost over left g s here none (stands, is) = each_leaving place over left g s here (inr (stands, inl is))
lost_sound place (ends.Lost parts) over left g s here none (stands, goes) = each_leaving place over left g s here (inr (stands, inr goes))
lost_sound place (ends.Done copied parts blocks) over left g s here none is = never over left g here is none
lost_sound place (ends.Refused r) over left g s here none is = never over left g here is none
lost_sound place (ends.Fault told device parts) over left g s here none is = never over left g here is none
lost_sound place ends.ShelfFailed over left g s here none is = never over left g here is none

module _ (place : ℕ) (old : Moment) (views : List View) (end : End) (over : Moment) (left : World) (g : Group) (s : IsSoundBefore place old.world) (here : old.world.group ≡ Some g) (none : left.group ≡ None) (leaves : Leaves end over.world left) where
  -- a test has refused the command, or it is not built
  refused_never : {A : Type 0} (r : Refusal) → end ≡ ends.Refused r → over.world ≡ old.world → A
  refused_never r is same = never old.world left g here (subst (λ (e : End). Leaves e over.world left) is leaves ∙ same) none

  -- a deport has let the group go, of which no volume was started
  deport_sound : (name : Word) → Runs [] (plan_deport name) Nothing old views end over → AreSoundOn left.devices g
  deport_sound name (inr (no_views, later, (r, fails, is, same))) = refused_never r is (ap (λ (m : Moment). m.world) same)
  deport_sound name (inl (mid, later, (named, at), inr (no_views, later_too, (r, fails, is, same)))) = refused_never r is (ap (λ (m : Moment). m.world) (same ∙ at))
  deport_sound name (inl (mid, later, (named, at), inl (free, later_too, (idle, at_too), inr (no_views, last, stops)))) = absurd stops
  deport_sound name (inl (mid, later, (named, at), inl (free, later_too, (idle, at_too), inl (gone, last, (let_go, counts), (shows, over_is, stays))))) =
      let same : left ≡ group_gone old.world =
      subst (λ (e : End). Leaves e over.world left) over_is leaves ∙ ap (λ (m : Moment). m.world) stays ∙ let_go ∙ ap (λ (m : Moment). group_gone m.world) (at_too ∙ at) in
      each_leaving place old.world left g s here (inl (subst (λ (m : Moment). fails tests.NoneStarted [] m.world ≡ None) at idle, same))

module _ (laws : StateLaws) (place : ℕ) (dg : Option Word) (old : Moment) (views : List View) (end : End) (over : Moment) (left : World) (g : Group) (s : IsSoundBefore place old.world) (none : left.group ≡ None) (leaves : Leaves end over.world left) where
  by_form : (f : Form) → (over.world.group ≡ Some g) → DoesForm place dg f old views end over → AreSoundOn left.devices g
  by_form f here does =
      lost_sound (place + 1) end over.world left g
      (all_kept (place + 1) over.world
      (form_kept laws place dg f old views end over (λ is. never over.world left g here (subst (λ (e : End). Leaves e over.world left) is leaves) none) (keeps_all place old.world s) does)) here none leaves

  left_by : (f : Form) → HadGroup f old.world over.world g → DoesForm place dg f old views end over → AreSoundOn left.devices g
  unfolding plan_of
  left_by (form.DgDeport name) here does = deport_sound place old views end over left g s here none leaves name does
  left_by other here does = by_form other here does

pub each_step_leaves : StateLaws → EachStepLeavesVolumesSound
each_step_leaves laws place c old answer new step g s had none = left_by laws place c.group old step.views step.end step.over new.world g s none step.leaves c.form had step.does
