-- Each command keeps volumes sound, and so does each run.
use Rattle.std.proofs.Common.{◌≡◌, ◌∙◌, ℕ, ◌+◌, true, List, [], ◌∷◌, Option, Some, None, refl, sym, ap, subst, inl, inr}
use Rattle.vx_base.specs.Named.{Word}
use Rattle.vx_script_words.specs.declared.value.DiskAt.{DiskAt}
use Rattle.vx_script_forms.specs.declared.act.Act.TheVariants as act
use Rattle.vx_script_forms.specs.declared.form.Form.{Form}
use Rattle.vx_script_forms.specs.declared.form.Form.TheVariants as form
use Rattle.vx_script_forms.specs.declared.form.WordPolicy.{WordPolicy}
use Rattle.vx_script_forms.specs.declared.form.WordPolicy.TheVariants as words
use Rattle.vx_script.specs.declared.command.Command.{Command}
use Rattle.vx_answers.specs.declared.answer.Answer.{Answer}
use Rattle.vx_answers.specs.declared.answer.End.{End}
use Rattle.vx_answers.specs.declared.answer.End.TheVariants as ends
use Rattle.vx_answers.specs.declared.answer.View.{View}
use Rattle.vx_moments.specs.Moment.{Moment}
use Rattle.vx_moments.specs.World.{World}
use Rattle.vx_moments.specs.Leaving.{grouped}
use Rattle.vx_plans.specs.Plans.{disks_of, ending, plan_of, plan_print}
use Rattle.vx_plans.specs.Steps.{DoesForm, DoesPlan, IsNotBuilt, IsTranscript, Leaves, Runs, RunsShort, WantsForm, WantsPlan, done}
use Rattle.vx_stages.specs.Records.{devices_of}
use Rattle.vx_stages.specs.Stages.{AreFree, IsDone, IsFree, Stops}
use Rattle.vx_stages.specs.Tests.{fails}
use Rattle.vx_plans.specs.declared.stages.Finish.{Finish}
use Rattle.vx_plans.specs.declared.stages.Finish.TheVariants.{Hierarchy, Records}
use Rattle.vx_plans.specs.declared.stages.Plan.{Plan}
use Rattle.vx_stages.specs.declared.stage.Stage.{Stage}
use Rattle.vx_stages.specs.declared.stage.Stage.TheVariants as stage
use Rattle.vx_plans.proofs.Complete.{kept_world, keeps_world}
use Rattle.vx_sound_volumes.specs.Laws.{EachBringsSound, EachRunKeepsVolumesSound, EachRunLeavesVolumesSound, EachRunLeftOffLeavesVolumesSound, EachStepKeepsVolumesSound, EachWantKeepsVolumesSound, IsIdle}
use Rattle.vx_sound_volumes.specs.Volumes.{BringsSound, IsSoundBefore}
use Rattle.vx_sound_volumes.proofs.Leavings.{each_leaving}
use Rattle.vx_sound_volumes.proofs.Lives.{next_running}
use Rattle.vx_sound_volumes.proofs.Parts.{Every, Keeps, all_kept, group_goes, keeps_all, not_none, power_goes}
use Rattle.vx_sound_volumes.proofs.Recoveries.{recover_kept, recover_left}
use Rattle.vx_sound_volumes.proofs.Running.{call_kept}
use Rattle.vx_sound_volumes.proofs.Stages.{Needs, StageBrings, StateLaws, calm_ends, make_done, same_kept, stage_done, stage_stops, stage_wants}

-- ---- the stages of a plan

-- what a stage that keeps the world tells
abbrev Tells : Stage → List DiskAt → World → Type 0
Tells (stage.Gate test) disks w = fails test disks w ≡ None
Tells (stage.Take name) disks w = IsFree w [] name
Tells stage.TakeDisks disks w = AreFree w [] (devices_of disks)
Tells other disks w = Unit {0}

telling : (s : Stage) (disks : List DiskAt) (old new : Moment) → IsDone s disks old new → Tells s disks old.world
telling (stage.Gate test) disks old new is = is.0
telling (stage.Take name) disks old new is = is.0
telling stage.TakeDisks disks old new is = is.0
telling other disks old new is = tt

-- A stage before others keeps the world and tells them what they need, or it adds records and they need nothing of it.
abbrev GoesBefore : Stage → List DiskAt → World → (World → Type 0) → Type 0
GoesBefore (stage.Make from) disks w AreNext = (mid : World) → AreNext mid
GoesBefore other disks w AreNext = (keeps_world other ≡ true) × (Tells other disks w → AreNext w)

-- All stages but the last go before the others, and the last has what it needs; an import that is done brings what is sound.
abbrev AreReady : List Stage → List DiskAt → World → End → World → Type 0
AreReady [] disks w end new = Unit {0}
AreReady (s ∷ []) disks w end new = Needs s disks w × (end ≡ done → StageBrings s w new)
AreReady (s ∷ t ∷ ss) disks w end new = GoesBefore s disks w (λ mid. AreReady (t ∷ ss) disks mid end new)

-- such a stage is done, and the others go on from there
going : (place : ℕ) (s : Stage) (disks : List DiskAt) (AreNext : World → Type 0) (old mid : Moment) → GoesBefore s disks old.world AreNext → Keeps place Every old.world → IsDone s disks old mid → AreNext mid.world × Keeps place Every mid.world
going place (stage.Make from) disks AreNext old mid goes k is = (goes mid.world, make_done place from disks old mid k is)
going place other disks AreNext old mid goes k is =
    let same = sym (kept_world other disks old mid goes.0 is) in
    (subst AreNext same (goes.1 (telling other disks old mid is)), subst (Keeps place Every) same k)

abbrev IsReady : Option Plan → List DiskAt → World → End → World → Type 0
IsReady None disks w end new = Unit {0}
IsReady (Some plan) disks w end new = AreReady plan.stages disks w end new

module _ (dg : Option Word) (w : World) (end : End) (new : World) where
  policy_ready : (vol : Word) (how : WordPolicy) → IsReady (plan_of dg (form.Rdpol vol how)) [] w end new
  unfolding plan_of
  policy_ready vol words.Round = (refl, λ t. (refl, λ t. (tt, λ e. tt)))
  policy_ready vol words.Select = (refl, λ t. (refl, λ t. (tt, λ e. tt)))
  policy_ready vol (words.Prefer plex) = (refl, λ t. (refl, λ t. (refl, λ t. (tt, λ e. tt))))

  print_ready : (vol : Option Word) (finish : Finish) → IsReady (ending (plan_print dg vol) finish) [] w end new
  print_ready None finish = (tt, λ e. tt)
  print_ready (Some vol) finish = (refl, λ t. (tt, λ e. tt))

  plan_ready : (f : Form) → (end ≡ done → BringsSound f w new) → IsReady (plan_of dg f) (disks_of f) w end new
  unfolding plan_of
  plan_ready (form.MkImage device length) brings = (tt, λ e. tt)
  plan_ready (form.Bare vol device) brings = (refl, λ free. (refl, λ t. (refl, λ t. (free, λ e. tt))))
  plan_ready (form.DgInit name disks) brings = (refl, λ free. (refl, λ t. (refl, λ t. (refl, λ t. (refl, λ t. (refl, λ t. (free, λ e. tt)))))))
  plan_ready (form.DgAddDisk name disk) brings = (refl, λ free. (refl, λ t. (refl, λ t. (refl, λ limits. (refl, λ t. ((free, limits), λ e. tt))))))
  plan_ready (form.DgImport name) brings = (tt, brings)
  plan_ready (form.DgDeport name) brings = (refl, λ t. (refl, λ t. (tt, λ e. tt)))
  plan_ready (form.DiskUnsetup device) brings = (refl, λ free. (refl, λ t. (free, λ e. tt)))
  plan_ready (form.Start vol) brings = (refl, λ t. (refl, λ t. (refl, λ t. (tt, λ e. tt))))
  plan_ready (form.Mirror vol disks) brings = (refl, λ t. (tt, λ e. tt))
  plan_ready (form.Prepare vol ndcomirs region) brings = (refl, λ t. (tt, λ e. tt))
  plan_ready (form.Unprepare vol) brings = (refl, λ t. (tt, λ e. tt))
  plan_ready (form.PlexDis plex rm) brings = (refl, λ t. (tt, λ e. tt))
  plan_ready (form.Stop vol) brings = (refl, λ t. (refl, λ t. (tt, λ e. tt)))
  plan_ready (form.PrintM vol) brings = print_ready vol (Records vol)
  plan_ready (form.PrintHt vol) brings = print_ready vol (Hierarchy vol)
  plan_ready (form.Rdpol vol how) brings = policy_ready vol how
  plan_ready (form.RemoveVolume vol) brings = (refl, λ t. (refl, λ t. (refl, λ t. (refl, λ t. (tt, λ e. tt)))))
  plan_ready (form.VxMake text) brings = (refl, λ t. (tt, λ e. tt))
  plan_ready (form.AssistMake vol length attrs disks) brings = (refl, λ t mid. (refl, λ u. (tt, λ e. tt)))
  plan_ready (form.Acting (act.PlexDet plex)) brings = (refl, λ t. (tt, λ e. tt))
  plan_ready (form.Acting (act.PlexAtt vol plex)) brings = (refl, λ t. (tt, λ e. tt))
  plan_ready other brings = tt

module _ (laws : StateLaws) (place : ℕ) where
  -- a stage before others that ends the command
  going_ends : (s : Stage) (disks : List DiskAt) (AreNext : World → Type 0) (old : Moment) (end : End) (new : Moment) → GoesBefore s disks old.world AreNext → Keeps place Every old.world → Stops s disks old end new → Keeps place Every new.world
  going_ends (stage.Make from) disks AreNext old end new goes k stops = stage_stops laws place old new k (stage.Make from) disks end tt stops
  going_ends other disks AreNext old end new goes k stops = calm_ends laws place old new k other disks end goes.0 stops

  runs_kept : (disks : List DiskAt) (stages : List Stage) (finish : Finish) (old : Moment) (views : List View) (end : End) (new : Moment)
      → AreReady stages disks old.world end new.world → Keeps place Every old.world → Runs disks stages finish old views end new → Keeps place Every new.world
  runs_kept disks [] finish old views end new ready k (shows, is, stays) = same_kept laws place old new k (ap (λ (m : Moment). m.world) stays)
  runs_kept disks (s ∷ []) finish old views end new ready k (inl (mid, later, is, (shows, over, stays))) =
      subst (λ (m : Moment). Keeps place Every m.world) (sym stays) (stage_done laws place old mid k s disks ready.0 (subst (λ (m : Moment). StageBrings s old.world m.world) stays (ready.1 over)) is)
  runs_kept disks (s ∷ []) finish old views end new ready k (inr (none, later, stops)) = stage_stops laws place old new k s disks end ready.0 stops
  runs_kept disks (s ∷ t ∷ ss) finish old views end new ready k (inl (mid, later, is, rest)) =
      let next = going place s disks (λ w. AreReady (t ∷ ss) disks w end new.world) old mid ready k is in
      runs_kept disks (t ∷ ss) finish mid views end new next.0 next.1 rest
  runs_kept disks (s ∷ t ∷ ss) finish old views end new ready k (inr (none, later, stops)) = going_ends s disks (λ w. AreReady (t ∷ ss) disks w end new.world) old end new ready k stops

  not_built : (old : Moment) (views : List View) (end : End) (new : Moment) → Keeps place Every old.world → IsNotBuilt old views end new → Keeps place Every new.world
  not_built old views end new k (none, is, stays) = same_kept laws place old new k (ap (λ (m : Moment). m.world) stays)

  plan_kept : (disks : List DiskAt) (plan : Option Plan) (old : Moment) (views : List View) (end : End) (new : Moment) → IsReady plan disks old.world end new.world → Keeps place Every old.world → DoesPlan disks plan old views end new → Keeps place Every new.world
  plan_kept disks None old views end new ready k does = not_built old views end new k does
  plan_kept disks (Some plan) old views end new ready k does = runs_kept disks plan.stages plan.finish old views end new ready k does

  -- ---- commands

  pub form_kept : (dg : Option Word) (f : Form) (old : Moment) (views : List View) (end : End) (new : Moment) → (end ≡ done → BringsSound f old.world new.world) → Keeps place Every old.world → DoesForm place dg f old views end new → Keeps (place + 1) Every new.world
  form_kept dg (form.Calling call) old views end new brings k does = call_kept place call old end new k does.2
  form_kept dg (form.Recover vol) old views end new brings k does = next_running place Every new.world (recover_kept laws place dg vol old views end new k does.1)
  form_kept dg other old views end new brings k does = next_running place Every new.world (plan_kept (disks_of other) (plan_of dg other) old views end new (plan_ready dg old.world end new.world other brings) k does)

left_kept : (place : ℕ) (end : End) (over left : World) → Leaves end over left → Keeps place Every over → Keeps place Every left
left_kept place ends.GroupLost over left gone k = subst (Keeps place Every) (sym gone.1) (group_goes place over)
left_kept place (ends.Lost parts) over left gone k = power_goes place over left gone.1
left_kept place (ends.Done copied parts blocks) over left is k = subst (Keeps place Every) (sym is) k
left_kept place (ends.Refused r) over left is k = subst (Keeps place Every) (sym is) k
left_kept place (ends.Fault told device parts) over left is k = subst (Keeps place Every) (sym is) k
left_kept place ends.ShelfFailed over left is k = subst (Keeps place Every) (sym is) k

pub each_step : StateLaws → EachStepKeepsVolumesSound
each_step laws place c old answer new s brings step =
    all_kept (place + 1) new.world
    (left_kept (place + 1) step.end step.over.world new.world step.leaves
    (form_kept laws place c.group c.form old step.views step.end step.over
    (λ is. subst (λ (w : World). BringsSound c.form old.world w) (subst (λ (e : End). Leaves e step.over.world new.world) is step.leaves) brings)
    (keeps_all place old.world s) step.does))

-- ---- want of memory

module _ (laws : StateLaws) (place : ℕ) where
  still : (old new : Moment) → Keeps place Every old.world → new.world ≡ old.world → Keeps place Every new.world
  still old new k same = subst (Keeps place Every) (sym same) k

  short_kept : (disks : List DiskAt) (stages : List Stage) (end : End) (w : World) (old new : Moment) → AreReady stages disks old.world end w → Keeps place Every old.world → RunsShort disks stages old new → Keeps place Every new.world
  short_kept disks [] end w old new ready k short = absurd short
  short_kept disks (s ∷ []) end w old new ready k (inl (mid, later, is, short)) = absurd short
  short_kept disks (s ∷ []) end w old new ready k (inr wants) = stage_wants place s old new k wants
  short_kept disks (s ∷ t ∷ ss) end w old new ready k (inl (mid, later, is, short)) =
      let next = going place s disks (λ x. AreReady (t ∷ ss) disks x end w) old mid ready k is in
      short_kept disks (t ∷ ss) end w mid new next.0 next.1 short
  short_kept disks (s ∷ t ∷ ss) end w old new ready k (inr wants) = stage_wants place s old new k wants

  plan_wants : (disks : List DiskAt) (plan : Option Plan) (end : End) (w : World) (old new : Moment) → IsReady plan disks old.world end w → Keeps place Every old.world → WantsPlan disks plan old new → Keeps place Every new.world
  plan_wants disks None end w old new ready k same = still old new k same
  plan_wants disks (Some plan) end w old new ready k (inl same) = still old new k same
  plan_wants disks (Some plan) end w old new ready k (inr short) = short_kept disks plan.stages end w old new ready k short

  form_wants : (dg : Option Word) (f : Form) (old new : Moment) → Keeps place Every old.world → WantsForm dg f old new → Keeps place Every new.world
  form_wants dg (form.Calling call) old new k same = still old new k same
  form_wants dg (form.Recover vol) old new k wants = recover_left laws place vol old new k wants
  form_wants dg other old new k wants =
      plan_wants (disks_of other) (plan_of dg other) ends.ShelfFailed new.world old new (plan_ready dg old.world ends.ShelfFailed new.world other (λ (e : ends.ShelfFailed ≡ done). cc)) k wants

pub each_want : StateLaws → EachWantKeepsVolumesSound
each_want laws place c old new s off = all_kept place new.world (form_wants laws place c.group c.form old new (keeps_all place old.world s) off)

-- ---- runs

-- before no command is anything known of volumes
pub idle_sound : (place : ℕ) (w : World) → IsIdle w → IsSoundBefore place w
idle_sound place w idle = record {
  sound = record { stopped = λ g here. not_none g (sym idle.group ∙ here); running = λ name run is. not_none run (sym (ap grouped (idle.volumes name)) ∙ is) };
  disks = λ g here. not_none g (sym idle.group ∙ here);
  order = λ name run is. not_none run (sym (ap grouped (idle.volumes name)) ∙ is);
}

module _ (step : EachStepKeepsVolumesSound) where
  run_sound : (place : ℕ) (old : Moment) (commands : List Command) (answers : List Answer) (last : Moment) (is : IsTranscript place old commands answers last)
      → IsSoundBefore place old.world → EachBringsSound place old commands answers last is → (after : ℕ) × IsSoundBefore after last.world
  run_sound place old [] [] last is s brings = (place, subst (λ (m : Moment). IsSoundBefore place m.world) (sym is) s)
  run_sound place old [] (a ∷ rest) last is s brings = absurd is
  run_sound place old (c ∷ cs) [] last is s brings = absurd is
  run_sound place old (c ∷ cs) (a ∷ rest) last (mid, one, more) s brings = run_sound (place + 1) mid cs rest last more (step place c old a mid s brings.0 one) brings.1

  pub each_run : EachRunKeepsVolumesSound
  each_run place old commands answers last is idle brings = (run_sound place old commands answers last is (idle_sound place old.world idle) brings).1.sound

  pub each_run_leaves : EachRunLeavesVolumesSound
  each_run_leaves place old commands answers last is g left idle brings here stands goes =
      let r = run_sound place old commands answers last is (idle_sound place old.world idle) brings in
      each_leaving r.0 last.world left g r.1 here (inr (stands, inr goes))

  pub each_run_left_off : EachWantKeepsVolumesSound → EachRunLeftOffLeavesVolumesSound
  each_run_left_off want place old commands answers last is c off g left idle brings wants here stands goes =
      let r = run_sound place old commands answers last is (idle_sound place old.world idle) brings in
      each_leaving r.0 off.world left g (want r.0 c last off r.1 wants) here (inr (stands, inr goes))
