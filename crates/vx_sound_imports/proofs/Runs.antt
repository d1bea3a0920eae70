-- Each command keeps all sound, and so does each run.
use Rattle.std.proofs.Common.{◌≡◌, ◌∙◌, ℕ, ◌+◌, true, List, [], ◌∷◌, ◌++◌, Option, Some, None, refl, sym, ap, subst, inl, inr}
use Rattle.std.specs.Prelude.{Contains}
use Rattle.std.specs.Str.{bytes_eq}
use Rattle.std.proofs.lemmas.Bool.{and_parts}
use Rattle.std.proofs.lemmas.List.{append-nil}
use Rattle.vx_base.specs.Named.{Word}
use Rattle.vx_base.proofs.NamedLemmas.{bytes_eq_self, name_cases}
use Rattle.vx_mask.proofs.Tests.{not_both}
use Rattle.vx_image.specs.Soundness.{IsSoundImage}
use Rattle.vx_image.specs.Bytes.{image_of}
use Rattle.vx_script_words.specs.declared.value.DiskAt.{DiskAt}
use Rattle.vx_script.specs.declared.command.Command.{Command}
use Rattle.vx_script_forms.specs.declared.form.Form.{Form}
use Rattle.vx_script_forms.specs.declared.form.Form.TheVariants as form
use Rattle.vx_answers.specs.declared.answer.Answer.{Answer}
use Rattle.vx_answers.specs.declared.answer.End.{End}
use Rattle.vx_answers.specs.declared.answer.End.TheVariants as ends
use Rattle.vx_answers.specs.declared.answer.View.{View}
use Rattle.vx_moments.specs.Commit.{parties}
use Rattle.vx_moments.specs.Leaving.{PowerGoes, group_gone}
use Rattle.vx_moments.specs.Moment.{Moment}
use Rattle.vx_moments.specs.World.{Group, World}
use Rattle.vx_moments.specs.Group.{image_on, public_of, sectors_of}
use Rattle.vx_moments.specs.Lives.{GroupStands}
use Rattle.vx_plans.specs.Plans.{disks_of, plan_of}
use Rattle.vx_plans.specs.Steps.{DoesForm, IsTranscript, Leaves, Runs, RunsShort, WantsForm, WantsPlan, done}
use Rattle.vx_plans.proofs.Complete.{kept_world}
use Rattle.vx_stages.specs.Stages.{IsDone, Stops}
use Rattle.vx_stages.specs.declared.stage.Stage.{Stage}
use Rattle.vx_stages.specs.declared.stage.Stage.TheVariants as stage
use Rattle.vx_plans.specs.declared.stages.Finish.TheVariants.{Nothing}
use Rattle.vx_plans.specs.declared.stages.Plan.{Plan}
use Rattle.vx_sound.specs.Laws.{IsIdle, WriteNoHeader}
use Rattle.vx_sound.proofs.Commits.{Ends}
use Rattle.vx_sound.proofs.Fewer.{HadEach}
use Rattle.vx_sound.proofs.Settlement.{IsSettled, gone_back, power_back, settled, standing_left}
use Rattle.vx_sound.proofs.Steps.{command_ends, each_step_keeps_the_world_sound, sound_stands}
use Rattle.vx_sound.proofs.Wants.{all_keep_but_last, keeps_or_adds, each_want_keeps_the_world_sound, is_shaped, plan_shaped}
use Rattle.vx_sound_volumes.specs.Laws.{EachStepKeepsVolumesSound, EachWantKeepsVolumesSound}
use Rattle.vx_sound_volumes.specs.Volumes.{AreSoundOn, BringsSound, IsSoundBefore}
use Rattle.vx_sound_volumes.proofs.Leavings.{each_leaving}
use Rattle.vx_sound_volumes.proofs.Parts.{Every, all_kept, image_same, keeps_all, not_none, some_same}
use Rattle.vx_sound_volumes.proofs.Stages.{StateLaws, make_done}
use Rattle.vx_sound_volumes.proofs.Steps.{form_kept, idle_sound}
use Rattle.vx_sound_imports.specs.Laws.{AreDevicesSound, EachImportBringsSound, EachRunKeepsDevicesSound, EachRunLeftOffKeepsDevicesSound, EachStepKeepsAllSound, EachWantKeepsAllSound}
use Rattle.vx_sound_imports.specs.Offered.{AreAllSound, HasSoundOffer, HaveSoundOffers}
use Rattle.vx_sound_imports.proofs.Commits.{public_stays}
use Rattle.vx_sound_imports.proofs.Fewer.{fewer_sound}
use Rattle.vx_sound_imports.proofs.Found.{found_sound, import_safe}
use Rattle.vx_sound_imports.proofs.Writings.{HasWhole}
use Rattle.vx_sound_imports.proofs.Stages.{Settles, standing_settles}
use Rattle.vx_sound_imports.proofs.Recoveries.{recover_left}
use Rattle.vx_sound_imports.proofs.Starts.{wants_known}
use Rattle.vx_sound_imports.proofs.Steps.{form_settles, make_known}
use Rattle.vx_sound_imports.proofs.Volumes.{IsKnown}

known : (place : ℕ) (w : World) → AreAllSound place w → IsKnown w
known place w s = record { standing = s.standing; whole = s.whole; offers = s.offers }

-- ---- imports

-- what an import that is done brings
module _ (dg : Word) (old new : Moment) (k : IsKnown old.world) where
  committed_sound : old.world.group ≡ None → IsDone (stage.Import dg) [] old new → (g : Group) → new.world.group ≡ Some g → AreSoundOn new.world.devices g
  committed_sound none (free, mid, between, (x, is, c)) g here v there started =
      let chained = k.standing.copies dg in
      let safe = import_safe dg old.world old.counts mid.counts x is chained k.standing in
      let found = found_sound dg old.world old.counts mid.counts x is chained (k.offers dg (λ h at same. not_none h (sym none ∙ at))) in
      let stays = λ (name : Word) (n : ℕ). public_stays x c.last mid new c.committing name n ∙ ap (λ (w : World). public_of (w.devices name) n) between.world in
      let now : Group = record { config = x.config; good = c.good; members = parties x; sequence = c.last } in
      let same : now ≡ g = some_same now g (sym c.group ∙ here) in
      let sound : AreSoundOn new.world.devices x.group = λ u one before. subst IsSoundImage (sym (image_same x.group old.world.devices new.world.devices (λ m i n. stays m.device n) u)) (found u one before) in
      let members : x.group.members ≡ parties x = sym (append-nil x.group.members) ∙ ap (λ js. x.group.members ++ js) (sym is.joiners) in
      let own = subst (λ (h : Group). Contains h.config.volumes v) (sym same) there in
      subst (λ (h : Group). IsSoundImage (image_on new.world.devices h v)) same
      (subst (λ ms. IsSoundImage (image_of x.config c.good (sectors_of new.world.devices ms) v)) members (safe.next new.world.devices stays sound c.good c.mask.few v own started))

-- one that is not done brings none
module _ (dg : Word) (old new : Moment) where
  pub stopped_none : {A : Type 0} (end : End) → old.world.group ≡ None → Stops (stage.Import dg) [] old end new → (g : Group) → new.world.group ≡ Some g → A
  stopped_none end none (inl (h, at, ends)) g here = not_none h (sym none ∙ at)
  stopped_none end none (inr (inl (reads, why))) g here = not_none g (sym none ∙ sym (ap (λ (w : World). w.group) reads.0) ∙ here)
  stopped_none end none (inr (inr (mid, between, (x, is, stopped)))) g here = not_none g (sym none ∙ sym (ap (λ (w : World). w.group) between.world) ∙ sym stopped.group ∙ here)

module _ (place : ℕ) (dg : Option Word) (old : Moment) (views : List View) (end : End) (new : Moment) (k : IsKnown old.world) where
  import_brings : (name : Word) → Runs [] (stage.Import name ∷ []) Nothing old views end new → old.world.group ≡ None → (g : Group) → new.world.group ≡ Some g → AreSoundOn new.world.devices g
  import_brings name (inl (mid, later, is, (shows, over, same))) none g here =
      subst (λ (m : Moment). AreSoundOn m.world.devices g) (sym same) (committed_sound name old mid k none is g (ap (λ (m : Moment). m.world.group) (sym same) ∙ here))
  import_brings name (inr (no_views, later, stops)) none g here = stopped_none name old new end none stops g here

  form_brings : (f : Form) → DoesForm place dg f old views end new → BringsSound f old.world new.world
  unfolding plan_of
  form_brings (form.DgImport name) does = import_brings name does
  form_brings other does = tt

-- a command that ends so leaves the world, if it leaves a group
pub left_group : (end : End) (over left : World) → Leaves end over left → (g : Group) → left.group ≡ Some g → left ≡ over
left_group ends.GroupLost over left (stands, is) g here = not_none g (sym (ap (λ (w : World). w.group) is) ∙ here)
left_group (ends.Lost parts) over left (stands, goes) g here = not_none g (sym goes.no_group ∙ here)
left_group (ends.Done copied parts blocks) over left is g here = is
left_group (ends.Refused r) over left is g here = is
left_group (ends.Fault told device parts) over left is g here = is
left_group ends.ShelfFailed over left is g here = is

brings_left : (f : Form) (old over left : World) → BringsSound f old over → ((g : Group) → left.group ≡ Some g → left ≡ over) → BringsSound f old left
brings_left (form.DgImport name) old over left brings same = λ none g here.
    let is = same g here in
    subst (λ (w : World). AreSoundOn w.devices g) (sym is) (brings none g (ap (λ (w : World). w.group) (sym is) ∙ here))
brings_left other old over left brings same = tt

pub each_import : EachImportBringsSound
each_import place c old answer new s step =
    brings_left c.form old.world step.over.world new.world (form_brings place c.group old step.views step.end step.over (known place old.world s) c.form step.does)
    (left_group step.end step.over.world new.world step.leaves)

-- ---- what is left

module _ {P : Word → Type 0} (end : End) (w : World) (s : Settles P end w) (settled_is : IsSettled w) where
  -- the group has left, whose own volumes were sound
  all_offers : (left : World) → ((dg : Word) → HadEach dg w left) → ((g : Group) → w.group ≡ Some g → HasSoundOffer g.config.group w) → HaveSoundOffers left
  all_offers left had own dg away = fewer_sound dg w left (had dg) (settled_is.copies dg) (by w.group refl)
    where
      by : (o : Option Group) → w.group ≡ o → HasSoundOffer dg w
      by None none = s.elsewhere dg (λ g here is. not_none g (sym none ∙ here))
      by (Some g) here = elim (name_cases g.config.group dg) [
        | inl same ↦ subst (λ n. HasSoundOffer n w) same (own g here)
        | inr other ↦ s.elsewhere dg (λ h at is. not_both (subst (λ n. bytes_eq g.config.group n ≡ true) (ap (λ (i : Group). i.config.group) (some_same g h (sym here ∙ at)) ∙ is) (bytes_eq_self g.config.group)) other)
      ]

pub settled_by : (end : End) (w : World) → Ends end w → IsSettled w
settled_by end w (inl stands) = settled w stands
settled_by end w (inr (is, must)) = is

left_known : {P : Word → Type 0} (place : ℕ) (end : End) (over left : World) → Settles P end over → IsSettled over → ((end ≡ done → ⊥) → IsSoundBefore place over) → Leaves end over left → HaveSoundOffers left × HasWhole left
left_known place ends.GroupLost over left s is sound (stands, gone) =
    let before = sound (λ e. cc) in
    subst (λ (w : World). HaveSoundOffers w × HasWhole w) (sym gone) (
      all_offers ends.GroupLost over s is (group_gone over) (gone_back over) (λ g here. s.own g here tt (each_leaving place over (group_gone over) g before here (inr (stands, inl refl)))),
      λ g here. not_none g here,
    )
left_known place (ends.Lost parts) over left s is sound (stands, goes) =
    let before = sound (λ e. cc) in (
      all_offers (ends.Lost parts) over s is left (power_back over left goes is) (λ g here. s.own g here tt (each_leaving place over (group_gone over) g before here (inr (stands, inl refl)))),
      λ g here. not_none g (sym goes.no_group ∙ here),
    )
left_known place (ends.Done copied parts blocks) over left s is sound same = subst (λ (w : World). HaveSoundOffers w × HasWhole w) (sym same) (s.elsewhere, s.whole)
left_known place (ends.Refused r) over left s is sound same = subst (λ (w : World). HaveSoundOffers w × HasWhole w) (sym same) (s.elsewhere, s.whole)
left_known place (ends.Fault told device parts) over left s is sound same = subst (λ (w : World). HaveSoundOffers w × HasWhole w) (sym same) (s.elsewhere, s.whole)
left_known place ends.ShelfFailed over left s is sound same = subst (λ (w : World). HaveSoundOffers w × HasWhole w) (sym same) (s.elsewhere, s.whole)

-- ---- commands

pub each_step : StateLaws → EachStepKeepsVolumesSound → EachStepKeepsAllSound
each_step laws volumes place c old answer new none s step =
    let k = known place old.world s in
    let rest = left_known (place + 1) step.end step.over.world new.world
    (form_settles laws place old step.views step.end step.over k s.volumes c.group c.form none step.does)
    (settled_by step.end step.over.world (command_ends old step.views step.end step.over s.standing place c none step.does))
    (λ lost. all_kept (place + 1) step.over.world (form_kept laws place c.group c.form old step.views step.end step.over (λ is. absurd (lost is)) (keeps_all place old.world s.volumes) step.does))
    step.leaves in
    record {
      standing = each_step_keeps_the_world_sound place c old answer new none s.standing step;
      volumes = volumes place c old answer new s.volumes (each_import place c old answer new s step) step;
      offers = rest.0;
      whole = rest.1;
    }

-- ---- want of memory

module _ (laws : StateLaws) (place : ℕ) where
  -- a stage that is done and keeps the world, or has added records
  done_known : (s : Stage) (disks : List DiskAt) (old mid : Moment) → keeps_or_adds s ≡ true → IsKnown old.world → IsSoundBefore place old.world → IsDone s disks old mid → IsKnown mid.world × IsSoundBefore place mid.world
  done_known (stage.Make from) disks old mid keeps k sound is = (make_known from disks old mid k is, all_kept place mid.world (make_done place from disks old mid (keeps_all place old.world sound) is))
  done_known other disks old mid keeps k sound is =
      let same = sym (kept_world other disks old mid keeps is) in
      (subst IsKnown same k, subst (IsSoundBefore place) same sound)

  short_known : (disks : List DiskAt) (stages : List Stage) (old new : Moment) → all_keep_but_last stages ≡ true → IsKnown old.world → IsSoundBefore place old.world → RunsShort disks stages old new → IsKnown new.world
  short_known disks [] old new shaped k sound short = absurd short
  short_known disks (one ∷ []) old new shaped k sound (inl (mid, later, is, short)) = absurd short
  short_known disks (one ∷ []) old new shaped k sound (inr wants) = wants_known laws place one old new k sound wants
  short_known disks (one ∷ t ∷ ss) old new shaped k sound (inl (mid, later, is, short)) =
      let shapes = and_parts (keeps_or_adds one) (all_keep_but_last (t ∷ ss)) shaped in
      let both = done_known one disks old mid shapes.0 k sound is in
      short_known disks (t ∷ ss) mid new shapes.1 both.0 both.1 short
  short_known disks (one ∷ t ∷ ss) old new shaped k sound (inr wants) = wants_known laws place one old new k sound wants

  plan_known : (disks : List DiskAt) (plan : Option Plan) (old new : Moment) → is_shaped plan ≡ true → IsKnown old.world → IsSoundBefore place old.world → WantsPlan disks plan old new → IsKnown new.world
  plan_known disks None old new shaped k sound same = subst IsKnown (sym same) k
  plan_known disks (Some plan) old new shaped k sound (inl same) = subst IsKnown (sym same) k
  plan_known disks (Some plan) old new shaped k sound (inr short) = short_known disks plan.stages old new shaped k sound short

  form_known : (dg : Option Word) (f : Form) (old new : Moment) → IsKnown old.world → IsSoundBefore place old.world → WantsForm dg f old new → IsKnown new.world
  form_known dg (form.Calling call) old new k sound same = subst IsKnown (sym same) k
  form_known dg (form.Recover vol) old new k sound wants = recover_left laws place vol old new (record { known = k; kept = keeps_all place old.world sound }) wants
  form_known dg other old new k sound wants = plan_known (disks_of other) (plan_of dg other) old new (plan_shaped dg other) k sound wants

pub each_want : StateLaws → EachWantKeepsVolumesSound → EachWantKeepsAllSound
each_want laws volumes place c old new s off =
    let k = form_known laws place c.group c.form old new (known place old.world s) s.volumes off in
    record {
      standing = each_want_keeps_the_world_sound c old new s.standing off;
      volumes = volumes place c old new s.volumes off;
      offers = k.offers;
      whole = k.whole;
    }

-- ---- runs

pub idle_all : (place : ℕ) (w : World) → IsIdle w → AreDevicesSound w → AreAllSound place w
idle_all place w idle sound = record {
  standing = sound_stands w idle sound.copies;
  volumes = idle_sound place w (record { group = idle.group; volumes = idle.volumes });
  offers = sound.offers;
  whole = λ g here. not_none g (sym idle.group ∙ here);
}

-- as the power goes
powerless : (place : ℕ) (w left : World) → AreAllSound place w → GroupStands w → PowerGoes w left → AreDevicesSound left
powerless place w left s stands goes =
    let settles : Settles Every (ends.Lost []) w = lost_settles in
    record {
      copies = (standing_left w left goes (settled w s.standing)).copies;
      offers = all_offers (ends.Lost []) w settles (settled w s.standing) left (power_back w left goes (settled w s.standing))
          (λ g here. settles.own g here tt (each_leaving place w (group_gone w) g s.volumes here (inr (stands, inl refl))));
    }
  where
    lost_settles : Settles Every (ends.Lost []) w
    lost_settles = standing_settles (ends.Lost []) w s.standing s.whole s.offers

module _ (step : EachStepKeepsAllSound) where
  run_sound : (place : ℕ) (old : Moment) (commands : List Command) (answers : List Answer) (last : Moment) → WriteNoHeader commands → AreAllSound place old.world → IsTranscript place old commands answers last → (after : ℕ) × AreAllSound after last.world
  run_sound place old [] [] last none s is = (place, subst (λ (m : Moment). AreAllSound place m.world) (sym is) s)
  run_sound place old [] (a ∷ rest) last none s is = absurd is
  run_sound place old (c ∷ cs) [] last none s is = absurd is
  run_sound place old (c ∷ cs) (a ∷ rest) last none s (mid, one, more) = run_sound (place + 1) mid cs rest last none.1 (step place c old a mid none.0 s one) more

  pub each_run : EachRunKeepsDevicesSound
  each_run place old commands answers last left none idle sound is stands goes =
      let r = run_sound place old commands answers last none (idle_all place old.world idle sound) is in
      powerless r.0 last.world left r.1 stands goes

  pub each_run_left_off : EachWantKeepsAllSound → EachRunLeftOffKeepsDevicesSound
  each_run_left_off want place old commands answers last c off left none idle sound is wants stands goes =
      let r = run_sound place old commands answers last none (idle_all place old.world idle sound) is in
      powerless r.0 off.world left (want r.0 c last off r.1 wants) stands goes
