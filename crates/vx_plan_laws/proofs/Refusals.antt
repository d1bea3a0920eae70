-- What the stages before one let through, and so why it refuses.
use Rattle.std.proofs.Common.{◌≡◌, ◌⊎◌, Bool, true, false, Option, Some, None, List, [], ◌∷◌, refl, sym, ◌∙◌, ap, subst, inl, inr, if◌then◌else◌}
use Rattle.vx_base.specs.Named.{Word}
use Rattle.vx_config_parts.specs.declared.fault.ObjectFault.{ObjectFault}
use Rattle.vx_config_parts.specs.declared.fault.ObjectFault.TheVariants.{Exists}
use Rattle.vx_rules.specs.References.{has_name}
use Rattle.vx_objects.specs.declared.edit.Edit.{Edit}
use Rattle.vx_objects.specs.declared.edit.Edit.TheVariants.{Make}
use Rattle.vx_objects.specs.Config.{objects_of}
use Rattle.vx_stages.specs.Making.{is_started}
use Rattle.vx_stages.specs.Sources.{Denies}
use Rattle.vx_objects.specs.Edits.{refusal_of}
use Rattle.vx_new_volumes.specs.declared.volume.NewVolume.{NewVolume}
use Rattle.vx_script_words.specs.declared.value.DiskAt.{DiskAt}
use Rattle.vx_script_forms.specs.declared.act.Act.TheVariants as act
use Rattle.vx_script_forms.specs.declared.form.Form.{Form}
use Rattle.vx_script_forms.specs.declared.form.Form.TheVariants as form
use Rattle.vx_script_forms.specs.declared.form.WordPolicy.{WordPolicy}
use Rattle.vx_script_forms.specs.declared.form.WordPolicy.TheVariants as words
use Rattle.vx_answers.specs.declared.answer.End.{End}
use Rattle.vx_answers.specs.declared.answer.View.{View}
use Rattle.vx_answers.specs.declared.refusal.Refusal.{Refusal}
use Rattle.vx_answers.specs.declared.refusal.Refusal.TheVariants as refusal
use Rattle.vx_moments.specs.Commit.{Writing}
use Rattle.vx_moments.specs.Moment.{Moment}
use Rattle.vx_moments.specs.World.{World, Group}
use Rattle.vx_plans.specs.Laws.{WentWell, IsDoneOrRefused, HasCarriers}
use Rattle.vx_plans.specs.Plans.{disks_of, ending, new_volume, plan_of, plan_print}
use Rattle.vx_stages.specs.Refusals.{refusal_from}
use Rattle.vx_stages.specs.Ends.{IsChange, refused}
use Rattle.vx_stages.specs.Stages.{IsDone, Stops, EditsStop, edits_of, joining_edit}
use Rattle.vx_plans.specs.Steps.{Runs, done}
use Rattle.vx_stages.specs.declared.stage.Change.TheVariants as changes
use Rattle.vx_stages.specs.declared.stage.Source.TheVariants as source
use Rattle.vx_stages.specs.declared.stage.Stage.{Stage}
use Rattle.vx_stages.specs.declared.stage.Stage.TheVariants as stage
use Rattle.vx_plans.specs.declared.stages.Finish.{Finish}
use Rattle.vx_plans.specs.declared.stages.Finish.TheVariants.{Hierarchy, Records}
use Rattle.vx_plans.specs.declared.stages.Plan.{Plan}
use Rattle.vx_stages.specs.declared.test.Test.TheVariants as tests
use Rattle.vx_plans.proofs.Complete.{keeps_world, kept_world, each_plan_is_complete}
use Rattle.vx_plan_laws.specs.Refusing.{IsDoneBy, IsPassed, IsTooLong, OfGroup, OneRefuses, Refuses}
use Rattle.vx_plan_laws.proofs.NewVolumes.{added_there}
use Rattle.vx_plan_laws.proofs.Told.{tells_done}
use Rattle.vx_plan_laws.specs.Unbroken.{LetsThrough, PrefersItsPlex}
use Rattle.vx_plan_laws.proofs.Makings.{making_kept}
use Rattle.vx_plan_laws.proofs.Tests.{group_here, let_through, policy_law, removal_law, joining_law, volume_there}
use Rattle.vx_plan_laws.proofs.Volumes.{attach_refuses, detach_refuses, leaving_refuses, mirror_refuses, not_stopped, prepare_refuses, same_refusal, start_refuses, stop_refuses, unprepare_refuses}

-- ---- what a stage needs of those before it

abbrev HasGroup : World → Type 0
HasGroup w = (g : Group) × (w.group ≡ Some g)

-- a stage that changes the configuration finds a group, and what its edits need
abbrev Finds : Stage → List DiskAt → World → Type 0
Finds (stage.Change (changes.Policy vol how)) disks w = HasGroup w × LetsThrough (tests.HasVolume vol) [] w × PrefersItsPlex vol how w
Finds (stage.Change (changes.Remove vol)) disks w = HasGroup w × LetsThrough (tests.HasVolume vol) [] w × LetsThrough (tests.Unrelated vol) [] w
Finds (stage.Make from) disks w = HasGroup w
Finds stage.Join disks w = HasGroup w × LetsThrough tests.JoinLimits disks w
Finds (stage.Start vol) disks w = HasGroup w × LetsThrough (tests.HasVolume vol) [] w
Finds (stage.Mirror mirror) disks w = HasGroup w
Finds (stage.Prepare logs) disks w = HasGroup w
Finds (stage.Unprepare vol) disks w = HasGroup w
Finds (stage.Detach plex) disks w = HasGroup w
Finds (stage.Attach vol plex) disks w = HasGroup w
Finds (stage.Dissociate plex remove) disks w = HasGroup w
Finds (stage.Stop vol) disks w = HasGroup w × LetsThrough (tests.HasVolume vol) [] w
Finds other disks w = Unit {0}

not_done : (r : Refusal) → refused r ≡ done → ⊥
not_done r e = cc

no_refusal : (f : Option ObjectFault) (r : Refusal) → f ≡ None → refusal_from f ≡ Some r → ⊥
no_refusal None r e is = cc
no_refusal (Some f) r e is = cc

by_name : (b : Bool) (f : Option ObjectFault) (name : Word) (r : Refusal) → f ≡ (if b then Some (Exists name) else None) → refusal_from f ≡ Some r → (b ≡ true) × (r ≡ refusal.Exists name)
by_name b f name r is e = within b (subst (λ (f : Option ObjectFault). refusal_from f ≡ Some r) is e)
  where
    within : (b : Bool) → refusal_from (if b then Some (Exists name) else None) ≡ Some r → (b ≡ true) × (r ≡ refusal.Exists name)
    within true e = (refl, cc)
    within false e = absurd (cc)

module _ (old : Moment) (r : Refusal) (new : Moment) where
  -- edits that break no rule are refused as too long
  too_long : (edits : Group → List Edit) (IsWriting : Writing → Type 0) → HasGroup old.world → ((g : Group) → old.world.group ≡ Some g → refusal_of (edits g) (objects_of g.config) ≡ None)
      → EditsStop edits IsWriting old (refused r) new → OfGroup old.world (λ g. IsTooLong (edits g) g r)
  too_long edits IsWriting (g, here) none (inl (gone, ends)) = cc
  too_long edits IsWriting has none (inr (inl ((g, here, inl (s, e, is)), rests))) = absurd (no_refusal (refusal_of (edits g) (objects_of g.config)) s (none g here) e)
  too_long edits IsWriting has none (inr (inl ((g, here, inr long), rests))) = (g, here, long)
  too_long edits IsWriting has none (inr (inr (x, writing, stopped))) = absurd (not_stopped x old r new stopped)

  refuses : (s : Stage) (disks : List DiskAt) → Finds s disks old.world → Stops s disks old (refused r) new → Refuses s disks old r new
  refuses (stage.Change (changes.Policy vol how)) disks (has, there, prefers) stops =
      too_long (λ g. edits_of (changes.Policy vol how) (Some g)) (λ x. IsChange (edits_of (changes.Policy vol how) old.world.group) old.world x) has (λ g here. policy_law old.world g here vol how there prefers) stops
  refuses (stage.Change (changes.Remove vol)) disks (has, there, free) stops =
      too_long (λ g. edits_of (changes.Remove vol) (Some g)) (λ x. IsChange (edits_of (changes.Remove vol) old.world.group) old.world x) has (λ g here. removal_law old.world g here vol there free) stops
  refuses (stage.Make from) disks (g, here) (inl (gone, ends)) = absurd (cc)
  refuses (stage.Make from) disks has (inr (inl ((g, here, inl (s, denied, is)), rests))) = (g, here, inl (subst (λ (x : Refusal). Denies from (is_started old.world) g x) (sym (same_refusal r s is)) denied))
  refuses (stage.Make from) disks has (inr (inl ((g, here, inr (added, adds, inl (s, e, is))), rests))) = (g, here, inr (added, adds, inl (e ∙ ap (λ (s : Refusal). Some s) (sym (same_refusal r s is)))))
  refuses (stage.Make from) disks has (inr (inl ((g, here, inr (added, adds, inr (fine, inl (s, e, is)))), rests))) = absurd (no_refusal (refusal_of (Make added ∷ []) (objects_of g.config)) s (making_kept (is_started old.world) (objects_of g.config) added fine) e)
  refuses (stage.Make from) disks has (inr (inl ((g, here, inr (added, adds, inr (fine, inr long))), rests))) = (g, here, inr (added, adds, inr long))
  refuses (stage.Make from) disks has (inr (inr (x, making, stopped))) = absurd (not_stopped x old r new stopped)
  refuses stage.Join [] finds stops = absurd stops
  refuses stage.Join (p ∷ q ∷ ps) finds stops = absurd stops
  refuses stage.Join (p ∷ []) ((g, here), limits) (inl (gone, ends)) = absurd (cc)
  refuses stage.Join (p ∷ []) (has, limits) (inr (inl ((g, here, inl (s, e, is)), rests))) =
      let taken = by_name (has_name p.disk (objects_of g.config)) (refusal_of (joining_edit p old.world g ∷ []) (objects_of g.config)) p.disk s (joining_law p old.world g here limits) e in
      (g, here, inl (taken.0, same_refusal r s is ∙ taken.1))
  refuses stage.Join (p ∷ []) (has, limits) (inr (inl ((g, here, inr long), rests))) = (g, here, inr long)
  refuses stage.Join (p ∷ []) (has, limits) (inr (inr (x, writing, stopped))) = absurd (not_stopped x old r new stopped)
  refuses (stage.Start vol) disks ((g, here), there) stops = start_refuses old r new vol g here (volume_there old.world g here vol [] there) stops
  refuses (stage.Mirror mirror) disks (g, here) stops = mirror_refuses old r new mirror.vol mirror.disks g here stops
  refuses (stage.Prepare logs) disks (g, here) stops = prepare_refuses old r new logs g here stops
  refuses (stage.Unprepare vol) disks (g, here) stops = unprepare_refuses old r new vol g here stops
  refuses (stage.Detach plex) disks (g, here) stops = detach_refuses old r new plex g here stops
  refuses (stage.Attach vol plex) disks (g, here) stops = attach_refuses old r new vol plex g here stops
  refuses (stage.Dissociate plex remove) disks (g, here) stops = leaving_refuses old r new remove plex g here stops
  refuses (stage.Stop vol) disks ((g, here), there) stops = stop_refuses old r new vol g here (volume_there old.world g here vol [] there) stops
  refuses s disks finds stops = stops

-- ---- a plan

-- what a stage that is done has let through
abbrev Passed : Stage → List DiskAt → World → Type 0
Passed (stage.Gate test) disks w = LetsThrough test disks w
Passed other disks w = Unit {0}

passed : (s : Stage) (disks : List DiskAt) (old mid : Moment) → IsDone s disks old mid → Passed s disks old.world
passed (stage.Gate test) disks old mid is = is.0
passed s disks old mid is = tt

-- a stage before others: one that adds records is done, and any other keeps the world and has let something through
abbrev GoesBefore : Stage → List DiskAt → World → (World → Type 0) → Type 0
GoesBefore (stage.Make from) disks w AreNext = (old mid : Moment) → IsDone (stage.Make from) disks old mid → AreNext mid.world
GoesBefore other disks w AreNext = (keeps_world other ≡ true) × (Passed other disks w → AreNext w)

going : (s : Stage) (disks : List DiskAt) (AreNext : World → Type 0) (old mid : Moment) → GoesBefore s disks old.world AreNext → IsDone s disks old mid → IsPassed s disks old mid × AreNext mid.world
going (stage.Make from) disks AreNext old mid goes is = (is, goes old mid is)
going other disks AreNext old mid goes is = let same = kept_world other disks old mid goes.0 is in (same, subst AreNext (sym same) (goes.1 (passed other disks old mid is)))

-- each stage finds what it needs, once those before it are done
abbrev AreGuarded : List Stage → List DiskAt → World → Type 0
AreGuarded [] disks w = Unit {0}
AreGuarded (s ∷ []) disks w = Finds s disks w
AreGuarded (s ∷ t ∷ ss) disks w = Finds s disks w × GoesBefore s disks w (λ x. AreGuarded (t ∷ ss) disks x)

one_refuses : (disks : List DiskAt) (stages : List Stage) (finish : Finish) (old : Moment) (views : List View) (r : Refusal) (new : Moment)
    → AreGuarded stages disks old.world → Runs disks stages finish old views (refused r) new → OneRefuses stages disks old r new
one_refuses disks [] finish old views r new guarded (shows, is, stays) = absurd (not_done r is)
one_refuses disks (s ∷ []) finish old views r new guarded (inl (mid, later, is, (shows, over, stays))) = absurd (not_done r over)
one_refuses disks (s ∷ []) finish old views r new guarded (inr (none, later, stops)) = inl (refuses old r new s disks guarded stops)
one_refuses disks (s ∷ t ∷ ss) finish old views r new guarded (inl (mid, later, is, rest)) =
    let next = going s disks (λ x. AreGuarded (t ∷ ss) disks x) old mid guarded.1 is in
    inr (mid, next.0, one_refuses disks (t ∷ ss) finish mid views r new next.1 rest)
one_refuses disks (s ∷ t ∷ ss) finish old views r new guarded (inr (none, later, stops)) = inl (refuses old r new s disks guarded.0 stops)

-- each plan is guarded so
abbrev IsGuarded : Option Plan → List DiskAt → World → Type 0
IsGuarded None disks w = Unit {0}
IsGuarded (Some plan) disks w = AreGuarded plan.stages disks w

policy_guarded : (dg : Option Word) (vol : Word) (how : WordPolicy) (w : World) → IsGuarded (plan_of dg (form.Rdpol vol how)) [] w
unfolding plan_of
policy_guarded dg vol words.Round w = (tt, (refl, λ here. (tt, (refl, λ has. (group_here dg [] w here, has, tt)))))
policy_guarded dg vol words.Select w = (tt, (refl, λ here. (tt, (refl, λ has. (group_here dg [] w here, has, tt)))))
policy_guarded dg vol (words.Prefer plex) w = (tt, (refl, λ here. (tt, (refl, λ has. (tt, (refl, λ there. (group_here dg [] w here, has, there)))))))

print_guarded : (dg vol : Option Word) (finish : Finish) (w : World) → IsGuarded (ending (plan_print dg vol) finish) [] w
print_guarded dg None finish w = tt
print_guarded dg (Some vol) finish w = (tt, (refl, λ here. tt))

new_found : (n : NewVolume) (old mid : Moment) → IsDone (stage.Make (source.Volume n)) [] old mid → HasGroup mid.world × LetsThrough (tests.HasVolume n.vol) [] mid.world
new_found n old mid is = let there = added_there n old mid is in ((there.0, there.1), let_through mid.world there.0 there.1 n.vol [] there.2)

plan_guarded : (dg : Option Word) (f : Form) (w : World) → IsGuarded (plan_of dg f) (disks_of f) w
unfolding plan_of
plan_guarded dg (form.Bare vol device) w = (tt, (refl, λ a. (tt, (refl, λ b. (tt, (refl, λ c. tt))))))
plan_guarded dg (form.DgInit name disks) w = (tt, (refl, λ a. (tt, (refl, λ b. (tt, (refl, λ c. (tt, (refl, λ d. (tt, (refl, λ e. (tt, (refl, λ f. tt))))))))))))
plan_guarded dg (form.DgAddDisk name disk) w = (tt, (refl, λ a. (tt, (refl, λ here. (tt, (refl, λ c. (tt, (refl, λ limits. (tt, (refl, λ e. (group_here (Some name) (disk ∷ []) w here, limits)))))))))))
plan_guarded dg (form.DgDeport name) w = (tt, (refl, λ a. (tt, (refl, λ b. tt))))
plan_guarded dg (form.DiskUnsetup device) w = (tt, (refl, λ a. (tt, (refl, λ b. tt))))
plan_guarded dg (form.PrintM vol) w = print_guarded dg vol (Records vol) w
plan_guarded dg (form.PrintHt vol) w = print_guarded dg vol (Hierarchy vol) w
plan_guarded dg (form.Rdpol vol how) w = policy_guarded dg vol how w
plan_guarded dg (form.RemoveVolume vol) w = (tt, (refl, λ here. (tt, (refl, λ has. (tt, (refl, λ stopped. (tt, (refl, λ free. (group_here dg [] w here, has, free)))))))))
plan_guarded dg (form.VxMake text) w = (tt, (refl, λ here. group_here dg [] w here))
plan_guarded dg (form.AssistMake vol length attrs disks) w = (tt, (refl, λ here. (group_here dg [] w here, λ old mid is. (tt, (refl, λ stopped. new_found (new_volume vol length attrs disks) old mid is)))))
plan_guarded dg (form.Start vol) w = (tt, (refl, λ here. (tt, (refl, λ has. (tt, (refl, λ stopped. (group_here dg [] w here, has)))))))
plan_guarded dg (form.Mirror vol disks) w = (tt, (refl, λ here. group_here dg [] w here))
plan_guarded dg (form.Prepare vol ndcomirs region) w = (tt, (refl, λ here. group_here dg [] w here))
plan_guarded dg (form.Unprepare vol) w = (tt, (refl, λ here. group_here dg [] w here))
plan_guarded dg (form.PlexDis plex rm) w = (tt, (refl, λ here. group_here dg [] w here))
plan_guarded dg (form.Stop vol) w = (tt, (refl, λ here. (tt, (refl, λ has. (group_here dg [] w here, has)))))
plan_guarded dg (form.Acting (act.PlexDet plex)) w = (tt, (refl, λ here. group_here dg [] w here))
plan_guarded dg (form.Acting (act.PlexAtt vol plex)) w = (tt, (refl, λ here. group_here dg [] w here))
plan_guarded dg f w = tt

pub each_refusal_is_tested : (dg : Option Word) (f : Form) (plan : Plan) (old : Moment) (views : List View) (r : Refusal) (new : Moment)
    → plan_of dg f ≡ Some plan → Runs (disks_of f) plan.stages plan.finish old views (refused r) new
    → OneRefuses plan.stages (disks_of f) old r new
each_refusal_is_tested dg f plan old views r new is runs =
    one_refuses (disks_of f) plan.stages plan.finish old views r new (subst (λ (o : Option Plan). IsGuarded o (disks_of f) old.world) is (plan_guarded dg f old.world)) runs

pub done_or_tested : (dg : Option Word) (f : Form) (plan : Plan) (old : Moment) (views : List View) (end : End) (new : Moment)
    → plan_of dg f ≡ Some plan → Runs (disks_of f) plan.stages plan.finish old views end new
    → WentWell old new → HasCarriers f old.world
    → IsDoneBy f old end ⊎ ((r : Refusal) × (end ≡ refused r) × OneRefuses plan.stages (disks_of f) old r new)
done_or_tested dg f plan old views end new is runs well has = by (each_plan_is_complete dg f plan old views end new is runs well has)
  where
    by : IsDoneOrRefused end → IsDoneBy f old end ⊎ ((r : Refusal) × (end ≡ refused r) × OneRefuses plan.stages (disks_of f) old r new)
    by (inl (copied, e)) =
        inl (subst (λ (x : End). IsDoneBy f old x) (sym e) (tells_done copied dg f plan old views new is (subst (λ (x : End). Runs (disks_of f) plan.stages plan.finish old views x new) e runs)))
    by (inr (r, e)) = inr (r, e, each_refusal_is_tested dg f plan old views r new is (subst (λ (x : End). Runs (disks_of f) plan.stages plan.finish old views x new) e runs))
