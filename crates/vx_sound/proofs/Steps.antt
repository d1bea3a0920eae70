-- Each command leaves the world sound, and so does each run.
use Rattle.std.proofs.Common.{◌≡◌, ℕ, ◌+◌, true, false, Bool, List, [], ◌∷◌, ◌++◌, Option, Some, None, MatchOption, refl, sym, subst, inl, inr}
use Rattle.std.specs.Prelude.{is_some}
use Rattle.std.specs.Str.{bytes_eq}
use Rattle.vx_base.specs.Named.{Word}
use Rattle.vx_base.proofs.NamedLemmas.{bytes_eq_same}
use Rattle.vx_mask.proofs.Tests.{or_neither}
use Rattle.vx_config_parts.specs.declared.vol.PolicyName.TheVariants as policy
use Rattle.vx_objects.specs.declared.edit.Edit.{Edit}
use Rattle.vx_script_words.specs.declared.value.DiskAt.{DiskAt}
use Rattle.vx_script_forms.specs.declared.act.Act.TheVariants as act
use Rattle.vx_script_forms.specs.declared.form.Form.{Form}
use Rattle.vx_script_forms.specs.declared.form.Form.TheVariants as form
use Rattle.vx_script_forms.specs.declared.form.WordPolicy.{WordPolicy}
use Rattle.vx_script_forms.specs.declared.form.WordPolicy.TheVariants as words
use Rattle.vx_script.specs.declared.command.Command.{Command}
use Rattle.vx_answers.specs.declared.answer.Answer.{Answer}
use Rattle.vx_answers.specs.declared.answer.End.{End}
use Rattle.vx_answers.specs.declared.answer.End.TheVariants as ends
use Rattle.vx_answers.specs.declared.answer.View.{View}
use Rattle.vx_answers.specs.declared.refusal.Refusal.TheVariants as refusal
use Rattle.vx_moments.specs.World.{World, Volume, Group}
use Rattle.vx_moments.specs.Moment.{Moment}
use Rattle.vx_moments.specs.Leaving.{PowerGoes}
use Rattle.vx_moments.specs.Holding.{has_volume}
use Rattle.vx_moments.proofs.Lone.{none_lone}
use Rattle.vx_moments.specs.Commit.{Writing}
use Rattle.vx_new_volumes.specs.declared.logs.NewLogs.{NewLogs}
use Rattle.vx_new_volumes.specs.declared.mirror.NewPlex.{NewPlex}
use Rattle.vx_plans.specs.Plans.{new_logs, new_volume, plan_of, plan_print}
use Rattle.vx_stages.specs.Records.{devices_of}
use Rattle.vx_stages.specs.Ends.{IsChange}
use Rattle.vx_stages.specs.Stages.{IsDone, Stops, EditsStop, edits_of, joining_edit, IsJoining, IsCreating}
use Rattle.vx_plans.specs.Steps.{Runs, Leaves, IsNotBuilt, DoesPlan, DoesForm, Does, Step, IsTranscript}
use Rattle.vx_stages.specs.Tests.{fails, in_use, is_here, is_volume, unless}
use Rattle.vx_plans.specs.declared.stages.Finish.{Finish}
use Rattle.vx_plans.specs.declared.stages.Finish.TheVariants.{Hierarchy, Nothing, Records}
use Rattle.vx_stages.specs.declared.stage.Change.{Change}
use Rattle.vx_stages.specs.declared.stage.Change.TheVariants as changes
use Rattle.vx_stages.specs.declared.stage.Source.{Source}
use Rattle.vx_stages.specs.declared.stage.Source.TheVariants as source
use Rattle.vx_stages.specs.declared.stage.Stage.{Stage}
use Rattle.vx_stages.specs.declared.stage.Stage.TheVariants as stage
use Rattle.vx_stages.specs.declared.test.Test.TheVariants as tests
use Rattle.vx_sound.specs.Laws.{FormWritesNoHeader, WriteNoHeader, IsIdle}
use Rattle.vx_sound.specs.Sound.{AreSound}
use Rattle.vx_sound.specs.Standing.{IsLeading, IsStanding}
use Rattle.vx_sound.proofs.Headers.{never_some}
use Rattle.vx_sound.proofs.Commits.{Ends, commit_done, commit_stopped, change_ready, change_unnamed, make_ready, make_unnamed, import_ready, import_unnamed, imported_led, join_unnamed}
use Rattle.vx_sound.proofs.Devices.{standing_image, standing_torn, standing_wiped}
use Rattle.vx_sound.proofs.Joiners.{all_unheld, all_blank, room_for, ready_join, ready_create}
use Rattle.vx_sound.proofs.Ready.{IsReady}
use Rattle.vx_sound.proofs.Recoveries.{recover_ends}
use Rattle.vx_sound.proofs.Runs.{AreCalm, AllPassed, Through, runs_through}
use Rattle.vx_sound.proofs.Settlement.{settled, standing_gone, standing_left}
use Rattle.vx_sound.proofs.Names.{IsApart, create_apart}
use Rattle.vx_sound.proofs.Logs.{prepare_done, prepare_ends, unprepare_done, unprepare_ends}
use Rattle.vx_sound.proofs.Leaving.{leaving_done, leaving_ends}
use Rattle.vx_sound.proofs.Plexes.{attach_ends, detach_done, detach_ends}
use Rattle.vx_sound.proofs.Running.{mirror_ends, start_ends, stop_done, stop_ends}
use Rattle.vx_sound.proofs.Volumes.{standing_bare, standing_served}

same_ends : (end : End) (w v : World) → v ≡ w → IsStanding w → Ends end v
same_ends end w v same s = inl (subst IsStanding (sym same) s)

-- ---- what tests tell

pub no_group : (disks : List DiskAt) (w : World) → fails tests.NoGroup disks w ≡ None → w.group ≡ None
unfolding fails
no_group disks w passed = by w.group passed
  where
    by : (g : Option Group) → in_use g ≡ None → g ≡ None
    by None e = refl
    by (Some g) e = never_some None _ refl (sym e)

pub group_here : (dg : Word) (disks : List DiskAt) (w : World) (g : Group) → w.group ≡ Some g → fails (tests.GroupIs (Some dg)) disks w ≡ None → g.config.group ≡ dg
unfolding fails
group_here dg disks w g here passed =
    bytes_eq_same g.config.group dg (holds (bytes_eq g.config.group dg) (subst (λ (o : Option Group). unless (is_here (Some dg) o) (refusal.NoGroup (Some dg)) ≡ None) here passed))
  where
    holds : (b : Bool) → unless b (refusal.NoGroup (Some dg)) ≡ None → b ≡ true
    holds true e = refl
    holds false e = never_some None (refusal.NoGroup (Some dg)) refl (sym e)

pub not_recorded : (w : World) (vol : Word) → is_volume vol w ≡ false → has_volume w.group vol ≡ false
not_recorded w vol e = (or_neither (is_some (w.volumes vol)) (has_volume w.group vol) e).1

pub not_started : (w : World) (vol : Word) → is_volume vol w ≡ false → w.volumes vol ≡ None
not_started w vol e = by (w.volumes vol) (or_neither (is_some (w.volumes vol)) (has_volume w.group vol) e).0
  where
    by : (o : Option Volume) → is_some o ≡ false → o ≡ None
    by None e = refl
    by (Some v) e = cc

-- ---- the last stage

-- a stage alone
one_stage : (s : Stage) (disks : List DiskAt) (finish : Finish) (old : Moment) (views : List View) (end : End) (new : Moment)
    → ((m : Moment) → IsDone s disks old m → IsStanding m.world) → (Stops s disks old end new → Ends end new.world) → Runs disks (s ∷ []) finish old views end new → Ends end new.world
one_stage s disks finish old views end new done stops (inl (m, later, is, (shows, over, same))) = inl (subst (λ (n : Moment). IsStanding n.world) (sym same) (done m is))
one_stage s disks finish old views end new done stops (inr (none, later, is)) = stops is

-- edits that are committed, refused or stopped
edits_end : (edits : Group → List Edit) (IsWriting : Writing → Type 0) (old : Moment) (end : End) (new : Moment) → IsStanding old.world → ((x : Writing) → IsWriting x → IsReady x old.world) → EditsStop edits IsWriting old end new → Ends end new.world
edits_end edits IsWriting old end new s ready (inl (none, ends)) = same_ends end old.world new.world ends.1.stays.world s
edits_end edits IsWriting old end new s ready (inr (inl (why, rests))) = same_ends end old.world new.world rests.stays.world s
edits_end edits IsWriting old end new s ready (inr (inr (x, is, stopped))) = commit_stopped x old end new s (ready x is) stopped

change_ends : (change : Change) (disks : List DiskAt) (finish : Finish) (old : Moment) (views : List View) (end : End) (new : Moment) → IsStanding old.world → Runs disks (stage.Change change ∷ []) finish old views end new → Ends end new.world
change_ends change disks finish old views end new s runs =
    one_stage (stage.Change change) disks finish old views end new
    (λ m done. commit_done done.0 old m s (change_ready change old.world done.0 s done.1) (change_unnamed change old.world done.0 s done.1) done.2)
    (λ stops. edits_end (λ g. edits_of change (Some g)) (λ x. IsChange (edits_of change old.world.group) old.world x) old end new s (λ x is. change_ready change old.world x s is) stops)
    runs

pub make_stands : (from : Source) (disks : List DiskAt) (old m : Moment) → IsStanding old.world → IsDone (stage.Make from) disks old m → IsStanding m.world
make_stands from disks old m s done = commit_done done.0 old m s (make_ready from old.world done.0 s done.1) (make_unnamed from old.world done.0 s done.1) done.2

make_stops : (from : Source) (disks : List DiskAt) (old : Moment) (end : End) (new : Moment) → IsStanding old.world → Stops (stage.Make from) disks old end new → Ends end new.world
make_stops from disks old end new s (inl (none, ends)) = same_ends end old.world new.world ends.1.stays.world s
make_stops from disks old end new s (inr (inl (why, rests))) = same_ends end old.world new.world rests.stays.world s
make_stops from disks old end new s (inr (inr (x, is, stopped))) = commit_stopped x old end new s (make_ready from old.world x s is) stopped

make_ends : (from : Source) (disks : List DiskAt) (finish : Finish) (old : Moment) (views : List View) (end : End) (new : Moment) → IsStanding old.world → Runs disks (stage.Make from ∷ []) finish old views end new → Ends end new.world
make_ends from disks finish old views end new s runs = one_stage (stage.Make from) disks finish old views end new (λ m done. make_stands from disks old m s done) (λ stops. make_stops from disks old end new s stops) runs

image_ends : (name : Word) (sectors : ℕ) (disks : List DiskAt) (finish : Finish) (old : Moment) (views : List View) (end : End) (new : Moment) → IsStanding old.world → Runs disks (stage.MakeImage name sectors ∷ []) finish old views end new → Ends end new.world
image_ends name sectors disks finish old views end new s runs =
    one_stage (stage.MakeImage name sectors) disks finish old views end new
    (λ m done. standing_image name sectors old.world m.world s done.0 done.1)
    (λ stops. elim stops [ inl refused ↦ same_ends end old.world new.world refused.1.1.stays.world s | inr failed ↦ same_ends end old.world new.world failed.0 s ])
    runs

import_ends : (dg : Word) (disks : List DiskAt) (finish : Finish) (old : Moment) (views : List View) (end : End) (new : Moment) → IsStanding old.world → Runs disks (stage.Import dg ∷ []) finish old views end new → Ends end new.world
import_ends dg disks finish old views end new s runs =
    one_stage (stage.Import dg) disks finish old views end new
    (λ m done.
    let mid = done.1 in
    let same = sym done.2.world in
    commit_done done.3.0 mid m (subst IsStanding same s) (subst (λ (w : World). IsReady done.3.0 w) same (import_ready dg old.world done.3.0 old.counts mid.counts s done.3.1)) (subst (λ (w : World). IsApart done.3.0.config w) same (import_unnamed dg old.world done.3.0 old.counts mid.counts done.3.1)) done.3.2)
    stops runs
  where
    stops : Stops (stage.Import dg) disks old end new → Ends end new.world
    stops (inl (g, here, ends)) = same_ends end old.world new.world ends.1.stays.world s
    stops (inr (inl (reads, why))) = same_ends end old.world new.world reads.0 s
    stops (inr (inr (mid, between, (x, is, stopped)))) =
        let same = sym between.world in
        commit_stopped x mid end new (subst IsStanding same s) (subst (λ (w : World). IsReady x w) same (import_ready dg old.world x old.counts mid.counts s is)) stopped

-- ---- the plans

-- all before the last stage left the world; the last goes on
at_last : (calm rest : List Stage) (disks : List DiskAt) (finish : Finish) (old : Moment) (views : List View) (end : End) (new : Moment) → IsStanding old.world
    → ((mid : Moment) → IsStanding mid.world → AllPassed calm disks mid.world → Runs disks rest finish mid views end new → Ends end new.world)
    → Through calm rest disks finish old.world views end new → Ends end new.world
at_last calm rest disks finish old views end new s goes (inl stays) = same_ends end old.world new.world stays s
at_last calm rest disks finish old views end new s goes (inr (mid, same, passed, runs)) =
    goes mid (subst IsStanding (sym same) s) (subst (λ (w : World). AllPassed calm disks w) (sym same) passed) runs

module _ (views : List View) (end : End) (new : Moment) where
  bare_ends : (vol name : Word) (mid : Moment) → IsStanding mid.world → AllPassed (stage.Take name ∷ stage.LookBlank name ∷ stage.Gate (tests.Sized name) ∷ []) [] mid.world → Runs [] (stage.StartBare vol name ∷ []) Nothing mid views end new → Ends end new.world
  bare_ends vol name mid s passed runs =
      one_stage (stage.StartBare vol name) [] Nothing mid views end new
      (λ m done. standing_bare vol name mid.world m.world s (not_started mid.world vol done.0) (not_recorded mid.world vol done.0) passed.1.0 (λ member. passed.0.1.0 (inr member)) done.1)
      (λ stops. same_ends end mid.world new.world stops.1.1.stays.world s)
      runs

  wipe_ends : (name : Word) (mid : Moment) → IsStanding mid.world → AllPassed (stage.Take name ∷ stage.LookHeaded name ∷ []) [] mid.world → Runs [] (stage.Wipe name ∷ []) Nothing mid views end new → Ends end new.world
  wipe_ends name mid s passed runs =
      one_stage (stage.Wipe name) [] Nothing mid views end new
      (λ m done. standing_wiped name mid.world m.world s (λ member. passed.0.1.0 (inr member)) done.0)
      (λ stops. inl (standing_torn name mid.world new.world s (λ member. passed.0.1.0 (inr member)) stops.0))
      runs

  deport_ends : (mid : Moment) → IsStanding mid.world → Runs [] (stage.LetGo ∷ []) Nothing mid views end new → Ends end new.world
  deport_ends mid s runs =
      one_stage stage.LetGo [] Nothing mid views end new
      (λ m done. subst IsStanding (sym done.0) (standing_gone mid.world (settled mid.world s)))
      (λ stops. absurd stops)
      runs

  init_ends : (dg : Word) (disks : List DiskAt) (mid : Moment) → IsStanding mid.world
      → AllPassed (stage.TakeDisks ∷ stage.LookDisks ∷ stage.Gate tests.NoGroup ∷ stage.Gate (tests.GroupLimits dg) ∷ stage.Search dg ∷ stage.Gate (tests.GroupRecords dg) ∷ []) disks mid.world
      → Runs disks (stage.Create dg ∷ []) Nothing mid views end new → Ends end new.world
  init_ends dg disks mid s passed runs =
      let ready = λ (x : Writing) (is : IsCreating dg disks mid.world x).
      ready_create dg disks mid.world x is (no_group disks mid.world passed.1.1.0) (all_unheld mid.world [] (devices_of disks) passed.0) (all_blank mid.world (devices_of disks) passed.1.0) passed.1.1.1.1.0 in
      one_stage (stage.Create dg) disks Nothing mid views end new
      (λ m done. commit_done done.1.0 mid m s (ready done.1.0 done.1.1) (create_apart mid.world dg disks done.1.0.config done.1.1.records) done.1.2)
      (λ stops. elim stops [
        | inl here ↦ same_ends end mid.world new.world here.2.1.stays.world s
        | inr stopped ↦ commit_stopped stopped.0 mid end new s (ready stopped.0 stopped.1) stopped.2
      ])
      runs

  add_ends : (dg : Word) (p : DiskAt) (mid : Moment) → IsStanding mid.world
      → AllPassed (stage.TakeDisks ∷ stage.Gate (tests.GroupIs (Some dg)) ∷ stage.LookDisks ∷ stage.Gate tests.JoinLimits ∷ stage.Search dg ∷ []) (p ∷ []) mid.world
      → Runs (p ∷ []) (stage.Join ∷ []) Nothing mid views end new → Ends end new.world
  add_ends dg p mid s passed runs =
      let ready = λ (x : Writing) (is : IsJoining p mid.world x).
      ready_join p dg mid.world x is (imported_led mid.world x.group s is.group) (room_for (p ∷ []) mid.world x.group is.group passed.1.1.1.0)
      (group_here dg (p ∷ []) mid.world x.group is.group passed.1.0) passed.0.0.1.0 passed.1.1.0.0 passed.1.1.1.1.0 in
      one_stage stage.Join (p ∷ []) Nothing mid views end new
      (λ m done. commit_done done.0 mid m s (ready done.0 done.1) (join_unnamed p mid.world done.0 s done.1) done.2)
      (λ stops. edits_end (λ g. joining_edit p mid.world g ∷ []) (λ x. IsJoining p mid.world x) mid end new s ready stops)
      runs

  starting_ends : (vol : Word) (mid : Moment) → IsStanding mid.world → Runs [] (stage.Start vol ∷ []) Nothing mid views end new → Ends end new.world
  starting_ends vol mid s runs = one_stage (stage.Start vol) [] Nothing mid views end new (λ m done. absurd done) (λ stops. start_ends mid end new s vol stops) runs

  -- records are added, and a volume is started
  new_ends : (from : Source) (vol : Word) (mid : Moment) → IsStanding mid.world → Runs [] (stage.Make from ∷ stage.Gate (tests.Stopped vol) ∷ stage.Start vol ∷ []) Nothing mid views end new → Ends end new.world
  new_ends from vol mid s (inl (m, later, is, runs)) =
      at_last (stage.Gate (tests.Stopped vol) ∷ []) (stage.Start vol ∷ []) [] Nothing m views end new (make_stands from [] mid m s is) (λ last t passed more. starting_ends vol last t more)
      (runs_through (stage.Gate (tests.Stopped vol) ∷ []) (stage.Start vol ∷ []) [] Nothing m views end new (refl, tt) runs)
  new_ends from vol mid s (inr (none, later, stops)) = make_stops from [] mid end new s stops

  stopping_ends : (dg : Option Word) (vol : Word) (mid : Moment) → IsStanding mid.world → AllPassed (stage.Gate (tests.GroupIs dg) ∷ stage.Gate (tests.HasVolume vol) ∷ []) [] mid.world → Runs [] (stage.Stop vol ∷ []) Nothing mid views end new → Ends end new.world
  stopping_ends dg vol mid s passed runs = one_stage (stage.Stop vol) [] Nothing mid views end new (λ m done. stop_done vol mid s m done) (λ stops. stop_ends vol mid s end new stops) runs

  mirroring_ends : (mirror : NewPlex) (mid : Moment) → IsStanding mid.world → Runs [] (stage.Mirror mirror ∷ []) Nothing mid views end new → Ends end new.world
  mirroring_ends mirror mid s runs = one_stage (stage.Mirror mirror) [] Nothing mid views end new (λ m done. absurd done) (λ stops. mirror_ends mid end new s mirror.vol mirror.disks stops) runs

  preparing_ends : (logs : NewLogs) (mid : Moment) → IsStanding mid.world → Runs [] (stage.Prepare logs ∷ []) Nothing mid views end new → Ends end new.world
  preparing_ends logs mid s runs = one_stage (stage.Prepare logs) [] Nothing mid views end new (λ m done. prepare_done mid s logs m done) (λ stops. prepare_ends mid s end new logs stops) runs

  unpreparing_ends : (vol : Word) (mid : Moment) → IsStanding mid.world → Runs [] (stage.Unprepare vol ∷ []) Nothing mid views end new → Ends end new.world
  unpreparing_ends vol mid s runs = one_stage (stage.Unprepare vol) [] Nothing mid views end new (λ m done. unprepare_done mid s vol m done) (λ stops. unprepare_ends mid s end new vol stops) runs

  detaching_ends : (plex : Word) (mid : Moment) → IsStanding mid.world → Runs [] (stage.Detach plex ∷ []) Nothing mid views end new → Ends end new.world
  detaching_ends plex mid s runs = one_stage (stage.Detach plex) [] Nothing mid views end new (λ m done. detach_done mid s plex m done) (λ stops. detach_ends mid s end new plex stops) runs

  dissociating_ends : (remove : Bool) (plex : Word) (mid : Moment) → IsStanding mid.world → Runs [] (stage.Dissociate plex remove ∷ []) Nothing mid views end new → Ends end new.world
  dissociating_ends remove plex mid s runs =
      one_stage (stage.Dissociate plex remove) [] Nothing mid views end new (λ m done. leaving_done mid s remove plex m done) (λ stops. leaving_ends mid s end new remove plex stops) runs

  attaching_ends : (vol plex : Word) (mid : Moment) → IsStanding mid.world → Runs [] (stage.Attach vol plex ∷ []) Nothing mid views end new → Ends end new.world
  attaching_ends vol plex mid s runs = one_stage (stage.Attach vol plex) [] Nothing mid views end new (λ m done. absurd done) (λ stops. attach_ends mid s vol plex end new stops) runs

  shown_ends : (finish : Finish) (mid : Moment) → IsStanding mid.world → Runs [] [] finish mid views end new → Ends end new.world
  shown_ends finish mid s runs = inl (subst (λ (n : Moment). IsStanding n.world) (sym runs.2) s)

-- ---- each form

module _ (old : Moment) (views : List View) (end : End) (new : Moment) (s : IsStanding old.world) where
  not_built : IsNotBuilt old views end new → Ends end new.world
  not_built is = inl (subst (λ (n : Moment). IsStanding n.world) (sym is.2) s)

  print_ends : (dg vol : Option Word) (finish : Finish) → Runs [] (plan_print dg vol) finish old views end new → Ends end new.world
  print_ends dg None finish does = at_last (stage.Gate (tests.GroupIs dg) ∷ []) [] [] finish old views end new s
      (λ mid t passed runs. shown_ends views end new finish mid t runs)
      (runs_through (stage.Gate (tests.GroupIs dg) ∷ []) [] [] finish old views end new (refl, tt) does)
  print_ends dg (Some vol) finish does = at_last (stage.Gate (tests.GroupIs dg) ∷ stage.Gate (tests.HasVolume vol) ∷ []) [] [] finish old views end new s
      (λ mid t passed runs. shown_ends views end new finish mid t runs)
      (runs_through (stage.Gate (tests.GroupIs dg) ∷ stage.Gate (tests.HasVolume vol) ∷ []) [] [] finish old views end new (refl, (refl, tt)) does)

  -- gates, and a change
  gated : (calm : List Stage) (change : Change) → AreCalm calm → Runs [] (calm ++ stage.Change change ∷ []) Nothing old views end new → Ends end new.world
  gated calm change are runs = at_last calm (stage.Change change ∷ []) [] Nothing old views end new s (λ mid t passed more. change_ends change [] Nothing mid views end new t more) (runs_through calm (stage.Change change ∷ []) [] Nothing old views end new are runs)

  policy_ends : (dg : Option Word) (vol : Word) (how : WordPolicy) → DoesPlan [] (plan_of dg (form.Rdpol vol how)) old views end new → Ends end new.world
  unfolding plan_of
  policy_ends dg vol words.Round does = gated (stage.Gate (tests.GroupIs dg) ∷ stage.Gate (tests.HasVolume vol) ∷ []) (changes.Policy vol policy.Round) (refl, (refl, tt)) does
  policy_ends dg vol words.Select does = gated (stage.Gate (tests.GroupIs dg) ∷ stage.Gate (tests.HasVolume vol) ∷ []) (changes.Policy vol policy.Select) (refl, (refl, tt)) does
  policy_ends dg vol (words.Prefer plex) does = gated (stage.Gate (tests.GroupIs dg) ∷ stage.Gate (tests.HasVolume vol) ∷ stage.Gate (tests.HasPlex vol plex) ∷ []) (changes.Policy vol (policy.Prefer plex)) (refl, (refl, (refl, tt))) does

  form_ends : (place : ℕ) (dg : Option Word) (f : Form) → FormWritesNoHeader f → DoesForm place dg f old views end new → Ends end new.world
  unfolding plan_of
  form_ends place dg (form.Calling call) none does = inl (standing_served place call old end new none s does.2)
  form_ends place dg (form.MkImage device length) none does = image_ends device length [] Nothing old views end new s does
  form_ends place dg (form.Bare vol device) none does =
      let calm = stage.Take device ∷ stage.LookBlank device ∷ stage.Gate (tests.Sized device) ∷ [] in
      at_last calm (stage.StartBare vol device ∷ []) [] Nothing old views end new s (bare_ends views end new vol device) (runs_through calm (stage.StartBare vol device ∷ []) [] Nothing old views end new (refl, (refl, (refl, tt))) does)
  form_ends place dg (form.DgInit name disks) none does =
      let calm = stage.TakeDisks ∷ stage.LookDisks ∷ stage.Gate tests.NoGroup ∷ stage.Gate (tests.GroupLimits name) ∷ stage.Search name ∷ stage.Gate (tests.GroupRecords name) ∷ [] in
      at_last calm (stage.Create name ∷ []) disks Nothing old views end new s (init_ends views end new name disks) (runs_through calm (stage.Create name ∷ []) disks Nothing old views end new (refl, (refl, (refl, (refl, (refl, (refl, tt)))))) does)
  form_ends place dg (form.DgAddDisk name disk) none does =
      let calm = stage.TakeDisks ∷ stage.Gate (tests.GroupIs (Some name)) ∷ stage.LookDisks ∷ stage.Gate tests.JoinLimits ∷ stage.Search name ∷ [] in
      at_last calm (stage.Join ∷ []) (disk ∷ []) Nothing old views end new s (add_ends views end new name disk) (runs_through calm (stage.Join ∷ []) (disk ∷ []) Nothing old views end new (refl, (refl, (refl, (refl, (refl, tt))))) does)
  form_ends place dg (form.DgImport name) none does = import_ends name [] Nothing old views end new s does
  form_ends place dg (form.DgDeport name) none does =
      let calm = stage.Gate (tests.GroupIs (Some name)) ∷ stage.Gate tests.NoneStarted ∷ [] in
      at_last calm (stage.LetGo ∷ []) [] Nothing old views end new s (λ mid t passed runs. deport_ends views end new mid t runs) (runs_through calm (stage.LetGo ∷ []) [] Nothing old views end new (refl, (refl, tt)) does)
  form_ends place dg (form.DiskUnsetup device) none does =
      let calm = stage.Take device ∷ stage.LookHeaded device ∷ [] in
      at_last calm (stage.Wipe device ∷ []) [] Nothing old views end new s (wipe_ends views end new device) (runs_through calm (stage.Wipe device ∷ []) [] Nothing old views end new (refl, (refl, tt)) does)
  form_ends place dg (form.PrintM vol) none does = print_ends dg vol (Records vol) does
  form_ends place dg (form.Rdpol vol how) none does = policy_ends dg vol how does
  form_ends place dg (form.RemoveVolume vol) none does =
      gated (stage.Gate (tests.GroupIs dg) ∷ stage.Gate (tests.HasVolume vol) ∷ stage.Gate (tests.Stopped vol) ∷ stage.Gate (tests.Unrelated vol) ∷ []) (changes.Remove vol) (refl, (refl, (refl, (refl, tt)))) does
  form_ends place dg (form.VxMake text) none does =
      let calm = stage.Gate (tests.GroupIs dg) ∷ [] in
      let from = source.Text text in
      at_last calm (stage.Make from ∷ []) [] Nothing old views end new s (λ mid t passed runs. make_ends from [] Nothing mid views end new t runs) (runs_through calm (stage.Make from ∷ []) [] Nothing old views end new (refl, tt) does)
  form_ends place dg (form.PrintHt vol) none does = print_ends dg vol (Hierarchy vol) does
  form_ends place dg (form.AssistMake vol length attrs disks) none does =
      let from = source.Volume (new_volume vol length attrs disks) in
      let calm = stage.Gate (tests.GroupIs dg) ∷ [] in
      let rest = stage.Make from ∷ stage.Gate (tests.Stopped vol) ∷ stage.Start vol ∷ [] in
      at_last calm rest [] Nothing old views end new s (λ mid t passed runs. new_ends views end new from vol mid t runs) (runs_through calm rest [] Nothing old views end new (refl, tt) does)
  form_ends place dg (form.Mirror vol disks) none does =
      let mirror : NewPlex = record { vol = vol; disks = disks } in
      let calm = stage.Gate (tests.GroupIs dg) ∷ [] in
      at_last calm (stage.Mirror mirror ∷ []) [] Nothing old views end new s (λ mid t passed runs. mirroring_ends views end new mirror mid t runs) (runs_through calm (stage.Mirror mirror ∷ []) [] Nothing old views end new (refl, tt) does)
  form_ends place dg (form.Start vol) none does =
      let calm = stage.Gate (tests.GroupIs dg) ∷ stage.Gate (tests.HasVolume vol) ∷ stage.Gate (tests.Stopped vol) ∷ [] in
      at_last calm (stage.Start vol ∷ []) [] Nothing old views end new s (λ mid t passed runs. starting_ends views end new vol mid t runs) (runs_through calm (stage.Start vol ∷ []) [] Nothing old views end new (refl, (refl, (refl, tt))) does)
  form_ends place dg (form.Stop vol) none does =
      let calm = stage.Gate (tests.GroupIs dg) ∷ stage.Gate (tests.HasVolume vol) ∷ [] in
      at_last calm (stage.Stop vol ∷ []) [] Nothing old views end new s (stopping_ends views end new dg vol) (runs_through calm (stage.Stop vol ∷ []) [] Nothing old views end new (refl, (refl, tt)) does)
  form_ends place dg (form.PlexDis plex rm) none does =
      let calm = stage.Gate (tests.GroupIs dg) ∷ [] in
      at_last calm (stage.Dissociate plex rm ∷ []) [] Nothing old views end new s (λ mid t passed runs. dissociating_ends views end new rm plex mid t runs) (runs_through calm (stage.Dissociate plex rm ∷ []) [] Nothing old views end new (refl, tt) does)
  form_ends place dg (form.Prepare vol ndcomirs region) none does =
      let logs = new_logs vol ndcomirs region in
      let calm = stage.Gate (tests.GroupIs dg) ∷ [] in
      at_last calm (stage.Prepare logs ∷ []) [] Nothing old views end new s (λ mid t passed runs. preparing_ends views end new logs mid t runs) (runs_through calm (stage.Prepare logs ∷ []) [] Nothing old views end new (refl, tt) does)
  form_ends place dg (form.Unprepare vol) none does =
      let calm = stage.Gate (tests.GroupIs dg) ∷ [] in
      at_last calm (stage.Unprepare vol ∷ []) [] Nothing old views end new s (λ mid t passed runs. unpreparing_ends views end new vol mid t runs) (runs_through calm (stage.Unprepare vol ∷ []) [] Nothing old views end new (refl, tt) does)
  form_ends place dg (form.AddMir vol disks) none does = not_built does
  form_ends place dg (form.Dis snap) none does = not_built does
  form_ends place dg (form.Split snap) none does = not_built does
  form_ends place dg (form.PrintSnaps vol) none does = not_built does
  form_ends place dg (form.Recover vol) none does = recover_ends dg vol old views end new s does.1
  form_ends place dg (form.Acting (act.PlexDet plex)) none does =
      let calm = stage.Gate (tests.GroupIs dg) ∷ [] in
      at_last calm (stage.Detach plex ∷ []) [] Nothing old views end new s (λ mid t passed runs. detaching_ends views end new plex mid t runs) (runs_through calm (stage.Detach plex ∷ []) [] Nothing old views end new (refl, tt) does)
  form_ends place dg (form.Acting (act.PlexAtt vol plex)) none does =
      let calm = stage.Gate (tests.GroupIs dg) ∷ [] in
      at_last calm (stage.Attach vol plex ∷ []) [] Nothing old views end new s (λ mid t passed runs. attaching_ends views end new vol plex mid t runs) (runs_through calm (stage.Attach vol plex ∷ []) [] Nothing old views end new (refl, tt) does)
  form_ends place dg (form.Acting (act.SnapMake vol snap plex)) none does = not_built does
  form_ends place dg (form.Acting (act.Reattach snap vol)) none does = not_built does
  form_ends place dg (form.Acting (act.Restore vol snap)) none does = not_built does
  form_ends place dg (form.Acting (act.Snapback snap from_replica)) none does = not_built does
  form_ends place dg (form.Sessions block) none does = not_built does

  pub command_ends : (place : ℕ) (c : Command) → FormWritesNoHeader c.form → Does place c old views end new → Ends end new.world
  command_ends place c none does = form_ends place c.group c.form none does

-- ---- what is left

leaves : (end : End) (w left : World) → Ends end w → Leaves end w left → IsStanding left
leaves (ends.Refused refusal) w left (inl t) is = subst IsStanding (sym is) t
leaves (ends.Refused refusal) w left (inr (t, inl never)) is = cc
leaves (ends.Refused refusal) w left (inr (t, inr never)) is = cc
leaves (ends.Done copied parts blocks) w left (inl t) is = subst IsStanding (sym is) t
leaves (ends.Done copied parts blocks) w left (inr (t, inl never)) is = cc
leaves (ends.Done copied parts blocks) w left (inr (t, inr never)) is = cc
leaves (ends.Fault told device parts) w left (inl t) is = subst IsStanding (sym is) t
leaves (ends.Fault told device parts) w left (inr (t, inl never)) is = cc
leaves (ends.Fault told device parts) w left (inr (t, inr never)) is = cc
leaves ends.ShelfFailed w left (inl t) is = subst IsStanding (sym is) t
leaves ends.ShelfFailed w left (inr (t, inl never)) is = cc
leaves ends.ShelfFailed w left (inr (t, inr never)) is = cc
leaves ends.GroupLost w left (inl t) is = subst IsStanding (sym is.1) (standing_gone w (settled w t))
leaves ends.GroupLost w left (inr (t, must)) is = subst IsStanding (sym is.1) (standing_gone w t)
leaves (ends.Lost parts) w left (inl t) goes = standing_left w left goes.1 (settled w t)
leaves (ends.Lost parts) w left (inr (t, must)) goes = standing_left w left goes.1 t

pub each_step_keeps_the_world_sound : (place : ℕ) (c : Command) (old : Moment) (answer : Answer) (new : Moment)
    → FormWritesNoHeader c.form → IsStanding old.world → Step place c old answer new → IsStanding new.world
each_step_keeps_the_world_sound place c old answer new none s step =
    leaves step.end step.over.world new.world (command_ends old step.views step.end step.over s place c none step.does) step.leaves

pub run_stands : (place : ℕ) (old : Moment) (commands : List Command) (answers : List Answer) (last : Moment)
    → WriteNoHeader commands → IsStanding old.world → IsTranscript place old commands answers last → IsStanding last.world
run_stands place old [] [] last none s is = subst (λ (m : Moment). IsStanding m.world) (sym is) s
run_stands place old (c ∷ cs) (a ∷ rest) last none s (mid, step, more) = run_stands (place + 1) mid cs rest last none.1 (each_step_keeps_the_world_sound place c old a mid none.0 s step) more
run_stands place old [] (a ∷ rest) last none s is = absurd is
run_stands place old (c ∷ cs) [] last none s is = absurd is

pub each_run_leaves_sound_devices : (place : ℕ) (old : Moment) (commands : List Command) (answers : List Answer) (last : Moment) (left : World)
    → WriteNoHeader commands → IsStanding old.world → IsTranscript place old commands answers last → PowerGoes last.world left → IsStanding left
each_run_leaves_sound_devices place old commands answers last left none s is goes =
    standing_left last.world left goes (settled last.world (run_stands place old commands answers last none s is))

pub sound_stands : (w : World) → IsIdle w → AreSound w → IsStanding w
sound_stands w idle sound = record {
  copies = sound;
  group = subst (λ (g : Option Group). MatchOption g (Unit {0}) (IsLeading w)) (sym idle.group) tt;
  volumes = λ vol v is. never_some (w.volumes vol) v (idle.volumes vol) is;
  names = λ vol is. none_lone (w.volumes vol) (idle.volumes vol);
}

pub each_run_keeps_devices_sound : (place : ℕ) (old : Moment) (commands : List Command) (answers : List Answer) (last : Moment) (left : World)
    → WriteNoHeader commands → IsIdle old.world → AreSound old.world → IsTranscript place old commands answers last → PowerGoes last.world left → AreSound left
each_run_keeps_devices_sound place old commands answers last left none idle sound is goes =
    (each_run_leaves_sound_devices place old commands answers last left none (sound_stands old.world idle sound) is goes).copies
