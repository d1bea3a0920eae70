-- What each command leaves as it is over, by its last stage.
use Rattle.std.proofs.Common.{◌≡◌, ◌∙◌, ℕ, Bool, true, List, [], ◌∷◌, ◌++◌, Option, Some, None, refl, sym, ap, subst, inl, inr}
use Rattle.std.specs.Prelude.{if◌then◌else◌, is_some, replicate}
use Rattle.std.specs.Str.{bytes_eq}
use Rattle.vx_base.specs.Blocks.{IsTorn}
use Rattle.vx_base.specs.Named.{Word}
use Rattle.vx_base.proofs.NamedLemmas.{bytes_eq_self, name_cases}
use Rattle.vx_mask.proofs.Tests.{not_both}
use Rattle.vx_image.specs.Soundness.{IsSoundImage}
use Rattle.vx_config_parts.specs.declared.vol.PolicyName.TheVariants as policy
use Rattle.vx_config_parts.specs.declared.vol.Vol.{Vol}
use Rattle.vx_objects.specs.declared.edit.Edit.{Edit}
use Rattle.vx_new_volumes.specs.declared.logs.NewLogs.{NewLogs}
use Rattle.vx_new_volumes.specs.declared.mirror.NewPlex.{NewPlex}
use Rattle.vx_new_volumes.specs.declared.volume.NewVolume.{NewVolume}
use Rattle.vx_script_words.specs.declared.value.DiskAt.{DiskAt}
use Rattle.vx_script_forms.specs.declared.act.Act.TheVariants as act
use Rattle.vx_script_forms.specs.declared.form.Form.{Form}
use Rattle.vx_script_forms.specs.declared.form.Form.TheVariants as form
use Rattle.vx_script_forms.specs.declared.form.WordPolicy.{WordPolicy}
use Rattle.vx_script_forms.specs.declared.form.WordPolicy.TheVariants as words
use Rattle.vx_answers.specs.declared.answer.End.{End}
use Rattle.vx_answers.specs.declared.answer.View.{View}
use Rattle.vx_answers.specs.declared.refusal.Refusal.TheVariants as refusal
use Rattle.vx_moments.specs.Commit.{IsCommitted, Writing}
use Rattle.vx_moments.specs.Holding.{IsMemberDevice}
use Rattle.vx_moments.specs.Leaving.{group_gone}
use Rattle.vx_moments.specs.Moment.{Moment}
use Rattle.vx_moments.specs.World.{Group, Volume, World}
use Rattle.vx_plans.specs.Plans.{new_logs, new_volume, plan_of, plan_print}
use Rattle.vx_plans.specs.Steps.{DoesForm, DoesPlan, IsNotBuilt, Runs, done}
use Rattle.vx_stages.specs.Ends.{IsChange}
use Rattle.vx_stages.specs.Records.{devices_of}
use Rattle.vx_stages.specs.Stages.{EditsStop, HasContents, IsCreating, IsDone, IsJoining, Stops, edits_of, joining_edit}
use Rattle.vx_stages.specs.Tests.{fails, recorded, state_of, unless}
use Rattle.vx_stages.specs.declared.stage.Change.{Change}
use Rattle.vx_stages.specs.declared.stage.Change.TheVariants as changes
use Rattle.vx_stages.specs.declared.stage.Source.{Source}
use Rattle.vx_stages.specs.declared.stage.Source.TheVariants as source
use Rattle.vx_stages.specs.declared.stage.Stage.{Stage}
use Rattle.vx_stages.specs.declared.stage.Stage.TheVariants as stage
use Rattle.vx_plans.specs.declared.stages.Finish.{Finish}
use Rattle.vx_plans.specs.declared.stages.Finish.TheVariants.{Hierarchy, Nothing, Records}
use Rattle.vx_stages.specs.declared.test.Test.TheVariants as tests
use Rattle.vx_group_edits.proofs.NewNames.{unstarted}
use Rattle.vx_sound.specs.Laws.{FormWritesNoHeader}
use Rattle.vx_sound.proofs.Commits.{imported_led}
use Rattle.vx_sound.proofs.Devices.{image_back, standing_torn, torn_back}
use Rattle.vx_sound.proofs.Joiners.{all_blank, all_unheld, ready_create, ready_join, room_for}
use Rattle.vx_sound.proofs.Runs.{AllPassed, AreCalm, Through, runs_through}
use Rattle.vx_sound.proofs.Settlement.{gone_back}
use Rattle.vx_sound.proofs.Steps.{group_here, make_stands, no_group, not_recorded, not_started}
use Rattle.vx_sound.proofs.Volumes.{bare_back}
use Rattle.vx_sound_volumes.specs.Volumes.{AreSoundOn, IsSoundBefore}
use Rattle.vx_sound_volumes.proofs.Leavings.{each_leaving}
use Rattle.vx_sound_volumes.proofs.Parts.{Every, all_kept, image_same, keeps_all, not_none, some_same}
use Rattle.vx_sound_volumes.proofs.Stages.{StateLaws, make_done}
use Rattle.vx_sound_imports.specs.Offered.{HasSoundOffer, HaveSoundOffers, IsElsewhere}
use Rattle.vx_sound_imports.proofs.Commits.{public_stays}
use Rattle.vx_sound_imports.proofs.Fewer.{fewer_sound}
use Rattle.vx_sound_imports.proofs.Found.{found_elsewhere, found_sound, import_named, import_safe}
use Rattle.vx_sound_imports.proofs.Writings.{HasWhole, change_safe, create_safe, created_sound, join_safe, make_safe}
use Rattle.vx_sound_imports.proofs.Leading.{leading_read}
use Rattle.vx_sound_imports.proofs.Nexts.{IsSafe}
use Rattle.vx_sound_imports.proofs.Stages.{IsLostBy, Settles, committed_known, imported_away, leads, settles_some, stopped_settles, unknown_settles}
use Rattle.vx_sound_imports.proofs.Logs.{prepare_known, prepare_settles, unprepare_known, unprepare_settles}
use Rattle.vx_sound_imports.proofs.Mirrors.{mirror_settles}
use Rattle.vx_sound_imports.proofs.Leaving.{leaving_known, leaving_settles}
use Rattle.vx_sound_imports.proofs.Plexes.{attach_settles, detach_known, detach_settles}
use Rattle.vx_sound_imports.proofs.Recoveries.{recover_settles}
use Rattle.vx_sound_imports.proofs.Starts.{start_settles, stop_done_known, stop_settles}
use Rattle.vx_sound_imports.proofs.Volumes.{IsKnown, call_settles, known_settles, still_settles}

-- ---- the last stage

-- a command that is done has lost no group
done_settles : {P : Word → Type 0} (end : End) (w : World) → end ≡ done → HaveSoundOffers w × HasWhole w → Settles P end w
done_settles end w over known = record {
  elsewhere = known.0;
  whole = known.1;
  own = λ g here lost sound. absurd (subst IsLostBy over lost);
  left = λ g here lost name u p runs stands. absurd (subst IsLostBy over lost);
}

one_stage : {P : Word → Type 0} (s : Stage) (disks : List DiskAt) (finish : Finish) (old : Moment) (views : List View) (end : End) (new : Moment)
    → ((m : Moment) → IsDone s disks old m → HaveSoundOffers m.world × HasWhole m.world) → (Stops s disks old end new → Settles P end new.world) → Runs disks (s ∷ []) finish old views end new → Settles P end new.world
one_stage {P = P} s disks finish old views end new after stops (inl (m, later, is, (shows, over, same))) = subst (λ (n : Moment). Settles P end n.world) (sym same) (done_settles end m.world over (after m is))
one_stage s disks finish old views end new after stops (inr (none, later, is)) = stops is

-- headers go at most, and the group is the one that was
module _ (old new : World) (k : IsKnown old) (group : new.group ≡ old.group) (had : (dg : Word) → (IsElsewhere dg old → HasSoundOffer dg old → HasSoundOffer dg new)) where
  little_known : HaveSoundOffers new × HasWhole new
  little_known = (
    λ dg away. let before = λ (g : Group) (here : old.group ≡ Some g). away g (group ∙ here) in had dg before (k.offers dg before),
    λ g here. k.whole g (sym group ∙ here),
  )

-- ---- commits

module _ {P : Word → Type 0} (x : Writing) (old : Moment) (end : End) (new : Moment) (k : IsKnown old.world) (safe : IsSafe P x old.world) where
  imported_done : (m : Moment) → old.world.group ≡ Some x.group → IsCommitted x old m → HaveSoundOffers m.world × HasWhole m.world
  imported_done m here c = committed_known x old k.standing safe.ready safe.whole m c k.offers (imported_away x old k.standing safe.ready here)

  unknown_done : (m : Moment) → old.world.group ≡ None → IsCommitted x old m → HaveSoundOffers m.world × HasWhole m.world
  unknown_done m none c = committed_known x old k.standing safe.ready safe.whole m c k.offers (λ dg differs g here is. not_none g (sym none ∙ here))

edits_settle : (edits : Group → List Edit) (IsWriting : Writing → Type 0) (old : Moment) (end : End) (new : Moment) → IsKnown old.world → ((x : Writing) → IsWriting x → IsSafe Every x old.world × (old.world.group ≡ Some x.group)) → EditsStop edits IsWriting old end new → Settles Every end new.world
edits_settle edits IsWriting old end new k safe (inl (none, ends)) = still_settles end old.world new.world ends.1.stays.world k
edits_settle edits IsWriting old end new k safe (inr (inl (why, rests))) = still_settles end old.world new.world rests.stays.world k
edits_settle edits IsWriting old end new k safe (inr (inr (x, is, stopped))) = let w = safe x is in stopped_settles Every x old k.standing w.0 end new stopped w.1 k.whole k.offers

change_settles : (change : Change) (disks : List DiskAt) (finish : Finish) (old : Moment) (views : List View) (end : End) (new : Moment) → IsKnown old.world → Runs disks (stage.Change change ∷ []) finish old views end new → Settles Every end new.world
change_settles change disks finish old views end new k runs =
    one_stage (stage.Change change) disks finish old views end new
    (λ m is. imported_done is.0 old end new k (change_safe change old.world is.0 k.standing k.whole is.1) m is.1.group is.2)
    (λ stops. edits_settle (λ g. edits_of change (Some g)) (λ x. IsChange (edits_of change old.world.group) old.world x) old end new k (λ x is. (change_safe change old.world x k.standing k.whole is, is.group)) stops)
    runs

make_whole : (from : Source) (disks : List DiskAt) (old m : Moment) → IsKnown old.world → IsDone (stage.Make from) disks old m → HaveSoundOffers m.world × HasWhole m.world
make_whole from disks old m k is = imported_done is.0 old done m k (make_safe from old.world is.0 k.standing k.whole is.1) m is.1.change.group is.2

pub make_known : (from : Source) (disks : List DiskAt) (old m : Moment) → IsKnown old.world → IsDone (stage.Make from) disks old m → IsKnown m.world
make_known from disks old m k is = let all = make_whole from disks old m k is in record { standing = make_stands from disks old m k.standing is; whole = all.1; offers = all.0 }

make_stops : (from : Source) (disks : List DiskAt) (old : Moment) (end : End) (new : Moment) → IsKnown old.world → Stops (stage.Make from) disks old end new → Settles Every end new.world
make_stops from disks old end new k (inl (none, ends)) = still_settles end old.world new.world ends.1.stays.world k
make_stops from disks old end new k (inr (inl (why, rests))) = still_settles end old.world new.world rests.stays.world k
make_stops from disks old end new k (inr (inr (x, is, stopped))) = stopped_settles Every x old k.standing (make_safe from old.world x k.standing k.whole is) end new stopped is.change.group k.whole k.offers

make_settles : (from : Source) (disks : List DiskAt) (finish : Finish) (old : Moment) (views : List View) (end : End) (new : Moment) → IsKnown old.world → Runs disks (stage.Make from ∷ []) finish old views end new → Settles Every end new.world
make_settles from disks finish old views end new k runs =
    one_stage (stage.Make from) disks finish old views end new (λ m is. make_whole from disks old m k is) (λ stops. make_stops from disks old end new k stops) runs

image_settles : (name : Word) (sectors : ℕ) (disks : List DiskAt) (finish : Finish) (old : Moment) (views : List View) (end : End) (new : Moment) → IsKnown old.world → Runs disks (stage.MakeImage name sectors ∷ []) finish old views end new → Settles Every end new.world
image_settles name sectors disks finish old views end new k runs =
    one_stage (stage.MakeImage name sectors) disks finish old views end new
    (λ m is. little_known old.world m.world k (ap (λ (w : World). w.group) is.1.is) (λ dg away sound. fewer_sound dg old.world m.world (image_back name sectors old.world m.world k.standing is.0 is.1 dg) (k.standing.copies dg) sound))
    (λ stops. elim stops [ inl refused ↦ still_settles end old.world new.world refused.1.1.stays.world k | inr failed ↦ still_settles end old.world new.world failed.0 k ])
    runs

module _ (dg : Word) (old : Moment) (k : IsKnown old.world) where
  import_settles : (disks : List DiskAt) (finish : Finish) (views : List View) (end : End) (new : Moment) → Runs disks (stage.Import dg ∷ []) finish old views end new → Settles Every end new.world
  import_settles disks finish views end new runs =
      one_stage (stage.Import dg) disks finish old views end new
      (λ m is.
      let mid = is.1 in
      let same = sym is.2.world in
      unknown_done is.3.0 mid end new (subst IsKnown same k) (subst (IsSafe (λ name. ⊥) is.3.0) same (import_safe dg old.world old.counts mid.counts is.3.0 is.3.1 (k.standing.copies dg) k.standing)) m (ap (λ (w : World). w.group) (sym same) ∙ is.0) is.3.2)
      stops runs
    where
      stops : Stops (stage.Import dg) disks old end new → Settles Every end new.world
      stops (inl (g, here, ends)) = still_settles end old.world new.world ends.1.stays.world k
      stops (inr (inl (reads, why))) = still_settles end old.world new.world reads.0 k
      stops (inr (inr (mid, between, (x, is, stopped)))) =
          let same = sym between.world in
          let known = subst IsKnown same k in
          let chained = k.standing.copies dg in
          let away = found_elsewhere dg old.world old.counts mid.counts x is chained k.standing k.whole in
          let sound : AreSoundOn mid.world.devices x.group = subst (λ (w : World). AreSoundOn w.devices x.group) same (found_sound dg old.world old.counts mid.counts x is chained (k.offers dg away)) in
          let named = import_named dg old.world old.counts mid.counts x is chained k.standing in
          unknown_settles (λ name. ⊥) x mid known.standing (subst (IsSafe (λ name. ⊥) x) same (import_safe dg old.world old.counts mid.counts x is chained k.standing)) end new stopped
          (subst (λ (w : World). IsElsewhere x.config.group w) same (subst (λ n. IsElsewhere n old.world) (sym named) away))
          (λ v there started. subst IsSoundImage (sym (image_same x.group mid.world.devices new.world.devices (λ m one n. public_stays x stopped.last mid new stopped.committing m.device n) v)) (sound v there started))
          known.whole known.offers

-- ---- the plans

-- all before the last stage left the world; the last goes on
at_last : {P : Word → Type 0} (calm rest : List Stage) (disks : List DiskAt) (finish : Finish) (old : Moment) (views : List View) (end : End) (new : Moment) → IsKnown old.world
    → ((mid : Moment) → mid.world ≡ old.world → IsKnown mid.world → AllPassed calm disks mid.world → Runs disks rest finish mid views end new → Settles P end new.world)
    → Through calm rest disks finish old.world views end new → Settles P end new.world
at_last calm rest disks finish old views end new k goes (inl stays) = settles_some end new.world (still_settles end old.world new.world stays k)
at_last calm rest disks finish old views end new k goes (inr (mid, same, passed, runs)) = goes mid same (subst IsKnown (sym same) k) (subst (λ (w : World). AllPassed calm disks w) (sym same) passed) runs

-- no volume of the name that the group records is started
not_running : (name : Word) (w : World) → fails (tests.HasVolume name) [] w ≡ None → fails (tests.Stopped name) [] w ≡ None → w.volumes name ≡ None
unfolding fails
not_running name w there stopped = by (w.volumes name) refl (recorded name w.group) there stopped
  where
    by : (o : Option Volume) → w.volumes name ≡ o → (r : Option Vol) → unless (is_some r) (refusal.NoObject name) ≡ None → (if is_some o then state_of r else None) ≡ None → w.volumes name ≡ None
    by None is r found stopped = is
    by (Some v) is (Some u) found stopped = cc
    by (Some v) is None found stopped = cc

module _ (laws : StateLaws) (place : ℕ) (views : List View) (end : End) (new : Moment) where
  bare_settles : (vol name : Word) (mid : Moment) → IsKnown mid.world → AllPassed (stage.Take name ∷ stage.LookBlank name ∷ stage.Gate (tests.Sized name) ∷ []) [] mid.world → Runs [] (stage.StartBare vol name ∷ []) Nothing mid views end new → Settles Every end new.world
  bare_settles vol name mid k passed runs =
      one_stage (stage.StartBare vol name) [] Nothing mid views end new
      (λ m is. little_known mid.world m.world k (ap (λ (w : World). w.group) is.1.is)
      (λ dg away sound. fewer_sound dg mid.world m.world (bare_back vol name mid.world m.world (not_started mid.world vol is.0) (not_recorded mid.world vol is.0) passed.1.0 (λ member. passed.0.1.0 (inr member)) is.1 dg) (k.standing.copies dg) sound))
      (λ stops. still_settles end mid.world new.world stops.1.1.stays.world k)
      runs

  wipe_settles : (name : Word) (mid : Moment) → IsKnown mid.world → AllPassed (stage.Take name ∷ stage.LookHeaded name ∷ []) [] mid.world → Runs [] (stage.Wipe name ∷ []) Nothing mid views end new → Settles Every end new.world
  wipe_settles name mid k passed runs =
      one_stage (stage.Wipe name) [] Nothing mid views end new
      (λ m is. torn m.world (record { device = is.0.device; contents = is.0.contents; was = is.0.was; goes = λ n. inr (is.0.goes n); is = is.0.is }))
      (λ stops.
      let t = torn new.world stops.0 in
      known_settles end new.world (record { standing = standing_torn name mid.world new.world k.standing idle stops.0; whole = t.1; offers = t.0 }))
      runs
    where
      idle : IsMemberDevice mid.world.group name → ⊥
      idle member = passed.0.1.0 (inr member)

      torn : (w : World) → HasContents name (IsTorn 0 (replicate 512 0)) mid.world w → HaveSoundOffers w × HasWhole w
      torn w has = little_known mid.world w k (ap (λ (x : World). x.group) has.is) (λ dg away sound. fewer_sound dg mid.world w (torn_back name mid.world w idle has dg) (k.standing.copies dg) sound)

  -- the group is let go, of which no volume was started
  deport_settles : (mid : Moment) → IsKnown mid.world → IsSoundBefore place mid.world → fails tests.NoneStarted [] mid.world ≡ None → Runs [] (stage.LetGo ∷ []) Nothing mid views end new → Settles Every end new.world
  deport_settles mid k sound none runs =
      one_stage stage.LetGo [] Nothing mid views end new
      (λ m is. subst (λ (w : World). HaveSoundOffers w × HasWhole w) (sym is.0) (gone_offers mid.world.group refl, λ g here. not_none g here))
      (λ stops. absurd stops)
      runs
    where
      gone : (dg : Word) → HasSoundOffer dg mid.world → HasSoundOffer dg (group_gone mid.world)
      gone dg is = fewer_sound dg mid.world (group_gone mid.world) (gone_back mid.world dg) (k.standing.copies dg) is

      gone_offers : (o : Option Group) → mid.world.group ≡ o → HaveSoundOffers (group_gone mid.world)
      gone_offers None here dg away = gone dg (k.offers dg (λ g at is. not_none g (sym here ∙ at)))
      gone_offers (Some g) here dg away = elim (name_cases g.config.group dg) [
        | inl same ↦
            gone dg (subst (λ n. HasSoundOffer n mid.world) same
            (leading_read mid.world g (leads mid.world g k.standing here) (k.standing.copies g.config.group) (k.whole g here) mid.world.devices (each_leaving place mid.world (group_gone mid.world) g sound here (inl (none, refl)))))
        | inr other ↦ gone dg (k.offers dg (λ h at is. not_both (subst (λ n. bytes_eq g.config.group n ≡ true) (ap (λ (i : Group). i.config.group) (some_same g h (sym here ∙ at)) ∙ is) (bytes_eq_self g.config.group)) other))
      ]

  init_settles : (dg : Word) (disks : List DiskAt) (mid : Moment) → IsKnown mid.world
      → AllPassed (stage.TakeDisks ∷ stage.LookDisks ∷ stage.Gate tests.NoGroup ∷ stage.Gate (tests.GroupLimits dg) ∷ stage.Search dg ∷ stage.Gate (tests.GroupRecords dg) ∷ []) disks mid.world
      → Runs disks (stage.Create dg ∷ []) Nothing mid views end new → Settles Every end new.world
  init_settles dg disks mid k passed runs =
      let none = no_group disks mid.world passed.1.1.0 in
      let safe = λ (x : Writing) (is : IsCreating dg disks mid.world x).
      create_safe dg disks mid.world x (ready_create dg disks mid.world x is none (all_unheld mid.world [] (devices_of disks) passed.0) (all_blank mid.world (devices_of disks) passed.1.0) passed.1.1.1.1.0) is in
      one_stage (stage.Create dg) disks Nothing mid views end new
      (λ m is. unknown_done is.1.0 mid end new k (safe is.1.0 is.1.1) m none is.1.2)
      (λ stops. elim stops [
        | inl here ↦ still_settles end mid.world new.world here.2.1.stays.world k
        | inr stopped ↦
            unknown_settles Every stopped.0 mid k.standing (safe stopped.0 stopped.1) end new stopped.2 (λ g here is. not_none g (sym none ∙ here))
            (created_sound dg disks mid.world stopped.0 stopped.1 new.world.devices) k.whole k.offers
      ])
      runs

  add_settles : (dg : Word) (p : DiskAt) (mid : Moment) → IsKnown mid.world
      → AllPassed (stage.TakeDisks ∷ stage.Gate (tests.GroupIs (Some dg)) ∷ stage.LookDisks ∷ stage.Gate tests.JoinLimits ∷ stage.Search dg ∷ []) (p ∷ []) mid.world
      → Runs (p ∷ []) (stage.Join ∷ []) Nothing mid views end new → Settles Every end new.world
  add_settles dg p mid k passed runs =
      let safe = λ (x : Writing) (is : IsJoining p mid.world x).
      let room = room_for (p ∷ []) mid.world x.group is.group passed.1.1.1.0 in
      join_safe p mid.world x
      (ready_join p dg mid.world x is (imported_led mid.world x.group k.standing is.group) room (group_here dg (p ∷ []) mid.world x.group is.group passed.1.0) passed.0.0.1.0 passed.1.1.0.0 passed.1.1.1.1.0) k.whole is room in
      one_stage stage.Join (p ∷ []) Nothing mid views end new
      (λ m is. imported_done is.0 mid end new k (safe is.0 is.1) m is.1.group is.2)
      (λ stops. edits_settle (λ g. joining_edit p mid.world g ∷ []) (λ x. IsJoining p mid.world x) mid end new k (λ x is. (safe x is, is.group)) stops)
      runs

  starting_settles : (vol : Word) (mid : Moment) → IsKnown mid.world → IsSoundBefore place mid.world → mid.world.volumes vol ≡ None → Runs [] (stage.Start vol ∷ []) Nothing mid views end new → Settles Every end new.world
  starting_settles vol mid k sound idle runs =
      one_stage (stage.Start vol) [] Nothing mid views end new (λ m is. absurd is) (λ stops. start_settles laws place mid end new k sound vol idle stops) runs

  -- the records of a new volume are added, and it is started
  new_settles : (n : NewVolume) (mid : Moment) → IsKnown mid.world → IsSoundBefore place mid.world
      → Runs [] (stage.Make (source.Volume n) ∷ stage.Gate (tests.Stopped n.vol) ∷ stage.Start n.vol ∷ []) Nothing mid views end new → Settles Every end new.world
  new_settles n mid k sound (inl (m, later, is, runs)) =
      at_last calm (stage.Start n.vol ∷ []) [] Nothing m views end new (make_known (source.Volume n) [] mid m k is)
      (λ last same t passed more. starting_settles n.vol last t (subst (IsSoundBefore place) (sym same) added) (subst (λ (w : World). w.volumes n.vol ≡ None) (sym same) (unstarted n mid m is)) more)
      (runs_through calm (stage.Start n.vol ∷ []) [] Nothing m views end new (refl, tt) runs)
    where
      calm : List Stage
      calm = stage.Gate (tests.Stopped n.vol) ∷ []

      added : IsSoundBefore place m.world
      added = all_kept place m.world (make_done place (source.Volume n) [] mid m (keeps_all place mid.world sound) is)
  new_settles n mid k sound (inr (none, later, stops)) = make_stops (source.Volume n) [] mid end new k stops

  stopping_settles : (vol : Word) (mid : Moment) → IsKnown mid.world → IsSoundBefore place mid.world → Runs [] (stage.Stop vol ∷ []) Nothing mid views end new → Settles Every end new.world
  stopping_settles vol mid k sound runs =
      one_stage (stage.Stop vol) [] Nothing mid views end new (λ m is. stop_done_known laws place vol mid k sound m is) (λ stops. stop_settles laws place vol mid k sound end new stops) runs

  mirroring_settles : (mirror : NewPlex) (mid : Moment) → IsKnown mid.world → IsSoundBefore place mid.world → Runs [] (stage.Mirror mirror ∷ []) Nothing mid views end new → Settles Every end new.world
  mirroring_settles mirror mid k sound runs =
      one_stage (stage.Mirror mirror) [] Nothing mid views end new (λ m is. absurd is) (λ stops. mirror_settles laws place mirror.vol mirror.disks mid end new k sound stops) runs

  preparing_settles : (logs : NewLogs) (mid : Moment) → IsKnown mid.world → Runs [] (stage.Prepare logs ∷ []) Nothing mid views end new → Settles Every end new.world
  preparing_settles logs mid k runs =
      one_stage (stage.Prepare logs) [] Nothing mid views end new (λ m is. prepare_known mid k logs m is) (λ stops. prepare_settles mid k end new logs stops) runs

  unpreparing_settles : (vol : Word) (mid : Moment) → IsKnown mid.world → Runs [] (stage.Unprepare vol ∷ []) Nothing mid views end new → Settles Every end new.world
  unpreparing_settles vol mid k runs =
      one_stage (stage.Unprepare vol) [] Nothing mid views end new (λ m is. unprepare_known mid k vol m is) (λ stops. unprepare_settles mid k end new vol stops) runs

  detaching_settles : (plex : Word) (mid : Moment) → IsKnown mid.world → IsSoundBefore place mid.world → Runs [] (stage.Detach plex ∷ []) Nothing mid views end new → Settles Every end new.world
  detaching_settles plex mid k sound runs =
      one_stage (stage.Detach plex) [] Nothing mid views end new (λ m is. detach_known laws place mid k sound plex m is) (λ stops. detach_settles laws place mid k sound end new plex stops) runs

  dissociating_settles : (remove : Bool) (plex : Word) (mid : Moment) → IsKnown mid.world → IsSoundBefore place mid.world → Runs [] (stage.Dissociate plex remove ∷ []) Nothing mid views end new → Settles Every end new.world
  dissociating_settles remove plex mid k sound runs =
      one_stage (stage.Dissociate plex remove) [] Nothing mid views end new (λ m is. leaving_known laws place mid k sound remove plex m is) (λ stops. leaving_settles laws place mid k sound end new remove plex stops) runs

  attaching_settles : (vol plex : Word) (mid : Moment) → IsKnown mid.world → IsSoundBefore place mid.world → Runs [] (stage.Attach vol plex ∷ []) Nothing mid views end new → Settles Every end new.world
  attaching_settles vol plex mid k sound runs =
      one_stage (stage.Attach vol plex) [] Nothing mid views end new (λ m is. absurd is) (λ stops. attach_settles laws place mid k sound vol plex end new stops) runs

  shown_settles : (finish : Finish) (mid : Moment) → IsKnown mid.world → Runs [] [] finish mid views end new → Settles Every end new.world
  shown_settles finish mid k runs = still_settles end mid.world new.world (ap (λ (m : Moment). m.world) runs.2) k

-- ---- each form

module _ (laws : StateLaws) (place : ℕ) (old : Moment) (views : List View) (end : End) (new : Moment) (k : IsKnown old.world) (sound : IsSoundBefore place old.world) where
  not_built : IsNotBuilt old views end new → Settles Every end new.world
  not_built is = still_settles end old.world new.world (ap (λ (m : Moment). m.world) is.2) k

  sound_still : (mid : Moment) → mid.world ≡ old.world → IsSoundBefore place mid.world
  sound_still mid same = subst (IsSoundBefore place) (sym same) sound

  print_settles : (dg vol : Option Word) (finish : Finish) → Runs [] (plan_print dg vol) finish old views end new → Settles Every end new.world
  print_settles dg None finish does = at_last (stage.Gate (tests.GroupIs dg) ∷ []) [] [] finish old views end new k
      (λ mid same t passed runs. shown_settles laws place views end new finish mid t runs)
      (runs_through (stage.Gate (tests.GroupIs dg) ∷ []) [] [] finish old views end new (refl, tt) does)
  print_settles dg (Some vol) finish does = at_last (stage.Gate (tests.GroupIs dg) ∷ stage.Gate (tests.HasVolume vol) ∷ []) [] [] finish old views end new k
      (λ mid same t passed runs. shown_settles laws place views end new finish mid t runs)
      (runs_through (stage.Gate (tests.GroupIs dg) ∷ stage.Gate (tests.HasVolume vol) ∷ []) [] [] finish old views end new (refl, (refl, tt)) does)

  -- gates, and a change
  gated : (calm : List Stage) (change : Change) → AreCalm calm → Runs [] (calm ++ stage.Change change ∷ []) Nothing old views end new → Settles Every end new.world
  gated calm change are runs = at_last calm (stage.Change change ∷ []) [] Nothing old views end new k (λ mid same t passed more. change_settles change [] Nothing mid views end new t more) (runs_through calm (stage.Change change ∷ []) [] Nothing old views end new are runs)

  policy_settles : (dg : Option Word) (vol : Word) (how : WordPolicy) → DoesPlan [] (plan_of dg (form.Rdpol vol how)) old views end new → Settles Every end new.world
  unfolding plan_of
  policy_settles dg vol words.Round does = gated (stage.Gate (tests.GroupIs dg) ∷ stage.Gate (tests.HasVolume vol) ∷ []) (changes.Policy vol policy.Round) (refl, (refl, tt)) does
  policy_settles dg vol words.Select does = gated (stage.Gate (tests.GroupIs dg) ∷ stage.Gate (tests.HasVolume vol) ∷ []) (changes.Policy vol policy.Select) (refl, (refl, tt)) does
  policy_settles dg vol (words.Prefer plex) does = gated (stage.Gate (tests.GroupIs dg) ∷ stage.Gate (tests.HasVolume vol) ∷ stage.Gate (tests.HasPlex vol plex) ∷ []) (changes.Policy vol (policy.Prefer plex)) (refl, (refl, (refl, tt))) does

  pub form_settles : (dg : Option Word) (f : Form) → FormWritesNoHeader f → DoesForm place dg f old views end new → Settles Every end new.world
  unfolding plan_of
  form_settles dg (form.Calling call) none does = call_settles place call old end new k none does.2
  form_settles dg (form.MkImage device length) none does = image_settles device length [] Nothing old views end new k does
  form_settles dg (form.Bare vol device) none does =
      let calm = stage.Take device ∷ stage.LookBlank device ∷ stage.Gate (tests.Sized device) ∷ [] in
      at_last calm (stage.StartBare vol device ∷ []) [] Nothing old views end new k (λ mid same. bare_settles laws place views end new vol device mid) (runs_through calm (stage.StartBare vol device ∷ []) [] Nothing old views end new (refl, (refl, (refl, tt))) does)
  form_settles dg (form.DgInit name disks) none does =
      let calm = stage.TakeDisks ∷ stage.LookDisks ∷ stage.Gate tests.NoGroup ∷ stage.Gate (tests.GroupLimits name) ∷ stage.Search name ∷ stage.Gate (tests.GroupRecords name) ∷ [] in
      at_last calm (stage.Create name ∷ []) disks Nothing old views end new k (λ mid same. init_settles laws place views end new name disks mid) (runs_through calm (stage.Create name ∷ []) disks Nothing old views end new (refl, (refl, (refl, (refl, (refl, (refl, tt)))))) does)
  form_settles dg (form.DgAddDisk name disk) none does =
      let calm = stage.TakeDisks ∷ stage.Gate (tests.GroupIs (Some name)) ∷ stage.LookDisks ∷ stage.Gate tests.JoinLimits ∷ stage.Search name ∷ [] in
      at_last calm (stage.Join ∷ []) (disk ∷ []) Nothing old views end new k (λ mid same. add_settles laws place views end new name disk mid) (runs_through calm (stage.Join ∷ []) (disk ∷ []) Nothing old views end new (refl, (refl, (refl, (refl, (refl, tt))))) does)
  form_settles dg (form.DgImport name) none does = import_settles name old k [] Nothing views end new does
  form_settles dg (form.DgDeport name) none does =
      let calm = stage.Gate (tests.GroupIs (Some name)) ∷ stage.Gate tests.NoneStarted ∷ [] in
      at_last calm (stage.LetGo ∷ []) [] Nothing old views end new k (λ mid same t passed runs. deport_settles laws place views end new mid t (sound_still mid same) passed.1.0 runs) (runs_through calm (stage.LetGo ∷ []) [] Nothing old views end new (refl, (refl, tt)) does)
  form_settles dg (form.DiskUnsetup device) none does =
      let calm = stage.Take device ∷ stage.LookHeaded device ∷ [] in
      at_last calm (stage.Wipe device ∷ []) [] Nothing old views end new k (λ mid same. wipe_settles laws place views end new device mid) (runs_through calm (stage.Wipe device ∷ []) [] Nothing old views end new (refl, (refl, tt)) does)
  form_settles dg (form.PrintM vol) none does = print_settles dg vol (Records vol) does
  form_settles dg (form.PrintHt vol) none does = print_settles dg vol (Hierarchy vol) does
  form_settles dg (form.Rdpol vol how) none does = policy_settles dg vol how does
  form_settles dg (form.RemoveVolume vol) none does =
      gated (stage.Gate (tests.GroupIs dg) ∷ stage.Gate (tests.HasVolume vol) ∷ stage.Gate (tests.Stopped vol) ∷ stage.Gate (tests.Unrelated vol) ∷ []) (changes.Remove vol) (refl, (refl, (refl, (refl, tt)))) does
  form_settles dg (form.VxMake text) none does =
      let calm = stage.Gate (tests.GroupIs dg) ∷ [] in
      let from = source.Text text in
      at_last calm (stage.Make from ∷ []) [] Nothing old views end new k (λ mid same t passed runs. make_settles from [] Nothing mid views end new t runs) (runs_through calm (stage.Make from ∷ []) [] Nothing old views end new (refl, tt) does)
  form_settles dg (form.AssistMake vol length attrs disks) none does =
      let n = new_volume vol length attrs disks in
      let calm = stage.Gate (tests.GroupIs dg) ∷ [] in
      let rest = stage.Make (source.Volume n) ∷ stage.Gate (tests.Stopped vol) ∷ stage.Start vol ∷ [] in
      at_last calm rest [] Nothing old views end new k (λ mid same t passed runs. new_settles laws place views end new n mid t (sound_still mid same) runs) (runs_through calm rest [] Nothing old views end new (refl, tt) does)
  form_settles dg (form.Start vol) none does =
      let calm = stage.Gate (tests.GroupIs dg) ∷ stage.Gate (tests.HasVolume vol) ∷ stage.Gate (tests.Stopped vol) ∷ [] in
      at_last calm (stage.Start vol ∷ []) [] Nothing old views end new k (λ mid same t passed runs. starting_settles laws place views end new vol mid t (sound_still mid same) (not_running vol mid.world passed.1.0 passed.1.1.0) runs) (runs_through calm (stage.Start vol ∷ []) [] Nothing old views end new (refl, (refl, (refl, tt))) does)
  form_settles dg (form.Mirror vol disks) none does =
      let mirror : NewPlex = record { vol = vol; disks = disks } in
      let calm = stage.Gate (tests.GroupIs dg) ∷ [] in
      at_last calm (stage.Mirror mirror ∷ []) [] Nothing old views end new k (λ mid same t passed runs. mirroring_settles laws place views end new mirror mid t (sound_still mid same) runs) (runs_through calm (stage.Mirror mirror ∷ []) [] Nothing old views end new (refl, tt) does)
  form_settles dg (form.Prepare vol ndcomirs region) none does =
      let logs = new_logs vol ndcomirs region in
      let calm = stage.Gate (tests.GroupIs dg) ∷ [] in
      at_last calm (stage.Prepare logs ∷ []) [] Nothing old views end new k (λ mid same t passed runs. preparing_settles laws place views end new logs mid t runs) (runs_through calm (stage.Prepare logs ∷ []) [] Nothing old views end new (refl, tt) does)
  form_settles dg (form.Unprepare vol) none does =
      let calm = stage.Gate (tests.GroupIs dg) ∷ [] in
      at_last calm (stage.Unprepare vol ∷ []) [] Nothing old views end new k (λ mid same t passed runs. unpreparing_settles laws place views end new vol mid t runs) (runs_through calm (stage.Unprepare vol ∷ []) [] Nothing old views end new (refl, tt) does)
  form_settles dg (form.PlexDis plex rm) none does =
      let calm = stage.Gate (tests.GroupIs dg) ∷ [] in
      at_last calm (stage.Dissociate plex rm ∷ []) [] Nothing old views end new k (λ mid same t passed runs. dissociating_settles laws place views end new rm plex mid t (sound_still mid same) runs) (runs_through calm (stage.Dissociate plex rm ∷ []) [] Nothing old views end new (refl, tt) does)
  form_settles dg (form.Stop vol) none does =
      let calm = stage.Gate (tests.GroupIs dg) ∷ stage.Gate (tests.HasVolume vol) ∷ [] in
      at_last calm (stage.Stop vol ∷ []) [] Nothing old views end new k (λ mid same t passed runs. stopping_settles laws place views end new vol mid t (sound_still mid same) runs) (runs_through calm (stage.Stop vol ∷ []) [] Nothing old views end new (refl, (refl, tt)) does)
  form_settles dg (form.Recover vol) none does = recover_settles laws place dg vol old views end new (record { known = k; kept = keeps_all place old.world sound }) does.1
  form_settles dg (form.Acting (act.PlexDet plex)) none does =
      let calm = stage.Gate (tests.GroupIs dg) ∷ [] in
      at_last calm (stage.Detach plex ∷ []) [] Nothing old views end new k (λ mid same t passed runs. detaching_settles laws place views end new plex mid t (sound_still mid same) runs) (runs_through calm (stage.Detach plex ∷ []) [] Nothing old views end new (refl, tt) does)
  form_settles dg (form.Acting (act.PlexAtt vol plex)) none does =
      let calm = stage.Gate (tests.GroupIs dg) ∷ [] in
      at_last calm (stage.Attach vol plex ∷ []) [] Nothing old views end new k (λ mid same t passed runs. attaching_settles laws place views end new vol plex mid t (sound_still mid same) runs) (runs_through calm (stage.Attach vol plex ∷ []) [] Nothing old views end new (refl, tt) does)
  form_settles dg other none does = not_built does
