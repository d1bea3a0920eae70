-- What was left comes back by an import, and is made one by a recovery.
use Rattle.std.proofs.Common.{◌≡◌, ◌∙◌, ℕ, ◌+◌, true, false, List, [], ◌++◌, Option, Some, None, append-nil, refl, sym, ap, subst, inl, inr}
use Rattle.std.specs.Prelude.{Contains}
use Rattle.std.proofs.lemmas.List.Sorted.{IsPermutation-refl}
use Rattle.vx_life.specs.Candidates.{Candidates}
use Rattle.vx_base.specs.Named.{Word}
use Rattle.vx_mask.specs.Mask.{has}
use Rattle.vx_config_parts.specs.declared.state.VolState.{VolState}
use Rattle.vx_config_parts.specs.declared.state.VolState.TheVariants as vol
use Rattle.vx_config_parts.specs.declared.vol.Vol.{Vol}
use Rattle.vx_objects.specs.declared.config.Config.{Config}
use Rattle.vx_objects.specs.Config.{objects_of}
use Rattle.vx_image.specs.Bytes.{image_of}
use Rattle.vx_image.specs.Image.{Image}
use Rattle.vx_image.proofs.Members.{contains, is_in}
use Rattle.vx_image.proofs.PlexMembers.{IsIn, from_map}
use Rattle.vx_script_forms.specs.declared.form.Form.TheVariants as form
use Rattle.vx_script.specs.declared.command.Command.{Command}
use Rattle.vx_answers.specs.declared.answer.Answer.{Answer}
use Rattle.vx_answers.specs.declared.answer.Answer.TheVariants.{One}
use Rattle.vx_answers.specs.declared.answer.End.{End}
use Rattle.vx_answers.specs.declared.answer.View.{View}
use Rattle.vx_answers.specs.declared.answer.View.TheVariants.{Recovered}
use Rattle.vx_state_edits.specs.Edits.{is_new}
use Rattle.vx_moments.specs.Commit.{IsCommitted, Writing, parties}
use Rattle.vx_moments.specs.Group.{image_on, public_of, sectors_of}
use Rattle.vx_moments.specs.Moment.{Moment}
use Rattle.vx_moments.specs.World.{Group, World}
use Rattle.vx_plans.specs.Plans.{plan_of}
use Rattle.vx_plans.specs.Steps.{DoesForm, Leaves, Step, done}
use Rattle.vx_recovery.specs.Going.{AreNamesOf, Recovers, all_done}
use Rattle.vx_stages.specs.Finding.{import_records, needs_sync_state}
use Rattle.vx_stages.specs.Stages.{IsDone, IsImporting}
use Rattle.vx_stages.specs.Starting.{volume_started}
use Rattle.vx_stages.specs.declared.stage.Stage.TheVariants as stage
use Rattle.vx_sound.specs.Laws.{FormWritesNoHeader}
use Rattle.vx_sound.specs.Sound.{IsChained}
use Rattle.vx_sound.proofs.Imports.{newest_taken}
use Rattle.vx_readings.proofs.Images.{less_image}
use Rattle.vx_sound_volumes.proofs.Commits.{vol_of}
use Rattle.vx_sound_volumes.proofs.Parts.{Every, Keeps, keeps_all, sectors_same, some_same}
use Rattle.vx_sound_volumes.proofs.Recoveries.{begun_before}
use Rattle.vx_sound_volumes.proofs.Running.{found_there}
use Rattle.vx_sound_volumes.proofs.Stages.{StateLaws}
use Rattle.vx_sound_imports.specs.Back.{imported}
use Rattle.vx_sound_imports.specs.Laws.{EachStepKeepsAllSound}
use Rattle.vx_sound_imports.proofs.Back.{parts_image, state_among}
use Rattle.vx_sound_imports.proofs.Counted.{reading_plexes}
use Rattle.vx_sound_imports.proofs.Commits.{public_stays}
use Rattle.vx_sound_imports.proofs.Found.{all, found_group, found_read, has_parts, image_in_state, imported_sound, offers}
use Rattle.vx_sound_imports.proofs.Nexts.{alone_few}
use Rattle.vx_sound_imports.proofs.Runs.{left_group, stopped_none}
use Rattle.vx_sound_imports.specs.Left.{IsLeft, LiesWithin}
use Rattle.vx_loss_laws.specs.Losses.{IsOneAgain}
use Rattle.vx_loss_laws.specs.Laws.{EachLeftIsRecovered}
use Rattle.vx_loss_laws.proofs.Healed.{begun_fresh, begun_known, begun_runs, begun_waits, mended_agrees}
use Rattle.vx_sound_imports.proofs.Kept.{fewer_within, some_blocks}
use Rattle.vx_loss_laws.proofs.Others.{Waits}
use Rattle.vx_loss_laws.proofs.Seen.{IsSeen, sees_told}

-- ---- an import that is done

-- a volume that an import records as started was started before
old_state : (s : VolState) → is_new (needs_sync_state s) ≡ false → is_new s ≡ false
old_state vol.Empty e = e
old_state vol.Clean e = refl
old_state vol.Active e = refl
old_state vol.NeedSync e = refl
old_state vol.Sync e = refl

module _ (dg : Word) (left : World) (name : Word) (u : Candidates) (chained : IsChained dg left) (lies : IsLeft dg left name u)
    (old new mid : Moment) (is_mid : mid.world ≡ left) (x : Writing) (i : IsImporting dg left x old.counts mid.counts) (c : IsCommitted x mid new) where
  abbrev found : Group
  found = found_group dg left old.counts mid.counts x i chained

  abbrev read : Config
  read = (all dg left old.counts mid.counts x i chained).config

  -- what is found is the newest
  found_stands : (v : Vol) → IsIn read.volumes v → v.name ≡ name → is_new v.state ≡ false → LiesWithin (image_on left.devices found v) u
  found_stands v there named before =
      let at = offers dg left old.counts mid.counts x i chained in
      let taken = all dg left old.counts mid.counts x i chained in
      lies at.0.name at.0.label.slot taken.offer found at.1 (newest_taken dg left old.counts mid.counts i.found _ taken chained) (found_read dg left old.counts mid.counts x i chained) v (contains read.volumes v there) named before

  x_group : x.group ≡ found
  x_group = (all dg left old.counts mid.counts x i chained).holds.0

  next_is : objects_of x.config ≡ import_records read
  next_is = (all dg left old.counts mid.counts x i chained).holds.1

  few : (slot : ℕ) → has c.good slot ≡ true → has found.good slot ≡ true
  few slot is = subst (λ (g : Group). has g.good slot ≡ true) x_group (alone_few x i.joiners c.good c.mask.few slot is)

  -- the public regions are those that were left
  bytes_are : (disk k : ℕ) → sectors_of new.world.devices (parties x) disk k ≡ sectors_of left.devices found.members disk k
  bytes_are disk k =
      ap (λ ms. sectors_of new.world.devices ms disk k) (ap (λ js. x.group.members ++ js) i.joiners ∙ append-nil x.group.members ∙ ap (λ (g : Group). g.members) x_group)
      ∙ sectors_same left.devices new.world.devices found.members (λ m one n. public_stays x c.last mid new c.committing m.device n ∙ ap (λ (w : World). public_of (w.devices m.device) n) is_mid) disk k

  -- with fewer good disks, and as the import records it
  found_back : (v : Vol) → IsIn read.volumes v → v.name ≡ name → is_new v.state ≡ false → LiesWithin (image_of x.config c.good (sectors_of new.world.devices (parties x)) (imported v)) u
  found_back v there named before =
      let bytes = sectors_of new.world.devices (parties x) in
      let was = sectors_of left.devices found.members in
      let same = IsPermutation-refl (objects_of read) in
      let kept = fewer_within (image_of read found.good was v) (image_of read c.good bytes v)
      (less_image read read v found.good c.good was bytes same (record { good = λ place of is. few place.disk is; same = λ place of is. bytes_are place.disk place.sector }))
      (reading_plexes read read v found.good c.good was bytes same) (some_blocks read v (vol_of read v there)) u before (found_stands v there named before) in
      subst (λ (y : Image). LiesWithin y u) (sym (parts_image read x.config (has_parts read x.config next_is) c.good bytes (imported v) ∙ image_in_state read c.good bytes v (needs_sync_state v.state)))
      (record { sound = imported_sound (image_of read c.good bytes v) before kept.sound; among = state_among (image_of read c.good bytes v) before u kept.among })

  import_waits : Waits name u new.world
  import_waits g here v there named before =
      let now : Group = record { config = x.config; good = c.good; members = parties x; sequence = c.last } in
      let groups : now ≡ g = some_same now g (sym c.group ∙ here) in
      let mine = subst (λ (h : Group). IsIn h.config.volumes v) (sym groups) there in
      let was = from_map imported read.volumes v (subst (λ vs. IsIn vs v) (has_parts read x.config next_is).volumes mine) in
      let name_is : was.0.name ≡ name = ap (λ (y : Vol). y.name) (sym was.2) ∙ named in
      let started : is_new was.0.state ≡ false = old_state was.0.state (subst (λ (y : Vol). is_new y.state ≡ false) was.2 before) in
      subst (λ (h : Group). LiesWithin (image_on new.world.devices h v) u) groups (subst (λ (y : Vol). LiesWithin (image_on new.world.devices now y) u) (sym was.2) (found_back was.0 was.1 name_is started))

-- ---- the command

module _ (dg : Word) (old new : Moment) (name : Word) (u : Candidates) (chained : IsChained dg old.world) (none : old.world.group ≡ None) (lies : IsLeft dg old.world name u) where
  done_waits : IsDone (stage.Import dg) [] old new → Waits name u new.world
  done_waits (free, mid, between, (x, is, c)) = import_waits dg old.world name u chained lies old new mid between.world x is c

by_import : (at : ℕ) (of : Option Word) (dg : Word) (old : Moment) (views : List View) (end : End) (new : Moment) (name : Word) (u : Candidates) → IsChained dg old.world → old.world.group ≡ None → IsLeft dg old.world name u →
    DoesForm at of (form.DgImport dg) old views end new → Waits name u new.world
unfolding plan_of
by_import at of dg old views end new name u chained none lies (inl (mid, later, is, (shows, over, stays))) =
    subst (λ (m : Moment). Waits name u m.world) (sym stays) (done_waits dg old mid name u chained none lies is)
by_import at of dg old views end new name u chained none lies (inr (no_views, later, stops)) = λ g here. stopped_none dg old new end none stops g here

import_step_waits : (place : ℕ) (left : Moment) (dg name : Word) (u : Candidates) → IsChained dg left.world → left.world.group ≡ None → IsLeft dg left.world name u →
    (c : Command) (told : Answer) (back : Moment) → c.form ≡ form.DgImport dg → Step place c left told back → Waits name u back.world
import_step_waits place left dg name u chained none lies c told back is step g here v there named before =
    let same : back.world ≡ step.over.world = left_group step.end step.over.world back.world step.leaves g here in
    subst (λ (w : World). LiesWithin (image_on w.devices g v) u) (sym same)
    (by_import place c.group dg left step.views step.end step.over name u chained none lies (subst (λ k. DoesForm place c.group k left step.views step.end step.over) is step.does) g (ap (λ (w : World). w.group) (sym same) ∙ here) v there named before)

-- ---- a recovery that is done

-- nothing is told by a command that is refused
told_of : {A : Type 0} (views : List View) (v : View) → views ≡ [] → Contains views v → A
told_of views v none there = absurd (is_in [] v (subst (λ vs. Contains vs v) none there))

module _ (laws : StateLaws) (place : ℕ) (name : Word) (u : Candidates) (dg vol : Option Word) (dirty copied : ℕ) (old : Moment) (views : List View) (new : Moment) where
  -- the volume that it has come to is one again
  seen_one : (g : Group) → old.world.group ≡ Some g → (names : List Word) → AreNamesOf vol g names → IsSeen laws place name u names old dirty copied new → IsOneAgain vol name dirty copied u old new
  seen_one g here names are s =
      let r = s.is in
      let found = found_there name r.group.config.volumes r.of r.begins.is.volume in
      let stands = begun_waits laws place name u s.mid r.group r.of r.begun r.begins s.waits in
      let before : is_new r.of.state ≡ false = begun_before laws place name s.mid r.group r.of r.begun r.begins in
      let m = r.heals.mended stands.sound in
      let image = image_on r.healed.world.devices r.group r.of in
      let runs = begun_runs r.group r.of image r.ends.recorded s.behind r.ends.runs in
      record {
        group = r.group;
        of = r.of;
        named = found.1;
        healed = r.healed;
        heals = record { mid = s.mid; come = record { group = g; here = here; names = names; are = are; seen = s.come }; begun = r.begun; begins = r.begins; marks = r.marks; heals = r.heals };
        list = m.list;
        agrees = mended_agrees r.group r.of copied r.marks r.begun r.healed u found.0 before stands m;
        run = volume_started r.group r.of image r.ends.runs.sound;
        runs = s.runs ∙ subst (λ n. s.behind.world.volumes n ≡ Some (volume_started r.group r.of image r.ends.runs.sound)) found.1 runs;
        fresh = begun_fresh r.group r.of image r.ends.recorded s.behind r.ends.runs;
        known = λ b low value among. begun_known r.group r.of image r.ends.recorded s.behind r.ends.runs m.list m.reads.reads b low value among;
      }

  recovers_one : Keeps place Every old.world → Waits name u old.world → Recovers dg vol old views all_done new → Contains views (Recovered name dirty copied) → IsOneAgain vol name dirty copied u old new
  recovers_one k waits (inl (r, fails, none, ends)) told = told_of views (Recovered name dirty copied) none told
  recovers_one k waits (inr (passed, g, here, names, are, inl (none, long))) told = told_of views (Recovered name dirty copied) none told
  recovers_one k waits (inr (passed, g, here, names, are, inr (short, sees))) told = seen_one g here names are (sees_told laws place name u dirty copied new names old views (k, λ none. waits) sees told)

-- a command that is done leaves the world as it is over
one_step : (place : ℕ) (c : Command) (vol : Option Word) (old : Moment) (views : List View) (new : Moment) → c.form ≡ form.Recover vol → Step place c old (One views done) new → (over : Moment) × Recovers c.group vol old views all_done over × (new.world ≡ over.world)
one_step place c vol old views new is step = (step.over, does_so, leaves_so)
  where
    views_are : step.views ≡ views
    views_are = let told : One views done ≡ One step.views step.end = step.told in cc

    end_is : step.end ≡ all_done
    end_is = let told : One views done ≡ One step.views step.end = step.told in cc

    does_so : Recovers c.group vol old views all_done step.over
    does_so =
        let does = (subst (λ k. DoesForm place c.group k old step.views step.end step.over) is step.does).1 in
        subst (λ (e : End). Recovers c.group vol old views e step.over) end_is (subst (λ vs. Recovers c.group vol old vs step.end step.over) views_are does)

    leaves_so : new.world ≡ step.over.world
    leaves_so = subst (λ (e : End). Leaves e step.over.world new.world) end_is step.leaves

-- so it is in the world that the command leaves
one_left : (vol : Option Word) (name : Word) (dirty copied : ℕ) (u : Candidates) (old over new : Moment) → new.world ≡ over.world → IsOneAgain vol name dirty copied u old over → IsOneAgain vol name dirty copied u old new
one_left vol name dirty copied u old over new same o = record {
  group = o.group;
  of = o.of;
  named = o.named;
  healed = o.healed;
  heals = o.heals;
  list = o.list;
  agrees = o.agrees;
  run = o.run;
  runs = ap (λ (w : World). w.volumes name) same ∙ o.runs;
  fresh = o.fresh;
  known = o.known;
}

pub each_left_is_recovered : StateLaws → EachStepKeepsAllSound → EachLeftIsRecovered
each_left_is_recovered laws keeps place left dg name u s none lies import told back is step recovery vol views new of recovers dirty copied there =
    let back_sound = keeps place import left told back (subst FormWritesNoHeader (sym is) tt) s step in
    let waits = import_step_waits place left dg name u (s.standing.copies dg) none lies import told back is step in
    let r = one_step (place + 1) recovery vol back views new of recovers in
    one_left vol name dirty copied u back r.0 new r.2
    (recovers_one laws (place + 1) name u recovery.group vol dirty copied back views r.0 (keeps_all (place + 1) back.world back_sound.volumes) waits r.1 there)
