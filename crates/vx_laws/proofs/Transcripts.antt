-- Each transcript keeps the histories of all volumes: each stage does, and each call, and each command.
use Rattle.std.proofs.Common.{◌≡◌, ◌⊎◌, ◌&&◌, ℕ, ◌+◌, Bool, true, false, List, [], ◌∷◌, Option, Some, None, MatchOption, MatchBool, nat_lt, refl, sym, ◌∙◌, ap, subst, inl, inr}
use Rattle.std.proofs.lemmas.Bool.{and_parts}
use Rattle.vx_laws.proofs.Runs.{has_stopped, volumes_of}
use Rattle.vx_base.specs.Named.{Word, put}
use Rattle.vx_script_words.specs.declared.value.DiskAt.{DiskAt}
use Rattle.vx_script_forms.specs.declared.call.Call.{Call}
use Rattle.vx_answers.specs.declared.answer.End.{End}
use Rattle.vx_answers.specs.declared.answer.End.TheVariants as ends
use Rattle.vx_answers.specs.declared.refusal.Refusal.TheVariants.{NotStarted, Range}
use Rattle.vx_config_parts.specs.declared.vol.Vol.{Vol}
use Rattle.vx_stages.specs.Tests.{volume_in}
use Rattle.vx_moments.specs.World.{Group, World, Device, Volume, Lies, OnDevice, OnPlexes}
use Rattle.vx_moments.specs.Owners.{owners_of}
use Rattle.vx_moments.specs.Tracks.{volume_failed}
use Rattle.vx_moments.proofs.Tracked.{goes_length, goes_lies}
use Rattle.vx_moments.specs.Moment.{Moment, Rests}
use Rattle.vx_stages.specs.Calls.{volume_of, start_of, count_of}
use Rattle.vx_stages.specs.GroupCalls.{BecomesBy, IsServedOnPlexes, comes_next, is_known}
use Rattle.vx_plans.specs.Serving.{CallRuns, ServesOn}
use Rattle.vx_stages.specs.Stages.{IsDone, Stops, bare_volume}
use Rattle.vx_stages.specs.declared.stage.Stage.{Stage}
use Rattle.vx_stages.specs.declared.stage.Stage.TheVariants as stage
use Rattle.vx_plans.proofs.Complete.{kept_world, keeps_world}
use Rattle.vx_life.specs.Candidates.{Candidates, known}
use Rattle.vx_image.specs.Meaning.{candidates_read}
use Rattle.vx_moments.specs.Group.{image_on}
use Rattle.vx_laws.specs.Histories.{FirstStartsNext, HasHealed, HasHistory, StartsNext, IsHistoried, IsHistoriedOn, HaveHistories, NoneStarted, WasRead, WasThere}
use Rattle.vx_laws.proofs.Recoveries.{recover_kept}
use Rattle.vx_laws.proofs.Starts.{AreRead, IsRead, attach_kept, detach_done, detach_kept, leaving_done, leaving_kept, mirror_kept, prepare_done, start_kept, stop_done, stop_kept, unprepare_done}
use Rattle.vx_laws.proofs.Lives.{Holding, Reading, begun_history, put_history, goes_on_history, same_volumes, without_group, from_nothing}
use Rattle.vx_base.specs.Blocks.{Contents}
use Rattle.vx_script_forms.specs.declared.act.Act.{Act}
use Rattle.vx_script_forms.specs.declared.act.Act.TheVariants as act
use Rattle.vx_script_forms.specs.declared.form.Form.{Form}
use Rattle.vx_script_forms.specs.declared.form.Form.TheVariants as form
use Rattle.vx_script_forms.specs.declared.form.WordPolicy.TheVariants as words
use Rattle.vx_script.specs.declared.command.Command.{Command}
use Rattle.vx_answers.specs.declared.answer.Answer.{Answer}
use Rattle.vx_answers.specs.declared.answer.View.{View}
use Rattle.vx_plans.specs.Plans.{new_volume, plan_of, plan_of_act, disks_of}
use Rattle.vx_plans.specs.Steps.{Runs, Leaves, IsNotBuilt, DoesPlan, DoesForm, Step, IsTranscript}
use Rattle.vx_stages.specs.declared.stage.Source.{Source}
use Rattle.vx_stages.specs.declared.stage.Source.TheVariants as source
use Rattle.vx_plans.specs.declared.stages.Finish.{Finish}
use Rattle.vx_plans.specs.declared.stages.Finish.TheVariants.{Nothing}
use Rattle.vx_stages.specs.declared.test.Test.TheVariants as tests
use Rattle.vx_plans.specs.declared.stages.Plan.{Plan}

-- what holds on each device may have been held
abbrev pub AreThere : Holding → World → Type 0
AreThere Held w = (name : Word) (d : Device) → w.devices name ≡ Some d → Held name d.sectors d.contents

-- what devices hold, and what a start would read
abbrev pub AreKnown : Holding → Reading → World → Type 0
AreKnown Held Read w = AreThere Held w × AreRead Read w

-- ---- stages

module _ (Held : Holding) (Read : Reading) (old new : Moment) (all : HaveHistories Held Read old.world) where
  pub same : new.world ≡ old.world → HaveHistories Held Read new.world
  same e = same_volumes Held Read old.world new.world (volumes_of old.world new.world e) all

  as_was : new.world.volumes ≡ old.world.volumes → HaveHistories Held Read new.world
  as_was e = same_volumes Held Read old.world new.world e all

  stage_kept : (s : Stage) (disks : List DiskAt) → AreKnown Held Read old.world → IsDone s disks old new → HaveHistories Held Read new.world
  stage_kept (stage.MakeImage name sectors) disks there (none, made, calls, quiet) = as_was (ap (λ (w : World). w.volumes) made.is)
  stage_kept (stage.Wipe name) disks there (has, calls) = as_was (ap (λ (w : World). w.volumes) has.is)
  stage_kept (stage.StartBare vol name) disks there (free, bare, counts) =
      let d = bare.device in
      subst (HaveHistories Held Read) (sym bare.is) (put_history Held Read old.world vol (bare_volume name d) (d.contents, there.0 name d bare.was, begun_history (known d.contents)) all)
  stage_kept (stage.Change change) disks there (x, writing, committed) = as_was committed.committing.volumes
  stage_kept (stage.Make from) disks there (x, writing, committed) = as_was committed.committing.volumes
  stage_kept stage.Join [] there is = absurd is
  stage_kept stage.Join (p ∷ q ∷ ps) there is = absurd is
  stage_kept stage.Join (p ∷ []) there (x, writing, committed) = as_was committed.committing.volumes
  stage_kept (stage.Create dg) disks there (none, (x, writing, committed)) = as_was committed.committing.volumes
  stage_kept (stage.Import dg) disks there (none, mid, between, (x, writing, committed)) = as_was (committed.committing.volumes ∙ volumes_of old.world mid.world between.world)
  stage_kept stage.LetGo disks there (gone, counts) = subst (HaveHistories Held Read) (sym gone) (without_group Held Read old.world all)
  stage_kept (stage.Start vol) disks there is = absurd is
  stage_kept (stage.Mirror mirror) disks there is = absurd is
  stage_kept (stage.Prepare logs) disks there is = prepare_done Held Read old all logs new is
  stage_kept (stage.Unprepare vol) disks there is = unprepare_done Held Read old all vol new is
  stage_kept (stage.Detach plex) disks there is = detach_done Held Read old all plex new is
  stage_kept (stage.Attach vol plex) disks there is = absurd is
  stage_kept (stage.Dissociate plex remove) disks there is = leaving_done Held Read old all remove plex new is
  stage_kept (stage.Stop vol) disks there is = stop_done Held Read vol old all new is
  stage_kept other disks there is = same (kept_world other disks old new refl is)

  -- a stage that ends the command keeps them too
  ending_kept : (s : Stage) (disks : List DiskAt) (end : End) → AreKnown Held Read old.world → Stops s disks old end new → HaveHistories Held Read new.world
  ending_kept (stage.Start vol) disks end there stops = start_kept Held Read old new end all vol (there.1 vol) stops
  ending_kept (stage.Mirror mirror) disks end there stops = mirror_kept Held Read mirror.vol mirror.disks old all end new stops
  ending_kept (stage.Detach plex) disks end there stops = detach_kept Held Read old all plex end new stops
  ending_kept (stage.Attach vol plex) disks end there stops = attach_kept Held Read vol plex old all end new stops
  ending_kept (stage.Dissociate plex remove) disks end there stops = leaving_kept Held Read old all remove plex end new stops
  ending_kept (stage.Stop vol) disks end there stops = stop_kept Held Read vol old all end new stops
  ending_kept other disks end there stops = as_was (has_stopped old new end other disks refl stops).volumes

-- ---- calls

module _ (Held : Holding) (Read : Reading) (place : ℕ) (call : Call) (old new : Moment) (end : End) (all : HaveHistories Held Read old.world) where
  -- a volume on plexes has lived on, or nothing is known of it any more
  plexes_served : (plexes : List Word) (v : Volume) → old.world.volumes (volume_of call) ≡ Some v → v.lies ≡ OnPlexes plexes → IsServedOnPlexes place call plexes v old end new → HaveHistories Held Read new.world
  plexes_served plexes v found on served =
      same_volumes Held Read (record old.world { volumes = put (volume_of call) (Some served.later) old.world.volumes }) new.world (ap (λ (w : World). w.volumes) served.world)
      (put_history Held Read old.world (volume_of call) served.later (by (is_known place v) refl served.becomes) all)
    where
      own : v.sound ≡ true → (first : Candidates) × Read (volume_of call) v.length first × HasHistory first v.life
      own = subst (λ l. IsHistoriedOn Held Read (volume_of call) l v) on (all (volume_of call) v found)

      by : (known : Bool) → is_known place v ≡ known → BecomesBy known place call served.group plexes v old.counts new.counts end served.later → IsHistoried Held Read (volume_of call) served.later
      by true e lives =
          let owners = owners_of served.group (volume_of call) plexes in
          let failed = volume_failed owners lives.failed v in
          let lies : served.later.lies ≡ OnPlexes plexes = ap (λ (x : Volume). x.lies) lives.is ∙ goes_lies owners lives.entries failed ∙ on in
          let long : served.later.length ≡ v.length = ap (λ (x : Volume). x.length) lives.is ∙ goes_length owners lives.entries failed in
          let was = own (and_parts v.sound (comes_next place v.life) e).0 in
          subst (λ l. IsHistoriedOn Held Read (volume_of call) l served.later) (sym lies)
          (λ sound. (was.0, subst (λ n. Read (volume_of call) n was.0) (sym long) was.1, subst (HasHistory was.0) (sym (ap (λ (x : Volume). x.life) lives.is)) (goes_on_history was.0 v.life lives.life lives.entries was.2 lives.goes_on)))
      by false e is =
          let lies : served.later.lies ≡ OnPlexes plexes = ap (λ (x : Volume). x.lies) is ∙ on in
          subst (λ l. IsHistoriedOn Held Read (volume_of call) l served.later) (sym lies) (λ sound. absurd (let no : false ≡ true = sym (ap (λ (x : Volume). x.sound) is) ∙ sound in cc))

  call_served : (v : Volume) → old.world.volumes (volume_of call) ≡ Some v → (lies : Lies) → v.lies ≡ lies → ServesOn lies place call v old end new → HaveHistories Held Read new.world
  call_served v found (OnDevice device) on served =
      let own : IsHistoriedOn Held Read (volume_of call) (OnDevice device) v = subst (λ l. IsHistoriedOn Held Read (volume_of call) l v) on (all (volume_of call) v found) in
      let more = goes_on_history (known own.0) v.life served.life served.lives.entries own.2 served.lives.goes_on in
      subst (HaveHistories Held Read) (sym served.world) (put_history Held Read old.world (volume_of call) (record v { life = served.life }) (subst (λ l. IsHistoriedOn Held Read (volume_of call) l (let x : Volume = record v { life = served.life } in x)) (sym on) (own.0, own.1, more)) all)
  call_served v found (OnPlexes plexes) on served = plexes_served plexes v found on served

  at_range : (v : Volume) (b : Bool) → old.world.volumes (volume_of call) ≡ Some v → MatchBool b ((end ≡ ends.Refused Range) × Rests old new) (ServesOn v.lies place call v old end new) → HaveHistories Held Read new.world
  at_range v true found h = same Held Read old new all h.1.stays.world
  at_range v false found h = call_served v found v.lies refl h

  at_volume : (o : Option Volume) → old.world.volumes (volume_of call) ≡ o → MatchOption o ((end ≡ ends.Refused (NotStarted (volume_of call))) × Rests old new) (λ v. MatchBool (nat_lt v.length (start_of call + count_of call)) ((end ≡ ends.Refused Range) × Rests old new) (ServesOn v.lies place call v old end new)) → HaveHistories Held Read new.world
  at_volume None found h = same Held Read old new all h.1.stays.world
  at_volume (Some v) found h = at_range v (nat_lt v.length (start_of call + count_of call)) found h

  pub call_kept : CallRuns place call old end new → HaveHistories Held Read new.world
  call_kept runs = at_volume (old.world.volumes (volume_of call)) refl runs

-- ---- plans

-- all stages but the last keep the world
abbrev all_keep_but_last : List Stage → Bool
all_keep_but_last [] = true
all_keep_but_last (s ∷ []) = true
all_keep_but_last (s ∷ t ∷ ss) = keeps_world s && all_keep_but_last (t ∷ ss)

abbrev is_shaped : Option Plan → Bool
is_shaped None = true
is_shaped (Some plan) = all_keep_but_last plan.stages

-- the form makes a new volume
abbrev makes_volume : Form → Bool
makes_volume (form.AssistMake vol length attrs disks) = true
makes_volume other = false

act_shaped : (dg : Option Word) (a : Act) → is_shaped (plan_of_act dg a) ≡ true
act_shaped dg (act.PlexDet plex) = refl
act_shaped dg (act.PlexAtt vol plex) = refl
act_shaped dg other = refl

plan_shaped : (dg : Option Word) (f : Form) → makes_volume f ≡ false → is_shaped (plan_of dg f) ≡ true
unfolding plan_of
plan_shaped dg (form.AssistMake vol length attrs disks) other = cc
plan_shaped dg (form.PrintM None) other = refl
plan_shaped dg (form.PrintM (Some vol)) other = refl
plan_shaped dg (form.PrintHt None) other = refl
plan_shaped dg (form.PrintHt (Some vol)) other = refl
plan_shaped dg (form.Rdpol vol words.Round) other = refl
plan_shaped dg (form.Rdpol vol words.Select) other = refl
plan_shaped dg (form.Rdpol vol (words.Prefer plex)) other = refl
plan_shaped dg (form.Acting act) other = act_shaped dg act
plan_shaped dg f other = refl

-- what is read of a volume that a command of this form starts next, or has healed
pub record AreReadIn (Read : Reading) (f : Form) (old : Moment) : Type 0 where
  pub starts : (name : Word) (mid : Moment) → StartsNext f name old mid → IsRead Read name mid.world
  pub healed : (name : Word) (g : Group) (v : Vol) (at : Moment) → HasHealed f name g v old at → Read name v.len (candidates_read (image_on at.world.devices g v))

module _ (Held : Holding) (Read : Reading) where
  runs_kept : (disks : List DiskAt) (stages : List Stage) (finish : Finish) (old : Moment) (views : List View) (end : End) (new : Moment) → all_keep_but_last stages ≡ true → AreKnown Held Read old.world → HaveHistories Held Read old.world → Runs disks stages finish old views end new → HaveHistories Held Read new.world
  runs_kept disks [] finish old views end new shaped there all (shows, is, stays) = same Held Read old new all (ap (λ (m : Moment). m.world) stays)
  runs_kept disks (s ∷ []) finish old views end new shaped there all (inl (mid, later, is, (shows, over, stays))) = same Held Read mid new (stage_kept Held Read old mid all s disks there is) (ap (λ (m : Moment). m.world) stays)
  runs_kept disks (s ∷ []) finish old views end new shaped there all (inr (none, later, stops)) = ending_kept Held Read old new all s disks end there stops
  runs_kept disks (s ∷ t ∷ ss) finish old views end new shaped there all (inl (mid, later, is, rest)) =
      let shapes = and_parts (keeps_world s) (all_keep_but_last (t ∷ ss)) shaped in
      let stays = kept_world s disks old mid shapes.0 is in
      runs_kept disks (t ∷ ss) finish mid views end new shapes.1 (subst (AreKnown Held Read) (sym stays) there) (same Held Read old mid all stays) rest
  runs_kept disks (s ∷ t ∷ ss) finish old views end new shaped there all (inr (none, later, stops)) = ending_kept Held Read old new all s disks end there stops

  not_built : (old : Moment) (views : List View) (end : End) (new : Moment) → HaveHistories Held Read old.world → IsNotBuilt old views end new → HaveHistories Held Read new.world
  not_built old views end new all (none, is, stays) = same Held Read old new all (ap (λ (m : Moment). m.world) stays)

  plan_kept : (disks : List DiskAt) (plan : Option Plan) (old : Moment) (views : List View) (end : End) (new : Moment) → is_shaped plan ≡ true → AreKnown Held Read old.world → HaveHistories Held Read old.world → DoesPlan disks plan old views end new → HaveHistories Held Read new.world
  plan_kept disks None old views end new shaped there all does = not_built old views end new all does
  plan_kept disks (Some plan) old views end new shaped there all does = runs_kept disks plan.stages plan.finish old views end new shaped there all does

  -- ---- a new volume

  at_moment : (old new : Moment) → new ≡ old → HaveHistories Held Read old.world → HaveHistories Held Read new.world
  at_moment old new stays all = same Held Read old new all (ap (λ (m : Moment). m.world) stays)

  module _ (from : Source) (vol : Word) (views : List View) (end : End) (new : Moment) where
    starting_kept : (old : Moment) → IsRead Read vol old.world → HaveHistories Held Read old.world → Runs [] (stage.Gate (tests.Stopped vol) ∷ stage.Start vol ∷ []) Nothing old views end new → HaveHistories Held Read new.world
    starting_kept old read all (inl (mid, later, (passed, stays), inl (m, after, is, rest))) = absurd is
    starting_kept old read all (inl (mid, later, (passed, stays), inr (none, after, stops))) =
        start_kept Held Read mid new end (at_moment old mid stays all) vol (subst (λ (m : Moment). IsRead Read vol m.world) (sym stays) read) stops
    starting_kept old read all (inr (none, later, (r, fails, is, stays))) = at_moment old new stays all

    adding_kept : (old : Moment) → ((mid : Moment) → IsDone (stage.Make from) [] old mid → IsRead Read vol mid.world) → HaveHistories Held Read old.world
        → Runs [] (stage.Make from ∷ stage.Gate (tests.Stopped vol) ∷ stage.Start vol ∷ []) Nothing old views end new → HaveHistories Held Read new.world
    adding_kept old read all (inl (mid, later, is, rest)) = starting_kept mid (read mid is) (as_was Held Read old mid all is.2.committing.volumes) rest
    adding_kept old read all (inr (none, later, stops)) = as_was Held Read old new all (has_stopped old new end (stage.Make from) [] refl stops).volumes

    new_kept : (dg : Option Word) (old : Moment) → ((mid : Moment) → IsDone (stage.Make from) [] old mid → IsRead Read vol mid.world) → HaveHistories Held Read old.world
        → Runs [] (stage.Gate (tests.GroupIs dg) ∷ stage.Make from ∷ stage.Gate (tests.Stopped vol) ∷ stage.Start vol ∷ []) Nothing old views end new → HaveHistories Held Read new.world
    new_kept dg old read all (inl (mid, later, (passed, stays), rest)) =
        adding_kept mid (λ m is. read m (subst (λ (o : Moment). IsDone (stage.Make from) [] o m) stays is)) (at_moment old mid stays all) rest
    new_kept dg old read all (inr (none, later, (r, fails, is, stays))) = at_moment old new stays all

  -- ---- commands

  pub form_kept : (place : ℕ) (dg : Option Word) (f : Form) (old : Moment) (views : List View) (end : End) (new : Moment) → AreKnown Held Read old.world → AreReadIn Read f old → HaveHistories Held Read old.world → DoesForm place dg f old views end new → HaveHistories Held Read new.world
  unfolding plan_of
  form_kept place dg (form.Calling call) old views end new there added all does = call_kept Held Read place call old new end all does.2
  form_kept place dg (form.AssistMake vol length attrs disks) old views end new there added all does =
      new_kept (source.Volume (new_volume vol length attrs disks)) vol views end new dg old (λ mid is. added.starts vol mid (refl, is)) all does
  form_kept place dg (form.Recover vol) old views end new there added all does =
      recover_kept Held Read end new dg vol old views (λ name mid come. (added.starts name mid come, λ g v begun dirty copied marks healed b h. added.healed name g v healed (mid, come, begun, b, dirty, copied, marks, h))) all does.1
  form_kept place dg other old views end new there added all does = plan_kept (disks_of other) (plan_of dg other) old views end new (plan_shaped dg other refl) there all does

  left_kept : (end : End) (over left : World) → HaveHistories Held Read over → Leaves end over left → HaveHistories Held Read left
  left_kept ends.GroupLost over left all is = subst (HaveHistories Held Read) (sym is.1) (without_group Held Read over all)
  left_kept (ends.Lost parts) over left all gone = from_nothing Held Read left gone.1.volumes
  left_kept (ends.Done copied parts blocks) over left all is = subst (HaveHistories Held Read) (sym is) all
  left_kept (ends.Refused r) over left all is = subst (HaveHistories Held Read) (sym is) all
  left_kept (ends.Fault told device parts) over left all is = subst (HaveHistories Held Read) (sym is) all
  left_kept ends.ShelfFailed over left all is = subst (HaveHistories Held Read) (sym is) all

  step_kept : (place : ℕ) (c : Command) (old : Moment) (answer : Answer) (new : Moment) → AreKnown Held Read old.world → AreReadIn Read c.form old → HaveHistories Held Read old.world → Step place c old answer new → HaveHistories Held Read new.world
  step_kept place c old answer new there added all step = left_kept step.end step.over.world new.world (form_kept place c.group c.form old step.views step.end step.over there added all step.does) step.leaves

-- ---- transcripts

-- what was there in the rest of a transcript was there in the whole
module _ (place : ℕ) (old mid : Moment) (c : Command) (cs : List Command) (a : Answer) (rest : List Answer) (step : Step place c old a mid) where
  was_later : (name : Word) (sectors : ℕ) (blocks : Contents) → WasThere (place + 1) mid cs rest name sectors blocks → WasThere place old (c ∷ cs) (a ∷ rest) name sectors blocks
  was_later name sectors blocks was = record {
    before = c ∷ was.before;
    others = was.others;
    commands_are = ap (λ l. c ∷ l) was.commands_are;
    told = a ∷ was.told;
    later = was.later;
    answers_are = ap (λ l. a ∷ l) was.answers_are;
    moment = was.moment;
    transcript = (mid, step, was.transcript);
    here = was.here;
  }

  read_later : (name : Word) (sectors : ℕ) (first : Candidates) → WasRead (place + 1) mid cs rest name sectors first → WasRead place old (c ∷ cs) (a ∷ rest) name sectors first
  read_later name sectors first was = record {
    before = c ∷ was.before;
    others = was.others;
    commands_are = ap (λ l. c ∷ l) was.commands_are;
    told = a ∷ was.told;
    later = was.later;
    answers_are = ap (λ l. a ∷ l) was.answers_are;
    moment = was.moment;
    transcript = (mid, step, was.transcript);
    at = was.at;
    group = was.group;
    imported = was.imported;
    of = was.of;
    recorded = was.recorded;
    size = was.size;
    reached = was.reached;
    candidates = was.candidates;
  }

-- what is there in the first world was there
module _ (place : ℕ) (old : Moment) (commands : List Command) (answers : List Answer) where
  was_first : AreThere (WasThere place old commands answers) old.world
  was_first name d is = record {
    before = [];
    others = commands;
    commands_are = refl;
    told = [];
    later = answers;
    answers_are = refl;
    moment = old;
    transcript = refl;
    here = is;
  }

  read_first : (name : Word) (at : Moment) → (at ≡ old) ⊎ FirstStartsNext commands name old at → IsRead (WasRead place old commands answers) name at.world
  read_first name at reached g here v is may = record {
    before = [];
    others = commands;
    commands_are = refl;
    told = [];
    later = answers;
    answers_are = refl;
    moment = old;
    transcript = refl;
    at = at;
    group = g;
    imported = here;
    of = v;
    recorded = is;
    size = refl;
    reached = inl (may, reached);
    candidates = refl;
  }

-- what is healed is a volume of the group
healed_of : (f : Form) (name : Word) (g : Group) (v : Vol) (old at : Moment) → HasHealed f name g v old at → (at.world.group ≡ Some g) × (volume_in name g.config.volumes ≡ Some v)
healed_of (form.Recover vol) name g v old at (mid, come, begun, b, dirty, copied, marks, h) = (ap (λ (w : World). w.group) h.healing.touched.world ∙ b.is.group, b.is.volume)
healed_of other name g v old at never = absurd never

-- what was healed in the first command was read
healed_first : (place : ℕ) (old : Moment) (c : Command) (cs : List Command) (answers : List Answer) (name : Word) (g : Group) (v : Vol) (at : Moment) → HasHealed c.form name g v old at →
    WasRead place old (c ∷ cs) answers name v.len (candidates_read (image_on at.world.devices g v))
healed_first place old c cs answers name g v at has =
    let of = healed_of c.form name g v old at has in
    record {
      before = [];
      others = c ∷ cs;
      commands_are = refl;
      told = [];
      later = answers;
      answers_are = refl;
      moment = old;
      transcript = refl;
      at = at;
      group = g;
      imported = of.0;
      of = v;
      recorded = of.1;
      size = refl;
      reached = inr has;
      candidates = refl;
    }

-- what was there or was read in the transcript is known
pub record IsKnownOf (Held : Holding) (Read : Reading) (place : ℕ) (old : Moment) (commands : List Command) (answers : List Answer) : Type 0 where
  pub held : (name : Word) (sectors : ℕ) (blocks : Contents) → WasThere place old commands answers name sectors blocks → Held name sectors blocks
  pub read : (name : Word) (sectors : ℕ) (first : Candidates) → WasRead place old commands answers name sectors first → Read name sectors first

module _ (Held : Holding) (Read : Reading) where
  pub transcript_kept : (place : ℕ) (old new : Moment) (commands : List Command) (answers : List Answer) → IsKnownOf Held Read place old commands answers → HaveHistories Held Read old.world → IsTranscript place old commands answers new → HaveHistories Held Read new.world
  transcript_kept place old new [] [] known all h = same Held Read old new all (ap (λ (m : Moment). m.world) h)
  transcript_kept place old new [] (a ∷ rest) known all h = absurd h
  transcript_kept place old new (c ∷ cs) [] known all h = absurd h
  transcript_kept place old new (c ∷ cs) (a ∷ rest) known all (mid, step, more) =
      let there : AreThere Held old.world = λ name d is. known.held name d.sectors d.contents (was_first place old (c ∷ cs) (a ∷ rest) name d is) in
      let read : (name : Word) (at : Moment) → (at ≡ old) ⊎ FirstStartsNext (c ∷ cs) name old at → IsRead Read name at.world =
      λ name at reached g here v is may. known.read name v.len (candidates_read (image_on at.world.devices g v)) (read_first place old (c ∷ cs) (a ∷ rest) name at reached g here v is may) in
      transcript_kept (place + 1) mid new cs rest
      (record {
        held = λ name sectors blocks was. known.held name sectors blocks (was_later place old mid c cs a rest step name sectors blocks was);
        read = λ name sectors first was. known.read name sectors first (read_later place old mid c cs a rest step name sectors first was);
      })
      (step_kept Held Read place c old a mid (there, λ name. read name old (inl refl))
      (record {
        starts = λ name at has. read name at (inr has);
        healed = λ name g v at has. known.read name v.len (candidates_read (image_on at.world.devices g v)) (healed_first place old c cs (a ∷ rest) name g v at has);
      })
      all step) more

pub each_volume_has_a_history : (place : ℕ) (old new : Moment) (commands : List Command) (answers : List Answer) → NoneStarted old.world → IsTranscript place old commands answers new → HaveHistories (WasThere place old commands answers) (WasRead place old commands answers) new.world
each_volume_has_a_history place old new commands answers none transcript =
    let Held = WasThere place old commands answers in
    let Read = WasRead place old commands answers in
    transcript_kept Held Read place old new commands answers (record { held = λ name sectors blocks was. was; read = λ name sectors first was. was }) (from_nothing Held Read old.world none) transcript
