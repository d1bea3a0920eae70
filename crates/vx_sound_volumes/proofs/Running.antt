-- Volumes of the group that are started, called and stopped.
use Rattle.std.proofs.Common.{◌≡◌, ◌≢◌, ◌∙◌, ℕ, ◌+◌, nat_lt, Bool, true, false, cond, List, [], ◌∷◌, Option, Some, None, MatchBool, MatchOption, refl, sym, ap, subst, inl, inr}
use Rattle.std.specs.Prelude.{Contains}
use Rattle.std.specs.Str.{bytes_eq}
use Rattle.vx_base.specs.Named.{Word}
use Rattle.vx_base.proofs.NamedLemmas.{bytes_eq_same, bytes_eq_self, name_cases, put_same}
use Rattle.vx_mask.proofs.Tests.{not_both, true_or_false}
use Rattle.vx_life.specs.Life.{Life, begun_from}
use Rattle.vx_config_parts.specs.declared.object.Object.TheVariants.{VolRecord}
use Rattle.vx_config_parts.specs.declared.state.VolState.{VolState}
use Rattle.vx_config_parts.specs.declared.state.VolState.TheVariants as vol
use Rattle.vx_config_parts.specs.declared.vol.Vol.{Vol}
use Rattle.vx_objects.specs.Applied.{IsEdited}
use Rattle.vx_objects.specs.Config.{objects_of}
use Rattle.vx_image.proofs.PlexMembers.{IsIn}
use Rattle.vx_state_edits.specs.Edits.{is_new, start_edits, started, stop_edits, stopped}
use Rattle.vx_state_edits.specs.Laws.{EachStartRestates, EachStopRestates}
use Rattle.vx_image.specs.Image.{Image}
use Rattle.vx_image.specs.Meaning.{candidates_read}
use Rattle.vx_image.specs.Soundness.{IsSoundImage}
use Rattle.vx_image.proofs.Members.{contains, is_in}
use Rattle.vx_image.proofs.Narrowing.{narrowed_sound}
use Rattle.vx_script_forms.specs.declared.call.Call.{Call}
use Rattle.vx_answers.specs.declared.answer.End.{End}
use Rattle.vx_answers.specs.declared.answer.End.TheVariants as ends
use Rattle.vx_answers.specs.declared.refusal.Refusal.TheVariants as refusal
use Rattle.vx_moments.specs.Commit.{Writing}
use Rattle.vx_moments.specs.Holding.{HasDevice}
use Rattle.vx_moments.specs.Leaving.{grouped}
use Rattle.vx_moments.specs.Moment.{Counts, Moment, Rests}
use Rattle.vx_moments.specs.World.{Group, Lies, OnDevice, OnPlexes, Volume, World}
use Rattle.vx_moments.proofs.Lone.{grouped_on}
use Rattle.vx_moments.specs.Group.{image_on}
use Rattle.vx_moments.specs.Lives.{volume_by}
use Rattle.vx_stages.specs.Calls.{count_of, start_of, volume_of}
use Rattle.vx_stages.specs.Ends.{EndsIn, IsChange}
use Rattle.vx_stages.specs.GroupCalls.{comes_next}
use Rattle.vx_stages.specs.Starting.{BecomesBy, CopiesTo, IsCopied, IsStartedBy, StartStops, StopsIn, StopsOf, may_start, plexes_started, volume_started}
use Rattle.vx_stages.specs.Stopping.{ComesToRest, IsStopDone, StandsStopped, StopStops, rested_volume, without_volume}
use Rattle.vx_stages.specs.Tests.{recorded, volume_in}
use Rattle.vx_stages.specs.Touching.{IsTouched, Narrows, VolumeGoes}
use Rattle.vx_plans.specs.Serving.{CallRuns, ServesOn}
use Rattle.vx_group_edits.specs.Laws.{EachStartKeeps, EachStopKeeps}
use Rattle.vx_group_edits.specs.Stays.{EachStays}
use Rattle.vx_group_edits.proofs.ByKind.{records_vol}
use Rattle.vx_group_edits.proofs.Lists.{among}
use Rattle.vx_sound_volumes.proofs.Changes.{change_kept, change_stops}
use Rattle.vx_sound_volumes.proofs.Commits.{one_vol, vol_of}
use Rattle.vx_sound_volumes.proofs.Lives.{lived, next_running}
use Rattle.vx_sound_volumes.proofs.Named.{restated_back}
use Rattle.vx_sound_volumes.proofs.Parts.{Besides, Every, Keeps, changed, grouped_runs, member_device, not_none, put_away, put_kept, put_run, some_same}

-- ---- one volume

-- the volume that is found under a name is there, and has it
pub found_there : (name : Word) (vs : List Vol) (w : Vol) → volume_in name vs ≡ Some w → IsIn vs w × (w.name ≡ name)
found_there name [] w e = cc
found_there name (v ∷ vs) w e = by (found_there name vs w) (bytes_eq v.name name) refl e
  where
    by : (volume_in name vs ≡ Some w → IsIn vs w × (w.name ≡ name)) → (b : Bool) → bytes_eq v.name name ≡ b → cond b (Some v) (volume_in name vs) ≡ Some w → IsIn (v ∷ vs) w × (w.name ≡ name)
    by on true is e = let same : w ≡ v = cc in (inl same, subst (λ (x : Vol). x.name ≡ name) (sym same) (bytes_eq_same v.name name is))
    by on false is e = let r = on e in (inr r.0, r.1)

pub fewer_names : (place : ℕ) (w : World) (vol : Word) → Keeps place Every w → Keeps place (Besides vol) w
fewer_names place w vol k = record { running = k.running; stopped = λ g here v there other started idle. k.stopped g here v there tt started idle; disks = k.disks }

-- one volume is sound besides the others
pub one_more : (place : ℕ) (w : World) (vol : Word) → ((g : Group) → w.group ≡ Some g → (v : Vol) → Contains g.config.volumes v → v.name ≡ vol → is_new v.state ≡ false → grouped (w.volumes v.name) ≡ None → IsSoundImage (image_on w.devices g v)) → Keeps place (Besides vol) w → Keeps place Every w
one_more place w vol own k = record {
  running = k.running;
  stopped = λ g here v there of started idle. elim (name_cases v.name vol) [
    | inl same ↦ own g here v there same started idle
    | inr other ↦ k.stopped g here v there (λ same. not_both (ap (λ n. bytes_eq n vol) same ∙ bytes_eq_self vol) other) started idle
  ];
  disks = k.disks;
}

module _ (place : ℕ) (old : Moment) (k : Keeps place Every old.world) where
  touched_kept : (g : Group) (vol : Word) (new : Moment) → old.world.group ≡ Some g → IsTouched g vol old new → Keeps place (Besides vol) new.world
  touched_kept g vol new here t = subst (Keeps place (Besides vol)) (sym t.world) (changed place old.world g vol new.world.devices here t.changes k)

  -- its devices were called, and it does not run: its bytes are as sound as they were
  pub own_kept : (g : Group) (v : Vol) (new : Moment) → old.world.group ≡ Some g → IsIn g.config.volumes v → IsTouched g v.name old new →
      (is_new v.state ≡ false → IsSoundImage (image_on old.world.devices g v) → IsSoundImage (image_on new.world.devices g v)) → Keeps place Every new.world
  own_kept g v new here there t as_sound =
      one_more place new.world v.name
      (λ h is u one same started idle.
      let groups : g ≡ h = some_same g h (sym here ∙ sym (ap (λ (w : World). w.group) t.world) ∙ is) in
      let vols : v ≡ u = one_vol g.config v u there (is_in g.config.volumes u (subst (λ (x : Group). Contains x.config.volumes u) (sym groups) one)) (sym same) in
      let new_too : is_new v.state ≡ false = subst (λ (x : Vol). is_new x.state ≡ false) (sym vols) started in
      let rests : grouped (old.world.volumes v.name) ≡ None = subst (λ (x : Vol). grouped (old.world.volumes x.name) ≡ None) (sym vols) (sym (ap (λ (w : World). grouped (w.volumes u.name)) t.world) ∙ idle) in
      let sound = as_sound new_too (k.stopped g here v (contains g.config.volumes v there) tt new_too rests) in
      subst (λ (x : Vol). IsSoundImage (image_on new.world.devices h x)) vols (subst (λ (x : Group). IsSoundImage (image_on new.world.devices x v)) groups sound))
      (touched_kept g v.name new here t)

  -- its log was called, and it does not run
  pub narrowed_kept : (g : Group) (v : Vol) (new : Moment) → old.world.group ≡ Some g → IsIn g.config.volumes v → IsTouched g v.name old new → Narrows g v old new → Keeps place Every new.world
  narrowed_kept g v new here there t narrows = own_kept g v new here there t (λ started sound. narrowed_sound (image_on old.world.devices g v) (image_on new.world.devices g v) (narrows started) sound)

  -- it runs, and is another volume on the same plexes
  pub goes_kept : (g : Group) (name : Word) (later : Volume) (plexes : List Word) (new : Moment) → old.world.group ≡ Some g → later.lies ≡ OnPlexes plexes → later.sound ≡ true → comes_next place later.life ≡ true → VolumeGoes g name later old new → Keeps place Every new.world
  goes_kept g name later plexes new here on sound next goes =
      subst (Keeps place Every) (sym goes.world)
      (put_run place (record old.world { devices = new.world.devices }) name later plexes on sound next (changed place old.world g name new.world.devices here goes.changes k))

-- ---- a start

pub lies_so : (state : VolState) (plexes : List Word) (image : Image) → (volume_by state plexes image).lies ≡ OnPlexes plexes
lies_so vol.Empty plexes image = refl
lies_so vol.Clean plexes image = refl
lies_so vol.Active plexes image = refl
lies_so vol.NeedSync plexes image = refl
lies_so vol.Sync plexes image = refl

pub lives_so : (state : VolState) (plexes : List Word) (image : Image) → (volume_by state plexes image).life ≡ begun_from (candidates_read image)
lives_so vol.Empty plexes image = refl
lives_so vol.Clean plexes image = refl
lives_so vol.Active plexes image = refl
lives_so vol.NeedSync plexes image = refl
lives_so vol.Sync plexes image = refl

pub started_next : (place : ℕ) (g : Group) (v : Vol) (image : Image) (sound : Bool) → comes_next place (volume_started g v image sound).life ≡ true
started_next place g v image sound = subst (λ (l : Life). comes_next place l ≡ true) (sym (lives_so v.state (plexes_started g v) image)) refl

-- what copying leaves of the volume
pub record IsSameRun (run later : Volume) : Type 0 where
  pub lies : later.lies ≡ run.lies
  pub sound : later.sound ≡ run.sound
  pub life : later.life ≡ run.life

pub same_run : (run later x : Volume) → later ≡ x → IsSameRun run x → IsSameRun run later
same_run run later x is same = subst (IsSameRun run) (sym is) same

module _ (g now : Group) (v : Vol) (failed : Word → Bool) (old new : Counts) (run later : Volume) where
  copies : (end : End) → CopiesTo g now v failed old new end run later → IsSameRun run later
  copies (ends.Done copied parts blocks) (inl is) = same_run run later _ is (record { lies = refl; sound = refl; life = refl })
  copies (ends.Done copied parts blocks) (inr (log, is)) = same_run run later _ is (record { lies = refl; sound = refl; life = refl })
  copies (ends.Fault told device parts) is = same_run run later _ is (record { lies = refl; sound = refl; life = refl })
  copies (ends.Lost parts) is = same_run run later _ is (record { lies = refl; sound = refl; life = refl })
  copies (ends.Refused r) is = same_run run later _ is (record { lies = refl; sound = refl; life = refl })
  copies ends.ShelfFailed is = same_run run later _ is (record { lies = refl; sound = refl; life = refl })
  copies ends.GroupLost is = same_run run later _ is (record { lies = refl; sound = refl; life = refl })

  becomes : (sound : Bool) (end : End) → BecomesBy sound g now v failed old new end run later → IsSameRun run later
  becomes true end is = copies end is
  becomes false end is = same_run run later run is (record { lies = refl; sound = refl; life = refl })

module _ (restates : EachStartRestates) (keeps : EachStartKeeps) (place : ℕ) (old : Moment) (end : End) (new : Moment) (k : Keeps place Every old.world) where
  still : new.world ≡ old.world → Keeps place Every new.world
  still same = subst (Keeps place Every) (sym same) k

  module _ (g : Group) (here : old.world.group ≡ Some g) (v : Vol) (there : IsIn g.config.volumes v) where
    here_still : (m : Moment) → IsTouched g v.name old m → m.world.group ≡ Some g
    here_still m t = ap (λ (w : World). w.group) t.world ∙ here

    -- what a start records of the volume keeps the others
    recorded_kept : (x : Writing) (m : Moment) (is : IsChange (start_edits g.config v) m.world x) → m.world.group ≡ Some g → EachStays (λ u. u.name ≢ v.name) x.group.config x.config
    recorded_kept x m is at =
        let same : g ≡ x.group = some_same g x.group (sym at ∙ is.group) in
        keeps x.group.config x.config v (vol_of x.group.config v (subst (λ (h : Group). IsIn h.config.volumes v) same there)) (subst (λ (h : Group). IsEdited (start_edits h.config v) x.group.config x.config) same is.edited)

    recorded_back : (x : Writing) (m : Moment) (is : IsChange (start_edits g.config v) m.world x) → m.world.group ≡ Some g → (u : Vol) → IsIn x.config.volumes u → Besides v.name u.name → is_new u.state ≡ false → (w : Vol) × IsIn x.group.config.volumes w × (w.name ≡ u.name) × (w.name ≢ v.name)
    recorded_back x m is at u one other started_before =
        let same : g ≡ x.group = some_same g x.group (sym at ∙ is.group) in
        let mine = subst (λ (h : Group). IsIn h.config.volumes v) same there in
        restated_back x.group.config x.config u v.name vol.Active (started (is_new v.state))
        (restates x.group.config v (among (objects_of x.group.config) (VolRecord v) (records_vol x.group.config v mine)) x.config (subst (λ (h : Group). IsEdited (start_edits h.config v) x.group.config x.config) same is.edited)) other one

    begins_sound : (m : Moment) (b : IsStartedBy g v old m) → b.begins.sound ≡ true
    begins_sound m b = elim (true_or_false (is_new v.state)) [
      | inl fresh ↦ b.begins.if_new fresh
      | inr before ↦ b.begins.if_sound (k.stopped g here v (contains g.config.volumes v there) tt before (ap grouped b.free))
    ]

    begun : (m : Moment) → IsStartedBy g v old m → Keeps place Every m.world
    begun m b =
        let at = here_still b.opened b.touched in
        let opened = touched_kept place old k g v.name b.opened here b.touched in
        let recorded = change_kept place (Besides v.name) (start_edits g.config v) b.writing b.opened b.change opened (λ u. u.name ≢ v.name) b.recorded b.committed (recorded_kept b.writing b.opened b.change at) (recorded_back b.writing b.opened b.change at) in
        let image = image_on old.world.devices g v in
        subst (Keeps place Every) (sym b.begins.world)
        (put_run place b.recorded.world v.name (volume_started g v image b.begins.sound) (plexes_started g v) (lies_so v.state (plexes_started g v) image) (begins_sound m b) (started_next place g v image b.begins.sound) recorded)

    after : (m : Moment) → IsStartedBy g v old m → IsCopied g v m end new → Keeps place Every new.world
    after m b c =
        let run = volume_started g v (image_on old.world.devices g v) b.begins.sound in
        let same : run ≡ c.volume = some_same run c.volume (sym (put_same v.name (Some run) b.recorded.world.volumes) ∙ sym (ap (λ (w : World). w.volumes v.name) b.begins.world) ∙ c.was) in
        let s = becomes g c.group v c.failed m.counts new.counts c.volume c.later c.volume.sound end c.becomes in
        goes_kept place m (begun m b) c.group v.name c.later (plexes_started g v) new c.here
        (s.lies ∙ ap (λ (x : Volume). x.lies) (sym same) ∙ lies_so v.state (plexes_started g v) (image_on old.world.devices g v))
        (s.sound ∙ ap (λ (x : Volume). x.sound) (sym same) ∙ begins_sound m b)
        (subst (λ (l : Life). comes_next place l ≡ true) (sym s.life) (subst (λ (x : Volume). comes_next place x.life ≡ true) same (started_next place g v (image_on old.world.devices g v) b.begins.sound)))
        c.goes

    of_volume : StopsOf g v old end new → Keeps place Every new.world
    of_volume (inl (why, rests)) = still rests.stays.world
    of_volume (inr (inl stops)) = narrowed_kept place old k g v new here there stops.touched stops.narrows
    of_volume (inr (inr (inl c))) =
        change_stops place Every (start_edits g.config v) c.stops.0 c.opened c.stops.1 (narrowed_kept place old k g v c.opened here there c.touched c.narrows) end new c.stops.2
    of_volume (inr (inr (inr a))) = after a.begun a.started a.copied

    of_state : (may : Bool) → MatchBool may (StopsOf g v old end new) (EndsIn (refusal.VolState v.state) old end new) → Keeps place Every new.world
    of_state true stops = of_volume stops
    of_state false ends = still ends.1.stays.world

  in_group : (g : Group) (name : Word) (o : Option Vol) → old.world.group ≡ Some g → volume_in name g.config.volumes ≡ o → MatchOption o (EndsIn (refusal.NoObject name) old end new) (λ v. MatchBool (may_start v.state) (StopsOf g v old end new) (EndsIn (refusal.VolState v.state) old end new)) → Keeps place Every new.world
  in_group g name None here is ends = still ends.1.stays.world
  in_group g name (Some v) here is stops = of_state g here v (found_there name g.config.volumes v is).0 (may_start v.state) stops

  in_world : (name : Word) (o : Option Group) → old.world.group ≡ o → MatchOption o (EndsIn (refusal.NoGroup None) old end new) (λ g. StopsIn g name old end new) → Keeps place Every new.world
  in_world name None here ends = still ends.1.stays.world
  in_world name (Some g) here stops = in_group g name (volume_in name g.config.volumes) here refl stops

  pub start_ends : (name : Word) → StartStops name old end new → Keeps place Every new.world
  start_ends name stops = in_world name old.world.group refl stops

-- memory was wanting as its log was called
pub start_wants : (place : ℕ) (old new : Moment) (name : Word) (g : Group) (v : Vol) → old.world.group ≡ Some g → volume_in name g.config.volumes ≡ Some v → IsTouched g name old new → Narrows g v old new → Keeps place Every old.world → Keeps place Every new.world
start_wants place old new name g v here found touched narrows k =
    let r = found_there name g.config.volumes v found in
    narrowed_kept place old k g v new here r.0 (subst (λ n. IsTouched g n old new) (sym r.1) touched) narrows

-- ---- a stop

module _ (place : ℕ) (name : Word) (old : Moment) (k : Keeps place Every old.world) where
  pub ran : (mid : Moment) (rest : ComesToRest name old mid) → (rest.volume.sound ≡ true) × (comes_next place rest.volume.life ≡ true)
  ran mid rest = k.running name rest.volume (ap grouped rest.there ∙ grouped_runs rest.volume rest.plexes rest.lies)

  pub rested : (mid : Moment) → ComesToRest name old mid → Keeps place Every mid.world
  rested mid rest = goes_kept place old k rest.group name (rested_volume rest) rest.plexes mid rest.here rest.lies (ran mid rest).0 (ran mid rest).1 rest.goes

  rested_group : (mid : Moment) (rest : ComesToRest name old mid) → mid.world.group ≡ Some rest.group
  rested_group mid rest = ap (λ (w : World). w.group) rest.goes.world ∙ rest.here

  module _ (restates : EachStopRestates) (keeps : EachStopKeeps) (new : Moment) (d : IsStopDone name old new) where
    abbrev x : Writing
    x = d.writing

    abbrev rest : ComesToRest name old d.mid
    rest = d.record_is.rest

    abbrev of : Vol
    of = d.record_is.of

    own : rest.group ≡ x.group
    own = some_same rest.group x.group (sym (rested_group d.mid rest) ∙ d.change.group)

    of_there : IsIn x.group.config.volumes of × (of.name ≡ name)
    of_there = found_there name x.group.config.volumes of (sym (ap (recorded name) (rest.here ∙ ap (λ (h : Group). Some h) own)) ∙ d.record_is.recorded_is)

    edited : IsEdited (stop_edits x.group.config of d.record_is.marks) x.group.config x.config
    edited = subst (λ (h : Group). IsEdited (stop_edits h.config of d.record_is.marks) x.group.config x.config) own (subst (λ es. IsEdited es x.group.config x.config) d.record_is.edits_are d.change.edited)

    gone : Keeps place (Besides name) (without_volume name d.mid).world
    gone = put_away place d.mid.world name (fewer_names place d.mid.world name (rested d.mid rest))

    others : Keeps place (Besides name) new.world
    others =
        change_kept place (Besides name) d.edits x (without_volume name d.mid) d.change gone (λ u. u.name ≢ of.name) new d.committed
        (keeps x.group.config x.config of d.record_is.marks (vol_of x.group.config of of_there.0) edited)
        (λ u one other started.
        restated_back x.group.config x.config u of.name vol.Clean (stopped d.record_is.marks)
        (restates x.group.config of d.record_is.marks (among (objects_of x.group.config) (VolRecord of) (records_vol x.group.config of of_there.0)) x.config edited) (λ same. other (same ∙ of_there.1)) one)

    pub stop_done : Keeps place Every new.world
    stop_done =
        let s : StandsStopped name (rested_volume rest) new.world = d.stands (ran d.mid rest).0 in
        let found = found_there name s.group.config.volumes s.of s.recorded_is in
        one_more place new.world name
        (λ g here v there same started idle.
        let groups : s.group ≡ g = some_same s.group g (sym s.here ∙ here) in
        let vols : s.of ≡ v = one_vol s.group.config s.of v found.0 (is_in s.group.config.volumes v (subst (λ (h : Group). Contains h.config.volumes v) (sym groups) there)) (found.1 ∙ sym same) in
        subst (λ (h : Group). IsSoundImage (image_on new.world.devices h v)) groups (subst (λ (u : Vol). IsSoundImage (image_on new.world.devices s.group u)) vols s.stands.sound)) others

  pub stop_ends : (end : End) (new : Moment) → StopStops name old end new → Keeps place Every new.world
  stop_ends end new (inl (why, rests)) = subst (Keeps place Every) (sym rests.stays.world) k
  stop_ends end new (inr (inl r)) = rested new r.rest
  stop_ends end new (inr (inr b)) = change_stops place Every b.edits b.writing b.mid b.change (rested b.mid b.record_is.rest) end new b.stopped

-- ---- a call

module _ (place : ℕ) (call : Call) (old : Moment) (end : End) (new : Moment) (k : Keeps place Every old.world) where
  later : Keeps (place + 1) Every old.world
  later = next_running place Every old.world k

  served_kept : (v : Volume) → old.world.volumes (volume_of call) ≡ Some v → (lies : Lies) → v.lies ≡ lies → ServesOn lies place call v old end new → Keeps (place + 1) Every new.world
  served_kept v found (OnDevice device) on served =
      let u : Volume = record v { life = served.life } in
      subst (Keeps (place + 1) Every) (sym served.world)
      (put_kept (place + 1) Every Every old.world (volume_of call) (Some u) (λ n other of. of)
      (λ run is. not_none run (sym (grouped_on u device on) ∙ is))
      (λ of none. (of, ap grouped found ∙ grouped_on v device on))
      (λ x is name has member. (volume_of call, v, found, subst (λ (y : Volume). HasDevice y.lies name) (sym (some_same u x is)) has))
      (member_device old.world) later)
  served_kept v found (OnPlexes plexes) on served =
      let was = k.running (volume_of call) v (ap grouped found ∙ grouped_runs v plexes on) in
      let l = lived place call served.group plexes v old.counts new.counts end served.later was.0 was.1 served.becomes in
      subst (Keeps (place + 1) Every) (sym served.world)
      (put_run (place + 1) (record old.world { devices = new.world.devices }) (volume_of call) served.later plexes (l.0 ∙ on) l.1 l.2 (changed (place + 1) old.world served.group (volume_of call) new.world.devices served.here served.changes later))

  at_rest : new.world ≡ old.world → Keeps (place + 1) Every new.world
  at_rest same = subst (Keeps (place + 1) Every) (sym same) later

  at_range : (v : Volume) (b : Bool) → old.world.volumes (volume_of call) ≡ Some v → MatchBool b ((end ≡ ends.Refused refusal.Range) × Rests old new) (ServesOn v.lies place call v old end new) → Keeps (place + 1) Every new.world
  at_range v true found h = at_rest h.1.stays.world
  at_range v false found h = served_kept v found v.lies refl h

  at_volume : (o : Option Volume) → old.world.volumes (volume_of call) ≡ o → MatchOption o ((end ≡ ends.Refused (refusal.NotStarted (volume_of call))) × Rests old new) (λ v. MatchBool (nat_lt v.length (start_of call + count_of call)) ((end ≡ ends.Refused refusal.Range) × Rests old new) (ServesOn v.lies place call v old end new)) → Keeps (place + 1) Every new.world
  at_volume None found h = at_rest h.1.stays.world
  at_volume (Some v) found h = at_range v (nat_lt v.length (start_of call + count_of call)) found h

  pub call_kept : CallRuns place call old end new → Keeps (place + 1) Every new.world
  call_kept runs = at_volume (old.world.volumes (volume_of call)) refl runs
