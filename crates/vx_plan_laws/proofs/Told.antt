-- What a command tells that is done: a start, a mirror and a plex that goes into use how many regions they have copied, and another nothing.
use Rattle.std.proofs.Common.{◌≡◌, ℕ, Bool, true, false, List, [], ◌∷◌, ◌++◌, Option, Some, None, MatchBool, MatchOption, refl, sym, ◌∙◌, ◌⊎◌, ap, subst, inl, inr}
use Rattle.vx_base.specs.Named.{Word}
use Rattle.vx_config_parts.specs.declared.plex.Plex.{Plex}
use Rattle.vx_config_parts.specs.declared.vol.Vol.{Vol}
use Rattle.vx_objects.specs.declared.edit.Edit.{Edit}
use Rattle.vx_new_volumes.specs.declared.logs.NewLogs.{NewLogs}
use Rattle.vx_new_volumes.specs.declared.mirror.NewPlex.{NewPlex}
use Rattle.vx_script_words.specs.declared.value.DiskAt.{DiskAt}
use Rattle.vx_script_forms.specs.declared.act.Act.TheVariants as act
use Rattle.vx_script_forms.specs.declared.form.Form.{Form}
use Rattle.vx_script_forms.specs.declared.form.Form.TheVariants as form
use Rattle.vx_answers.specs.declared.answer.End.{End}
use Rattle.vx_answers.specs.declared.answer.End.TheVariants as ends
use Rattle.vx_answers.specs.declared.answer.View.{View}
use Rattle.vx_answers.specs.declared.refusal.Refusal.{Refusal}
use Rattle.vx_answers.specs.declared.refusal.Refusal.TheVariants as refusal
use Rattle.vx_moments.specs.Commit.{Writing, IsStopped}
use Rattle.vx_moments.specs.Moment.{Moment}
use Rattle.vx_moments.specs.World.{Group, Volume, World}
use Rattle.vx_stages.specs.Attached.{AttachStops, AttachStopsIn}
use Rattle.vx_stages.specs.Detached.{DetachStopsIn}
use Rattle.vx_stages.specs.Ends.{EndsIn, IsChange, fault_of, lost, refused}
use Rattle.vx_plans.specs.Plans.{disks_of, new_volume, plan_of}
use Rattle.vx_stages.specs.Records.{devices_of}
use Rattle.vx_stages.specs.Stages.{DeviceEnds, EditsStop, FailsAt, IsDone, IsJoining, LookingStops, Stops, TakingStops, edits_of, joining_edit}
use Rattle.vx_stages.specs.Starting.{StartStops, StopsIn, StopsOf, may_start, regions_copied}
use Rattle.vx_stages.specs.Leaving.{ByLog, ByRecord, FromLog, FromRest, Way, way_of}
use Rattle.vx_stages.specs.Left.{LeavingStopsIn, LeavingStopsOf, StopsUnreadied}
use Rattle.vx_stages.specs.Logged.{PrepareStopsIn, UnprepareStopsIn}
use Rattle.vx_stages.specs.Mirrored.{MirrorStops, MirrorStopsIn}
use Rattle.vx_stages.specs.Stopping.{StopStops, runs_on_plexes}
use Rattle.vx_plans.specs.Steps.{Runs, done}
use Rattle.vx_stages.specs.Tests.{is_data, volume_in}
use Rattle.vx_stages.specs.declared.stage.Source.{Source}
use Rattle.vx_stages.specs.declared.stage.Source.TheVariants as source
use Rattle.vx_stages.specs.declared.stage.Stage.{Stage}
use Rattle.vx_stages.specs.declared.stage.Stage.TheVariants as stage
use Rattle.vx_plans.specs.declared.stages.Finish.{Finish}
use Rattle.vx_plans.specs.declared.stages.Finish.TheVariants.{Nothing}
use Rattle.vx_stages.specs.declared.test.Test.{Test}
use Rattle.vx_stages.specs.declared.test.Test.TheVariants as tests
use Rattle.vx_plans.specs.declared.stages.Plan.{Plan}
use Rattle.vx_plans.proofs.Complete.{refused_attach, refused_detach, refused_leaving, refused_mirror, refused_prepare, refused_unprepare}
use Rattle.vx_plan_laws.specs.Refusing.{IsDoneBy, TellsAttached, TellsCopied, TellsMirrored}
use Rattle.vx_plan_laws.proofs.Kept.{AreStill, IsStill, behind, ends_itself, mirror_gates, plan_still, start_gates}

-- the command was done, and so many regions were copied
abbrev all_done : Option ℕ → End
all_done copied = ends.Done copied [] []

module _ (copied : Option ℕ) where
  no_fault : (name : Word) → all_done copied ≡ fault_of name → ⊥
  no_fault name e = cc

  no_refusal : (r : Refusal) → all_done copied ≡ refused r → ⊥
  no_refusal r e = cc

  no_loss : all_done copied ≡ lost → ⊥
  no_loss e = cc

  no_shelf : all_done copied ≡ ends.ShelfFailed → ⊥
  no_shelf e = cc

  not_gone : all_done copied ≡ ends.GroupLost → ⊥
  not_gone e = cc

  module _ (old new : Moment) where
    denied : (r : Refusal) → EndsIn r old (all_done copied) new → ⊥
    denied r ends = no_refusal r ends.0

    at_hand : (name : Word) → DeviceEnds name old (all_done copied) new → ⊥
    at_hand name (inl (is, failed)) = no_fault name is
    at_hand name (inr (is, cut)) = no_loss is

    at_device : (name : Word) → FailsAt name old (all_done copied) new → ⊥
    at_device name (inl (is, failed)) = no_fault name is
    at_device name (inr (is, cut)) = no_loss is

    taking : (taken names : List Word) → TakingStops taken names old (all_done copied) new → ⊥
    taking taken [] stops = stops
    taking taken (name ∷ names) (inl (inl (r, away, ends))) = denied r ends
    taking taken (name ∷ names) (inl (inr (same, none, is, shelf))) = no_fault name is
    taking taken (name ∷ names) (inr more) = taking (taken ++ name ∷ []) names more.1

    looking : (names : List Word) → LookingStops names old (all_done copied) new → ⊥
    looking [] stops = stops
    looking (name ∷ names) (inl (inl headed)) = no_refusal _ headed.1
    looking (name ∷ names) (inl (inr fails)) = at_hand name fails
    looking (name ∷ names) (inr more) = looking names more.1

    not_stopped : (x : Writing) → IsStopped x old (all_done copied) new → ⊥
    not_stopped x stopped = elim stopped.ends [ inl l ↦ not_gone l.0 | inr l ↦ no_loss l.0 ]

  editing : (old new : Moment) (edits : Group → List Edit) (IsWriting : Writing → Type 0) → EditsStop edits IsWriting old (all_done copied) new → ⊥
  editing old new edits IsWriting (inl (none, ends)) = denied old new _ ends
  editing old new edits IsWriting (inr (inl ((g, here, inl (r, e, is)), rests))) = no_refusal r is
  editing old new edits IsWriting (inr (inl ((g, here, inr (config, edited, (text, printed, long, is))), rests))) = no_refusal _ is
  editing old new edits IsWriting (inr (inr (x, writing, stopped))) = not_stopped old new x stopped

  stopping : (old new : Moment) (vol : Word) → StopStops vol old (all_done copied) new → ⊥
  stopping old new vol (inl (inl (r, e, is), rests)) = no_refusal r is
  stopping old new vol (inl (inr (g, here, none, (v, found, (next, edited, (text, printed, long, is)))), rests)) = no_refusal _ is
  stopping old new vol (inr (inl rest)) = rest.cause
  stopping old new vol (inr (inr b)) = not_stopped b.mid new b.writing b.stopped

  preparing : (old new : Moment) (n : NewLogs) (o : Option Group) → MatchOption o (EndsIn (refusal.NoGroup None) old (all_done copied) new) (λ g. PrepareStopsIn g n old (all_done copied) new) → ⊥
  preparing old new n None ends = denied old new _ ends
  preparing old new n (Some g) (inl (turned, rests)) = let is = refused_prepare (runs_on_plexes old.world n.vol) g n (all_done copied) turned in no_refusal is.0 is.1
  preparing old new n (Some g) (inr (inl u)) = u.cause
  preparing old new n (Some g) (inr (inr c)) = not_stopped c.written new c.stops.0 c.stops.2

  unpreparing : (old new : Moment) (name : Word) (o : Option Group) → MatchOption o (EndsIn (refusal.NoGroup None) old (all_done copied) new) (λ g. UnprepareStopsIn g name old (all_done copied) new) → ⊥
  unpreparing old new name None ends = denied old new _ ends
  unpreparing old new name (Some g) (inl (turned, rests)) = let is = refused_unprepare g name (all_done copied) turned in no_refusal is.0 is.1
  unpreparing old new name (Some g) (inr c) = not_stopped old new c.stops.0 c.stops.2

  detaching : (old new : Moment) (name : Word) (o : Option Group) → MatchOption o (EndsIn (refusal.NoGroup None) old (all_done copied) new) (λ g. DetachStopsIn g name old (all_done copied) new) → ⊥
  detaching old new name None ends = denied old new _ ends
  detaching old new name (Some g) (inl (turned, rests)) = let is = refused_detach (runs_on_plexes old.world) g name (all_done copied) turned in no_refusal is.0 is.1
  detaching old new name (Some g) (inr (inl u)) = u.stops.cause
  detaching old new name (Some g) (inr (inr (inl n))) = no_refusal _ n.end_is
  detaching old new name (Some g) (inr (inr (inr c))) = not_stopped c.mid new c.stops.0 c.stops.2

  unreadied : (way : Way) (g : Group) (v : Vol) (old new : Moment) → StopsUnreadied way g v old (all_done copied) new → ⊥
  unreadied ByRecord g v old new stops = stops
  unreadied FromLog g v old new stops = stops
  unreadied FromRest g v old new stops = stops.cause
  unreadied ByLog g v old new (touched, narrows, inl (is, none)) = no_refusal _ is
  unreadied ByLog g v old new (touched, narrows, inr (inl (disk, device, is, fails))) = cc
  unreadied ByLog g v old new (touched, narrows, inr (inr (is, cut))) = cc

  leaving_of : (old new : Moment) (remove : Bool) (g : Group) (p : Plex) (o : Option Word) → LeavingStopsOf remove g p o old (all_done copied) new → ⊥
  leaving_of old new remove g p None stops = not_stopped old new stops.0 stops.2
  leaving_of old new remove g p (Some vol) (v, is, inl u) = unreadied (way_of (is_data p.kind) (runs_on_plexes old.world v.name) v) g v old new u
  leaving_of old new remove g p (Some vol) (v, is, inr (inl kept)) = no_refusal _ kept.end_is
  leaving_of old new remove g p (Some vol) (v, is, inr (inr c)) = not_stopped c.mid new c.stops.0 c.stops.2

  leaving : (old new : Moment) (remove : Bool) (name : Word) (o : Option Group) → MatchOption o (EndsIn (refusal.NoGroup None) old (all_done copied) new) (λ g. LeavingStopsIn g remove name old (all_done copied) new) → ⊥
  leaving old new remove name None ends = denied old new _ ends
  leaving old new remove name (Some g) (inl (turned, rests)) = let is = refused_leaving (runs_on_plexes old.world) g remove name (all_done copied) turned in no_refusal is.0 is.1
  leaving old new remove name (Some g) (inr (p, may, stops)) = leaving_of old new remove g p p.vol stops

  -- no stage but a start, a mirror and a plex that goes into use is done where it ends the command
  not_done : (s : Stage) (disks : List DiskAt) (old new : Moment) → ends_itself s ≡ false → Stops s disks old (all_done copied) new → ⊥
  not_done (stage.Gate test) disks old new other (r, fails, is, same) = no_refusal r is
  not_done (stage.Take name) disks old new other stops = taking old new [] (name ∷ []) stops
  not_done stage.TakeDisks disks old new other stops = taking old new [] (devices_of disks) stops
  not_done (stage.LookBlank name) disks old new other (reads, looks) = looking old new (name ∷ []) looks
  not_done stage.LookDisks disks old new other (reads, looks) = looking old new (devices_of disks) looks
  not_done (stage.LookHeaded name) disks old new other (reads, inl (blank, is)) = no_refusal _ is
  not_done (stage.LookHeaded name) disks old new other (reads, inr fails) = at_hand old new name fails
  not_done (stage.Search dg) disks old new other (reads, inl (name, free, inl (names, is))) = no_refusal _ is
  not_done (stage.Search dg) disks old new other (reads, inl (name, free, inr fails)) = at_device old new name fails
  not_done (stage.Search dg) disks old new other (reads, inr (is, shelf)) = no_shelf is
  not_done (stage.MakeImage name sectors) disks old new other (inl (some, ends)) = denied old new _ ends
  not_done (stage.MakeImage name sectors) disks old new other (inr (same, none, is, shelf)) = no_fault name is
  not_done (stage.Wipe name) disks old new other (has, calls, ends) = at_hand old new name ends
  not_done (stage.StartBare vol name) disks old new other (is, ends) = denied old new _ ends
  not_done (stage.Change change) disks old new other stops = editing old new (λ g. edits_of change (Some g)) (λ x. IsChange (edits_of change old.world.group) old.world x) stops
  not_done (stage.Make from) disks old new other (inl (none, ends)) = denied old new _ ends
  not_done (stage.Make from) disks old new other (inr (inl ((g, here, inl (r, why, is)), rests))) = no_refusal r is
  not_done (stage.Make from) disks old new other (inr (inl ((g, here, inr (added, adds, inl (r, e, is))), rests))) = no_refusal r is
  not_done (stage.Make from) disks old new other (inr (inl ((g, here, inr (added, adds, inr (fine, inl (r, e, is)))), rests))) = no_refusal r is
  not_done (stage.Make from) disks old new other (inr (inl ((g, here, inr (added, adds, inr (fine, inr (config, edited, (printed, text_is, long, is))))), rests))) = no_refusal _ is
  not_done (stage.Make from) disks old new other (inr (inr (x, making, stopped))) = not_stopped old new x stopped
  not_done stage.Join [] old new other stops = stops
  not_done stage.Join (p ∷ q ∷ ps) old new other stops = stops
  not_done stage.Join (p ∷ []) old new other stops = editing old new (λ g. joining_edit p old.world g ∷ []) (λ x. IsJoining p old.world x) stops
  not_done (stage.Create dg) disks old new other (inl (g, here, ends)) = denied old new _ ends
  not_done (stage.Create dg) disks old new other (inr (x, writing, stopped)) = not_stopped old new x stopped
  not_done (stage.Import dg) disks old new other (inl (g, here, ends)) = denied old new _ ends
  not_done (stage.Import dg) disks old new other (inr (inl (reads, inl turned))) = no_refusal turned.why turned.end_is
  not_done (stage.Import dg) disks old new other (inr (inl (reads, inr (inl (is, shelf))))) = no_shelf is
  not_done (stage.Import dg) disks old new other (inr (inl (reads, inr (inr (is, cut))))) = no_loss is
  not_done (stage.Import dg) disks old new other (inr (inr (mid, between, (x, writing, stopped)))) = not_stopped mid new x stopped
  not_done stage.LetGo disks old new other stops = stops
  not_done (stage.Start vol) disks old new other stops = cc
  not_done (stage.Mirror mirror) disks old new other stops = cc
  not_done (stage.Prepare logs) disks old new other stops = preparing old new logs old.world.group stops
  not_done (stage.Unprepare vol) disks old new other stops = unpreparing old new vol old.world.group stops
  not_done (stage.Detach plex) disks old new other stops = detaching old new plex old.world.group stops
  not_done (stage.Attach vol plex) disks old new other stops = cc
  not_done (stage.Dissociate plex remove) disks old new other stops = leaving old new remove plex old.world.group stops
  not_done (stage.Stop vol) disks old new other stops = stopping old new vol stops

  -- ---- a start

  -- the start tells of the regions of this volume
  abbrev Tells : Word → World → Type 0
  Tells name w = TellsCopied name w (all_done copied)

  started : (name : Word) (old new : Moment) → StartStops name old (all_done copied) new → Tells name old.world
  started name old new stops = in_world old.world.group refl stops
    where
      of_volume : (g : Group) (v : Vol) → StopsOf g v old (all_done copied) new → copied ≡ Some (regions_copied g v)
      of_volume g v (inl (inl (r, e, is), rests)) = absurd (no_refusal r is)
      of_volume g v (inl (inr (none, next, edited, (text, printed, long, is)), rests)) = absurd (no_refusal _ is)
      of_volume g v (inr (inl stops)) = elim stops.cause [
        | inl unread ↦ absurd (no_refusal _ unread.0)
        | inr (inl (region, is, filled, missed)) ↦ absurd (no_refusal _ is)
        | inr (inr (inl (told, device, is, fails))) ↦ let no : all_done copied ≡ ends.Fault told device [] = is in cc
        | inr (inr (inr (is, cut))) ↦ absurd (no_loss is)
      ]
      of_volume g v (inr (inr (inl c))) = absurd (not_stopped c.opened new c.stops.0 c.stops.2)
      of_volume g v (inr (inr (inr a))) = a.copied.ends.0

      of_state : (g : Group) (v : Vol) (may : Bool) → MatchBool may (StopsOf g v old (all_done copied) new) (EndsIn (refusal.VolState v.state) old (all_done copied) new) → copied ≡ Some (regions_copied g v)
      of_state g v true stops = of_volume g v stops
      of_state g v false ends = absurd (denied old new _ ends)

      in_group : (g : Group) (o : Option Vol) → old.world.group ≡ Some g → volume_in name g.config.volumes ≡ o → MatchOption o (EndsIn (refusal.NoObject name) old (all_done copied) new) (λ v. MatchBool (may_start v.state) (StopsOf g v old (all_done copied) new) (EndsIn (refusal.VolState v.state) old (all_done copied) new)) → Tells name old.world
      in_group g None here is ends = absurd (denied old new _ ends)
      in_group g (Some v) here is stops = (g, here, (v, is, ap (λ (n : Option ℕ). all_done n) (of_state g v (may_start v.state) stops)))

      in_world : (o : Option Group) → old.world.group ≡ o → MatchOption o (EndsIn (refusal.NoGroup None) old (all_done copied) new) (λ g. StopsIn g name old (all_done copied) new) → Tells name old.world
      in_world None here ends = absurd (denied old new _ ends)
      in_world (Some g) here stops = in_group g (volume_in name g.config.volumes) here refl stops

  -- ---- a mirror

  -- the mirror tells of all regions of this volume
  abbrev TellsAll : Word → World → Type 0
  TellsAll name w = TellsMirrored name w (all_done copied)

  mirrored : (name : Word) (named : List Word) (old new : Moment) → MirrorStops name named old (all_done copied) new → TellsAll name old.world
  mirrored name named old new stops = in_world old.world.group refl stops
    where
      in_group : (g : Group) → old.world.group ≡ Some g → MirrorStopsIn g name named old (all_done copied) new → TellsAll name old.world
      in_group g here (inl (turned, rests)) = let is = refused_mirror (runs_on_plexes old.world name) g name named (all_done copied) turned in absurd (no_refusal is.0 is.1)
      in_group g here (inr (inl u)) = absurd u.stops.cause
      in_group g here (inr (inr (inl c))) = absurd (not_stopped c.marked new c.stops.0 c.stops.2)
      in_group g here (inr (inr (inr a))) = (g, here, (a.mirrored.mark.volume, a.mirrored.mark.mirror.found, ap (λ (n : Option ℕ). all_done n) a.copied.ends.0))

      in_world : (o : Option Group) → old.world.group ≡ o → MatchOption o (EndsIn (refusal.NoGroup None) old (all_done copied) new) (λ g. MirrorStopsIn g name named old (all_done copied) new) → TellsAll name old.world
      in_world None here ends = absurd (denied old new _ ends)
      in_world (Some g) here more = in_group g here more

  -- ---- a plex that goes into use

  attached : (vol plex : Word) (old new : Moment) → AttachStops vol plex old (all_done copied) new → TellsAttached vol plex old.world (all_done copied)
  attached vol plex old new stops = in_world old.world.group stops
    where
      in_group : (g : Group) → AttachStopsIn g vol plex old (all_done copied) new → TellsAttached vol plex old.world (all_done copied)
      in_group g (inl (turned, rests)) = let is = refused_attach (runs_on_plexes old.world vol) g vol plex (all_done copied) turned in absurd (no_refusal is.0 is.1)
      in_group g (inr (inl c)) = absurd (not_stopped old new c.stops.0 c.stops.2)
      in_group g (inr (inr a)) =
          let told = a.copied.ends.0 in
          let ran : old.world.volumes vol ≡ Some a.is.goes.volume = ap (λ (vs : Word → Option Volume). vs vol) (sym a.is.committed.committing.volumes) ∙ a.is.goes.was in
          (a.is.goes.volume, ran, told.0, ap (λ (n : Option ℕ). all_done n) told.1, told.2)

      in_world : (o : Option Group) → MatchOption o (EndsIn (refusal.NoGroup None) old (all_done copied) new) (λ g. AttachStopsIn g vol plex old (all_done copied) new) → TellsAttached vol plex old.world (all_done copied)
      in_world None ends = absurd (denied old new _ ends)
      in_world (Some g) more = in_group g more

  -- ---- plans

  still_done : (disks : List DiskAt) (stages : List Stage) (finish : Finish) (old : Moment) (views : List View) (new : Moment) → AreStill ends_itself stages → Runs disks stages finish old views (all_done copied) new → all_done copied ≡ done
  still_done disks [] finish old views new still (shows, is, stays) = is
  still_done disks (s ∷ []) finish old views new still (inl (mid, later, is, (shows, over, stays))) = over
  still_done disks (s ∷ []) finish old views new still (inr (none, later, stops)) = absurd (not_done s disks old new still stops)
  still_done disks (s ∷ t ∷ ss) finish old views new still (inl (mid, later, is, rest)) = still_done disks (t ∷ ss) finish mid views new still.2 rest
  still_done disks (s ∷ t ∷ ss) finish old views new still (inr (none, later, stops)) = absurd (not_done s disks old new still.0 stops)

  -- what a plan tells, once it is done
  abbrev RunsSo : Option Plan → List DiskAt → Moment → List View → Moment → Type 0
  RunsSo plan disks old views new = MatchOption plan ⊥ (λ p. Runs disks p.stages p.finish old views (all_done copied) new)

  still_plan : (disks : List DiskAt) (plan : Option Plan) (old : Moment) (views : List View) (new : Moment) → IsStill plan → RunsSo plan disks old views new → all_done copied ≡ done
  still_plan disks None old views new still runs = absurd runs
  still_plan disks (Some plan) old views new still runs = still_done disks plan.stages plan.finish old views new still runs

  -- a start behind gates
  start_tells : (gates : List Test) (vol : Word) (old : Moment) (views : List View) (new : Moment) → Runs [] (behind gates (stage.Start vol)) Nothing old views (all_done copied) new → Tells vol old.world
  start_tells [] vol old views new (inl (mid, later, is, runs)) = absurd is
  start_tells [] vol old views new (inr (none, later, stops)) = started vol old new stops
  start_tells (test ∷ gates) vol old views new (inl (mid, later, (passed, same), runs)) = subst (λ (m : Moment). Tells vol m.world) same (start_tells gates vol mid views new runs)
  start_tells (test ∷ gates) vol old views new (inr (none, later, (r, fails, is, same))) = absurd (no_refusal r is)

  -- a mirror behind gates
  mirror_tells : (gates : List Test) (mirror : NewPlex) (old : Moment) (views : List View) (new : Moment) → Runs [] (behind gates (stage.Mirror mirror)) Nothing old views (all_done copied) new → TellsAll mirror.vol old.world
  mirror_tells [] mirror old views new (inl (mid, later, is, runs)) = absurd is
  mirror_tells [] mirror old views new (inr (none, later, stops)) = mirrored mirror.vol mirror.disks old new stops
  mirror_tells (test ∷ gates) mirror old views new (inl (mid, later, (passed, same), runs)) = subst (λ (m : Moment). TellsAll mirror.vol m.world) same (mirror_tells gates mirror mid views new runs)
  mirror_tells (test ∷ gates) mirror old views new (inr (none, later, (r, fails, is, same))) = absurd (no_refusal r is)

  -- another stage behind gates is done, or ends the command
  done_behind : (gates : List Test) (s : Stage) (old : Moment) (views : List View) (new : Moment) → Runs [] (behind gates s) Nothing old views (all_done copied) new → (all_done copied ≡ done) ⊎ Stops s [] old (all_done copied) new
  done_behind [] s old views new (inl (mid, later, is, (shows, over, stays))) = inl over
  done_behind [] s old views new (inr (none, later, stops)) = inr stops
  done_behind (test ∷ gates) s old views new (inl (mid, later, (passed, same), runs)) = subst (λ (m : Moment). (all_done copied ≡ done) ⊎ Stops s [] m (all_done copied) new) same (done_behind gates s mid views new runs)
  done_behind (test ∷ gates) s old views new (inr (none, later, (r, fails, is, same))) = absurd (no_refusal r is)

  detach_tells : (gates : List Test) (plex : Word) (old : Moment) (views : List View) (new : Moment) → Runs [] (behind gates (stage.Detach plex)) Nothing old views (all_done copied) new → all_done copied ≡ done
  detach_tells gates plex old views new runs = elim (done_behind gates (stage.Detach plex) old views new runs) [ inl over ↦ over | inr stops ↦ absurd (detaching old new plex old.world.group stops) ]

  leaving_tells : (gates : List Test) (remove : Bool) (plex : Word) (old : Moment) (views : List View) (new : Moment) → Runs [] (behind gates (stage.Dissociate plex remove)) Nothing old views (all_done copied) new → all_done copied ≡ done
  leaving_tells gates remove plex old views new runs = elim (done_behind gates (stage.Dissociate plex remove) old views new runs) [ inl over ↦ over | inr stops ↦ absurd (leaving old new remove plex old.world.group stops) ]

  -- the plex that goes into use ends the command
  attach_tells : (gates : List Test) (vol plex : Word) (old : Moment) (views : List View) (new : Moment) → Runs [] (behind gates (stage.Attach vol plex)) Nothing old views (all_done copied) new → TellsAttached vol plex old.world (all_done copied)
  attach_tells [] vol plex old views new (inl (mid, later, is, runs)) = absurd is
  attach_tells [] vol plex old views new (inr (none, later, stops)) = attached vol plex old new stops
  attach_tells (test ∷ gates) vol plex old views new (inl (mid, later, (passed, same), runs)) =
      subst (λ (m : Moment). TellsAttached vol plex m.world (all_done copied)) same (attach_tells gates vol plex mid views new runs)
  attach_tells (test ∷ gates) vol plex old views new (inr (none, later, (r, fails, is, same))) = absurd (no_refusal r is)

  -- that of a new volume, behind the moment in which its records were added
  abbrev TellsAdded : Source → Word → Moment → Type 0
  TellsAdded from vol old = (mid : Moment) × IsDone (stage.Make from) [] old mid × Tells vol mid.world

  adding_tells : (from : Source) (vol : Word) (old : Moment) (views : List View) (new : Moment) → Runs [] (stage.Make from ∷ stage.Gate (tests.Stopped vol) ∷ stage.Start vol ∷ []) Nothing old views (all_done copied) new → TellsAdded from vol old
  adding_tells from vol old views new (inl (mid, later, is, runs)) = (mid, is, start_tells (tests.Stopped vol ∷ []) vol mid views new runs)
  adding_tells from vol old views new (inr (none, later, stops)) = absurd (not_done (stage.Make from) [] old new refl stops)

  new_tells : (dg : Option Word) (from : Source) (vol : Word) (old : Moment) (views : List View) (new : Moment)
      → Runs [] (stage.Gate (tests.GroupIs dg) ∷ stage.Make from ∷ stage.Gate (tests.Stopped vol) ∷ stage.Start vol ∷ []) Nothing old views (all_done copied) new → TellsAdded from vol old
  new_tells dg from vol old views new (inl (mid, later, (passed, same), runs)) = subst (TellsAdded from vol) same (adding_tells from vol mid views new runs)
  new_tells dg from vol old views new (inr (none, later, (r, fails, is, same))) = absurd (no_refusal r is)

  form_tells : (dg : Option Word) (f : Form) (old : Moment) (views : List View) (new : Moment) → RunsSo (plan_of dg f) (disks_of f) old views new → IsDoneBy f old (all_done copied)
  unfolding plan_of
  form_tells dg (form.Start vol) old views new runs = start_tells (start_gates dg vol) vol old views new runs
  form_tells dg (form.AssistMake vol length attrs disks) old views new runs = new_tells dg (source.Volume (new_volume vol length attrs disks)) vol old views new runs
  form_tells dg (form.Mirror vol disks) old views new runs = mirror_tells (mirror_gates dg) (record { vol = vol; disks = disks }) old views new runs
  form_tells dg (form.PlexDis plex rm) old views new runs = leaving_tells (mirror_gates dg) rm plex old views new runs
  form_tells dg (form.Acting (act.PlexDet plex)) old views new runs = detach_tells (mirror_gates dg) plex old views new runs
  form_tells dg (form.Acting (act.PlexAtt vol plex)) old views new runs = attach_tells (mirror_gates dg) vol plex old views new runs
  form_tells dg other old views new runs = still_plan (disks_of other) (plan_of dg other) old views new (plan_still dg other refl) runs

  pub tells_done : (dg : Option Word) (f : Form) (plan : Plan) (old : Moment) (views : List View) (new : Moment) → plan_of dg f ≡ Some plan → Runs (disks_of f) plan.stages plan.finish old views (all_done copied) new → IsDoneBy f old (all_done copied)
  tells_done dg f plan old views new is runs = form_tells dg f old views new (subst (λ (p : Option Plan). RunsSo p (disks_of f) old views new) (sym is) runs)
