-- A stage that refuses its command leaves the world, but for a start that cannot open its volume, and a plex that does not go out of use or leave
-- as some region has no other.
use Rattle.std.proofs.Common.{◌≡◌, ◌∙◌, ◌⊎◌, ℕ, ◌+◌, Bool, true, false, is_some, nat_lt, List, [], ◌∷◌, ◌++◌, Option, Some, None, MatchBool, MatchOption, refl, ap, subst, inl, inr}
use Rattle.vx_base.specs.Named.{Word}
use Rattle.vx_script_words.specs.declared.value.DiskAt.{DiskAt}
use Rattle.vx_script_forms.specs.declared.call.Call.{Call}
use Rattle.vx_script_forms.specs.declared.act.Act.TheVariants as act
use Rattle.vx_script_forms.specs.declared.form.Form.{Form}
use Rattle.vx_script_forms.specs.declared.form.Form.TheVariants as form
use Rattle.vx_script_forms.specs.declared.form.WordPolicy.TheVariants as words
use Rattle.vx_script.specs.declared.command.Command.{Command}
use Rattle.vx_answers.specs.declared.answer.Answer.TheVariants.{One}
use Rattle.vx_answers.specs.declared.answer.End.{End}
use Rattle.vx_answers.specs.declared.answer.End.TheVariants as ends
use Rattle.vx_answers.specs.declared.answer.View.{View}
use Rattle.vx_answers.specs.declared.refusal.Refusal.{Refusal}
use Rattle.vx_answers.specs.declared.refusal.Refusal.TheVariants.{NotStarted, Range}
use Rattle.vx_moments.specs.Commit.{Writing}
use Rattle.vx_moments.specs.Moment.{Moment, Rests}
use Rattle.vx_moments.specs.World.{Group, Lies, OnDevice, OnPlexes, Volume}
use Rattle.vx_new_volumes.specs.declared.mirror.NewPlex.{NewPlex}
use Rattle.vx_new_volumes.specs.declared.volume.NewVolume.{NewVolume}
use Rattle.vx_stages.specs.Calls.{count_of, start_of, volume_of}
use Rattle.vx_stages.specs.Detached.{StopsNeeded}
use Rattle.vx_stages.specs.Ends.{StopsBy, refused}
use Rattle.vx_stages.specs.Left.{StopsLate}
use Rattle.vx_plans.specs.Plans.{disks_of, new_volume, plan_of}
use Rattle.vx_stages.specs.Records.{devices_of}
use Rattle.vx_plans.specs.Serving.{CallRuns, ServesOn}
use Rattle.vx_stages.specs.Stages.{IsDone, Stops, TakingStops}
use Rattle.vx_stages.specs.Starting.{StartStops}
use Rattle.vx_stages.specs.Tests.{volume_in}
use Rattle.vx_plans.specs.Steps.{CountsAfter, DoesForm, DoesPlan, IsNotBuilt, Leaves, Runs, Step, done}
use Rattle.vx_stages.specs.declared.stage.Source.TheVariants as source
use Rattle.vx_stages.specs.declared.stage.Stage.{Stage}
use Rattle.vx_stages.specs.declared.stage.Stage.TheVariants as stage
use Rattle.vx_plans.specs.declared.stages.Finish.{Finish}
use Rattle.vx_plans.specs.declared.stages.Finish.TheVariants.{Nothing}
use Rattle.vx_stages.specs.declared.test.Test.{Test}
use Rattle.vx_stages.specs.declared.test.Test.TheVariants as tests
use Rattle.vx_plans.specs.declared.stages.Plan.{Plan}
use Rattle.vx_plans.proofs.Complete.{keeps_world, kept_world}
use Rattle.vx_plan_laws.specs.Keeping.{IsLeftAdded, IsLeftUnopened, RefusedLeaves}
use Rattle.vx_plan_laws.proofs.NewVolumes.{added_there, is_opened, no_gate}
use Rattle.vx_plan_laws.proofs.Recoveries.{recover_left}
use Rattle.vx_plan_laws.proofs.Volumes.{attach_left, detach_left, leaving_left, mirror_left, not_stopped, prepare_left, start_left, start_refuses, stop_left, unprepare_left}

-- ---- stages

-- the stage is a start, a mirror or a plex that goes into use, which end their command themselves, or one that goes out of use or leaves, which may
-- be refused once its volume has come to rest
abbrev pub ends_itself : Stage → Bool
ends_itself (stage.Start vol) = true
ends_itself (stage.Mirror mirror) = true
ends_itself (stage.Detach plex) = true
ends_itself (stage.Attach vol plex) = true
ends_itself (stage.Dissociate plex remove) = true
ends_itself other = false

taking_kept : (taken names : List Word) (m : Moment) (end : End) (n : Moment) → TakingStops taken names m end n → n.world ≡ m.world
taking_kept taken [] m end n stops = absurd stops
taking_kept taken (name ∷ names) m end n (inl (inl (r, away, ends))) = ends.1.stays.world
taking_kept taken (name ∷ names) m end n (inl (inr fails)) = fails.0
taking_kept taken (name ∷ names) m end n (inr more) = taking_kept (taken ++ name ∷ []) names m end n more.1

no_refusal : (IsWriting : Writing → Type 0) (m : Moment) (r : Refusal) (n : Moment) → StopsBy IsWriting m (refused r) n → ⊥
no_refusal IsWriting m r n (x, writing, stopped) = not_stopped x m r n stopped

-- a stage that refuses the command leaves the world
refused_kept : (s : Stage) (disks : List DiskAt) (m : Moment) (r : Refusal) (n : Moment) → ends_itself s ≡ false → Stops s disks m (refused r) n → n.world ≡ m.world
refused_kept (stage.Gate test) disks m r n other (why, fails, is, same) = ap (λ (x : Moment). x.world) same
refused_kept (stage.Take name) disks m r n other stops = taking_kept [] (name ∷ []) m (refused r) n stops
refused_kept stage.TakeDisks disks m r n other stops = taking_kept [] (devices_of disks) m (refused r) n stops
refused_kept (stage.LookBlank name) disks m r n other (reads, looks) = reads.0
refused_kept stage.LookDisks disks m r n other (reads, looks) = reads.0
refused_kept (stage.LookHeaded name) disks m r n other (reads, looks) = reads.0
refused_kept (stage.Search dg) disks m r n other (reads, looks) = reads.0
refused_kept (stage.MakeImage name sectors) disks m r n other (inl (some, ends)) = ends.1.stays.world
refused_kept (stage.MakeImage name sectors) disks m r n other (inr fails) = fails.0
refused_kept (stage.Wipe name) disks m r n other (has, calls, inl (is, failed)) = cc
refused_kept (stage.Wipe name) disks m r n other (has, calls, inr (is, cut)) = cc
refused_kept (stage.StartBare vol name) disks m r n other (is, ends) = ends.1.stays.world
refused_kept (stage.Change change) disks m r n other (inl (none, ends)) = ends.1.stays.world
refused_kept (stage.Change change) disks m r n other (inr (inl (why, rests))) = rests.stays.world
refused_kept (stage.Change change) disks m r n other (inr (inr stops)) = absurd (no_refusal _ m r n stops)
refused_kept (stage.Make from) disks m r n other (inl (none, ends)) = ends.1.stays.world
refused_kept (stage.Make from) disks m r n other (inr (inl (why, rests))) = rests.stays.world
refused_kept (stage.Make from) disks m r n other (inr (inr stops)) = absurd (no_refusal _ m r n stops)
refused_kept stage.Join [] m r n other stops = absurd stops
refused_kept stage.Join (p ∷ q ∷ ps) m r n other stops = absurd stops
refused_kept stage.Join (p ∷ []) m r n other (inl (none, ends)) = ends.1.stays.world
refused_kept stage.Join (p ∷ []) m r n other (inr (inl (why, rests))) = rests.stays.world
refused_kept stage.Join (p ∷ []) m r n other (inr (inr stops)) = absurd (no_refusal _ m r n stops)
refused_kept (stage.Create dg) disks m r n other (inl (g, here, ends)) = ends.1.stays.world
refused_kept (stage.Create dg) disks m r n other (inr stops) = absurd (no_refusal _ m r n stops)
refused_kept (stage.Import dg) disks m r n other (inl (g, here, ends)) = ends.1.stays.world
refused_kept (stage.Import dg) disks m r n other (inr (inl (reads, why))) = reads.0
refused_kept (stage.Import dg) disks m r n other (inr (inr (mid, between, stops))) = absurd (no_refusal _ mid r n stops)
refused_kept stage.LetGo disks m r n other stops = absurd stops
refused_kept (stage.Start vol) disks m r n other stops = cc
refused_kept (stage.Mirror mirror) disks m r n other stops = cc
refused_kept (stage.Prepare logs) disks m r n other stops = prepare_left m r n logs stops
refused_kept (stage.Unprepare vol) disks m r n other stops = unprepare_left m r n vol stops
refused_kept (stage.Detach plex) disks m r n other stops = cc
refused_kept (stage.Attach vol plex) disks m r n other stops = cc
refused_kept (stage.Dissociate plex remove) disks m r n other stops = cc
refused_kept (stage.Stop vol) disks m r n other stops = stop_left m r n vol stops

-- ---- plans

not_done : (r : Refusal) → refused r ≡ done → ⊥
not_done r e = cc

-- the stage is a start, a mirror or a stop, or writes a log, or a plex goes out of use or into use by it
abbrev pub calls_volume : Stage → Bool
calls_volume (stage.Start vol) = true
calls_volume (stage.Mirror mirror) = true
calls_volume (stage.Prepare logs) = true
calls_volume (stage.Detach plex) = true
calls_volume (stage.Attach vol plex) = true
calls_volume (stage.Dissociate plex remove) = true
calls_volume (stage.Stop vol) = true
calls_volume other = false

-- all stages but the last keep the world, and none is such a one
abbrev pub AreStill : (Stage → Bool) → List Stage → Type 0
AreStill is_such [] = Unit {0}
AreStill is_such (s ∷ []) = is_such s ≡ false
AreStill is_such (s ∷ t ∷ ss) = (is_such s ≡ false) × (keeps_world s ≡ true) × AreStill is_such (t ∷ ss)

not_itself : (s : Stage) → calls_volume s ≡ false → ends_itself s ≡ false
not_itself (stage.Start vol) e = cc
not_itself (stage.Mirror mirror) e = cc
not_itself (stage.Prepare logs) e = cc
not_itself (stage.Detach plex) e = cc
not_itself (stage.Attach vol plex) e = cc
not_itself (stage.Dissociate plex remove) e = cc
not_itself other e = refl

pub none_itself : (stages : List Stage) → AreStill calls_volume stages → AreStill ends_itself stages
none_itself [] still = tt
none_itself (s ∷ []) still = not_itself s still
none_itself (s ∷ t ∷ ss) still = (not_itself s still.0, still.1, none_itself (t ∷ ss) still.2)

still_kept : (disks : List DiskAt) (stages : List Stage) (finish : Finish) (old : Moment) (views : List View) (r : Refusal) (new : Moment) → AreStill ends_itself stages → Runs disks stages finish old views (refused r) new → new.world ≡ old.world
still_kept disks [] finish old views r new still (shows, is, stays) = absurd (not_done r is)
still_kept disks (s ∷ []) finish old views r new still (inl (mid, later, is, (shows, over, stays))) = absurd (not_done r over)
still_kept disks (s ∷ []) finish old views r new still (inr (none, later, stops)) = refused_kept s disks old r new still stops
still_kept disks (s ∷ t ∷ ss) finish old views r new still (inl (mid, later, is, rest)) = still_kept disks (t ∷ ss) finish mid views r new still.2 rest ∙ kept_world s disks old mid still.1 is
still_kept disks (s ∷ t ∷ ss) finish old views r new still (inr (none, later, stops)) = refused_kept s disks old r new still.0 stops

-- no stage of the plan calls a volume of the group, and all but the last keep the world
abbrev pub IsPlain : Option Plan → Type 0
IsPlain None = Unit {0}
IsPlain (Some plan) = AreStill calls_volume plan.stages

-- a stage behind gates
abbrev pub behind : List Test → Stage → List Stage
behind [] s = s ∷ []
behind (test ∷ gates) s = stage.Gate test ∷ behind gates s

-- the gates of a start, that of a mirror, of logs and of plexes, and those of a stop
abbrev pub start_gates : Option Word → Word → List Test
start_gates dg vol = tests.GroupIs dg ∷ tests.HasVolume vol ∷ tests.Stopped vol ∷ []

abbrev pub mirror_gates : Option Word → List Test
mirror_gates dg = tests.GroupIs dg ∷ []

abbrev pub stop_gates : Option Word → Word → List Test
stop_gates dg vol = tests.GroupIs dg ∷ tests.HasVolume vol ∷ []

-- the form starts, mirrors or stops a volume of the group, gives it logs, lets a plex of it go out of use or into use, or takes one out
abbrev pub touches : Form → Bool
touches (form.Start vol) = true
touches (form.Stop vol) = true
touches (form.Mirror vol disks) = true
touches (form.Prepare vol ndcomirs region) = true
touches (form.AssistMake vol length attrs disks) = true
touches (form.PlexDis plex rm) = true
touches (form.Acting (act.PlexDet plex)) = true
touches (form.Acting (act.PlexAtt vol plex)) = true
touches other = false

-- the form is that of a start or of a mirror, makes a volume and starts it, lets a plex go out of use or into use, or takes one out
abbrev pub ends_so : Form → Bool
ends_so (form.Start vol) = true
ends_so (form.Mirror vol disks) = true
ends_so (form.AssistMake vol length attrs disks) = true
ends_so (form.PlexDis plex rm) = true
ends_so (form.Acting (act.PlexDet plex)) = true
ends_so (form.Acting (act.PlexAtt vol plex)) = true
ends_so other = false

pub plan_plain : (dg : Option Word) (f : Form) → touches f ≡ false → IsPlain (plan_of dg f)
unfolding plan_of
plan_plain dg (form.MkImage device length) other = refl
plan_plain dg (form.Bare vol device) other = (refl, refl, (refl, refl, (refl, refl, refl)))
plan_plain dg (form.DgInit name disks) other = (refl, refl, (refl, refl, (refl, refl, (refl, refl, (refl, refl, (refl, refl, refl))))))
plan_plain dg (form.DgAddDisk name disk) other = (refl, refl, (refl, refl, (refl, refl, (refl, refl, (refl, refl, refl)))))
plan_plain dg (form.DgImport name) other = refl
plan_plain dg (form.DgDeport name) other = (refl, refl, (refl, refl, refl))
plan_plain dg (form.DiskUnsetup device) other = (refl, refl, (refl, refl, refl))
plan_plain dg (form.PrintM None) other = refl
plan_plain dg (form.PrintM (Some vol)) other = (refl, refl, refl)
plan_plain dg (form.VxMake text) other = (refl, refl, refl)
plan_plain dg (form.Rdpol vol words.Round) other = (refl, refl, (refl, refl, refl))
plan_plain dg (form.Rdpol vol words.Select) other = (refl, refl, (refl, refl, refl))
plan_plain dg (form.Rdpol vol (words.Prefer plex)) other = (refl, refl, (refl, refl, (refl, refl, refl)))
plan_plain dg (form.RemoveVolume vol) other = (refl, refl, (refl, refl, (refl, refl, (refl, refl, refl))))
plan_plain dg (form.Stop vol) other = cc
plan_plain dg (form.Start vol) other = cc
plan_plain dg (form.PrintHt None) other = refl
plan_plain dg (form.PrintHt (Some vol)) other = (refl, refl, refl)
plan_plain dg (form.AssistMake vol length attrs disks) other = cc
plan_plain dg (form.Mirror vol disks) other = cc
plan_plain dg (form.PlexDis plex rm) other = cc
plan_plain dg (form.Prepare vol ndcomirs region) other = cc
plan_plain dg (form.Unprepare vol) other = (refl, refl, refl)
plan_plain dg (form.AddMir vol disks) other = tt
plan_plain dg (form.Dis snap) other = tt
plan_plain dg (form.Split snap) other = tt
plan_plain dg (form.PrintSnaps vol) other = tt
plan_plain dg (form.Recover vol) other = tt
plan_plain dg (form.Acting (act.PlexDet plex)) other = cc
plan_plain dg (form.Acting (act.PlexAtt vol plex)) other = cc
plan_plain dg (form.Acting (act.SnapMake vol snap plex)) other = tt
plan_plain dg (form.Acting (act.Reattach snap vol)) other = tt
plan_plain dg (form.Acting (act.Restore vol snap)) other = tt
plan_plain dg (form.Acting (act.Snapback snap from_replica)) other = tt
plan_plain dg (form.Calling call) other = tt
plan_plain dg (form.Sessions block) other = tt

-- no stage of the plan is such a one, and all but the last keep the world
abbrev pub IsStill : Option Plan → Type 0
IsStill None = Unit {0}
IsStill (Some plan) = AreStill ends_itself plan.stages

still_plan : (plan : Option Plan) → IsPlain plan → IsStill plan
still_plan None plain = tt
still_plan (Some plan) plain = none_itself plan.stages plain

pub plan_still : (dg : Option Word) (f : Form) → ends_so f ≡ false → IsStill (plan_of dg f)
unfolding plan_of
plan_still dg (form.Stop vol) other = (refl, refl, (refl, refl, refl))
plan_still dg (form.Prepare vol ndcomirs region) other = (refl, refl, refl)
plan_still dg (form.Start vol) other = cc
plan_still dg (form.Mirror vol disks) other = cc
plan_still dg (form.AssistMake vol length attrs disks) other = cc
plan_still dg (form.PlexDis plex rm) other = cc
plan_still dg (form.Acting (act.PlexDet plex)) other = cc
plan_still dg (form.Acting (act.PlexAtt vol plex)) other = cc
plan_still dg f other = still_plan (plan_of dg f) (plan_plain dg f refl)

-- ---- commands

module _ (old : Moment) (views : List View) (r : Refusal) (new : Moment) where
  not_built : IsNotBuilt old views (refused r) new → new.world ≡ old.world
  not_built (none, is, stays) = ap (λ (m : Moment). m.world) stays

  plan_left : (disks : List DiskAt) (plan : Option Plan) → IsStill plan → DoesPlan disks plan old views (refused r) new → new.world ≡ old.world
  plan_left disks None plain does = not_built does
  plan_left disks (Some plan) plain does = still_kept disks plan.stages plan.finish old views r new plain does

  -- a start behind gates is refused: each gate leaves the moment
  starting_left : (gates : List Test) (vol : Word) (m : Moment) → Runs [] (behind gates (stage.Start vol)) Nothing m views (refused r) new → (new.world ≡ m.world) ⊎ IsLeftUnopened vol m r new
  starting_left [] vol m (inl (mid, later, is, runs)) = absurd is
  starting_left [] vol m (inr (none, later, stops)) = start_left m r new vol stops
  starting_left (test ∷ gates) vol m (inl (mid, later, (passed, same), runs)) =
      subst (λ (n : Moment). (new.world ≡ n.world) ⊎ IsLeftUnopened vol n r new) same (starting_left gates vol mid runs)
  starting_left (test ∷ gates) vol m (inr (none, later, (s, fails, is, same))) = inl (ap (λ (n : Moment). n.world) same)

  -- so is a mirror behind gates
  mirroring_left : (gates : List Test) (mirror : NewPlex) (m : Moment) → Runs [] (behind gates (stage.Mirror mirror)) Nothing m views (refused r) new → new.world ≡ m.world
  mirroring_left [] mirror m (inl (mid, later, is, runs)) = absurd is
  mirroring_left [] mirror m (inr (none, later, stops)) = mirror_left m r new mirror.vol mirror.disks stops
  mirroring_left (test ∷ gates) mirror m (inl (mid, later, (passed, same), runs)) = mirroring_left gates mirror mid runs ∙ ap (λ (n : Moment). n.world) same
  mirroring_left (test ∷ gates) mirror m (inr (none, later, (s, fails, is, same))) = ap (λ (n : Moment). n.world) same

  -- another stage behind gates ends the command, or one of them does
  stopped_behind : (gates : List Test) (s : Stage) (m : Moment) → Runs [] (behind gates s) Nothing m views (refused r) new → (new.world ≡ m.world) ⊎ Stops s [] m (refused r) new
  stopped_behind [] s m (inl (mid, later, is, (shows, over, stays))) = absurd (not_done r over)
  stopped_behind [] s m (inr (none, later, stops)) = inr stops
  stopped_behind (test ∷ gates) s m (inl (mid, later, (passed, same), runs)) = subst (λ (n : Moment). (new.world ≡ n.world) ⊎ Stops s [] n (refused r) new) same (stopped_behind gates s mid runs)
  stopped_behind (test ∷ gates) s m (inr (none, later, (why, fails, is, same))) = inl (ap (λ (n : Moment). n.world) same)

  leaving_behind : (gates : List Test) (remove : Bool) (plex : Word) (m : Moment) → Runs [] (behind gates (stage.Dissociate plex remove)) Nothing m views (refused r) new → (new.world ≡ m.world) ⊎ StopsLate remove plex m (refused r) new
  leaving_behind gates remove plex m runs = elim (stopped_behind gates (stage.Dissociate plex remove) m runs) [ inl same ↦ inl same | inr stops ↦ leaving_left m r new remove plex stops ]

  detaching_left : (gates : List Test) (plex : Word) (m : Moment) → Runs [] (behind gates (stage.Detach plex)) Nothing m views (refused r) new → (new.world ≡ m.world) ⊎ StopsNeeded plex m (refused r) new
  detaching_left gates plex m runs = elim (stopped_behind gates (stage.Detach plex) m runs) [ inl same ↦ inl same | inr stops ↦ detach_left m r new plex stops ]

  attaching_left : (gates : List Test) (vol plex : Word) (m : Moment) → Runs [] (behind gates (stage.Attach vol plex)) Nothing m views (refused r) new → new.world ≡ m.world
  attaching_left gates vol plex m runs = elim (stopped_behind gates (stage.Attach vol plex) m runs) [ inl same ↦ same | inr stops ↦ attach_left m r new vol plex stops ]

  -- a new volume: its records are refused, or it cannot be started
  abbrev Left : NewVolume → Moment → Type 0
  Left n m = (new.world ≡ m.world) ⊎ IsLeftAdded n m r new

  -- nothing of the name is started, as the records are added: so the last stage alone can refuse
  starting_refused : (n : NewVolume) (m mid : Moment) → IsDone (stage.Make (source.Volume n)) [] m mid → Runs [] (stage.Gate (tests.Stopped n.vol) ∷ stage.Start n.vol ∷ []) Nothing mid views (refused r) new → StartStops n.vol mid (refused r) new
  starting_refused n m mid is (inl (last, later, (passed, same), inl (x, after, done, runs))) = absurd done
  starting_refused n m mid is (inl (last, later, (passed, same), inr (none, after, stops))) = subst (λ (x : Moment). StartStops n.vol x (refused r) new) same stops
  starting_refused n m mid is (inr (none, later, (s, fails, e, same))) = absurd (no_gate n m mid is s fails)

  adding_left : (n : NewVolume) (m : Moment) → Runs [] (stage.Make (source.Volume n) ∷ stage.Gate (tests.Stopped n.vol) ∷ stage.Start n.vol ∷ []) Nothing m views (refused r) new → Left n m
  adding_left n m (inl (mid, later, is, runs)) = inr (mid, is, start_refuses mid r new n.vol there.0 there.1 there.2 stops, elim (start_left mid r new n.vol stops) [ inl same ↦ same | inr left ↦ absurd (is_opened n m mid is r new left) ])
    where
      stops : StartStops n.vol mid (refused r) new
      stops = starting_refused n m mid is runs

      there : (g : Group) × (mid.world.group ≡ Some g) × (is_some (volume_in n.vol g.config.volumes) ≡ true)
      there = added_there n m mid is
  adding_left n m (inr (none, later, stops)) = inl (refused_kept (stage.Make (source.Volume n)) [] m r new refl stops)

  new_left : (dg : Option Word) (n : NewVolume) → Runs [] (stage.Gate (tests.GroupIs dg) ∷ stage.Make (source.Volume n) ∷ stage.Gate (tests.Stopped n.vol) ∷ stage.Start n.vol ∷ []) Nothing old views (refused r) new → Left n old
  new_left dg n (inl (mid, later, (passed, same), runs)) = subst (Left n) same (adding_left n mid runs)
  new_left dg n (inr (none, later, (s, fails, is, same))) = inl (ap (λ (m : Moment). m.world) same)

  served_left : (place : ℕ) (call : Call) (v : Volume) (lies : Lies) → ServesOn lies place call v old (refused r) new → new.world ≡ old.world
  served_left place call v (OnDevice device) served = absurd served.cause
  served_left place call v (OnPlexes plexes) served = absurd served.cause

  call_left : (place : ℕ) (call : Call) → CallRuns place call old (refused r) new → new.world ≡ old.world
  call_left place call runs = by (old.world.volumes (volume_of call)) runs
    where
      at_range : (v : Volume) (b : Bool) → MatchBool b ((refused r ≡ ends.Refused Range) × Rests old new) (ServesOn v.lies place call v old (refused r) new) → new.world ≡ old.world
      at_range v true h = h.1.stays.world
      at_range v false h = served_left place call v v.lies h

      by : (o : Option Volume) → MatchOption o ((refused r ≡ ends.Refused (NotStarted (volume_of call))) × Rests old new) (λ v. MatchBool (nat_lt v.length (start_of call + count_of call)) ((refused r ≡ ends.Refused Range) × Rests old new) (ServesOn v.lies place call v old (refused r) new)) → new.world ≡ old.world
      by None h = h.1.stays.world
      by (Some v) h = at_range v (nat_lt v.length (start_of call + count_of call)) h

  form_left : (place : ℕ) (dg : Option Word) (f : Form) → DoesForm place dg f old views (refused r) new → RefusedLeaves f old r new
  unfolding plan_of
  form_left place dg (form.Calling call) does = call_left place call does.2
  form_left place dg (form.Start vol) does = starting_left (start_gates dg vol) vol old does
  form_left place dg (form.AssistMake vol length attrs disks) does = new_left dg (new_volume vol length attrs disks) does
  form_left place dg (form.Mirror vol disks) does = mirroring_left (mirror_gates dg) (record { vol = vol; disks = disks }) old does
  form_left place dg (form.Recover vol) does = recover_left r new dg vol old views does.1
  form_left place dg (form.PlexDis plex rm) does = leaving_behind (mirror_gates dg) rm plex old does
  form_left place dg (form.Acting (act.PlexDet plex)) does = detaching_left (mirror_gates dg) plex old does
  form_left place dg (form.Acting (act.PlexAtt vol plex)) does = attaching_left (mirror_gates dg) vol plex old does
  form_left place dg other does = plan_left (disks_of other) (plan_of dg other) (plan_still dg other refl) does

pub each_refusal_keeps_the_world : (place : ℕ) (c : Command) (old : Moment) (views : List View) (r : Refusal) (new : Moment) → Step place c old (One views (refused r)) new → (over : Moment) × (new.world ≡ over.world) × CountsAfter c.cut over.counts new.counts × RefusedLeaves c.form old r over
each_refusal_keeps_the_world place c old views r new step =
    let told : One views (refused r) ≡ One step.views step.end = step.told in
    let is : step.end ≡ refused r = cc in (
      step.over,
      subst (λ (e : End). Leaves e step.over.world new.world) is step.leaves,
      step.counts,
      form_left old step.views r step.over place c.group c.form (subst (λ (e : End). DoesForm place c.group c.form old step.views e step.over) is step.does),
    )
