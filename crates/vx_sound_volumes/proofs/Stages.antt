-- Each stage keeps volumes sound, where it is done, ends its command, or is left off.
use Rattle.std.proofs.Common.{◌≡◌, ◌∙◌, ℕ, true, List, [], ◌∷◌, ◌++◌, Option, Some, None, refl, sym, ap, subst, inl, inr}
use Rattle.vx_base.specs.Named.{Word}
use Rattle.vx_objects.specs.declared.edit.Edit.{Edit}
use Rattle.vx_objects.specs.declared.edit.Edit.TheVariants.{Make}
use Rattle.vx_objects.specs.Applied.{IsEdited}
use Rattle.vx_state_edits.specs.Laws.{EachRecoveredRestates, EachRecoveryRestates, EachStartRestates, EachStopRestates}
use Rattle.vx_script_words.specs.declared.value.DiskAt.{DiskAt}
use Rattle.vx_answers.specs.declared.answer.End.{End}
use Rattle.vx_moments.specs.Commit.{IsCommitted, Writing}
use Rattle.vx_moments.specs.Moment.{Moment}
use Rattle.vx_moments.specs.World.{Group, World}
use Rattle.vx_stages.specs.Ends.{IsChange}
use Rattle.vx_stages.specs.Making.{is_started}
use Rattle.vx_stages.specs.Records.{devices_of}
use Rattle.vx_stages.specs.Stages.{AreFree, EditsStop, IsDone, IsFree, IsJoining, Stops, TakingStops, Wants, edits_of, joining_edit}
use Rattle.vx_stages.specs.Tests.{fails}
use Rattle.vx_stages.specs.declared.stage.Change.{Change}
use Rattle.vx_stages.specs.declared.stage.Source.{Source}
use Rattle.vx_stages.specs.declared.stage.Stage.{Stage}
use Rattle.vx_stages.specs.declared.stage.Stage.TheVariants as stage
use Rattle.vx_stages.specs.declared.test.Test.TheVariants as tests
use Rattle.vx_plans.proofs.Complete.{kept_world, keeps_world}
use Rattle.vx_group_edits.specs.Laws.{EachStartKeeps, EachStopKeeps, StaysBy}
use Rattle.vx_group_edits.proofs.Added.{making_keeps}
use Rattle.vx_group_edits.proofs.Commands.{change_keeps}
use Rattle.vx_sound_volumes.specs.Volumes.{AreSoundOn}
use Rattle.vx_sound_volumes.proofs.Changes.{change_kept, change_stops}
use Rattle.vx_sound_volumes.proofs.Commits.{commit_stops}
use Rattle.vx_sound_volumes.proofs.Devices.{bare_kept, image_kept, wipe_kept}
use Rattle.vx_sound_volumes.proofs.Joiners.{create_done, create_stops, import_done, import_stops, join_done}
use Rattle.vx_sound_volumes.proofs.Logs.{prepare_done, prepare_ends, prepare_wants, unprepare_done, unprepare_ends}
use Rattle.vx_sound_volumes.proofs.Mirrors.{mirror_ends}
use Rattle.vx_sound_volumes.proofs.Named.{change_back, make_back}
use Rattle.vx_sound_volumes.proofs.Parts.{Every, Keeps, group_goes, some_same}
use Rattle.vx_sound_volumes.proofs.Leaving.{leaving_done, leaving_ends, leaving_wants}
use Rattle.vx_sound_volumes.proofs.Plexes.{attach_ends, detach_done, detach_ends, detach_wants}
use Rattle.vx_sound_volumes.proofs.Running.{rested, start_ends, start_wants, stop_done, stop_ends}

-- the laws of what a start, a stop and a recovery record
pub record StateLaws : Type 0 where
  pub start_restates : EachStartRestates
  pub stop_restates : EachStopRestates
  pub recovery_restates : EachRecoveryRestates
  pub recovered_restates : EachRecoveredRestates
  pub start_keeps : EachStartKeeps
  pub stop_keeps : EachStopKeeps

-- what a stage that changes the world needs to know of the stages before it
abbrev pub Needs : Stage → List DiskAt → World → Type 0
Needs (stage.Wipe name) disks w = IsFree w [] name
Needs (stage.StartBare vol name) disks w = IsFree w [] name
Needs stage.Join disks w = AreFree w [] (devices_of disks) × (fails tests.JoinLimits disks w ≡ None)
Needs (stage.Create dg) disks w = AreFree w [] (devices_of disks)
Needs other disks w = Unit {0}

-- what an import brings is sound
abbrev pub StageBrings : Stage → World → World → Type 0
StageBrings (stage.Import dg) old new = old.group ≡ None → (g : Group) → new.group ≡ Some g → AreSoundOn new.devices g
StageBrings other old new = Unit {0}

-- records that are added
pub make_done : (place : ℕ) (from : Source) (disks : List DiskAt) (old new : Moment) → Keeps place Every old.world → IsDone (stage.Make from) disks old new → Keeps place Every new.world
make_done place from disks old new k (x, is, committed) =
    change_kept place Every (Make is.added ∷ []) x old is.change k (λ u. Unit {0}) new committed (making_keeps x.group.config x.config from x.group is.added (is_started old.world) is.adds is.fine is.change.edited)
    (λ v one of started. (v, make_back x.group.config x.config v from x.group is.added (is_started old.world) is.adds is.change.edited started one, refl, tt))

module _ (laws : StateLaws) (place : ℕ) (old new : Moment) (k : Keeps place Every old.world) where
  pub same_kept : new.world ≡ old.world → Keeps place Every new.world
  same_kept same = subst (Keeps place Every) (sym same) k

  -- ---- changes

  change_done : (change : Change) (x : Writing) → IsChange (edits_of change old.world.group) old.world x → IsCommitted x old new → Keeps place Every new.world
  change_done change x is committed =
      let edited : IsEdited (edits_of change (Some x.group)) x.group.config x.config = subst (λ (o : Option Group). IsEdited (edits_of change o) x.group.config x.config) is.group is.edited in
      change_kept place Every (edits_of change old.world.group) x old is k (StaysBy change) new committed (change_keeps x.group change x.config edited)
      (λ v one of started. change_back x.group change x.config v edited one)

  -- ---- a stage that is done

  pub stage_done : (s : Stage) (disks : List DiskAt) → Needs s disks old.world → StageBrings s old.world new.world → IsDone s disks old new → Keeps place Every new.world
  stage_done (stage.MakeImage name sectors) disks needs brings (none, made, calls, quiet) = image_kept place old.world k name sectors new.world none made
  stage_done (stage.Wipe name) disks needs brings (has, calls) = wipe_kept place old.world k name _ new.world needs.1.0 has
  stage_done (stage.StartBare vol name) disks needs brings (fresh, bare, counts) = bare_kept place old.world k vol name new.world needs.1.0 fresh bare
  stage_done (stage.Change change) disks needs brings (x, is, committed) = change_done change x is committed
  stage_done (stage.Make from) disks needs brings is = make_done place from disks old new k is
  stage_done stage.Join [] needs brings is = absurd is
  stage_done stage.Join (p ∷ q ∷ ps) needs brings is = absurd is
  stage_done stage.Join (p ∷ []) needs brings (x, is, committed) = join_done place p old new k needs.0 needs.1 x is committed
  stage_done (stage.Create dg) disks needs brings (none, (x, is, committed)) = create_done place dg disks old new k x is needs committed
  stage_done (stage.Import dg) disks needs brings (none, mid, between, (x, is, committed)) = import_done place dg old.world mid new between.world k x old.counts mid.counts is committed (brings none)
  stage_done stage.LetGo disks needs brings (gone, counts) = subst (Keeps place Every) (sym gone) (group_goes place old.world)
  stage_done (stage.Start vol) disks needs brings is = absurd is
  stage_done (stage.Mirror mirror) disks needs brings is = absurd is
  stage_done (stage.Prepare logs) disks needs brings is = prepare_done place old k logs new is
  stage_done (stage.Unprepare vol) disks needs brings is = unprepare_done place old k vol new is
  stage_done (stage.Dissociate plex remove) disks needs brings is = leaving_done place old k remove plex new is
  stage_done (stage.Detach plex) disks needs brings is = detach_done place old k plex new is
  stage_done (stage.Attach vol plex) disks needs brings is = absurd is
  stage_done (stage.Stop vol) disks needs brings is = stop_done place vol old k laws.stop_restates laws.stop_keeps new is
  stage_done other disks needs brings is = same_kept (kept_world other disks old new refl is)

  -- ---- a stage that ends the command

  taking_stays : (taken names : List Word) (end : End) → TakingStops taken names old end new → new.world ≡ old.world
  taking_stays taken [] end stops = absurd stops
  taking_stays taken (name ∷ names) end (inl (inl (r, away, ends))) = ends.1.stays.world
  taking_stays taken (name ∷ names) end (inl (inr fails)) = fails.0
  taking_stays taken (name ∷ names) end (inr more) = taking_stays (taken ++ name ∷ []) names end more.1

  calm_stops : (s : Stage) (disks : List DiskAt) (end : End) → keeps_world s ≡ true → Stops s disks old end new → new.world ≡ old.world
  calm_stops (stage.Gate test) disks end calm (r, fails, is, same) = ap (λ (m : Moment). m.world) same
  calm_stops (stage.Take name) disks end calm stops = taking_stays [] (name ∷ []) end stops
  calm_stops stage.TakeDisks disks end calm stops = taking_stays [] (devices_of disks) end stops
  calm_stops (stage.LookBlank name) disks end calm stops = stops.0.0
  calm_stops stage.LookDisks disks end calm stops = stops.0.0
  calm_stops (stage.LookHeaded name) disks end calm stops = stops.0.0
  calm_stops (stage.Search dg) disks end calm stops = stops.0.0
  calm_stops other disks end calm stops = cc

  pub calm_ends : (s : Stage) (disks : List DiskAt) (end : End) → keeps_world s ≡ true → Stops s disks old end new → Keeps place Every new.world
  calm_ends s disks end calm stops = same_kept (calm_stops s disks end calm stops)

  -- the commit of a change of the imported group is stopped, or the change was refused
  edits_stop : (edits : Group → List Edit) (IsWriting : Writing → Type 0) (end : End) → ((x : Writing) → IsWriting x → old.world.group ≡ Some x.group) → EditsStop edits IsWriting old end new → Keeps place Every new.world
  edits_stop edits IsWriting end group (inl (none, ends)) = same_kept ends.1.stays.world
  edits_stop edits IsWriting end group (inr (inl (why, rests))) = same_kept rests.stays.world
  edits_stop edits IsWriting end group (inr (inr (x, is, stopped))) = commit_stops place Every x old end new (λ g here. some_same g x.group (sym here ∙ group x is)) stopped k

  pub stage_stops : (s : Stage) (disks : List DiskAt) (end : End) → Needs s disks old.world → Stops s disks old end new → Keeps place Every new.world
  stage_stops (stage.MakeImage name sectors) disks end needs (inl (some, ends)) = same_kept ends.1.stays.world
  stage_stops (stage.MakeImage name sectors) disks end needs (inr fails) = same_kept fails.0
  stage_stops (stage.Wipe name) disks end needs (has, calls, ends) = wipe_kept place old.world k name _ new.world needs.1.0 has
  stage_stops (stage.StartBare vol name) disks end needs (is, ends) = same_kept ends.1.stays.world
  stage_stops (stage.Change change) disks end needs stops = edits_stop (λ g. edits_of change (Some g)) (λ x. IsChange (edits_of change old.world.group) old.world x) end (λ x is. is.group) stops
  stage_stops (stage.Make from) disks end needs (inl (none, ends)) = same_kept ends.1.stays.world
  stage_stops (stage.Make from) disks end needs (inr (inl (why, rests))) = same_kept rests.stays.world
  stage_stops (stage.Make from) disks end needs (inr (inr (x, is, stopped))) = change_stops place Every (Make is.added ∷ []) x old is.change k end new stopped
  stage_stops stage.Join [] end needs stops = absurd stops
  stage_stops stage.Join (p ∷ q ∷ ps) end needs stops = absurd stops
  stage_stops stage.Join (p ∷ []) end needs stops = edits_stop (λ g. joining_edit p old.world g ∷ []) (λ x. IsJoining p old.world x) end (λ x is. is.group) stops
  stage_stops (stage.Create dg) disks end needs (inl (g, here, ends)) = same_kept ends.1.stays.world
  stage_stops (stage.Create dg) disks end needs (inr (x, is, stopped)) = create_stops place dg disks old new k x is needs end stopped
  stage_stops (stage.Import dg) disks end needs (inl (g, here, ends)) = same_kept ends.1.stays.world
  stage_stops (stage.Import dg) disks end needs (inr (inl (reads, why))) = same_kept reads.0
  stage_stops (stage.Import dg) disks end needs (inr (inr (mid, between, (x, is, stopped)))) = import_stops place dg old.world mid new between.world k x old.counts mid.counts is end stopped
  stage_stops stage.LetGo disks end needs stops = absurd stops
  stage_stops (stage.Start vol) disks end needs stops = start_ends laws.start_restates laws.start_keeps place old end new k vol stops
  stage_stops (stage.Mirror mirror) disks end needs stops = mirror_ends place mirror.vol mirror.disks old k end new stops
  stage_stops (stage.Prepare logs) disks end needs stops = prepare_ends place old k end new logs stops
  stage_stops (stage.Unprepare vol) disks end needs stops = unprepare_ends place old k end new vol stops
  stage_stops (stage.Dissociate plex remove) disks end needs stops = leaving_ends place old k end new remove plex stops
  stage_stops (stage.Detach plex) disks end needs stops = detach_ends place old k end new plex stops
  stage_stops (stage.Attach vol plex) disks end needs stops = attach_ends place old k vol plex end new stops
  stage_stops (stage.Stop vol) disks end needs stops = stop_ends place vol old k end new stops
  stage_stops other disks end needs stops = calm_ends other disks end refl stops

-- ---- a stage that is left off

pub stage_wants : (place : ℕ) (s : Stage) (old new : Moment) → Keeps place Every old.world → Wants s old new → Keeps place Every new.world
stage_wants place (stage.Start vol) old new k (inl same) = subst (Keeps place Every) (sym same) k
stage_wants place (stage.Start vol) old new k (inr (g, v, here, found, may, touched, narrows)) = start_wants place old new vol g v here found touched narrows k
stage_wants place (stage.Mirror mirror) old new k (inl same) = subst (Keeps place Every) (sym same) k
stage_wants place (stage.Mirror mirror) old new k (inr rest) = rested place mirror.vol old k new rest
stage_wants place (stage.Prepare logs) old new k wants = prepare_wants place old k logs new wants
stage_wants place (stage.Dissociate plex remove) old new k wants = leaving_wants place old k remove plex new wants
stage_wants place (stage.Detach plex) old new k wants = detach_wants place old k plex new wants
stage_wants place (stage.Stop vol) old new k (inl same) = subst (Keeps place Every) (sym same) k
stage_wants place (stage.Stop vol) old new k (inr rest) = rested place vol old k new rest
stage_wants place other old new k same = subst (Keeps place Every) (sym same) k
