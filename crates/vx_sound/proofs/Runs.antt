-- The stages of a command: those before the last that leave the world as it is, and tell what they have found.
use Rattle.std.proofs.Common.{◌≡◌, ◌⊎◌, true, false, Bool, List, [], ◌∷◌, ◌++◌, None, refl, ◌∙◌, ap, subst, inl, inr}
use Rattle.vx_base.specs.Named.{Word}
use Rattle.vx_script_words.specs.declared.value.DiskAt.{DiskAt}
use Rattle.vx_answers.specs.declared.answer.End.{End}
use Rattle.vx_answers.specs.declared.answer.View.{View}
use Rattle.vx_moments.specs.World.{World}
use Rattle.vx_moments.specs.Moment.{Moment}
use Rattle.vx_stages.specs.Records.{devices_of}
use Rattle.vx_stages.specs.Stages.{IsFree, AreFree, HasNoHeader, HasHeader, AreBlank, IsDone, Stops, TakingStops}
use Rattle.vx_plans.specs.Steps.{Runs}
use Rattle.vx_stages.specs.Tests.{fails}
use Rattle.vx_plans.specs.declared.stages.Finish.{Finish}
use Rattle.vx_stages.specs.declared.stage.Stage.{Stage}
use Rattle.vx_stages.specs.declared.stage.Stage.TheVariants as stage
use Rattle.vx_sound.proofs.Joiners.{HasSearched}

-- what a stage that leaves the world has found there; of another, nothing
abbrev pub Passed : Stage → List DiskAt → World → Type 0
Passed (stage.Gate test) disks w = fails test disks w ≡ None
Passed (stage.Take name) disks w = IsFree w [] name
Passed stage.TakeDisks disks w = AreFree w [] (devices_of disks)
Passed (stage.LookBlank name) disks w = HasNoHeader w name
Passed stage.LookDisks disks w = AreBlank w (devices_of disks)
Passed (stage.LookHeaded name) disks w = HasHeader w name
Passed (stage.Search dg) disks w = HasSearched dg w (devices_of disks)
Passed (stage.MakeImage name sectors) disks w = ⊥
Passed (stage.Wipe name) disks w = ⊥
Passed (stage.StartBare vol name) disks w = ⊥
Passed (stage.Change change) disks w = ⊥
Passed (stage.Make from) disks w = ⊥
Passed stage.Join disks w = ⊥
Passed (stage.Create dg) disks w = ⊥
Passed (stage.Import dg) disks w = ⊥
Passed stage.LetGo disks w = ⊥
Passed (stage.Start vol) disks w = ⊥
Passed (stage.Mirror mirror) disks w = ⊥
Passed (stage.Prepare logs) disks w = ⊥
Passed (stage.Unprepare vol) disks w = ⊥
Passed (stage.Detach plex) disks w = ⊥
Passed (stage.Attach vol plex) disks w = ⊥
Passed (stage.Dissociate plex remove) disks w = ⊥
Passed (stage.Stop vol) disks w = ⊥

-- the stage leaves the world
abbrev pub leaves_world : Stage → Bool
leaves_world (stage.Gate test) = true
leaves_world (stage.Take name) = true
leaves_world stage.TakeDisks = true
leaves_world (stage.LookBlank name) = true
leaves_world stage.LookDisks = true
leaves_world (stage.LookHeaded name) = true
leaves_world (stage.Search dg) = true
leaves_world (stage.MakeImage name sectors) = false
leaves_world (stage.Wipe name) = false
leaves_world (stage.StartBare vol name) = false
leaves_world (stage.Change change) = false
leaves_world (stage.Make from) = false
leaves_world stage.Join = false
leaves_world (stage.Create dg) = false
leaves_world (stage.Import dg) = false
leaves_world stage.LetGo = false
leaves_world (stage.Start vol) = false
leaves_world (stage.Mirror mirror) = false
leaves_world (stage.Prepare logs) = false
leaves_world (stage.Unprepare vol) = false
leaves_world (stage.Detach plex) = false
leaves_world (stage.Attach vol plex) = false
leaves_world (stage.Dissociate plex remove) = false
leaves_world (stage.Stop vol) = false

-- such a stage that is done
calm_done : (s : Stage) (disks : List DiskAt) (old new : Moment) → leaves_world s ≡ true → IsDone s disks old new → (new.world ≡ old.world) × Passed s disks old.world
calm_done (stage.Gate test) disks old new calm done = (ap (λ (m : Moment). m.world) done.1, done.0)
calm_done (stage.Take name) disks old new calm done = (done.1.stays.world, done.0)
calm_done stage.TakeDisks disks old new calm done = (done.1.stays.world, done.0)
calm_done (stage.LookBlank name) disks old new calm done = (done.1, done.0)
calm_done stage.LookDisks disks old new calm done = (done.1, done.0)
calm_done (stage.LookHeaded name) disks old new calm done = (done.1, done.0)
calm_done (stage.Search dg) disks old new calm done = (done.1, done.0)
calm_done (stage.MakeImage name sectors) disks old new calm done = cc
calm_done (stage.Wipe name) disks old new calm done = cc
calm_done (stage.StartBare vol name) disks old new calm done = cc
calm_done (stage.Change change) disks old new calm done = cc
calm_done (stage.Make from) disks old new calm done = cc
calm_done stage.Join disks old new calm done = cc
calm_done (stage.Create dg) disks old new calm done = cc
calm_done (stage.Import dg) disks old new calm done = cc
calm_done stage.LetGo disks old new calm done = cc
calm_done (stage.Start vol) disks old new calm done = cc
calm_done (stage.Mirror mirror) disks old new calm done = cc
calm_done (stage.Prepare logs) disks old new calm done = cc
calm_done (stage.Unprepare vol) disks old new calm done = cc
calm_done (stage.Detach plex) disks old new calm done = cc
calm_done (stage.Attach vol plex) disks old new calm done = cc
calm_done (stage.Dissociate plex remove) disks old new calm done = cc
calm_done (stage.Stop vol) disks old new calm done = cc

taking_stays : (taken names : List Word) (old : Moment) (end : End) (new : Moment) → TakingStops taken names old end new → new.world ≡ old.world
taking_stays taken [] old end new stops = absurd stops
taking_stays taken (name ∷ names) old end new (inl (inl (r, away, ends))) = ends.1.stays.world
taking_stays taken (name ∷ names) old end new (inl (inr fails)) = fails.0
taking_stays taken (name ∷ names) old end new (inr more) = taking_stays (taken ++ name ∷ []) names old end new more.1

-- such a stage that ends the command
calm_stops : (s : Stage) (disks : List DiskAt) (old : Moment) (end : End) (new : Moment) → leaves_world s ≡ true → Stops s disks old end new → new.world ≡ old.world
calm_stops (stage.Gate test) disks old end new calm (r, fails, is, same) = ap (λ (m : Moment). m.world) same
calm_stops (stage.Take name) disks old end new calm stops = taking_stays [] (name ∷ []) old end new stops
calm_stops stage.TakeDisks disks old end new calm stops = taking_stays [] (devices_of disks) old end new stops
calm_stops (stage.LookBlank name) disks old end new calm stops = stops.0.0
calm_stops stage.LookDisks disks old end new calm stops = stops.0.0
calm_stops (stage.LookHeaded name) disks old end new calm stops = stops.0.0
calm_stops (stage.Search dg) disks old end new calm stops = stops.0.0
calm_stops (stage.MakeImage name sectors) disks old end new calm stops = cc
calm_stops (stage.Wipe name) disks old end new calm stops = cc
calm_stops (stage.StartBare vol name) disks old end new calm stops = cc
calm_stops (stage.Change change) disks old end new calm stops = cc
calm_stops (stage.Make from) disks old end new calm stops = cc
calm_stops stage.Join disks old end new calm stops = cc
calm_stops (stage.Create dg) disks old end new calm stops = cc
calm_stops (stage.Import dg) disks old end new calm stops = cc
calm_stops stage.LetGo disks old end new calm stops = cc
calm_stops (stage.Start vol) disks old end new calm stops = cc
calm_stops (stage.Mirror mirror) disks old end new calm stops = cc
calm_stops (stage.Prepare logs) disks old end new calm stops = cc
calm_stops (stage.Unprepare vol) disks old end new calm stops = cc
calm_stops (stage.Detach plex) disks old end new calm stops = cc
calm_stops (stage.Attach vol plex) disks old end new calm stops = cc
calm_stops (stage.Dissociate plex remove) disks old end new calm stops = cc
calm_stops (stage.Stop vol) disks old end new calm stops = cc

abbrev pub AreCalm : List Stage → Type 0
AreCalm [] = Unit {0}
AreCalm (s ∷ ss) = (leaves_world s ≡ true) × AreCalm ss

abbrev pub AllPassed : List Stage → List DiskAt → World → Type 0
AllPassed [] disks w = Unit {0}
AllPassed (s ∷ ss) disks w = Passed s disks w × AllPassed ss disks w

-- the stages before the last end the command and leave the world, or all were passed and the rest follows
abbrev pub Through : List Stage → List Stage → List DiskAt → Finish → World → List View → End → Moment → Type 0
Through calm rest disks finish w views end new = (new.world ≡ w) ⊎ ((mid : Moment) × (mid.world ≡ w) × AllPassed calm disks w × Runs disks rest finish mid views end new)

pub runs_through : (calm rest : List Stage) (disks : List DiskAt) (finish : Finish) (old : Moment) (views : List View) (end : End) (new : Moment)
    → AreCalm calm → Runs disks (calm ++ rest) finish old views end new → Through calm rest disks finish old.world views end new
runs_through [] rest disks finish old views end new calm runs = inr (old, refl, tt, runs)
runs_through (s ∷ ss) rest disks finish old views end new calm (inr (none, later, stops)) = inl (calm_stops s disks old end new calm.0 stops)
runs_through (s ∷ ss) rest disks finish old views end new calm (inl (mid, later, is, runs)) =
    after (calm_done s disks old mid calm.0 is) (runs_through ss rest disks finish mid views end new calm.1 runs)
  where
    after : (mid.world ≡ old.world) × Passed s disks old.world → Through ss rest disks finish mid.world views end new → Through (s ∷ ss) rest disks finish old.world views end new
    after (same, passed) (inl stays) = inl (stays ∙ same)
    after (same, passed) (inr (last, here, all, more)) = inr (last, here ∙ same, (passed, subst (λ (w : World). AllPassed ss disks w) same all), more)
