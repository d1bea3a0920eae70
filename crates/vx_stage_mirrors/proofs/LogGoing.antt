-- How a stage that gives a volume logs, or takes them, goes in a house, by how it ended.
use Rattle.std.proofs.Common.{◌≡◌, ◌∙◌, List, Option, Some, None, Result, Ok, Err, refl, sym, ap}
use Rattle.std.specs.Prelude.{is_some}
use Rattle.vx_base.specs.Named.{Word}
use Rattle.vx_pages.specs.declared.local_piece.LocalPiece.{Ghosts}
use Rattle.vx_piece.specs.Seen.{Seen}
use Rattle.vx_script_words.specs.declared.value.DiskAt.{DiskAt}
use Rattle.vx_copies.specs.Disks.{DiskSeen}
use Rattle.vx_answers.specs.declared.answer.End.{End}
use Rattle.vx_moments.specs.Leaving.{grouped}
use Rattle.vx_moments.specs.Moment.{Moment}
use Rattle.vx_moments.specs.World.{Group, Volume}
use Rattle.vx_lending.specs.Public.{running_at}
use Rattle.vx_lending.specs.declared.public.Running.{Running}
use Rattle.vx_new_volumes.specs.declared.logs.NewLogs.{NewLogs}
use Rattle.vx_stages.specs.Logged.{IsPrepared, IsUnprepared, PrepareStops, PrepareWants, UnprepareStops}
use Rattle.vx_stages.specs.Stopping.{runs_on_plexes}
use Rattle.vx_stages.specs.declared.stage.Stage.TheVariants as stage
use Rattle.vx_house.specs.Goes.{Goes, GoesBy, KeepsBy, OnEnded, StageGoes}
use Rattle.vx_house.specs.Runs.{IsAtRun, fronts_in, run_in}
use Rattle.vx_house.specs.Scene.{FaultsGoOn, IsBlamed, Shelved}
use Rattle.vx_house.specs.View.{IsMoment, Keeps, View, at, group_of, scene}
use Rattle.vx_house.specs.declared.house.House.{House}
use Rattle.vx_house.specs.declared.house.Imported.{Imported}
use Rattle.vx_house.specs.declared.stop.Stop.{Stop}
use Rattle.vx_house.specs.declared.stop.Stop.TheVariants as stops
use Rattle.vx_house.proofs.Ends.{goes_ended, keeps_ended}
use Rattle.vx_house_calls.specs.Passes.{with_group}
use Rattle.vx_stage_mirrors.specs.Ending.{seen_group}

-- The house goes on so, by the result.
pub record GoesAs {P : Type 0} {ghosts : Ghosts P} (see : P → Seen) (Done : Moment → Moment → Type 0) (Ends : Moment → End → Moment → Type 0) (Left : Moment → Moment → Type 0) (result : Result (Unit {0}) Stop) (old new : View P ghosts) : Type 0 where
  pub keeps : KeepsBy see result new
  pub goes : GoesBy see Done Ends Left result old new
  pub faults : FaultsGoOn (scene see old) (scene see new)
  pub blamed : OnEnded result (λ end. IsBlamed end (scene see old) (scene see new))

module _ {P : Type 0} {ghosts : Ghosts P} (see : P → Seen) (Done : Moment → Moment → Type 0) (Ends : Moment → End → Moment → Type 0) (Left : Moment → Moment → Type 0) (old new : View P ghosts) where
  -- it is done
  pub has_done : Keeps see new → Goes see Done old new → FaultsGoOn (scene see old) (scene see new) → GoesAs see Done Ends Left (Ok tt) old new
  has_done keeps goes faults = record { keeps = keeps; goes = goes; faults = faults; blamed = tt }

  -- it has ended the command, and all is kept
  pub has_ended : (end : End) → Keeps see new → Goes see (λ m n. Ends m end n) old new → FaultsGoOn (scene see old) (scene see new) → IsBlamed end (scene see old) (scene see new) → GoesAs see Done Ends Left (Err (stops.Ended end)) old new
  has_ended end keeps goes faults blamed = record { keeps = keeps_ended see end new keeps; goes = goes_ended see Done Ends Left end old new goes; faults = faults; blamed = blamed }

  -- memory was wanting
  pub has_wanted : Keeps see new → Goes see Left old new → FaultsGoOn (scene see old) (scene see new) → GoesAs see Done Ends Left (Err stops.OutOfMemory) old new
  has_wanted keeps goes faults = record { keeps = keeps; goes = goes; faults = faults; blamed = tt }

-- ---- as a stage

pub as_prepare : {P : Type 0} {ghosts : Ghosts P} (see : P → Seen) (n : NewLogs) (disks : List DiskAt) (result : Result (Unit {0}) Stop) (old new : View P ghosts) → GoesAs see (IsPrepared n) (PrepareStops n) (PrepareWants n) result old new →
    StageGoes see (stage.Prepare n) disks result old new
as_prepare see n disks (Ok u) old new is = record { keeps = is.keeps; goes = is.goes; gives = tt; still = λ e. cc; faults = is.faults; blamed = is.blamed }
as_prepare see n disks (Err stop) old new is = record { keeps = is.keeps; goes = is.goes; gives = tt; still = λ e. tt; faults = is.faults; blamed = is.blamed }

pub as_unprepare : {P : Type 0} {ghosts : Ghosts P} (see : P → Seen) (name : Word) (disks : List DiskAt) (result : Result (Unit {0}) Stop) (old new : View P ghosts) →
    GoesAs see (IsUnprepared name) (UnprepareStops name) (λ m n. n.world ≡ m.world) result old new → StageGoes see (stage.Unprepare name) disks result old new
as_unprepare see name disks (Ok u) old new is = record { keeps = is.keeps; goes = is.goes; gives = tt; still = λ e. cc; faults = is.faults; blamed = is.blamed }
as_unprepare see name disks (Err stop) old new is = record { keeps = is.keeps; goes = is.goes; gives = tt; still = λ e. tt; faults = is.faults; blamed = is.blamed }

-- ---- what a moment says of the house

-- a volume runs in the world just where it does in the house
at_run_same : {P : Type 0} {ghosts : Ghosts P} (see : P → Seen) (hs : List DiskSeen) (g : Option Group) (name : Word) (r : Option (Running P ghosts)) (o : Option Volume) → IsAtRun see hs g name r o → is_some o ≡ is_some r
at_run_same see hs g name None None is = refl
at_run_same see hs g name None (Some v) is = absurd is
at_run_same see hs g name (Some r) None is = absurd is
at_run_same see hs g name (Some r) (Some v) is = refl

module _ {P : Type 0} {ghosts : Ghosts P} (see : P → Seen) (shelf : Shelved) (h : House P ghosts) (g : Imported P ghosts) (has_group : h.group ≡ Some g) where
  pub here : (m : Moment) → IsMoment see (at shelf h) m → m.world.group ≡ Some (seen_group see g)
  here m is = is.group_is ∙ ap (group_of see) has_group

  pub runs_same : (name : Word) (m : Moment) → IsMoment see (at shelf h) m → runs_on_plexes m.world name ≡ is_some (running_at g.public name)
  runs_same name m is = at_run_same see (fronts_in see h.group) m.world.group name (run_in h.group name) (grouped (m.world.volumes name)) (is.runs_are name) ∙ ap (λ o. is_some (run_in o name)) has_group

  pub same_house : (g' : Imported P ghosts) → g' ≡ g → h ≡ with_group h g'
  same_house g' same = ap (λ o. (let x : House P ghosts = record { volumes = h.volumes; group = o; hand = h.hand } in x)) (has_group ∙ ap (λ x. Some x) (sym same))

pub some_one : {X : Type 0} (x y : X) → Some x ≡ Some y → x ≡ y
some_one x y e = cc
