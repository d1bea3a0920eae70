-- What is done for one volume, in the moments of the world.
use Rattle.std.specs.Prelude.{◌≡◌, ℕ, true, false, List, [], ◌∷◌, Result, Ok, Err}
use Rattle.vx_base.specs.Named.{Word}
use Rattle.vx_answers.specs.declared.answer.End.{End}
use Rattle.vx_answers.specs.declared.answer.End.TheVariants as ends
use Rattle.vx_answers.specs.declared.answer.View.{View}
use Rattle.vx_answers.specs.declared.answer.View.TheVariants as view
use Rattle.vx_moments.specs.Moment.{Moment}
use Rattle.vx_stages.specs.Starting.{StartStops, StartWants}
use Rattle.vx_house.specs.declared.stop.Stop.{Stop}
use Rattle.vx_house.specs.declared.stop.Stop.TheVariants as stops
use Rattle.vx_recovery.specs.Recovering.{IsRecovered, RecoveryStops, RecoveryWants}
use Rattle.vx_recovery.specs.Going.{Need, Pass, Begin, Heal, is_done, need_of}

-- a start that is done does not end the command
abbrev pub begun : Result (Unit {0}) Stop → Result (Unit {0}) Stop
begun (Err (stops.Ended (ends.Done copied parts blocks))) = Ok tt
begun other = other

-- the volume is recovered, and its line is told
abbrev pub Heals : Word → List View → Moment → Moment → Type 0
Heals name told old new = (dirty : ℕ) × (copied : ℕ) × (told ≡ view.Recovered name dirty copied ∷ []) × IsRecovered name dirty copied old new

-- what it needs was done, and this is told of it
abbrev pub SeesBy : Need → Word → List View → Moment → Moment → Type 0
SeesBy Pass name told old new = (told ≡ []) × (new ≡ old)
SeesBy Begin name told old new = (told ≡ []) × ((began : End) × StartStops name old began new × (is_done began ≡ true))
SeesBy Heal name told old new = Heals name told old new

abbrev pub SeesStep : Word → List View → Moment → Moment → Type 0
SeesStep name told old new = SeesBy (need_of name old.world) name told old new

-- it has ended the command
abbrev pub StopsBy : Need → Word → List View → Moment → End → Moment → Type 0
StopsBy Pass name told old end new = ⊥
StopsBy Begin name told old end new = (told ≡ []) × StartStops name old end new × (is_done end ≡ false)
StopsBy Heal name told old end new = (told ≡ []) × RecoveryStops name old end new

abbrev pub SeesStop : Word → List View → Moment → End → Moment → Type 0
SeesStop name told old end new = StopsBy (need_of name old.world) name told old end new

-- what want of memory leaves of it
abbrev pub LeavesBy : Need → Word → Moment → Moment → Type 0
LeavesBy Pass name old new = ⊥
LeavesBy Begin name old new = StartWants name old new
LeavesBy Heal name old new = RecoveryWants name old new

abbrev pub SeesLeft : Word → Moment → Moment → Type 0
SeesLeft name old new = LeavesBy (need_of name old.world) name old new
