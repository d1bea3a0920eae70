-- One step after the other, on a house and in its moments.
use Rattle.std.proofs.Common.{Result, Ok, Err}
use Rattle.vx_pages.specs.declared.local_piece.LocalPiece.{Ghosts}
use Rattle.vx_piece.specs.Seen.{Seen}
use Rattle.vx_answers.specs.declared.answer.End.{End}
use Rattle.vx_answers.specs.declared.answer.End.TheVariants as ends
use Rattle.vx_moments.specs.Moment.{AreLater, Moment}
use Rattle.vx_house.proofs.Moments.{faults_trans, later_trans}
use Rattle.vx_house.proofs.Takes.{blamed_later}
use Rattle.vx_house.specs.Scene.{FaultsGoOn}
use Rattle.vx_house.specs.View.{IsMoment, View, scene}
use Rattle.vx_house.specs.declared.stop.Stop.{Stop}
use Rattle.vx_house.specs.declared.stop.Stop.TheVariants as stops
use Rattle.vx_stage_recovery.specs.Steps.{StepGoes, Via}

-- what a step does, how it ends the command, and what want of memory leaves
pub record Doing (T : Type 0) : Type 1 where
  pub done : T → Moment → Moment → Type 0
  pub ends : Moment → End → Moment → Type 0
  pub left : Moment → Moment → Type 0

-- all that the one says of these moments the other says too
pub record SaysMore {T U : Type 0} (At : Moment → Type 0) (d : Doing T) (e : Doing U) : Type 0 where
  pub ends : (m : Moment) → At m → (end : End) (n : Moment) → AreLater m.counts n.counts → d.ends m end n → e.ends m end n
  pub left : (m : Moment) → At m → (n : Moment) → d.left m n → e.left m n

abbrev pub via : {T : Type 0} → (Moment → Moment → Type 0) → Doing T → Doing T
via First d = record { done = λ told. Via First (d.done told); ends = λ m end n. Via First (λ a w. d.ends a end w) m n; left = Via First d.left }

module _ {P : Type 0} {ghosts : Ghosts P} (see : P → Seen) (old new : View P ghosts) where
  -- the step goes so
  abbrev pub Does : {T : Type 0} → Doing T → Result T Stop → View P ghosts → View P ghosts → Type 0
  Does d result before behind = StepGoes see d.done d.ends d.left result before behind

  -- one that ends the command, or wants memory
  pub stop_as : {T U : Type 0} (d : Doing T) (e : Doing U) → SaysMore (IsMoment see old) d e → (stop : Stop) → Does d (Err stop) old new → Does e (Err stop) old new
  stop_as d e more stops.OutOfMemory is = record { keeps = is.keeps; goes = λ m at. (let n = is.goes m at in (n.0, n.1, n.2, more.left m at n.0 n.3)); faults = is.faults; blamed = tt }
  stop_as d e more (stops.Ended ends.GroupLost) is = record { keeps = is.keeps; goes = λ m at. (let n = is.goes m at in (n.0, n.1, n.2, more.ends m at ends.GroupLost n.0 n.2 n.3)); faults = is.faults; blamed = tt }
  stop_as d e more (stops.Ended (ends.Lost parts)) is = record { keeps = is.keeps; goes = λ m at. (let n = is.goes m at in (n.0, n.1, n.2, more.ends m at (ends.Lost parts) n.0 n.2 n.3)); faults = is.faults; blamed = tt }
  stop_as d e more (stops.Ended (ends.Done copied parts blocks)) is = record { keeps = is.keeps; goes = λ m at. (let n = is.goes m at in (n.0, n.1, n.2, more.ends m at (ends.Done copied parts blocks) n.0 n.2 n.3)); faults = is.faults; blamed = is.blamed }
  stop_as d e more (stops.Ended (ends.Refused r)) is = record { keeps = is.keeps; goes = λ m at. (let n = is.goes m at in (n.0, n.1, n.2, more.ends m at (ends.Refused r) n.0 n.2 n.3)); faults = is.faults; blamed = is.blamed }
  stop_as d e more (stops.Ended (ends.Fault told device parts)) is = record { keeps = is.keeps; goes = λ m at. (let n = is.goes m at in (n.0, n.1, n.2, more.ends m at (ends.Fault told device parts) n.0 n.2 n.3)); faults = is.faults; blamed = is.blamed }
  stop_as d e more (stops.Ended ends.ShelfFailed) is = record { keeps = is.keeps; goes = λ m at. (let n = is.goes m at in (n.0, n.1, n.2, more.ends m at ends.ShelfFailed n.0 n.2 n.3)); faults = is.faults; blamed = is.blamed }

  -- one that is done
  pub done_as : {T U : Type 0} (d : Doing T) (e : Doing U) (told : T) (other : U) → ((m : Moment) → IsMoment see old m → (n : Moment) → AreLater m.counts n.counts → d.done told m n → e.done other m n) → Does d (Ok told) old new → Does e (Ok other) old new
  done_as d e told other more is = record { keeps = is.keeps; goes = λ m at. (let n = is.goes m at in (n.0, n.1, n.2, more m at n.0 n.2 n.3)); faults = is.faults; blamed = tt }

  -- ---- behind another

  module _ {S : Type 0} (f : Doing S) (told : S) (mid : View P ghosts) (first : Does f (Ok told) old mid) where
    faults_on : FaultsGoOn (scene see mid) (scene see new) → FaultsGoOn (scene see old) (scene see new)
    faults_on then = faults_trans (scene see old) (scene see mid) (scene see new) first.faults then

    pub behind : {T : Type 0} (d : Doing T) (result : Result T Stop) → Does d result mid new → Does (via (f.done told) d) result old new
    behind d (Ok told) is = record { keeps = is.keeps; goes = λ m at. (let a = first.goes m at in let n = is.goes a.0 a.1 in (n.0, n.1, later_trans m.counts a.0.counts n.0.counts a.2 n.2, (a.0, a.2, a.3, n.2, n.3))); faults = faults_on is.faults; blamed = tt }
    behind d (Err stops.OutOfMemory) is = record { keeps = is.keeps; goes = λ m at. (let a = first.goes m at in let n = is.goes a.0 a.1 in (n.0, n.1, later_trans m.counts a.0.counts n.0.counts a.2 n.2, (a.0, a.2, a.3, n.2, n.3))); faults = faults_on is.faults; blamed = tt }
    behind d (Err (stops.Ended ends.GroupLost)) is = record { keeps = is.keeps; goes = λ m at. (let a = first.goes m at in let n = is.goes a.0 a.1 in (n.0, n.1, later_trans m.counts a.0.counts n.0.counts a.2 n.2, (a.0, a.2, a.3, n.2, n.3))); faults = faults_on is.faults; blamed = tt }
    behind d (Err (stops.Ended (ends.Lost parts))) is = record { keeps = is.keeps; goes = λ m at. (let a = first.goes m at in let n = is.goes a.0 a.1 in (n.0, n.1, later_trans m.counts a.0.counts n.0.counts a.2 n.2, (a.0, a.2, a.3, n.2, n.3))); faults = faults_on is.faults; blamed = tt }
    behind d (Err (stops.Ended (ends.Done copied parts blocks))) is = record { keeps = is.keeps; goes = λ m at. (let a = first.goes m at in let n = is.goes a.0 a.1 in (n.0, n.1, later_trans m.counts a.0.counts n.0.counts a.2 n.2, (a.0, a.2, a.3, n.2, n.3))); faults = faults_on is.faults; blamed = tt }
    behind d (Err (stops.Ended (ends.Refused r))) is = record { keeps = is.keeps; goes = λ m at. (let a = first.goes m at in let n = is.goes a.0 a.1 in (n.0, n.1, later_trans m.counts a.0.counts n.0.counts a.2 n.2, (a.0, a.2, a.3, n.2, n.3))); faults = faults_on is.faults; blamed = tt }
    behind d (Err (stops.Ended (ends.Fault told device parts))) is = record { keeps = is.keeps; goes = λ m at. (let a = first.goes m at in let n = is.goes a.0 a.1 in (n.0, n.1, later_trans m.counts a.0.counts n.0.counts a.2 n.2, (a.0, a.2, a.3, n.2, n.3))); faults = faults_on is.faults; blamed = blamed_later (ends.Fault told device parts) (scene see old) (scene see mid) (scene see new) first.faults is.blamed }
    behind d (Err (stops.Ended ends.ShelfFailed)) is = record { keeps = is.keeps; goes = λ m at. (let a = first.goes m at in let n = is.goes a.0 a.1 in (n.0, n.1, later_trans m.counts a.0.counts n.0.counts a.2 n.2, (a.0, a.2, a.3, n.2, n.3))); faults = faults_on is.faults; blamed = blamed_later ends.ShelfFailed (scene see old) (scene see mid) (scene see new) first.faults is.blamed }
