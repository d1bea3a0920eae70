-- How a plex leaves its volume in a house, by how that ended.
use Rattle.std.proofs.Common.{Err, Ok}
use Rattle.vx_piece.specs.Seen.{Seen}
use Rattle.vx_pages.specs.declared.local_piece.LocalPiece.{Ghosts}
use Rattle.vx_answers.specs.declared.answer.End.{End}
use Rattle.vx_moments.specs.Moment.{Moment}
use Rattle.vx_house.specs.Goes.{Goes}
use Rattle.vx_house.specs.Scene.{FaultsGoOn, IsBlamed}
use Rattle.vx_house.specs.View.{Keeps, View, scene}
use Rattle.vx_house.specs.declared.stop.Stop.TheVariants as stops
use Rattle.vx_house.proofs.Ends.{goes_ended, keeps_ended}
use Rattle.vx_stage_dissociation.specs.Going.{GoesAs}

module _ {P : Type 0} {ghosts : Ghosts P} (see : P → Seen) (Done : Moment → Moment → Type 0) (Ends : Moment → End → Moment → Type 0) (Left : Moment → Moment → Type 0) (old new : View P ghosts) where
  -- it is done
  pub has_done : Keeps see new → Goes see Done old new → FaultsGoOn (scene see old) (scene see new) → GoesAs see Done Ends Left (Ok tt) old new
  has_done keeps goes faults = record { keeps = keeps; goes = goes; faults = faults; blamed = tt }

  -- it has ended the command, and all is kept
  pub has_ended : (end : End) → Keeps see new → Goes see (λ m n. Ends m end n) old new → FaultsGoOn (scene see old) (scene see new) → IsBlamed end (scene see old) (scene see new) → GoesAs see Done Ends Left (Err (stops.Ended end)) old new
  has_ended end keeps goes faults blamed = record { keeps = keeps_ended see end new keeps; goes = goes_ended see Done Ends Left end old new goes; faults = faults; blamed = blamed }

  -- memory was wanting
  pub has_wanted : Keeps see new → Goes see Left old new → FaultsGoOn (scene see old) (scene see new) → GoesAs see Done Ends Left (Err stops.OutOfMemory) old new
  has_wanted keeps goes faults = record { keeps = keeps; goes = goes; faults = faults; blamed = tt }
