-- How a mirror goes in a house, whatever disks the stages before it took.
use Rattle.std.specs.Prelude.{List, Result}
use Rattle.vx_base.specs.Named.{Word}
use Rattle.vx_piece.specs.Seen.{Seen}
use Rattle.vx_pages.specs.declared.local_piece.LocalPiece.{Ghosts}
use Rattle.vx_stages.specs.Mirrored.{MirrorStops, MirrorWants}
use Rattle.vx_house.specs.Goes.{GoesBy, KeepsBy, OnEnded}
use Rattle.vx_house.specs.Scene.{FaultsGoOn, IsBlamed}
use Rattle.vx_house.specs.View.{View, scene}
use Rattle.vx_house.specs.declared.stop.Stop.{Stop}

pub record MirrorGoes {P : Type 0} {ghosts : Ghosts P} (see : P → Seen) (name : Word) (disks : List Word) (result : Result (Unit {0}) Stop) (old new : View P ghosts) : Type 0 where
  pub keeps : KeepsBy see result new
  pub goes : GoesBy see (λ m n. ⊥) (MirrorStops name disks) (MirrorWants name) result old new
  pub faults : FaultsGoOn (scene see old) (scene see new)
  pub blamed : OnEnded result (λ end. IsBlamed end (scene see old) (scene see new))
