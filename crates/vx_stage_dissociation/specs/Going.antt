-- How a plex leaves its volume in a house, whatever else the house has.
use Rattle.std.specs.Prelude.{◌≡◌, ◌⊎◌, Bool, true, Some, Result}
use Rattle.vx_base.specs.Named.{Word}
use Rattle.vx_piece.specs.Seen.{Seen}
use Rattle.vx_pages.specs.declared.local_piece.LocalPiece.{Ghosts}
use Rattle.vx_config_parts.specs.declared.plex.Plex.{Plex}
use Rattle.vx_config_parts.specs.declared.vol.Vol.{Vol}
use Rattle.vx_answers.specs.declared.answer.End.{End}
use Rattle.vx_moments.specs.Moment.{Moment}
use Rattle.vx_moments.specs.World.{Group}
use Rattle.vx_stages.specs.Ends.{IsChange, StopsBy}
use Rattle.vx_house.specs.Goes.{GoesBy, KeepsBy, OnEnded}
use Rattle.vx_house.specs.Scene.{FaultsGoOn, IsBlamed, Shelved}
use Rattle.vx_house.specs.View.{Keeps, View, at, scene}
use Rattle.vx_house.specs.declared.house.House.{House}
use Rattle.vx_house.specs.declared.house.Imported.{Imported}
use Rattle.vx_house.specs.declared.stop.Stop.{Stop}
use Rattle.vx_house_calls.specs.Passes.{with_group}
use Rattle.vx_stage_changes.specs.declared.planning.NextConfig.{NextConfig}
use Rattle.vx_stage_mirrors.specs.Ending.{seen_group}
use Rattle.vx_stages.specs.Leaving.{Way, leaving_edits}
use Rattle.vx_stages.specs.Left.{IsDissociated, IsReadied, IsRemovedAlone, LeavesVolume, LeavingStops, LeavingWants, VolumeStops}
use Rattle.vx_stage_dissociation.specs.Planned.{IsLeavingPlanned}

-- The house goes on so by the result, all is kept, and no count of faults falls.
pub record GoesAs {P : Type 0} {ghosts : Ghosts P} (see : P → Seen) (Done : Moment → Moment → Type 0) (Ends : Moment → End → Moment → Type 0) (Left : Moment → Moment → Type 0) (result : Result (Unit {0}) Stop) (old new : View P ghosts) : Type 0 where
  pub keeps : KeepsBy see result new
  pub goes : GoesBy see Done Ends Left result old new
  pub faults : FaultsGoOn (scene see old) (scene see new)
  pub blamed : OnEnded result (λ end. IsBlamed end (scene see old) (scene see new))

-- want of memory leaves the world as it was, or what the way asks for is done
abbrev pub WayWants : Way → Group → Vol → Moment → Moment → Type 0
WayWants way g v old new = (new.world ≡ old.world) ⊎ IsReadied way g v old new

-- Each house of which this is the group goes so, where the plex leaves the volume as was planned.
abbrev pub EachHouseLeaves : {P : Type 0} {ghosts : Ghosts P} → (P → Seen) → Way → Vol → Plex → NextConfig → Result (Unit {0}) Stop → Imported P ghosts → Imported P ghosts → Type 0
EachHouseLeaves {P = P} {ghosts = ghosts} see way v p next result old new =
    (planned : IsLeavingPlanned see way v p next old) (shelf : Shelved) (h : House P ghosts) → h.group ≡ Some old → Keeps see (at shelf h) →
    GoesAs see (LeavesVolume planned.remove (seen_group see old) v p) (VolumeStops planned.remove (seen_group see old) v p) (WayWants way (seen_group see old) v) result (at shelf h) (at shelf (with_group h new))

-- Each of them goes so, where a plex of no volume is removed.
abbrev pub EachHouseRemoves : {P : Type 0} {ghosts : Ghosts P} → (P → Seen) → Plex → NextConfig → Result (Unit {0}) Stop → Imported P ghosts → Imported P ghosts → Type 0
EachHouseRemoves {P = P} {ghosts = ghosts} see p next result old new =
    (shelf : Shelved) (h : House P ghosts) → h.group ≡ Some old → Keeps see (at shelf h) →
    GoesAs see (IsRemovedAlone true p) (λ m end k. StopsBy (IsChange (leaving_edits true p) m.world) m end k) (λ m n. n.world ≡ m.world) result (at shelf h) (at shelf (with_group h new))

-- So the whole goes.
abbrev pub DissociateGoes : {P : Type 0} {ghosts : Ghosts P} → (P → Seen) → (remove : Bool) → Word → Result (Unit {0}) Stop → View P ghosts → View P ghosts → Type 0
DissociateGoes see remove name result old new = GoesAs see (IsDissociated remove name) (LeavingStops remove name) (LeavingWants remove name) result old new
