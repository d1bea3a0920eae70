-- How a plex leaves its volume, or is removed, on the imported group.
use Rattle.std.specs.Prelude.{◌≡◌, ◌⊎◌, Bool, true, None, Ok, Err, Result}
use Rattle.vx_base.specs.Named.{Word}
use Rattle.vx_piece.specs.Seen.{Seen}
use Rattle.vx_pages.specs.declared.local_piece.LocalPiece.{Ghosts}
use Rattle.vx_config_parts.specs.declared.plex.Plex.{Plex}
use Rattle.vx_config_parts.specs.declared.vol.Vol.{Vol}
use Rattle.vx_house.specs.declared.house.Imported.{Imported}
use Rattle.vx_house.specs.declared.stop.Stop.{Stop}
use Rattle.vx_stage_changes.specs.declared.planning.NextConfig.{NextConfig}
use Rattle.vx_stage_mirrors.specs.Ending.{seen_group}
use Rattle.vx_stage_mirrors.specs.LogEnding.{is_running}
use Rattle.vx_stage_mirrors.specs.Planned.{EndsAs}
use Rattle.vx_stage_dissociation.specs.Going.{EachHouseLeaves, EachHouseRemoves}
use Rattle.vx_stages.specs.Leaving.{ByLog, ByRecord, FromLog, FromRest, IsLeavingRefused, Way}
use Rattle.vx_stage_dissociation.specs.Planned.{IsLeavingPlanned, IsPlanFor}
use Rattle.vx_stage_dissociation.specs.Rested.{RestedEnds}

-- it was refused, or memory was wanting, before anything was touched
abbrev pub IsLeavingStopped : {P : Type 0} {ghosts : Ghosts P} → (P → Seen) → (remove : Bool) → Word → Result (Unit {0}) Stop → Imported P ghosts → Imported P ghosts → Type 0
IsLeavingStopped see remove name (Ok u) old new = ⊥
IsLeavingStopped see remove name (Err stop) old new = (new ≡ old) × EndsAs (IsLeavingRefused (is_running old) (seen_group see old) remove name) stop

-- a plex of no volume is removed by the record alone
pub record EndsAlone {P : Type 0} {ghosts : Ghosts P} (see : P → Seen) (remove : Bool) (name : Word) (result : Result (Unit {0}) Stop) (old new : Imported P ghosts) : Type 0 where
  pub removed : remove ≡ true
  pub plex : Plex
  pub named : plex.name ≡ name
  pub none : plex.vol ≡ None
  pub next : NextConfig
  pub planned : IsPlanFor see true plex next old
  pub ends : EachHouseRemoves see plex next result old new

-- how each way ends
abbrev pub WayEnds : {P : Type 0} {ghosts : Ghosts P} → (P → Seen) → Way → Vol → Plex → NextConfig → Result (Unit {0}) Stop → Imported P ghosts → Imported P ghosts → Type 0
WayEnds see ByRecord v p next result old new = EachHouseLeaves see ByRecord v p next result old new
WayEnds see FromLog v p next result old new = EachHouseLeaves see FromLog v p next result old new
WayEnds see FromRest v p next result old new = RestedEnds see v.name p next result old new
WayEnds see ByLog v p next result old new = EachHouseLeaves see ByLog v p next result old new

-- a plex leaves its volume by its way
pub record EndsByWay {P : Type 0} {ghosts : Ghosts P} (see : P → Seen) (remove : Bool) (name : Word) (result : Result (Unit {0}) Stop) (old new : Imported P ghosts) : Type 0 where
  pub volume : Vol
  pub plex : Plex
  pub named : plex.name ≡ name
  pub next : NextConfig
  pub way : Way
  pub planned : IsLeavingPlanned see way volume plex next old
  pub removed : planned.remove ≡ remove
  pub ends : WayEnds see way volume plex next result old new

-- how it ends
abbrev pub DissociateEnds : {P : Type 0} {ghosts : Ghosts P} → (P → Seen) → (remove : Bool) → Word → Result (Unit {0}) Stop → Imported P ghosts → Imported P ghosts → Type 0
DissociateEnds see remove name result old new = IsLeavingStopped see remove name result old new ⊎ (EndsAlone see remove name result old new ⊎ EndsByWay see remove name result old new)
