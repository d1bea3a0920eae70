-- What is planned for a plex that leaves its volume, before anything is touched.
use Rattle.std.specs.Prelude.{◌≡◌, Bool, Option, Some, None}
use Rattle.vx_base.specs.Named.{Word}
use Rattle.vx_piece.specs.Seen.{Seen}
use Rattle.vx_pages.specs.declared.local_piece.LocalPiece.{Ghosts}
use Rattle.vx_config_parts.specs.declared.plex.Plex.{Plex}
use Rattle.vx_config_parts.specs.declared.vol.Vol.{Vol}
use Rattle.vx_objects.specs.declared.config.Config.{Config}
use Rattle.vx_stages.specs.Plexes.{plex_in}
use Rattle.vx_stages.specs.Tests.{is_data, volume_in}
use Rattle.vx_house.specs.declared.house.Imported.{Imported}
use Rattle.vx_stage_changes.specs.Planning.{IsPlanned}
use Rattle.vx_stage_changes.specs.declared.planning.NextConfig.{NextConfig}
use Rattle.vx_stage_volumes.specs.Opening.{good_of}
use Rattle.vx_stage_mirrors.specs.LogEnding.{is_running}
use Rattle.vx_stages.specs.Leaving.{Way, leaving_edits, leaving_refusal, way_of}

-- the volume of the plex that has this one, if any
abbrev pub own_volume : Config → Option Word → Option Vol
own_volume c None = None
own_volume c (Some vol) = volume_in vol c.volumes

-- No test refuses that the plex leaves, and the configuration without it is to be committed.
pub record IsPlanFor {P : Type 0} {ghosts : Ghosts P} (see : P → Seen) (remove : Bool) (p : Plex) (next : NextConfig) (g : Imported P ghosts) : Type 0 where
  pub found : plex_in p.name g.config.plexes ≡ Some p
  pub fits : leaving_refusal (is_running g) g.config (good_of see g) remove p.name ≡ None
  pub next_is : IsPlanned (leaving_edits remove p) g.config next

-- It leaves this volume so, by this way; it is removed, or not.
pub record IsLeavingPlanned {P : Type 0} {ghosts : Ghosts P} (see : P → Seen) (way : Way) (v : Vol) (p : Plex) (next : NextConfig) (g : Imported P ghosts) : Type 0 where
  pub remove : Bool
  pub plan : IsPlanFor see remove p next g
  pub own : p.vol ≡ Some v.name
  pub volume : volume_in v.name g.config.volumes ≡ Some v
  pub way_is : way_of (is_data p.kind) (is_running g v.name) v ≡ way
