-- A running volume that a plex leaves, in the moments of a house.
use Rattle.std.specs.Prelude.{◌≡◌, Bool}
use Rattle.vx_piece.specs.Seen.{Seen}
use Rattle.vx_pages.specs.declared.local_piece.LocalPiece.{Ghosts}
use Rattle.vx_config_parts.specs.declared.plex.Plex.{Plex}
use Rattle.vx_config_parts.specs.declared.vol.Vol.{Vol}
use Rattle.vx_objects.specs.declared.config.Config.{Config}
use Rattle.vx_moments.specs.Commit.{IsCommitted, Writing}
use Rattle.vx_moments.specs.Moment.{AreLater, Moment}
use Rattle.vx_moments.specs.World.{Group}
use Rattle.vx_stages.specs.Ends.{IsChange}
use Rattle.vx_house.specs.Scene.{Shelved}
use Rattle.vx_house.specs.View.{IsMoment, at}
use Rattle.vx_house.specs.declared.house.House.{House}
use Rattle.vx_stages.specs.Leaving.{leaving_edits}
use Rattle.vx_stages.specs.Left.{GoesOnWithout}

-- The moment behind it: the configuration without the plex is committed, and then the volume goes on without it.
pub record IsPartedAt {P : Type 0} {ghosts : Ghosts P} (see : P → Seen) (shelf : Shelved) (h : House P ghosts) (g : Group) (v : Vol) (p : Plex) (remove : Bool) (config : Config) (m : Moment) : Type 0 where
  pub recorded : Moment
  pub writing : Writing
  pub config_is : writing.config ≡ config
  pub change : IsChange (leaving_edits remove p) m.world writing
  pub committed : IsCommitted writing m recorded
  pub rest : AreLater m.counts recorded.counts
  pub then : Moment
  pub is : IsMoment see (at shelf h) then
  pub later : AreLater m.counts then.counts
  pub goes : GoesOnWithout g v.name p recorded then
