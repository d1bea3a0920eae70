-- The pieces of the plex of a mirror are taken out of the pool.
use Rattle.std.specs.Prelude.{◌≡◌, ◌≤◌, ℕ, true, List, [], ◌∷◌, Some, vec_capacity}
use Rattle.vx_base.specs.Named.{Word}
use Rattle.vx_block.specs.Regions.{region_count}
use Rattle.vx_piece.specs.Seen.{Seen}
use Rattle.vx_pages.specs.declared.local_piece.LocalPiece.{Ghosts}
use Rattle.vx_config_parts.specs.declared.object.Object.{Object}
use Rattle.vx_config_parts.specs.Objects.{is_data_plex_of}
use Rattle.vx_objects.specs.declared.config.Config.{Config}
use Rattle.vx_objects.specs.declared.edit.Edit.TheVariants.{Make}
use Rattle.vx_objects.specs.Applied.{IsEdited}
use Rattle.vx_lending.specs.Form.{IsLayoutOf}
use Rattle.vx_lending.specs.declared.public.Running.{Running}
use Rattle.vx_lending.specs.Public.{running_at}
use Rattle.vx_group_edits.specs.OfVolume.{AreOf}
use Rattle.vx_group_edits.specs.Joins.{plexes_in}
use Rattle.vx_plex_pieces.specs.Parked.{IsParked}
use Rattle.vx_house.specs.declared.house.Imported.{Imported}
use Rattle.vx_stage_volumes.specs.Opening.{AreSlotNumbers}
use Rattle.vx_stage_mirrors.specs.declared.planning.PlannedMirror.{PlannedMirror}
use Rattle.vx_stage_mirrors.specs.declared.parking.ParkedPlex.{ParkedPlex}

-- the records that the next configuration has more are those of one plex of the volume of the name
pub record IsAddition (c : Config) (name : Word) (p : PlannedMirror) : Type 0 where
  pub added : List Object
  pub of : AreOf name added
  pub edited : IsEdited (Make added ∷ []) c p.next.config
  pub alone : plexes_in added ≡ p.plex ∷ []
  pub own : is_data_plex_of name p.plex ≡ true

-- Its plex is parked, by its layout and the numbers of the group's slots, for the running volume of the name, and there is room for the
-- pieces of each region.
pub record IsParkedFor {P : Type 0} {ghosts : Ghosts P} (see : P → Seen) (name : Word) (p : PlannedMirror) (parked : ParkedPlex P) (old new : Imported P ghosts) : Type 0 where
  pub numbers : List ℕ
  pub slots : AreSlotNumbers see old numbers
  pub layout : IsLayoutOf p.next.config p.plex parked.layout
  pub running : Running P ghosts
  pub there : running_at old.public name ≡ Some running
  pub taken : IsParked see numbers p.map parked.layout running.form.shape.geometry old.public new.public
  pub empty : parked.room.items ≡ []
  pub enough : region_count running.form.shape.geometry.length running.form.shape.geometry.region ≤ vec_capacity parked.room
