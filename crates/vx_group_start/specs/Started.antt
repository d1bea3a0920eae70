-- How a volume is started out of the pieces of its group.
use Rattle.std.specs.Prelude.{◌≡◌, ℕ, ◌++◌, List, length, map}
use Rattle.std.specs.List.{All}
use Rattle.vx_base.specs.Blocks.{Contents}
use Rattle.vx_piece.specs.Seen.{Seen}
use Rattle.vx_carve.specs.Together.{Holds, SameSectors}
use Rattle.vx_cell.specs.Plexes.{PlexSeen}
use Rattle.vx_pages.specs.declared.local_piece.LocalPiece.{Ghosts}
use Rattle.vx_config_parts.specs.declared.vol.Vol.{Vol}
use Rattle.vx_volume.specs.Log.{log_seen}
use Rattle.vx_volume.specs.Opening.{IsOpened, count_of}
use Rattle.vx_volume.specs.Volume.{IsVolume, log_of, shape_of, volume_seen}
use Rattle.vx_lending.specs.FormLaws.{all_layouts}
use Rattle.vx_lending.specs.RegionPieces.{all_pieces}
use Rattle.vx_lending.specs.RegionsTaken.{AreTakenRegions}
use Rattle.vx_lending.specs.Going.{GoTogether}
use Rattle.vx_lending.specs.Left.{held_pieces}
use Rattle.vx_lending.specs.Pieces.{copy_pieces}
use Rattle.vx_lending.specs.Taken.{OthersStay}
use Rattle.vx_lending.specs.declared.public.Public.{Public}
use Rattle.vx_lending.specs.declared.public.Running.{Running}
use Rattle.vx_lending.specs.Public.{still_pieces}
use Rattle.vx_group_start.specs.Logs.{IsStartLog}

-- The volume was opened with its form over regions and a log that were taken out of the pieces: those of the regions, of the copies and those
-- that lie still are together what they were. No call was made on those of the regions, nor on those that lie still; all pieces have together each sector as often; and the plexes of other layouts are in the pool as before.
pub record IsStarted {P : Type 0} {ghosts : Ghosts P} (seen : P → Seen) (v : Vol) (numbers : List ℕ) (old new : Public P ghosts) (running : Running P ghosts) : Type 0 where
  pub regions : List (List PlexSeen)
  pub long : length regions ≡ count_of running.form.shape
  pub taken : AreTakenRegions numbers running.form.maps.items running.form.layouts.items running.form.shape.geometry.length running.form.shape.geometry.region regions
  pub hold : (contents : ℕ → Contents) → All (Holds contents) (still_pieces seen old) → All (Holds contents) (all_pieces regions) × All (Holds contents) (still_pieces seen new)
  pub log : IsStartLog seen v numbers running.form (still_pieces seen old) (log_of running.volume)
  pub out : SameSectors (still_pieces seen old) (all_pieces regions ++ (copy_pieces log.copies ++ still_pieces seen new))
  pub opened : IsOpened running.form.shape (log_seen seen (log_of running.volume)) regions (volume_seen seen running.volume)
  pub whole : IsVolume (volume_seen seen running.volume)
  pub shape : shape_of running.volume ≡ running.form.shape
  pub goes : GoTogether (still_pieces seen old) (held_pieces seen running.volume ++ still_pieces seen new)
  pub others : OthersStay numbers (all_layouts running.form) (map seen old.pool.items.items) (map seen new.pool.items.items)
