-- A volume that is as another has its pieces.
use Rattle.std.proofs.Common.{◌≡◌, ◌++◌, ◌∙◌, ap}
use Rattle.vx_pages.specs.declared.local_piece.LocalPiece.{Ghosts}
use Rattle.vx_volume.specs.declared.log.VolumeLog.{VolumeLog}
use Rattle.vx_volume.specs.declared.volume.Volume.{Volume}
use Rattle.vx_volume.specs.Volume.{VolumeSeen, log_of, volume_seen}
use Rattle.vx_lending.specs.RegionPieces.{all_pieces}
use Rattle.vx_lending.specs.Left.{held_pieces, region_plexes}
use Rattle.vx_lending.specs.Logs.{log_pieces}
use Rattle.vx_group_start.specs.Closed.{IsSameVolume}

pub same_held : {P : Type 0} {ghosts : Ghosts P} (old new : Volume P ghosts) → IsSameVolume ghosts.seen old new → held_pieces ghosts.seen new ≡ held_pieces ghosts.seen old
same_held {P = P} {ghosts = ghosts} old new same =
    ap (λ (v : VolumeSeen). all_pieces (region_plexes v.cells) ++ log_pieces ghosts.seen (log_of new)) same.seen_is ∙ ap (λ (log : VolumeLog P ghosts). all_pieces (region_plexes (volume_seen ghosts.seen old).cells) ++ log_pieces ghosts.seen log) same.log_is
