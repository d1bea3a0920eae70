-- What laws promise of a volume that is healed.
use Rattle.vx_pages.specs.declared.local_piece.LocalPiece.{Ghosts}
use Rattle.vx_piece.specs.Seen.{AreCounts, EndsThere}
use Rattle.vx_volume.specs.declared.volume.Volume.{Volume as Code}
use Rattle.vx_lending.specs.declared.public.Public.{Public}
use Rattle.vx_lending.specs.declared.public.Running.{Running}
use Rattle.vx_group_volumes.specs.LogLaws.{EachCopyNarrows}
use Rattle.vx_healed_regions.specs.Laws.{EachCopiedNumberFits, EachDirtyNumberFits, EachHealingSpares}
use Rattle.vx_healed_volumes.specs.Laws.{EachHealedVolumeIsWhole, EachHealedVolumeReadsOneList, EachHealedVolumeStands, EachHealingGoesOn, EachHealingHasReason}

-- of its pieces and of its bytes
pub record HaveHealLaws {P : Type 0} (ghosts : Ghosts P) : Type 0 where
  pub goes : (old new : Code P ghosts) → EachHealingGoesOn ghosts.seen old new
  pub reason : (old new : Code P ghosts) → EachHealingHasReason ghosts.seen old new
  pub stands : (old new : Public P ghosts) (running after : Running P ghosts) → EachHealedVolumeStands ghosts.seen old new running after
  pub list : (old new : Public P ghosts) (running after : Running P ghosts) → EachHealedVolumeReadsOneList ghosts.seen old new running after
  pub whole : (old new : Public P ghosts) (running after : Running P ghosts) → EachHealedVolumeIsWhole ghosts.seen old new running after
  pub spares : (old new : Public P ghosts) (running after : Running P ghosts) → EachHealingSpares ghosts.seen old new running after
  pub dirty : (old new : Public P ghosts) (running after : Running P ghosts) → EachDirtyNumberFits ghosts.seen old new running after
  pub copied : (old new : Public P ghosts) (running after : Running P ghosts) → EachCopiedNumberFits ghosts.seen old new running after

-- and of pieces, and of one that is not opened
pub record HavePieceLaws {P : Type 0} (ghosts : Ghosts P) : Type 0 where
  pub ends : (p : P) → EndsThere (ghosts.seen p)
  pub counts : (p : P) → AreCounts (ghosts.seen p)
  pub narrows : EachCopyNarrows
