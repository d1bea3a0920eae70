-- The devices of the imported group are parted behind the private regions of its disks, and what is left of volumes that were not started
-- goes back into the pool: in the world nothing has changed.
use Rattle.std.specs.Prelude.{◌≡◌, ◌<◌, [], Some, vec_len, vec_capacity}
use Rattle.vx_pages.specs.declared.local_piece.LocalPiece.{Ghosts}
use Rattle.vx_piece.specs.Seen.{Seen}
use Rattle.vx_copies.specs.Lists.{Each}
use Rattle.vx_confdb.specs.Groups.{members}
use Rattle.vx_fronts.specs.Parted.{IsSameDisk}
use Rattle.vx_house.specs.Holders.{group_holders}
use Rattle.vx_house.specs.View.{IsGroupKept, group_of}
use Rattle.vx_house.specs.declared.house.Imported.{Imported}
use Rattle.vx_stage_volumes.specs.Opening.{IsOpenGroup}

-- the group as it was, with other parts of its devices
pub record PartsGroup {P : Type 0} {ghosts : Ghosts P} (see : P → Seen) (old new : Imported P ghosts) : Type 0 where
  pub config : new.config ≡ old.config
  pub base : new.base ≡ record old.base { disks = new.base.disks }
  pub disks : Each IsSameDisk (members see old.base) (members see new.base)
  pub running : new.public.running ≡ old.public.running
  pub stuck : new.public.stuck.items ≡ old.public.stuck.items
  pub holders : group_holders see (Some new) ≡ group_holders see (Some old)
  pub group : group_of see (Some new) ≡ group_of see (Some old)
  pub kept : IsGroupKept see new

-- It is parted right behind the private regions, nothing is left beside the pool, and there is a place for a volume that is not recorded.
pub record IsReadyToOpen {P : Type 0} {ghosts : Ghosts P} (see : P → Seen) (g : Imported P ghosts) : Type 0 where
  pub open_group : IsOpenGroup see g
  pub left : g.public.left.items ≡ []
  pub stuck : g.public.stuck.items ≡ []
  pub room : vec_len g.public.stuck < vec_capacity g.public.stuck
