-- Pieces of the imported group are called, some among others, and they may lie otherwise afterwards.
use Rattle.std.specs.Prelude.{◌≡◌, ℕ, true, ◌++◌, List}
use Rattle.std.specs.List.{list_any}
use Rattle.vx_base.specs.Named.{Word}
use Rattle.vx_pages.specs.declared.local_piece.LocalPiece.{Ghosts}
use Rattle.vx_piece.specs.Seen.{Seen}
use Rattle.vx_carve.specs.Together.{SameSectors, covers}
use Rattle.vx_config_parts.specs.declared.disk.Disk.{Disk}
use Rattle.vx_objects.specs.declared.config.Config.{Config}
use Rattle.vx_fronts.specs.Rests.{AllTell}
use Rattle.vx_lending.specs.declared.public.Public.{Public}
use Rattle.vx_lending.specs.Public.{lent_pieces, still_pieces}
use Rattle.vx_group_start.specs.Laying.{AreStuckVolumes}
use Rattle.vx_group_volumes.specs.Disks.{AreCalled}
use Rattle.vx_group_volumes.specs.Places.{IsOwnSector}
use Rattle.vx_house.specs.declared.house.Imported.{Imported}

-- the pieces behind the fronts of a group
abbrev pub behind_of : {P : Type 0} {ghosts : Ghosts P} → (P → Seen) → Public P ghosts → List Seen
behind_of see p = still_pieces see p ++ lent_pieces see p

-- These pieces of the group were called, and are those afterwards; the others were not. All else of the group is as before, but for how its
-- pieces are cut, and who has them. The volumes that run are those that ran.
pub record IsTouchedIn {P : Type 0} {ghosts : Ghosts P} (see : P → Seen) (held held' : List Seen) (old : Imported P ghosts) (public : Public P ghosts) : Type 0 where
  pub running : public.running.entries ≡ old.public.running.entries
  pub stuck : AreStuckVolumes see public.stuck.items
  pub others : List Seen
  pub were : SameSectors (behind_of see old.public) (others ++ held)
  pub are : SameSectors (others ++ held') (behind_of see public)
  pub called : AreCalled held held'
  pub tells : AllTell held → AllTell held'

-- each sector of these pieces is one of the volume's, by the numbers of these disks
abbrev pub AreOwnSectors : Config → Word → List Disk → List ℕ → List Seen → Type 0
AreOwnSectors c vol disks numbers held = (device k : ℕ) → list_any (covers device k) held ≡ true → IsOwnSector c vol disks numbers device k
