-- Disks are taken in as those of the imported group.
use Rattle.std.specs.declared.alloc.Global.{Global}
use Rattle.std.specs.Prelude.{◌≡◌, ℕ, Vec, List, [], Some, None, Result, Ok, Err}
use Rattle.vx_pages.specs.declared.local_piece.LocalPiece.{Ghosts}
use Rattle.vx_base.specs.Named.{Word}
use Rattle.vx_piece.specs.Seen.{Seen}
use Rattle.vx_copies.specs.declared.disk.Disk.{Disk}
use Rattle.vx_confdb.specs.declared.group.Group.{Group}
use Rattle.vx_import.specs.declared.judging.Given.{Given}
use Rattle.vx_objects.specs.declared.config.Config.{Config}
use Rattle.vx_lending.specs.Public.{lent_pieces, still_pieces}
use Rattle.vx_lending.specs.declared.public.Public.{Public}
use Rattle.vx_house.specs.Closing.{GivesBack}
use Rattle.vx_house.specs.Scene.{Shelved}
use Rattle.vx_house.specs.View.{IsGroupIdle}
use Rattle.vx_house.specs.declared.house.House.{House}
use Rattle.vx_house.specs.declared.stop.Stop.{Stop}
use Rattle.vx_house.specs.declared.stop.Stop.TheVariants as stops
use Rattle.vx_stage_changes.specs.Committing.{CommitEnds}
use Rattle.vx_stage_import.specs.Giving.{disk_holders}

-- the group of the disks, with the text that they give
abbrev pub group_with : {P : Type 0} → Word → Given → Vec (Disk P) Global → Group P
group_with dg g ds = record { name = dg; disks = ds; sequence = g.sequence; text = g.text; lost = None }

-- The disks are those of the group of the house, as the commit has left them.
pub record IsTakenIn {P : Type 0} {ghosts : Ghosts P} (see : P → Seen) (dg : Word) (g : Given) (config : Config) (text : List ℕ) (ds : Vec (Disk P) Global) (result : Result (Unit {0}) Stop) (old : Shelved) (h : House P ghosts) (new : Shelved) (k : House P ghosts) : Type 0 where
  pub base : Group P
  pub ends : CommitEnds see result text (group_with dg g ds) base
  -- none of them is parted
  pub public : Public P ghosts
  pub still : still_pieces see public ≡ []
  pub lent : lent_pieces see public ≡ []
  pub idle : IsGroupIdle (record { config = config; base = base; public = public })
  pub house_is : k ≡ record { volumes = h.volumes; group = Some (record { config = config; base = base; public = public }); hand = h.hand }
  pub shelf_is : new ≡ old

-- for want of memory the disks are back
pub record IsTurnedAway {P : Type 0} {ghosts : Ghosts P} (see : P → Seen) (ds : Vec (Disk P) Global) (old : Shelved) (h : House P ghosts) (new : Shelved) (k : House P ghosts) : Type 0 where
  pub back : GivesBack (disk_holders see ds.items) old new
  pub house_is : k ≡ h

-- the disks are taken in; or, for want of memory, they are back
abbrev pub TakesIn : {P : Type 0} {ghosts : Ghosts P} → (P → Seen) → Word → Given → Config → List ℕ → Vec (Disk P) Global → Result (Unit {0}) Stop → Shelved → House P ghosts → Shelved → House P ghosts → Type 0
TakesIn see dg g config text ds (Ok u) old h new k = IsTakenIn see dg g config text ds (Ok u) old h new k
TakesIn see dg g config text ds (Err (stops.Ended end)) old h new k = IsTakenIn see dg g config text ds (Err (stops.Ended end)) old h new k
TakesIn see dg g config text ds (Err stops.OutOfMemory) old h new k = IsTurnedAway see ds old h new k
