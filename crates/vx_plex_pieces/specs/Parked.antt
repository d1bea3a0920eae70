-- A plex that lies among what is left over.
use Rattle.std.specs.Prelude.{◌≡◌, ℕ, List, [], ◌∷◌, ◌++◌, length}
use Rattle.std.specs.Global.{Vec}
use Rattle.vx_block.specs.Regions.{region_count}
use Rattle.vx_block.specs.declared.geometry.Geometry.{Geometry}
use Rattle.vx_piece.specs.Seen.{Seen}
use Rattle.vx_pages.specs.declared.local_piece.LocalPiece.{Ghosts}
use Rattle.vx_layout.specs.declared.layout.Layout.{Layout}
use Rattle.vx_cell.specs.declared.plex.Plex.{Plex}
use Rattle.vx_volume.specs.Opening.{regions_seen}
use Rattle.vx_lending.specs.RegionsTaken.{AreTakenRegions}
use Rattle.vx_lending.specs.Left.{left_copies}
use Rattle.vx_lending.specs.declared.public.Public.{Public}
use Rattle.vx_lending.specs.declared.public.Remains.{Remains}

-- there are no copies of a log
abbrev pub IsWithoutLog : {P : Type 0} {ghosts : Ghosts P} → (P → Seen) → Remains P ghosts → Type 0
IsWithoutLog see r = left_copies see r.log ≡ []

-- Behind what was left over are these regions, without a log.
pub record HasParked {P : Type 0} {ghosts : Ghosts P} (see : P → Seen) (regions : List (Vec (Plex P))) (old new : Public P ghosts) : Type 0 where
  pub last : Remains P ghosts
  pub left : new.left.items ≡ old.left.items ++ last ∷ []
  pub regions_are : last.regions.items ≡ regions
  pub without : IsWithoutLog see last

-- A plex is parked: behind what was left over is one of this layout with its map, region by region, without a log.
pub record IsParked {P : Type 0} {ghosts : Ghosts P} (see : P → Seen) (numbers : List ℕ) (own : ℕ) (layout : Layout) (geometry : Geometry) (old new : Public P ghosts) : Type 0 where
  pub last : Remains P ghosts
  pub left : new.left.items ≡ old.left.items ++ last ∷ []
  pub long : length last.regions.items ≡ region_count geometry.length geometry.region
  pub regions : AreTakenRegions numbers (own ∷ []) (layout ∷ []) geometry.length geometry.region (regions_seen see last.regions.items)
  pub without : IsWithoutLog see last

-- the last of what is left over has no log
pub record EndsInPlex {P : Type 0} {ghosts : Ghosts P} (see : P → Seen) (left : List (Remains P ghosts)) : Type 0 where
  pub before : List (Remains P ghosts)
  pub last : Remains P ghosts
  pub left_is : left ≡ before ++ last ∷ []
  pub without : IsWithoutLog see last

-- the regions are those of the last of what was left over, and what was before it is left
abbrev pub IsUnparked : {P : Type 0} {ghosts : Ghosts P} → Vec (Vec (Plex P)) → (old new : List (Remains P ghosts)) → Type 0
IsUnparked regions old new = (before : List (Remains _ _)) (last : Remains _ _) → old ≡ before ++ last ∷ [] → (regions ≡ last.regions) × (new ≡ before)
