-- A plex that is parked before it joins: in the world nothing has changed, and once its map is marked it may join.
use Rattle.std.specs.Prelude.{◌≡◌, ℕ, ◌<◌, ◌≤◌, true, is_some, List, [], ◌∷◌, Some, length}
use Rattle.vx_mask.specs.Mask.{has}
use Rattle.vx_block.specs.Regions.{region_count}
use Rattle.vx_base.specs.Named.{Word}
use Rattle.vx_piece.specs.Seen.{Seen}
use Rattle.vx_pages.specs.declared.local_piece.LocalPiece.{Ghosts}
use Rattle.vx_carve.specs.Together.{SameSectors}
use Rattle.vx_layout.specs.declared.layout.Layout.{Layout}
use Rattle.vx_volume.specs.Changing.{HaveRoom, IsFreeIn}
use Rattle.vx_volume.specs.Opening.{regions_seen}
use Rattle.vx_volume.specs.Volume.{cell_at, volume_seen}
use Rattle.vx_lending.specs.RegionsTaken.{AreTakenRegions}
use Rattle.vx_config_parts.specs.declared.vol.Vol.{Vol}
use Rattle.vx_objects.specs.declared.config.Config.{Config}
use Rattle.vx_copies.specs.Disks.{DiskSeen}
use Rattle.vx_lending.specs.declared.public.Public.{Public}
use Rattle.vx_lending.specs.declared.public.Remains.{Remains}
use Rattle.vx_lending.specs.declared.public.Running.{Running}
use Rattle.vx_lending.specs.Public.{still_pieces}
use Rattle.vx_plex_pieces.specs.Parked.{IsParked}
use Rattle.vx_house.specs.Runs.{IsInPlace}
use Rattle.vx_house.specs.View.{IsGroupKept}
use Rattle.vx_house.specs.declared.house.Imported.{Imported}
use Rattle.vx_stage_volumes.specs.Parting.{PartsGroup}
use Rattle.vx_stage_mirrors.specs.Joining.{MayJoin}

-- ---- the house

-- what lies still lies otherwise: the pool and what is left over have together each sector that they had
pub record LiesOtherwise {P : Type 0} {ghosts : Ghosts P} (see : P → Seen) (old new : Imported P ghosts) : Type 0 where
  pub group : new ≡ record old { public = record old.public { pool = new.public.pool; left = new.public.left } }
  pub still : SameSectors (still_pieces see old.public) (still_pieces see new.public)

-- The group is the same one then, with other parts of its devices.
abbrev pub EachParkingParts : {P : Type 0} {ghosts : Ghosts P} → (P → Seen) → Imported P ghosts → Imported P ghosts → Type 0
EachParkingParts {P = P} see old new = ((p q : P) → is_some (see p).told ≡ is_some (see q).told) → IsGroupKept see old → LiesOtherwise see old new → PartsGroup see old new

-- ---- the volume

-- the map is free in the volume, each region is marked for a plex with it, and has room for one
pub record IsMarkedFor {P : Type 0} {ghosts : Ghosts P} (see : P → Seen) (m : ℕ) (r : Running P ghosts) : Type 0 where
  pub free : IsFreeIn m (volume_seen see r.volume)
  pub marked : (k : ℕ) → k < length (volume_seen see r.volume).cells → has (cell_at (volume_seen see r.volume) k).stage.bits m ≡ true
  pub room : HaveRoom r.volume

-- what is left over last may join the running volume, and was taken by the layout for a volume of these blocks and regions
pub record MayJoinAs {P : Type 0} {ghosts : Ghosts P} (see : P → Seen) (numbers : List ℕ) (m : ℕ) (l : Layout) (v : Vol) (room : ℕ) (left : List (Remains P ghosts)) (r : Running P ghosts) : Type 0 where
  pub may : MayJoin see m room left (Some r)
  pub taken : AreTakenRegions numbers (m ∷ []) (l ∷ []) v.len v.region (regions_seen see may.last.regions.items)

-- A plex that was parked by the form of a running volume, in its place and marked for it, may join it.
abbrev pub EachParkedPlexMayJoin : {P : Type 0} {ghosts : Ghosts P} → (P → Seen) → Public P ghosts → Public P ghosts → Running P ghosts → Type 0
EachParkedPlexMayJoin see old new r =
    (numbers : List ℕ) (m : ℕ) (l : Layout) → IsParked see numbers m l r.form.shape.geometry old new →
    (hs : List DiskSeen) (c : Config) (good : ℕ) (name : Word) (is : IsInPlace see hs c good name r) → IsMarkedFor see m r →
    (room : ℕ) → region_count r.form.shape.geometry.length r.form.shape.geometry.region ≤ room → MayJoinAs see numbers m l is.of room new.left.items r
