-- What the log of a volume is as it is loaded, or made new.
use Rattle.std.specs.Prelude.{◌≡◌, ◌&&◌, ℕ, nat_lt, Bool, true, false, List, [], Option, Some, None}
use Rattle.vx_block.specs.Regions.{region_count}
use Rattle.vx_block.specs.declared.geometry.Geometry.{Geometry}
use Rattle.vx_mask.specs.Mask.{has}
use Rattle.vx_mask.specs.Marks.{Marks}
use Rattle.vx_mapfmt.specs.Header.{maps_header}
use Rattle.vx_piece.specs.Seen.{Seen}
use Rattle.vx_pages.specs.declared.local_piece.LocalPiece.{Ghosts}
use Rattle.vx_maps.specs.Creating.{AllBeginWith, AllTell}
use Rattle.vx_maps.specs.Loading.{IsLoaded}
use Rattle.vx_maps.specs.Stores.{shape_of, store_seen}
use Rattle.vx_maps.specs.Wholes.{store_copies, store_faults}
use Rattle.vx_maps.specs.declared.store.MapStore.{MapStore}
use Rattle.vx_volume.specs.declared.log.VolumeLog.{VolumeLog}
use Rattle.vx_volume.specs.declared.log.VolumeLog.TheVariants.{Absent, Maps}
use Rattle.vx_lending.specs.Pieces.{copy_pieces}

-- the copies of a log
abbrev pub log_copies : {P : Type 0} {ghosts : Ghosts P} → (P → Seen) → VolumeLog P ghosts → List (List Seen)
log_copies seen Absent = []
log_copies seen (Maps store) = store_copies seen store

-- their pieces
abbrev pub log_pieces : {P : Type 0} {ghosts : Ghosts P} → (P → Seen) → VolumeLog P ghosts → List Seen
log_pieces seen log = copy_pieces (log_copies seen log)

-- the header of the maps of a volume
abbrev pub log_header : Geometry → List ℕ
log_header geometry = maps_header geometry.length geometry.region 32

-- there is a log where there are copies, and it was loaded from them
abbrev pub IsLoadedLog : {P : Type 0} {ghosts : Ghosts P} → (P → Seen) → Geometry → List (List Seen) → VolumeLog P ghosts → Type 0
IsLoadedLog seen geometry old Absent = old ≡ []
IsLoadedLog seen geometry old (Maps store) =
    ((shape_of store).geometry ≡ geometry) × IsLoaded (log_header geometry) (region_count geometry.length geometry.region) old (store_faults seen store) (store_copies seen store) (store_seen seen store)

-- ---- a new log

-- the marks are told: of each region each copy shows just these maps, and nothing is loose
abbrev pub AreShown : (ℕ → Bool) → (ℕ → Bool) → Option (ℕ → Marks) → Type 0
AreShown maps known None = ⊥
AreShown maps known (Some marks) = (region : ℕ) → known region ≡ true → ((n k : ℕ) → (marks region).shows n k ≡ maps k) × ((k : ℕ) → (marks region).loose k ≡ false)

-- the maps of a mask that a log has
abbrev pub marked_maps : ℕ → ℕ → Bool
marked_maps mask map = nat_lt map 32 && has mask map

-- There is a log where there are copies: of each region just the maps of the mask are claimed and shown, nothing is loose, and each copy
-- begins with the header.
pub record IsFreshStore {P : Type 0} {ghosts : Ghosts P} (seen : P → Seen) (geometry : Geometry) (mask : ℕ) (old : List (List Seen)) (store : MapStore P ghosts) : Type 0 where
  pub geometry_is : (shape_of store).geometry ≡ geometry
  pub claims : (region map : ℕ) → (store_seen seen store).has_region region ≡ true → (store_seen seen store).claims region map ≡ marked_maps mask map
  pub told : AllTell old → AreShown (marked_maps mask) (store_seen seen store).has_region (store_seen seen store).told
  pub heads : AllBeginWith (log_header geometry) (store_copies seen store)

abbrev pub IsFreshLog : {P : Type 0} {ghosts : Ghosts P} → (P → Seen) → Geometry → ℕ → List (List Seen) → VolumeLog P ghosts → Type 0
IsFreshLog seen geometry mask old Absent = old ≡ []
IsFreshLog seen geometry mask old (Maps store) = IsFreshStore seen geometry mask old store
