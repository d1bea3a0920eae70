-- What a volume that is put back leaves, and what a new log that is refused leaves.
use Rattle.std.specs.Prelude.{◌≡◌, ◌++◌, ℕ, Bool, true, List, map}
use Rattle.vx_base.specs.Counts.{Rose}
use Rattle.vx_piece.specs.Seen.{Seen}
use Rattle.vx_carve.specs.declared.pool.Pool.{Pool}
use Rattle.vx_pages.specs.declared.local_piece.LocalPiece.{Ghosts}
use Rattle.vx_cell.specs.Changes.{CellSeen}
use Rattle.vx_cell.specs.Plexes.{PlexSeen}
use Rattle.vx_maps.specs.declared.fault.StoreFault.{StoreFault}
use Rattle.vx_maps.specs.declared.fault.StoreFault.TheVariants.{OutOfMemory, NoCopy, Failed, PowerLost}
use Rattle.vx_maps.specs.Copies.{SameRuns}
use Rattle.vx_maps.specs.Creating.{copies_cut}
use Rattle.vx_maps.specs.Cutness.{store_cut}
use Rattle.vx_maps.specs.Spares.{copies_seen}
use Rattle.vx_maps.specs.Wholes.{copy_faults, store_copies, store_faults}
use Rattle.vx_volume.specs.declared.volume.Volume.{Volume}
use Rattle.vx_volume.specs.Volume.{log_of, shape_of, volume_seen}
use Rattle.vx_lending.specs.RegionPieces.{all_pieces, cell_plexes}
use Rattle.vx_lending.specs.declared.left.VolumeLeft.{VolumeLeft}
use Rattle.vx_lending.specs.declared.left.VolumeLeft.TheVariants.{Parts, Whole}
use Rattle.vx_lending.specs.declared.left.LogLeft.{LogLeft}
use Rattle.vx_lending.specs.declared.left.LogLeft.TheVariants.{Copies, Store}
use Rattle.vx_lending.specs.Pieces.{copy_pieces}
use Rattle.vx_lending.specs.Logs.{log_pieces}

-- the plexes of each region
abbrev pub region_plexes : List CellSeen → List (List PlexSeen)
region_plexes cells = map (λ (cell : CellSeen). cell.plexes) cells

-- the pieces of a volume: those of its regions, and of its log
abbrev pub held_pieces : {P : Type 0} {ghosts : Ghosts P} → (P → Seen) → Volume P ghosts → List Seen
held_pieces seen volume = all_pieces (region_plexes (volume_seen seen volume).cells) ++ log_pieces seen (log_of volume)

-- the pieces that are left
abbrev pub left_pieces : {P : Type 0} {ghosts : Ghosts P} → (P → Seen) → VolumeLeft P ghosts → List Seen
left_pieces seen (Whole volume) = held_pieces seen volume
left_pieces seen (Parts cells copies) = all_pieces (cell_plexes seen cells.items) ++ copy_pieces (copies_seen seen copies.items)

-- the volume is left as it was
abbrev pub IsWholeLeft : {P : Type 0} {ghosts : Ghosts P} → (P → Seen) → Volume P ghosts → VolumeLeft P ghosts → Type 0
IsWholeLeft seen old (Whole new) = (volume_seen seen new ≡ volume_seen seen old) × (log_of new ≡ log_of old) × (shape_of new ≡ shape_of old)
IsWholeLeft seen old (Parts cells copies) = ⊥

-- if all of it is left, then as it was
abbrev pub IsLeftOf : {P : Type 0} {ghosts : Ghosts P} → (P → Seen) → Volume P ghosts → VolumeLeft P ghosts → Type 0
IsLeftOf seen old (Whole new) = IsWholeLeft seen old (Whole new)
IsLeftOf seen old (Parts cells copies) = Unit {0}

-- if all of it is left, then the pool is as it was
abbrev pub StaysWhole : {P : Type 0} {ghosts : Ghosts P} → VolumeLeft P ghosts → Pool P → Pool P → Type 0
StaysWhole (Whole new) old now = now ≡ old
StaysWhole (Parts cells copies) old now = Unit {0}

-- not all of it is left
abbrev pub AreParts : {P : Type 0} {ghosts : Ghosts P} → VolumeLeft P ghosts → Type 0
AreParts (Whole new) = ⊥
AreParts (Parts cells copies) = Unit {0}

-- ---- a new log

-- the copies, as they are or in the store
abbrev pub left_copies : {P : Type 0} {ghosts : Ghosts P} → (P → Seen) → LogLeft P ghosts → List (List Seen)
left_copies seen (Copies copies) = copies_seen seen copies.items
left_copies seen (Store store) = store_copies seen store

-- how often calls on the pieces of a copy have failed, by the device
abbrev pub left_faults : {P : Type 0} {ghosts : Ghosts P} → (P → Seen) → LogLeft P ghosts → ℕ → ℕ → ℕ
left_faults seen (Copies copies) = copy_faults (copies_seen seen copies.items)
left_faults seen (Store store) = store_faults seen store

-- the power of a piece is gone
abbrev pub left_cut : {P : Type 0} {ghosts : Ghosts P} → (P → Seen) → LogLeft P ghosts → Bool
left_cut seen (Copies copies) = copies_cut (copies_seen seen copies.items)
left_cut seen (Store store) = store_cut seen store

-- Why there is no new log: for want of memory, and then its copies are the same runs; `Failed` only where the count of that copy's pieces
-- on that device rose; `PowerLost` only where a piece is cut.
abbrev pub IsNotFresh : StoreFault → List (List Seen) → List (List Seen) → (ℕ → ℕ → ℕ) → Bool → Type 0
IsNotFresh OutOfMemory old new counts cut = SameRuns old new
IsNotFresh NoCopy old new counts cut = ⊥
IsNotFresh (Failed copy device) old new counts cut = Rose (copy_faults old copy device) (counts copy device)
IsNotFresh PowerLost old new counts cut = cut ≡ true
