-- Maps are marked in all regions of a store.
use Rattle.std.specs.Prelude.{◌≡◌, ◌&&◌, ◌||◌, ◌==◌, ℕ, Bool, true, false}
use Rattle.vx_base.specs.Counts.{Rose}
use Rattle.vx_mask.specs.Mask.{has}
use Rattle.vx_piece.specs.Seen.{Seen}
use Rattle.vx_marks.specs.Log.{KeepsLog}
use Rattle.vx_pages.specs.declared.local_piece.LocalPiece.{Ghosts}
use Rattle.vx_pages.specs.Sector.{KeepsPiece}
use Rattle.vx_maps.specs.declared.fault.StoreFault.{StoreFault}
use Rattle.vx_maps.specs.declared.fault.StoreFault.TheVariants.{OutOfMemory, NoCopy, Failed, PowerLost}
use Rattle.vx_maps.specs.declared.store.MapStore.{MapStore}
use Rattle.vx_maps.specs.Going.{StoreGoes}
use Rattle.vx_maps.specs.Stores.{store_seen}
use Rattle.vx_lending.specs.Logs.{AreShown, marked_maps}

-- the map, if the mask has it
abbrev pub one_map : ℕ → ℕ → ℕ → Bool
one_map mask map k = k == map && has mask k

-- One map is marked in all regions, if the mask has it: of each region it is claimed and shown besides.
pub record IsMarkedOne {P : Type 0} {ghosts : Ghosts P} (seen : P → Seen) (mask map : ℕ) (old new : MapStore P ghosts) : Type 0 where
  pub kept : KeepsLog (store_seen seen old) (store_seen seen new)
  pub base : new.base ≡ old.base
  pub claims : (region k : ℕ) → (store_seen seen old).has_region region ≡ true → (store_seen seen new).claims region k ≡ ((store_seen seen old).claims region k || one_map mask map k)
  pub shown : (maps : ℕ → Bool) → AreShown maps (store_seen seen old).has_region (store_seen seen old).told → AreShown (λ k. maps k || one_map mask map k) (store_seen seen old).has_region (store_seen seen new).told

-- Each map of a mask is marked in all regions of a store of which nothing was marked.
pub record IsMarkedAll {P : Type 0} {ghosts : Ghosts P} (seen : P → Seen) (mask : ℕ) (old new : MapStore P ghosts) : Type 0 where
  pub kept : KeepsLog (store_seen seen old) (store_seen seen new)
  pub base : new.base ≡ old.base
  pub claims : (region map : ℕ) → (store_seen seen old).has_region region ≡ true → (store_seen seen new).claims region map ≡ marked_maps mask map
  pub shown : AreShown (λ map. false) (store_seen seen old).has_region (store_seen seen old).told → AreShown (marked_maps mask) (store_seen seen old).has_region (store_seen seen new).told
  pub goes : StoreGoes seen KeepsPiece old new

-- why that failed, by what the copies had counted
abbrev pub IsMarkRefused : StoreFault → (ℕ → ℕ → ℕ) → (ℕ → ℕ → ℕ) → Bool → Type 0
IsMarkRefused OutOfMemory old new cut = ⊥
IsMarkRefused NoCopy old new cut = ⊥
IsMarkRefused (Failed copy device) old new cut = Rose (old copy device) (new copy device)
IsMarkRefused PowerLost old new cut = cut ≡ true
