-- A power switch that is set keeps the places of a volume.
use Rattle.std.proofs.Common.{◌≡◌, ℕ, List, Option, Some, None, refl, sym, ap, subst, ◌∙◌}
use Rattle.vx_block.specs.declared.geometry.Geometry.{Geometry}
use Rattle.vx_piece.specs.Seen.{Seen}
use Rattle.vx_runs.specs.Run.{IsArmed}
use Rattle.vx_core.specs.Follow.{SameMasks}
use Rattle.vx_cell.specs.Changes.{CellSeen}
use Rattle.vx_pages.specs.declared.local_piece.LocalPiece.{Ghosts}
use Rattle.vx_pages.specs.Pages.{grid_seen}
use Rattle.vx_pages.specs.Sector.{SectorSeen}
use Rattle.vx_maps.specs.declared.store.MapStore.{MapStore}
use Rattle.vx_maps.specs.Going.{CopiesGo, GridGoes, SecondGoes, SheetsGo, SlotGoes, SlotsGo, StoreGoes}
use Rattle.vx_maps.specs.Sheets.{sheets_seen}
use Rattle.vx_maps.specs.Slots.{SheetsSeen, slot_at}
use Rattle.vx_maps.proofs.CopyLaws.{store_goes}
use Rattle.vx_volume.specs.declared.log.VolumeLog.{VolumeLog}
use Rattle.vx_volume.specs.declared.log.VolumeLog.TheVariants.{Absent, Maps}
use Rattle.vx_volume.specs.declared.volume.Volume.{Volume}
use Rattle.vx_volume.specs.Arming.{LogArmed, VolumeArmed}
use Rattle.vx_volume.specs.Log.{log_seen}
use Rattle.vx_volume.specs.Volume.{cell_at, log_of, volume_seen}
use Rattle.vx_lending.specs.Logs.{log_copies}
use Rattle.vx_volume_laws.specs.Places.{IsSamePlace}
use Rattle.vx_volume_laws.specs.Lying.{IsLogFor}
use Rattle.vx_volume_laws.specs.Calls.{KeepsPlaces}
use Rattle.vx_volume_laws.proofs.Keepings.{masks_same}
use Rattle.vx_volume_laws.proofs.Stays.{place_armed, place_same, stay_armed}

-- ---- a store

module _ (rel rel' : Seen → Seen → Type 0) (weaker : (p q : Seen) → rel p q → rel' p q) where
  slot_weaker : (x y : Option Seen) → SlotGoes rel x y → SlotGoes rel' x y
  slot_weaker None None h = tt
  slot_weaker None (Some q) h = absurd h
  slot_weaker (Some p) None h = absurd h
  slot_weaker (Some p) (Some q) h = weaker p q h

  slots_weaker : (xs ys : List (Option Seen)) → SlotsGo rel xs ys → SlotsGo rel' xs ys
  slots_weaker xs ys h = record { size = h.size; each = λ k. slot_weaker (slot_at xs k) (slot_at ys k) (h.each k) }

  second_weaker : (x y : Option (List (Option Seen))) → SecondGoes rel x y → SecondGoes rel' x y
  second_weaker None None h = tt
  second_weaker None (Some ys) h = absurd h
  second_weaker (Some xs) None h = absurd h
  second_weaker (Some xs) (Some ys) h = slots_weaker xs ys h

  sheets_weaker : (s t : SheetsSeen) → SheetsGo rel s t → SheetsGo rel' s t
  sheets_weaker s t h = record { first = slots_weaker s.first t.first h.first; second = second_weaker s.second t.second h.second }

  grid_weaker : (xs ys : List (List SectorSeen)) → GridGoes rel xs ys → GridGoes rel' xs ys
  grid_weaker xs ys h =
      record {
        size = h.size;
        each = λ i lt.
            let row = h.each i lt in
            record { size = row.size; each = λ m lt'. let pieces = row.each m lt' in record { pair = pieces.pair; each = λ n. weaker _ _ (pieces.each n) } };
      }

  store_weaker : {P : Type 0} {ghosts : Ghosts P} (old new : MapStore P ghosts) → StoreGoes ghosts.seen rel old new → StoreGoes ghosts.seen rel' old new
  store_weaker {ghosts = ghosts} old new h =
      record {
        shape = h.shape;
        places = h.places;
        sheets = sheets_weaker (sheets_seen ghosts.seen old.base.sheets) (sheets_seen ghosts.seen new.base.sheets) h.sheets;
        grid = grid_weaker (grid_seen ghosts.seen old.pages.items) (grid_seen ghosts.seen new.pages.items) h.grid;
      }

-- ---- a log

module _ {P : Type 0} {ghosts : Ghosts P} (stop : Option ℕ) where
  log_armed : (old new : VolumeLog P ghosts) → LogArmed ghosts.seen stop old new → CopiesGo IsSamePlace (log_copies ghosts.seen old) (log_copies ghosts.seen new) × ((geometry : Geometry) → IsLogFor geometry old → IsLogFor geometry new)
  log_armed Absent Absent armed = (tt, λ geometry fits. fits)
  log_armed Absent (Maps new) armed = absurd armed
  log_armed (Maps old) Absent armed = absurd armed
  log_armed (Maps old) (Maps new) armed = (store_goes IsSamePlace place_same old new (store_weaker (IsArmed stop) IsSamePlace (place_armed stop) old new armed.0), λ geometry fits. ap (λ shape. shape.geometry) armed.0.shape ∙ fits)

  there_still : (old new : VolumeLog P ghosts) → LogArmed ghosts.seen stop old new → (log_seen ghosts.seen new).there ≡ (log_seen ghosts.seen old).there
  there_still Absent Absent armed = refl
  there_still Absent (Maps new) armed = absurd armed
  there_still (Maps old) Absent armed = absurd armed
  there_still (Maps old) (Maps new) armed = refl

  pub volume_armed : (old new : Volume P ghosts) → VolumeArmed ghosts.seen stop old new → KeepsPlaces (volume_seen ghosts.seen old) (volume_seen ghosts.seen new)
  volume_armed old new armed =
      record {
        length_is = ap (λ (v : Volume P ghosts). v.shape.geometry.length) armed.same;
        region_is = ap (λ (v : Volume P ghosts). v.shape.geometry.region) armed.same;
        count = armed.cells.size;
        plexes = λ r lt. stay_armed stop (cell_at (volume_seen ghosts.seen old) r).plexes (cell_at (volume_seen ghosts.seen new) r).plexes (armed.cells.each r lt).plexes;
        masks = λ r lt.
            let same = ap (λ (x : CellSeen). x.stage) (armed.cells.each r lt).same in
            subst (λ s. SameMasks (cell_at (volume_seen ghosts.seen old) r).stage s) (sym same) (masks_same (cell_at (volume_seen ghosts.seen old) r).stage);
        there = there_still old.log new.log armed.log;
      }

  pub copies_armed : (old new : Volume P ghosts) → VolumeArmed ghosts.seen stop old new → CopiesGo IsSamePlace (log_copies ghosts.seen (log_of old)) (log_copies ghosts.seen (log_of new)) × ((geometry : Geometry) → IsLogFor geometry (log_of old) → IsLogFor geometry (log_of new))
  copies_armed old new armed = log_armed old.log new.log armed.log
