-- How the pieces of a store go on, wherever they stand in it.
use Rattle.std.specs.Prelude.{◌≡◌, ℕ, List, [], ◌∷◌, length, map, Option, Some, None}
use Rattle.vx_piece.specs.Seen.{Seen}
use Rattle.vx_runs.specs.Run.{EachPiece}
use Rattle.vx_pages.specs.declared.local_piece.LocalPiece.{Ghosts}
use Rattle.vx_pages.specs.declared.page.Page.{Page}
use Rattle.vx_pages.specs.Items.{EachItem}
use Rattle.vx_pages.specs.Sector.{SectorSeen, KeepsPiece}
use Rattle.vx_pages.specs.Pages.{RowGoes, grid_seen}
use Rattle.vx_maps.specs.Copies.{SameRuns}
use Rattle.vx_maps.specs.Slots.{SheetsSeen, slot_at}
use Rattle.vx_maps.specs.Sheets.{sheets_seen}
use Rattle.vx_maps.specs.declared.store.MapStore.{MapStore}

-- a read keeps what the piece holds
pub record ReadsPiece (old new : Seen) : Type 0 where
  pub kept : KeepsPiece old new
  pub told : new.told ≡ old.told

-- a piece goes on so, and a hole stays one
abbrev pub SlotGoes : (Seen → Seen → Type 0) → Option Seen → Option Seen → Type 0
SlotGoes rel None None = Unit {0}
SlotGoes rel (Some p) (Some q) = rel p q
SlotGoes rel _ _ = ⊥

pub record SlotsGo (rel : Seen → Seen → Type 0) (old new : List (Option Seen)) : Type 0 where
  pub size : length new ≡ length old
  pub each : (k : ℕ) → SlotGoes rel (slot_at old k) (slot_at new k)

abbrev pub SecondGoes : (Seen → Seen → Type 0) → Option (List (Option Seen)) → Option (List (Option Seen)) → Type 0
SecondGoes rel None None = Unit {0}
SecondGoes rel (Some x) (Some y) = SlotsGo rel x y
SecondGoes rel _ _ = ⊥

pub record SheetsGo (rel : Seen → Seen → Type 0) (old new : SheetsSeen) : Type 0 where
  pub first : SlotsGo rel old.first new.first
  pub second : SecondGoes rel old.second new.second

abbrev pub GridGoes : (Seen → Seen → Type 0) → List (List SectorSeen) → List (List SectorSeen) → Type 0
GridGoes rel old new = EachItem [] (λ i. RowGoes rel) old new

-- where a page stands: its index, and the regions of its volume
pub record PlaceOf : Type 0 where
  pub index : ℕ
  pub regions : ℕ

abbrev pub places_of : {P : Type 0} {ghosts : Ghosts P} → List (Page P ghosts) → List PlaceOf
places_of pages = map (λ page. record { index = page.index; regions = page.regions }) pages

-- the store is of the same volume, and each of its pieces goes on so
pub record StoreGoes {P : Type 0} {ghosts : Ghosts P} (seen : P → Seen) (rel : Seen → Seen → Type 0) (old new : MapStore P ghosts) : Type 0 where
  pub shape : new.base.shape ≡ old.base.shape
  pub places : places_of new.pages.items ≡ places_of old.pages.items
  pub sheets : SheetsGo rel (sheets_seen seen old.base.sheets) (sheets_seen seen new.base.sheets)
  pub grid : GridGoes rel (grid_seen seen old.pages.items) (grid_seen seen new.pages.items)

-- each piece of each copy goes on so
abbrev pub CopiesGo : (Seen → Seen → Type 0) → List (List Seen) → List (List Seen) → Type 0
CopiesGo rel [] [] = Unit {0}
CopiesGo rel (x ∷ xs) (y ∷ ys) = EachPiece rel x y × CopiesGo rel xs ys
CopiesGo rel _ _ = ⊥

-- each copy was cut, perhaps, and is then the same run; and each of its pieces goes on so
pub record CutCopiesGo (rel : Seen → Seen → Type 0) (old new : List (List Seen)) : Type 0 where
  pub cut : List (List Seen)
  pub same : SameRuns old cut
  pub goes : CopiesGo rel cut new
