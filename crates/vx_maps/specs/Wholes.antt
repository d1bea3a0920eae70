-- What a store is made of: the pieces of each copy, in order.
use Rattle.std.specs.Prelude.{ℕ, zero, suc, ◌+◌, ◌/◌, List, [], Option, Some, None}
use Rattle.std.specs.Option.{option_map}
use Rattle.vx_piece.specs.Seen.{Seen}
use Rattle.vx_cut.specs.Same.{counted}
use Rattle.vx_pages.specs.declared.local_piece.LocalPiece.{Ghosts}
use Rattle.vx_pages.specs.Items.{item_at}
use Rattle.vx_pages.specs.Sector.{SectorSeen}
use Rattle.vx_pages.specs.Pages.{grid_seen}
use Rattle.vx_maps.specs.Sheets.{sheets_seen}
use Rattle.vx_maps.specs.Slots.{SheetsSeen, filled, slots_faults, grid_faults}
use Rattle.vx_maps.specs.Copies.{copies_list}
use Rattle.vx_maps.specs.declared.store.MapStore.{MapStore}

-- the pieces of each copy: those between pages, and in their places those of pages
abbrev pub whole_copies : ℕ → List (List SectorSeen) → SheetsSeen → List (List Seen)
whole_copies size pages sheets = copies_list (filled size 0 pages 0 sheets.first) (option_map (filled size 1 pages 0) sheets.second)

abbrev pub store_copies : {P : Type 0} {ghosts : Ghosts P} → (P → Seen) → MapStore P ghosts → List (List Seen)
store_copies seen store = whole_copies (store.base.shape.map_bytes / 512) (grid_seen seen store.pages.items) (sheets_seen seen store.base.sheets)

-- what the pieces of a copy have counted on a device
abbrev pub copy_faults : List (List Seen) → ℕ → ℕ → ℕ
copy_faults copies copy device = counted (λ p. p.faults) device (item_at [] copies copy)

abbrev pub second_faults : ℕ → Option (List (Option Seen)) → ℕ
second_faults device None = 0
second_faults device (Some slots) = slots_faults device slots

abbrev pub sheet_faults : ℕ → ℕ → SheetsSeen → ℕ
sheet_faults zero device sheets = slots_faults device sheets.first
sheet_faults (suc zero) device sheets = second_faults device sheets.second
sheet_faults (suc (suc n)) device sheets = 0

-- the same of a store: between its pages, and in them
abbrev pub whole_faults : List (List SectorSeen) → SheetsSeen → ℕ → ℕ → ℕ
whole_faults pages sheets copy device = sheet_faults copy device sheets + grid_faults copy device pages

abbrev pub store_faults : {P : Type 0} {ghosts : Ghosts P} → (P → Seen) → MapStore P ghosts → ℕ → ℕ → ℕ
store_faults seen store = whole_faults (grid_seen seen store.pages.items) (sheets_seen seen store.base.sheets)
