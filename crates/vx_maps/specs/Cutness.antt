-- Whether a piece of a store is cut.
use Rattle.std.specs.Prelude.{◌||◌, Bool, false, List, [], ◌∷◌, Option, Some, None}
use Rattle.vx_piece.specs.Seen.{Seen}
use Rattle.vx_pages.specs.declared.local_piece.LocalPiece.{Ghosts}
use Rattle.vx_maps.specs.Sheets.{sheets_seen}
use Rattle.vx_maps.specs.Slots.{SheetsSeen}
use Rattle.vx_maps.specs.Store.{pages_cut, pages_seen}
use Rattle.vx_maps.specs.declared.store.MapStore.{MapStore}

abbrev pub slot_cut : Option Seen → Bool
slot_cut None = false
slot_cut (Some p) = p.cut

abbrev pub slots_cut : List (Option Seen) → Bool
slots_cut [] = false
slots_cut (x ∷ xs) = slot_cut x || slots_cut xs

abbrev pub second_cut : Option (List (Option Seen)) → Bool
second_cut None = false
second_cut (Some slots) = slots_cut slots

abbrev pub sheets_cut : SheetsSeen → Bool
sheets_cut sheets = slots_cut sheets.first || second_cut sheets.second

-- a piece between the pages is cut, or one of a page
abbrev pub store_cut : {P : Type 0} {ghosts : Ghosts P} → (P → Seen) → MapStore P ghosts → Bool
store_cut seen store = sheets_cut (sheets_seen seen store.base.sheets) || pages_cut (pages_seen seen store.pages.items)
