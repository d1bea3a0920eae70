-- That a store keeps its pieces by no call, and by one after another.
use Rattle.std.specs.Prelude.{ℕ, ◌<◌, List, Option, Some, None, refl}
use Rattle.std.proofs.Common.{◌∙◌, sym, subst}
use Rattle.vx_piece.specs.Seen.{Seen}
use Rattle.vx_pages.specs.declared.local_piece.LocalPiece.{Ghosts}
use Rattle.vx_pages.specs.Sector.{KeepsPiece, SectorSeen}
use Rattle.vx_pages.specs.Stays.{piece_same, piece_then, row_same, row_then}
use Rattle.vx_maps.specs.Going.{GridGoes, SecondGoes, SheetsGo, SlotGoes, SlotsGo, StoreGoes}
use Rattle.vx_maps.specs.Slots.{SheetsSeen, slot_at}
use Rattle.vx_maps.specs.declared.store.MapStore.{MapStore}

slot_same : (x : Option Seen) → SlotGoes KeepsPiece x x
slot_same None = tt
slot_same (Some p) = piece_same p

second_same : (x : Option (List (Option Seen))) → SecondGoes KeepsPiece x x
second_same None = tt
second_same (Some xs) = record { size = refl; each = λ k. slot_same (slot_at xs k) }

pub sheets_kept : (s : SheetsSeen) → SheetsGo KeepsPiece s s
sheets_kept s = record { first = record { size = refl; each = λ k. slot_same (slot_at s.first k) }; second = second_same s.second }

slot_then : (x y z : Option Seen) → SlotGoes KeepsPiece x y → SlotGoes KeepsPiece y z → SlotGoes KeepsPiece x z
slot_then None None None f g = tt
slot_then None None (Some r) f g = absurd g
slot_then None (Some q) z f g = absurd f
slot_then (Some p) None z f g = absurd f
slot_then (Some p) (Some q) None f g = absurd g
slot_then (Some p) (Some q) (Some r) f g = piece_then p q r f g

slots_then : (x y z : List (Option Seen)) → SlotsGo KeepsPiece x y → SlotsGo KeepsPiece y z → SlotsGo KeepsPiece x z
slots_then x y z f g = record { size = g.size ∙ f.size; each = λ k. slot_then _ _ _ (f.each k) (g.each k) }

second_then : (x y z : Option (List (Option Seen))) → SecondGoes KeepsPiece x y → SecondGoes KeepsPiece y z → SecondGoes KeepsPiece x z
second_then None None None f g = tt
second_then None None (Some r) f g = absurd g
second_then None (Some q) z f g = absurd f
second_then (Some p) None z f g = absurd f
second_then (Some p) (Some q) None f g = absurd g
second_then (Some p) (Some q) (Some r) f g = slots_then p q r f g

grid_kept : (xs : List (List SectorSeen)) → GridGoes KeepsPiece xs xs
grid_kept xs = record { size = refl; each = λ i lt. row_same _ }

grid_then : (xs ys zs : List (List SectorSeen)) → GridGoes KeepsPiece xs ys → GridGoes KeepsPiece ys zs → GridGoes KeepsPiece xs zs
grid_then xs ys zs f g = record { size = g.size ∙ f.size; each = λ i lt. row_then _ _ _ (f.each i lt) (g.each i (subst (λ (n : ℕ). i < n) (sym f.size) lt)) }

pub store_kept : {P : Type 0} {ghosts : Ghosts P} (x : MapStore P ghosts) → StoreGoes ghosts.seen KeepsPiece x x
store_kept x = record { shape = refl; places = refl; sheets = sheets_kept _; grid = grid_kept _ }

pub store_kept_on : {P : Type 0} {ghosts : Ghosts P} (x y z : MapStore P ghosts) → StoreGoes ghosts.seen KeepsPiece x y → StoreGoes ghosts.seen KeepsPiece y z → StoreGoes ghosts.seen KeepsPiece x z
store_kept_on x y z f g =
    record {
      shape = g.shape ∙ f.shape;
      places = g.places ∙ f.places;
      sheets = record { first = slots_then _ _ _ f.sheets.first g.sheets.first; second = second_then _ _ _ f.sheets.second g.sheets.second };
      grid = grid_then _ _ _ f.grid g.grid;
    }
