-- That the counts of a store's faults never fall.
use Rattle.std.proofs.Common.{◌≡◌, ℕ, zero, suc, ◌≤◌, Bool, arith, List, [], ◌∷◌, true, false, Option, Some, None}
use Rattle.std.specs.Prelude.{◌==◌, is_some, if◌then◌else◌}
use Rattle.vx_piece.specs.Seen.{Seen}
use Rattle.vx_pages.specs.declared.local_piece.LocalPiece.{Ghosts}
use Rattle.vx_pages.specs.Sector.{Copies, SectorSeen, KeepsPiece, faults_at, faults_on, or_first}
use Rattle.vx_pages.specs.Sector.{second_faults as piece_faults}
use Rattle.vx_pages.specs.Page.{faults_in}
use Rattle.vx_pages.specs.Pages.{PiecesGo, RowGoes}
use Rattle.vx_maps.specs.Going.{GridGoes, SecondGoes, SheetsGo, SlotGoes, SlotsGo, StoreGoes}
use Rattle.vx_maps.specs.Slots.{SheetsSeen, grid_faults, slot_faults, slots_faults}
use Rattle.vx_maps.specs.Wholes.{second_faults, sheet_faults, store_faults}
use Rattle.vx_maps.specs.declared.store.MapStore.{MapStore}

le_cond : (b : Bool) (m n : ℕ) → m ≤ n → (if b then m else 0) ≤ (if b then n else 0)
le_cond true m n le = le
le_cond false m n le = omega arith

piece_grows : (p q : Seen) (device : ℕ) → KeepsPiece p q → faults_on p device ≤ faults_on q device
piece_grows p q device h = rw h.kept.device (le_cond (p.device == device) p.faults q.faults h.kept.faults)

slot_grows : (x y : Option Seen) (device : ℕ) → SlotGoes KeepsPiece x y → slot_faults x device ≤ slot_faults y device
slot_grows None None device go = omega arith
slot_grows None (Some q) device go = absurd go
slot_grows (Some p) None device go = absurd go
slot_grows (Some p) (Some q) device go = piece_grows p q device go

slots_grow : (xs ys : List (Option Seen)) (device : ℕ) → SlotsGo KeepsPiece xs ys → slots_faults device xs ≤ slots_faults device ys
slots_grow [] ys device go = omega arith
slots_grow (x ∷ xs) [] device go = let s = go.size in absurd (omega (arith, s))
slots_grow (x ∷ xs) (y ∷ ys) device go =
    let a = slot_grows x y device (go.each 0) in
    let b = slots_grow xs ys device (record { size = (let s = go.size in omega (arith, s)); each = λ k. go.each (suc k) }) in omega (arith, a, b)

second_grows : (x y : Option (List (Option Seen))) (device : ℕ) → SecondGoes KeepsPiece x y → second_faults device x ≤ second_faults device y
second_grows None None device go = omega arith
second_grows None (Some ys) device go = absurd go
second_grows (Some xs) None device go = absurd go
second_grows (Some xs) (Some ys) device go = slots_grow xs ys device go

sheet_grows : (old new : SheetsSeen) (copy device : ℕ) → SheetsGo KeepsPiece old new → sheet_faults copy device old ≤ sheet_faults copy device new
sheet_grows old new zero device go = slots_grow old.first new.first device go.first
sheet_grows old new (suc zero) device go = second_grows old.second new.second device go.second
sheet_grows old new (suc (suc n)) device go = omega arith

second_piece : (f f' : Seen) (s s' : Option Seen) (device : ℕ) → is_some s' ≡ is_some s → KeepsPiece (or_first f s) (or_first f' s') → piece_faults s device ≤ piece_faults s' device
second_piece f f' None s' device pair keeps = omega arith
second_piece f f' (Some p) None device pair keeps = cc
second_piece f f' (Some p) (Some q) device pair keeps = piece_grows p q device keeps

sector_grows : (a b : Copies) (copy device : ℕ) → PiecesGo KeepsPiece a b → faults_at a copy device ≤ faults_at b copy device
sector_grows a b zero device go = piece_grows a.first b.first device (go.each 0)
sector_grows a b (suc zero) device go = second_piece a.first b.first a.second b.second device go.pair (go.each 1)
sector_grows a b (suc (suc n)) device go = omega arith

row_grows : (xs ys : List SectorSeen) (copy device : ℕ) → RowGoes KeepsPiece xs ys → faults_in xs copy device ≤ faults_in ys copy device
row_grows [] ys copy device go = omega arith
row_grows (x ∷ xs) [] copy device go = let s = go.size in absurd (omega (arith, s))
row_grows (x ∷ xs) (y ∷ ys) copy device go =
    let a = sector_grows x.copies y.copies copy device (go.each 0 (omega arith)) in
    let b = row_grows xs ys copy device (record { size = (let s = go.size in omega (arith, s)); each = λ k lt. go.each (suc k) (omega (arith, lt)) }) in omega (arith, a, b)

grid_grows : (xs ys : List (List SectorSeen)) (copy device : ℕ) → GridGoes KeepsPiece xs ys → grid_faults copy device xs ≤ grid_faults copy device ys
grid_grows [] ys copy device go = omega arith
grid_grows (x ∷ xs) [] copy device go = let s = go.size in absurd (omega (arith, s))
grid_grows (x ∷ xs) (y ∷ ys) copy device go =
    let a = row_grows x y copy device (go.each 0 (omega arith)) in
    let b = grid_grows xs ys copy device (record { size = (let s = go.size in omega (arith, s)); each = λ k lt. go.each (suc k) (omega (arith, lt)) }) in omega (arith, a, b)

pub faults_grow : {P : Type 0} {ghosts : Ghosts P} (old new : MapStore P ghosts) → StoreGoes ghosts.seen KeepsPiece old new → (copy device : ℕ) → store_faults ghosts.seen old copy device ≤ store_faults ghosts.seen new copy device
faults_grow old new go copy device =
    let a = sheet_grows _ _ copy device go.sheets in
    let b = grid_grows _ _ copy device go.grid in omega (arith, a, b)
