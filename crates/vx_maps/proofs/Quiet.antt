-- Sectors without a second piece count nothing there.
use Rattle.std.proofs.Common.{◌≡◌, ℕ, suc, false, refl, arith, List, [], ◌∷◌, Option, Some, None}
use Rattle.std.specs.Prelude.{is_some}
use Rattle.vx_piece.specs.Seen.{Seen}
use Rattle.vx_pages.specs.Sector.{SectorSeen, second_faults}
use Rattle.vx_pages.specs.Page.{faults_in}
use Rattle.vx_pages.specs.Page.{ArePaired}
use Rattle.vx_maps.specs.Slots.{ArePairedRows, grid_faults}

no_second : (p : Option Seen) (device : ℕ) → is_some p ≡ false → second_faults p device ≡ 0
no_second None device e = refl
no_second (Some p) device e = cc

row_quiet : (xs : List SectorSeen) (device : ℕ) → ArePaired false xs → faults_in xs 1 device ≡ 0
row_quiet [] device pair = refl
row_quiet (x ∷ xs) device pair =
    let e = no_second x.copies.second device (pair 0 (omega arith)) in let f = row_quiet xs device (λ m lt. pair (suc m) (omega (arith, lt))) in omega (arith, e, f)

pub grid_quiet : (pages : List (List SectorSeen)) (device : ℕ) → ArePairedRows false pages → grid_faults 1 device pages ≡ 0
grid_quiet [] device pairs = refl
grid_quiet (x ∷ pages) device pairs =
    let e = row_quiet x device (pairs 0 (omega arith)) in let f = grid_quiet pages device (λ i lt. pairs (suc i) (omega (arith, lt))) in omega (arith, e, f)

row_more : (xs : List SectorSeen) (copy device : ℕ) → faults_in xs (suc (suc copy)) device ≡ 0
row_more [] copy device = refl
row_more (x ∷ xs) copy device = let f = row_more xs copy device in omega (arith, f)

pub grid_more : (pages : List (List SectorSeen)) (copy device : ℕ) → grid_faults (suc (suc copy)) device pages ≡ 0
grid_more [] copy device = refl
grid_more (x ∷ pages) copy device = let e = row_more x copy device in let f = grid_more pages copy device in omega (arith, e, f)
