-- Each piece that is seen of a volume is one of its own kind, so it tells what it holds where another of them does.
use Rattle.std.proofs.Common.{◌≡◌, ℕ, zero, suc, ◌+◌, ◌<◌, Bool, true, false, cond, not, List, [], ◌∷◌, length, map, Option, Some, None, refl, sym, ap, ◌∙◌, subst, arith}
use Rattle.std.specs.Prelude.{is_some, ◌&&◌, nat_le, ◌-◌, ◌/◌, ◌%◌}
use Rattle.std.specs.Global.{Vec}
use Rattle.std.specs.List.{All}
use Rattle.std.specs.Option.{option_map}
use Rattle.std.proofs.lemmas.List.Elements.{All-append, All-cons, All-head, All-nil, All-tail}
use Rattle.vx_piece.specs.Seen.{Keeps, Seen}
use Rattle.vx_runs.specs.Run.{EachPiece}
use Rattle.vx_pages.specs.declared.local_piece.LocalPiece.{Ghosts}
use Rattle.vx_pages.specs.declared.page.Page.{Page}
use Rattle.vx_pages.specs.declared.sector.MapSector.{MapSector}
use Rattle.vx_pages.specs.Page.{sectors_seen}
use Rattle.vx_pages.specs.Pages.{grid_seen}
use Rattle.vx_pages.specs.Sector.{SectorSeen, copy_of}
use Rattle.vx_pages.specs.Sectors.{sector_seen}
use Rattle.vx_maps.specs.declared.store.MapStore.{MapStore}
use Rattle.vx_maps.specs.Sheets.{sheets_seen}
use Rattle.vx_maps.specs.Slots.{IsHoled, cell_at, filled, grid_at, part_at, row_at, slot_at, slots_seen}
use Rattle.vx_maps.specs.Wholes.{store_copies, whole_copies}
use Rattle.vx_cell.specs.declared.cell.Cell.{Cell}
use Rattle.vx_cell.specs.declared.plex.Plex.{Plex}
use Rattle.vx_cell.specs.Plexes.{plexes_seen}
use Rattle.vx_volume.specs.declared.log.VolumeLog.{VolumeLog}
use Rattle.vx_volume.specs.declared.log.VolumeLog.TheVariants.{Absent, Maps}
use Rattle.vx_volume.specs.declared.volume.Volume.{Volume}
use Rattle.vx_volume.specs.Volume.{cells_seen, log_of}
use Rattle.vx_lending.specs.RegionPieces.{all_pieces, pieces_of}
use Rattle.vx_fronts.specs.Rests.{AllTell, IsTelling}
use Rattle.vx_lending.specs.Left.{held_pieces, region_plexes}
use Rattle.vx_lending.specs.Logs.{log_pieces}
use Rattle.vx_lending.specs.Pieces.{copy_pieces}
use Rattle.vx_group_calls.specs.Laws.{TellAlike, TellStill}
use Rattle.vx_group_calls.proofs.LogFaults.{AreSheets, are_sheets}

-- ---- what is seen is seen of a piece

module _ {P : Type 0} (see : P → Seen) where
  -- it is what is seen of some piece
  abbrev IsOfPiece : Seen → Type 0
  IsOfPiece x = (p : P) × (x ≡ see p)

  run_of : (ps : List P) → All IsOfPiece (map see ps)
  run_of [] = All-nil IsOfPiece
  run_of (p ∷ ps) = All-cons IsOfPiece (see p) (map see ps) (p, refl) (run_of ps)

  plexes_of : (ps : List (Plex P)) → All IsOfPiece (pieces_of (plexes_seen see ps))
  plexes_of [] = All-nil IsOfPiece
  plexes_of (p ∷ ps) = All-append IsOfPiece (map see p.pieces.items) (pieces_of (plexes_seen see ps)) (run_of p.pieces.items) (plexes_of ps)

  pub cells_of : (cells : List (Cell P)) → All IsOfPiece (all_pieces (region_plexes (cells_seen see cells)))
  cells_of [] = All-nil IsOfPiece
  cells_of (c ∷ cs) = All-append IsOfPiece (pieces_of (plexes_seen see c.plexes.items)) (all_pieces (region_plexes (cells_seen see cs))) (plexes_of c.plexes.items) (cells_of cs)

  -- ---- the slots of a log, and its pages

  -- so is a piece that is there
  abbrev IsOfSlot : Option Seen → Type 0
  IsOfSlot None = Unit {0}
  IsOfSlot (Some x) = IsOfPiece x

  abbrev IsOfSector : SectorSeen → Type 0
  IsOfSector s = IsOfPiece s.copies.first × IsOfSlot s.copies.second

  abbrev IsOfPlace : Option SectorSeen → Type 0
  IsOfPlace None = Unit {0}
  IsOfPlace (Some s) = IsOfSector s

  slot_of : (o : Option P) → IsOfSlot (option_map see o)
  slot_of None = tt
  slot_of (Some p) = (p, refl)

  slots_of : (slots : List (Option P)) → All IsOfSlot (slots_seen see slots)
  slots_of [] = All-nil IsOfSlot
  slots_of (o ∷ slots) = All-cons IsOfSlot (option_map see o) (slots_seen see slots) (slot_of o) (slots_of slots)

  place_of : (row : List SectorSeen) → All IsOfSector row → (m : ℕ) → IsOfPlace (cell_at row m)
  place_of [] all m = tt
  place_of (s ∷ row) all zero = All-head IsOfSector s row all
  place_of (s ∷ row) all (suc m) = place_of row (All-tail IsOfSector s row all) m

  row_of : (grid : List (List SectorSeen)) → All (λ row. All IsOfSector row) grid → (i : ℕ) → All IsOfSector (row_at grid i)
  row_of [] all i = All-nil IsOfSector
  row_of (row ∷ grid) all zero = All-head (λ row. All IsOfSector row) row grid all
  row_of (row ∷ grid) all (suc i) = row_of grid (All-tail (λ row. All IsOfSector row) row grid all) i

  grid_of : (size : ℕ) (grid : List (List SectorSeen)) → All (λ row. All IsOfSector row) grid → (k : ℕ) → IsOfPlace (grid_at size grid k)
  grid_of size grid all k = by (nat_le 3 (k / size) && nat_le 1 (k % size))
    where
      by : (b : Bool) → IsOfPlace (cond b (cell_at (row_at grid (k % size - 1)) (k / size - 3)) None)
      by true = place_of (row_at grid (k % size - 1)) (row_of grid all (k % size - 1)) (k / size - 3)
      by false = tt

  copy_is : (copy : ℕ) (s : SectorSeen) → IsOfSector s → IsOfPiece (copy_of s.copies copy)
  copy_is zero s is = is.0
  copy_is (suc n) s is = by s.copies.second is.1
    where
      by : (second : Option Seen) → IsOfSlot second → IsOfPiece (copy_of (record { first = s.copies.first; second = second }) (suc n))
      by None other = is.0
      by (Some x) other = other

  part_is : (copy : ℕ) (x : Option Seen) (cell : Option SectorSeen) → is_some x ≡ not (is_some cell) → IsOfSlot x → IsOfPlace cell → IsOfPiece (part_at copy x cell)
  part_is copy None None hole slot place = absurd (cc)
  part_is copy None (Some s) hole slot place = copy_is copy s place
  part_is copy (Some x) cell hole slot place = slot

  module _ (size copy : ℕ) (grid : List (List SectorSeen)) (pages : All (λ row. All IsOfSector row) grid) where
    filled_from : (k : ℕ) (slots : List (Option Seen)) → All IsOfSlot slots → ((i : ℕ) → i < length slots → is_some (slot_at slots i) ≡ not (is_some (grid_at size grid (k + i)))) → All IsOfPiece (filled size copy grid k slots)
    filled_from k [] all holes = All-nil IsOfPiece
    filled_from k (x ∷ slots) all holes =
        let here : k + 0 ≡ k = omega arith in
        All-cons IsOfPiece (part_at copy x (grid_at size grid k)) (filled size copy grid (k + 1) slots)
        (part_is copy x (grid_at size grid k) (subst (λ (n : ℕ). is_some x ≡ not (is_some (grid_at size grid n))) here (holes 0 (omega arith))) (All-head IsOfSlot x slots all) (grid_of size grid pages k))
        (filled_from (k + 1) slots (All-tail IsOfSlot x slots all) (λ i lt.
        let there : k + suc i ≡ k + 1 + i = omega arith in
        subst (λ (n : ℕ). is_some (slot_at slots i) ≡ not (is_some (grid_at size grid n))) there (holes (suc i) (omega (arith, lt)))))

    copy_from : (slots : List (Option Seen)) → All IsOfSlot slots → IsHoled size grid slots → All IsOfPiece (filled size copy grid 0 slots)
    copy_from slots all holed = filled_from 0 slots all (λ i lt. let same : 0 + i ≡ i = omega arith in subst (λ (n : ℕ). is_some (slot_at slots i) ≡ not (is_some (grid_at size grid n))) (sym same) (holed.holes i lt))

  -- one copy or two
  abbrev IsOfSheet : Option (List (Option Seen)) → Type 0
  IsOfSheet None = Unit {0}
  IsOfSheet (Some slots) = All IsOfSlot slots

  copies_from : (size : ℕ) (grid : List (List SectorSeen)) → All (λ row. All IsOfSector row) grid → (first : List (Option Seen)) (second : Option (List (Option Seen))) → AreSheets size grid (record { first = first; second = second }) →
      All IsOfSlot first → IsOfSheet second → All IsOfPiece (copy_pieces (whole_copies size grid (record { first = first; second = second })))
  copies_from size grid pages first None are a b =
      All-append IsOfPiece (filled size 0 grid 0 first) [] (copy_from size 0 grid pages first a are.holed.first) (All-nil IsOfPiece)
  copies_from size grid pages first (Some slots) are a b =
      All-append IsOfPiece (filled size 0 grid 0 first) (copy_pieces (filled size 1 grid 0 slots ∷ [])) (copy_from size 0 grid pages first a are.holed.first)
      (All-append IsOfPiece (filled size 1 grid 0 slots) [] (copy_from size 1 grid pages slots b are.holed.second) (All-nil IsOfPiece))

module _ {P : Type 0} {ghosts : Ghosts P} where
  sector_is : (s : MapSector P ghosts) → IsOfSector ghosts.seen (sector_seen ghosts.seen s)
  sector_is s = ((s.first, refl), slot_of ghosts.seen s.second)

  sectors_are : (ss : List (MapSector P ghosts)) → All (IsOfSector ghosts.seen) (sectors_seen ghosts.seen ss)
  sectors_are [] = All-nil (IsOfSector ghosts.seen)
  sectors_are (s ∷ ss) = All-cons (IsOfSector ghosts.seen) (sector_seen ghosts.seen s) (sectors_seen ghosts.seen ss) (sector_is s) (sectors_are ss)

  pages_are : (pages : List (Page P ghosts)) → All (λ row. All (IsOfSector ghosts.seen) row) (grid_seen ghosts.seen pages)
  pages_are [] = All-nil (λ row. All (IsOfSector ghosts.seen) row)
  pages_are (p ∷ pages) = All-cons (λ row. All (IsOfSector ghosts.seen) row) (sectors_seen ghosts.seen p.sectors.items) (grid_seen ghosts.seen pages) (sectors_are p.sectors.items) (pages_are pages)

  store_from : (store : MapStore P ghosts) → All (IsOfPiece ghosts.seen) (copy_pieces (store_copies ghosts.seen store))
  store_from store =
      copies_from ghosts.seen _ (grid_seen ghosts.seen store.pages.items) (pages_are store.pages.items) (sheets_seen ghosts.seen store.base.sheets).first (sheets_seen ghosts.seen store.base.sheets).second (are_sheets store)
      (slots_of ghosts.seen store.base.sheets.first.items) (second store.base.sheets.second)
    where
      second : (o : Option (Vec (Option P))) → IsOfSheet ghosts.seen (option_map (λ (x : Vec (Option P)). slots_seen ghosts.seen x.items) o)
      second None = tt
      second (Some x) = slots_of ghosts.seen x.items

  log_from : (log : VolumeLog P ghosts) → All (IsOfPiece ghosts.seen) (log_pieces ghosts.seen log)
  log_from Absent = All-nil (IsOfPiece ghosts.seen)
  log_from (Maps store) = store_from store

  pub held_from : (volume : Volume P ghosts) → All (IsOfPiece ghosts.seen) (held_pieces ghosts.seen volume)
  held_from volume = All-append (IsOfPiece ghosts.seen) (all_pieces (region_plexes (cells_seen ghosts.seen volume.cells.items))) (log_pieces ghosts.seen (log_of volume)) (cells_of ghosts.seen volume.cells.items) (log_from (log_of volume))

-- ---- they tell alike

all_tell : {P : Type 0} (see : P → Seen) → TellAlike see → (p : P) → is_some (see p).told ≡ true → (ps : List Seen) → All (IsOfPiece see) ps → AllTell ps
all_tell see alike p tells [] all = All-nil IsTelling
all_tell see alike p tells (x ∷ ps) all =
    let own = All-head (IsOfPiece see) x ps all in
    let here : is_some x.told ≡ true = ap (λ (s : Seen). is_some s.told) own.1 ∙ alike own.0 p ∙ tells in
    All-cons IsTelling x ps here (all_tell see alike p tells ps (All-tail (IsOfPiece see) x ps all))

tell_by : {P : Type 0} (see : P → Seen) → TellAlike see → (ps qs : List Seen) → All (IsOfPiece see) ps → All (IsOfPiece see) qs → EachPiece Keeps ps qs → AllTell ps → AllTell qs
tell_by see alike [] [] a b keep tells = tells
tell_by see alike [] (q ∷ qs) a b keep tells = absurd keep
tell_by see alike (p ∷ ps) [] a b keep tells = absurd keep
tell_by see alike (p ∷ ps) (q ∷ qs) a b keep tells =
    let own = All-head (IsOfPiece see) p ps a in
    let here : is_some p.told ≡ true = All-head IsTelling p ps tells in
    all_tell see alike own.0 (sym (ap (λ (s : Seen). is_some s.told) own.1) ∙ here) (q ∷ qs) b

pub tell_still : {P : Type 0} {ghosts : Ghosts P} (old new : Volume P ghosts) → TellStill ghosts.seen old new
tell_still {ghosts = ghosts} old new alike keep tells = tell_by ghosts.seen alike (held_pieces ghosts.seen old) (held_pieces ghosts.seen new) (held_from old) (held_from new) keep tells
