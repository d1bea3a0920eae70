-- How the pieces of the copies of a store go on.
use Rattle.std.proofs.Common.{◌≡◌, inl, inr, ℕ, zero, suc, ◌+◌, ◌≤◌, Bool, refl, sym, ◌∙◌, ap, subst, arith, List, [], ◌∷◌, length, true, false, Option, Some, None}
use Rattle.std.specs.Prelude.{is_some, ◌&&◌, ◌/◌, ◌%◌, ◌-◌, nat_le, if◌then◌else◌}
use Rattle.std.specs.Option.{option_map}
use Rattle.std.proofs.lemmas.Bool.{cases_lt}
use Rattle.vx_piece.specs.Seen.{Seen}
use Rattle.vx_runs.specs.Part.{told_or}
use Rattle.vx_runs.specs.Run.{EachPiece}
use Rattle.vx_pages.specs.declared.local_piece.LocalPiece.{Ghosts}
use Rattle.vx_pages.specs.Items.{item_at}
use Rattle.vx_pages.specs.Sector.{SectorSeen, copy_of}
use Rattle.vx_maps.specs.Copies.{copies_list}
use Rattle.vx_maps.specs.Creating.{BeginsWith, head_tells}
use Rattle.vx_pages.specs.Pages.{RowGoes}
use Rattle.vx_maps.specs.Going.{CopiesGo, GridGoes, ReadsPiece, SecondGoes, SheetsGo, SlotGoes, SlotsGo, StoreGoes}
use Rattle.vx_maps.specs.Loading.{copy_at}
use Rattle.vx_pages.specs.Pages.{grid_seen}
use Rattle.vx_maps.specs.Sheets.{sheets_seen}
use Rattle.vx_maps.specs.Slots.{SheetsSeen, cell_at, filled, grid_at, part_at, row_at}
use Rattle.vx_maps.specs.Wholes.{store_copies, whole_copies}
use Rattle.vx_maps.specs.declared.store.MapStore.{MapStore}

module _ (rel : Seen → Seen → Type 0) (same : (p : Seen) → rel p p) where
  -- a cell of the grid goes on so, or there is none
  CellGoes : ℕ → Option SectorSeen → Option SectorSeen → Type 0
  CellGoes copy None None = Unit {0}
  CellGoes copy (Some a) (Some b) = rel (copy_of a.copies copy) (copy_of b.copies copy)
  CellGoes copy _ _ = ⊥

  cell_goes : (copy : ℕ) (xs ys : List SectorSeen) (m : ℕ) → RowGoes rel xs ys → CellGoes copy (cell_at xs m) (cell_at ys m)
  unfolding CellGoes
  cell_goes copy [] [] m go = tt
  cell_goes copy [] (y ∷ ys) m go = let s = go.size in absurd (omega (arith, s))
  cell_goes copy (x ∷ xs) [] m go = let s = go.size in absurd (omega (arith, s))
  cell_goes copy (x ∷ xs) (y ∷ ys) zero go = (go.each 0 (omega arith)).each copy
  cell_goes copy (x ∷ xs) (y ∷ ys) (suc m) go = cell_goes copy xs ys m (record { size = (let s = go.size in omega (arith, s)); each = λ k lt. go.each (suc k) (omega (arith, lt)) })

  past : {A : Type 0} (xs : List (List A)) (i : ℕ) → length xs ≤ i → item_at [] xs i ≡ []
  past [] i le = refl
  past (x ∷ xs) zero le = absurd (omega (arith, le))
  past (x ∷ xs) (suc i) le = past xs i (omega (arith, le))

  row_goes : (g g' : List (List SectorSeen)) (p : ℕ) → GridGoes rel g g' → RowGoes rel (row_at g p) (row_at g' p)
  row_goes g g' p go =
      elim (cases_lt p (length g)) [
        | inl lt ↦ go.each p lt
        | inr le ↦
            subst (λ (xs : List SectorSeen). RowGoes rel xs (row_at g' p)) (sym (past g p le))
            (subst (λ (xs : List SectorSeen). RowGoes rel [] xs) (sym (past g' p (let s = go.size in omega (arith, s, le)))) (record { size = refl; each = λ k lt. absurd (omega (arith, lt)) }))
      ]

  grid_cell : (b : Bool) (copy : ℕ) (xs ys : List SectorSeen) (m : ℕ) → RowGoes rel xs ys → CellGoes copy (if b then cell_at xs m else None) (if b then cell_at ys m else None)
  unfolding CellGoes
  grid_cell true copy xs ys m go = cell_goes copy xs ys m go
  grid_cell false copy xs ys m go = tt

  part_goes : (copy : ℕ) (x y : Option Seen) (a b : Option SectorSeen) → SlotGoes rel x y → CellGoes copy a b → rel (part_at copy x a) (part_at copy y b)
  unfolding CellGoes
  part_goes copy None None None None slot cell = same _
  part_goes copy None None None (Some b) slot cell = absurd cell
  part_goes copy None None (Some a) None slot cell = absurd cell
  part_goes copy None None (Some a) (Some b) slot cell = cell
  part_goes copy None (Some q) a b slot cell = absurd slot
  part_goes copy (Some p) None a b slot cell = absurd slot
  part_goes copy (Some p) (Some q) a b slot cell = slot

  filled_goes : (size copy : ℕ) (g g' : List (List SectorSeen)) (k : ℕ) (xs ys : List (Option Seen)) → GridGoes rel g g' → SlotsGo rel xs ys → EachPiece rel (filled size copy g k xs) (filled size copy g' k ys)
  filled_goes size copy g g' k [] [] grid go = tt
  filled_goes size copy g g' k [] (y ∷ ys) grid go = let s = go.size in absurd (omega (arith, s))
  filled_goes size copy g g' k (x ∷ xs) [] grid go = let s = go.size in absurd (omega (arith, s))
  filled_goes size copy g g' k (x ∷ xs) (y ∷ ys) grid go = (
    part_goes copy x y (grid_at size g k) (grid_at size g' k) (go.each 0)
        (grid_cell (nat_le 3 (k / size) && nat_le 1 (k % size)) copy (row_at g (k % size - 1)) (row_at g' (k % size - 1)) (k / size - 3) (row_goes g g' (k % size - 1) grid)),
    filled_goes size copy g g' (k + 1) xs ys grid (record { size = (let s = go.size in omega (arith, s)); each = λ j. go.each (suc j) }),
  )

  list_goes : (size : ℕ) (g g' : List (List SectorSeen)) (x y : List Seen) (a b : Option (List (Option Seen))) → EachPiece rel x y → GridGoes rel g g' → SecondGoes rel a b →
      CopiesGo rel (copies_list x (option_map (filled size 1 g 0) a)) (copies_list y (option_map (filled size 1 g' 0) b))
  list_goes size g g' x y None None first grid second = (first, tt)
  list_goes size g g' x y None (Some ys) first grid second = absurd second
  list_goes size g g' x y (Some xs) None first grid second = absurd second
  list_goes size g g' x y (Some xs) (Some ys) first grid second = (first, (filled_goes size 1 g g' 0 xs ys grid second, tt))

  pub whole_goes : (size : ℕ) (g g' : List (List SectorSeen)) (old new : SheetsSeen) → SheetsGo rel old new → GridGoes rel g g' → CopiesGo rel (whole_copies size g old) (whole_copies size g' new)
  whole_goes size g g' old new go grid = list_goes size g g' _ _ old.second new.second (filled_goes size 0 g g' 0 old.first new.first grid go.first) grid go.second

  pub store_goes : {P : Type 0} {ghosts : Ghosts P} (old new : MapStore P ghosts) → StoreGoes ghosts.seen rel old new → CopiesGo rel (store_copies ghosts.seen old) (store_copies ghosts.seen new)
  store_goes {ghosts = ghosts} old new go =
      subst (λ shape. CopiesGo rel (store_copies ghosts.seen old) (whole_copies (shape.map_bytes / 512) (grid_seen ghosts.seen new.pages.items) (sheets_seen ghosts.seen new.base.sheets))) (sym go.shape)
      (whole_goes (old.base.shape.map_bytes / 512) _ _ _ _ go.sheets go.grid)

pub copies_count : (rel : Seen → Seen → Type 0) (xs ys : List (List Seen)) → CopiesGo rel xs ys → length ys ≡ length xs
copies_count rel [] [] go = refl
copies_count rel [] (y ∷ ys) go = absurd go
copies_count rel (x ∷ xs) [] go = absurd go
copies_count rel (x ∷ xs) (y ∷ ys) go = ap (λ (n : ℕ). suc n) (copies_count rel xs ys go.1)

pub copy_goes : (rel : Seen → Seen → Type 0) (xs ys : List (List Seen)) (n : ℕ) → CopiesGo rel xs ys → EachPiece rel (copy_at xs n) (copy_at ys n)
copy_goes rel [] [] n go = tt
copy_goes rel [] (y ∷ ys) n go = absurd go
copy_goes rel (x ∷ xs) [] n go = absurd go
copy_goes rel (x ∷ xs) (y ∷ ys) zero go = go.0
copy_goes rel (x ∷ xs) (y ∷ ys) (suc n) go = copy_goes rel xs ys n go.1

-- ---- first sectors that were only read

pub tells_head : (xs ys : List Seen) → EachPiece ReadsPiece xs ys → head_tells ys ≡ head_tells xs
tells_head [] [] go = refl
tells_head [] (y ∷ ys) go = absurd go
tells_head (x ∷ xs) [] go = absurd go
tells_head (x ∷ xs) (y ∷ ys) go = ap (λ t. is_some t) go.0.told

pub begins_head : (bytes : List ℕ) (xs ys : List Seen) → EachPiece ReadsPiece xs ys → BeginsWith bytes xs → BeginsWith bytes ys
begins_head bytes [] [] go h = h
begins_head bytes [] (y ∷ ys) go h = absurd go
begins_head bytes (x ∷ xs) [] go h = absurd go
begins_head bytes (x ∷ xs) (y ∷ ys) go h = ap (λ t. told_or t 0) go.0.told ∙ h

pub begins_back : (bytes : List ℕ) (xs ys : List Seen) → EachPiece ReadsPiece xs ys → BeginsWith bytes ys → BeginsWith bytes xs
begins_back bytes [] [] go h = h
begins_back bytes [] (y ∷ ys) go h = absurd go
begins_back bytes (x ∷ xs) [] go h = absurd go
begins_back bytes (x ∷ xs) (y ∷ ys) go h = sym (ap (λ t. told_or t 0) go.0.told) ∙ h
