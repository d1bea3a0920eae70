-- Where the sectors of pages lie in a copy.
use Rattle.std.proofs.Common.{◌≡◌, ◌≢◌, inl, inr, ℕ, zero, suc, ◌+◌, ◌-◌, ◌*◌, ◌/◌, ◌%◌, ◌<◌, ◌≤◌, Bool, true, false, refl, sym, ◌∙◌, ap, arith, List, [], ◌∷◌, ◌++◌, length, Some, None}
use Rattle.std.specs.Prelude.{nat_le, ◌&&◌, if◌then◌else◌}
use Rattle.std.proofs.Math.Nat.{mul-le-mul_right}
use Rattle.std.proofs.lemmas.Nat.{div-mul-add, mod-mul-add, div-add-mod'}
use Rattle.std.proofs.lemmas.Bool.{cases_order}
use Rattle.vx_pages.specs.Sector.{SectorSeen, faults_at}
use Rattle.vx_pages.specs.Page.{faults_in}
use Rattle.vx_maps.specs.Slots.{cell_at, row_at, grid_at, grid_faults, place_of}

pub place_div : (size m p : ℕ) → 1 + p < size → place_of size m p / size ≡ 3 + m
place_div size m p lt = div-mul-add (3 + m) size (1 + p) lt

pub place_mod : (size m p : ℕ) → 1 + p < size → place_of size m p % size ≡ 1 + p
place_mod size m p lt = mod-mul-add (3 + m) size (1 + p) lt

pub place_back : (size m p k : ℕ) → k / size ≡ 3 + m → k % size ≡ 1 + p → k ≡ place_of size m p
place_back size m p k e f = sym (div-add-mod' k size) ∙ ap (λ (n : ℕ). n * size + k % size) e ∙ ap (λ (n : ℕ). (3 + m) * size + n) f

pub place_in : (size m p : ℕ) → m < 32 → 1 + p < size → place_of size m p < 35 * size
place_in size m p low lt =
    let le : 3 + m ≤ 34 = omega (arith, low) in
    let prod : (3 + m) * size ≤ 34 * size = mul-le-mul_right size le in
    omega (arith, prod, lt)

pub place_other : (size m m' p : ℕ) → 1 + p < size → m ≢ m' → place_of size m p ≢ place_of size m' p
place_other size m m' p lt apart e =
    let d = sym (place_div size m p lt) ∙ ap (λ (k : ℕ). k / size) e ∙ place_div size m' p lt in
    apart (omega (arith, d))

-- ---- rows and cells

cell_here : (xs : List SectorSeen) (s : SectorSeen) → cell_at (xs ++ s ∷ []) (length xs) ≡ Some s
cell_here [] s = refl
cell_here (x ∷ xs) s = cell_here xs s

cell_none : (xs : List SectorSeen) (m : ℕ) → length xs ≤ m → cell_at xs m ≡ None
cell_none [] m le = refl
cell_none (x ∷ xs) zero le = absurd (omega (arith, le))
cell_none (x ∷ xs) (suc m) le = cell_none xs m (omega (arith, le))

cell_else : (xs : List SectorSeen) (s : SectorSeen) (m : ℕ) → m ≢ length xs → cell_at (xs ++ s ∷ []) m ≡ cell_at xs m
cell_else [] s zero apart = absurd (apart refl)
cell_else [] s (suc m) apart = refl
cell_else (x ∷ xs) s zero apart = refl
cell_else (x ∷ xs) s (suc m) apart = cell_else xs s m (λ e. apart (ap (λ (n : ℕ). suc n) e))

row_here : (pages : List (List SectorSeen)) (xs : List SectorSeen) → row_at (pages ++ xs ∷ []) (length pages) ≡ xs
row_here [] xs = refl
row_here (p ∷ pages) xs = row_here pages xs

row_else : (pages : List (List SectorSeen)) (xs ys : List SectorSeen) (p : ℕ) → p ≢ length pages → row_at (pages ++ xs ∷ []) p ≡ row_at (pages ++ ys ∷ []) p
row_else [] xs ys zero apart = absurd (apart refl)
row_else [] xs ys (suc p) apart = refl
row_else (q ∷ pages) xs ys zero apart = refl
row_else (q ∷ pages) xs ys (suc p) apart = row_else pages xs ys p (λ e. apart (ap (λ (n : ℕ). suc n) e))

pub row_empty : (pages : List (List SectorSeen)) (p : ℕ) → row_at (pages ++ [] ∷ []) p ≡ row_at pages p
row_empty [] zero = refl
row_empty [] (suc p) = refl
row_empty (q ∷ pages) zero = refl
row_empty (q ∷ pages) (suc p) = row_empty pages p

-- behind the last page are none
row_none : (pages : List (List SectorSeen)) (p : ℕ) → length pages ≤ p → row_at pages p ≡ []
row_none [] p le = refl
row_none (q ∷ pages) zero le = absurd (omega (arith, le))
row_none (q ∷ pages) (suc p) le = row_none pages p (omega (arith, le))

-- ---- the grid

tests_hold : (m p : ℕ) → (nat_le 3 (3 + m) && nat_le 1 (1 + p)) ≡ true
tests_hold m p = grind arith

pub grid_is : (size : ℕ) (pages : List (List SectorSeen)) (m p : ℕ) → 1 + p < size → grid_at size pages (place_of size m p) ≡ cell_at (row_at pages p) m
grid_is size pages m p lt =
    let q = place_div size m p lt in
    let r = place_mod size m p lt in
    ap (λ (n : ℕ). if nat_le 3 n && nat_le 1 (place_of size m p % size) then cell_at (row_at pages (place_of size m p % size - 1)) (n - 3) else None) q
    ∙ ap (λ (n : ℕ). if nat_le 3 (3 + m) && nat_le 1 n then cell_at (row_at pages (n - 1)) (3 + m - 3) else None) r
    ∙ ap (λ (b : Bool). if b then cell_at (row_at pages (1 + p - 1)) (3 + m - 3) else None) (tests_hold m p)
    ∙ ap (λ (n : ℕ). cell_at (row_at pages n) (3 + m - 3)) (omega arith) ∙ ap (λ (n : ℕ). cell_at (row_at pages p) n) (omega arith)

pub grid_there : (size : ℕ) (pages : List (List SectorSeen)) (xs : List SectorSeen) (s : SectorSeen) (m p : ℕ) → m ≡ length xs → p ≡ length pages → 1 + p < size → grid_at size (pages ++ (xs ++ s ∷ []) ∷ []) (place_of size m p) ≡ Some s
grid_there size pages xs s m p e f lt =
    grid_is size (pages ++ (xs ++ s ∷ []) ∷ []) m p lt ∙ ap (λ (n : ℕ). cell_at (row_at (pages ++ (xs ++ s ∷ []) ∷ []) n) m) f ∙ ap (λ (ys : List SectorSeen). cell_at ys m) (row_here pages (xs ++ s ∷ []))
    ∙ ap (λ (n : ℕ). cell_at (xs ++ s ∷ []) n) e ∙ cell_here xs s

pub grid_gone : (size : ℕ) (pages : List (List SectorSeen)) (xs : List SectorSeen) (m p : ℕ) → length xs ≤ m → p ≡ length pages → 1 + p < size → grid_at size (pages ++ xs ∷ []) (place_of size m p) ≡ None
grid_gone size pages xs m p le f lt =
    grid_is size (pages ++ xs ∷ []) m p lt ∙ ap (λ (n : ℕ). cell_at (row_at (pages ++ xs ∷ []) n) m) f ∙ ap (λ (ys : List SectorSeen). cell_at ys m) (row_here pages xs) ∙ cell_none xs m le

-- no page lies there yet
pub grid_behind : (size : ℕ) (pages : List (List SectorSeen)) (m p : ℕ) → length pages ≤ p → 1 + p < size → grid_at size pages (place_of size m p) ≡ None
grid_behind size pages m p le lt = grid_is size pages m p lt ∙ ap (λ (ys : List SectorSeen). cell_at ys m) (row_none pages p le)

pub grid_else : (size : ℕ) (pages : List (List SectorSeen)) (xs : List SectorSeen) (s : SectorSeen) (m p k : ℕ) → m ≡ length xs → p ≡ length pages → k ≢ place_of size m p →
    grid_at size (pages ++ (xs ++ s ∷ []) ∷ []) k ≡ grid_at size (pages ++ xs ∷ []) k
grid_else size pages xs s m p k e f apart = by (nat_le 3 (k / size)) (nat_le 1 (k % size)) refl refl
  where
    by : (a b : Bool) → a ≡ nat_le 3 (k / size) → b ≡ nat_le 1 (k % size) →
        (if a && b then cell_at (row_at (pages ++ (xs ++ s ∷ []) ∷ []) (k % size - 1)) (k / size - 3) else None) ≡ (if a && b then cell_at (row_at (pages ++ xs ∷ []) (k % size - 1)) (k / size - 3) else None)
    by false b ea eb = refl
    by true false ea eb = refl
    by true true ea eb =
        let slot : 3 ≤ k / size = grind (arith, ea) in
        let some : 1 ≤ k % size = grind (arith, eb) in
        elim (cases_order (k % size - 1) (length pages)) [
          | inl same ↦
              ap (λ (n : ℕ). cell_at (row_at (pages ++ (xs ++ s ∷ []) ∷ []) n) (k / size - 3)) same ∙ ap (λ (ys : List SectorSeen). cell_at ys (k / size - 3)) (row_here pages (xs ++ s ∷ []))
              ∙ cell_else xs s (k / size - 3) (λ g. apart (place_back size m p k (omega (arith, slot, g, e)) (omega (arith, some, same, f))))
              ∙ sym (ap (λ (n : ℕ). cell_at (row_at (pages ++ xs ∷ []) n) (k / size - 3)) same ∙ ap (λ (ys : List SectorSeen). cell_at ys (k / size - 3)) (row_here pages xs))
          | inr other ↦ ap (λ (ys : List SectorSeen). cell_at ys (k / size - 3)) (row_else pages (xs ++ s ∷ []) xs (k % size - 1) (λ g. elim other [ inl low ↦ omega (arith, low, g) | inr high ↦ omega (arith, high, g) ]))
        ]

pub grid_empty : (size : ℕ) (pages : List (List SectorSeen)) (k : ℕ) → grid_at size (pages ++ [] ∷ []) k ≡ grid_at size pages k
grid_empty size pages k = ap (λ (ys : List SectorSeen). if nat_le 3 (k / size) && nat_le 1 (k % size) then cell_at ys (k / size - 3) else None) (row_empty pages (k % size - 1))

-- ---- counts

faults_more : (xs : List SectorSeen) (s : SectorSeen) (copy device : ℕ) → faults_in (xs ++ s ∷ []) copy device ≡ faults_in xs copy device + faults_at s.copies copy device
faults_more [] s copy device = omega arith
faults_more (x ∷ xs) s copy device = let e = faults_more xs s copy device in omega (arith, e)

grid_faults_push : (pages : List (List SectorSeen)) (xs : List SectorSeen) (copy device : ℕ) → grid_faults copy device (pages ++ xs ∷ []) ≡ grid_faults copy device pages + faults_in xs copy device
grid_faults_push [] xs copy device = omega arith
grid_faults_push (p ∷ pages) xs copy device = let e = grid_faults_push pages xs copy device in omega (arith, e)

pub grid_faults_more : (pages : List (List SectorSeen)) (xs : List SectorSeen) (s : SectorSeen) (copy device : ℕ) →
    grid_faults copy device (pages ++ (xs ++ s ∷ []) ∷ []) ≡ grid_faults copy device (pages ++ xs ∷ []) + faults_at s.copies copy device
grid_faults_more pages xs s copy device =
    let e = grid_faults_push pages (xs ++ s ∷ []) copy device in
    let f = grid_faults_push pages xs copy device in
    let g = faults_more xs s copy device in
    omega (arith, e, f, g)

pub grid_faults_empty : (pages : List (List SectorSeen)) (copy device : ℕ) → grid_faults copy device (pages ++ [] ∷ []) ≡ grid_faults copy device pages
grid_faults_empty pages copy device = let e = grid_faults_push pages [] copy device in omega (arith, e)
