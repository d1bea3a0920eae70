-- A copy whose pieces of pages come back into its slots, page by page, the last first.
use Rattle.std.proofs.Common.{◌≡◌, inl, inr, ℕ, zero, suc, ◌+◌, ◌-◌, ◌<◌, ◌≤◌, true, refl, sym, ◌∙◌, ap, subst, arith, List, [], ◌∷◌, ◌++◌, length, map, get_or, set, take, Option, Some, None}
use Rattle.std.specs.Prelude.{is_some}
use Rattle.std.proofs.lemmas.Bool.{cases_order}
use Rattle.std.proofs.lemmas.List.{length-map, length-append, map_push, same_from_push, take_more}
use Rattle.vx_piece.specs.Seen.{Seen}
use Rattle.vx_pages.specs.declared.local_piece.LocalPiece.{Ghosts}
use Rattle.vx_pages.specs.declared.page.Page.{Page}
use Rattle.vx_pages.specs.Items.{EachItem, item_at}
use Rattle.vx_pages.specs.Page.{ArePaired}
use Rattle.vx_pages.specs.Pages.{sectors_of}
use Rattle.vx_pages.specs.Parting.{pieces_on}
use Rattle.vx_pages.specs.Sector.{SectorSeen, copy_of, faults_at, faults_on}
use Rattle.vx_pages.specs.Sectors.{sector_seen}
use Rattle.vx_pages.proofs.Items.{at_is, at_set, at_other, set_size}
use Rattle.vx_maps.specs.Slots.{HasCut, HasHolesOn, IsHoled, Moved, Whole, place_of, row_at, whole_of}
use Rattle.vx_maps.proofs.Cuts.{cut_out, cut_full}
use Rattle.vx_maps.proofs.PlaceLaws.{place_other}
use Rattle.vx_maps.proofs.Places.{paired_front}

-- ---- the pieces of one page

pub two_counts : (copy : ℕ) (s : SectorSeen) → copy < 2 → is_some s.copies.second ≡ true → (device : ℕ) → faults_at s.copies copy device ≡ faults_on (copy_of s.copies copy) device
two_counts zero s some pair device = refl
two_counts (suc zero) s some pair device = by s.copies.second pair
  where
    by : (second : Option Seen) → is_some second ≡ true → faults_at (record { first = s.copies.first; second = second }) 1 device ≡ faults_on (copy_of (record { first = s.copies.first; second = second }) 1) device
    by None pair = cc
    by (Some p) pair = refl
two_counts (suc (suc n)) s some pair device = absurd (omega arith)

-- the last of some items
record Last {A : Type 0} (xs : List A) : Type 0 where
  front : List A
  last : A
  is : xs ≡ front ++ last ∷ []

last_of : {A : Type 0} (x : A) (xs : List A) → Last (x ∷ xs)
last_of x [] = record { front = []; last = x; is = refl }
last_of {A = A} x (y ∷ ys) = let l = last_of y ys in record { front = x ∷ l.front; last = l.last; is = ap (λ (zs : List A). x ∷ zs) l.is }

-- these pieces are those of a page's first sectors, and with them the slots are the copy
pub record StillCut (size copy : ℕ) (pages : List (List SectorSeen)) (whole : Whole) (pieces : List Seen) (slots : List (Option Seen)) : Type 0 where
  pub row : List SectorSeen
  pub pair : ArePaired true row
  pub are : pieces ≡ pieces_on copy row
  pub cut : HasCut size copy (pages ++ row ∷ []) whole slots

pub one_back : (size copy at : ℕ) (pages : List (List SectorSeen)) (whole : Whole) (pieces pieces' : List Seen) (p : Seen) (slots slots' : List (Option Seen)) → pieces ≡ pieces' ++ p ∷ [] → at ≡ place_of size (length pieces') (length pages) →
    1 + length pages < size → copy < 2 → Moved at p slots' slots → StillCut size copy pages whole pieces slots → StillCut size copy pages whole pieces' slots'
one_back size copy at pages whole pieces pieces' p slots slots' e place fits some moved still = by still.row still.pair (sym still.are ∙ e) still.cut
  where
    by : (row : List SectorSeen) → ArePaired true row → pieces_on copy row ≡ pieces' ++ p ∷ [] → HasCut size copy (pages ++ row ∷ []) whole slots → StillCut size copy pages whole pieces' slots'
    by [] pair are cut = let n = ap (λ (xs : List Seen). length xs) are ∙ length-append pieces' (p ∷ []) in absurd (omega (arith, n))
    by (x ∷ xs) pair are cut =
        let l = last_of x xs in
        let both = same_from_push (pieces_on copy l.front) pieces' (copy_of l.last.copies copy) p
        (sym (ap (pieces_on copy) l.is ∙ map_push (λ (s : SectorSeen). copy_of s.copies copy) l.front l.last) ∙ are) in
        let front = paired_front true l.front l.last (subst (ArePaired true) l.is pair) in
        let count : length pieces' ≡ length l.front = ap (λ (ys : List Seen). length ys) (sym both.0) ∙ length-map l.front (λ (s : SectorSeen). copy_of s.copies copy) in
        record {
          row = l.front;
          pair = front.0;
          are = sym both.0;
          cut =
              cut_out size copy pages l.front l.last at slots' slots (subst (λ (q : Seen). Moved at q slots' slots) (sym both.1) moved) (place ∙ ap (λ (n : ℕ). place_of size n (length pages)) count) fits (two_counts copy l.last some front.1) whole
              (subst (λ (ys : List SectorSeen). HasCut size copy (pages ++ ys ∷ []) whole slots) l.is cut);
        }

pub all_back : (size copy : ℕ) (pages : List (List SectorSeen)) (whole : Whole) (pieces : List Seen) (slots : List (Option Seen)) → pieces ≡ [] → StillCut size copy pages whole pieces slots → HasCut size copy pages whole slots
all_back size copy pages whole pieces slots none still = by still.row (sym still.are ∙ none) still.cut
  where
    by : (row : List SectorSeen) → pieces_on copy row ≡ [] → HasCut size copy (pages ++ row ∷ []) whole slots → HasCut size copy pages whole slots
    by [] are cut = cut_full size copy pages whole slots cut
    by (x ∷ xs) are cut = let n = ap (λ (ys : List Seen). length ys) are in absurd (omega (arith, n))

pub holes_left : (size page m at : ℕ) (p : Seen) (out in' : List (Option Seen)) → at ≡ place_of size m page → 1 + page < size → Moved at p out in' → HasHolesOn size page (m + 1) in' → HasHolesOn size page m out
holes_left size page m at p out in' place fits moved h k lt =
    let had = h k (omega (arith, lt)) in
    let e = moved.size in
    let l = had.0 in
    (omega (arith, e, l), sym (moved.others (place_of size k page) (λ same. place_other size k m page fits (λ g. omega (arith, lt, g)) (same ∙ place))) ∙ had.1)

-- ---- the pages, the last first

-- the items from this index on have gone so, and the others are as they were
pub record Back {A : Type 0} (none : A) (fact : A → A → Type 0) (i : ℕ) (old now : List A) : Type 0 where
  pub size : length now ≡ length old
  pub rest : (m : ℕ) → m < i → item_at none now m ≡ item_at none old m
  pub above : (m : ℕ) → i ≤ m → m < length old → fact (item_at none old m) (item_at none now m)

pub back_none : {A : Type 0} (none : A) (fact : A → A → Type 0) (i : ℕ) (old : List A) → length old ≤ i → Back none fact i old old
back_none none fact i old le = record { size = refl; rest = λ m lt. refl; above = λ m from lt. absurd (omega (arith, le, from, lt)) }

pub back_all : {A : Type 0} (none : A) (fact : A → A → Type 0) (old now : List A) → Back none fact 0 old now → EachItem none (λ i. fact) old now
back_all none fact old now back = record { size = back.size; each = λ m lt. back.above m (omega arith) lt }

module _ {T A : Type 0} (none : A) (see : T → A) (fact : A → A → Type 0) (old : List A) (now : List T) (i j : ℕ) (p q : T) (next : j ≡ i + 1) (lt : i < length now) (is : p ≡ get_or now i p) (back : Back none fact j old (map see now)) where
  pub back_at : see p ≡ item_at none old i
  back_at = ap see is ∙ sym (at_is none see now i p lt) ∙ back.rest i (omega (arith, next))

  pub back_on : fact (see p) (see q) → Back none fact i old (map see (set now i q))
  back_on step =
      record {
        size = set_size none see now i q ∙ back.size;
        rest = λ m low. at_other none see now i m q (λ e. absurd (omega (arith, e, low))) ∙ back.rest m (omega (arith, low, next));
        above = λ m from inside.
            elim (cases_order m i) [
              | inl same ↦ subst (λ (k : ℕ). fact (item_at none old k) (item_at none (map see (set now i q)) k)) (sym same) here
              | inr (inl low) ↦ absurd (omega (arith, from, low))
              | inr (inr high) ↦ subst (λ (s : A). fact (item_at none old m) s) (sym (at_other none see now i m q (λ e. absurd (omega (arith, e, high))))) (back.above m (omega (arith, high, next)) inside)
            ];
      }
    where
      here : fact (item_at none old i) (item_at none (map see (set now i q)) i)
      here = subst (λ (s : A). fact (item_at none old i) s) (sym (at_set none see now i q lt)) (subst (λ (s : A). fact s (see q)) back_at step)

row_got : (grid : List (List SectorSeen)) (i : ℕ) (d : List SectorSeen) → i < length grid → get_or grid i d ≡ row_at grid i
row_got [] i d lt = absurd (omega (arith, lt))
row_got (x ∷ grid) zero d lt = refl
row_got (x ∷ grid) (suc i) d lt = row_got grid i d (omega (arith, lt))

pub one_row : (grid : List (List SectorSeen)) (i : ℕ) → i < length grid → take (i + 1) grid ≡ take i grid ++ row_at grid i ∷ []
one_row grid i lt = take_more grid i [] lt ∙ ap (λ (row : List SectorSeen). take i grid ++ row ∷ []) (row_got grid i [] lt)

pub row_taken : (grid : List (List SectorSeen)) (i n : ℕ) → i < n → row_at (take n grid) i ≡ row_at grid i
row_taken [] i zero lt = refl
row_taken [] i (suc n) lt = refl
row_taken (x ∷ grid) i zero lt = absurd (omega (arith, lt))
row_taken (x ∷ grid) zero (suc n) lt = refl
row_taken (x ∷ grid) (suc i) (suc n) lt = row_taken grid i n (omega (arith, lt))

pub page_pieces : {P : Type 0} {ghosts : Ghosts P} (page : Page P ghosts) (copy : ℕ) (gone : List P) → map ghosts.seen gone ≡ pieces_on copy (sectors_of ghosts.seen page) → length gone ≡ 32
page_pieces {ghosts = ghosts} page copy gone e =
    sym (length-map gone ghosts.seen) ∙ ap (λ (ps : List Seen). length ps) e ∙ length-map (sectors_of ghosts.seen page) (λ (s : SectorSeen). copy_of s.copies copy) ∙ length-map page.sectors.items (sector_seen ghosts.seen) ∙ page.maps

pub whole_at_first : (size copy : ℕ) (grid : List (List SectorSeen)) (slots : List (Option Seen)) → IsHoled size grid slots → HasCut size copy grid (whole_of size copy grid slots) slots
whole_at_first size copy grid slots holed = record { holed = holed; pieces = refl; faults = λ device. refl }
