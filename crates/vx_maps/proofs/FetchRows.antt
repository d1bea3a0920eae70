-- How the pages of a store are read one after another.
use Rattle.std.proofs.Common.{◌≡◌, inl, inr, ℕ, zero, suc, ◌+◌, ◌<◌, Bool, refl, sym, ◌∙◌, ap, subst, arith, List, [], ◌∷◌, ◌++◌, length, map, get_or, set, Err}
use Rattle.std.specs.Prelude.{is_some, if◌then◌else◌}
use Rattle.std.specs.Global.{Vec}
use Rattle.std.proofs.lemmas.Bool.{cases_order}
use Rattle.std.proofs.lemmas.List.{length-map, map_push}
use Rattle.vx_marks.specs.Log.{LogSeen, MarkHasCause}
use Rattle.vx_marks.specs.declared.marker.MarkFault.{MarkFault}
use Rattle.vx_marks.specs.declared.marker.MarkFault.TheVariants.{Failed, PowerLost, Busy}
use Rattle.vx_pages.specs.Images.{images_seen}
use Rattle.vx_pages.specs.Items.{item_at}
use Rattle.vx_pages.specs.Page.{sector_at}
use Rattle.vx_pages.specs.Reading.{AreImages, IsCopyOf}
use Rattle.vx_pages.specs.Sector.{Copies, SectorSeen, HasCause}
use Rattle.vx_pages.proofs.Items.{at_is, at_set, at_other, set_size}
use Rattle.vx_maps.specs.Loading.{AreCopied, AreRows, images_at, rows_seen}
use Rattle.vx_maps.specs.Slots.{ArePairedRows, row_at}

-- ---- one more item of a list

module _ {T A : Type 0} (none : A) (see : T → A) (fact : ℕ → A → Type 0) where
  -- what holds of the items below an index, holds of one more that is put there
  pub below_on : (xs : List T) (i : ℕ) (q : T) → i < length xs → ((m : ℕ) → m < i → fact m (item_at none (map see xs) m)) → fact i (see q) → (m : ℕ) → m < i + 1 → fact m (item_at none (map see (set xs i q)) m)
  below_on xs i q lt before here m inside =
      elim (cases_order m i) [
        | inl same ↦ subst (λ (k : ℕ). fact k (item_at none (map see (set xs i q)) k)) (sym same) (subst (λ (x : A). fact i x) (sym (at_set none see xs i q lt)) here)
        | inr (inl low) ↦ subst (λ (x : A). fact m x) (sym (at_other none see xs i m q (λ e. absurd (omega arith)))) (before m low)
        | inr (inr high) ↦ absurd (omega arith)
      ]

  -- what holds of each item, holds of each where one is put
  pub all_on : (n : ℕ) (xs : List T) (i : ℕ) (q : T) → i < length xs → ((m : ℕ) → m < n → fact m (item_at none (map see xs) m)) → fact i (see q) → (m : ℕ) → m < n → fact m (item_at none (map see (set xs i q)) m)
  all_on n xs i q lt before here m inside =
      elim (cases_order m i) [
        | inl same ↦ subst (λ (k : ℕ). fact k (item_at none (map see (set xs i q)) k)) (sym same) (subst (λ (x : A). fact i x) (sym (at_set none see xs i q lt)) here)
        | inr (inl low) ↦ subst (λ (x : A). fact m x) (sym (at_other none see xs i m q (λ e. absurd (omega arith)))) (before m inside)
        | inr (inr high) ↦ subst (λ (x : A). fact m x) (sym (at_other none see xs i m q (λ e. absurd (omega arith)))) (before m inside)
      ]

-- the last item of a list
pub last_at : {A : Type 0} (none : A) (xs : List A) (x : A) → item_at none (xs ++ x ∷ []) (length xs) ≡ x
last_at none [] x = refl
last_at none (y ∷ xs) x = last_at none xs x

-- one before it
pub before_at : {A : Type 0} (none : A) (xs : List A) (x : A) (m : ℕ) → m < length xs → item_at none (xs ++ x ∷ []) m ≡ item_at none xs m
before_at none [] x m lt = absurd (omega (arith, lt))
before_at none (y ∷ xs) x zero lt = refl
before_at none (y ∷ xs) x (suc m) lt = before_at none xs x m (omega (arith, lt))

-- one more item is pushed
pub pushed : {T A : Type 0} (none : A) (see : T → A) (fact : A → Type 0) (xs ys : List T) (x : T) (n : ℕ) → length xs ≡ n → ys ≡ xs ++ x ∷ [] → ((m : ℕ) → m < n → fact (item_at none (map see xs) m)) → fact (see x) →
    (m : ℕ) → m < n + 1 → fact (item_at none (map see ys) m)
pushed none see fact xs ys x n size is before here m inside =
    let e = ap (λ l. map see l) is ∙ map_push see xs x in
    let long = length-map xs see in
    subst (λ l. fact (item_at none l m)) (sym e)
    (elim (cases_order m n) [
      | inl same ↦ subst (λ a. fact a) (sym (ap (λ k. item_at none (map see xs ++ see x ∷ []) k) (same ∙ sym size ∙ sym long) ∙ last_at none (map see xs) (see x))) here
      | inr (inl low) ↦ subst (λ a. fact a) (sym (before_at none (map see xs) (see x) m (omega (arith, long, size, low)))) (before m low)
      | inr (inr high) ↦ absurd (omega arith)
    ])

-- ---- images

pub row_is : (rows : List (Vec (Vec ℕ))) (i : ℕ) (q : Vec (Vec ℕ)) → i < length rows → q ≡ get_or rows i q → images_at (rows_seen rows) i ≡ images_seen q.items
row_is rows i q lt is = at_is [] (λ (row : Vec (Vec ℕ)). images_seen row.items) rows i q lt ∙ ap (λ (row : Vec (Vec ℕ)). images_seen row.items) (sym is)

pub rows_count : (n : ℕ) (rows : List (Vec (Vec ℕ))) → AreRows n (rows_seen rows) → length rows ≡ n
rows_count n rows are = sym (length-map rows (λ (row : Vec (Vec ℕ)). images_seen row.items)) ∙ are.count

pub rows_set : (n : ℕ) (rows : List (Vec (Vec ℕ))) (i : ℕ) (q : Vec (Vec ℕ)) → i < length rows → AreImages (images_seen q.items) → AreRows n (rows_seen rows) → AreRows n (rows_seen (set rows i q))
rows_set n rows i q lt here are =
    record {
      count = set_size [] (λ (row : Vec (Vec ℕ)). images_seen row.items) rows i q ∙ are.count;
      each = all_on [] (λ (row : Vec (Vec ℕ)). images_seen row.items) (λ m. AreImages) n rows i q lt are.each here;
    }

pub rows_of_count : (n m : ℕ) (rows : List (List (List ℕ))) → m ≡ n → AreRows n rows → AreRows m rows
rows_of_count n m rows e are = subst (λ k. AreRows k rows) (sym e) are

-- ---- causes

pub page_failed : (a b : LogSeen) (fault : MarkFault) → HasCause {T = Unit {0}} a.faults b.faults b.cut (Err fault) → MarkHasCause {T = Unit {0}} a b (Err fault)
page_failed a b (Failed copy device) cause = record { rose = cause.rose; others = cause.others }
page_failed a b PowerLost cause = cause
page_failed a b Busy cause = absurd cause

-- ---- copies

of_pair : (n : ℕ) (pair : Bool) (c : Copies) → n < (if pair then 2 else 1) → is_some c.second ≡ pair → IsCopyOf n c
of_pair n pair c lt e = subst (λ b. n < (if b then 2 else 1)) (sym e) lt

pub copied_rows : (n : ℕ) (pair : Bool) (grid : List (List SectorSeen)) → n < (if pair then 2 else 1) → ArePairedRows pair grid → AreCopied n grid
copied_rows n pair grid lt pairs i inside m within = of_pair n pair (sector_at (row_at grid i) m).copies lt (pairs i inside m within)
