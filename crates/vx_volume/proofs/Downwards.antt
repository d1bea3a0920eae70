-- A loop over the items of a list from the last to the first, with the items of another list.
use Rattle.std.proofs.Common.{◌≡◌, inl, inr, ℕ, ◌+◌, ◌<◌, ◌≤◌, refl, sym, ◌∙◌, ap, subst, arith, List, [], ◌∷◌, ◌++◌, length, map, get_or, set}
use Rattle.std.specs.Global.{Vec}
use Rattle.std.proofs.lemmas.Bool.{cases_order}
use Rattle.std.proofs.lemmas.List.{get_or-set_other, length-append, length-map, map_push}
use Rattle.vx_piece.specs.Seen.{Seen}
use Rattle.vx_pages.specs.Items.{EachItem, item_at}
use Rattle.vx_pages.proofs.Items.{at_is, at_other, at_set, set_size}
use Rattle.vx_maps.proofs.FetchRows.{before_at, last_at}
use Rattle.vx_cell.specs.declared.cell.Cell.{Cell}
use Rattle.vx_cell.specs.Changes.{HasRoom}
use Rattle.vx_volume.specs.Changing.{runs_seen}

-- the items from this index on have gone so, and the others are as they were
pub record Came {A : Type 0} (none : A) (fact : ℕ → A → A → Type 0) (i : ℕ) (old now : List A) : Type 0 where
  pub size : length now ≡ length old
  pub above : (m : ℕ) → i ≤ m → m < length old → fact m (item_at none old m) (item_at none now m)
  pub rest : (m : ℕ) → m < i → item_at none now m ≡ item_at none old m

pub none_came : {A : Type 0} (none : A) (fact : ℕ → A → A → Type 0) (i : ℕ) (old : List A) → length old ≤ i → Came none fact i old old
none_came none fact i old le = record { size = refl; above = λ m low inside. absurd (omega (arith, le, low, inside)); rest = λ m lt. refl }

pub all_came : {A : Type 0} (none : A) (fact : ℕ → A → A → Type 0) (i : ℕ) (old now : List A) → i ≡ 0 → Came none fact i old now → EachItem none fact old now
all_came none fact i old now zero came = record { size = came.size; each = λ m lt. came.above m (omega (arith, zero)) lt }

module _ {T A : Type 0} (none : A) (see : T → A) where
  pub comes_on : (fact : ℕ → A → A → Type 0) (old : List A) (now : List T) (i j : ℕ) (p q : T) → i ≡ j + 1 → j < length now → p ≡ get_or now j p → Came none fact i old (map see now) → fact j (see p) (see q) → Came none fact j old (map see (set now j q))
  comes_on fact old now i j p q next lt is came step =
      record {
        size = set_size none see now j q ∙ came.size;
        above = λ m low inside.
            elim (cases_order m j) [
              | inl same ↦ subst (λ (k : ℕ). fact k (item_at none old k) (item_at none (map see (set now j q)) k)) (sym same) here
              | inr (inl lower) ↦ absurd (omega (arith, low, lower))
              | inr (inr higher) ↦
                  subst (λ (s : A). fact m (item_at none old m) s) (sym (at_other none see now j m q (λ e. absurd (omega (arith, e, higher))))) (came.above m (omega (arith, next, higher)) inside)
            ];
        rest = λ m less. at_other none see now j m q (λ e. absurd (omega (arith, e, less))) ∙ came.rest m (omega (arith, next, less));
      }
    where
      was : see p ≡ item_at none old j
      was = ap see is ∙ sym (at_is none see now j p lt) ∙ came.rest j (omega (arith, next))

      here : fact j (item_at none old j) (item_at none (map see (set now j q)) j)
      here = subst (λ (s : A). fact j (item_at none old j) s) (sym (at_set none see now j q lt)) (subst (λ (s : A). fact j s (see q)) was step)

-- ---- the pieces that are left

pub rest_length : {A : Type 0} (left rest : List A) (x : A) → left ≡ rest ++ x ∷ [] → length left ≡ length rest + 1
rest_length left rest x last = ap (λ (xs : List _). length xs) last ∙ length-append rest (x ∷ [])

module _ {P : Type 0} (seen : P → Seen) (left rest : List (Vec P)) (run : Vec P) (last : left ≡ rest ++ run ∷ []) where
  abbrev run_of : Vec P → List Seen
  run_of v = map seen v.items

  runs_split : runs_seen seen left ≡ runs_seen seen rest ++ map seen run.items ∷ []
  runs_split = ap (runs_seen seen) last ∙ map_push run_of rest run

  pub run_last : (i : ℕ) → i ≡ length rest → item_at [] (runs_seen seen left) i ≡ map seen run.items
  run_last i e =
      ap (λ (xs : List (List Seen)). item_at [] xs i) runs_split
      ∙ ap (λ (n : ℕ). item_at [] (runs_seen seen rest ++ map seen run.items ∷ []) n) (e ∙ sym (length-map rest run_of))
      ∙ last_at [] (runs_seen seen rest) (map seen run.items)

  pub run_before : (m : ℕ) → m < length rest → item_at [] (runs_seen seen rest) m ≡ item_at [] (runs_seen seen left) m
  run_before m lt =
      let inside : m < length (runs_seen seen rest) = subst (λ (n : ℕ). m < n) (sym (length-map rest run_of)) lt in
      sym (ap (λ (xs : List (List Seen)). item_at [] xs m) runs_split ∙ before_at [] (runs_seen seen rest) (map seen run.items) m inside)

-- ---- room

abbrev pub RoomBelow : {P : Type 0} → ℕ → List (Cell P) → Type 0
RoomBelow i cells = (r : ℕ) → r < i → (d : Cell _) → HasRoom (get_or cells r d)

pub room_below : {P : Type 0} (cells : List (Cell P)) (i j : ℕ) (q : Cell P) → i ≡ j + 1 → RoomBelow i cells → RoomBelow j (set cells j q)
room_below cells i j q next room r less d =
    subst (λ (x : Cell _). HasRoom x) (sym (get_or-set_other cells j r q d (λ e. absurd (omega (arith, e, less))))) (room r (omega (arith, next, less)) d)
