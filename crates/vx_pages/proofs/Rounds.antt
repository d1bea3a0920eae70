-- How a loop over the items of a list goes on and ends, by what is seen of each.
use Rattle.std.proofs.Common.{◌≡◌, inl, inr, ℕ, ◌+◌, ◌<◌, ◌≤◌, refl, sym, ◌∙◌, ap, subst, arith, List, length, map, get_or, set}
use Rattle.std.proofs.lemmas.Bool.{cases_order}
use Rattle.std.proofs.lemmas.List.{length-map}
use Rattle.vx_pages.specs.Items.{item_at, EachItem}
use Rattle.vx_pages.proofs.Items.{at_is, at_set, at_other, set_size}

-- the items below this index have gone so, and the others are as they were
pub record Went {A : Type 0} (none : A) (fact : ℕ → A → A → Type 0) (i : ℕ) (old now : List A) : Type 0 where
  pub size : length now ≡ length old
  pub below : (map : ℕ) → map < i → map < length old → fact map (item_at none old map) (item_at none now map)
  pub rest : (map : ℕ) → i ≤ map → item_at none now map ≡ item_at none old map

pub starts : {A : Type 0} (none : A) → (fact : ℕ → A → A → Type 0) (old : List A) → Went none fact 0 old old
starts none fact old = record { size = refl; below = λ map lt inside. absurd (omega arith); rest = λ map le. refl }

pub ends : {A : Type 0} (none : A) → (fact : ℕ → A → A → Type 0) (i : ℕ) (old now : List A) → length old ≤ i → Went none fact i old now → EachItem none fact old now
ends none fact i old now le went = record { size = went.size; each = λ map lt. went.below map (omega arith) lt }

module _ {T A : Type 0} (none : A) (see : T → A) where
  -- the item at an index is still as it was
  pub still : (fact : ℕ → A → A → Type 0) (old : List A) (now : List T) (i : ℕ) (p : T) → i < length now → p ≡ get_or now i p → Went none fact i old (map see now) → see p ≡ item_at none old i
  still fact old now i p lt is went = ap see is ∙ sym (at_is none see now i p lt) ∙ went.rest i (omega arith)

  pub inside_old : (fact : ℕ → A → A → Type 0) (old : List A) (now : List T) (i : ℕ) → i < length now → Went none fact i old (map see now) → i < length old
  inside_old fact old now i lt went = let e = length-map now see in let f = went.size in omega (arith, e, f)

  pub goes_on : (fact : ℕ → A → A → Type 0) (old : List A) (now : List T) (i : ℕ) (p q : T) → i < length now → p ≡ get_or now i p → Went none fact i old (map see now) →
      fact i (see p) (see q) → Went none fact (i + 1) old (map see (set now i q))
  goes_on fact old now i p q lt is went step =
      record {
        size = set_size none see now i q ∙ went.size;
        below = λ m low inside.
            elim (cases_order m i) [
              | inl same ↦ subst (λ (k : ℕ). fact k (item_at none old k) (item_at none (map see (set now i q)) k)) (sym same) here
              | inr (inl lower) ↦ subst (λ (s : A). fact m (item_at none old m) s) (sym (at_other none see now i m q (λ e. absurd (omega arith)))) (went.below m lower inside)
              | inr (inr higher) ↦ absurd (omega arith)
            ];
        rest = λ m le. at_other none see now i m q (λ e. absurd (omega arith)) ∙ went.rest m (omega arith);
      }
    where
      here : fact i (item_at none old i) (item_at none (map see (set now i q)) i)
      here = subst (λ (s : A). fact i (item_at none old i) s) (sym (at_set none see now i q lt)) (subst (λ (s : A). fact i s (see q)) (still fact old now i p lt is went) step)

  -- a call on one item fails
  pub stops : (fact fails : ℕ → A → A → Type 0) (old : List A) (now : List T) (i : ℕ) (p q : T) → i < length now → p ≡ get_or now i p → Went none fact i old (map see now) →
      ((map : ℕ) (a b : A) → fact map a b → fails map a b) → ((map : ℕ) (a : A) → fails map a a) → fails i (see p) (see q) → EachItem none fails old (map see (set now i q))
  stops fact fails old now i p q lt is went well idle step =
      record {
        size = set_size none see now i q ∙ went.size;
        each = λ m inside.
            elim (cases_order m i) [
              | inl same ↦ subst (λ (k : ℕ). fails k (item_at none old k) (item_at none (map see (set now i q)) k)) (sym same) here
              | inr (inl lower) ↦
                  well m _ _ (subst (λ (s : A). fact m (item_at none old m) s) (sym (at_other none see now i m q (λ e. absurd (omega arith)))) (went.below m lower inside))
              | inr (inr higher) ↦
                  subst (λ (s : A). fails m (item_at none old m) s) (sym (at_other none see now i m q (λ e. absurd (omega arith)) ∙ went.rest m (omega arith))) (idle m (item_at none old m))
            ];
      }
    where
      here : fails i (item_at none old i) (item_at none (map see (set now i q)) i)
      here = subst (λ (s : A). fails i (item_at none old i) s) (sym (at_set none see now i q lt)) (subst (λ (s : A). fails i s (see q)) (still fact old now i p lt is went) step)
