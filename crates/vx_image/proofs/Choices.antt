-- What holds for each choice of the marks of a region can be decided, where only the marks of finitely many maps matter: both marks
-- of each of these maps are tried.
use Rattle.std.proofs.Common.{◌≡◌, ◌⊎◌, inl, inr, ℕ, Bool, true, false, refl, sym, ◌∙◌, subst, ap, cond, List, [], ◌∷◌}
use Rattle.std.specs.Prelude.{◌==◌, Contains, Decides}
use Rattle.std.specs.List.{list_all, list_any}
use Rattle.std.proofs.lemmas.Bool.{false≢true}
use Rattle.std.proofs.lemmas.Bool.Decides.{Decides-eqb}
use Rattle.vx_image.proofs.PlexMembers.{IsIn}
use Rattle.vx_image.specs.Image.{LogCopy, Image, is_marked_by_all, is_marked_by_some}
use Rattle.vx_image.specs.Soundness.{IsChoiceOfMarks}
use Rattle.vx_image.proofs.Members.{contains, any_from_one, each_from_all}
use Rattle.vx_image.proofs.Decided.{Decided, after_decided, both_decided, decided_by, same_truth}

-- ---- one mark

-- the marks, but this one of this map
abbrev with_mark : ℕ → Bool → (ℕ → Bool) → ℕ → Bool
with_mark k b B j = cond (j == k) b (B j)

-- a mark is that one, or as it was
at_mark : (k : ℕ) (b : Bool) (B : ℕ → Bool) (j : ℕ) → ((j ≡ k) × (with_mark k b B j ≡ b)) ⊎ ((j ≡ k → ⊥) × (with_mark k b B j ≡ B j))
at_mark k b B j = by (j == k) (Decides-eqb j k)
  where
    by : (t : Bool) → Decides t (j ≡ k) → ((j ≡ k) × (cond t b (B j) ≡ b)) ⊎ ((j ≡ k → ⊥) × (cond t b (B j) ≡ B j))
    by true decides = inl (decides.0 refl, refl)
    by false decides = inr ((λ same. false≢true (decides.1 same)), refl)

-- the marks, but those of the other choice for the maps
mixed : (ℕ → Bool) → List ℕ → (ℕ → Bool) → ℕ → Bool
mixed C [] B = B
mixed C (k ∷ ks) B = mixed C ks (with_mark k (C k) B)

mixed_is : (C : ℕ → Bool) (ks : List ℕ) (B : ℕ → Bool) (j : ℕ) → IsIn ks j ⊎ (B j ≡ C j) → mixed C ks B j ≡ C j
unfolding mixed
mixed_is C [] B j (inl one) = absurd one
mixed_is C [] B j (inr same) = same
mixed_is C (k ∷ ks) B j h = mixed_is C ks (with_mark k (C k) B) j (by (at_mark k (C k) B j) h)
  where
    by : ((j ≡ k) × (with_mark k (C k) B j ≡ C k)) ⊎ ((j ≡ k → ⊥) × (with_mark k (C k) B j ≡ B j)) → IsIn (k ∷ ks) j ⊎ (B j ≡ C j) → IsIn ks j ⊎ (with_mark k (C k) B j ≡ C j)
    by (inl here) h = inr (here.1 ∙ ap C (sym here.0))
    by (inr other) (inl (inl same)) = absurd (other.0 same)
    by (inr other) (inl (inr one)) = inl one
    by (inr other) (inr same) = inr (other.1 ∙ same)

-- ---- all choices

module _ (v : Image) (r : ℕ) where
  with_mark_chosen : (k : ℕ) (b : Bool) (B : ℕ → Bool) → (is_marked_by_all v r k ≡ true → b ≡ true) → (b ≡ true → is_marked_by_some v r k ≡ true) → IsChoiceOfMarks v r B →
      IsChoiceOfMarks v r (with_mark k b B)
  with_mark_chosen k b B least most choice = record {
    least = λ j all. elim (at_mark k b B j) [
      | inl here ↦ here.1 ∙ least (subst (λ i. is_marked_by_all v r i ≡ true) here.0 all)
      | inr other ↦ other.1 ∙ choice.least j all
    ];
    most = λ j marked. elim (at_mark k b B j) [
      | inl here ↦ subst (λ i. is_marked_by_some v r i ≡ true) (sym here.0) (most (sym here.1 ∙ marked))
      | inr other ↦ choice.most j (sym other.1 ∙ marked)
    ];
  }

  -- where a choice leaves a map unmarked, not every copy marks it
  unmarked_by_one : (C : ℕ → Bool) → IsChoiceOfMarks v r C → (k : ℕ) → C k ≡ false → is_marked_by_all v r k ≡ false
  unmarked_by_one C choice k clear = by (is_marked_by_all v r k) refl
    where
      by : (b : Bool) → is_marked_by_all v r k ≡ b → b ≡ false
      by true all = absurd (false≢true (sym clear ∙ choice.least k all))
      by false all = refl

  module _ (P : (ℕ → Bool) → Type 0) where
    -- it holds for each choice that differs from this one in the marks of these maps alone
    abbrev HoldsOver : List ℕ → (ℕ → Bool) → Type 0
    HoldsOver [] B = P B
    HoldsOver (k ∷ ks) B = (is_marked_by_some v r k ≡ true → HoldsOver ks (with_mark k true B)) × (is_marked_by_all v r k ≡ false → HoldsOver ks (with_mark k false B))

    over_decided : ((B : ℕ → Bool) → Decided (P B)) → (ks : List ℕ) (B : ℕ → Bool) → Decided (HoldsOver ks B)
    over_decided each [] B = each B
    over_decided each (k ∷ ks) B =
        both_decided (after_decided (same_truth (is_marked_by_some v r k) true) (over_decided each ks (with_mark k true B)))
        (after_decided (same_truth (is_marked_by_all v r k) false) (over_decided each ks (with_mark k false B)))

    into_over : ((B : ℕ → Bool) → IsChoiceOfMarks v r B → P B) → (ks : List ℕ) (B : ℕ → Bool) → IsChoiceOfMarks v r B → HoldsOver ks B
    into_over each [] B choice = each B choice
    into_over each (k ∷ ks) B choice = (
      (λ some. into_over each ks (with_mark k true B) (with_mark_chosen k true B (λ all. refl) (λ marked. some) choice)),
      (λ one. into_over each ks (with_mark k false B) (with_mark_chosen k false B (λ all. sym one ∙ all) (λ marked. absurd (false≢true marked)) choice)),
    )

    from_over : (C : ℕ → Bool) → IsChoiceOfMarks v r C → (ks : List ℕ) (B : ℕ → Bool) → HoldsOver ks B → P (mixed C ks B)
    unfolding mixed
    from_over C choice [] B over = over
    from_over C choice (k ∷ ks) B over = from_over C choice ks (with_mark k (C k) B) (by (C k) refl)
      where
        by : (b : Bool) → C k ≡ b → HoldsOver ks (with_mark k b B)
        by true marked = over.0 (choice.most k marked)
        by false clear = over.1 (unmarked_by_one C choice k clear)

    -- where there is no copy there is no choice; else what every copy marks is one
    pub choices_decided : ((B : ℕ → Bool) → Decided (P B)) → (ks : List ℕ) → ((B C : ℕ → Bool) → ((k : ℕ) → IsIn ks k → B k ≡ C k) → P B → P C) →
        Decided ((B : ℕ → Bool) → IsChoiceOfMarks v r B → P B)
    choices_decided each ks alike = by v.copies refl
      where
        none : (B : ℕ → Bool) → IsChoiceOfMarks v r B → v.copies ≡ [] → ⊥
        none B choice e =
            let all : is_marked_by_all v r 30 ≡ true = ap (λ (cs : List LogCopy). list_all (λ (c : LogCopy). c r 30) cs) e in
            let some : is_marked_by_some v r 30 ≡ false = ap (λ (cs : List LogCopy). list_any (λ (c : LogCopy). c r 30) cs) e in
            false≢true (sym some ∙ choice.most 30 (choice.least 30 all))

        first : (c : LogCopy) (cs : List LogCopy) → v.copies ≡ c ∷ cs → IsChoiceOfMarks v r (is_marked_by_all v r)
        first c cs e =
            let one : Contains v.copies c = subst (λ (xs : List LogCopy). Contains xs c) (sym e) (contains (c ∷ cs) c (inl refl)) in
            record {
              least = λ k all. all;
              most = λ k all. any_from_one (λ (d : LogCopy). d r k) v.copies c one (each_from_all (λ (d : LogCopy). d r k) v.copies c all one);
            }

        by : (cs : List LogCopy) → v.copies ≡ cs → Decided ((B : ℕ → Bool) → IsChoiceOfMarks v r B → P B)
        by [] e = inl (λ B choice. absurd (none B choice e))
        by (c ∷ cs) e =
            decided_by (λ over C choice. alike (mixed C ks (is_marked_by_all v r)) C (λ k one. mixed_is C ks (is_marked_by_all v r) k (inl one)) (from_over C choice ks (is_marked_by_all v r) over))
            (λ all. into_over all ks (is_marked_by_all v r) (first c cs e))
            (over_decided each ks (is_marked_by_all v r))
