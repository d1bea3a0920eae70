-- Laying the extents in the order of their names finds the first that overlaps an earlier one.
use Rattle.std.proofs.Common.{◌≡◌, Bool, true, false, cond, List, [], ◌∷◌, ◌++◌, Option, Some, None, refl, sym, ap, ◌∙◌, subst, append_assoc, append-nil, ◌&&◌, ◌||◌, not}
use Rattle.std.specs.List.{list_any, fold}
use Rattle.std.specs.List.Sorted.{IsPermutation}
use Rattle.std.specs.Str.{bytes_eq}
use Rattle.std.proofs.lemmas.Bool.{false≢true, and_parts, and_from, and_left, and_right, false_from_ne_true, or_from, or_left, or_right, or_parts, not-false, not_from_true, not_from_false, true_from_ne_false}
use Rattle.std.proofs.lemmas.List.Folds.{list_any-append}
use Rattle.std.proofs.lemmas.List.Sorted.{list_any-IsPermutation}
use Rattle.vx_base.specs.Named.{Word}
use Rattle.vx_base.proofs.NamedLemmas.{bytes_eq_self, bytes_eq_same}
use Rattle.vx_config_parts.specs.declared.object.Object.{Object}
use Rattle.vx_config_parts.specs.declared.object.Object.TheVariants.{SubdiskRecord}
use Rattle.vx_config_parts.specs.Objects.{is_subdisk, comes_before}
use Rattle.vx_rules.specs.declared.extent.Extent.{Extent}
use Rattle.vx_rules.specs.Overlap.{lesser, first_overlap_with, first_overlap}
use Rattle.vx_rules.specs.Extents.{extent_of, extents, meets, rises_from, names_rise, first_clash}
use Rattle.vx_rules.proofs.NameOrder.{before_itself, before_later, not_before, same_place, up_to_before}
use Rattle.vx_rules.proofs.ListTests.{any_weaker, none_weaker}

-- some extent passes where some subdisk does
any_extent : (p : Extent → Bool) (all : List Object) → list_any (λ o. is_subdisk (λ s. p (extent_of s)) o) all ≡ list_any p (extents all)
any_extent p [] = refl
any_extent p (SubdiskRecord s ∷ os) = ap (λ b. p (extent_of s) || b) (any_extent p os)
any_extent p (o ∷ os) = any_extent p os

-- it meets one with an earlier name
abbrev pub meets_earlier : List Extent → Extent → Bool
meets_earlier xs e = list_any (λ t. comes_before t.name e.name && meets e t) xs

-- the lesser of the name so far and that of an extent that passes
abbrev pub lesser_if : (Extent → Bool) → Option Word → Extent → Option Word
lesser_if p best e = cond (p e) (lesser best e.name) best

fold_extents : (all os : List Object) (best : Option Word) → fold (first_overlap_with all) best os ≡ fold (lesser_if (meets_earlier (extents all))) best (extents os)
fold_extents all [] best = refl
fold_extents all (SubdiskRecord s ∷ os) best =
    fold_extents all os (first_overlap_with all best (SubdiskRecord s))
    ∙ ap (λ b. fold (lesser_if (meets_earlier (extents all))) (cond b (lesser best s.name) best) (extents os)) (any_extent (λ t. comes_before t.name s.name && meets (extent_of s) t) all)
fold_extents all (o ∷ os) best = fold_extents all os best

-- the first by name of those that pass
abbrev pub IsFirst : (Extent → Bool) → Option Word → List Extent → Type 0
IsFirst p None xs = list_any p xs ≡ false
IsFirst p (Some name) xs = (list_any (λ e. p e && bytes_eq e.name name) xs ≡ true) × (list_any (λ e. p e && comes_before e.name name) xs ≡ false)

first_more : (p : Extent → Bool) (best : Option Word) (done : List Extent) (e : Extent) (b : Bool) → p e ≡ b → IsFirst p best done → IsFirst p (cond b (lesser best e.name) best) (done ++ e ∷ [])
first_more p None done e false fails h = list_any-append p done (e ∷ []) ∙ or_from _ _ h (or_from _ _ fails refl)
first_more p (Some name) done e false fails h = (
  list_any-append (λ x. p x && bytes_eq x.name name) done (e ∷ []) ∙ or_left _ _ h.0,
  list_any-append (λ x. p x && comes_before x.name name) done (e ∷ []) ∙ or_from _ _ h.1 (or_from _ _ (and_left _ _ fails) refl),
)
first_more p None done e true passes h = (
  list_any-append (λ x. p x && bytes_eq x.name e.name) done (e ∷ []) ∙ or_right _ _ (or_left _ _ (and_from _ _ passes (bytes_eq_self e.name))),
  list_any-append (λ x. p x && comes_before x.name e.name) done (e ∷ [])
      ∙ or_from _ _ (none_weaker (λ x. p x && comes_before x.name e.name) p done (λ x k. (and_parts _ _ k).0) h) (or_from _ _ (and_right _ _ (before_itself e.name)) refl),
)
first_more p (Some name) done e true passes h = by (comes_before e.name name) refl
  where
    by : (b : Bool) → comes_before e.name name ≡ b → IsFirst p (cond b (Some e.name) (Some name)) (done ++ e ∷ [])
    by true sooner = (
      list_any-append (λ x. p x && bytes_eq x.name e.name) done (e ∷ []) ∙ or_right _ _ (or_left _ _ (and_from _ _ passes (bytes_eq_self e.name))),
      list_any-append (λ x. p x && comes_before x.name e.name) done (e ∷ [])
          ∙ or_from _ _ (none_weaker (λ x. p x && comes_before x.name e.name) (λ x. p x && comes_before x.name name) done (λ x k. let parts = and_parts (p x) (comes_before x.name e.name) k in and_from _ _ parts.0 (before_later x.name e.name name parts.1 sooner)) h.1) (or_from _ _ (and_right _ _ (before_itself e.name)) refl),
    )
    by false later = (
      list_any-append (λ x. p x && bytes_eq x.name name) done (e ∷ []) ∙ or_left _ _ h.0,
      list_any-append (λ x. p x && comes_before x.name name) done (e ∷ []) ∙ or_from _ _ h.1 (or_from _ _ (and_right _ _ later) refl),
    )

folded : (p : Extent → Bool) (best : Option Word) (done xs : List Extent) → IsFirst p best done → IsFirst p (fold (lesser_if p) best xs) (done ++ xs)
folded p best done [] h = subst (λ l. IsFirst p best l) (sym (append-nil done)) h
folded p best done (x ∷ xs) h =
    subst (λ l. IsFirst p (fold (lesser_if p) (lesser_if p best x) xs) l) (append_assoc done (x ∷ []) xs) (folded p (lesser_if p best x) (done ++ x ∷ []) xs (first_more p best done x (p x) refl h))

-- the same extents have the same first
first_moved : (p : Extent → Bool) (best : Option Word) (xs ys : List Extent) → IsPermutation xs ys → IsFirst p best xs → IsFirst p best ys
first_moved p None xs ys moved h = sym (list_any-IsPermutation p xs ys moved) ∙ h
first_moved p (Some name) xs ys moved h = (sym (list_any-IsPermutation (λ e. p e && bytes_eq e.name name) xs ys moved) ∙ h.0, sym (list_any-IsPermutation (λ e. p e && comes_before e.name name) xs ys moved) ∙ h.1)

first_is_not_later : (p : Extent → Bool) (name other : Word) (xs : List Extent) → IsFirst p (Some name) xs → IsFirst p (Some other) xs → comes_before name other ≡ false
first_is_not_later p name other xs h k =
    false_from_ne_true _ (λ sooner. false≢true (sym k.1 ∙ any_weaker (λ e. p e && bytes_eq e.name name) (λ e. p e && comes_before e.name other) xs (λ e both. let parts = and_parts (p e) (bytes_eq e.name name) both in and_from _ _ parts.0 (subst (λ n. comes_before n other ≡ true) (sym (bytes_eq_same e.name name parts.1)) sooner)) h.0))

first_is_one : (p : Extent → Bool) (best other : Option Word) (xs : List Extent) → IsFirst p best xs → IsFirst p other xs → best ≡ other
first_is_one p None None xs h k = refl
first_is_one p None (Some name) xs h k = absurd (false≢true (sym h ∙ any_weaker (λ e. p e && bytes_eq e.name name) p xs (λ e both. (and_parts _ _ both).0) k.0))
first_is_one p (Some name) None xs h k = absurd (false≢true (sym k ∙ any_weaker (λ e. p e && bytes_eq e.name name) p xs (λ e both. (and_parts _ _ both).0) h.0))
first_is_one p (Some name) (Some other) xs h k = ap Some (same_place name other (first_is_not_later p name other xs h k) (first_is_not_later p other name xs k h))

-- behind a name that is not before this one, none is before it
rise_above : (q : Extent → Bool) (name last : Word) (rest : List Extent) → comes_before last name ≡ false → names_rise (Some last) rest ≡ true → list_any (λ t. comes_before t.name name && q t) rest ≡ false
rise_above q name last [] h rise = refl
rise_above q name last (t ∷ rest) h rise =
    let parts = and_parts (comes_before last t.name) (names_rise (Some t.name) rest) rise in
    let over : comes_before t.name name ≡ false = not_before name t.name (up_to_before name last t.name h parts.0) in
    or_from _ _ (and_left _ _ over) (rise_above q name t.name rest over parts.1)

-- among names that rise, the earlier ones are those in front
earlier_is_front : (done rest : List Extent) (e : Extent) → list_any (λ t. not (comes_before t.name e.name)) done ≡ false → names_rise (Some e.name) rest ≡ true → meets_earlier (done ++ e ∷ rest) e ≡ list_any (meets e) done
earlier_is_front done rest e front rise =
    list_any-append (λ t. comes_before t.name e.name && meets e t) done (e ∷ rest)
    ∙ (ap (λ b. list_any (λ t. comes_before t.name e.name && meets e t) done || b) (or_from _ _ (and_left _ _ (before_itself e.name)) (rise_above (meets e) e.name e.name rest (before_itself e.name) rise))
    ∙ (or_false (list_any (λ t. comes_before t.name e.name && meets e t) done) ∙ same_front done front))
  where
    or_false : (b : Bool) → (b || false) ≡ b
    or_false true = refl
    or_false false = refl

    same_front : (xs : List Extent) → list_any (λ t. not (comes_before t.name e.name)) xs ≡ false → list_any (λ t. comes_before t.name e.name && meets e t) xs ≡ list_any (meets e) xs
    same_front [] h = refl
    same_front (x ∷ xs) h =
        let parts = or_parts (not (comes_before x.name e.name)) (list_any (λ t. not (comes_before t.name e.name)) xs) h in
        let before : comes_before x.name e.name ≡ true = not-false (comes_before x.name e.name) parts.0 in
        ap (λ b. (b && meets e x) || list_any (λ t. comes_before t.name e.name && meets e t) xs) before ∙ ap (λ b. meets e x || b) (same_front xs parts.1)

-- each name so far is not behind the last one
abbrev pub IsUpTo : Option Word → List Extent → Type 0
IsUpTo None done = done ≡ []
IsUpTo (Some last) done = list_any (λ t. comes_before last t.name) done ≡ false

up_to_rises : (last : Option Word) (name : Word) (done : List Extent) → IsUpTo last done → rises_from last name ≡ true → list_any (λ t. not (comes_before t.name name)) done ≡ false
up_to_rises None name done upto rises = subst (λ l. list_any (λ t. not (comes_before t.name name)) l ≡ false) (sym upto) refl
up_to_rises (Some last) name done upto rises =
    none_weaker (λ t. not (comes_before t.name name)) (λ t. comes_before last t.name) done (λ t behind. true_from_ne_false (comes_before last t.name) (λ f. false≢true (sym (not_from_true (comes_before t.name name) (up_to_before t.name last name f rises)) ∙ behind))) upto

first_of_clash : (es done rest : List Extent) (last : Option Word) → es ≡ done ++ rest → list_any (meets_earlier es) done ≡ false → IsUpTo last done → names_rise last rest ≡ true → IsFirst (meets_earlier es) (first_clash done rest) es
first_of_clash es done [] last same none upto rise = subst (λ l. list_any (meets_earlier es) l ≡ false) (sym (same ∙ append-nil done)) none
first_of_clash es done (e ∷ rest) last same none upto rise =
    by (list_any (meets e) done) refl (λ miss. first_of_clash es (done ++ e ∷ []) rest (Some e.name) (same ∙ sym (append_assoc done (e ∷ []) rest)) (list_any-append (meets_earlier es) done (e ∷ []) ∙ or_from _ _ none (or_from _ _ (meets_front ∙ miss) refl)) (list_any-append (λ t. comes_before e.name t.name) done (e ∷ []) ∙ or_from _ _ (none_weaker (λ t. comes_before e.name t.name) (λ t. not (comes_before t.name e.name)) done (λ t behind. not_from_false (comes_before t.name e.name) (not_before e.name t.name behind)) front) (or_from _ _ (before_itself e.name) refl)) parts.1)
  where
    parts : (rises_from last e.name ≡ true) × (names_rise (Some e.name) rest ≡ true)
    parts = and_parts (rises_from last e.name) (names_rise (Some e.name) rest) rise

    front : list_any (λ t. not (comes_before t.name e.name)) done ≡ false
    front = up_to_rises last e.name done upto parts.0

    meets_front : meets_earlier es e ≡ list_any (meets e) done
    meets_front = subst (λ l. meets_earlier l e ≡ list_any (meets e) done) (sym same) (earlier_is_front done rest e front parts.1)

    by : (b : Bool) → list_any (meets e) done ≡ b → (list_any (meets e) done ≡ false → IsFirst (meets_earlier es) (first_clash (done ++ e ∷ []) rest) es) → IsFirst (meets_earlier es) (cond b (Some e.name) (first_clash (done ++ e ∷ []) rest)) es
    by true hit later =
        let passes : meets_earlier es e ≡ true = meets_front ∙ hit in (
          subst (λ l. list_any (λ x. meets_earlier es x && bytes_eq x.name e.name) l ≡ true) (sym same) (
              list_any-append (λ x. meets_earlier es x && bytes_eq x.name e.name) done (e ∷ rest) ∙ or_right _ _ (or_left _ _ (and_from _ _ passes (bytes_eq_self e.name)))
              ),
          subst (λ l. list_any (λ x. meets_earlier es x && comes_before x.name e.name) l ≡ false) (sym same) (
              list_any-append (λ x. meets_earlier es x && comes_before x.name e.name) done (e ∷ rest)
              ∙ or_from _ _ (none_weaker (λ x. meets_earlier es x && comes_before x.name e.name) (meets_earlier es) done (λ x k. (and_parts _ _ k).0) none)
              (or_from _ _ (and_right _ _ (before_itself e.name)) (none_weaker (λ x. meets_earlier es x && comes_before x.name e.name) (λ x. comes_before x.name e.name && true) rest (λ x k. and_from _ _ (and_parts (meets_earlier es x) (comes_before x.name e.name) k).1 refl) (rise_above (λ x. true) e.name e.name rest (before_itself e.name) parts.1)))
              ),
        )
    by false miss later = later miss

-- what laying in the order of names finds is the first that overlaps an earlier one
pub clash_is_first : (all : List Object) (es : List Extent) → IsPermutation (extents all) es → names_rise None es ≡ true → first_clash [] es ≡ first_overlap all
clash_is_first all es moved rise =
    first_is_one (meets_earlier es) (first_clash [] es) (first_overlap all) es (first_of_clash es [] es None refl refl refl rise) (
    subst (λ r. IsFirst (meets_earlier es) r es) (sym (fold_extents all all None ∙ folds)) (first_moved (meets_earlier es) (fold (lesser_if (meets_earlier es)) None (extents all)) (extents all) es moved (folded (meets_earlier es) None [] (extents all) refl))
    )
  where
    folds : fold (lesser_if (meets_earlier (extents all))) None (extents all) ≡ fold (lesser_if (meets_earlier es)) None (extents all)
    folds = fold_agree (λ e. list_any-IsPermutation (λ t. comes_before t.name e.name && meets e t) (extents all) es moved) None (extents all)
      where
        fold_agree : ((e : Extent) → meets_earlier (extents all) e ≡ meets_earlier es e) → (best : Option Word) (xs : List Extent) → fold (lesser_if (meets_earlier (extents all))) best xs ≡ fold (lesser_if (meets_earlier es)) best xs
        fold_agree agree best [] = refl
        fold_agree agree best (x ∷ xs) =
            fold_agree agree (lesser_if (meets_earlier (extents all)) best x) xs ∙ ap (λ b. fold (lesser_if (meets_earlier es)) (cond b (lesser best x.name) best) xs) (agree x)
