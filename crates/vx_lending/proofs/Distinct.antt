-- Lists of which no two elements have one key.
use Rattle.std.proofs.Common.{◌≡◌, ◌≢◌, inl, inr, ℕ, zero, suc, ◌<◌, Bool, true, false, cond, List, [], ◌∷◌, ◌++◌, length, map, None, refl, sym, ap, arith}
use Rattle.std.specs.Prelude.{slice_index_or}
use Rattle.std.specs.List.{filter}
use Rattle.vx_config_parts.specs.declared.object.Object.{Object}
use Rattle.vx_config_parts.specs.Objects.{name_of}
use Rattle.vx_rules.specs.References.{repeated_after, has_name}
use Rattle.vx_rules.specs.Faults.{unless}
use Rattle.vx_config_parts.specs.declared.fault.ObjectFault.TheVariants.{Exists}
use Rattle.vx_objects.proofs.OneGroup.{second_none}
use Rattle.std.specs.Prelude.{not}
use Rattle.vx_image.proofs.PlexMembers.{IsIn, in_left, in_right, in_either, in_map, later_differs}
use Rattle.vx_image.proofs.Members.{is_in, contains, from_filter}

abbrev pub AreDistinct : {A B : Type 0} → (A → B) → List A → Type 0
AreDistinct {A} key [] = Unit {0}
AreDistinct {A} key (x ∷ xs) = ((y : A) → IsIn xs y → key x ≡ key y → ⊥) × AreDistinct key xs

pub distinct_right : {A B : Type 0} (key : A → B) (xs ys : List A) → AreDistinct key (xs ++ ys) → AreDistinct key ys
distinct_right key [] ys h = h
distinct_right key (x ∷ xs) ys h = distinct_right key xs ys h.1

pub distinct_left : {A B : Type 0} (key : A → B) (xs ys : List A) → AreDistinct key (xs ++ ys) → AreDistinct key xs
distinct_left key [] ys h = tt
distinct_left key (x ∷ xs) ys h = (λ y one same. h.0 y (in_left xs ys y one) same, distinct_left key xs ys h.1)

pub distinct_before : {A B C : Type 0} (f : A → B) (key : B → C) (xs : List A) → AreDistinct key (map f xs) → AreDistinct (λ x. key (f x)) xs
distinct_before f key [] h = tt
distinct_before f key (x ∷ xs) h = (λ y one same. h.0 (f y) (in_map f xs y one) same, distinct_before f key xs h.1)

pub filtered : {A : Type 0} (test : A → Bool) (xs : List A) (x : A) → IsIn (filter test xs) x → IsIn xs x × (test x ≡ true)
filtered test xs x h = let r = from_filter test xs x (contains (filter test xs) x h) in (is_in xs x r.0, r.1)

pub distinct_filter : {A B : Type 0} (key : A → B) (test : A → Bool) (xs : List A) → AreDistinct key xs → AreDistinct key (filter test xs)
distinct_filter key test [] h = tt
distinct_filter {A} key test (x ∷ xs) h = by (test x) (distinct_filter key test xs h.1)
  where
    by : (b : Bool) → AreDistinct key (filter test xs) → AreDistinct key (cond b (x ∷ filter test xs) (filter test xs))
    by true rest = (λ y one same. h.0 y (filtered test xs y one).0 same, rest)
    by false rest = rest

pub distinct_append : {A B : Type 0} (key : A → B) (xs ys : List A) → AreDistinct key xs → AreDistinct key ys → ((x y : A) → IsIn xs x → IsIn ys y → key x ≡ key y → ⊥) → AreDistinct key (xs ++ ys)
distinct_append key [] ys h k apart = k
distinct_append key (x ∷ xs) ys h k apart = (
  λ y one same. elim (in_either xs ys y one) [ inl left ↦ h.0 y left same | inr right ↦ apart x y (inl refl) right same ],
  distinct_append key xs ys h.1 k (λ z y left right same. apart z y (inr left) right same),
)

pub in_at : {A : Type 0} (xs : List A) (k : ℕ) (d : A) → k < length xs → IsIn xs (slice_index_or xs k d)
in_at [] k d lt = absurd (omega (arith, lt))
in_at (x ∷ xs) zero d lt = inl refl
in_at (x ∷ xs) (suc k) d lt = inr (in_at xs k d (omega (arith, lt)))

pub distinct_at : {A B : Type 0} (key : A → B) (xs : List A) → AreDistinct key xs → (j k : ℕ) (d : A) → j < length xs → k < length xs → j ≢ k → key (slice_index_or xs j d) ≡ key (slice_index_or xs k d) → ⊥
distinct_at key [] h j k d lt lt' other same = omega (arith, lt)
distinct_at key (x ∷ xs) h zero zero d lt lt' other same = other refl
distinct_at key (x ∷ xs) h zero (suc k) d lt lt' other same = h.0 (slice_index_or xs k d) (in_at xs k d (omega (arith, lt'))) same
distinct_at key (x ∷ xs) h (suc j) zero d lt lt' other same = h.0 (slice_index_or xs j d) (in_at xs j d (omega (arith, lt))) (sym same)
distinct_at key (x ∷ xs) h (suc j) (suc k) d lt lt' other same = distinct_at key xs h.1 j k d (omega (arith, lt)) (omega (arith, lt')) (λ e. other (ap (λ (n : ℕ). suc n) e)) same

-- where elements of one key are one, those of one other key are distinct by it too
pub distinct_by : {A B C : Type 0} (key : A → B) (other : A → C) (xs : List A) → AreDistinct key xs → ((x y : A) → IsIn xs x → IsIn xs y → other x ≡ other y → x ≡ y) → AreDistinct other xs
distinct_by key other [] h one = tt
distinct_by key other (x ∷ xs) h one =
    (λ y there same. h.0 y there (ap key (one x y (inl refl) (inr there) same)), distinct_by key other xs h.1 (λ y z a b same. one y z (inr a) (inr b) same))

-- the names of records that no earlier one has
pub distinct_names : (before os : List Object) → repeated_after before os ≡ None → AreDistinct name_of os
distinct_names before [] e = tt
distinct_names before (o ∷ os) e =
    let rest = second_none (unless (not (has_name (name_of o) before)) (Exists (name_of o))) (repeated_after (before ++ o ∷ []) os) e in
    (λ y there same. later_differs (before ++ o ∷ []) os o y rest (in_right before (o ∷ []) o (inl refl)) there same, distinct_names (before ++ o ∷ []) os rest)
