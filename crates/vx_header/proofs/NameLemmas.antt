-- The longest name that a field begins with, against the names that the field could hold.
use Rattle.std.proofs.Common.{◌≡◌, ℕ, ◌+◌, ◌-◌, ◌<◌, ◌≤◌, true, cond, List, [], ◌∷◌, length, take, get_or, arith, refl, sym, ◌∙◌, ap, inl, inr, zero, suc, IsTrue}
use Rattle.std.specs.Prelude.{nat_le, ◌&&◌}
use Rattle.std.specs.List.{list_all}
use Rattle.std.proofs.lemmas.Bool.{and_parts, and_from, leb-true, le-leb, cases_lt, cases_order, cond_both, both_ways}
use Rattle.std.proofs.lemmas.List.{length-take-le, length-append, get_or_append_left, get_or-append_right, get_or-take, ext_get_or, take_all}
use Rattle.std.proofs.lemmas.List.Folds.{list_all_at}
use Rattle.vx_names.specs.Form.{is_name, is_name_byte, begins_well}
use Rattle.vx_sector.specs.Fields.{zeros}
use Rattle.vx_sector.proofs.FieldLemmas.{length-zeros, get_or-zeros}
use Rattle.vx_header.specs.Sectors.{is_short_name, name_field}
use Rattle.vx_header.specs.Nearest.{IsLongestName}

pub name_of_short : (name : List ℕ) → IsTrue (is_short_name name) → is_name name ≡ true
name_of_short name short = (and_parts (is_name name) (nat_le (length name) 24) short).0

pub length_of_short : (name : List ℕ) → IsTrue (is_short_name name) → length name ≤ 24
length_of_short name short = leb-true (length name) 24 (and_parts (is_name name) (nat_le (length name) 24) short).1

short_from : (name : List ℕ) → is_name name ≡ true → length name ≤ 24 → IsTrue (is_short_name name)
short_from name is few = and_from (is_name name) (nat_le (length name) 24) is (le-leb (length name) 24 few)

-- one word more was tried
pub longer_is_short : (field longest : List ℕ) (len : ℕ) → len ≤ 24 → len ≤ length field → IsTrue (is_short_name longest) →
    IsTrue (is_short_name (cond (is_name (take len field)) (take len field) longest))
longer_is_short field longest len few inside short =
    let P : List ℕ → Type 0 = λ xs. IsTrue (is_short_name xs) in
    cond_both (is_name (take len field)) (take len field) longest P
    (λ yes. short_from (take len field) yes (omega (arith, length-take-le len field inside)))
    (λ no. short)

pub longer_is_longest : (field longest : List ℕ) (len : ℕ) → len ≤ length field →
    ((name : List ℕ) → length name < len → IsTrue (is_short_name name) → take (length name) field ≡ name → (length name ≤ length longest) × (longest ≡ take (length longest) field)) →
    (name : List ℕ) → length name < len + 1 → IsTrue (is_short_name name) → take (length name) field ≡ name →
    (let new : List ℕ = cond (is_name (take len field)) (take len field) longest in (length name ≤ length new) × (new ≡ take (length new) field))
longer_is_longest field longest len inside before name lt short begins =
    let P : List ℕ → Type 0 = λ xs. (length name ≤ length xs) × (xs ≡ take (length xs) field) in
    let size : length (take len field) ≡ len = length-take-le len field inside in
    cond_both (is_name (take len field)) (take len field) longest P
    (λ yes. (omega (arith, size), ap (λ (n : ℕ). take n field) (sym size)))
    (λ no. elim (cases_order (length name) len) [
      | inl same ↦ absurd (both_ways (is_name (take len field)) no (ap (λ (n : ℕ). is_name (take n field)) (sym same) ∙ ap is_name begins ∙ name_of_short name short))
      | inr other ↦ elim other [
        | inl less ↦ before name less short begins
        | inr more ↦ absurd (omega arith)
      ]
    ])

-- what a name's field has at each place
pub field_in : (name : List ℕ) (i : ℕ) → i < length name → get_or (name_field name) i 0 ≡ get_or name i 0
field_in name i lt = get_or_append_left name (zeros (32 - length name)) 0 i lt

pub field_past : (name : List ℕ) (i : ℕ) → length name ≤ i → get_or (name_field name) i 0 ≡ 0
field_past name i le = get_or-append_right name (zeros (32 - length name)) (length name) i 0 refl le ∙ get_or-zeros (32 - length name) (i - length name)

pub length-name_field : (name : List ℕ) → IsTrue (is_short_name name) → length (name_field name) ≡ 32
length-name_field name short =
    let few : length name ≤ 24 = length_of_short name short in
    length-append name (zeros (32 - length name)) ∙ ap (λ (n : ℕ). length name + n) (length-zeros (32 - length name)) ∙ omega (arith, few)

-- a name has no zero byte
no_zero : (name : List ℕ) (i : ℕ) → is_name name ≡ true → i < length name → get_or name i 0 ≡ 0 → ⊥
no_zero name i is lt e =
    let all : list_all is_name_byte name ≡ true = (and_parts _ (list_all is_name_byte name) is).1 in
    both_ways (list_all is_name_byte name) (list_all_at is_name_byte name i 0 lt (ap is_name_byte e)) all

all_take : (n : ℕ) (xs : List ℕ) → list_all is_name_byte xs ≡ true → list_all is_name_byte (take n xs) ≡ true
all_take zero xs all = refl
all_take (suc n) [] all = refl
all_take (suc n) (x ∷ xs) all =
    let parts = and_parts (is_name_byte x) (list_all is_name_byte xs) all in
    and_from (is_name_byte x) (list_all is_name_byte (take n xs)) parts.0 (all_take n xs parts.1)

begins_take : (n : ℕ) (xs : List ℕ) → begins_well xs ≡ true → begins_well (take (suc n) xs) ≡ true
begins_take n [] begins = begins
begins_take n (x ∷ xs) begins = begins

-- the front of a name is a name
front_is_short : (name : List ℕ) (n : ℕ) → IsTrue (is_short_name name) → suc n ≤ length name → IsTrue (is_short_name (take (suc n) name))
front_is_short name n short le =
    let parts = and_parts (begins_well name && nat_le (length name) 31) (list_all is_name_byte name) (name_of_short name short) in
    let front = and_parts (begins_well name) (nat_le (length name) 31) parts.0 in
    let few : length name ≤ 24 = length_of_short name short in
    let size : length (take (suc n) name) ≡ suc n = length-take-le (suc n) name le in
    short_from (take (suc n) name)
    (and_from _ _ (and_from _ _ (begins_take n name front.0) (le-leb (length (take (suc n) name)) 31 (omega (arith, size)))) (all_take (suc n) name parts.1))
    (omega (arith, size))

-- the field begins with what it agrees with
begins_with : (field name : List ℕ) (n : ℕ) → n ≤ length field → n ≤ length name →
    ((i : ℕ) → i < n → get_or field i 0 ≡ get_or name i 0) → take n field ≡ take n name
begins_with field name n inside le same =
    ext_get_or 0 (take n field) (take n name) (length-take-le n field inside ∙ sym (length-take-le n name le))
    (λ i lt. let below : i < n = omega (arith, lt, length-take-le n field inside) in
    get_or-take n field i 0 below ∙ same i below ∙ sym (get_or-take n name i 0 below))

module _ (field longest name : List ℕ) (j : ℕ) (wide : 32 ≤ length field) (short : IsTrue (is_short_name name)) (short' : IsTrue (is_short_name longest))
    (most : IsLongestName field longest) (agree : (i : ℕ) → i ≤ j → get_or field i 0 ≡ get_or (name_field name) i 0) where
  -- where the field agrees with a name to its end, the name is the longest
  pub longest_is_name : length name ≤ j → longest ≡ name
  longest_is_name le =
      let few : length name ≤ 24 = length_of_short name short in
      let few' : length longest ≤ 24 = length_of_short longest short' in
      let begins : take (length name) field ≡ name =
      begins_with field name (length name) (omega arith) (omega arith) (λ i lt. agree i (omega arith) ∙ field_in name i lt) ∙ take_all (length name) name (omega arith) in
      let best = most name short begins in
      elim (cases_lt (length name) (length longest)) [
        | inl more ↦
            let byte : get_or longest (length name) 0 ≡ 0 =
            ap (λ (xs : List ℕ). get_or xs (length name) 0) best.1 ∙ get_or-take (length longest) field (length name) 0 more ∙ agree (length name) le ∙ field_past name (length name) (omega arith) in
            absurd (no_zero longest (length name) (name_of_short longest short') more byte)
        | inr most ↦
            let same : length longest ≡ length name = omega (arith, best.0) in
            best.1 ∙ ap (λ (n : ℕ). take n field) same ∙ begins
      ]

  -- where the field agrees with some name's up to a byte, it agrees there with that of the longest
  pub longest_agrees : get_or field j 0 ≡ get_or (name_field longest) j 0
  longest_agrees = elim (cases_lt j (length name)) [
    | inl lt ↦
        let few : length name ≤ 24 = length_of_short name short in
        let size : length (take (suc j) name) ≡ suc j = length-take-le (suc j) name (omega arith) in
        let begins : take (suc j) field ≡ take (suc j) name =
        begins_with field name (suc j) (omega arith) (omega arith) (λ i below. agree i (omega arith) ∙ field_in name i (omega arith)) in
        let best = most (take (suc j) name) (front_is_short name j short (omega arith)) (ap (λ (n : ℕ). take n field) size ∙ begins) in
        let inside : j < length longest = omega (arith, best.0, size) in
        sym (field_in longest j inside ∙ ap (λ (xs : List ℕ). get_or xs j 0) best.1 ∙ get_or-take (length longest) field j 0 inside)
    | inr le ↦ agree j (omega arith) ∙ ap (λ (xs : List ℕ). get_or (name_field xs) j 0) (sym (longest_is_name le))
  ]
