-- Where a word stops being a length.
use Rattle.std.specs.Prelude.{◌==◌, nat_lt, nat_le, not}
use Rattle.std.proofs.Common.{◌≡◌, ℕ, zero, suc, ◌+◌, ◌*◌, ◌^◌, ◌<◌, ◌≤◌, min, true, false, cond, List, [], ◌∷◌, ◌++◌, ◌⊎◌, length, take, drop, refl, sym, ◌∙◌, ap, subst, arith, add-one, inl, inr}
use Rattle.std.specs.List.{list_all, prefix_len}
use Rattle.std.proofs.lemmas.Bool.{and_from, cond-true, cond-false, or_right, lt-ltb, ltb-true, lt-leb, false≢true, eqb-true, eqb-false, cases_lt, and_right}
use Rattle.std.proofs.lemmas.List.{append-nil, length-drop, take-append-drop}
use Rattle.std.proofs.lemmas.List.Sums.{prefix_len-le-length}
use Rattle.std.proofs.Math.Seq.{take-append_seam, drop-append_seam}
use Rattle.vx_base.proofs.NamedLemmas.{true_or_false}
use Rattle.vx_names.specs.Number.{is_digit, is_numeral, digits_value}
use Rattle.vx_names.specs.Length.{unit_sectors, IsLength, IsLengthWord, Measures, numeral_front, unit_front, length_place}
use Rattle.vx_names.specs.Place.{IsPlace}
use Rattle.vx_names.proofs.Attributes.{split_same}
use Rattle.vx_names.proofs.Fronts.{take_passes, all_front, front_ends, plain_again}
use Rattle.vx_names.proofs.Places.{place_at_end}
use Rattle.std.proofs.Math.Nat.{mul-le-mul_left}
use Rattle.vx_names.proofs.Numbers.{numeral_parts}

pub numeral_inside : (w : List ℕ) → numeral_front w ≤ length w
numeral_inside [] = omega arith
numeral_inside (d ∷ ds) = elim (true_or_false (d == 48)) [
  | inl t ↦ omega (arith, cond-true (d == 48) 1 (prefix_len is_digit (d ∷ ds)) t)
  | inr f ↦ omega (arith, cond-false (d == 48) 1 (prefix_len is_digit (d ∷ ds)) f, prefix_len-le-length is_digit (d ∷ ds))
]

above_digits : (u : ℕ) → 57 < u → is_digit u ≡ false
above_digits u lt = and_right (nat_le 48 u) (nat_le u 57) (lt-leb u 57 lt)

no_unit : (u : ℕ) → u == 115 ≡ false → u == 107 ≡ false → u == 109 ≡ false → u == 103 ≡ false → unit_sectors (u ∷ []) ≡ 0
no_unit u f g h i =
    cond-false {A = ℕ} (u == 115) 1 (cond (u == 107) 2 (cond (u == 109) 2048 (cond (u == 103) 2097152 0))) f
    ∙ cond-false {A = ℕ} (u == 107) 2 (cond (u == 109) 2048 (cond (u == 103) 2097152 0)) g
    ∙ cond-false {A = ℕ} (u == 109) 2048 (cond (u == 103) 2097152 0) h
    ∙ cond-false {A = ℕ} (u == 103) 2097152 0 i

-- the letter of a unit is no digit
unit_no_digit : (u : ℕ) → 0 < unit_sectors (u ∷ []) → is_digit u ≡ false
unit_no_digit u some = elim (true_or_false (u == 115)) [
  | inl t ↦ above_digits u (omega (arith, eqb-true u 115 t))
  | inr f ↦ elim (true_or_false (u == 107)) [
    | inl t ↦ above_digits u (omega (arith, eqb-true u 107 t))
    | inr g ↦ elim (true_or_false (u == 109)) [
      | inl t ↦ above_digits u (omega (arith, eqb-true u 109 t))
      | inr h ↦ elim (true_or_false (u == 103)) [
        | inl t ↦ above_digits u (omega (arith, eqb-true u 103 t))
        | inr i ↦ absurd (omega (arith, some, no_unit u f g h i))
      ]
    ]
  ]
]

digits_then_unit : (ds us : List ℕ) → list_all is_digit ds ≡ true → 0 < unit_sectors us → prefix_len is_digit (ds ++ us) ≡ length ds
digits_then_unit ds [] h k = ap (prefix_len is_digit) (append-nil ds) ∙ all_front is_digit ds h
digits_then_unit ds (u ∷ []) h k = front_ends is_digit ds u [] h (unit_no_digit u k)
digits_then_unit ds (u ∷ v ∷ us) h k = absurd (omega arith)

-- the number of a length is the front of its word
pub numeral_before : (ds us : List ℕ) → is_numeral ds ≡ true → 0 < unit_sectors us → numeral_front (ds ++ us) ≡ length ds
numeral_before [] us h k = absurd (false≢true h)
numeral_before (d ∷ ds) us h k =
    let parts = numeral_parts (d ∷ ds) h in
    elim (true_or_false (d == 48)) [
      | inl t ↦ cond-true (d == 48) 1 (prefix_len is_digit (d ∷ (ds ++ us))) t ∙ sym (parts.leading (eqb-true d 48 t))
      | inr f ↦ cond-false (d == 48) 1 (prefix_len is_digit (d ∷ (ds ++ us))) f ∙ digits_then_unit (d ∷ ds) us parts.digits k
    ]

-- the longest front is a number
pub numeral_of_front : (k : ℕ) (w : List ℕ) → k ≡ numeral_front w → 0 < k → is_numeral (take k w) ≡ true
numeral_of_front zero w e lt = absurd (omega arith)
numeral_of_front (suc k) [] e lt = absurd (omega arith)
numeral_of_front (suc k) (d ∷ ds) e lt = elim (true_or_false (d == 48)) [
  | inl t ↦
      let one : k ≡ 0 = omega (arith, e, cond-true (d == 48) 1 (prefix_len is_digit (d ∷ ds)) t) in
      let zero_digit : d ≡ 48 = eqb-true d 48 t in
      subst (λ (n : ℕ). is_numeral (d ∷ take n ds) ≡ true) (sym one) (subst (λ (c : ℕ). is_numeral (c ∷ []) ≡ true) (sym zero_digit) refl)
  | inr f ↦
      let many : suc k ≡ prefix_len is_digit (d ∷ ds) = e ∙ cond-false (d == 48) 1 (prefix_len is_digit (d ∷ ds)) f in
      and_from _ _ (take_passes is_digit (suc k) (d ∷ ds) (omega (arith, many))) (or_right _ _ (ap not f))
]

-- the front and the byte behind it tell where the front ends
pub numeral_again : (k : ℕ) (w r : List ℕ) → k ≡ numeral_front w → k < length w → numeral_front (take (suc k) w ++ r) ≡ k
numeral_again k [] r e lt = absurd (omega arith)
numeral_again k (d ∷ ds) r e lt = elim (true_or_false (d == 48)) [
  | inl t ↦ cond-true (d == 48) 1 (prefix_len is_digit (d ∷ (take k ds ++ r))) t ∙ sym (e ∙ cond-true (d == 48) 1 (prefix_len is_digit (d ∷ ds)) t)
  | inr f ↦ cond-false (d == 48) 1 (prefix_len is_digit (d ∷ (take k ds ++ r))) f ∙ plain_again is_digit k (d ∷ ds) r (e ∙ cond-false (d == 48) 1 (prefix_len is_digit (d ∷ ds)) f) lt
]

length_split : (ds us es vs : List ℕ) → is_numeral ds ≡ true → is_numeral es ≡ true → 0 < unit_sectors us → 0 < unit_sectors vs → ds ++ us ≡ es ++ vs → (ds ≡ es) × (us ≡ vs)
length_split ds us es vs h k i j e = split_same ds es us vs (sym (numeral_before ds us h i) ∙ ap numeral_front e ∙ numeral_before es vs k j) e

-- the parts of a length are its front and what follows
pub length_parts : (w ds us : List ℕ) → IsLength w ds us → (ds ≡ take (numeral_front w) w) × (us ≡ drop (numeral_front w) w)
length_parts w ds us h =
    let front : numeral_front w ≡ length ds = ap numeral_front h.spelled ∙ numeral_before ds us h.digits h.unit in (
      sym (ap (λ (n : ℕ). take n w) front ∙ ap (take (length ds)) h.spelled ∙ take-append_seam ds us),
      sym (ap (λ (n : ℕ). drop n w) front ∙ ap (drop (length ds)) h.spelled ∙ drop-append_seam ds us),
    )

-- what is no number, or has no unit behind it, is no length
pub length_needs : (w ds us : List ℕ) → IsLength w ds us → (0 < numeral_front w) × (0 < unit_sectors (drop (numeral_front w) w))
length_needs w ds us h =
    let parts = length_parts w ds us h in
    let front : numeral_front w ≡ length ds = ap numeral_front h.spelled ∙ numeral_before ds us h.digits h.unit in
    (omega (arith, front, (numeral_parts ds h.digits).some), subst (λ (v : List ℕ). 0 < unit_sectors v) parts.1 h.unit)

begins_length : (k : ℕ) (w : List ℕ) → k ≡ numeral_front w → (rest : List ℕ) × IsLengthWord (take k w ++ rest)
begins_length zero w e = (49 ∷ [], (49 ∷ [], [], record { digits = refl; unit = omega arith; spelled = refl }))
begins_length (suc k) w e = ([], (take (suc k) w, [], record { digits = numeral_of_front (suc k) w e (omega arith); unit = omega arith; spelled = refl }))

front_split : (k : ℕ) (w r : List ℕ) → k < length w → (c : ℕ) × (x : List ℕ) × (drop k w ≡ c ∷ x) × (drop k (take (suc k) w ++ r) ≡ c ∷ r)
front_split k [] r lt = absurd (omega arith)
front_split zero (b ∷ bs) r lt = (b, bs, refl, refl)
front_split (suc k) (b ∷ bs) r lt = front_split k bs r (omega arith)

second_split : (k : ℕ) (w r : List ℕ) → suc k < length w → (b : ℕ) × (take (suc (suc k)) w ++ r ≡ take (suc k) w ++ b ∷ r)
second_split k [] r lt = absurd (omega arith)
second_split k (a ∷ []) r lt = absurd (omega arith)
second_split zero (a ∷ b ∷ bs) r lt = (b, refl)
second_split (suc k) (a ∷ b ∷ bs) r lt =
    let more = second_split k (b ∷ bs) r (omega arith) in
    (more.0, ap (λ (x : List ℕ). a ∷ x) more.1)

-- behind a number a byte that is no unit ends the length
plain_end : (k : ℕ) (w r : List ℕ) → k ≡ numeral_front w → k < length w → unit_front (drop k w) ≡ 0 → IsLengthWord (take (suc k) w ++ r) → ⊥
plain_end k w r e lt none h =
    let split = front_split k w r lt in
    let again : numeral_front (take (suc k) w ++ r) ≡ k = numeral_again k w r e lt in
    let needs = length_needs (take (suc k) w ++ r) h.0 h.1 h.2 in
    let unit : 0 < unit_sectors (split.0 ∷ r) = subst (λ (v : List ℕ). 0 < unit_sectors v) (ap (λ (n : ℕ). drop n (take (suc k) w ++ r)) again ∙ split.3) needs.1 in
    no_unit_then split.0 r (sym (ap unit_front split.2) ∙ none) unit
  where
    no_unit_then : (c : ℕ) (r : List ℕ) → unit_front (c ∷ []) ≡ 0 → 0 < unit_sectors (c ∷ r) → ⊥
    no_unit_then c [] none some = omega (arith, none, cond-true {A = ℕ} (nat_lt 0 (unit_sectors (c ∷ []))) 1 0 (lt-ltb 0 (unit_sectors (c ∷ [])) some))
    no_unit_then c (b ∷ r) none some = omega arith

-- behind a unit nothing comes
unit_end : (k : ℕ) (w r : List ℕ) → k ≡ numeral_front w → suc k < length w → IsLengthWord (take (suc (suc k)) w ++ r) → ⊥
unit_end k w r e lt h =
    let second = second_split k w r lt in
    let more : IsLengthWord (take (suc k) w ++ second.0 ∷ r) = subst IsLengthWord second.1 h in
    let split = front_split k w (second.0 ∷ r) (omega arith) in
    let again : numeral_front (take (suc k) w ++ second.0 ∷ r) ≡ k = numeral_again k w (second.0 ∷ r) e (omega arith) in
    let needs = length_needs (take (suc k) w ++ second.0 ∷ r) more.0 more.1 more.2 in
    let unit : 0 < unit_sectors (split.0 ∷ second.0 ∷ r) = subst (λ (v : List ℕ). 0 < unit_sectors v) (ap (λ (n : ℕ). drop n (take (suc k) w ++ second.0 ∷ r)) again ∙ split.3) needs.1 in
    omega (arith, unit)

no_number : (w : List ℕ) → numeral_front w ≡ 0 → IsPlace IsLengthWord w 0
no_number w e = record {
  inside = omega arith;
  before = begins_length 0 w (sym e);
  here = λ lt b.
      let whole : IsLengthWord (take (suc 0) w ++ b.0) = b.1 in
      omega (arith, (length_needs (take (suc 0) w ++ b.0) whole.0 whole.1 whole.2).0, numeral_again 0 w b.0 (sym e) lt);
}

place_plain : (w : List ℕ) (k : ℕ) → k ≡ numeral_front w → unit_front (drop k w) ≡ 0 → IsPlace IsLengthWord w k
place_plain w k e none = record {
  inside = omega (arith, e, numeral_inside w);
  before = begins_length k w e;
  here = λ lt b. plain_end k w b.0 e lt none (rw add-one at b.1);
}

place_unit : (w : List ℕ) (k : ℕ) → k ≡ numeral_front w → 0 < k → k < length w → unit_front (drop k w) ≡ 1 → IsPlace IsLengthWord w (suc k)
place_unit w k e some lt one = record {
  inside = omega arith;
  before =
      let split = front_split k w [] lt in
      let unit : 0 < unit_sectors (split.0 ∷ []) = one_unit split.0 (sym (ap unit_front split.2) ∙ one) in
      ([], (take k w, split.0 ∷ [], record { digits = numeral_of_front k w e some; unit = unit; spelled = append-nil (take (suc k) w) ∙ last_of k w split.0 split.1 split.2 }));
  here = λ more b. unit_end k w b.0 e more (rw add-one at b.1);
}
  where
    one_unit : (c : ℕ) → unit_front (c ∷ []) ≡ 1 → 0 < unit_sectors (c ∷ [])
    one_unit c one = elim (true_or_false (nat_lt 0 (unit_sectors (c ∷ [])))) [
      | inl t ↦ ltb-true 0 (unit_sectors (c ∷ [])) t
      | inr f ↦ absurd (omega (arith, one, cond-false {A = ℕ} (nat_lt 0 (unit_sectors (c ∷ []))) 1 0 f))
    ]

    last_of : (k : ℕ) (w : List ℕ) (c : ℕ) (x : List ℕ) → drop k w ≡ c ∷ x → take (suc k) w ≡ take k w ++ c ∷ []
    last_of zero [] c x e = cc
    last_of zero (b ∷ bs) c x e = let same : b ≡ c = cc in ap (λ (n : ℕ). n ∷ []) same
    last_of (suc k) [] c x e = cc
    last_of (suc k) (b ∷ bs) c x e = ap (λ (v : List ℕ). b ∷ v) (last_of k bs c x e)

unit_front_cases : (v : List ℕ) → (unit_front v ≡ 0) ⊎ ((unit_front v ≡ 1) × (0 < length v))
unit_front_cases [] = inl refl
unit_front_cases (c ∷ x) = elim (true_or_false (nat_lt 0 (unit_sectors (c ∷ [])))) [
  | inl t ↦ inr (cond-true {A = ℕ} (nat_lt 0 (unit_sectors (c ∷ []))) 1 0 t, omega arith)
  | inr f ↦ inl (cond-false {A = ℕ} (nat_lt 0 (unit_sectors (c ∷ []))) 1 0 f)
]

-- the place of a word is the end of the front with which a length begins
pub length_place_is : (w : List ℕ) → IsPlace IsLengthWord w (length_place w)
length_place_is w = elim (true_or_false (numeral_front w == 0)) [
  | inl t ↦ subst (IsPlace IsLengthWord w) (sym (cond-true {A = ℕ} (numeral_front w == 0) 0 (numeral_front w + unit_front (drop (numeral_front w) w)) t)) (no_number w (eqb-true (numeral_front w) 0 t))
  | inr f ↦
      let there : length_place w ≡ numeral_front w + unit_front (drop (numeral_front w) w) = cond-false {A = ℕ} (numeral_front w == 0) 0 (numeral_front w + unit_front (drop (numeral_front w) w)) f in
      let some : 0 < numeral_front w = omega (arith, eqb-false (numeral_front w) 0 f) in
      elim (unit_front_cases (drop (numeral_front w) w)) [
        | inl none ↦ let at : numeral_front w ≡ length_place w = omega (arith, there, none) in subst (IsPlace IsLengthWord w) at (place_plain w (numeral_front w) refl none)
        | inr one ↦ let at : suc (numeral_front w) ≡ length_place w = omega (arith, there, one.0) in
            subst (IsPlace IsLengthWord w) at (place_unit w (numeral_front w) refl some (omega (arith, one.1, length-drop (numeral_front w) w)) one.0)
      ]
]

spelled_by : (w ds us : List ℕ) (k : ℕ) → ds ≡ take k w → us ≡ drop k w → w ≡ ds ++ us
spelled_by w ds us k d u = sym (ap (λ (x : List ℕ). x ++ us) d ∙ ap (λ (x : List ℕ). take k w ++ x) u ∙ take-append-drop k w)

-- what is measured has its number and its unit at the end of the front
pub record HasParts (ds : List ℕ) (each sectors : ℕ) : Type 0 where
  pub digits : is_numeral ds ≡ true
  pub unit : 0 < each
  pub value : sectors ≡ digits_value ds * each

pub measured_parts : (w ds us : List ℕ) (k each sectors : ℕ) → k ≡ numeral_front w → ds ≡ take k w → us ≡ drop k w → each ≡ unit_sectors us → Measures w sectors → HasParts ds each sectors
measured_parts w ds us k each sectors e d u a m =
    let parts = length_parts w m.digits m.unit m.form in
    let digits : m.digits ≡ ds = parts.0 ∙ ap (λ (n : ℕ). take n w) (sym e) ∙ sym d in
    let unit : m.unit ≡ us = parts.1 ∙ ap (λ (n : ℕ). drop n w) (sym e) ∙ sym u in
    let sized : unit_sectors m.unit ≡ each = ap unit_sectors unit ∙ sym a in
    record {
      digits = subst (λ (x : List ℕ). is_numeral x ≡ true) digits m.form.digits;
      unit = omega (arith, sized, m.form.unit);
      value = m.value ∙ ap (λ (x : List ℕ). digits_value x * unit_sectors m.unit) digits ∙ ap (λ (n : ℕ). digits_value ds * n) sized;
    }

pub measures_parts : (w ds us : List ℕ) (k each sectors : ℕ) → ds ≡ take k w → us ≡ drop k w → each ≡ unit_sectors us → is_numeral ds ≡ true → 0 < each
    → sectors ≡ digits_value ds * each → 0 < sectors → sectors ≤ 2 ^ 40 → Measures w sectors
measures_parts w ds us k each sectors d u a digits unit value some most = record {
  digits = ds;
  unit = us;
  form = record { digits = digits; unit = omega (arith, a, unit); spelled = spelled_by w ds us k d u };
  value = value ∙ ap (λ (n : ℕ). digits_value ds * n) a;
  some = some;
  most = most;
}

-- the place of a length is its end
pub whole_place : (w ds us : List ℕ) (k each : ℕ) → ds ≡ take k w → us ≡ drop k w → each ≡ unit_sectors us → is_numeral ds ≡ true → 0 < each → IsPlace IsLengthWord w (length w)
whole_place w ds us k each d u a digits unit = place_at_end IsLengthWord w (ds, us, record { digits = digits; unit = omega (arith, a, unit); spelled = spelled_by w ds us k d u })

-- a value that the cap cut off is too large, whatever its unit
pub capped_product : (capped value each : ℕ) → capped ≡ min value (2 ^ 40 + 1) → 0 < each → capped * each ≤ 2 ^ 40 → value ≡ capped
capped_product capped value each e some le =
    elim (cases_lt value (2 ^ 40 + 1)) [
      | inl lt ↦ omega (arith, e)
      | inr more ↦ let big : capped ≡ 2 ^ 40 + 1 = omega (arith, e) in absurd (omega (arith, big, le, mul-le-mul_left capped some))
    ]

zero_value : (value each : ℕ) → 0 < value * each → 0 < value
zero_value zero each h = absurd (omega arith)
zero_value (suc value) each h = omega arith

-- a length in bounds has a product in bounds
pub in_bounds : (capped value each sectors : ℕ) → capped ≡ min value (2 ^ 40 + 1) → 0 < each → sectors ≡ value * each → 0 < sectors → sectors ≤ 2 ^ 40 → (0 < capped * each) × (capped * each ≤ 2 ^ 40)
in_bounds capped value each sectors e some v more most =
    let positive : 0 < value = zero_value value each (omega (arith, v, more)) in
    let one : 1 ≤ capped = omega (arith, e, positive) in
    let below : capped ≤ value = omega (arith, e) in
    (omega (arith, some, mul-le-mul_left each one), omega (arith, v, most, mul-le-mul_left each below))
