-- The bytes of names.
use Rattle.std.proofs.Common.{◌≡◌, refl, ℕ, ◌<◌, ◌≤◌, inl, inr, Bool, true, false, List, [], ◌∷◌, arith}
use Rattle.std.specs.Prelude.{nat_lt, not, ◌==◌, ◌&&◌}
use Rattle.std.specs.List.{list_all}
use Rattle.std.proofs.lemmas.Bool.{and_parts, and_from, leb-true, eqb-true, lt-ltb, or_cases, ne_eqb, not_from_false}
use Rattle.vx_names.specs.Form.{is_name, is_name_byte, is_letter_or_digit, begins_well, is_within}

-- above the blank
abbrev pub is_dark : ℕ → Bool
is_dark b = nat_lt 32 b

-- some bytes, all of them dark
abbrev pub is_dark_word : List ℕ → Bool
is_dark_word [] = false
is_dark_word (b ∷ bs) = list_all is_dark (b ∷ bs)

pub left_of : (a b : Bool) → (a && b) ≡ true → a ≡ true
left_of a b h = (and_parts a b h).0

pub right_of : (a b : Bool) → (a && b) ≡ true → b ≡ true
right_of a b h = (and_parts a b h).1

-- both sides of a test, and a test of both
pub ruleset ands = (left_of, right_of, and_from)

pub record NameParts (w : List ℕ) : Type 0 where
  pub begins : begins_well w ≡ true
  pub bytes : list_all is_name_byte w ≡ true

pub name_parts : (w : List ℕ) → is_name w ≡ true → NameParts w
name_parts w h =
    let outer = and_parts _ (list_all is_name_byte w) h in
    record { begins = (and_parts (begins_well w) _ outer.0).0; bytes = outer.1 }

-- the byte is above the blank, neither `=` nor `/`
pub record IsPlain (b : ℕ) : Type 0 where
  pub dark : 32 < b
  pub no_equals : b ≡ 61 → ⊥
  pub no_slash : b ≡ 47 → ⊥

within_at : (low high b : ℕ) → is_within low high b ≡ true → (low ≤ b) × (b ≤ high)
within_at low high b h = let parts = and_parts _ _ h in (leb-true low b parts.0, leb-true b high parts.1)

plain_letter : (b : ℕ) → is_letter_or_digit b ≡ true → IsPlain b
plain_letter b h = elim (or_cases _ (is_within 97 122 b) h) [
  | inr small ↦ let at = within_at 97 122 b small in record { dark = omega (arith, at); no_equals = λ e. omega (arith, at, e); no_slash = λ e. omega (arith, at, e) }
  | inl rest ↦ elim (or_cases (is_within 48 57 b) (is_within 65 90 b) rest) [
    | inl digit ↦ let at = within_at 48 57 b digit in record { dark = omega (arith, at); no_equals = λ e. omega (arith, at, e); no_slash = λ e. omega (arith, at, e) }
    | inr big ↦ let at = within_at 65 90 b big in record { dark = omega (arith, at); no_equals = λ e. omega (arith, at, e); no_slash = λ e. omega (arith, at, e) }
  ]
]

pub plain : (b : ℕ) → is_name_byte b ≡ true → IsPlain b
plain b h = elim (or_cases _ (b == 46) h) [
  | inr dot ↦ let at : b ≡ 46 = eqb-true b 46 dot in record { dark = omega (arith, at); no_equals = λ e. omega (arith, at, e); no_slash = λ e. omega (arith, at, e) }
  | inl more ↦ elim (or_cases _ (b == 45) more) [
    | inr dash ↦ let at : b ≡ 45 = eqb-true b 45 dash in record { dark = omega (arith, at); no_equals = λ e. omega (arith, at, e); no_slash = λ e. omega (arith, at, e) }
    | inl less ↦ elim (or_cases (is_letter_or_digit b) (b == 95) less) [
      | inr line ↦ let at : b ≡ 95 = eqb-true b 95 line in record { dark = omega (arith, at); no_equals = λ e. omega (arith, at, e); no_slash = λ e. omega (arith, at, e) }
      | inl letter ↦ plain_letter b letter
    ]
  ]
]

-- not this byte
abbrev pub is_not : ℕ → ℕ → Bool
is_not b c = not (c == b)

pub all_by : {X : Type 0} (p q : X → Bool) → ((x : X) → p x ≡ true → q x ≡ true) → (xs : List X) → list_all p xs ≡ true → list_all q xs ≡ true
all_by p q each [] h = refl
all_by p q each (x ∷ xs) h = and_from _ _ (each x (search ands)) (all_by p q each xs (search ands))

-- a byte that no name has
pub name_without : (c : ℕ) → ((b : ℕ) → IsPlain b → b ≡ c → ⊥) → (w : List ℕ) → is_name w ≡ true → list_all (is_not c) w ≡ true
name_without c other w h = all_by is_name_byte (is_not c) (λ b t. not_from_false _ (ne_eqb b c (other b (plain b t)))) w (name_parts w h).bytes

pub name_dark : (w : List ℕ) → is_name w ≡ true → list_all is_dark w ≡ true
name_dark w h = all_by is_name_byte is_dark (λ b t. lt-ltb 32 b (plain b t).dark) w (name_parts w h).bytes

some_dark : (w : List ℕ) → begins_well w ≡ true → list_all is_dark w ≡ true → is_dark_word w ≡ true
some_dark [] b h = absurd cc
some_dark (c ∷ cs) b h = h

pub name_word : (w : List ℕ) → is_name w ≡ true → is_dark_word w ≡ true
name_word w h = some_dark w (name_parts w h).begins (name_dark w h)
