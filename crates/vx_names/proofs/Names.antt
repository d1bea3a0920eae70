-- Where a word stops being a name.
use Rattle.std.specs.Prelude.{◌&&◌, nat_le}
use Rattle.std.proofs.lemmas.List.{length-take}
use Rattle.std.proofs.Common.{◌≡◌, ℕ, zero, suc, ◌<◌, ◌≤◌, min, true, false, List, [], ◌∷◌, ◌++◌, length, take, refl, sym, ◌∙◌, subst, arith, length-append, add-one, inl, inr}
use Rattle.std.specs.List.{list_all, prefix_len}
use Rattle.std.proofs.lemmas.Bool.{and_parts, and_from, cond-true, cond-false, le-leb, leb-true, false≢true}
use Rattle.std.proofs.lemmas.List.{append-nil}
use Rattle.std.proofs.lemmas.List.Sums.{prefix_len-le-length}
use Rattle.vx_base.proofs.NamedLemmas.{true_or_false}
use Rattle.vx_names.specs.Form.{is_name, begins_well, is_letter_or_digit, is_name_byte}
use Rattle.vx_names.specs.Named.{IsNameWord, name_front}
use Rattle.vx_names.specs.Place.{IsPlace}
use Rattle.vx_names.proofs.Fronts.{take_passes, all_front, front_ends, front_again}

-- the parts of a name
pub record HasNameParts (w : List ℕ) : Type 0 where
  pub begins : begins_well w ≡ true
  pub short : length w ≤ 31
  pub bytes : list_all is_name_byte w ≡ true

pub name_parts : (w : List ℕ) → is_name w ≡ true → HasNameParts w
name_parts w h =
    let outer = and_parts (begins_well w && nat_le (length w) 31) (list_all is_name_byte w) h in
    let inner = and_parts (begins_well w) (nat_le (length w) 31) outer.0 in
    record { begins = inner.0; short = leb-true (length w) 31 inner.1; bytes = outer.1 }

pub name_from : (w : List ℕ) → begins_well w ≡ true → length w ≤ 31 → list_all is_name_byte w ≡ true → is_name w ≡ true
name_from w begins short bytes = and_from _ _ (and_from _ _ begins (le-leb (length w) 31 short)) bytes

pub front_inside : (w : List ℕ) → name_front w ≤ length w
front_inside w = elim (true_or_false (begins_well w)) [
  | inl t ↦ omega (arith, cond-true (begins_well w) (min 31 (prefix_len is_name_byte w)) 0 t, prefix_len-le-length is_name_byte w)
  | inr f ↦ omega (arith, cond-false (begins_well w) (min 31 (prefix_len is_name_byte w)) 0 f)
]

-- a name is its own front
pub front_of_name : (w : List ℕ) → is_name w ≡ true → name_front w ≡ length w
front_of_name w h =
    let parts = name_parts w h in
    omega (arith, cond-true (begins_well w) (min 31 (prefix_len is_name_byte w)) 0 parts.begins, parts.short, all_front is_name_byte w parts.bytes)

begins_more : (w v : List ℕ) → begins_well w ≡ true → begins_well (w ++ v) ≡ true
begins_more [] v h = absurd (false≢true h)
begins_more (b ∷ bs) v h = h

-- a name is the front of what another byte follows
pub front_before : (w : List ℕ) (c : ℕ) (v : List ℕ) → is_name w ≡ true → is_name_byte c ≡ false → name_front (w ++ c ∷ v) ≡ length w
front_before w c v h f =
    let parts = name_parts w h in
    let begins = begins_more w (c ∷ v) parts.begins in
    omega (arith, cond-true (begins_well (w ++ c ∷ v)) (min 31 (prefix_len is_name_byte (w ++ c ∷ v))) 0 begins, parts.short, front_ends is_name_byte w c v parts.bytes f)

-- the front is a name
pub name_of_front : (k : ℕ) (w : List ℕ) → k ≡ name_front w → 0 < k → is_name (take k w) ≡ true
name_of_front zero w e lt = absurd (omega arith)
name_of_front (suc k) [] e lt = absurd (omega arith)
name_of_front (suc k) (b ∷ bs) e lt = elim (true_or_false (is_letter_or_digit b)) [
  | inl t ↦
      let capped : suc k ≡ min 31 (prefix_len is_name_byte (b ∷ bs)) = e ∙ cond-true (is_letter_or_digit b) (min 31 (prefix_len is_name_byte (b ∷ bs))) 0 t in
      name_from (b ∷ take k bs) t (omega (arith, capped, length-take {A = ℕ} k bs)) (take_passes is_name_byte (suc k) (b ∷ bs) (omega (arith, capped)))
  | inr f ↦ absurd (omega (arith, e ∙ cond-false (is_letter_or_digit b) (min 31 (prefix_len is_name_byte (b ∷ bs))) 0 f))
]

-- the front and the byte behind it tell where the front ends
pub name_front_again : (k : ℕ) (w r : List ℕ) → k ≡ name_front w → k < length w → name_front (take (suc k) w ++ r) ≡ k
name_front_again k [] r e lt = absurd (omega arith)
name_front_again k (b ∷ bs) r e lt = elim (true_or_false (is_letter_or_digit b)) [
  | inl t ↦
      let capped : k ≡ min 31 (prefix_len is_name_byte (b ∷ bs)) = e ∙ cond-true (is_letter_or_digit b) (min 31 (prefix_len is_name_byte (b ∷ bs))) 0 t in
      cond-true (is_letter_or_digit b) (min 31 (prefix_len is_name_byte (b ∷ (take k bs ++ r)))) 0 t ∙ front_again is_name_byte 31 k (b ∷ bs) r capped lt
  | inr f ↦
      let none : k ≡ 0 = e ∙ cond-false (is_letter_or_digit b) (min 31 (prefix_len is_name_byte (b ∷ bs))) 0 f in
      cond-false (is_letter_or_digit b) (min 31 (prefix_len is_name_byte (b ∷ (take k bs ++ r)))) 0 f ∙ sym none
]

-- `a` is a name
a_name : is_name (97 ∷ []) ≡ true
a_name = refl

pub begins_name : (k : ℕ) (w : List ℕ) → k ≡ name_front w → (rest : List ℕ) × IsNameWord (take k w ++ rest)
begins_name zero w e = (97 ∷ [], a_name)
begins_name (suc k) w e = ([], subst (λ (v : List ℕ). is_name v ≡ true) (sym (append-nil (take (suc k) w))) (name_of_front (suc k) w e (omega arith)))

-- the place of a word that is no name is the end of its front
pub name_place : (w : List ℕ) → IsPlace IsNameWord w (name_front w)
name_place w = record {
  inside = front_inside w;
  before = begins_name (name_front w) w refl;
  here = λ lt b.
      let more : length (take (suc (name_front w)) w) ≡ suc (name_front w) = omega (arith, length-take {A = ℕ} (suc (name_front w)) w) in
      let again : name_front (take (suc (name_front w)) w ++ b.0) ≡ name_front w = name_front_again (name_front w) w b.0 refl lt in
      let whole : IsNameWord (take (suc (name_front w)) w ++ b.0) = rw add-one at b.1 in
      let all : name_front (take (suc (name_front w)) w ++ b.0) ≡ length (take (suc (name_front w)) w ++ b.0) = front_of_name (take (suc (name_front w)) w ++ b.0) whole in
      omega (arith, again, all, more, length-append (take (suc (name_front w)) w) b.0);
}
