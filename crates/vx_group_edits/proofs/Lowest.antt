-- The data plex with the lowest map among records.
use Rattle.std.proofs.Common.{◌≡◌, ◌⊎◌, inl, inr, ℕ, ◌≤◌, Bool, true, false, cond, Option, Some, None, List, [], ◌∷◌, refl, sym, ◌∙◌, ap, subst, arith}
use Rattle.std.specs.Prelude.{nat_lt}
use Rattle.std.proofs.lemmas.Bool.{ltb-true, ltb-false}
use Rattle.vx_base.specs.Named.{Word}
use Rattle.vx_config_parts.specs.declared.object.Object.{Object}
use Rattle.vx_config_parts.specs.declared.object.Object.TheVariants.{PlexRecord}
use Rattle.vx_config_parts.specs.declared.plex.Plex.{Plex}
use Rattle.vx_config_parts.specs.Objects.{is_data_plex_of}
use Rattle.vx_image.proofs.PlexMembers.{IsIn}
use Rattle.vx_new_volumes.specs.Mirrors.{data_plex_of, lower, lowest_plex, map_number}

abbrev number : Plex → ℕ
number p = map_number p.map

-- ---- the lower of two

lower_one : (a b : Option Plex) (p : Plex) → lower a b ≡ Some p → (a ≡ Some p) ⊎ (b ≡ Some p)
lower_one None b p e = inr e
lower_one (Some a) None p e = inl e
lower_one (Some a) (Some b) p e = by (nat_lt (number b) (number a)) e
  where
    by : (t : Bool) → cond t (Some b) (Some a) ≡ Some p → (Some a ≡ Some p) ⊎ (Some b ≡ Some p)
    by true e = inr e
    by false e = inl e

same_number : (p q : Plex) → Some q ≡ Some p → number p ≤ number q
same_number p q e = let same : q ≡ p = cc in subst (λ (x : Plex). number p ≤ number x) (sym same) (omega arith)

lower_first : (a : Plex) (b : Option Plex) (p : Plex) → lower (Some a) b ≡ Some p → number p ≤ number a
lower_first a None p e = same_number p a e
lower_first a (Some b) p e = by (nat_lt (number b) (number a)) refl e
  where
    by : (t : Bool) → nat_lt (number b) (number a) ≡ t → cond t (Some b) (Some a) ≡ Some p → number p ≤ number a
    by true is e = let le = same_number p b e in let lt = ltb-true (number b) (number a) is in omega (arith, le, lt)
    by false is e = same_number p a e

lower_second : (a : Option Plex) (b p : Plex) → lower a (Some b) ≡ Some p → number p ≤ number b
lower_second None b p e = same_number p b e
lower_second (Some a) b p e = by (nat_lt (number b) (number a)) refl e
  where
    by : (t : Bool) → nat_lt (number b) (number a) ≡ t → cond t (Some b) (Some a) ≡ Some p → number p ≤ number b
    by true is e = same_number p b e
    by false is e = let le = same_number p a e in let more = ltb-false (number b) (number a) is in omega (arith, le, more)

some_first : (a : Plex) (b : Option Plex) → (p : Plex) × (lower (Some a) b ≡ Some p)
some_first a None = (a, refl)
some_first a (Some b) = by (nat_lt (number b) (number a))
  where
    by : (t : Bool) → (p : Plex) × (cond t (Some b) (Some a) ≡ Some p)
    by true = (b, refl)
    by false = (a, refl)

some_second : (a : Option Plex) (b : Plex) → (p : Plex) × (lower a (Some b) ≡ Some p)
some_second None b = (b, refl)
some_second (Some a) b = some_first a (Some b)

-- ---- a record

own_plex : (vol : Word) (o : Object) (p : Plex) → data_plex_of vol o ≡ Some p → (o ≡ PlexRecord p) × (is_data_plex_of vol p ≡ true)
own_plex vol (PlexRecord q) p e = by (is_data_plex_of vol q) refl e
  where
    by : (b : Bool) → is_data_plex_of vol q ≡ b → cond b (Some q) None ≡ Some p → (PlexRecord q ≡ PlexRecord p) × (is_data_plex_of vol p ≡ true)
    by true is e = let same : q ≡ p = cc in (ap (λ x. PlexRecord x) same, subst (λ x. is_data_plex_of vol x ≡ true) same is)
    by false is e = absurd cc
own_plex vol o p e = absurd cc

plex_own : (vol : Word) (o : Object) (p : Plex) → PlexRecord p ≡ o → is_data_plex_of vol p ≡ true → data_plex_of vol o ≡ Some p
plex_own vol o p same own = subst (λ x. data_plex_of vol x ≡ Some p) same (ap (λ b. cond b (Some p) None) own)

-- ---- all records

pub lowest_in : (vol : Word) (os : List Object) (p : Plex) → lowest_plex vol os ≡ Some p → IsIn os (PlexRecord p) × (is_data_plex_of vol p ≡ true)
lowest_in vol [] p e = absurd cc
lowest_in vol (o ∷ os) p e = elim (lower_one (data_plex_of vol o) (lowest_plex vol os) p e) [
  | inl here ↦ let own = own_plex vol o p here in (inl (sym own.0), own.1)
  | inr there ↦ let r = lowest_in vol os p there in (inr r.0, r.1)
]

pub lowest_some : (vol : Word) (os : List Object) (q : Plex) → IsIn os (PlexRecord q) → is_data_plex_of vol q ≡ true → (p : Plex) × (lowest_plex vol os ≡ Some p)
lowest_some vol [] q there own = absurd there
lowest_some vol (o ∷ os) q (inl same) own =
    let r = some_first q (lowest_plex vol os) in
    (r.0, ap (λ x. lower x (lowest_plex vol os)) (plex_own vol o q same own) ∙ r.1)
lowest_some vol (o ∷ os) q (inr there) own =
    let r = lowest_some vol os q there own in
    let s = some_second (data_plex_of vol o) r.0 in
    (s.0, ap (λ x. lower (data_plex_of vol o) x) r.1 ∙ s.1)

pub lowest_below : (vol : Word) (os : List Object) (p q : Plex) → lowest_plex vol os ≡ Some p → IsIn os (PlexRecord q) → is_data_plex_of vol q ≡ true → map_number p.map ≤ map_number q.map
lowest_below vol [] p q e there own = absurd there
lowest_below vol (o ∷ os) p q e (inl same) own = lower_first q (lowest_plex vol os) p (ap (λ x. lower x (lowest_plex vol os)) (sym (plex_own vol o q same own)) ∙ e)
lowest_below vol (o ∷ os) p q e (inr there) own =
    let r = lowest_some vol os q there own in
    let le = lower_second (data_plex_of vol o) r.0 p (ap (λ x. lower (data_plex_of vol o) x) (sym r.1) ∙ e) in
    let more = lowest_below vol os r.0 q r.1 there own in
    omega (arith, le, more)
