-- Counts of the records so far, once there is one more.
use Rattle.std.proofs.Common.{◌≡◌, ℕ, ◌+◌, ◌<◌, Bool, true, false, List, [], ◌∷◌, length, take, get_or, ◌==◌, ◌&&◌, zero, suc, refl, sym, ◌∙◌, subst, inl, inr, arith, add-zero, if◌then◌else◌}
use Rattle.std.proofs.lemmas.Bool.{cases_Bool, eqb-true}
use Rattle.std.proofs.lemmas.List.Sums.{count_by_more_yes, count_by_more_no}
use Rattle.std.specs.List.{count_by, list_all}
use Rattle.std.specs.Str.{bytes_eq}
use Rattle.vx_base.specs.Named.{Word}
use Rattle.vx_config_parts.specs.declared.object.Object.{Object}
use Rattle.vx_config_parts.specs.Objects.{is_plex, is_snap, is_data_plex_of}
use Rattle.vx_rules.specs.Maps.{has_map, map_uses}

count_more : (p : Object → Bool) (xs : List Object) (i : ℕ) (o : Object) → i < length xs → o ≡ get_or xs i o → count_by p (take (i + 1) xs) ≡ count_by p (take i xs) + (if p o then 1 else 0)
count_more p xs i o lt item =
    elim (cases_Bool (p o)) [
      | inl passed ↦ rw passed (count_by_more_yes p xs i o lt (subst (λ x. p x ≡ true) item passed))
      | inr failed ↦ rw failed (count_by_more_no p xs i o lt (subst (λ x. p x ≡ false) item failed) ∙ sym (add-zero _))
    ]

-- a record more adds its own uses of a map
pub uses_more : (all : List Object) (vol : Word) (i : ℕ) (o : Object) (m : ℕ) (a b c : Bool) → i < length all → o ≡ get_or all i o → a ≡ is_plex (λ p. is_data_plex_of vol p && has_map p.map m) o → b ≡ is_snap (λ s. bytes_eq s.vol vol && s.map == m) o → c ≡ is_snap (λ s. bytes_eq s.of vol && s.ofmap == m) o → map_uses (take (i + 1) all) vol m ≡ map_uses (take i all) vol m + (if a then 1 else 0) + (if b then 1 else 0) + (if c then 1 else 0)
uses_more all vol i o m a b c lt item plex snap of =
    let x = count_more (λ o. is_plex (λ p. is_data_plex_of vol p && has_map p.map m) o) all i o lt item in
    let y = count_more (λ o. is_snap (λ s. bytes_eq s.vol vol && s.map == m) o) all i o lt item in
    let z = count_more (λ o. is_snap (λ s. bytes_eq s.of vol && s.ofmap == m) o) all i o lt item in
    rw (plex, snap, of) (omega arith)

left : (a b : Bool) → (a && b) ≡ true → a ≡ true
left true b e = refl
left false b e = cc

right : (a b : Bool) → (a && b) ≡ true → b ≡ true
right true b e = e
right false b e = cc

-- a list of zeros has a zero at each place
zero_at : (xs : List ℕ) → list_all (λ x. x == 0) xs ≡ true → (m : ℕ) → get_or xs m 0 ≡ 0
zero_at [] e m = refl
zero_at (x ∷ xs) e zero = eqb-true x 0 (left (x == 0) (list_all (λ x. x == 0) xs) e)
zero_at (x ∷ xs) e (suc m) = zero_at xs (right (x == 0) (list_all (λ x. x == 0) xs) e) m

-- no map is used
abbrev unused : List ℕ
unused = 0 ∷ 0 ∷ 0 ∷ 0 ∷ 0 ∷ 0 ∷ 0 ∷ 0 ∷ 0 ∷ 0 ∷ 0 ∷ 0 ∷ 0 ∷ 0 ∷ 0 ∷ 0 ∷ 0 ∷ 0 ∷ 0 ∷ 0 ∷ 0 ∷ 0 ∷ 0 ∷ 0 ∷ 0 ∷ 0 ∷ 0 ∷ 0 ∷ 0 ∷ 0 ∷ []

pub unused_at : (m : ℕ) → get_or unused m 0 ≡ 0
unused_at m = zero_at unused refl m
