-- Devices that stand on a shelf which nobody has met.
use Rattle.std.proofs.Common.{◌≡◌, ◌∙◌, ◌-◌, ◌≤◌, ◌&&◌, Bool, true, false, cond, not, List, [], ◌∷◌, length, take, drop, get_or, None, refl, ap, sym, arith}
use Rattle.std.specs.List.{list_all}
use Rattle.std.proofs.lemmas.Bool.{and_parts, and_from, and_left, cond-false}
use Rattle.std.proofs.lemmas.List.{take_all}
use Rattle.vx_base.specs.Named.{Word}
use Rattle.vx_shelf.specs.MemShelf.{Place, is_under, is_empty, is_whole, is_at_rest, are_apart, differ_in_number, are_numbered, fits, are_devices, held_by, held_in}

not_true : (b : Bool) → not b ≡ true → b ≡ false
not_true true e = cc
not_true false e = refl

-- each is whole, and has a sector
pub devices_whole : (p : Place) (ps : List Place) → are_devices (p ∷ ps) ≡ true → is_whole p.1 ≡ true
devices_whole p ps e = (and_parts _ _ (and_parts _ _ e).0).0

is_full : (p : Place) (ps : List Place) → are_devices (p ∷ ps) ≡ true → is_empty p.1 ≡ false
is_full p ps e = not_true (is_empty p.1) (and_parts _ _ (devices_whole p ps e)).1

pub devices_at_rest : (ps : List Place) → are_devices ps ≡ true → list_all is_at_rest ps ≡ true
devices_at_rest [] e = refl
devices_at_rest (p ∷ ps) e =
    and_from _ _ (cond-false _ _ _ (is_full p ps e) ∙ (and_parts _ _ (devices_whole p ps e)).0) (devices_at_rest ps (and_parts _ _ e).1)

-- no two have one number
pub devices_numbered : (ps : List Place) → are_devices ps ≡ true → are_numbered ps ≡ true
devices_numbered [] e = refl
devices_numbered (p ∷ ps) e = and_from _ _ (differ ps (and_parts _ _ (and_parts _ _ e).0).1) (devices_numbered ps (and_parts _ _ e).1)
  where
    differ : (qs : List Place) → list_all (are_apart p) qs ≡ true → list_all (differ_in_number p) qs ≡ true
    differ [] apart = refl
    differ (q ∷ qs) apart = and_from _ _ (and_parts _ _ (and_parts _ _ apart).0).1 (differ qs (and_parts _ _ apart).1)

pub devices_not_held : (ps : List Place) (name : Word) → are_devices ps ≡ true → held_in ps name ≡ None
devices_not_held [] name e = refl
devices_not_held (p ∷ ps) name e = by_test (is_under name p) (devices_not_held ps name (and_parts _ _ e).1)
  where
    by_test : (b : Bool) → held_in ps name ≡ None → cond b (held_by p.1) (held_in ps name) ≡ None
    by_test true rest = cond-false _ _ _ (is_full p ps e)
    by_test false rest = rest

behind_first : (p : Place) (ps : List Place) → take (length (p ∷ ps) - 1) (drop 1 (p ∷ ps)) ≡ ps
behind_first p ps = take_all (length (p ∷ ps) - 1) ps (omega arith)

-- devices, by the first and those behind it
devices_by_first : (ps : List Place) (p d : Place) → 1 ≤ length ps → p ≡ get_or ps 0 d → let behind : List Place = take (length ps - 1) (drop 1 ps) in are_devices ps ≡ (fits p behind && are_devices behind)
devices_by_first [] p d some first = absurd (omega arith)
devices_by_first (q ∷ qs) p d some first = sym (ap (λ xs. fits p xs && are_devices xs) (behind_first q qs) ∙ ap (λ x. fits x qs && are_devices qs) first)

pub first_misfits : (ps : List Place) (p d : Place) (all fit : Bool) → all ≡ are_devices ps → 1 ≤ length ps → p ≡ get_or ps 0 d → fit ≡ fits p (take (length ps - 1) (drop 1 ps)) → fit ≡ false → false ≡ all
first_misfits ps p d all fit is some first fit_is misfits = sym (is ∙ devices_by_first ps p d some first ∙ and_left _ _ (sym fit_is ∙ misfits))

pub first_fits : (ps : List Place) (p d : Place) (all fit : Bool) → all ≡ are_devices ps → 1 ≤ length ps → p ≡ get_or ps 0 d → let behind : List Place = take (length ps - 1) (drop 1 ps) in fit ≡ fits p behind → fit ≡ true → all ≡ are_devices behind
first_fits ps p d all fit is some first fit_is fitting =
    let behind : List Place = take (length ps - 1) (drop 1 ps) in
    is ∙ devices_by_first ps p d some first ∙ ap (λ b. b && are_devices behind) (sym fit_is ∙ fitting)
