-- A part of a sector, byte by byte.
use Rattle.std.proofs.Common.{◌≡◌, ℕ, ◌+◌, ◌<◌, ◌≤◌, List, length, take, drop, get_or, arith, sym, ◌∙◌, ap}
use Rattle.std.proofs.lemmas.List.{get_or-take, get_or-drop, ext_get_or, length-take-le, length-drop}

-- the bytes of equal fronts
pub same_front : (xs ys : List ℕ) (n i : ℕ) → take n ys ≡ take n xs → i < n → get_or xs i 0 ≡ get_or ys i 0
same_front xs ys n i e lt =
    sym (get_or-take n xs i 0 lt) ∙ ap (λ (zs : List ℕ). get_or zs i 0) (sym e) ∙ get_or-take n ys i 0 lt

-- the field that stands at a place
pub same_field : (sector field : List ℕ) (at n : ℕ) → length field ≡ n → at + n ≤ length sector →
    ((i : ℕ) → i < n → get_or sector (at + i) 0 ≡ get_or field i 0) → field ≡ take n (drop at sector)
same_field sector field at n len fits same =
    let size : length (take n (drop at sector)) ≡ n = length-take-le n (drop at sector) (omega (arith, length-drop at sector)) in
    ext_get_or 0 field (take n (drop at sector)) (len ∙ sym size)
    (λ i lt. let below : i < n = omega (arith, lt, len) in
    sym (get_or-take n (drop at sector) i 0 below ∙ get_or-drop at sector i 0 ∙ same i below))
