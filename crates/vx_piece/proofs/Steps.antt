-- A list whose items are changed one after the other.
use Rattle.std.proofs.Common.{◌≡◌, ◌∙◌, ℕ, ◌+◌, ◌<◌, List, [], ◌∷◌, ◌++◌, suc, length, map, take, drop, get_or, sym, ap, subst, arith, add-one, drop-cons, append_assoc}
use Rattle.std.proofs.Math.ListN.{set}
use Rattle.std.proofs.Math.Seq.{get_or-append_seam, set-append_seam}
use Rattle.std.proofs.lemmas.List.{length-map, length-take-le, map_more}

seam_step : {X : Type 0} (f : X → X) (front : List X) (x : X) (back : List X) (i : ℕ) (d : X) → length front ≡ i → set (front ++ x ∷ back) i (f (get_or (front ++ x ∷ back) i d)) ≡ front ++ f x ∷ back
seam_step f front x back i d len =
    subst (λ i. set (front ++ x ∷ back) i (f (get_or (front ++ x ∷ back) i d)) ≡ front ++ f x ∷ back) len
    (ap (λ v. set (front ++ x ∷ back) (length front) (f v)) (get_or-append_seam front x back d) ∙ set-append_seam front x back (f x))

-- one more item is changed
pub map_step : {X : Type 0} (f : X → X) (xs : List X) (i : ℕ) (d : X) → i < length xs → set (map f (take i xs) ++ drop i xs) i (f (get_or (map f (take i xs) ++ drop i xs) i d)) ≡ map f (take (i + 1) xs) ++ drop (i + 1) xs
map_step f xs i d lt =
    let len : length (map f (take i xs)) ≡ i = length-map (take i xs) f ∙ length-take-le i xs (omega arith) in
    let next : drop i xs ≡ get_or xs i d ∷ drop (suc i) xs = drop-cons xs i d lt in
    ap (λ ys. set (map f (take i xs) ++ ys) i (f (get_or (map f (take i xs) ++ ys) i d))) next
    ∙ seam_step f (map f (take i xs)) (get_or xs i d) (drop (suc i) xs) i d len
    ∙ sym (ap (λ ys. ys ++ drop (i + 1) xs) (map_more f xs i d lt) ∙ append_assoc (map f (take i xs)) (f (get_or xs i d) ∷ []) (drop (i + 1) xs) ∙ ap (λ k. map f (take i xs) ++ f (get_or xs i d) ∷ drop k xs) (add-one i))

-- the same of a list that is known to be so, and a new item that is known to be so
pub map_step_at : {X : Type 0} (f : X → X) (xs now : List X) (i : ℕ) (x d : X) → i < length xs → now ≡ map f (take i xs) ++ drop i xs → x ≡ f (get_or now i d) → set now i x ≡ map f (take (i + 1) xs) ++ drop (i + 1) xs
map_step_at f xs now i x d lt is new = ap (set now i) new ∙ ap (λ ys. set ys i (f (get_or ys i d))) is ∙ map_step f xs i d lt
