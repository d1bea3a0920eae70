-- Pieces that are put back lie still.
use Rattle.std.proofs.Common.{◌≡◌, List, [], ◌∷◌, ◌++◌, ◌∙◌, sym, ap, subst, append_assoc, append-nil}
use Rattle.std.specs.List.{flat_map}
use Rattle.std.proofs.lemmas.List.Concat.{flat_map-append}
use Rattle.std.proofs.lemmas.List.Sorted.{IsPermutation-append_comm}
use Rattle.vx_piece.specs.Seen.{Seen}
use Rattle.vx_carve.specs.Together.{SameSectors}
use Rattle.vx_carve.proofs.Same.{same_beside, same_moved, same_trans}

-- all of them
pub still_put : (xs ps qs ls : List Seen) → SameSectors (xs ++ ps) qs → SameSectors (xs ++ (ps ++ ls)) (qs ++ ls)
still_put xs ps qs ls put = subst (λ (zs : List Seen). SameSectors zs (qs ++ ls)) (append_assoc xs ps ls) (same_beside ls (xs ++ ps) qs put)

-- some of them, and the rest stays among what is left
still_left : (xs ps rs qs ls : List Seen) → SameSectors (xs ++ ps) (rs ++ qs) → SameSectors (xs ++ (ps ++ ls)) (qs ++ (ls ++ rs))
still_left xs ps rs qs ls put =
    same_trans _ _ _ (still_put xs ps (rs ++ qs) ls put)
    (subst (λ (zs : List Seen). SameSectors ((rs ++ qs) ++ ls) zs) (append_assoc qs ls rs)
    (subst (λ (zs : List Seen). SameSectors zs ((qs ++ ls) ++ rs)) (sym (append_assoc rs qs ls)) (same_moved _ _ (IsPermutation-append_comm rs (qs ++ ls)))))

pub one_more : {X : Type 0} (f : X → List Seen) (xs ys : List X) (x : X) → ys ≡ xs ++ x ∷ [] → flat_map f xs ++ f x ≡ flat_map f ys
one_more f xs ys x e = sym (ap (flat_map f) e ∙ flat_map-append f xs (x ∷ []) ∙ ap (λ (zs : List Seen). flat_map f xs ++ zs) (append-nil (f x)))

pub still_more : {X : Type 0} (f : X → List Seen) (left left' : List X) (x : X) (xs ps qs : List Seen) → left' ≡ left ++ x ∷ [] → SameSectors (xs ++ ps) (f x ++ qs) → SameSectors (xs ++ (ps ++ flat_map f left)) (qs ++ flat_map f left')
still_more f left left' x xs ps qs e put = subst (λ (zs : List Seen). SameSectors (xs ++ (ps ++ flat_map f left)) (qs ++ zs)) (one_more f left left' x e) (still_left xs ps (f x) qs (flat_map f left) put)

-- ---- what is left is put in

-- that of one volume, which comes first
pub first_of : {X : Type 0} (f : X → List Seen) (left rest : List X) (x : X) (ps : List Seen) → left ≡ rest ++ x ∷ [] → SameSectors (ps ++ flat_map f left) (f x ++ (ps ++ flat_map f rest))
first_of f left rest x ps e =
    subst (λ (zs : List Seen). SameSectors (ps ++ zs) (f x ++ (ps ++ flat_map f rest))) (one_more f rest left x e)
    (subst (λ (zs : List Seen). SameSectors zs (f x ++ (ps ++ flat_map f rest))) (append_assoc ps (flat_map f rest) (f x)) (same_moved _ _ (IsPermutation-append_comm (ps ++ flat_map f rest) (f x))))

pub still_less : {X : Type 0} (f : X → List Seen) (left rest : List X) (x : X) (ps qs : List Seen) → left ≡ rest ++ x ∷ [] → SameSectors (f x ++ ps) qs → SameSectors (ps ++ flat_map f left) (qs ++ flat_map f rest)
still_less f left rest x ps qs e put = same_trans _ _ _ (first_of f left rest x ps e) (still_put (f x) ps qs (flat_map f rest) put)

pub still_again : {X : Type 0} (f : X → List Seen) (left rest now : List X) (x y : X) (ps qs : List Seen) → left ≡ rest ++ x ∷ [] → now ≡ rest ++ y ∷ [] → SameSectors (f x ++ ps) (f y ++ qs) → SameSectors (ps ++ flat_map f left) (qs ++ flat_map f now)
still_again f left rest now x y ps qs e e' put = same_trans _ _ _ (first_of f left rest x ps e) (still_more f rest now y (f x) ps qs e' put)
