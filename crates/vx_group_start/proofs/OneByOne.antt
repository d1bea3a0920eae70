-- Volumes are put back, one after the other.
use Rattle.std.proofs.Common.{◌≡◌, ◌<◌, List, [], ◌∷◌, ◌++◌, length, Option, Some, None, refl, sym, subst, append_assoc, arith, true, false}
use Rattle.std.specs.Prelude.{IsSome}
use Rattle.std.specs.List.{flat_map}
use Rattle.std.proofs.lemmas.List.Sorted.{IsPermutation-append_comm}
use Rattle.vx_piece.specs.Seen.{Seen}
use Rattle.vx_carve.specs.Together.{SameSectors}
use Rattle.vx_carve.proofs.Same.{same_beside, same_moved, same_trans}
use Rattle.vx_copies.specs.Lists.{AllOf}
use Rattle.vx_group_start.proofs.Stills.{first_of, one_more}

-- ---- the pieces of one come to the front, or go back

module _ {X : Type 0} (f : X → List Seen) where
  -- of the last one
  pub last_first : (items rest : List X) (x : X) (ss rs : List Seen) → items ≡ rest ++ x ∷ [] → SameSectors (ss ++ (rs ++ flat_map f items)) (f x ++ (ss ++ (rs ++ flat_map f rest)))
  last_first items rest x ss rs e =
      subst (λ (zs : List Seen). SameSectors zs (f x ++ (ss ++ (rs ++ flat_map f rest)))) (append_assoc ss rs (flat_map f items))
      (subst (λ (zs : List Seen). SameSectors ((ss ++ rs) ++ flat_map f items) (f x ++ zs)) (append_assoc ss rs (flat_map f rest)) (first_of f items rest x (ss ++ rs) e))

  pub last_back : (items now : List X) (x : X) (ss rs : List Seen) → now ≡ items ++ x ∷ [] → SameSectors (f x ++ (ss ++ (rs ++ flat_map f items))) (ss ++ (rs ++ flat_map f now))
  last_back items now x ss rs e =
      subst (λ (zs : List Seen). SameSectors (f x ++ (ss ++ (rs ++ flat_map f items))) (ss ++ (rs ++ zs))) (one_more f items now x e)
      (subst (λ (zs : List Seen). SameSectors (f x ++ (ss ++ (rs ++ flat_map f items))) (ss ++ zs)) (append_assoc rs (flat_map f items) (f x))
      (subst (λ (zs : List Seen). SameSectors (f x ++ (ss ++ (rs ++ flat_map f items))) zs) (append_assoc ss (rs ++ flat_map f items) (f x))
      (same_moved _ _ (IsPermutation-append_comm (f x) (ss ++ (rs ++ flat_map f items))))))

in_front : (xs ss rs ts : List Seen) → SameSectors (ss ++ ((xs ++ rs) ++ ts)) (xs ++ (ss ++ (rs ++ ts)))
in_front xs ss rs ts =
    subst (λ (zs : List Seen). SameSectors (ss ++ zs) (xs ++ (ss ++ (rs ++ ts)))) (sym (append_assoc xs rs ts))
    (subst (λ (zs : List Seen). SameSectors zs (xs ++ (ss ++ (rs ++ ts)))) (append_assoc ss xs (rs ++ ts))
    (subst (λ (zs : List Seen). SameSectors ((ss ++ xs) ++ (rs ++ ts)) zs) (append_assoc xs ss (rs ++ ts)) (same_beside (rs ++ ts) (ss ++ xs) (xs ++ ss) (same_moved _ _ (IsPermutation-append_comm ss xs)))))

-- of the first one
pub head_first : {X : Type 0} (f : X → List Seen) (items rest : List X) (x : X) (ss ts : List Seen) → items ≡ x ∷ rest → SameSectors (ss ++ (flat_map f items ++ ts)) (f x ++ (ss ++ (flat_map f rest ++ ts)))
head_first f items rest x ss ts e = subst (λ xs. SameSectors (ss ++ (flat_map f xs ++ ts)) (f x ++ (ss ++ (flat_map f rest ++ ts)))) (sym e) (in_front (f x) ss (flat_map f rest) ts)

-- one that is kept, while the pieces that lie still move
pub kept_back : {X : Type 0} (f : X → List Seen) (items now : List X) (x : X) (xs ss ss' rs : List Seen) → f x ≡ xs → now ≡ items ++ x ∷ [] → SameSectors ss ss' → SameSectors (xs ++ (ss ++ (rs ++ flat_map f items))) (ss' ++ (rs ++ flat_map f now))
kept_back f items now x xs ss ss' rs same e kept =
    subst (λ (zs : List Seen). SameSectors (zs ++ (ss ++ (rs ++ flat_map f items))) (ss' ++ (rs ++ flat_map f now))) same
    (same_trans _ _ _ (last_back f items now x ss rs e) (same_beside (rs ++ flat_map f now) ss ss' kept))

-- ---- all of a list

module _ {X : Type 0} (Q : X → Type 0) where
  all_parted : (rest : List X) (x : X) → AllOf Q (rest ++ x ∷ []) → AllOf Q rest × Q x
  all_parted [] x all = (tt, all.0)
  all_parted (y ∷ ys) x all = let parts = all_parted ys x all.1 in ((all.0, parts.0), parts.1)

  pub all_but_last : (items rest : List X) (x : X) → items ≡ rest ++ x ∷ [] → AllOf Q items → AllOf Q rest × Q x
  all_but_last items rest x e all = all_parted rest x (subst (AllOf Q) e all)

  pub all_behind : (items rest : List X) (x : X) → items ≡ x ∷ rest → AllOf Q items → Q x × AllOf Q rest
  all_behind items rest x e all = subst (AllOf Q) e all

-- none is left
pub none_left : {X : Type 0} (o : Option X) (entries : List X) → (0 < length entries → IsSome o) → ((x : X) → o ≡ Some x → ⊥) → entries ≡ []
none_left o [] some none = refl
none_left None (e ∷ es) some none = let h : false ≡ true = some (omega arith) in cc
none_left (Some x) (e ∷ es) some none = absurd (none x refl)
