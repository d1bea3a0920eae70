-- One step of cutting, and putting back.
use Rattle.std.proofs.Common.{◌≡◌, ℕ, zero, suc, ◌+◌, ◌<◌, ◌≤◌, List, [], ◌∷◌, ◌++◌, map, reverse, refl, sym, ap, ◌∙◌, subst, arith, append_assoc, length}
use Rattle.std.specs.List.{All}
use Rattle.std.proofs.lemmas.List.{map_push, reverse-append, reverse-reverse}
use Rattle.std.proofs.lemmas.List.Elements.{All-nil, All-cons, All-head, All-tail, All-append}
use Rattle.vx_piece.specs.Seen.{Seen, IsSplit}
use Rattle.vx_runs.specs.Run.{run_sectors}
use Rattle.vx_cut.specs.Same.{IsSingle, SameRun, steps, work}
use Rattle.vx_cut.proofs.Same.{same_behind, same_split}

pub all_parts : {X : Type 0} (P : X → Type 0) (ps rs : List X) → All P (ps ++ rs) → All P ps × All P rs
all_parts P [] rs h = (All-nil P, h)
all_parts P (p ∷ ps) rs h = let rest = all_parts P ps rs (All-tail P p (ps ++ rs) h) in (All-cons P p ps (All-head P p (ps ++ rs) h) rest.0, rest.1)

pub all_push : {X : Type 0} (P : X → Type 0) (ps : List X) (x : X) → All P ps → P x → All P (ps ++ x ∷ [])
all_push P ps x h is = All-append P ps (x ∷ []) h (All-cons P x [] is (All-nil P))

work_push : (ps qs : List Seen) → work (ps ++ qs) ≡ work ps + work qs
work_push [] qs = omega arith
work_push (p ∷ ps) qs = let e = work_push ps qs in omega (arith, e)

steps_some : (n : ℕ) → 0 < steps n
steps_some zero = omega arith
steps_some (suc n) = omega arith

steps_less : (n a b : ℕ) → 0 < a → 0 < b → a + b ≡ n → steps a + steps b < steps n
steps_less zero a b x y e = absurd (omega arith)
steps_less (suc n) zero b x y e = absurd (omega arith)
steps_less (suc n) (suc a) zero x y e = absurd (omega arith)
steps_less (suc n) (suc a) (suc b) x y e = omega arith

module _ {P : Type 0} (see : P → Seen) where
  turned : (left xs : List P) (p : P) → left ≡ xs ++ p ∷ [] → reverse (map see left) ≡ see p ∷ reverse (map see xs)
  turned left xs p e = ap (λ (zs : List P). reverse (map see zs)) e ∙ ap reverse (map_push see xs p) ∙ reverse-append (map see xs) (see p ∷ [])

  -- the last piece goes to the singles
  pub same_moved : (left xs singles ys : List P) (p : P) → left ≡ xs ++ p ∷ [] → ys ≡ singles ++ p ∷ [] → map see ys ++ reverse (map see xs) ≡ map see singles ++ reverse (map see left)
  same_moved left xs singles ys p e f =
      ap (λ (zs : List P). map see zs ++ reverse (map see xs)) f ∙ ap (λ (zs : List Seen). zs ++ reverse (map see xs)) (map_push see singles p) ∙ append_assoc (map see singles) (see p ∷ []) (reverse (map see xs))
      ∙ sym (ap (λ (zs : List Seen). map see singles ++ zs) (turned left xs p e))

  -- the last piece stays
  pub same_put_back : (left xs ys singles : List P) (p q : P) → left ≡ xs ++ p ∷ [] → ys ≡ xs ++ q ∷ [] → see q ≡ see p → map see singles ++ reverse (map see ys) ≡ map see singles ++ reverse (map see left)
  same_put_back left xs ys singles p q e f same =
      ap (λ (zs : List Seen). map see singles ++ zs) (turned ys xs q f ∙ ap (λ (x : Seen). x ∷ reverse (map see xs)) same ∙ sym (turned left xs p e))

  -- the last piece is cut in two
  pub same_halved : (at : ℕ) (left xs ys zs singles : List P) (p a b : P) → left ≡ xs ++ p ∷ [] → ys ≡ xs ++ b ∷ [] → zs ≡ ys ++ a ∷ [] → IsSplit at (see p) (see a) (see b) → 0 < at → at < (see p).sectors →
      SameRun (map see singles ++ reverse (map see left)) (map see singles ++ reverse (map see zs))
  same_halved at left xs ys zs singles p a b e f g is low high =
      same_behind (map see singles) (reverse (map see left)) (reverse (map see zs))
      (subst (λ (ws : List Seen). SameRun ws (reverse (map see zs))) (sym (turned left xs p e))
      (subst (SameRun (see p ∷ reverse (map see xs))) (sym (turned zs ys a g ∙ ap (λ (ws : List Seen). see a ∷ ws) (turned ys xs b f))) (same_split at (see p) (see a) (see b) (reverse (map see xs)) is low high)))

  pub some_left : (Q : Seen → Type 0) (left xs : List P) (p : P) → left ≡ xs ++ p ∷ [] → All Q (map see left) → All Q (map see xs) × Q (see p)
  some_left Q left xs p e h =
      let parts = all_parts Q (map see xs) (see p ∷ []) (subst (All Q) (ap (map see) e ∙ map_push see xs p) h) in (parts.0, All-head Q (see p) [] parts.1)

  pub some_push : (Q : Seen → Type 0) (xs ys : List P) (p : P) → ys ≡ xs ++ p ∷ [] → All Q (map see xs) → Q (see p) → All Q (map see ys)
  some_push Q xs ys p e h is = subst (All Q) (sym (ap (map see) e ∙ map_push see xs p)) (all_push Q (map see xs) (see p) h is)

  work_of : (left xs : List P) (p : P) → left ≡ xs ++ p ∷ [] → work (map see left) ≡ work (map see xs) + steps (see p).sectors
  work_of left xs p e = ap (λ (zs : List P). work (map see zs)) e ∙ ap work (map_push see xs p) ∙ work_push (map see xs) (see p ∷ []) ∙ ap (λ (n : ℕ). work (map see xs) + n) (omega arith)

  pub less_moved : (left xs : List P) (p : P) → left ≡ xs ++ p ∷ [] → work (map see xs) < work (map see left)
  less_moved left xs p e = let w = work_of left xs p e in let s = steps_some (see p).sectors in omega (arith, w, s)

  pub less_halved : (at : ℕ) (left xs ys zs : List P) (p a b : P) → left ≡ xs ++ p ∷ [] → ys ≡ xs ++ b ∷ [] → zs ≡ ys ++ a ∷ [] → IsSplit at (see p) (see a) (see b) → 0 < at → at < (see p).sectors → work (map see zs) < work (map see left)
  less_halved at left xs ys zs p a b e f g is some inside =
      let w = work_of left xs p e in
      let v = work_of ys xs b f in
      let u = work_of zs ys a g in
      let s = is.sizes.0 in
      let t = is.sizes.1 in
      let l = steps_less (see p).sectors (see a).sectors (see b).sectors (omega (arith, s, some)) (omega (arith, t, inside)) (omega (arith, s, t)) in
      omega (arith, w, v, u, l)

  twice : (xs : List P) → map see (reverse xs) ≡ reverse (map see xs)
  twice [] = refl
  twice (x ∷ xs) = ap (map see) (reverse-append (x ∷ []) xs) ∙ map_push see (reverse xs) x ∙ ap (λ (ys : List Seen). ys ++ see x ∷ []) (twice xs) ∙ sym (reverse-append (see x ∷ []) (map see xs))

  -- the run is turned round as it is cut, and back
  pub turned_back : (left xs : List P) → xs ≡ reverse left → map see xs ≡ reverse (map see left)
  turned_back left xs e = ap (map see) e ∙ twice left

  pub turned_over : (left xs : List P) → xs ≡ reverse left → reverse (map see xs) ≡ map see left
  turned_over left xs e = ap reverse (turned_back left xs e) ∙ reverse-reverse (map see left)

  pub all_turned : (Q : Seen → Type 0) (left xs : List P) → xs ≡ reverse left → All Q (map see left) → All Q (map see xs)
  all_turned Q left xs e h = subst (All Q) (sym (turned_back left xs e)) (back (map see left) h)
    where
      back : (ps : List Seen) → All Q ps → All Q (reverse ps)
      back [] h = h
      back (p ∷ ps) h = subst (All Q) (sym (reverse-append (p ∷ []) ps)) (all_push Q (reverse ps) p (back ps (All-tail Q p ps h)) (All-head Q p ps h))

-- singles are as many as their sectors
singles_sum : (ps : List Seen) → All IsSingle ps → run_sectors ps ≡ length ps
singles_sum [] h = refl
singles_sum (p ∷ ps) h = let one : p.sectors ≡ 1 = All-head IsSingle p ps h in let e = singles_sum ps (All-tail IsSingle p ps h) in omega (arith, one, e)

sum_append : (ps qs : List Seen) → run_sectors (ps ++ qs) ≡ run_sectors ps + run_sectors qs
sum_append [] qs = omega arith
sum_append (p ∷ ps) qs = let e = sum_append ps qs in omega (arith, e)

-- where not all is cut, something is left
pub some_more : (old singles left : List Seen) (sectors : ℕ) → SameRun old (singles ++ reverse left) → All IsSingle singles → sectors ≤ run_sectors old → length singles < sectors → 0 < length left
some_more old singles [] sectors same are inside lt =
    let s = same.sectors in let e = singles_sum singles are in let f = sum_append singles (reverse []) in absurd (omega (arith, s, e, f, inside, lt))
some_more old singles (p ∷ ps) sectors same are inside lt = omega arith
