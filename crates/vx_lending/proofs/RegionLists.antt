-- The pieces of the items of a list, as items are taken and put one after the other.
use Rattle.std.proofs.Common.{◌≡◌, ℕ, ◌+◌, ◌-◌, ◌<◌, List, [], ◌∷◌, ◌++◌, length, map, reverse, get_or, refl, sym, ap, ◌∙◌, subst, arith, append_assoc, inl, inr}
use Rattle.std.specs.Prelude.{Result, Ok, Err, OnOk, IfErr}
use Rattle.std.specs.List.{flat_map}
use Rattle.std.proofs.lemmas.Bool.{cases_lt}
use Rattle.std.proofs.lemmas.List.{map_push, length-append, reverse-append, reverse-reverse, flat_map_more, get_or_append_left, get_or_push, get_or-reverse}
use Rattle.std.proofs.lemmas.List.Sorted.{IsPermutation-append_comm}
use Rattle.vx_piece.specs.Seen.{Seen}
use Rattle.vx_carve.specs.Together.{SameSectors}
use Rattle.vx_carve.proofs.Same.{same_refl, same_trans, same_moved, same_beside}
use Rattle.vx_carve.proofs.Runs.{same_after}

module _ {X : Type 0} (f : X → List Seen) where
  pub flat_last : (rows : List X) (x : X) (ps : List Seen) → flat_map f (rows ++ x ∷ []) ++ ps ≡ flat_map f rows ++ (f x ++ ps)
  flat_last rows x ps = sym (ap (λ zs. zs ++ ps) (flat_map_more f [] rows x)) ∙ append_assoc (flat_map f rows) (f x) ps

  -- one more is taken
  pub same_more : (olds ps qs : List Seen) (rows : List X) (x : X) → SameSectors olds (flat_map f rows ++ ps) → SameSectors ps (f x ++ qs) → SameSectors olds (flat_map f (rows ++ x ∷ []) ++ qs)
  same_more olds ps qs rows x all out = subst (SameSectors olds) (sym (flat_last rows x qs)) (same_trans _ _ _ all (same_after (flat_map f rows) ps (f x ++ qs) out))

  -- all are turned round
  flat_turned : (rows : List X) → SameSectors (flat_map f rows) (flat_map f (reverse rows))
  flat_turned [] = same_refl []
  flat_turned (x ∷ rows) =
      let place : flat_map f (reverse rows) ++ f x ≡ flat_map f (reverse (x ∷ rows)) = flat_map_more f [] (reverse rows) x ∙ ap (flat_map f) (sym (reverse-append (x ∷ []) rows)) in
      subst (SameSectors (f x ++ flat_map f rows)) place (same_trans _ _ _ (same_after (f x) _ _ (flat_turned rows)) (same_moved _ _ (IsPermutation-append_comm (f x) (flat_map f (reverse rows)))))

  pub same_turned : (olds ps : List Seen) (rows turned : List X) → SameSectors olds (flat_map f rows ++ ps) → turned ≡ reverse rows → SameSectors olds (flat_map f turned ++ ps)
  same_turned olds ps rows turned all e = subst (λ rs. SameSectors olds (flat_map f rs ++ ps)) (sym e) (same_trans _ _ _ all (same_beside ps _ _ (flat_turned rows)))

  -- the last one is put in, as far as it goes
  pub same_less : (olds ps qs : List Seen) (rows rest : List X) (x y : X) → SameSectors olds (flat_map f rows ++ ps) → rows ≡ rest ++ x ∷ [] → SameSectors (f x ++ ps) (f y ++ qs) → SameSectors olds (flat_map f (rest ++ y ∷ []) ++ qs)
  same_less olds ps qs rows rest x y all e put =
      let place : flat_map f rows ++ ps ≡ flat_map f rest ++ (f x ++ ps) = ap (λ rs. flat_map f rs ++ ps) e ∙ flat_last rest x ps in
      subst (SameSectors olds) (sym (flat_last rest y qs)) (same_trans _ _ _ (subst (SameSectors olds) place all) (same_after (flat_map f rest) (f x ++ ps) (f y ++ qs) put))

  pub same_done : (olds ps qs : List Seen) (rows rest : List X) (x : X) → SameSectors olds (flat_map f rows ++ ps) → rows ≡ rest ++ x ∷ [] → SameSectors (f x ++ ps) qs → SameSectors olds (flat_map f rest ++ qs)
  same_done olds ps qs rows rest x all e put =
      let place : flat_map f rows ++ ps ≡ flat_map f rest ++ (f x ++ ps) = ap (λ rs. flat_map f rs ++ ps) e ∙ flat_last rest x ps in
      same_trans _ _ _ (subst (SameSectors olds) place all) (same_after (flat_map f rest) (f x ++ ps) qs put)

  -- how many there are
  pub long_last : (rows rest : List X) (x : X) → rows ≡ rest ++ x ∷ [] → length (flat_map f rows) ≡ length (flat_map f rest) + length (f x)
  long_last rows rest x e = ap (λ rs. length (flat_map f rs)) e ∙ sym (ap length (flat_map_more f [] rest x)) ∙ length-append (flat_map f rest) (f x)

  pub long_turned : (rows turned : List X) → turned ≡ reverse rows → length (flat_map f turned) ≡ length (flat_map f rows)
  long_turned rows turned e = ap (λ rs. length (flat_map f rs)) e ∙ by rows
    where
      by : (rows : List X) → length (flat_map f (reverse rows)) ≡ length (flat_map f rows)
      by [] = refl
      by (x ∷ rows) =
          let rest = by rows in
          let last = long_last (reverse (x ∷ rows)) (reverse rows) x (reverse-append (x ∷ []) rows) in
          let both : length (flat_map f (x ∷ rows)) ≡ length (f x) + length (flat_map f rows) = length-append (f x) (flat_map f rows) in
          omega (arith, rest, last, both)

pub map_turned : {X Y : Type 0} (f : X → Y) (xs ys : List X) → ys ≡ reverse xs → map f ys ≡ reverse (map f xs)
map_turned f xs ys e = ap (map f) e ∙ by xs
  where
    by : (xs : List _) → map f (reverse xs) ≡ reverse (map f xs)
    by [] = refl
    by (x ∷ xs) = ap (map f) (reverse-append (x ∷ []) xs) ∙ map_push f (reverse xs) x ∙ ap (λ ys. ys ++ f x ∷ []) (by xs) ∙ sym (reverse-append (f x ∷ []) (map f xs))

-- what a list shows, with one more behind
pub map_last : {X Y : Type 0} (f : X → Y) (xs rest : List X) (x : X) → xs ≡ rest ++ x ∷ [] → map f xs ≡ map f rest ++ f x ∷ []
map_last f xs rest x e = ap (map f) e ∙ map_push f rest x

-- one more item before the others, where the first is the last one
pub items_more : {X : Type 0} (Q : ℕ → X → Type 0) (d : X) (rows : List X) (x : X) (j region m : ℕ) → region ≡ j + 1 → length rows ≡ m → ((k : ℕ) → k < m → Q (region + (m - 1 - k)) (get_or rows k d)) → Q j x → (k : ℕ) → k < m + 1 → Q (j + (m + 1 - 1 - k)) (get_or (rows ++ x ∷ []) k d)
items_more Q d rows x j region m e len all here k lt = elim (cases_lt k m) [
  | inl early ↦
      let same : get_or rows k d ≡ get_or (rows ++ x ∷ []) k d = sym (get_or_append_left rows (x ∷ []) d k (omega (arith, early, len))) in
      let at : region + (m - 1 - k) ≡ j + (m + 1 - 1 - k) = omega (arith, e, early) in
      subst (λ n. Q n (get_or (rows ++ x ∷ []) k d)) at (subst (Q (region + (m - 1 - k))) same (all k early))
  | inr late ↦
      let last : length rows ≡ k = omega (arith, len, late, lt) in
      let same : x ≡ get_or (rows ++ x ∷ []) k d = sym (get_or_push rows x d k last) in
      let at : j ≡ j + (m + 1 - 1 - k) = omega (arith, late, lt) in
      subst (λ n. Q n (get_or (rows ++ x ∷ []) k d)) at (subst (Q j) same here)
]

pub items_turned : {X : Type 0} (Q : ℕ → X → Type 0) (d : X) (rows : List X) (region m : ℕ) → region ≡ 0 → length rows ≡ m → ((k : ℕ) → k < m → Q (region + (m - 1 - k)) (get_or rows k d)) → (k : ℕ) → k < m → Q k (get_or (reverse rows) k d)
items_turned Q d rows region m e len all k lt =
    let same : get_or rows (m - 1 - k) d ≡ get_or (reverse rows) k d = ap (λ n. get_or rows (n - 1 - k) d) (sym len) ∙ sym (get_or-reverse rows k d (omega (arith, len, lt))) in
    let at : region + (m - 1 - (m - 1 - k)) ≡ k = omega (arith, e, lt) in
    subst (λ n. Q n (get_or (reverse rows) k d)) at (subst (Q (region + (m - 1 - (m - 1 - k)))) same (all (m - 1 - k) (omega (arith, lt))))

-- what is known of an answer
pub on_ok : {T E A B : Type 0} (r : Result T E) → (A → B) → OnOk r A → OnOk r B
on_ok (Ok v) f h = f h
on_ok (Err e) f h = h

pub if_err : {T E : Type 0} (P Q : E → Type 0) (r : Result T E) → ((e : E) → P e → Q e) → IfErr r P → IfErr r Q
if_err P Q (Ok v) f h = h
if_err P Q (Err e) f h = f e h

-- the items that are done and those that are left, the last one first, are all items
pub left_start : {X : Type 0} (all left : List X) → left ≡ reverse all → all ≡ [] ++ reverse left
left_start all left e = sym (reverse-reverse all) ∙ ap reverse (sym e)

pub left_less : {X : Type 0} (all done left rest : List X) (x : X) → all ≡ done ++ reverse left → left ≡ rest ++ x ∷ [] → all ≡ done ++ x ∷ reverse rest
left_less all done left rest x is e = is ∙ ap (λ ys. done ++ reverse ys) e ∙ ap (λ ys. done ++ ys) (reverse-append rest (x ∷ []))

pub left_done : {X : Type 0} (all done rest : List X) (x : X) → all ≡ done ++ x ∷ rest → all ≡ (done ++ x ∷ []) ++ rest
left_done all done rest x is = is ∙ sym (append_assoc done (x ∷ []) rest)
