-- A piece is taken out of a pool, cut or joined, and put in.
use Rattle.std.proofs.Common.{◌≡◌, ℕ, ◌+◌, ◌-◌, ◌<◌, ◌≤◌, Bool, true, false, cond, List, [], ◌∷◌, ◌++◌, map, get_or, refl, sym, ap, ◌∙◌, subst, arith}
use Rattle.std.specs.Prelude.{nat_lt, Option, Some, IfSome, Result, Ok, Err, OnOk, OnErr}
use Rattle.std.proofs.lemmas.List.Sums.{sum_by-cons}
use Rattle.vx_piece.specs.Seen.{Seen, IsSplit, IsJoined, IsNeighbour}
use Rattle.vx_carve.specs.Together.{covers_at, covers, has, owners, AreOnce, IsFree, SameSectors}
use Rattle.vx_carve.proofs.Same.{same_trans, same_beside, same_cut, same_joined}
use Rattle.vx_carve.proofs.Swaps.{same_swapped, same_behind, same_put}

pub same_item : (x y : Seen) (zs ws : List Seen) → y ≡ x → SameSectors (y ∷ zs) ws → SameSectors (x ∷ zs) ws
same_item x y zs ws e is = subst (λ v. SameSectors (v ∷ zs) ws) e is

-- what the run has is covered by it
covered : (number start count device sector : ℕ) → covers_at number start count device sector ≡ true → (number ≡ device) × (start ≤ sector) × (sector < start + count)
covered number start count device sector is = grind (arith, is)

last_covered : (number start count device end : ℕ) → number ≡ device → 0 < count → start + count ≡ end → covers_at number start count device (end - 1) ≡ true
last_covered number start count device end e some is = grind arith

earlier_covered : (number start count device end : ℕ) → covers_at number start count device end ≡ true → start < end → covers_at number start count device (end - 1) ≡ true
earlier_covered number start count device end is lt = let c = covered number start count device end is in grind (arith, c)

two_owners : (device sector : ℕ) (x y : Seen) (zs : List Seen) → covers device sector x ≡ true → covers device sector y ≡ true → 2 ≤ owners device sector (x ∷ y ∷ zs)
two_owners device sector x y zs a b =
    let e = sum_by-cons (has device sector) x (y ∷ zs) in
    let f = sum_by-cons (has device sector) y zs in
    let g : has device sector x ≡ 1 = ap (λ v. cond v 1 0) a in
    let h : has device sector y ≡ 1 = ap (λ v. cond v 1 0) b in
    omega (arith, e, f, g, h)

-- the piece that has the sector behind a run begins there, where no sector is in two pieces
pub next_begins : (run next : Seen) (ps qs : List Seen) → 0 < run.sectors → AreOnce (run ∷ ps) → SameSectors ps (next ∷ qs) → covers run.device (run.start + run.sectors) next ≡ true → IsNeighbour run next
next_begins run next ps qs some once same is =
    let c = covered next.device next.start next.sectors run.device (run.start + run.sectors) is in
    record {
      device = c.0;
      start = by (nat_lt next.start (run.start + run.sectors)) refl c.1;
    }
  where
    last : covers run.device (run.start + run.sectors - 1) run ≡ true
    last = last_covered run.device run.start run.sectors run.device (run.start + run.sectors) refl some refl

    by : (v : Bool) → v ≡ nat_lt next.start (run.start + run.sectors) → next.start ≤ run.start + run.sectors → next.start ≡ run.start + run.sectors
    by true e le =
        let lt : next.start < run.start + run.sectors = grind (arith, e) in
        let early = earlier_covered next.device next.start next.sectors run.device (run.start + run.sectors) is lt in
        let all = (same_behind run ps (next ∷ qs) same).sectors run.device (run.start + run.sectors - 1) in
        let few = once run.device (run.start + run.sectors - 1) in
        let many = two_owners run.device (run.start + run.sectors - 1) run next qs last early in
        absurd (omega (arith, all, few, many))
    by false e le = grind (arith, e, le)

not_covered : (number start count device sector : ℕ) → sector ≡ start + count → covers_at number start count device sector ≡ false
not_covered number start count device sector e = grind (arith, e)

-- the sector behind a run that is not yet long enough is in the pool
pub next_free : (run : Seen) (ps qs : List Seen) (device start count : ℕ) → run.device ≡ device → run.start ≡ start → run.sectors < count → IsFree device start count ps → SameSectors ps (run ∷ qs) → owners run.device (run.start + run.sectors) qs ≡ 1
next_free run ps qs device start count e f lt free same =
    let place : run.start + run.sectors ≡ start + run.sectors = ap (λ n. n + run.sectors) f in
    let all : owners run.device (run.start + run.sectors) (run ∷ qs) ≡ 1 = same.sectors run.device (run.start + run.sectors) ∙ ap (λ d. owners d (run.start + run.sectors) ps) e ∙ ap (λ s. owners device s ps) place ∙ free run.sectors lt in
    let here : has run.device (run.start + run.sectors) run ≡ 0 = ap (λ b. cond b 1 0) (not_covered run.device run.start run.sectors run.device (run.start + run.sectors) refl) in
    let sum = sum_by-cons (has run.device (run.start + run.sectors)) run qs in
    omega (arith, all, here, sum)

pub on_ok : {T E : Type 0} (r : Result T E) (A B : Type 0) → (A → B) → OnOk r A → OnOk r B
on_ok (Ok x) A B f a = f a
on_ok (Err e) A B f a = tt

pub err_of : {T E : Type 0} (r : Result T E) (A : Type 0) → A → OnErr r A
err_of (Ok x) A a = tt
err_of (Err e) A a = a

pub on_err : {T E : Type 0} (r : Result T E) (A B : Type 0) → (A → B) → OnErr r A → OnErr r B
on_err (Ok x) A B f a = tt
on_err (Err e) A B f a = f a

module _ {P : Type 0} (see : P → Seen) where
  -- cut, with the front put back
  pub same_opened : (xs ms ys : List P) (at : ℕ) (p x y : P) → SameSectors (map see xs) (see p ∷ map see ms) → 0 < at → at < (see p).sectors → IsSplit at (see p) (see x) (see y) → ys ≡ ms ++ x ∷ [] → SameSectors (map see xs) (see y ∷ map see ys)
  same_opened xs ms ys at p x y out some inside cut put =
      same_trans _ _ _ out (same_trans _ _ _ (same_beside (map see ms) _ _ (same_cut at (see p) (see x) (see y) some inside cut)) (same_trans _ _ _ (same_swapped (see x) (see y) (map see ms)) (same_behind (see y) _ _ (same_put see ms ys x put))))

  -- put back as it was
  pub same_back : (xs ms ys : List P) (p x : P) → SameSectors (map see xs) (see p ∷ map see ms) → see x ≡ see p → ys ≡ ms ++ x ∷ [] → SameSectors (map see xs) (map see ys)
  same_back xs ms ys p x out is put = same_trans _ _ _ out (same_item (see p) (see x) _ _ is (same_put see ms ys x put))

  -- a run is joined with one of the pool
  pub same_longer : (xs ms : List P) (run next p : P) → SameSectors (map see xs) (see next ∷ map see ms) → IsNeighbour (see run) (see next) → IsJoined (see run) (see next) (see p) → SameSectors (see run ∷ map see xs) (see p ∷ map see ms)
  same_longer xs ms run next p out near joined = same_trans _ _ _ (same_behind (see run) _ _ out) (same_beside (map see ms) _ _ (same_joined (see run) (see next) (see p) near.device near.start joined))

  -- both are put in, apart
  pub same_apart : (xs ms ns ys : List P) (run next a b : P) → SameSectors (map see xs) (see next ∷ map see ms) → see a ≡ see run → see b ≡ see next → ns ≡ ms ++ a ∷ [] → SameSectors (see b ∷ map see ns) (map see ys) → SameSectors (see run ∷ map see xs) (map see ys)
  same_apart xs ms ns ys run next a b out e f put rest =
      same_trans _ _ _ (same_behind (see run) _ _ out) (same_trans _ _ _ (same_swapped (see run) (see next) (map see ms)) (same_trans _ _ _ (same_behind (see next) _ _ (same_item (see run) (see a) _ _ e (same_put see ms ns a put))) (same_item (see next) (see b) _ _ f rest)))

  -- a piece is put in behind the one that ends where it begins
  pub same_added : (xs ms ys : List P) (piece before p : P) → SameSectors (map see xs) (see before ∷ map see ms) → IsNeighbour (see before) (see piece) → IsJoined (see before) (see piece) (see p) → ys ≡ ms ++ p ∷ [] → SameSectors (see piece ∷ map see xs) (map see ys)
  same_added xs ms ys piece before p out near joined put =
      same_trans _ _ _ (same_behind (see piece) _ _ out) (same_trans _ _ _ (same_swapped (see piece) (see before) (map see ms)) (same_trans _ _ _ (same_beside (map see ms) _ _ (same_joined (see before) (see piece) (see p) near.device near.start joined)) (same_put see ms ys p put)))

  -- a piece is put in, apart from the one that ends where it begins
  pub same_aside : (xs ms ns ys : List P) (piece before a b : P) → SameSectors (map see xs) (see before ∷ map see ms) → see a ≡ see before → see b ≡ see piece → ns ≡ ms ++ a ∷ [] → SameSectors (see b ∷ map see ns) (map see ys) → SameSectors (see piece ∷ map see xs) (map see ys)
  same_aside xs ms ns ys piece before a b out e f put rest =
      same_trans _ _ _ (same_behind (see piece) _ _ (same_back xs ms ns before a out e put)) (same_item (see piece) (see b) _ _ f rest)

  -- what was looked for and found covers the sector
  pub found_covers : (xs ys : List P) (r : Option ℕ) (i : ℕ) (x : P) (device sector device' sector' : ℕ) → r ≡ Some i → ys ≡ xs → x ≡ get_or xs i x → device ≡ device' → sector ≡ sector' → IfSome r (λ i. (d : P) → covers device sector (see (get_or ys i d)) ≡ true) → covers device' sector' (see x) ≡ true
  found_covers xs ys r i x device sector device' sector' e f is g h some =
      let there : (d : P) → covers device sector (see (get_or ys i d)) ≡ true = subst (λ r. IfSome r (λ i. (d : P) → covers device sector (see (get_or ys i d)) ≡ true)) e some in
      let there' : covers device sector (see x) ≡ true = subst (λ v. covers device sector (see v) ≡ true) (ap (λ zs. get_or zs i x) f ∙ sym is) (there x) in
      ap (λ d. covers d sector' (see x)) (sym g) ∙ ap (λ s. covers device s (see x)) (sym h) ∙ there'

  -- cut, with the end put back
  pub same_ended : (xs ms ys : List P) (at : ℕ) (p x y : P) → SameSectors (map see xs) (see p ∷ map see ms) → 0 < at → at < (see p).sectors → IsSplit at (see p) (see x) (see y) → ys ≡ ms ++ y ∷ [] → SameSectors (map see xs) (see x ∷ map see ys)
  same_ended xs ms ys at p x y out some inside cut put =
      same_trans _ _ _ out (same_trans _ _ _ (same_beside (map see ms) _ _ (same_cut at (see p) (see x) (see y) some inside cut)) (same_behind (see x) _ _ (same_put see ms ys y put)))
