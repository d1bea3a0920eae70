-- Pieces of which no sector is in two hold the same in whatever order they lie.
use Rattle.std.proofs.Common.{◌≡◌, ◌∙◌, ℕ, zero, suc, ◌+◌, ◌-◌, ◌≤◌, Bool, true, false, cond, List, [], ◌∷◌, refl, sym, ap, subst, arith}
use Rattle.std.specs.List.{All}
use Rattle.std.specs.List.Sorted.{IsPermutation}
use Rattle.std.proofs.lemmas.Bool.{false≢true}
use Rattle.std.proofs.lemmas.List.Elements.{All-cons, All-head, All-nil, All-tail}
use Rattle.std.proofs.lemmas.List.Sorted.{All-permutation, sum_by-IsPermutation}
use Rattle.std.proofs.lemmas.List.Sums.{sum_by-cons}
use Rattle.vx_piece.specs.Seen.{Seen}
use Rattle.vx_carve.specs.Together.{covers, has, owners}
use Rattle.vx_fronts.specs.Rests.{sector_in, told_at}
use Rattle.vx_fronts.proofs.Sectors.{not_zero, sector_none}

module _ (device k : ℕ) where
  -- where the piece has the sector, it tells this of it
  abbrev Tells : List ℕ → Seen → Type 0
  Tells x p = covers device k p ≡ true → told_at p.told (k - p.start) ≡ x

  tell_none : (x : List ℕ) (ps : List Seen) → owners device k ps ≡ 0 → All (Tells x) ps
  tell_none x [] none = All-nil (Tells x)
  tell_none x (p ∷ ps) none =
      let sum = sum_by-cons (has device k) p ps in
      let not = not_zero (covers device k p) (owners device k ps) (owners device k (p ∷ ps)) sum none in
      All-cons (Tells x) p ps (λ is. absurd (false≢true (sym not ∙ is))) (tell_none x ps (omega (arith, sum, none)))

  tell_one : (ps : List Seen) → owners device k ps ≤ 1 → All (Tells (sector_in ps device k)) ps
  tell_one [] few = All-nil (Tells (sector_in [] device k))
  tell_one (p ∷ ps) few = by (λ low. tell_one ps low) (covers device k p) refl
    where
      sum : owners device k (p ∷ ps) ≡ has device k p + owners device k ps
      sum = sum_by-cons (has device k) p ps

      by : (owners device k ps ≤ 1 → All (Tells (sector_in ps device k)) ps) → (b : Bool) → covers device k p ≡ b → All (Tells (sector_in (p ∷ ps) device k)) (p ∷ ps)
      by rest true e =
          let x : List ℕ = sector_in (p ∷ ps) device k in
          let here : told_at p.told (k - p.start) ≡ x = sym (ap (λ b. cond b (told_at p.told (k - p.start)) (sector_in ps device k)) e) in
          let one : has device k p ≡ 1 = ap {B = ℕ} (λ b. cond b 1 0) e in
          let all = sum in
          All-cons (Tells x) p ps (λ is. here) (tell_none x ps (omega (arith, few, all, one)))
      by rest false e =
          let x : List ℕ = sector_in (p ∷ ps) device k in
          let there : sector_in ps device k ≡ x = sym (ap (λ b. cond b (told_at p.told (k - p.start)) (sector_in ps device k)) e) in
          let all = sum in
          All-cons (Tells x) p ps (λ is. absurd (false≢true (sym e ∙ is))) (subst (λ y. All (Tells y) ps) there (rest (omega (arith, few, all))))

  told_one : (x : List ℕ) (ps : List Seen) → All (Tells x) ps → 1 ≤ owners device k ps → sector_in ps device k ≡ x
  told_one x [] all some = let no : ⊥ = omega (arith, some) in absurd no
  told_one x (p ∷ ps) all some = by (λ le. told_one x ps (All-tail (Tells x) p ps all) le) (covers device k p) refl
    where
      sum : owners device k (p ∷ ps) ≡ has device k p + owners device k ps
      sum = sum_by-cons (has device k) p ps

      by : (1 ≤ owners device k ps → sector_in ps device k ≡ x) → (b : Bool) → covers device k p ≡ b → sector_in (p ∷ ps) device k ≡ x
      by rest true e = ap (λ b. cond b (told_at p.told (k - p.start)) (sector_in ps device k)) e ∙ All-head (Tells x) p ps all e
      by rest false e =
          let none : has device k p ≡ 0 = ap {B = ℕ} (λ b. cond b 1 0) e in
          let all = sum in
          ap (λ b. cond b (told_at p.told (k - p.start)) (sector_in ps device k)) e ∙ rest (omega (arith, some, all, none))

pub in_order : (ps qs : List Seen) (device k : ℕ) → IsPermutation ps qs → owners device k ps ≤ 1 → sector_in qs device k ≡ sector_in ps device k
in_order ps qs device k same few = by (owners device k qs) refl
  where
    as_many : owners device k qs ≡ owners device k ps
    as_many = sum_by-IsPermutation (has device k) ps qs same

    by : (n : ℕ) → n ≡ owners device k qs → sector_in qs device k ≡ sector_in ps device k
    by zero e = sector_none qs device k (sym e) ∙ sym (sector_none ps device k (sym as_many ∙ sym e))
    by (suc n) e = told_one device k (sector_in ps device k) qs (All-permutation (Tells device k (sector_in ps device k)) ps qs same (tell_one device k ps few)) (omega (arith, e))
