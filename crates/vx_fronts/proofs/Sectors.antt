-- What pieces tell of the sectors of devices.
use Rattle.std.proofs.Common.{◌≡◌, ◌∙◌, ℕ, zero, suc, ◌+◌, ◌-◌, ◌<◌, ◌≤◌, ◌==◌, Bool, true, false, cond, ◌||◌, ◌&&◌, List, [], ◌∷◌, ◌++◌, get_or, Option, Some, None, refl, sym, ap, subst, arith}
use Rattle.std.specs.Prelude.{is_some, nat_le, nat_lt}
use Rattle.std.specs.List.{sum_by, list_any, All}
use Rattle.std.proofs.lemmas.List.Sums.{sum_by-cons, get_or-le-sum_by}
use Rattle.std.proofs.lemmas.List.Elements.{All-nil, All-cons, All-head, All-tail, All-weaker}
use Rattle.vx_base.specs.Blocks.{Contents}
use Rattle.vx_piece.specs.Seen.{Seen}
use Rattle.vx_carve.specs.Together.{covers_at, covers, has_at, has, owners, HoldsTold, Holds, HasSome, AreOnce, SameSectors}
use Rattle.vx_fronts.specs.Rests.{told_at, sector_in, is_of, IsTelling, AllTell}

-- ---- one piece

inside : (number start count k : ℕ) → k < count → covers_at number start count number (start + k) ≡ true
inside number start count k lt = grind arith

pub covered : (number start count device sector : ℕ) → covers_at number start count device sector ≡ true → (number ≡ device) × (start ≤ sector) × (sector < start + count)
covered number start count device sector is = grind (arith, is)

pub is_one : (q : Seen) (k : ℕ) → k < q.sectors → has q.device (q.start + k) q ≡ 1
is_one q k lt = ap (λ b. cond b 1 0) (inside q.device q.start q.sectors k lt)

not_both : (b : Bool) (n : ℕ) → 1 ≤ n → cond b 1 0 + n ≤ 1 → b ≡ false
not_both true n le few = let no : ⊥ = omega (arith, le, few) in absurd no
not_both false n le few = refl

pub not_zero : (b : Bool) (n m : ℕ) → m ≡ cond b 1 0 + n → m ≡ 0 → b ≡ false
not_zero true n m e none = let no : ⊥ = omega (arith, e, none) in absurd no
not_zero false n m e none = refl

pub same_number : (device number : ℕ) → (number == device) ≡ true → number ≡ device
same_number device number is = grind (arith, is)

pub self : (n : ℕ) → (n == n) ≡ true
self n = grind arith

-- what a piece tells of a sector that it has is there
told_there : (c : ℕ → Contents) (p : Seen) (device k : ℕ) → covers device k p ≡ true → Holds c p → told_at p.told (k - p.start) ≡ c device k
told_there c p device k is holds = by p.told holds
  where
    by : (o : Option Contents) → HoldsTold c p.device p.start p.sectors o → told_at o (k - p.start) ≡ c device k
    by None h = absurd h
    by (Some t) h =
        let at = covered p.device p.start p.sectors device k is in
        let from = at.1 in
        let below = at.2 in
        let place : p.start + (k - p.start) ≡ k = omega (arith, from) in
        h (k - p.start) (omega (arith, from, below)) ∙ ap (λ i. c p.device i) place ∙ ap (λ d. c d k) at.0

telling : (c : ℕ → Contents) (p : Seen) → Holds c p → IsTelling p
telling c p holds = by p.told holds
  where
    by : (o : Option Contents) → HoldsTold c p.device p.start p.sectors o → is_some o ≡ true
    by None h = absurd h
    by (Some t) h = refl

-- ---- pieces that tell hold what they tell together

own_first : (p : Seen) (ps : List Seen) → IsTelling p → Holds (sector_in (p ∷ ps)) p
own_first p ps tells = by p.told refl tells
  where
    by : (o : Option Contents) → o ≡ p.told → is_some o ≡ true → HoldsTold (sector_in (p ∷ ps)) p.device p.start p.sectors o
    by None e some = let no : ⊥ = cc in absurd no
    by (Some told) e some = λ k lt.
        let place : p.start + k - p.start ≡ k = omega arith in
        ap told (sym place) ∙ ap (λ o. told_at o (p.start + k - p.start)) e ∙ sym (ap (λ b. cond b (told_at p.told (p.start + k - p.start)) (sector_in ps p.device (p.start + k))) (inside p.device p.start p.sectors k lt))

own_later : (p q : Seen) (ps : List Seen) → ((k : ℕ) → k < q.sectors → covers q.device (q.start + k) p ≡ false) → Holds (sector_in ps) q → Holds (sector_in (p ∷ ps)) q
own_later p q ps apart holds = by q.told holds
  where
    by : (o : Option Contents) → HoldsTold (sector_in ps) q.device q.start q.sectors o → HoldsTold (sector_in (p ∷ ps)) q.device q.start q.sectors o
    by None h = absurd h
    by (Some told) h = λ k lt. h k lt ∙ sym (ap (λ b. cond b (told_at p.told (q.start + k - p.start)) (sector_in ps q.device (q.start + k))) (apart k lt))

pub once_behind : (p : Seen) (ps : List Seen) → AreOnce (p ∷ ps) → AreOnce ps
once_behind p ps once d s = let all = once d s in let sum = sum_by-cons (has d s) p ps in omega (arith, all, sum)

pub own_told : (ps : List Seen) → AreOnce ps → AllTell ps → All (Holds (sector_in ps)) ps
own_told [] once tells = All-nil (Holds (sector_in []))
own_told (p ∷ ps) once tells =
    let rest = own_told ps (once_behind p ps once) (All-tail IsTelling p ps tells) in
    All-cons (Holds (sector_in (p ∷ ps))) p ps (own_first p ps (All-head IsTelling p ps tells)) (λ i d lt.
    let q = get_or ps i d in
    own_later p q ps (λ k within.
    let sum = sum_by-cons (has q.device (q.start + k)) p ps in
    let few = once q.device (q.start + k) in
    let part = get_or-le-sum_by (has q.device (q.start + k)) ps i d lt in
    let one = is_one q k within in
    not_both (covers q.device (q.start + k) p) (owners q.device (q.start + k) ps) (omega (arith, part, one)) (omega (arith, sum, few))) (rest i d lt))

-- ---- a sector of pieces

one_from : (c : ℕ → Contents) (p : Seen) (ps : List Seen) (device k : ℕ) → Holds c p → (1 ≤ owners device k ps → sector_in ps device k ≡ c device k) → 1 ≤ has device k p + owners device k ps → sector_in (p ∷ ps) device k ≡ c device k
one_from c p ps device k holds rest some = by (covers device k p) refl some
  where
    by : (b : Bool) → covers device k p ≡ b → 1 ≤ cond b 1 0 + owners device k ps → cond b (told_at p.told (k - p.start)) (sector_in ps device k) ≡ c device k
    by true e le = told_there c p device k e holds
    by false e le = rest (omega (arith, le))

-- where each piece holds a part of some contents, a sector that one has is as in these
pub sector_from : (c : ℕ → Contents) (ps : List Seen) (device k : ℕ) → All (Holds c) ps → 1 ≤ owners device k ps → sector_in ps device k ≡ c device k
sector_from c [] device k holds some = let no : ⊥ = omega (arith, some) in absurd no
sector_from c (p ∷ ps) device k holds some =
    one_from c p ps device k (All-head (Holds c) p ps holds) (λ le. sector_from c ps device k (All-tail (Holds c) p ps holds) le) (let sum = sum_by-cons (has device k) p ps in omega (arith, some, sum))

-- pieces that have not the sector are passed over
pub sector_skip : (xs ys : List Seen) (device k : ℕ) → owners device k xs ≡ 0 → sector_in (xs ++ ys) device k ≡ sector_in ys device k
sector_skip [] ys device k none = refl
sector_skip (x ∷ xs) ys device k none =
    let sum = sum_by-cons (has device k) x xs in
    ap (λ b. cond b (told_at x.told (k - x.start)) (sector_in (xs ++ ys) device k)) (not_zero (covers device k x) (owners device k xs) (owners device k (x ∷ xs)) sum none)
    ∙ sector_skip xs ys device k (omega (arith, sum, none))

pub sector_none : (xs : List Seen) (device k : ℕ) → owners device k xs ≡ 0 → sector_in xs device k ≡ []
sector_none [] device k none = refl
sector_none (x ∷ xs) device k none =
    let sum = sum_by-cons (has device k) x xs in
    ap (λ b. cond b (told_at x.told (k - x.start)) (sector_in xs device k)) (not_zero (covers device k x) (owners device k xs) (owners device k (x ∷ xs)) sum none)
    ∙ sector_none xs device k (omega (arith, sum, none))

-- the first pieces first
pub sector_append : (xs ys : List Seen) (device k : ℕ) → sector_in (xs ++ ys) device k ≡ cond (list_any (covers device k) xs) (sector_in xs device k) (sector_in ys device k)
sector_append [] ys device k = refl
sector_append (x ∷ xs) ys device k = ap (λ v. cond (covers device k x) (told_at x.told (k - x.start)) v) (sector_append xs ys device k) ∙ by (covers device k x)
  where
    by : (b : Bool) → cond b (told_at x.told (k - x.start)) (cond (list_any (covers device k) xs) (sector_in xs device k) (sector_in ys device k)) ≡ cond (b || list_any (covers device k) xs) (cond b (told_at x.told (k - x.start)) (sector_in xs device k)) (sector_in ys device k)
    by true = refl
    by false = refl

-- ---- pieces that are together what others were

pub once_kept : (ps qs : List Seen) → SameSectors ps qs → AreOnce ps → AreOnce qs
once_kept ps qs same once d s = let all = same.sectors d s in let few = once d s in omega (arith, all, few)

module _ (ps qs : List Seen) (once : AreOnce ps) (tells : AllTell ps) (same : SameSectors ps qs) where
  held : All (Holds (sector_in ps)) qs
  held = same.contents (sector_in ps) (own_told ps once tells)

  pub tell_same : AllTell qs
  tell_same = All-weaker (Holds (sector_in ps)) IsTelling (telling (sector_in ps)) qs held

  pub sector_same : (device k : ℕ) → sector_in qs device k ≡ sector_in ps device k
  sector_same device k = by (owners device k qs) refl
    where
      by : (n : ℕ) → n ≡ owners device k qs → sector_in qs device k ≡ sector_in ps device k
      by zero e = sector_none qs device k (sym e) ∙ sym (sector_none ps device k (sym (same.sectors device k) ∙ sym e))
      by (suc n) e = sector_from (sector_in ps) qs device k held (omega (arith, e))

-- ---- devices that have a piece

-- a piece of another device has no sector of it
pub other_lacks : (p : Seen) (device k : ℕ) → is_of device p ≡ false → has device k p ≡ 0
other_lacks p device k e = at p.device p.start p.sectors e
  where
    at : (number start count : ℕ) → (number == device) ≡ false → has_at number start count device k ≡ 0
    at number start count e = ap (λ v. cond (v && nat_le start k && nat_lt (k - start) count) 1 0) e

-- a piece that has sectors and none of the device is of another one
pub lacks_all : (p : Seen) (device : ℕ) → 0 < p.sectors → has device p.start p ≡ 0 → is_of device p ≡ false
lacks_all p device some none = at p.device p.start p.sectors some none
  where
    at : (number start count : ℕ) → 0 < count → has_at number start count device start ≡ 0 → (number == device) ≡ false
    at number start count some none = grind (arith, none)

any_yes : (ps : List Seen) (device k : ℕ) → 1 ≤ owners device k ps → list_any (is_of device) ps ≡ true
any_yes [] device k some = let no : ⊥ = omega (arith, some) in absurd no
any_yes (p ∷ ps) device k some = one_more (is_of device p) refl (λ le. any_yes ps device k le)
  where
    one_more : (b : Bool) → is_of device p ≡ b → (1 ≤ owners device k ps → list_any (is_of device) ps ≡ true) → b || list_any (is_of device) ps ≡ true
    one_more true e rest = refl
    one_more false e rest = rest (let sum = sum_by-cons (has device k) p ps in let none = other_lacks p device k e in omega (arith, sum, none, some))

some_owner : (ps : List Seen) (device : ℕ) → All HasSome ps → list_any (is_of device) ps ≡ true → (k : ℕ) × (1 ≤ owners device k ps)
some_owner [] device some any = let no : ⊥ = cc in absurd no
some_owner (p ∷ ps) device some any = one_more (is_of device p) refl any (λ e. some_owner ps device (All-tail HasSome p ps some) e)
  where
    one_more : (b : Bool) → is_of device p ≡ b → b || list_any (is_of device) ps ≡ true → (list_any (is_of device) ps ≡ true → (k : ℕ) × (1 ≤ owners device k ps)) → (k : ℕ) × (1 ≤ owners device k (p ∷ ps))
    one_more true e any rest = (
      p.start + 0,
      (
          let one = is_one p 0 (All-head HasSome p ps some) in
          let here : has device (p.start + 0) p ≡ 1 = subst (λ d. has d (p.start + 0) p ≡ 1) (same_number device p.device e) one in
          let sum = sum_by-cons (has device (p.start + 0)) p ps in
          omega (arith, here, sum)),
    )
    one_more false e any rest = let there = rest any in (there.0, (let le = there.1 in let sum = sum_by-cons (has device there.0) p ps in omega (arith, le, sum)))

pub any_same : (ps qs : List Seen) (device : ℕ) → All HasSome ps → All HasSome qs → ((k : ℕ) → owners device k qs ≡ owners device k ps) → list_any (is_of device) qs ≡ list_any (is_of device) ps
any_same ps qs device some some' same = by (list_any (is_of device) ps) (list_any (is_of device) qs) refl refl
  where
    by : (b c : Bool) → list_any (is_of device) ps ≡ b → list_any (is_of device) qs ≡ c → c ≡ b
    by true true e f = refl
    by false false e f = refl
    by true false e f =
        let there = some_owner ps device some e in
        let le = there.1 in
        let all = same there.0 in
        let yes = any_yes qs device there.0 (omega (arith, le, all)) in
        sym f ∙ yes
    by false true e f =
        let there = some_owner qs device some' f in
        let le = there.1 in
        let all = same there.0 in
        let yes = any_yes ps device there.0 (omega (arith, le, all)) in
        sym yes ∙ e

-- where no piece is of the device, none counts for it
pub none_counted : (b : Seen → ℕ) (device : ℕ) (ps : List Seen) → ((p : Seen) → is_of device p ≡ false → b p ≡ 0) → list_any (is_of device) ps ≡ false → sum_by b ps ≡ 0
none_counted b device [] zero_if none = refl
none_counted b device (p ∷ ps) zero_if none = one_more (is_of device p) refl none (λ e. none_counted b device ps zero_if e)
  where
    one_more : (v : Bool) → is_of device p ≡ v → v || list_any (is_of device) ps ≡ false → (list_any (is_of device) ps ≡ false → sum_by b ps ≡ 0) → sum_by b (p ∷ ps) ≡ 0
    one_more true e none rest = let no : ⊥ = cc in absurd no
    one_more false e none rest = let here = zero_if p e in let there = rest none in let sum = sum_by-cons b p ps in omega (arith, here, there, sum)
