-- How many extents have a sector: what is taken of the free space and what stays have each sector as often as it was free.
use Rattle.std.proofs.Common.{◌≡◌, ℕ, ◌+◌, ◌-◌, ◌<◌, ◌≤◌, min, nat_le, nat_lt, Bool, true, false, cond, ◌&&◌, List, [], ◌∷◌, ◌++◌, refl, sym, ap, ◌∙◌, inl, inr, arith}
use Rattle.std.specs.List.{count_by}
use Rattle.std.specs.Str.{bytes_eq}
use Rattle.std.proofs.lemmas.Bool.{and_right, cases_lt, le-leb, le-ltb, lt-leb, lt-ltb, ltb-false, ltb-true}
use Rattle.std.proofs.lemmas.List.Sums.{sum_by-append, sum_by-cons}
use Rattle.vx_base.specs.Named.{Word}
use Rattle.vx_base.proofs.NamedLemmas.{bytes_eq_same}
use Rattle.vx_image.proofs.PlexMembers.{IsIn, in_either}
use Rattle.vx_space.specs.declared.extent.Extent.{Extent}
use Rattle.vx_space.specs.Extents.{between, has_sector, left, taken}

-- how many of the extents have the sector of the disk
abbrev pub hits : Word → ℕ → List Extent → ℕ
hits d x es = count_by (has_sector d x) es

pub hits_both : (d : Word) (x : ℕ) (es fs : List Extent) → hits d x (es ++ fs) ≡ hits d x es + hits d x fs
hits_both d x es fs = sum_by-append (λ e. cond (has_sector d x e) 1 0) es fs

pub hits_one : (d : Word) (x : ℕ) (e : Extent) (es : List Extent) → hits d x (e ∷ es) ≡ cond (has_sector d x e) 1 0 + hits d x es
hits_one d x e es = sum_by-cons (λ f. cond (has_sector d x f) 1 0) e es

-- 1 where the sector is from the first number on and below the second
abbrev within : ℕ → ℕ → ℕ → ℕ
within x a b = cond (nat_le a x && nat_lt x b) 1 0

within_cut : (x a b c : ℕ) → a ≤ b → b ≤ c → within x a b + within x b c ≡ within x a c
within_cut x a b c low high = elim (cases_lt x a) [
  | inl lt ↦ rw (lt-leb a x lt, lt-leb b x (omega (arith, lt, low))) refl
  | inr from ↦ elim (cases_lt x b) [
    | inl below ↦ rw (le-leb a x from, lt-ltb x b below, lt-leb b x below, lt-ltb x c (omega (arith, below, high))) refl
    | inr past ↦ rw (le-leb a x from, le-ltb x b past, le-leb b x past) (zero_add (cond (nat_lt x c) 1 0))
  ]
]
  where
    zero_add : (n : ℕ) → 0 + n ≡ n
    zero_add n = omega arith

within_none : (x a b : ℕ) → b ≤ a → within x a b ≡ 0
within_none x a b le = elim (cases_lt x a) [
  | inl lt ↦ ap (λ (t : Bool). cond (t && nat_lt x b) 1 0) (lt-leb a x lt)
  | inr from ↦ ap (λ (t : Bool). cond t 1 0) (and_right (nat_le a x) (nat_lt x b) (le-ltb x b (omega (arith, from, le))))
]

sector_within : (b : Bool) (x a c : ℕ) → cond (b && (nat_le a x && nat_lt x c)) 1 0 ≡ cond b (within x a c) 0
sector_within true x a c = refl
sector_within false x a c = refl

between_hits : (k d : Word) (x a b : ℕ) → hits d x (between k a b) ≡ cond (bytes_eq k d) (within x a b) 0
between_hits k d x a b = by (nat_lt a b) refl
  where
    nothing : (t : Bool) → ◌≡◌ {A = ℕ} 0 (cond t 0 0)
    nothing true = refl
    nothing false = refl

    by : (t : Bool) → nat_lt a b ≡ t → hits d x (cond t (record { disk = k; start = a; count = b - a } ∷ []) []) ≡ cond (bytes_eq k d) (within x a b) 0
    by true e =
        let lt = ltb-true a b e in
        let one : Extent = record { disk = k; start = a; count = b - a } in
        let end : a + (b - a) ≡ b = omega (arith, lt) in
        let zero_right : cond (has_sector d x one) 1 0 + 0 ≡ cond (has_sector d x one) 1 0 = omega arith in
        hits_one d x one [] ∙ zero_right
        ∙ sector_within (bytes_eq k d) x a (a + (b - a)) ∙ ap (λ (n : ℕ). cond (bytes_eq k d) (within x a n) 0) end
    by false e = nothing (bytes_eq k d) ∙ ap (λ (n : ℕ). cond (bytes_eq k d) n 0) (sym (within_none x a b (ltb-false a b e)))

cond_sum : (b : Bool) (m n k : ℕ) → m + n ≡ k → cond b m 0 + cond b n 0 ≡ cond b k 0
cond_sum true m n k e = e
cond_sum false m n k e = refl

-- what is taken, and what stays
pub taken_left : (k d : Word) (x count : ℕ) (es : List Extent) → hits d x (taken k count es) + hits d x (left k count es) ≡ hits d x es
taken_left k d x count [] = refl
taken_left k d x count (e ∷ es) = by (bytes_eq e.disk k) refl (taken_left k d x (count - min count e.count) es) (taken_left k d x count es)
  where
    own : bytes_eq e.disk k ≡ true → hits d x (between k e.start (e.start + min count e.count)) + hits d x (between k (e.start + min count e.count) (e.start + e.count)) ≡ cond (has_sector d x e) 1 0
    own same =
        let part : e.start ≤ e.start + min count e.count = omega arith in
        let rest : e.start + min count e.count ≤ e.start + e.count = omega arith in
        (λ i. between_hits k d x e.start (e.start + min count e.count) i + between_hits k d x (e.start + min count e.count) (e.start + e.count) i)
        ∙ cond_sum (bytes_eq k d) (within x e.start (e.start + min count e.count)) (within x (e.start + min count e.count) (e.start + e.count)) (within x e.start (e.start + e.count)) (within_cut x e.start (e.start + min count e.count) (e.start + e.count) part rest)
        ∙ ap (λ (w : Word). cond (bytes_eq w d) (within x e.start (e.start + e.count)) 0) (sym (bytes_eq_same e.disk k same))
        ∙ sym (sector_within (bytes_eq e.disk d) x e.start (e.start + e.count))

    by : (b : Bool) → bytes_eq e.disk k ≡ b → hits d x (taken k (count - min count e.count) es) + hits d x (left k (count - min count e.count) es) ≡ hits d x es → hits d x (taken k count es) + hits d x (left k count es) ≡ hits d x es
        → hits d x (cond b (between k e.start (e.start + min count e.count) ++ taken k (count - min count e.count) es) (taken k count es)) + hits d x (cond b (between k (e.start + min count e.count) (e.start + e.count) ++ left k (count - min count e.count) es) (e ∷ left k count es)) ≡ hits d x (e ∷ es)
    by true same cut all =
        let here = own same in
        let a = hits_both d x (between k e.start (e.start + min count e.count)) (taken k (count - min count e.count) es) in
        let b = hits_both d x (between k (e.start + min count e.count) (e.start + e.count)) (left k (count - min count e.count) es) in
        let c = hits_one d x e es in
        omega (arith, here, a, b, c, cut)
    by false same cut all =
        let b = hits_one d x e (left k count es) in
        let c = hits_one d x e es in
        omega (arith, b, c, all)

-- ---- each extent that is taken has a sector

between_filled : (k : Word) (a b : ℕ) (e : Extent) → IsIn (between k a b) e → (0 < e.count) × (e.disk ≡ k)
between_filled k a b e = by (nat_lt a b) refl
  where
    by : (t : Bool) → nat_lt a b ≡ t → IsIn (cond t (record { disk = k; start = a; count = b - a } ∷ []) []) e → (0 < e.count) × (e.disk ≡ k)
    by true lt (inl same) =
        let less = ltb-true a b lt in
        let long : e.count ≡ b - a = ap (λ (f : Extent). f.count) same in
        (omega (arith, less, long), ap (λ (f : Extent). f.disk) same)
    by true lt (inr none) = absurd none
    by false lt none = absurd none

pub taken_filled : (k : Word) (count : ℕ) (es : List Extent) (f : Extent) → IsIn (taken k count es) f → (0 < f.count) × (f.disk ≡ k)
taken_filled k count [] f there = absurd there
taken_filled k count (e ∷ es) f there = by (bytes_eq e.disk k) (taken_filled k (count - min count e.count) es f) (taken_filled k count es f) there
  where
    by : (b : Bool) → (IsIn (taken k (count - min count e.count) es) f → (0 < f.count) × (f.disk ≡ k)) → (IsIn (taken k count es) f → (0 < f.count) × (f.disk ≡ k))
        → IsIn (cond b (between k e.start (e.start + min count e.count) ++ taken k (count - min count e.count) es) (taken k count es)) f → (0 < f.count) × (f.disk ≡ k)
    by true cut all there = elim (in_either (between k e.start (e.start + min count e.count)) (taken k (count - min count e.count) es) f there) [
      | inl here ↦ between_filled k e.start (e.start + min count e.count) f here
      | inr more ↦ cut more
    ]
    by false cut all there = all there
