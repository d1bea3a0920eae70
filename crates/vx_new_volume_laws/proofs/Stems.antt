-- A numbered name tells its stem and its number.
use Rattle.std.proofs.Common.{◌≡◌, ℕ, ◌<◌, ◌≤◌, ◌^◌, nat_lt, Bool, true, false, List, [], ◌∷◌, ◌++◌, refl, sym, ap, ◌∙◌, subst, arith, if◌then◌else◌, decimal}
use Rattle.std.specs.Char.{digit_value}
use Rattle.std.specs.Str.Parse.{AllDigits, digits_value}
use Rattle.std.proofs.lemmas.Fmt.{decimal_is_IsNumeral}
use Rattle.vx_base.specs.Named.{Word}
use Rattle.vx_new_volumes.specs.Naming.{numbered, two_digits}

-- none of the bytes is `-`
abbrev NoDash : List ℕ → Type 0
NoDash [] = Unit {0}
NoDash (c ∷ cs) = (c ≡ 45 → ⊥) × NoDash cs

dash_is_none : (c : ℕ) → digit_value c < 10 → c ≡ 45 → ⊥
dash_is_none c low e = let at : digit_value 45 < 10 = subst (λ (k : ℕ). digit_value k < 10) e low in absurd (omega (arith, at))

digits_no_dash : (ds : List ℕ) → AllDigits 10 ds → NoDash ds
digits_no_dash [] h = tt
digits_no_dash (c ∷ cs) h = (dash_is_none c h.0, digits_no_dash cs h.1)

has_dash : (t es : List ℕ) → NoDash (t ++ 45 ∷ es) → ⊥
has_dash [] es h = h.0 refl
has_dash (c ∷ t) es h = has_dash t es h.1

-- what stands before and behind the last `-`
same_parts : (s t ds es : List ℕ) → NoDash ds → NoDash es → s ++ 45 ∷ ds ≡ t ++ 45 ∷ es → (s ≡ t) × (ds ≡ es)
same_parts [] [] ds es h k e = let rest : ds ≡ es = cc in (refl, rest)
same_parts [] (c ∷ t) ds es h k e = let rest : ds ≡ t ++ 45 ∷ es = cc in absurd (has_dash t es (subst NoDash rest h))
same_parts (c ∷ s) [] ds es h k e = let rest : es ≡ s ++ 45 ∷ ds = cc in absurd (has_dash s ds (subst NoDash rest k))
same_parts (c ∷ s) (d ∷ t) ds es h k e =
    let first : c ≡ d = cc in
    let rest : s ++ 45 ∷ ds ≡ t ++ 45 ∷ es = cc in
    let r = same_parts s t ds es h k rest in
    (ap (λ (x : ℕ). x ∷ s) first ∙ ap (λ (l : List ℕ). d ∷ l) r.0, r.1)

two_no_dash : (n : ℕ) → n < 2 ^ 64 → NoDash (two_digits n)
two_no_dash n low = by (nat_lt n 10)
  where
    own : NoDash (decimal n)
    own = digits_no_dash (decimal n) (decimal_is_IsNumeral n low).0.1

    by : (b : Bool) → NoDash (if b then 48 ∷ decimal n else decimal n)
    by true = ((λ e. absurd (omega (arith, e))), own)
    by false = own

two_value : (n : ℕ) → n < 2 ^ 64 → digits_value 10 (two_digits n) ≡ n
two_value n low = by (nat_lt n 10)
  where
    own : digits_value 10 (decimal n) ≡ n
    own = (decimal_is_IsNumeral n low).1

    by : (b : Bool) → digits_value 10 (if b then 48 ∷ decimal n else decimal n) ≡ n
    by true = own
    by false = own

pub numbered_one : (s t : Word) (a b : ℕ) → a ≤ 999999 → b ≤ 999999 → numbered s a ≡ numbered t b → (s ≡ t) × (a ≡ b)
numbered_one s t a b la lb e =
    let low : a < 2 ^ 64 = omega (arith, la) in
    let low' : b < 2 ^ 64 = omega (arith, lb) in
    let r = same_parts s t (two_digits a) (two_digits b) (two_no_dash a low) (two_no_dash b low') e in
    (r.0, sym (two_value a low) ∙ ap (λ (ds : List ℕ). digits_value 10 ds) r.1 ∙ two_value b low')
