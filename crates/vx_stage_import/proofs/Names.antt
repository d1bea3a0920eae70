-- Names in order.
use Rattle.std.proofs.Common.{◌≡◌, ◌∙◌, ◌||◌, ◌<◌, ℕ, zero, suc, Bool, true, false, List, [], ◌∷◌, length, get_or, refl, sym, ap, arith}
use Rattle.std.specs.List.Sorted.{IsStrictlySortedBy}
use Rattle.std.specs.List.{AllByRecursion}
use Rattle.std.specs.Str.{bytes_eq}
use Rattle.std.specs.Cmp.Lexicographic.{slice_cmp}
use Rattle.std.specs.Ordering.{nat_cmp, is_eq}
use Rattle.std.specs.declared.cmp.Ordering.TheVariants.{Less}
use Rattle.std.proofs.lemmas.Map.Text.{is_eq-slice_cmp}
use Rattle.vx_base.specs.Named.{Word}
use Rattle.vx_shelf.specs.Listed.{IsRising}

pub less_apart : (name other : Word) → slice_cmp nat_cmp name other ≡ Less → bytes_eq name other ≡ false
less_apart name other less = sym (is_eq-slice_cmp name other) ∙ ap is_eq less

-- of rising names each stands before those behind it
pub rising_at : (names : List Word) (i j : ℕ) (d e : Word) → IsRising names → i < j → j < length names → slice_cmp nat_cmp (get_or names i d) (get_or names j e) ≡ Less
unfolding IsStrictlySortedBy
rising_at [] i j d e rising less lt = absurd (omega (arith, lt))
rising_at (n ∷ names) zero zero d e rising less lt = absurd (omega (arith, less))
rising_at (n ∷ names) zero (suc j) d e rising less lt = by names j rising.0 (omega (arith, lt))
  where
    by : (ns : List Word) (k : ℕ) → AllByRecursion (λ y. slice_cmp nat_cmp n y ≡ Less) ns → k < length ns → slice_cmp nat_cmp n (get_or ns k e) ≡ Less
    by [] k all lt = absurd (omega (arith, lt))
    by (m ∷ ns) zero all lt = all.0
    by (m ∷ ns) (suc k) all lt = by ns k all.1 (omega (arith, lt))
rising_at (n ∷ names) (suc i) zero d e rising less lt = absurd (omega (arith, less))
rising_at (n ∷ names) (suc i) (suc j) d e rising less lt = rising_at names i j d e rising.1 (omega (arith, less)) (omega (arith, lt))

pub or_true : (b c : Bool) → c ≡ true → (b || c) ≡ true
or_true true c e = refl
or_true false c e = e

pub or_first : (b c : Bool) → b ≡ true → (b || c) ≡ true
or_first b c e = ap (λ x. x || c) e
