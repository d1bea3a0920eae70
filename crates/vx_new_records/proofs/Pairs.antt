-- A walk over two lists side by side, at the end of the shorter.
use Rattle.std.proofs.Common.{◌≡◌, ℕ, min, Option, Some, List, [], ◌∷◌, length, drop, refl, sym, ap, ◌∙◌, ◌⊎◌, inl, inr, arith}
use Rattle.std.proofs.lemmas.Bool.{cases_lt}
use Rattle.std.proofs.lemmas.List.{drop_all}
use Rattle.vx_base.specs.Named.{Word}
use Rattle.vx_new_volumes.specs.Laying.{Laid, put_logs, put_plexes}

one_ends : {A B : Type 0} (xs : List A) (ys : List B) (i : ℕ) → i ≡ min (length xs) (length ys) → (drop i xs ≡ []) ⊎ (drop i ys ≡ [])
one_ends xs ys i is = elim (cases_lt i (length xs)) [
  | inl lt ↦ inr (drop_all i ys (omega (arith, is, lt)))
  | inr le ↦ inl (drop_all i xs le)
]

-- nothing more is put
pub ends : {A B : Type 0} (walk : List A → List B → Laid → Option Laid) → ((ys : List B) (l : Laid) → walk [] ys l ≡ Some l) → ((xs : List A) (l : Laid) → walk xs [] l ≡ Some l)
    → (xs : List A) (ys : List B) (i : ℕ) (l : Laid) (all : Option Laid) → i ≡ min (length xs) (length ys) → walk (drop i xs) (drop i ys) l ≡ all → all ≡ Some l
ends walk no_first no_second xs ys i l all is h = sym h ∙ elim (one_ends xs ys i is) [
  | inl e ↦ ap (λ (zs : List _). walk zs (drop i ys) l) e ∙ no_first (drop i ys) l
  | inr e ↦ ap (λ (zs : List _). walk (drop i xs) zs l) e ∙ no_second (drop i xs) l
]

pub no_plex : (known names : List Word) (l : Laid) → put_plexes known names [] l ≡ Some l
no_plex known [] l = refl
no_plex known (name ∷ names) l = refl

pub no_log : (known names : List Word) (l : Laid) → put_logs known names [] l ≡ Some l
no_log known [] l = refl
no_log known (name ∷ names) l = refl
