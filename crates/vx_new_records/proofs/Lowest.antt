-- The plex with the lowest map, one record further.
use Rattle.std.proofs.Common.{◌≡◌, ℕ, ◌+◌, ◌<◌, ◌≤◌, inl, inr, Option, Some, None, List, ◌∷◌, length, drop, get_or, refl, sym, ap, ◌∙◌, arith}
use Rattle.std.proofs.lemmas.Bool.{cases_lt, cond-true, cond-false, lt-ltb, le-ltb}
use Rattle.std.proofs.lemmas.List.{at_drop_more}
use Rattle.vx_base.specs.Named.{Word}
use Rattle.vx_config_parts.specs.declared.plex.Plex.{Plex}
use Rattle.vx_config_parts.specs.declared.object.Object.{Object}
use Rattle.vx_new_volumes.specs.Mirrors.{data_plex_of, map_number, lower, lowest_plex}

number : Plex → ℕ
number p = map_number p.map

second : (p q : Plex) → number q < number p → lower (Some p) (Some q) ≡ Some q
unfolding number
second p q lt = cond-true _ _ _ (lt-ltb (number q) (number p) lt)

first : (p q : Plex) → number p ≤ number q → lower (Some p) (Some q) ≡ Some p
unfolding number
first p q le = cond-false _ _ _ (le-ltb (number q) (number p) le)

pub alone : (p : Option Plex) → lower p None ≡ p
alone None = refl
alone (Some p) = refl

three : (p q r : Plex) → lower (lower (Some p) (Some q)) (Some r) ≡ lower (Some p) (lower (Some q) (Some r))
three p q r = elim (cases_lt (number q) (number p)) [
  | inl qp ↦ ap (λ (o : Option Plex). lower o (Some r)) (second p q qp) ∙ elim (cases_lt (number r) (number q)) [
    | inl rq ↦ second q r rq ∙ sym (ap (λ (o : Option Plex). lower (Some p) o) (second q r rq) ∙ second p r (omega (arith, qp, rq)))
    | inr qr ↦ first q r qr ∙ sym (ap (λ (o : Option Plex). lower (Some p) o) (first q r qr) ∙ second p q qp)
  ]
  | inr pq ↦ ap (λ (o : Option Plex). lower o (Some r)) (first p q pq) ∙ elim (cases_lt (number r) (number q)) [
    | inl rq ↦ sym (ap (λ (o : Option Plex). lower (Some p) o) (second q r rq))
    | inr qr ↦ first p r (omega (arith, pq, qr)) ∙ sym (ap (λ (o : Option Plex). lower (Some p) o) (first q r qr) ∙ first p q pq)
  ]
]

grouped : (p q r : Option Plex) → lower (lower p q) r ≡ lower p (lower q r)
grouped None q r = refl
grouped (Some p) None r = refl
grouped (Some p) (Some q) None = alone (lower (Some p) (Some q))
grouped (Some p) (Some q) (Some r) = three p q r

pub one_more : (vol : Word) (os : List Object) (i : ℕ) (o : Object) (found new all : Option Plex) → i < length os → o ≡ get_or os i o → new ≡ lower found (data_plex_of vol o) → lower found (lowest_plex vol (drop i os)) ≡ all →
    lower new (lowest_plex vol (drop (i + 1) os)) ≡ all
one_more vol os i o found new all lt item is h =
    let rest = lowest_plex vol (drop (i + 1) os) in
    ap (λ (p : Option Plex). lower p rest) is
    ∙ grouped found (data_plex_of vol o) rest
    ∙ sym (ap (λ (p : Option Plex). lower found p) (
    at_drop_more (lowest_plex vol) os i o lt
    ∙ ap (λ (x : Object). lowest_plex vol (x ∷ drop (i + 1) os)) (sym item)))
    ∙ h
