-- Taking sectors leaves extents that can be counted.
use Rattle.std.proofs.Common.{◌≡◌, ℕ, zero, suc, ◌+◌, ◌-◌, ◌<◌, ◌≤◌, ◌^◌, min, nat_lt, Bool, true, false, cond, List, [], ◌∷◌, ◌++◌, length, get_or, drop, refl, sym, ap, ◌∙◌, arith, add-one, drop-cons}
use Rattle.std.specs.List.{list_all}
use Rattle.std.specs.Str.{bytes_eq}
use Rattle.std.proofs.lemmas.Bool.{and_parts, and_from, lt-ltb, ltb-true}
use Rattle.vx_base.specs.Named.{Word}
use Rattle.vx_base.proofs.NamedLemmas.{bytes_eq_same}
use Rattle.vx_rules.proofs.ListTests.{all_at}
use Rattle.vx_space.specs.declared.extent.Extent.{Extent}
use Rattle.vx_space.specs.Extents.{total, between, left}
use Rattle.vx_space.specs.Small.{AreSmall}
use Rattle.vx_space.proofs.Tests.{all_append}
use Rattle.vx_space.proofs.Runs.{between_total, total_append}

-- the extent ends in the numbers that a field holds
abbrev ends_here : Extent → Bool
ends_here e = nat_lt (e.start + e.count) (2 ^ 64)

-- the extent at a place, and those behind it
pub total_at : (n : Word) (es : List Extent) (i : ℕ) (e : Extent) → i < length es → e ≡ get_or es i e → total n (drop i es) ≡ cond (bytes_eq e.disk n) e.count 0 + total n (drop (i + 1) es)
total_at n es i e lt is =
    ap (λ xs. total n xs) (drop-cons es i e lt ∙ ap (λ x. x ∷ drop (suc i) es) (sym is)) ∙ ap (λ k. cond (bytes_eq e.disk n) e.count 0 + total n (drop k es)) (sym (add-one i))

pub total_front : (n : Word) (es : List Extent) (i : ℕ) → total n (drop i es) ≤ total n es
total_front n es zero = omega arith
total_front n [] (suc i) = omega arith
total_front n (e ∷ es) (suc i) = let le = total_front n es i in omega (arith, le)

pub end_at : (es : List Extent) (i : ℕ) (e : Extent) → i < length es → e ≡ get_or es i e → AreSmall es → e.start + e.count < 2 ^ 64
end_at es i e lt is small = ltb-true (e.start + e.count) (2 ^ 64) (ap ends_here is ∙ all_at ends_here es i e lt small.ends)

ends_after : (n : Word) (from to : ℕ) → to < 2 ^ 64 → list_all ends_here (between n from to) ≡ true
ends_after n from to lt = by (nat_lt from to) refl where
  by : (b : Bool) → nat_lt from to ≡ b → list_all ends_here (cond b (record { disk = n; start = from; count = to - from } ∷ []) []) ≡ true
  by true e = let less = ltb-true from to e in and_from _ _ (lt-ltb (from + (to - from)) (2 ^ 64) (omega (arith, less, lt))) refl
  by false e = refl

left_ends : (n : Word) (count : ℕ) (es : List Extent) → list_all ends_here es ≡ true → list_all ends_here (left n count es) ≡ true
left_ends n count [] h = refl
left_ends n count (e ∷ es) h =
    let parts = and_parts (nat_lt (e.start + e.count) (2 ^ 64)) (list_all ends_here es) h in
    by parts.0 (left_ends n (count - min count e.count) es parts.1) (left_ends n count es parts.1) (bytes_eq e.disk n) where
      by : nat_lt (e.start + e.count) (2 ^ 64) ≡ true → list_all ends_here (left n (count - min count e.count) es) ≡ true → list_all ends_here (left n count es) ≡ true → (b : Bool) → list_all ends_here (cond b (between n (e.start + min count e.count) (e.start + e.count) ++ left n (count - min count e.count) es) (e ∷ left n count es)) ≡ true
      by here cut all true = all_append ends_here (between n (e.start + min count e.count) (e.start + e.count)) (left n (count - min count e.count) es) (ends_after n (e.start + min count e.count) (e.start + e.count) (ltb-true (e.start + e.count) (2 ^ 64) here)) cut
      by here cut all false = and_from _ _ here all

left_total : (m n : Word) (count : ℕ) (es : List Extent) → total m (left n count es) ≤ total m es
left_total m n count [] = omega arith
left_total m n count (e ∷ es) = by (left_total m n (count - min count e.count) es) (left_total m n count es) (bytes_eq e.disk n) refl where
  fewer : (b : Bool) (start part count : ℕ) → cond b (start + count - (start + part)) 0 ≤ cond b count 0
  fewer true start part count = omega arith
  fewer false start part count = omega arith

  by : total m (left n (count - min count e.count) es) ≤ total m es → total m (left n count es) ≤ total m es → (b : Bool) → bytes_eq e.disk n ≡ b → total m (cond b (between n (e.start + min count e.count) (e.start + e.count) ++ left n (count - min count e.count) es) (e ∷ left n count es)) ≤ cond (bytes_eq e.disk m) e.count 0 + total m es
  by rest all true h =
      let sum = total_append m (between n (e.start + min count e.count) (e.start + e.count)) (left n (count - min count e.count) es) in
      let first = between_total n m (e.start + min count e.count) (e.start + e.count) ∙ ap (λ k. cond (bytes_eq k m) (e.start + e.count - (e.start + min count e.count)) 0) (sym (bytes_eq_same e.disk n h)) in
      let less = fewer (bytes_eq e.disk m) e.start (min count e.count) e.count in
      omega (arith, sum, first, less, rest)
  by rest all false h = omega (arith, all)

pub left_small : (n : Word) (count : ℕ) (es : List Extent) → AreSmall es → AreSmall (left n count es)
left_small n count es small = record {
  ends = left_ends n count es small.ends;
  totals = λ m. let le = left_total m n count es in let few = small.totals m in omega (arith, le, few);
}
