-- What can be decided: it holds, or it does not.
use Rattle.std.proofs.Common.{◌≡◌, ◌⊎◌, inl, inr, ℕ, zero, suc, ◌<◌, Bool, true, false, refl, sym, subst, List, [], ◌∷◌, arith}
use Rattle.std.specs.Prelude.{Contains, Decides}
use Rattle.std.specs.Str.{bytes_eq}
use Rattle.std.proofs.lemmas.Bool.{cases_eq, cases_order, false≢true, true≢false}
use Rattle.std.proofs.lemmas.Slice.Eq.{bytes_eq-Decides}
use Rattle.vx_image.proofs.PlexMembers.{IsIn}
use Rattle.vx_image.proofs.Members.{is_in, contains}

abbrev pub Decided : Type 0 → Type 0
Decided P = P ⊎ (P → ⊥)

-- ---- of one or two

-- what says the same
pub decided_by : {P Q : Type 0} → (P → Q) → (Q → P) → Decided P → Decided Q
decided_by there back (inl p) = inl (there p)
decided_by there back (inr never) = inr (λ q. never (back q))

pub both_decided : {P Q : Type 0} → Decided P → Decided Q → Decided (P × Q)
both_decided (inl p) (inl q) = inl (p, q)
both_decided (inl p) (inr never) = inr (λ x. never x.1)
both_decided (inr never) q = inr (λ x. never x.0)

pub either_decided : {P Q : Type 0} → Decided P → Decided Q → Decided (P ⊎ Q)
either_decided (inl p) q = inl (inl p)
either_decided (inr never) (inl q) = inl (inr q)
either_decided (inr never) (inr neither) = inr (λ x. elim x [ inl p ↦ never p | inr q ↦ neither q ])

pub after_decided : {P Q : Type 0} → Decided P → Decided Q → Decided (P → Q)
after_decided (inl p) (inl q) = inl (λ x. q)
after_decided (inl p) (inr never) = inr (λ f. never (f p))
after_decided (inr never) q = inl (λ p. absurd (never p))

-- ---- equations

pub same_truth : (a b : Bool) → Decided (a ≡ b)
same_truth true true = inl refl
same_truth true false = inr true≢false
same_truth false true = inr false≢true
same_truth false false = inl refl

pub same_number : (a b : ℕ) → Decided (a ≡ b)
same_number a b = cases_eq a b

pub same_list : (xs ys : List ℕ) → Decided (xs ≡ ys)
same_list xs ys = by (bytes_eq xs ys) (bytes_eq-Decides xs ys)
  where
    by : (b : Bool) → Decides b (xs ≡ ys) → Decided (xs ≡ ys)
    by true decides = inl (decides.0 refl)
    by false decides = inr (λ e. false≢true (decides.1 e))

-- ---- of all numbers below a number

pub below_decided : (P : ℕ → Type 0) → ((k : ℕ) → Decided (P k)) → (n : ℕ) → Decided ((k : ℕ) → k < n → P k)
below_decided P each zero = inl (λ k lt. absurd (omega (arith, lt)))
below_decided P each (suc n) = decided_by join split (both_decided (each n) (below_decided P each n))
  where
    join : P n × ((k : ℕ) → k < n → P k) → (k : ℕ) → k < suc n → P k
    join both k lt =
        elim (cases_order k n) [
          | inl same ↦ subst P (sym same) both.0
          | inr other ↦ elim other [ inl below ↦ both.1 k below | inr above ↦ absurd (omega (arith, lt, above)) ]
        ]

    split : ((k : ℕ) → k < suc n → P k) → P n × ((k : ℕ) → k < n → P k)
    split all = (all n (omega arith), λ k lt. all k (omega (arith, lt)))

-- ---- of the elements of a list

module _ {X : Type 0} (P : X → Type 0) (each : (x : X) → Decided (P x)) where
  all_in_decided : (xs : List X) → Decided ((x : X) → IsIn xs x → P x)
  all_in_decided [] = inl (λ x one. absurd one)
  all_in_decided (y ∷ ys) = decided_by join split (both_decided (each y) (all_in_decided ys))
    where
      join : P y × ((x : X) → IsIn ys x → P x) → (x : X) → IsIn (y ∷ ys) x → P x
      join both x (inl same) = subst P (sym same) both.0
      join both x (inr one) = both.1 x one

      split : ((x : X) → IsIn (y ∷ ys) x → P x) → P y × ((x : X) → IsIn ys x → P x)
      split all = (all y (inl refl), λ x one. all x (inr one))

  one_in_decided : (xs : List X) → Decided ((x : X) × IsIn xs x × P x)
  one_in_decided [] = inr (λ none. absurd none.1)
  one_in_decided (y ∷ ys) = decided_by join split (either_decided (each y) (one_in_decided ys))
    where
      join : P y ⊎ ((x : X) × IsIn ys x × P x) → (x : X) × IsIn (y ∷ ys) x × P x
      join (inl here) = (y, inl refl, here)
      join (inr there) = (there.0, inr there.1, there.2)

      split : (x : X) × IsIn (y ∷ ys) x × P x → P y ⊎ ((x : X) × IsIn ys x × P x)
      split (x, inl same, holds) = inl (subst P same holds)
      split (x, inr one, holds) = inr (x, one, holds)

  -- of each
  pub each_decided : (xs : List X) → Decided ((x : X) → Contains xs x → P x)
  each_decided xs = decided_by (λ all x one. all x (is_in xs x one)) (λ all x one. all x (contains xs x one)) (all_in_decided xs)

  -- of some
  pub some_decided : (xs : List X) → Decided ((x : X) × Contains xs x × P x)
  some_decided xs = decided_by (λ h. (h.0, contains xs h.0 h.1, h.2)) (λ h. (h.0, is_in xs h.0 h.1, h.2)) (one_in_decided xs)
