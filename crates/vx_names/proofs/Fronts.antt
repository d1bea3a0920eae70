-- How far a front of bytes that pass a test goes.
use Rattle.std.proofs.Common.{◌≡◌, ℕ, zero, suc, ◌+◌, ◌<◌, ◌≤◌, min, Bool, true, false, List, [], ◌∷◌, ◌++◌, length, take, arith, refl, inl, inr}
use Rattle.std.specs.List.{list_all, prefix_len}
use Rattle.std.proofs.lemmas.Bool.{and_parts, and_from, cond-true, cond-false}
use Rattle.vx_base.proofs.NamedLemmas.{true_or_false}

-- a front of a list in which all pass passes
pub take_passes : (p : ℕ → Bool) (k : ℕ) (w : List ℕ) → k ≤ prefix_len p w → list_all p (take k w) ≡ true
take_passes p zero w le = refl
take_passes p (suc k) [] le = refl
take_passes p (suc k) (b ∷ bs) le = elim (true_or_false (p b)) [
  | inl t ↦ and_from _ _ t (take_passes p k bs (omega (arith, cond-true (p b) (1 + prefix_len p bs) 0 t)))
  | inr f ↦ absurd (omega (arith, cond-false (p b) (1 + prefix_len p bs) 0 f))
]

pub all_front : (p : ℕ → Bool) (w : List ℕ) → list_all p w ≡ true → prefix_len p w ≡ length w
all_front p [] h = refl
all_front p (b ∷ bs) h =
    let parts = and_parts (p b) (list_all p bs) h in
    omega (arith, cond-true (p b) (1 + prefix_len p bs) 0 parts.0, all_front p bs parts.1)

-- the front ends at the first byte that does not pass
pub front_ends : (p : ℕ → Bool) (w : List ℕ) (c : ℕ) (v : List ℕ) → list_all p w ≡ true → p c ≡ false → prefix_len p (w ++ c ∷ v) ≡ length w
front_ends p [] c v h f = cond-false (p c) (1 + prefix_len p v) 0 f
front_ends p (b ∷ bs) c v h f =
    let parts = and_parts (p b) (list_all p bs) h in
    omega (arith, cond-true (p b) (1 + prefix_len p (bs ++ c ∷ v)) 0 parts.0, front_ends p bs c v parts.1 f)

-- what ends the front, or the cap, is seen by the byte at its end
pub front_again : (p : ℕ → Bool) (m k : ℕ) (w r : List ℕ) → k ≡ min m (prefix_len p w) → k < length w → min m (prefix_len p (take (suc k) w ++ r)) ≡ k
front_again p m k [] r e lt = absurd (omega arith)
front_again p zero k (b ∷ bs) r e lt = omega arith
front_again p (suc m) zero (b ∷ bs) r e lt = elim (true_or_false (p b)) [
  | inl t ↦ absurd (omega (arith, cond-true (p b) (1 + prefix_len p bs) 0 t))
  | inr f ↦ omega (arith, cond-false (p b) (1 + prefix_len p (take zero bs ++ r)) 0 f)
]
front_again p (suc m) (suc k) (b ∷ bs) r e lt = elim (true_or_false (p b)) [
  | inl t ↦
      let one : prefix_len p (b ∷ bs) ≡ 1 + prefix_len p bs = cond-true (p b) (1 + prefix_len p bs) 0 t in
      omega (arith, cond-true (p b) (1 + prefix_len p (take (suc k) bs ++ r)) 0 t, front_again p m k bs r (omega arith) (omega arith))
  | inr f ↦ absurd (omega (arith, cond-false (p b) (1 + prefix_len p bs) 0 f))
]

-- the same without a cap
pub plain_again : (p : ℕ → Bool) (k : ℕ) (w r : List ℕ) → k ≡ prefix_len p w → k < length w → prefix_len p (take (suc k) w ++ r) ≡ k
plain_again p k [] r e lt = absurd (omega arith)
plain_again p zero (b ∷ bs) r e lt = elim (true_or_false (p b)) [
  | inl t ↦ absurd (omega (arith, cond-true (p b) (1 + prefix_len p bs) 0 t))
  | inr f ↦ omega (arith, cond-false (p b) (1 + prefix_len p (take zero bs ++ r)) 0 f)
]
plain_again p (suc k) (b ∷ bs) r e lt = elim (true_or_false (p b)) [
  | inl t ↦
      let one : prefix_len p (b ∷ bs) ≡ 1 + prefix_len p bs = cond-true (p b) (1 + prefix_len p bs) 0 t in
      omega (arith, cond-true (p b) (1 + prefix_len p (take (suc k) bs ++ r)) 0 t, plain_again p k bs r (omega arith) (omega arith))
  | inr f ↦ absurd (omega (arith, cond-false (p b) (1 + prefix_len p bs) 0 f))
]
